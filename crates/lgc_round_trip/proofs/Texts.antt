-- The words of printed sets, clauses and rules: the text of a calculus is cut into those of its rules.
use Rattle.std.proofs.Common.{◌≡◌, ◌≢◌, ℕ, ◌+◌, ◌^◌, ◌<◌, true, false, List, [], ◌∷◌, ◌++◌, length, drop, refl, sym, ap, subst, ◌∙◌, append_assoc, arith}
use Rattle.std.specs.Prelude.{All, map, codes, slice_index_or}
use Rattle.std.specs.List.{AllByRecursion}
use Rattle.std.specs.Fmt.{decimal}
use Rattle.lgc_lexer.specs.declared.token.Kind.TheVariants.{Digits}
use Rattle.lgc_values.specs.declared.matrix.Operator.{Operator}
use Rattle.lgc_values.specs.Logic.{Logic, IsPlainName, operator_at, quantifier_at}
use Rattle.lgc_clauses.specs.Rules.{Head, operator, quantifier, PlainRule}
use Rattle.lgc_print.specs.Text.{joined, value_text, set_text, literal_text, literals_from, literals_text, operator_clause_text, all_text, some_texts, parts_of, quantifier_clause_text, clause_text, clauses_text, symbol_text, head_text, rule_text, rules_text}
use Rattle.lgc_round_trip.proofs.Lexing.{Word, Lexes, lex_end}
use Rattle.lgc_round_trip.proofs.Pieces.{plain, sign, caret}
use Rattle.lgc_round_trip.proofs.Printing.{Starts, Ends, Prints, Each, weaker, prints_then, listed, value_word, value_prints, symbol_word, symbol_prints, numeral, number_prints, word_prints, caret_prints, rule_prints, operator_prints, quantifier_prints, all_prints, some_prints, colon_prints, at_prints, slash_prints, open_brace_prints, close_brace_prints, comma_prints, comma_space_prints, semicolon_prints, opens_prints, closes_prints}

-- ---- words

abbrev pub name_of : List (List ℕ) → ℕ → List ℕ
name_of names v = slice_index_or names v []

abbrev pub set_words : List (List ℕ) → List ℕ → List Word
set_words names set = sign 123 ∷ (joined (sign 44 ∷ []) (map (λ v. value_word (name_of names v) ∷ []) set) ++ sign 125 ∷ [])

abbrev pub literal_words : List (List ℕ) → ℕ → List ℕ → List Word
literal_words names number set = numeral number true ∷ caret ∷ set_words names set

abbrev pub literal_words_from : List (List ℕ) → ℕ → List (List ℕ) → List (List Word)
literal_words_from names number [] = []
literal_words_from names number ([] ∷ sets) = literal_words_from names (number + 1) sets
literal_words_from names number ((v ∷ set) ∷ sets) = literal_words names number (v ∷ set) ∷ literal_words_from names (number + 1) sets

abbrev pub zero_word : Word
zero_word = record { kind = Digits; text = codes "0"; before_caret = false }

abbrev pub literals_words : List (List Word) → List Word
literals_words [] = zero_word ∷ []
literals_words (literal ∷ literals) = joined (sign 44 ∷ []) (literal ∷ literals)

abbrev pub operator_clause_words : List (List ℕ) → List (List ℕ) → List Word
operator_clause_words names sets = literals_words (literal_words_from names 1 sets)

abbrev pub all_words : List (List ℕ) → List ℕ → List Word
all_words names set = plain (codes "all") false ∷ set_words names set

abbrev pub some_words : List (List ℕ) → List ℕ → List (List Word)
some_words names [] = []
some_words names (v ∷ set) = (plain (codes "some") false ∷ set_words names (v ∷ set)) ∷ []

abbrev pub part_words : List (List ℕ) → List (List ℕ) → List (List Word)
part_words names [] = []
part_words names (some ∷ all) = map (all_words names) all ++ some_words names some

abbrev pub quantifier_clause_words : List (List ℕ) → List (List ℕ) → List Word
quantifier_clause_words names sets = literals_words (part_words names sets)

abbrev pub clause_words : List (List ℕ) → Head → List (List ℕ) → List Word
clause_words names (operator op) = operator_clause_words names
clause_words names (quantifier q) = quantifier_clause_words names

abbrev pub clauses_words : List (List ℕ) → Head → List (List (List ℕ)) → List Word
clauses_words names head clauses = joined (sign 59 ∷ []) (map (clause_words names head) clauses)

abbrev pub head_words : Logic → Head → List Word
head_words logic (operator op) = plain (codes "operator") false ∷ symbol_word (operator_at logic op).name ∷ sign 47 ∷ numeral (operator_at logic op).arity false ∷ []
head_words logic (quantifier q) = plain (codes "quantifier") false ∷ symbol_word (quantifier_at logic q).name ∷ []

-- the words of a rule behind its head
abbrev pub body_words : List (List ℕ) → PlainRule → List Word
body_words names rule = plain (codes "at") false ∷ (set_words names rule.sign ++ (sign 58 ∷ sign 91 ∷ (clauses_words names rule.head rule.clauses ++ sign 93 ∷ sign 46 ∷ [])))

abbrev pub rule_words : Logic → ℕ → PlainRule → List Word
rule_words logic number rule = plain (codes "rule") false ∷ numeral number false ∷ sign 58 ∷ (head_words logic rule.head ++ body_words logic.names rule)

abbrev pub rules_words : Logic → ℕ → List PlainRule → List Word
rules_words logic number [] = []
rules_words logic number (rule ∷ rules) = rule_words logic number rule ++ rules_words logic (number + 1) rules

-- ---- what is asked of sets, clauses and rules

-- each member is below n
abbrev pub AreBelow : ℕ → List ℕ → Type 0
AreBelow n set = AllByRecursion (λ v. v < n) set

-- each member of each set is below n
abbrev pub AreSetsBelow : ℕ → List (List ℕ) → Type 0
AreSetsBelow n sets = AllByRecursion (AreBelow n) sets

-- the names and the numbers of a head can be printed
abbrev pub IsHeadPrintable : Logic → Head → Type 0
IsHeadPrintable logic (operator op) = IsPlainName (operator_at logic op).name × ((operator_at logic op).arity < 2 ^ 32)
IsHeadPrintable logic (quantifier q) = IsPlainName (quantifier_at logic q).name

-- the numbers of literals are small, and `all` sets have members
abbrev pub IsClausePrintable : Head → List (List ℕ) → Type 0
IsClausePrintable (operator op) sets = 1 + length sets < 2 ^ 32
IsClausePrintable (quantifier q) sets = AllByRecursion (λ set. set ≢ []) (drop 1 sets)

-- a rule can be printed with this number
pub record IsPrintable (logic : Logic) (number : ℕ) (rule : PlainRule) : Type 0 where
  pub numbered : number < 2 ^ 32
  pub head : IsHeadPrintable logic rule.head
  pub some : rule.sign ≢ []
  pub sign : AreBelow (length logic.names) rule.sign
  pub clauses : AllByRecursion (AreSetsBelow (length logic.names)) rule.clauses
  pub formed : AllByRecursion (IsClausePrintable rule.head) rule.clauses

abbrev pub ArePrintable : Logic → ℕ → List PlainRule → Type 0
ArePrintable logic number [] = Unit {0}
ArePrintable logic number (rule ∷ rules) = IsPrintable logic number rule × ArePrintable logic (number + 1) rules

-- ---- sets

comma_ends : (rest : List ℕ) (more : List Word) → Ends (44 ∷ rest) (sign 44 ∷ more)
comma_ends rest more = record { starts = record { symbol = refl; caret = refl }; word = refl }

module _ (names : List (List ℕ)) (plain_names : All IsPlainName names) where
  values_print : (set : List ℕ) → AreBelow (length names) set → Each Ends (map (λ v. value_text (name_of names v)) set) (map (λ v. value_word (name_of names v) ∷ []) set)
  values_print [] below = tt
  values_print (v ∷ set) below = (value_prints (name_of names v) (plain_names v [] (below.0)), values_print set below.1)

  pub set_prints : (set : List ℕ) → set ≢ [] → AreBelow (length names) set → Prints Starts (set_text names set) (set_words names set)
  set_prints [] some below = absurd (some refl)
  set_prints (v ∷ set) some below =
      prints_then Starts Starts _ _ _ _ open_brace_prints
      (prints_then Ends Starts _ _ _ _ inside close_brace_prints (λ rest more. record { starts = record { symbol = refl; caret = refl }; word = refl }))
      (λ rest more. (prints_then Ends Starts _ _ _ _ inside close_brace_prints (λ rest more. record { starts = record { symbol = refl; caret = refl }; word = refl })).starts rest more)
    where
      inside : Prints Ends (joined (codes ",") (map (λ v. value_text (name_of names v)) (v ∷ set))) (joined (sign 44 ∷ []) (map (λ v. value_word (name_of names v) ∷ []) (v ∷ set)))
      inside = listed Ends (codes ",") (sign 44 ∷ []) comma_prints (λ rest more. comma_ends rest more) _ _ _ _ (values_print (v ∷ set) below)

  -- ---- clauses

  literal_prints : (number : ℕ) (set : List ℕ) → number < 2 ^ 32 → set ≢ [] → AreBelow (length names) set → Prints Starts (literal_text names number set) (literal_words names number set)
  unfolding literal_text
  literal_prints number set small some below =
      prints_then Starts Starts (decimal number ++ codes "^") (set_text names set) (numeral number true ∷ caret ∷ []) (set_words names set) (caret_prints number small) (set_prints set some below) (λ rest more. (set_prints set some below).starts rest more)

  literals_print : (number : ℕ) (sets : List (List ℕ)) → number + length sets < 2 ^ 32 → AreSetsBelow (length names) sets → Each Starts (literals_from names number sets) (literal_words_from names number sets)
  literals_print number [] few below = tt
  literals_print number ([] ∷ sets) few below = literals_print (number + 1) sets (omega arith) below.1
  literals_print number ((v ∷ set) ∷ sets) few below = (literal_prints number (v ∷ set) (omega arith) (λ e. absurd cc) below.0, literals_print (number + 1) sets (omega arith) below.1)

  zero_prints : Prints Ends (codes "0") (zero_word ∷ [])
  zero_prints = word_prints (codes "0") (λ e. absurd cc) refl

  some_literals : (texts : List (List ℕ)) (words : List (List Word)) → Each Starts texts words → Prints Ends (literals_text texts) (literals_words words)
  some_literals [] [] each = zero_prints
  some_literals [] (w ∷ words) each = absurd each
  some_literals (t ∷ texts) [] each = absurd each
  some_literals (t ∷ texts) (w ∷ words) each = weaker _ _ (listed Starts (codes ", ") (sign 44 ∷ []) comma_space_prints (λ rest more. record { symbol = refl; caret = refl }) t texts w words each)

  operator_clause_prints : (sets : List (List ℕ)) → 1 + length sets < 2 ^ 32 → AreSetsBelow (length names) sets → Prints Ends (operator_clause_text names sets) (operator_clause_words names sets)
  unfolding operator_clause_text
  operator_clause_prints sets few below = some_literals (literals_from names 1 sets) (literal_words_from names 1 sets) (literals_print 1 sets few below)

  all_set_prints : (set : List ℕ) → set ≢ [] → AreBelow (length names) set → Prints Starts (all_text names set) (all_words names set)
  unfolding all_text
  all_set_prints set some below = prints_then Ends Starts (codes "all") (set_text names set) _ (set_words names set) all_prints (set_prints set some below) (λ rest more. record { starts = record { symbol = refl; caret = refl }; word = refl })

  some_set_prints : (set : List ℕ) → set ≢ [] → AreBelow (length names) set → Prints Starts (codes "some" ++ set_text names set) (plain (codes "some") false ∷ set_words names set)
  some_set_prints set some below = prints_then Ends Starts (codes "some") (set_text names set) _ (set_words names set) some_prints (set_prints set some below) (λ rest more. record { starts = record { symbol = refl; caret = refl }; word = refl })

  last_prints : (some : List ℕ) → AreBelow (length names) some → Each Starts (some_texts names some) (some_words names some)
  last_prints [] below = tt
  last_prints (v ∷ set) below = (some_set_prints (v ∷ set) (λ e. absurd cc) below, tt)

  parts_print : (some : List ℕ) (all : List (List ℕ)) → AreBelow (length names) some → AllByRecursion (λ set. set ≢ []) all → AreSetsBelow (length names) all → Each Starts (map (all_text names) all ++ some_texts names some) (map (all_words names) all ++ some_words names some)
  parts_print some [] below members others = last_prints some below
  parts_print some (set ∷ all) below members others = (all_set_prints set members.0 others.0, parts_print some all below members.1 others.1)

  quantifier_clause_prints : (sets : List (List ℕ)) → AllByRecursion (λ set. set ≢ []) (drop 1 sets) → AreSetsBelow (length names) sets → Prints Ends (quantifier_clause_text names sets) (quantifier_clause_words names sets)
  unfolding quantifier_clause_text
  quantifier_clause_prints [] members below = some_literals [] [] tt
  quantifier_clause_prints (some ∷ all) members below = some_literals (parts_of names (some ∷ all)) (part_words names (some ∷ all)) (parts_print some all below.0 members below.1)

  clause_prints : (head : Head) (sets : List (List ℕ)) → IsClausePrintable head sets → AreSetsBelow (length names) sets → Prints Ends (clause_text names head sets) (clause_words names head sets)
  clause_prints (operator op) sets formed below = operator_clause_prints sets formed below
  clause_prints (quantifier q) sets formed below = quantifier_clause_prints sets formed below

  clauses_print : (head : Head) (clauses : List (List (List ℕ))) → AllByRecursion (IsClausePrintable head) clauses → AllByRecursion (AreSetsBelow (length names)) clauses → Each Ends (map (clause_text names head) clauses) (map (clause_words names head) clauses)
  clauses_print head [] formed below = tt
  clauses_print head (sets ∷ clauses) formed below = (clause_prints head sets formed.0 below.0, clauses_print head clauses formed.1 below.1)

  -- the clauses and what closes the rule
  end_prints : (head : Head) (clauses : List (List (List ℕ))) → AllByRecursion (IsClausePrintable head) clauses → AllByRecursion (AreSetsBelow (length names)) clauses → Prints Starts (joined (codes "; ") (map (clause_text names head) clauses) ++ codes "].\n") (clauses_words names head clauses ++ sign 93 ∷ sign 46 ∷ [])
  end_prints head [] formed below = closes_prints
  end_prints head (sets ∷ clauses) formed below =
      prints_then Ends Starts _ _ _ _
      (listed Ends (codes "; ") (sign 59 ∷ []) semicolon_prints (λ rest more. record { starts = record { symbol = refl; caret = refl }; word = refl }) _ _ _ _ (clauses_print head (sets ∷ clauses) formed below))
      closes_prints
      (λ rest more. record { starts = record { symbol = refl; caret = refl }; word = refl })

-- ---- rules

-- an own lemma where nothing is asked of what follows but that the next text starts so
on : (a b : List ℕ) (v w : List Word) → Prints Starts a v → Prints Starts b w → Prints Starts (a ++ b) (v ++ w)
on a b v w p q = prints_then Starts Starts a b v w p q (λ rest more. q.starts rest more)

head_prints : (logic : Logic) (head : Head) → IsHeadPrintable logic head → Prints Ends (head_text logic head) (head_words logic head)
unfolding head_text
head_prints logic (operator op) (named, narrow) =
    let o : Operator = operator_at logic op in
    let with_name = prints_then Starts Ends (codes "operator ") (symbol_text o.name) _ _ operator_prints (symbol_prints o.name named) (symbol_prints o.name named).starts in
    let with_slash = prints_then Ends Starts (codes "operator " ++ symbol_text o.name) (codes "/") _ _ with_name slash_prints (λ rest more. record { starts = record { symbol = refl; caret = refl }; word = refl }) in
    prints_then Starts Ends ((codes "operator " ++ symbol_text o.name) ++ codes "/") (decimal o.arity) _ _ with_slash (number_prints o.arity narrow) (number_prints o.arity narrow).starts
head_prints logic (quantifier q) named =
    let name = (quantifier_at logic q).name in
    prints_then Starts Ends (codes "quantifier ") (symbol_text name) _ _ quantifier_prints (symbol_prints name named) (symbol_prints name named).starts

regroup : (a b c d e f g h i : List ℕ) → a ++ (b ++ (c ++ (d ++ (e ++ (f ++ (g ++ (h ++ i))))))) ≡ (((((((a ++ b) ++ c) ++ d) ++ e) ++ f) ++ g) ++ h) ++ i
regroup a b c d e f g h i = simp append_assoc

-- the clauses in their brackets, and the end of the rule
closed : (clauses : List ℕ) → codes ": [" ++ (clauses ++ codes "].\n") ≡ codes ": " ++ (((codes "[" ++ clauses) ++ codes "]") ++ codes ".\n")
closed clauses = ap (λ t. codes ": [" ++ t) (sym (append_assoc clauses (codes "]") (codes ".\n")))

pub rule_prints_as : (logic : Logic) (number : ℕ) (rule : PlainRule) → All IsPlainName logic.names → IsPrintable logic number rule → Prints Starts (rule_text logic number rule) (rule_words logic number rule)
unfolding rule_text clauses_text
rule_prints_as logic number rule plain_names p =
    subst (λ t. Prints Starts t (rule_words logic number rule))
    (ap (λ t. codes "rule " ++ (decimal number ++ (codes ": " ++ (head_text logic rule.head ++ (codes " at " ++ (set_text logic.names rule.sign ++ t)))))) (closed clauses)
    ∙ regroup (codes "rule ") (decimal number) (codes ": ") (head_text logic rule.head) (codes " at ") (set_text logic.names rule.sign) (codes ": ") ((codes "[" ++ clauses) ++ codes "]") (codes ".\n"))
    (on (codes "rule ") _ _ _ rule_prints
    (prints_then Ends Starts (decimal number) _ (numeral number false ∷ []) _ (number_prints number p.numbered)
    (on (codes ": ") _ _ _ colon_prints with_head)
    (λ rest more. record { starts = record { symbol = refl; caret = refl }; word = refl })))
  where
    clauses : List ℕ
    clauses = joined (codes "; ") (map (clause_text logic.names rule.head) rule.clauses)

    with_head : Prints Starts (head_text logic rule.head ++ (codes " at " ++ (set_text logic.names rule.sign ++ (codes ": [" ++ (clauses ++ codes "].\n"))))) (head_words logic rule.head ++ body_words logic.names rule)
    with_head =
        prints_then Ends Starts _ _ _ _ (head_prints logic rule.head p.head)
        (on (codes " at ") _ _ _ at_prints
        (on _ _ _ _ (set_prints logic.names plain_names rule.sign p.some p.sign)
        (on (codes ": [") _ _ _ opens_prints (end_prints logic.names plain_names rule.head rule.clauses p.formed p.clauses))))
        (λ rest more. record { starts = record { symbol = refl; caret = refl }; word = refl })

rules_lex : (logic : Logic) (number : ℕ) (rules : List PlainRule) → All IsPlainName logic.names → ArePrintable logic number rules → Lexes (rules_text logic number rules) (rules_words logic number rules) × Starts (rules_text logic number rules) (rules_words logic number rules)
rules_lex logic number [] plain_names p = (lex_end, record { symbol = tt; caret = refl })
rules_lex logic number (rule ∷ rules) plain_names p =
    let others = rules_lex logic (number + 1) rules plain_names p.1 in
    let here = rule_prints_as logic number rule plain_names p.0 in
    (here.lexes (rules_text logic (number + 1) rules) (rules_words logic (number + 1) rules) others.1 others.0, here.starts (rules_text logic (number + 1) rules) (rules_words logic (number + 1) rules))

-- The text of printable rules has tokens of these words.
pub calculus_lexes : (logic : Logic) (rules : List PlainRule) → All IsPlainName logic.names → ArePrintable logic 1 rules → Lexes (rules_text logic 1 rules) (rules_words logic 1 rules)
calculus_lexes logic rules plain_names p = (rules_lex logic 1 rules plain_names p).0
