-- The text of a calculus is read back: its words are a phrase of the grammar of rule files, and its rules are the tree.
use Rattle.std.proofs.Common.{◌≡◌, ℕ, ◌+◌, ◌^◌, ◌<◌, ◌≤◌, false, List, [], ◌∷◌, ◌++◌, length, get_or, refl, sym, ap, subst, ◌∙◌, append_assoc, append-nil, arith, length-append}
use Rattle.std.specs.Prelude.{All, map, codes, drop, unwrap_or, ◌≢◌}
use Rattle.std.specs.List.{AllByRecursion}
use Rattle.std.proofs.lemmas.List.Elements.{All-head, All-tail}
use Rattle.std.proofs.lemmas.Option.{slice_get-get_or}
use Rattle.lgc_grammar.specs.Grammar.{Grammar, One, Nothing, Then, Either, Growing}
use Rattle.lgc_values.specs.declared.matrix.Operator.{Operator}
use Rattle.lgc_values.specs.declared.matrix.Quantifier.{Quantifier}
use Rattle.lgc_values.specs.Logic.{Logic, IsLogic, IsOperator, IsQuantifier, operator_at, quantifier_at}
use Rattle.lgc_clauses.specs.Rules.{Head, operator, quantifier, PlainRule, IsClauseOf, Fits, of_operator, of_quantifier}
use Rattle.lgc_clauses.specs.declared.rule.Rule.{Rule}
use Rattle.lgc_clauses.specs.declared.rule.Numbered.{Numbered}
use Rattle.lgc_clauses.specs.declared.rule.Rule.TheVariants as rule
use Rattle.lgc_clauses.specs.Kinds.{plain_rule}
use Rattle.lgc_print.specs.Text.{joined, calculus_text}
use Rattle.lgc_syntax.specs.declared.fault.TheConstants.{UNKNOWN_NAME, WRONG_ARITY, MISNUMBERED}
use Rattle.lgc_tokens.specs.declared.class.Class.TheVariants.{CloseSquare, Colon, Dot, OpenSquare, Slash}
use Rattle.lgc_tokens.specs.Spelled.{Spelled, spelled_all}
use Rattle.lgc_tokens.specs.Classes.{is as is_of, is_name, is_number}
use Rattle.lgc_rules.specs.Names.{operator_of, quantifier_of, names_no_operator, names_no_quantifier}
use Rattle.lgc_rules.specs.RuleGrammar.{NumberFrom, Set, Clause, QuantifierClause, Clauses, OperatorHead, QuantifierHead, Body, OfOperator, OfQuantifier, OneRule, NextRule, operator_rule, quantifier_rule}
use Rattle.lgc_rules.specs.RuleFile.{IsFileOf}
use Rattle.lgc_round_trip.specs.RoundTrip.{IsSet, HasSets, IsTextOf}
use Rattle.lgc_round_trip.proofs.Lexing.{Word, lexes_whole}
use Rattle.lgc_round_trip.proofs.Pieces.{plain, sign}
use Rattle.lgc_round_trip.proofs.Deriving.{Derives, derive_then, derive_skip, derive_nothing, derive_mapped, derive_allowed, derive_left, derive_other, derive_ended, derive_grown, derive_words, derive_tree}
use Rattle.lgc_round_trip.proofs.Printing.{numeral, symbol_word}
use Rattle.lgc_round_trip.proofs.Texts.{AreBelow, AreSetsBelow, IsHeadPrintable, IsClausePrintable, IsPrintable, ArePrintable, set_words, operator_clause_words, quantifier_clause_words, head_words, body_words, rule_words, rules_words, calculus_lexes}
use Rattle.lgc_round_trip.proofs.Classes.{is_rule, is_at, is_operator, is_quantifier, is_open_square, is_close_square, is_dot, is_colon, is_slash, numeral_passes, symbol_passes, symbol_says}
use Rattle.lgc_round_trip.proofs.Lookups.{operator_told, quantifier_told}
use Rattle.lgc_round_trip.proofs.SetPhrases.{set_below, set_derives}
use Rattle.lgc_round_trip.proofs.ClausePhrases.{number_derives, clause_derives, quantifier_clause_derives, clauses_derive}

-- what holds of each element gives something of each
each_gives : {X : Type 0} (P Q : X → Type 0) → ((x : X) → P x → Q x) → (xs : List X) → All P xs → AllByRecursion Q xs
each_gives P Q gives [] all = tt
each_gives P Q gives (x ∷ xs) all = (gives x (All-head P x xs all), each_gives P Q gives xs (All-tail P x xs all))

module _ (n : ℕ) (logic : Logic) (is : IsLogic logic) (size : length logic.names ≡ n) where
  operator_is : (op : ℕ) → op < length logic.operators → IsOperator logic.size (operator_at logic op)
  operator_is op lt =
      let d : Operator = record { name = []; arity = 0; table = [] } in
      let at : operator_at logic op ≡ get_or logic.operators op d = ap (λ o. unwrap_or o d) (slice_get-get_or logic.operators op d lt) in
      subst (λ (o : Operator). IsOperator logic.size o) (sym at) (is.operators op d lt)

  quantifier_is : (q : ℕ) → q < length logic.quantifiers → IsQuantifier logic.size (quantifier_at logic q)
  quantifier_is q lt =
      let d : Quantifier = record { name = []; table = [] } in
      let at : quantifier_at logic q ≡ get_or logic.quantifiers q d = ap (λ o. unwrap_or o d) (slice_get-get_or logic.quantifiers q d lt) in
      subst (λ (o : Quantifier). IsQuantifier logic.size o) (sym at) (is.quantifiers q d lt)

  arity_small : (op : ℕ) → op < length logic.operators → (operator_at logic op).arity < 2 ^ 32
  arity_small op lt = let narrow = (operator_is op lt).narrow in omega arith

  -- ---- heads

  operator_head_derives : (op : ℕ) → op < length logic.operators → Derives (OperatorHead logic) op (head_words logic (operator op))
  operator_head_derives op lt =
      let arity = (operator_at logic op).arity in
      let name = (operator_at logic op).name in
      derive_skip _ _ op (plain (codes "operator") false) (symbol_word name ∷ sign 47 ∷ numeral arity false ∷ []) is_operator
      (derive_then _ (λ x. Then (One (is_of Slash)) (λ _. Then (NumberFrom (operator_at logic x).arity (operator_at logic x).arity WRONG_ARITY is_number) (λ _. Nothing x))) op op (symbol_word name ∷ []) (sign 47 ∷ numeral arity false ∷ [])
      (derive_allowed (operator_of logic) is_name (names_no_operator logic) UNKNOWN_NAME op (symbol_word name) (λ t e. let (tree, known) = operator_told logic is op t lt (symbol_says name t e) in (tree, symbol_passes name t e, known)))
      (derive_skip _ _ op (sign 47) (numeral arity false ∷ []) is_slash
      (derive_then (NumberFrom arity arity WRONG_ARITY is_number) (λ _. Nothing op) arity op (numeral arity false ∷ []) [] (number_derives arity arity WRONG_ARITY arity false is_number (arity_small op lt) (omega arith) (omega arith) (numeral_passes arity false (arity_small op lt))) (derive_nothing op))))

  quantifier_head_derives : (q : ℕ) → q < length logic.quantifiers → Derives (QuantifierHead logic) q (head_words logic (quantifier q))
  quantifier_head_derives q lt =
      let name = (quantifier_at logic q).name in
      derive_skip _ _ q (plain (codes "quantifier") false) (symbol_word name ∷ []) is_quantifier
      (derive_allowed (quantifier_of logic) is_name (names_no_quantifier logic) UNKNOWN_NAME q (symbol_word name) (λ t e. let (tree, known) = quantifier_told logic is q t lt (symbol_says name t e) in (tree, symbol_passes name t e, known)))

  -- ---- rules

  -- a clause of this head, whose sets are sets of values
  abbrev IsGood : Head → List (List ℕ) → Type 0
  IsGood head sets = IsClauseOf logic head sets × All (IsSet n) sets

  both_good : (head : Head) (clauses : List (List (List ℕ))) → All (IsClauseOf logic head) clauses → All (λ s. All (IsSet n) s) clauses → AllByRecursion (IsGood head) clauses
  both_good head [] w s = tt
  both_good head (c ∷ clauses) w s = ((All-head (IsClauseOf logic head) c clauses w, All-head (λ x. All (IsSet n) x) c clauses s), both_good head clauses (All-tail (IsClauseOf logic head) c clauses w) (All-tail (λ x. All (IsSet n) x) c clauses s))

  good_sets : (sets : List (List ℕ)) → All (IsSet n) sets → AllByRecursion (IsSet n) sets
  good_sets sets are = each_gives (IsSet n) (IsSet n) (λ x h. h) sets are

  good_members : (sets : List (List ℕ)) → All (λ set. set ≢ []) sets → AllByRecursion (λ set. set ≢ []) sets
  good_members sets are = each_gives (λ set. set ≢ []) (λ set. set ≢ []) (λ x h. h) sets are

  operator_clause_good : (op : ℕ) → op < length logic.operators → (sets : List (List ℕ)) → IsGood (operator op) sets → Derives (Clause n logic (operator_at logic op).arity) sets (operator_clause_words logic.names sets)
  operator_clause_good op lt sets (count, are) = clause_derives n logic is size (operator_at logic op).arity (arity_small op lt) sets count (good_sets sets are)

  quantifier_clause_good : (q : ℕ) (sets : List (List ℕ)) → IsGood (quantifier q) sets → Derives (QuantifierClause n logic) sets (quantifier_clause_words logic.names sets)
  quantifier_clause_good q [] ((some, members), are) = absurd (omega arith)
  quantifier_clause_good q (some ∷ all) ((has, members), are) = quantifier_clause_derives n logic is size some all (good_members all members) (good_sets (some ∷ all) are)

  -- what stands in a body behind its clauses, and behind its sign
  abbrev body_end : Rule n → Grammar Spelled (Rule n)
  body_end rule = Then (One (is_of CloseSquare)) (λ _. Then (One (is_of Dot)) (λ _. Nothing rule))

  abbrev behind_sign : Grammar Spelled (List (List ℕ)) → (List ℕ → List (List (List ℕ)) → Rule n) → List ℕ → Grammar Spelled (Rule n)
  behind_sign L rule_of sign = Then (One (is_of Colon)) (λ _. Then (One (is_of OpenSquare)) (λ _. Then (Clauses L) (λ clauses. body_end (rule_of sign clauses))))

  body_derives : (L : Grammar Spelled (List (List ℕ))) (words : List (List ℕ) → List Word) (Q : List (List ℕ) → Type 0) → ((sets : List (List ℕ)) → Q sets → Derives L sets (words sets)) → (rule_of : List ℕ → List (List (List ℕ)) → Rule n) (set : List ℕ) (clauses : List (List (List ℕ))) → set ≢ [] → IsSet n set → AllByRecursion Q clauses → Derives (Body n logic L rule_of) (rule_of set clauses) (plain (codes "at") false ∷ (set_words logic.names set ++ (sign 58 ∷ sign 91 ∷ (joined (sign 59 ∷ []) (map words clauses) ++ sign 93 ∷ sign 46 ∷ []))))
  body_derives L words Q each rule_of set clauses some set-is good =
      let tree : Rule n = rule_of set clauses in
      let inside = joined (sign 59 ∷ []) (map words clauses) in
      derive_skip _ _ tree (plain (codes "at") false) (set_words logic.names set ++ (sign 58 ∷ sign 91 ∷ (inside ++ sign 93 ∷ sign 46 ∷ []))) is_at
      (derive_then (Set n logic) (behind_sign L rule_of) set tree (set_words logic.names set) (sign 58 ∷ sign 91 ∷ (inside ++ sign 93 ∷ sign 46 ∷ [])) (set_derives n logic is size set some set-is)
      (derive_skip _ _ tree (sign 58) (sign 91 ∷ (inside ++ sign 93 ∷ sign 46 ∷ [])) is_colon
      (derive_skip _ _ tree (sign 91) (inside ++ sign 93 ∷ sign 46 ∷ []) is_open_square
      (derive_then (Clauses L) (λ x. body_end (rule_of set x)) clauses tree inside (sign 93 ∷ sign 46 ∷ []) (clauses_derive L words Q each clauses good)
      (derive_skip _ _ tree (sign 93) (sign 46 ∷ []) is_close_square
      (derive_skip _ (Nothing tree) tree (sign 46) [] is_dot (derive_nothing tree)))))))

  pub of_symbol_derives : (x : Rule n) → Fits logic (plain_rule x) → HasSets n (plain_rule x) → Derives (Either (OfOperator n logic) (OfQuantifier n logic)) x (head_words logic (plain_rule x).head ++ body_words logic.names (plain_rule x))
  of_symbol_derives (rule.Operator r) fits sets =
      derive_left (OfOperator n logic) (OfQuantifier n logic) (rule.Operator r) (head_words logic (operator r.op) ++ body_words logic.names (of_operator r))
      (derive_then (OperatorHead logic) (λ op. Body n logic (Clause n logic (operator_at logic op).arity) (operator_rule n op)) r.op (rule.Operator r) (head_words logic (operator r.op)) (body_words logic.names (of_operator r)) (operator_head_derives r.op fits.known)
      (body_derives (Clause n logic (operator_at logic r.op).arity) (operator_clause_words logic.names) (IsGood (operator r.op)) (operator_clause_good r.op fits.known) (operator_rule n r.op) r.sign r.clauses sets.some sets.sign (both_good (operator r.op) r.clauses fits.formed sets.clauses)))
  of_symbol_derives (rule.Quantifier r) fits sets =
      derive_other (OfOperator n logic) (OfQuantifier n logic) (rule.Quantifier r) (head_words logic (quantifier r.quant) ++ body_words logic.names (of_quantifier r))
      (derive_then (QuantifierHead logic) (λ q. Body n logic (QuantifierClause n logic) (quantifier_rule n q)) r.quant (rule.Quantifier r) (head_words logic (quantifier r.quant)) (body_words logic.names (of_quantifier r)) (quantifier_head_derives r.quant fits.known)
      (body_derives (QuantifierClause n logic) (quantifier_clause_words logic.names) (IsGood (quantifier r.quant)) (quantifier_clause_good r.quant) (quantifier_rule n r.quant) r.sign r.clauses sets.some sets.sign (both_good (quantifier r.quant) r.clauses fits.formed sets.clauses)))

  abbrev of_symbol : Grammar Spelled (Rule n)
  of_symbol = Either (OfOperator n logic) (OfQuantifier n logic)

  abbrev numbered : ℕ → Rule n → Numbered n
  numbered k x = record { number = k; rule = x }

  rule_derives : (k : ℕ) (x : Rule n) → k < 2 ^ 32 → Fits logic (plain_rule x) → HasSets n (plain_rule x) → Derives (OneRule n logic k k) (record { number = k; rule = x }) (rule_words logic k (plain_rule x))
  rule_derives k x small fits sets =
      let tree : Numbered n = record { number = k; rule = x } in
      let words = head_words logic (plain_rule x).head ++ body_words logic.names (plain_rule x) in
      derive_skip _ _ tree (plain (codes "rule") false) (numeral k false ∷ sign 58 ∷ words) is_rule
      (derive_then (NumberFrom k k MISNUMBERED is_number) (λ m. Then (One (is_of Colon)) (λ _. Then of_symbol (λ y. Nothing (numbered m y)))) k tree (numeral k false ∷ []) (sign 58 ∷ words) (number_derives k k MISNUMBERED k false is_number small (omega arith) (omega arith) (numeral_passes k false small))
      (derive_skip _ _ tree (sign 58) words is_colon
      (derive_words _ tree (words ++ []) words (append-nil words)
      (derive_then of_symbol (λ y. Nothing (numbered k y)) x tree words [] (of_symbol_derives x fits sets) (derive_nothing tree)))))

  more_rules : (done rest : List (Rule n)) (k : ℕ) → k ≡ length done + 1 → length done + length rest < 2 ^ 32 → All (λ x. Fits logic (plain_rule x)) rest → All (λ x. HasSets n (plain_rule x)) rest → Derives (Growing (NextRule n logic) done) (done ++ rest) (rules_words logic k (map plain_rule rest))
  more_rules done [] k at few fits sets = derive_tree (Growing (NextRule n logic) done) done (done ++ []) [] (sym (append-nil done)) (derive_ended (NextRule n logic) done)
  more_rules done (x ∷ rest) k at few fits sets =
      let here : Fits logic (plain_rule x) = All-head (λ x. Fits logic (plain_rule x)) x rest fits in
      let has : HasSets n (plain_rule x) = All-head (λ x. HasSets n (plain_rule x)) x rest sets in
      let one : length (done ++ x ∷ []) ≡ length done + 1 = length-append done (x ∷ []) in
      derive_grown (NextRule n logic) done (done ++ x ∷ []) (done ++ x ∷ rest) (rule_words logic k (plain_rule x)) (rules_words logic (k + 1) (map plain_rule rest))
      (derive_mapped (λ (next : Numbered n). done ++ next.rule ∷ []) (OneRule n logic (length done + 1) (length done + 1)) (record { number = k; rule = x }) (rule_words logic k (plain_rule x))
      (subst (λ m. Derives (OneRule n logic m m) (record { number = k; rule = x }) (rule_words logic k (plain_rule x))) at (rule_derives k x (omega arith) here has)))
      (derive_tree (Growing (NextRule n logic) (done ++ x ∷ [])) ((done ++ x ∷ []) ++ rest) (done ++ x ∷ rest) _ (append_assoc done (x ∷ []) rest)
      (more_rules (done ++ x ∷ []) rest (k + 1) (omega arith) (omega arith) (All-tail (λ x. Fits logic (plain_rule x)) x rest fits) (All-tail (λ x. HasSets n (plain_rule x)) x rest sets)))

  -- ---- what printing asks for

  set_is_below : (set : List ℕ) → IsSet n set → AreBelow (length logic.names) set
  set_is_below set h = subst (λ m. AreBelow m set) (sym size) (set_below n set h)

  sets_are_below : (sets : List (List ℕ)) → All (IsSet n) sets → AreSetsBelow (length logic.names) sets
  sets_are_below sets h = each_gives (IsSet n) (AreBelow (length logic.names)) set_is_below sets h

  head_printable : (head : Head) (clauses : List (List (List ℕ))) → Fits logic (record { head = head; sign = []; clauses = clauses }) → IsHeadPrintable logic head
  head_printable (operator op) clauses fits = let o = operator_is op fits.known in (o.named, arity_small op fits.known)
  head_printable (quantifier q) clauses fits = (quantifier_is q fits.known).named

  clauses_printable : (head : Head) (clauses : List (List (List ℕ))) → Fits logic (record { head = head; sign = []; clauses = clauses }) → AllByRecursion (IsClausePrintable head) clauses
  clauses_printable (operator op) clauses fits = each_gives (IsClauseOf logic (operator op)) (IsClausePrintable (operator op)) (λ s e. let narrow = (operator_is op fits.known).narrow in omega arith) clauses fits.formed
  clauses_printable (quantifier q) clauses fits = each_gives (IsClauseOf logic (quantifier q)) (IsClausePrintable (quantifier q)) (λ s e. good_members (drop 1 s) e.1) clauses fits.formed

  pub printable : (k : ℕ) (r : PlainRule) → k < 2 ^ 32 → Fits logic r → HasSets n r → IsPrintable logic k r
  printable k r small fits sets =
      let at_no_sign : Fits logic (record { head = r.head; sign = []; clauses = r.clauses }) = record { known = fits.known; formed = fits.formed } in
      record {
        numbered = small;
        head = head_printable r.head r.clauses at_no_sign;
        some = sets.some;
        sign = set_is_below r.sign sets.sign;
        clauses = each_gives (λ s. All (IsSet n) s) (AreSetsBelow (length logic.names)) sets_are_below r.clauses sets.clauses;
        formed = clauses_printable r.head r.clauses at_no_sign;
      }

  all_printable : (rules : List (Rule n)) (k : ℕ) → k + length rules ≤ 2 ^ 32 → All (λ x. Fits logic (plain_rule x)) rules → All (λ x. HasSets n (plain_rule x)) rules → ArePrintable logic k (map plain_rule rules)
  all_printable [] k few fits sets = tt
  all_printable (x ∷ rules) k few fits sets = (
    printable k (plain_rule x) (omega arith) (All-head (λ x. Fits logic (plain_rule x)) x rules fits) (All-head (λ x. HasSets n (plain_rule x)) x rules sets),
    all_printable rules (k + 1) (omega arith) (All-tail (λ x. Fits logic (plain_rule x)) x rules fits) (All-tail (λ x. HasSets n (plain_rule x)) x rules sets),
  )

-- The text of rules for a logic is read back as these rules.
pub read_back : (n : ℕ) (logic : Logic) (rules : List (Rule n)) → IsLogic logic → logic.size ≡ n → All (λ x. Fits logic (plain_rule x)) rules → All (λ x. HasSets n (plain_rule x)) rules → length rules < 2 ^ 32 → IsTextOf n logic (calculus_text logic (map plain_rule rules)) rules
read_back n logic rules is same fits sets few =
    let size : length logic.names ≡ n = is.named ∙ same in
    let lexed = lexes_whole (calculus_text logic (map plain_rule rules)) (rules_words logic 1 (map plain_rule rules)) (calculus_lexes logic (map plain_rule rules) is.plain (all_printable n logic is size rules 1 (omega arith) fits sets)) in
    let phrase = more_rules n logic is size [] rules 1 refl (omega arith) fits sets in
    record { tokens = lexed.0; lexed = lexed.1; derived = phrase.derives (spelled_all (calculus_text logic (map plain_rule rules)) lexed.0) lexed.2 }

-- Where it isn't too long it is a rule file of these rules, which `read_rules` reads.
pub file_back : (n : ℕ) (logic : Logic) (bytes : List ℕ) (rules : List (Rule n)) → IsTextOf n logic bytes rules → length bytes ≤ 33554432 → IsFileOf n logic bytes rules
file_back n logic bytes rules is short = record { short = short; tokens = is.tokens; lexed = is.lexed; derived = is.derived }
