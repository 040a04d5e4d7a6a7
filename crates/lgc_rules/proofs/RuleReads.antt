-- The readers of rules read their grammar.
use Rattle.std.proofs.Common.{◌≡◌, ℕ, ◌+◌, ◌-◌, Bool, true, false, List, [], ◌∷◌, ◌++◌, length, Result, Ok, Err, refl, ap, inl, inr}
use Rattle.std.specs.Prelude.{◌||◌, drop}
use Rattle.lgc_grammar.specs.Grammar.{fault_if, Grammar, Language, Mapped, Then, Either, One, Allowed, PlainOne, PlainThen, PlainEither, PlainMany, Growing}
use Rattle.lgc_grammar.specs.Reading.{Reader, next_is, Turn, onward, last}
use Rattle.lgc_grammar.proofs.Readers.{Reads, Must, May, Follows, never, or_right, next_apart, same_reads}
use Rattle.lgc_grammar.proofs.Basic.{nothing_reads, map_reads}
use Rattle.lgc_grammar.proofs.Sequences.{then_reads, then_reads_if}
use Rattle.lgc_grammar.proofs.Choices.{either_reads, optional_reads}
use Rattle.lgc_values.specs.Logic.{Logic, operator_at}
use Rattle.lgc_clauses.specs.declared.rule.Rule.{Rule}
use Rattle.lgc_clauses.specs.declared.rule.Numbered.{Numbered}
use Rattle.lgc_syntax.specs.declared.fault.TheConstants.{UNKNOWN_NAME, WRONG_ARITY, UNKNOWN_VALUE, BAD_ARGUMENT, MISNUMBERED}
use Rattle.lgc_tokens.specs.declared.class.Class.TheVariants.{RuleWord, AtWord, OperatorWord, QuantifierWord, AllWord, SomeWord, Zero, Caret, OpenBrace, CloseBrace, OpenSquare, CloseSquare, Comma, Dot, Colon, Semicolon, Slash}
use Rattle.lgc_tokens.specs.declared.class.Class.{Class}
use Rattle.lgc_tokens.specs.declared.terminal.Terminal.{Terminal}
use Rattle.lgc_tokens.specs.declared.terminal.Terminal.TheVariants as terminal
use Rattle.lgc_tokens.specs.Spelled.{Spelled}
use Rattle.lgc_tokens.specs.Classes.{same, arguments, numbers, zeros, quantifier_clauses, is, is_a, is_name, is_number, is_argument, is_zero, is_value, starts_quantifier_clause}
use Rattle.lgc_rules.specs.Names.{value_of, operator_of, quantifier_of, number, names_no_value, names_no_operator, names_no_quantifier, is_outside, with_value, padded}
use Rattle.lgc_rules.specs.RuleGrammar.{NumberFrom, Value, NextValue, Set, Literal, NextLiteral, Literals, EmptyClause, Clause, SetBehind, NextAll, LastSome, MoreSets, AllSets, SomeAlone, NoSets, QuantifierClause, NextClause, Clauses, OperatorHead, QuantifierHead, Body, OfOperator, OfQuantifier, OneRule, NextRule, Rules, operator_rule, quantifier_rule}
use Rattle.lgc_rules.specs.PlainGrammar.{PlainNextValue, PlainSet, PlainLiteral, PlainLiterals, PlainClause, PlainNextAll, PlainLastSome, PlainMoreSets, PlainQuantifierClause, PlainClauses, PlainOperatorHead, PlainQuantifierHead, PlainBody, PlainRule, PlainRules, ◌then◌}
use Rattle.lgc_rules.specs.RuleReading.{number_at, value_at, next_value_at, more_values_at, set_at, literal_at, next_literal_at, more_literals_at, literals_at, empty_clause_at, clause_at, set_behind_at, next_set_at, more_sets_at, all_sets_at, some_alone_at, no_sets_at, quantifier_clause_at, next_clause_at, more_clauses_at, some_clauses_at, clauses_at, operator_name_at, operator_head_at, quantifier_name_at, quantifier_head_at, body_at, of_operator_at, of_quantifier_at, of_symbol_at, rule_at, next_rule_at, rules_at}
use Rattle.lgc_tokens.proofs.Tables.{off, one, one_of, allowed}
use Rattle.lgc_grammar.proofs.GrowingTrees.{growing_reads}
use Rattle.lgc_grammar.proofs.EndingTurns.{Turned, ending_reads}

-- a repetition behind what it goes on from: what follows both is one more, or what follows all
grows_on : {T : Type 0} (first go : T → Bool) → ((t : T) → first t ≡ true → go t ≡ false) → Follows (May first) (λ t. first t || go t) go
grows_on first go apart = (apart, (λ t h. or_right (first t) (go t) h))

pub number_reads : (least most fault : ℕ) (test : Terminal) → Reads (number_at least most fault test) (NumberFrom least most fault (is_a test)) (PlainOne (is_a test)) (Must (is_a test)) never
unfolding number_at
number_reads least most fault test = map_reads number (allowed test (λ t. fault_if (is_outside least most t) fault))

-- ---- sets

pub value_reads : (logic : Logic) → Reads (value_at logic) (Value logic) (PlainOne is_value) (Must is_value) never
unfolding value_at
value_reads logic = map_reads (value_of logic) (allowed terminal.Value (λ t. fault_if (names_no_value logic t) UNKNOWN_VALUE))

pub next_value_reads : (n : ℕ) (logic : Logic) (set : List ℕ) → Reads (next_value_at n logic set) (NextValue n logic set) PlainNextValue (Must (is Comma)) never
next_value_reads n logic set =
    then_reads (one Comma) (λ _.
    then_reads (value_reads logic) (λ value.
    nothing_reads (with_value n set value) never))

pub set_reads : (n : ℕ) (logic : Logic) → Reads (set_at n logic) (Set n logic) PlainSet (Must (is OpenBrace)) never
unfolding set_at more_values_at
set_reads n logic =
    then_reads (one OpenBrace) (λ _.
    then_reads (value_reads logic) (λ value.
    then_reads_if (growing_reads (next_value_reads n logic) (λ t h. refl) (value ∷ [])) (λ set.
    then_reads (one CloseBrace) (λ _.
    nothing_reads set never))
    (off (same CloseBrace) (λ c. same Comma c || false) refl)))

-- ---- clauses of an operator

literal_reads : (n : ℕ) (logic : Logic) (arity : ℕ) (test : Terminal) (sets : List (List ℕ)) → Reads (literal_at n logic arity test sets) (Literal n logic arity (is_a test) sets) (PlainLiteral (is_a test)) (Must (is_a test)) never
unfolding literal_at
literal_reads n logic arity test sets =
    then_reads (number_reads (length sets + 1) arity BAD_ARGUMENT test) (λ argument.
    then_reads (one Caret) (λ _.
    then_reads (set_reads n logic) (λ set.
    nothing_reads (padded (argument - 1) sets ++ set ∷ []) never)))

pub next_literal_reads : (n : ℕ) (logic : Logic) (arity : ℕ) (sets : List (List ℕ)) → Reads (next_literal_at n logic arity sets) (NextLiteral n logic arity sets) (Comma then PlainLiteral is_number) (Must (is Comma)) never
next_literal_reads n logic arity sets = then_reads (one Comma) (λ _. literal_reads n logic arity terminal.Number sets)

literals_read : (n : ℕ) (logic : Logic) (arity : ℕ) → Reads (literals_at n logic arity) (Literals n logic arity) PlainLiterals (Must is_argument) (λ t. is Comma t || never t)
unfolding literals_at more_literals_at
literals_read n logic arity =
    map_reads (padded arity)
    (then_reads (literal_reads n logic arity terminal.Argument []) (λ sets.
    growing_reads (next_literal_reads n logic arity) (λ t h. refl) sets))

empty_clause_reads : (arity : ℕ) → Reads (empty_clause_at arity) (EmptyClause arity) (PlainOne (is Zero)) (Must (is Zero)) never
unfolding empty_clause_at
empty_clause_reads arity = map_reads (λ _. padded arity []) (one Zero)

-- what follows a clause may be one more literal
abbrev goes_on : Spelled → Bool
goes_on t = never t || (is Comma t || never t)

pub clause_reads : (n : ℕ) (logic : Logic) (arity : ℕ) → Reads (clause_at n logic arity) (Clause n logic arity) PlainClause (Must is_number) goes_on
unfolding clause_at
clause_reads n logic arity = either_reads (empty_clause_reads arity) (literals_read n logic arity) (off arguments (same Zero) refl)

pub no_literal : (t : Spelled) → is Semicolon t ≡ true → goes_on t ≡ false
no_literal = off (same Semicolon) (λ c. false || (same Comma c || false)) refl

-- ---- clauses of a quantifier

set_behind_reads : (word : Class) (n : ℕ) (logic : Logic) → Reads (set_behind_at word n logic) (SetBehind word n logic) (word then PlainSet) (Must (is word)) never
unfolding set_behind_at
set_behind_reads word n logic = then_reads (one word) (λ _. set_reads n logic)

module _ (n : ℕ) (logic : Logic) (all : List (List ℕ)) where
  -- the same, told apart behind the comma
  CommaSet : Grammar Spelled (Turn (List (List ℕ)) (List (List ℕ)))
  CommaSet = Then (One (is Comma)) (λ _. Either (Mapped (λ set. onward (all ++ set ∷ [])) (SetBehind AllWord n logic)) (Mapped (λ some. last (some ∷ all)) (SetBehind SomeWord n logic)))

  PlainCommaSet : Language Spelled
  PlainCommaSet = Comma then PlainEither (AllWord then PlainSet) (SomeWord then PlainSet)

  comma_set_reads : Reads (next_set_at n logic all) CommaSet PlainCommaSet (Must (is Comma)) never
  unfolding CommaSet PlainCommaSet
  comma_set_reads =
      then_reads (one Comma) (λ _.
      either_reads (map_reads (λ set. onward (all ++ set ∷ [])) (set_behind_reads AllWord n logic)) (map_reads (λ some. last (some ∷ all)) (set_behind_reads SomeWord n logic)) (off (same SomeWord) (same AllWord) refl))

  to_turn : (r : Result (Turn (List (List ℕ)) (List (List ℕ))) ℕ) (ts : List Spelled) → CommaSet r ts → Turned (NextAll n logic all) (LastSome n logic all) r ts
  unfolding CommaSet
  to_turn (Ok x) ts (t, v, w, o, inl (set, is, f), s) = rw is (t, v, w, o, (set, refl, f), s)
  to_turn (Ok x) ts (t, v, w, o, inr (some, is, f), s) = rw is (t, v, w, o, (some, refl, f), s)
  to_turn (Err k) ts (inl h) = absurd h
  to_turn (Err k) ts (inr (t, v, w, o, inl f, s)) = inl (inr (t, v, w, o, f, s))
  to_turn (Err k) ts (inr (t, v, w, o, inr f, s)) = inr (inr (t, v, w, o, f, s))

  from_turn : (r : Result (Turn (List (List ℕ)) (List (List ℕ))) ℕ) (ts : List Spelled) → Turned (NextAll n logic all) (LastSome n logic all) r ts → CommaSet r ts
  unfolding CommaSet
  from_turn (Ok (onward a)) ts (t, v, w, o, (set, is, f), s) = (t, v, w, o, inl (set, ap onward is, f), s)
  from_turn (Ok (last c)) ts (t, v, w, o, (some, is, f), s) = (t, v, w, o, inr (some, ap last is, f), s)
  from_turn (Err k) ts (inl (inl h)) = absurd h
  from_turn (Err k) ts (inl (inr (t, v, w, o, f, s))) = inr (t, v, w, o, inl f, s)
  from_turn (Err k) ts (inr (inl h)) = absurd h
  from_turn (Err k) ts (inr (inr (t, v, w, o, f, s))) = inr (t, v, w, o, inr f, s)

  to_plain : (ts : List Spelled) → PlainCommaSet ts → PlainEither PlainNextAll PlainLastSome ts
  unfolding PlainCommaSet
  to_plain ts (v, w, o, inl f, s) = inl (v, w, o, f, s)
  to_plain ts (v, w, o, inr f, s) = inr (v, w, o, f, s)

  from_plain : (ts : List Spelled) → PlainEither PlainNextAll PlainLastSome ts → PlainCommaSet ts
  unfolding PlainCommaSet
  from_plain ts (inl (v, w, o, f, s)) = (v, w, o, inl f, s)
  from_plain ts (inr (v, w, o, f, s)) = (v, w, o, inr f, s)

  pub next_set_reads : Reads (next_set_at n logic all) (Turned (NextAll n logic all) (LastSome n logic all)) (PlainEither PlainNextAll PlainLastSome) (Must (is Comma)) never
  next_set_reads = same_reads comma_set_reads to_turn from_turn to_plain from_plain

  next_all_plain : (b : List (List ℕ)) (v : List Spelled) → NextAll n logic all (Ok b) v → PlainNextAll v
  next_all_plain b v (t, x, w, o, (set, is, f), s) = (x, w, (t, o), (set_behind_reads AllWord n logic).is_plain set w f, s)

  last_some_plain : (c : List (List ℕ)) (v : List Spelled) → LastSome n logic all (Ok c) v → PlainLastSome v
  last_some_plain c v (t, x, w, o, (some, is, f), s) = (x, w, (t, o), (set_behind_reads SomeWord n logic).is_plain some w f, s)

-- the word behind the comma
word_behind : (word : Class) (v : List Spelled) → (Comma then word then PlainSet) v → next_is (is word) (drop 1 v) ≡ true
word_behind word v (x, w, (t, (is, one)), (y, u, (s, (named, this)), f, g), split) = rw (split, one, g, this) named

two_words : (v : List Spelled) → PlainNextAll v → PlainLastSome v → ⊥
two_words v f g =
    let all = word_behind AllWord v f in
    let some = word_behind SomeWord v g in
    let no = next_apart (is AllWord) (is SomeWord) (off (same AllWord) (same SomeWord) refl) (drop 1 v) all in
    cc

pub more_sets_read : (n : ℕ) (logic : Logic) (all : List (List ℕ)) → Reads (more_sets_at n logic all) (MoreSets n logic all) PlainMoreSets (May (is Comma)) (λ t. is Comma t || never t)
unfolding more_sets_at
more_sets_read n logic all = ending_reads (λ sets. [] ∷ sets) (NextAll n logic) (LastSome n logic) (next_set_reads n logic) (next_all_plain n logic) (last_some_plain n logic) two_words (λ t h. refl) all

all_sets_read : (n : ℕ) (logic : Logic) → Reads (all_sets_at n logic) (AllSets n logic) (PlainThen (AllWord then PlainSet) PlainMoreSets) (Must (is AllWord)) (λ t. is Comma t || never t)
unfolding all_sets_at
all_sets_read n logic = then_reads (set_behind_reads AllWord n logic) (λ set. more_sets_read n logic (set ∷ []))

some_alone_reads : (n : ℕ) (logic : Logic) → Reads (some_alone_at n logic) (SomeAlone n logic) (SomeWord then PlainSet) (Must (is SomeWord)) never
unfolding some_alone_at
some_alone_reads n logic = map_reads (λ some. some ∷ []) (set_behind_reads SomeWord n logic)

no_sets_read : Reads no_sets_at NoSets (PlainOne is_zero) (Must is_zero) never
unfolding no_sets_at
no_sets_read = map_reads (λ _. [] ∷ []) (one_of terminal.Zero)

-- what follows a clause may be one more set
abbrev has_more : Spelled → Bool
has_more t = never t || ((is Comma t || never t) || never t)

pub quantifier_clause_reads : (n : ℕ) (logic : Logic) → Reads (quantifier_clause_at n logic) (QuantifierClause n logic) PlainQuantifierClause (Must starts_quantifier_clause) has_more
unfolding quantifier_clause_at
quantifier_clause_reads n logic =
    either_reads no_sets_read
    (either_reads (all_sets_read n logic) (some_alone_reads n logic) (off (same SomeWord) (same AllWord) refl))
    (off (λ c. same AllWord c || same SomeWord c) zeros refl)

pub no_set : (t : Spelled) → is Semicolon t ≡ true → has_more t ≡ false
no_set = off (same Semicolon) (λ c. false || ((same Comma c || false) || false)) refl

-- ---- lists of clauses

module _ {p : Reader Spelled (List (List ℕ))} {L : Grammar Spelled (List (List ℕ))} {P : Language Spelled} {first go : Spelled → Bool} (reads : Reads p L P (Must first) go) where
  pub next_clause_reads : (clauses : List (List (List ℕ))) → Reads (next_clause_at p clauses) (NextClause L clauses) (Semicolon then P) (Must (is Semicolon)) go
  next_clause_reads clauses = then_reads (one Semicolon) (λ _. map_reads (λ clause. clauses ++ clause ∷ []) reads)

  module _ (ends : (t : Spelled) → is Semicolon t ≡ true → go t ≡ false) where
    some_clauses_read : Reads (some_clauses_at p) (Then L (λ clause. Growing (NextClause L) (clause ∷ []))) (PlainThen P (PlainMany (Semicolon then P))) (Must first) (λ t. is Semicolon t || go t)
    unfolding some_clauses_at more_clauses_at
    some_clauses_read =
        then_reads_if reads (λ clause.
        growing_reads next_clause_reads ends (clause ∷ []))
        (grows_on (is Semicolon) go ends)

    pub clauses_read : Reads (clauses_at first p) (Clauses L) (PlainClauses P) (May first) (λ t. first t || (is Semicolon t || go t))
    unfolding clauses_at
    clauses_read = optional_reads [] some_clauses_read

    pub body_reads : (n : ℕ) (logic : Logic) (rule_of : List ℕ → List (List (List ℕ)) → Rule n) → ((t : Spelled) → is CloseSquare t ≡ true → (first t || (is Semicolon t || go t)) ≡ false) → Reads (body_at n logic first p rule_of) (Body n logic L rule_of) (PlainBody P) (Must (is AtWord)) never
    body_reads n logic rule_of closes =
        then_reads (one AtWord) (λ _.
        then_reads (set_reads n logic) (λ sign.
        then_reads (one Colon) (λ _.
        then_reads (one OpenSquare) (λ _.
        then_reads_if clauses_read (λ clauses.
        then_reads (one CloseSquare) (λ _.
        then_reads (one Dot) (λ _.
        nothing_reads (rule_of sign clauses) never)))
        closes))))

-- ---- rules

operator_name_reads : (logic : Logic) → Reads (operator_name_at logic) (Mapped (operator_of logic) (Allowed is_name (λ t. fault_if (names_no_operator logic t) UNKNOWN_NAME))) (PlainOne is_name) (Must is_name) never
unfolding operator_name_at
operator_name_reads logic = map_reads (operator_of logic) (allowed terminal.Name (λ t. fault_if (names_no_operator logic t) UNKNOWN_NAME))

operator_head_reads : (logic : Logic) → Reads (operator_head_at logic) (OperatorHead logic) PlainOperatorHead (Must (is OperatorWord)) never
unfolding operator_head_at
operator_head_reads logic =
    then_reads (one OperatorWord) (λ _.
    then_reads (operator_name_reads logic) (λ op.
    then_reads (one Slash) (λ _.
    then_reads (number_reads (operator_at logic op).arity (operator_at logic op).arity WRONG_ARITY terminal.Number) (λ _.
    nothing_reads op never))))

quantifier_head_reads : (logic : Logic) → Reads (quantifier_head_at logic) (QuantifierHead logic) PlainQuantifierHead (Must (is QuantifierWord)) never
unfolding quantifier_head_at quantifier_name_at
quantifier_head_reads logic =
    then_reads (one QuantifierWord) (λ _.
    map_reads (quantifier_of logic) (allowed terminal.Name (λ t. fault_if (names_no_quantifier logic t) UNKNOWN_NAME)))

of_operator_reads : (n : ℕ) (logic : Logic) → Reads (of_operator_at n logic) (OfOperator n logic) (PlainThen PlainOperatorHead (PlainBody PlainClause)) (Must (is OperatorWord)) never
unfolding of_operator_at
of_operator_reads n logic =
    then_reads (operator_head_reads logic) (λ op.
    body_reads (clause_reads n logic (operator_at logic op).arity) no_literal n logic (operator_rule n op)
    (off (same CloseSquare) (λ c. numbers c || (same Semicolon c || (false || (same Comma c || false)))) refl))

of_quantifier_reads : (n : ℕ) (logic : Logic) → Reads (of_quantifier_at n logic) (OfQuantifier n logic) (PlainThen PlainQuantifierHead (PlainBody PlainQuantifierClause)) (Must (is QuantifierWord)) never
unfolding of_quantifier_at
of_quantifier_reads n logic =
    then_reads (quantifier_head_reads logic) (λ quant.
    body_reads (quantifier_clause_reads n logic) no_set n logic (quantifier_rule n quant)
    (off (same CloseSquare) (λ c. quantifier_clauses c || (same Semicolon c || (false || ((same Comma c || false) || false)))) refl))

of_symbol_reads : (n : ℕ) (logic : Logic) → Reads (of_symbol_at n logic) (Either (OfOperator n logic) (OfQuantifier n logic)) (PlainEither (PlainThen PlainOperatorHead (PlainBody PlainClause)) (PlainThen PlainQuantifierHead (PlainBody PlainQuantifierClause))) (Must (λ t. is OperatorWord t || is QuantifierWord t)) never
unfolding of_symbol_at
of_symbol_reads n logic = either_reads (of_operator_reads n logic) (of_quantifier_reads n logic) (off (same QuantifierWord) (same OperatorWord) refl)

abbrev numbered : {n : ℕ} → ℕ → Rule n → Numbered n
numbered number rule = record { number = number; rule = rule }

pub rule_reads : (n : ℕ) (logic : Logic) (least most : ℕ) → Reads (rule_at n logic least most) (OneRule n logic least most) PlainRule (Must (is RuleWord)) never
unfolding rule_at
rule_reads n logic least most =
    then_reads (one RuleWord) (λ _.
    then_reads (number_reads least most MISNUMBERED terminal.Number) (λ number.
    then_reads (one Colon) (λ _.
    then_reads (of_symbol_reads n logic) (λ rule.
    nothing_reads (numbered number rule) never))))

pub next_rule_reads : (n : ℕ) (logic : Logic) (rules : List (Rule n)) → Reads (next_rule_at n logic rules) (NextRule n logic rules) PlainRule (Must (is RuleWord)) never
next_rule_reads n logic rules = map_reads (λ (next : Numbered n). rules ++ next.rule ∷ []) (rule_reads n logic (length rules + 1) (length rules + 1))

pub rules_read : (n : ℕ) (logic : Logic) → Reads (rules_at n logic) (Rules n logic) PlainRules (May (is RuleWord)) (λ t. is RuleWord t || never t)
unfolding rules_at
rules_read n logic = growing_reads (next_rule_reads n logic) (λ t h. refl) []
