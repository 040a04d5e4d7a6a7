-- The rules of the grammar are rules for the logic, and their clauses and sets are few.
use Rattle.std.proofs.Common.{◌≡◌, ℕ, ◌+◌, ◌-◌, ◌<◌, ◌≤◌, Bool, true, false, List, Option, Some, None, Ok, [], ◌∷◌, length, drop, All, replicate, refl, sym, ap, subst, inl, inr, ◌⊎◌, arith, length-append}
use Rattle.std.specs.Prelude.{◌≢◌, ◌^◌, ◌||◌, ◌==◌, nat_lt, is_none, unwrap_or}
use Rattle.std.specs.Str.{bytes_eq}
use Rattle.std.proofs.lemmas.List.{length-replicate}
use Rattle.std.proofs.lemmas.List.Elements.{All-nil, All-cons, All-push, All-weaker}
use Rattle.std.proofs.lemmas.List.Quantifiers.{position-Some}
use Rattle.std.proofs.lemmas.Bool.{ltb-false, leb-true, lt-ltb, eq-eqb, and_parts}
use Rattle.lgc_grammar.specs.Grammar.{fault_if, Grammar, Optional, Growing, ended, grown}
use Rattle.lgc_grammar.proofs.Readers.{or_left, or_right}
use Rattle.lgc_values.specs.declared.matrix.Operator.{Operator}
use Rattle.lgc_values.specs.declared.matrix.Quantifier.{Quantifier}
use Rattle.lgc_values.specs.Values.{has}
use Rattle.lgc_values.specs.Logic.{Logic, operator_at, value_named, operator_named, quantifier_named}
use Rattle.lgc_values.proofs.ValueLaws.{has-values_where}
use Rattle.lgc_clauses.specs.Rules.{Head, operator, quantifier, IsClauseOf}
use Rattle.lgc_clauses.specs.Irredundance.{set_number}
use Rattle.lgc_clauses.specs.declared.rule.Rule.{Rule}
use Rattle.lgc_clauses.specs.declared.rule.Numbered.{Numbered}
use Rattle.lgc_syntax.specs.declared.fault.TheConstants.{UNKNOWN_NAME, WRONG_ARITY, UNKNOWN_VALUE, BAD_ARGUMENT}
use Rattle.lgc_tokens.specs.declared.number.TheConstants.{MOST_NUMBER}
use Rattle.lgc_tokens.specs.Numbers.{number_in, writes_up_to}
use Rattle.lgc_tokens.specs.Spelled.{Spelled}
use Rattle.lgc_tokens.specs.Classes.{is_number}
use Rattle.lgc_rules.specs.Names.{number, names_no_value, names_no_operator, names_no_quantifier, is_outside, padded, with_value}
use Rattle.lgc_rules.specs.RuleFile.{IsRuleFor}
use Rattle.lgc_rules.specs.RuleGrammar.{NumberFrom, Value, NextValue, Set, Literal, NextLiteral, Literals, Clause, NextAll, LastSome, AllSets, QuantifierClause, NextClause, Clauses, OperatorHead, QuantifierHead, Body, OfOperator, OfQuantifier, OneRule}
use Rattle.lgc_tokens.proofs.NumberTokens.{no_number}

-- ---- repetitions

-- what each step keeps holds of the last tree; each step has no more tokens than all
pub growing_keeps : {T A : Type 0} (L : A → Grammar T A) (Q : A → Type 0) (most : ℕ) → ((a b : A) (v : List T) → length v ≤ most → Q a → L a (Ok b) v → Q b) → (a c : A) (ts : List T) → length ts ≤ most → Q a → Growing L a (Ok c) ts → Q c
growing_keeps L Q most step a c ts few h (ended _) = h
growing_keeps L Q most step a c ts few h (grown _ b _ v w f g) =
    let first : length v ≤ most = omega (arith, length-append v w) in
    let others : length w ≤ most = omega (arith, length-append v w) in
    growing_keeps L Q most step b c w others (step a b v first h f) g

-- what grows by no more than the tokens of each step
growing_counts : {T A : Type 0} (L : A → Grammar T A) (count : A → ℕ) → ((a b : A) (v : List T) → L a (Ok b) v → count b ≤ count a + length v) → (a c : A) (ts : List T) → Growing L a (Ok c) ts → count c ≤ count a + length ts
growing_counts L count step a c ts (ended _) = omega arith
growing_counts L count step a c ts (grown _ b _ v w f g) =
    let one = step a b v f in
    let others = growing_counts L count step b c w g in
    omega (arith, length-append v w)

-- ---- numbers and names

-- where no rule is told it is kept
unbroken : (n : ℕ) (breaks : Bool) → fault_if breaks n ≡ None → breaks ≡ false
unbroken n true e = absurd cc
unbroken n false e = refl

number_within : (least most fault : ℕ) (test : Spelled → Bool) (k : ℕ) (ts : List Spelled) → NumberFrom least most fault test (Ok k) ts → (least ≤ k) × (k ≤ most)
number_within least most fault test k ts (t, is, (passes, none, one)) =
    let inside = unbroken fault (is_outside least most t) none in
    let low = or_left (nat_lt (number t) least) (nat_lt most (number t)) inside in
    let high = or_right (nat_lt (number t) least) (nat_lt most (number t)) inside in
    rw is (ltb-false (number t) least low, ltb-false most (number t) high)

-- no token writes a number that is too large
pub number_small : (t : Spelled) → is_number t ≡ true → number t ≤ MOST_NUMBER
unfolding number_in
number_small t h = by (writes_up_to MOST_NUMBER t.text) refl
  where
    by : (b : Bool) → writes_up_to MOST_NUMBER t.text ≡ b → number t ≤ MOST_NUMBER
    by true e = leb-true (number t) MOST_NUMBER (and_parts _ _ (and_parts _ _ e).1).1
    by false e = let none = no_number t (rw e refl) in absurd cc

read_small : (least most fault k : ℕ) (ts : List Spelled) → NumberFrom least most fault is_number (Ok k) ts → k ≤ MOST_NUMBER
read_small least most fault k ts (t, is, (passes, none, one)) = rw is (number_small t passes)

named_below : (logic : Logic) (t : Spelled) (found : Option ℕ) → operator_named logic t.text ≡ found → is_none found ≡ false → unwrap_or found 0 < length logic.operators
named_below logic t None e h = absurd cc
named_below logic t (Some i) e h = (position-Some (λ (o : Operator). bytes_eq o.name t.text) logic.operators i (record { name = []; arity = 0; table = [] }) e).0

op_below : (logic : Logic) (op : ℕ) (ts : List Spelled) → OperatorHead logic (Ok op) ts → (op < length logic.operators) × ((operator_at logic op).arity ≤ MOST_NUMBER)
op_below logic op ts (o, v, w, f, (p, v1, w1, (t, is, (passes, known, one)), (s, v2, w2, g, (k, v3, w3, h, (same, none), s3), s2), s1), s0) =
    let (low, high) = number_within (operator_at logic p).arity (operator_at logic p).arity WRONG_ARITY is_number k v3 h in
    let small = read_small (operator_at logic p).arity (operator_at logic p).arity WRONG_ARITY k v3 h in
    rw same (rw is (named_below logic t (operator_named logic t.text) refl (unbroken UNKNOWN_NAME (names_no_operator logic t) known)), omega arith)

quant_named : (logic : Logic) (t : Spelled) (found : Option ℕ) → quantifier_named logic t.text ≡ found → is_none found ≡ false → unwrap_or found 0 < length logic.quantifiers
quant_named logic t None e h = absurd cc
quant_named logic t (Some i) e h = (position-Some (λ (q : Quantifier). bytes_eq q.name t.text) logic.quantifiers i (record { name = []; table = [] }) e).0

quant_below : (logic : Logic) (quant : ℕ) (ts : List Spelled) → QuantifierHead logic (Ok quant) ts → quant < length logic.quantifiers
quant_below logic quant ts (o, v, w, f, (t, is, (passes, known, one)), s) = rw is (quant_named logic t (quantifier_named logic t.text) refl (unbroken UNKNOWN_NAME (names_no_quantifier logic t) known))

-- ---- sets have members

value_found : (logic : Logic) (t : Spelled) (found : Option ℕ) → value_named logic t.text ≡ found → is_none found ≡ false → unwrap_or found 0 < length logic.names
value_found logic t None e h = absurd cc
value_found logic t (Some i) e h = (position-Some (λ (name : List ℕ). bytes_eq name t.text) logic.names i [] e).0

pub value_below : (logic : Logic) (v : ℕ) (ts : List Spelled) → Value logic (Ok v) ts → v < length logic.names
value_below logic v ts (t, is, (passes, known, one)) = rw is (value_found logic t (value_named logic t.text) refl (unbroken UNKNOWN_VALUE (names_no_value logic t) known))

module _ (n : ℕ) (logic : Logic) (named : length logic.names ≡ n) where
  -- some value below n is a member
  abbrev HasMember : List ℕ → Type 0
  HasMember set = (v : ℕ) × (v < n) × (has set v ≡ true)

  member_stays : (set new : List ℕ) (ts : List Spelled) → HasMember set → NextValue n logic set (Ok new) ts → HasMember new
  member_stays set new ts (v, below, is) (comma, u, w, o, (value, u1, w1, f, (same, none), s1), s) =
      let still : has (with_value n set value) v ≡ true = rw (has-values_where n (λ x. has set x || x == value) v, lt-ltb v n below, is) refl in
      (v, below, rw same still)

  set_has : (set : List ℕ) (ts : List Spelled) → Set n logic (Ok set) ts → HasMember set
  set_has set ts (open1, v, w, o, (value, v1, w1, f, (grown1, v2, w2, g, (close1, v3, w3, o3, (same, none), s3), s2), s1), s) =
      let below : value < n = rw named at (value_below logic value v1 f) in
      let alone : has (value ∷ []) value ≡ true = rw (eq-eqb value value refl) refl in
      rw same (growing_keeps (NextValue n logic) HasMember (length v2) (λ a b u few h k. member_stays a b u h k) (value ∷ []) grown1 v2 (omega arith) (value, below, alone) g)

  pub set_some : (set : List ℕ) (ts : List Spelled) → Set n logic (Ok set) ts → set ≢ []
  set_some set ts h = λ e. none (subst HasMember e (set_has set ts h))
    where
      none : HasMember [] → ⊥
      none (v, below, is) = cc

-- ---- the sets of an operator's clause

padded_length : (k : ℕ) (sets : List (List ℕ)) → length sets ≤ k → length (padded k sets) ≡ k
padded_length k sets few = omega (arith, length-append sets (replicate (k - length sets) []), length-replicate {A = List ℕ} (k - length sets) [])

module _ (n : ℕ) (logic : Logic) (arity : ℕ) where
  literal_short : (test : Spelled → Bool) (sets new : List (List ℕ)) (ts : List Spelled) → Literal n logic arity test sets (Ok new) ts → length new ≤ arity
  literal_short test sets new ts (argument, v, w, f, (caret, v1, w1, g, (set, v2, w2, h, (is, none), s2), s1), s0) =
      let (low, high) = number_within (length sets + 1) arity BAD_ARGUMENT test argument v f in
      let long = padded_length (argument - 1) sets (omega arith) in
      rw is (omega (arith, length-append (padded (argument - 1) sets) (set ∷ [])))

  literals_width : (sets : List (List ℕ)) (ts : List Spelled) → Literals n logic arity (Ok sets) ts → length sets ≡ arity
  literals_width sets ts (last, is, (first, v, w, f, g, split)) =
      let short : length last ≤ arity = growing_keeps (NextLiteral n logic arity) (λ s. length s ≤ arity) (length w) (λ a b u few h k. let (comma, v1, w1, o, l, s) = k in literal_short _ a b w1 l) first last w (omega arith) (literal_short _ [] first v f) g in
      rw is (padded_length arity last short)

  clause_width : (sets : List (List ℕ)) (ts : List Spelled) → Clause n logic arity (Ok sets) ts → length sets ≡ arity
  clause_width sets ts (inl (zero, is, one)) = rw is (padded_length arity [] (omega arith))
  clause_width sets ts (inr h) = literals_width sets ts h

-- ---- the sets of a quantifier's clause

abbrev HasMembers : List ℕ → Type 0
HasMembers set = set ≢ []

module _ (n : ℕ) (logic : Logic) (named : length logic.names ≡ n) where
  all_grows : (all new : List (List ℕ)) (ts : List Spelled) → All HasMembers all → NextAll n logic all (Ok new) ts → All HasMembers new
  all_grows all new ts h (comma, v, w, o, (set, is, (word, v1, w1, o1, f, s1)), s) = subst (All HasMembers) (sym is) (All-push HasMembers all set h (set_some n logic named set w1 f))

  all_counts : (all new : List (List ℕ)) (ts : List Spelled) → NextAll n logic all (Ok new) ts → length new ≤ length all + length ts
  all_counts all new ts (comma, v, w, (test, o), (set, is, f), s) = omega (arith, ap length is, length-append all (set ∷ []), ap length s, length-append v w, ap length o)

  -- the `some` set, and `all` sets with members that are no more than the tokens
  abbrev HasSets : List Spelled → List (List ℕ) → Type 0
  HasSets ts sets = (0 < length sets) × All HasMembers (drop 1 sets) × (length sets ≤ length ts + 1)

  all_sets_fit : (sets : List (List ℕ)) (ts : List Spelled) → AllSets n logic (Ok sets) ts → HasSets ts sets
  all_sets_fit sets ts (set, v, w, (word, v1, w1, (test, o), f, s1), (all, v2, w2, g, rest, s2), s) =
      by rest
    where
      first : All HasMembers (set ∷ [])
      first = All-cons HasMembers set [] (set_some n logic named set w1 f) (All-nil HasMembers)

      members : All HasMembers all
      members = growing_keeps (NextAll n logic) (All HasMembers) (length v2) (λ a b u few h k. all_grows a b u h k) (set ∷ []) all v2 (omega arith) first g

      few : length all ≤ length ts
      few =
          let count : length all ≤ length (set ∷ []) + length v2 = growing_counts (NextAll n logic) length all_counts (set ∷ []) all v2 g in
          omega (arith, ap length s, length-append v w, ap length s1, length-append v1 w1, ap length o, ap length s2, length-append v2 w2)

      by : Optional ([] ∷ all) (LastSome n logic all) (Ok sets) w2 → HasSets ts sets
      by (inl (comma, v3, w3, o3, (some, is, h), s3)) = rw is (omega arith, members, omega (arith, few))
      by (inr (is, none)) = rw is (omega arith, members, omega (arith, few))

  clause_fits : (sets : List (List ℕ)) (ts : List Spelled) → QuantifierClause n logic (Ok sets) ts → HasSets ts sets
  clause_fits sets ts (inl (zero, is, one)) = rw is (omega arith, All-nil HasMembers, omega arith)
  clause_fits sets ts (inr (inl h)) = all_sets_fit sets ts h
  clause_fits sets ts (inr (inr (some, is, f))) = rw is (omega arith, All-nil HasMembers, omega arith)

-- ---- lists of clauses

-- what holds of each clause, which has no more tokens than all
module _ (L : Grammar Spelled (List (List ℕ))) (Q : List (List ℕ) → Type 0) (most : ℕ) (each : (sets : List (List ℕ)) (ts : List Spelled) → length ts ≤ most → L (Ok sets) ts → Q sets) where
  next_keeps : (clauses new : List (List (List ℕ))) (ts : List Spelled) → length ts ≤ most → All Q clauses → NextClause L clauses (Ok new) ts → All Q new
  next_keeps clauses new ts few all (semicolon, v, w, o, (clause, is, f), s) = subst (All Q) (sym is) (All-push Q clauses clause all (each clause w (omega (arith, ap length s, length-append v w)) f))

  clauses_keep : (clauses : List (List (List ℕ))) (ts : List Spelled) → length ts ≤ most → Clauses L (Ok clauses) ts → All Q clauses
  clauses_keep clauses ts few (inl (first, v, w, f, g, split)) =
      let short : length v ≤ most = omega (arith, ap length split, length-append v w) in
      let others : length w ≤ most = omega (arith, ap length split, length-append v w) in
      growing_keeps (NextClause L) (All Q) most next_keeps (first ∷ []) clauses w others (All-cons Q first [] (each first v short f) (All-nil Q)) g
  clauses_keep clauses ts few (inr (is, none)) = rw is (All-nil Q)

clauses_few : (L : Grammar Spelled (List (List ℕ))) (clauses : List (List (List ℕ))) (ts : List Spelled) → Clauses L (Ok clauses) ts → length clauses ≤ 1 + length ts
clauses_few L clauses ts (inl (first, v, w, f, g, split)) =
    let count : length clauses ≤ length (first ∷ []) + length w = growing_counts (NextClause L) length step (first ∷ []) clauses w g in
    omega (arith, ap length split, length-append v w)
  where
    step : (a b : List (List (List ℕ))) (u : List Spelled) → NextClause L a (Ok b) u → length b ≤ length a + length u
    step a b u (semicolon, v1, w1, (test, one), (clause, is, h), s) = omega (arith, ap length is, length-append a (clause ∷ []), ap length s, length-append v1 w1, ap length one)
clauses_few L clauses ts (inr (is, none)) = omega (arith, ap length is)

-- ---- rules

abbrev IsFew : Head → List (List ℕ) → Type 0
IsFew head sets = set_number head (length sets - 1) < 2 ^ 32

-- clauses of one head
abbrev AreFor : Logic → Head → List (List (List ℕ)) → Type 0
AreFor logic head clauses = All (IsClauseOf logic head) clauses × All (IsFew head) clauses × (length clauses < 2 ^ 32)

abbrev IsFor : Logic → Head → List (List ℕ) → Type 0
IsFor logic head sets = IsClauseOf logic head sets × IsFew head sets

are_for : (logic : Logic) (head : Head) (clauses : List (List (List ℕ))) → All (IsFor logic head) clauses → length clauses < 2 ^ 32 → AreFor logic head clauses
are_for logic head clauses all few = (All-weaker (IsFor logic head) (IsClauseOf logic head) (λ sets h. h.0) clauses all, All-weaker (IsFor logic head) (IsFew head) (λ sets h. h.1) clauses all, few)

module _ (n : ℕ) (logic : Logic) (named : length logic.names ≡ n) where
  body_for : (head : Head) (L : Grammar Spelled (List (List ℕ))) (rule_of : List ℕ → List (List (List ℕ)) → Rule n) (rule : Rule n) (ts : List Spelled) → length ts < 2 ^ 32 → ((sets : List (List ℕ)) (us : List Spelled) → length us ≤ length ts - 1 → L (Ok sets) us → IsFor logic head sets) → Body n logic L rule_of (Ok rule) ts → (sign : List ℕ) × (clauses : List (List (List ℕ))) × (rule ≡ rule_of sign clauses) × AreFor logic head clauses
  body_for head L rule_of rule ts short each (t1, v1, w1, o1, (sign, v2, w2, f2, (t3, v3, w3, o3, (t4, v4, w4, o4, (clauses, v5, w5, f5, (t6, v6, w6, o6, (t7, v7, w7, o7, (is, none), s7), s6), s5), s4), s3), s2), s1) =
      let inside : length v5 + 1 ≤ length ts = omega (arith, ap length o1.1, ap length s1, length-append v1 w1, ap length s2, length-append v2 w2, ap length s3, length-append v3 w3, ap length s4, length-append v4 w4, ap length s5, length-append v5 w5) in
      let few = clauses_few L clauses v5 f5 in
      (sign, clauses, is, are_for logic head clauses (clauses_keep L (IsFor logic head) (length ts - 1) each clauses v5 (omega arith) f5) (omega arith))

  operator_for : (rule : Rule n) (ts : List Spelled) → length ts < 2 ^ 32 → OfOperator n logic (Ok rule) ts → IsRuleFor n logic rule
  operator_for rule ts short (op, v, w, f, g, s) =
      let (below, small) = op_below logic op v f in
      let behind : length w < 2 ^ 32 = omega (arith, ap length s, length-append v w) in
      let (sign, clauses, is, (formed, sets, few)) = body_for (operator op) (Clause n logic (operator_at logic op).arity) _ rule w behind (λ sets us _ h. let wide = clause_width n logic (operator_at logic op).arity sets us h in (wide, omega arith)) g in
      rw is (record { fits = record { known = below; formed = formed }; numbered = record { clauses = few; sets = sets } })

  quantifier_for : (rule : Rule n) (ts : List Spelled) → length ts < 2 ^ 32 → OfQuantifier n logic (Ok rule) ts → IsRuleFor n logic rule
  quantifier_for rule ts short (quant, v, w, f, g, s) =
      let below = quant_below logic quant v f in
      let behind : length w < 2 ^ 32 = omega (arith, ap length s, length-append v w) in
      let (sign, clauses, is, (formed, sets, few)) = body_for (quantifier quant) (QuantifierClause n logic) _ rule w behind (λ sets us inside h. let (some, all, count) = clause_fits n logic named sets us h in ((some, all), omega arith)) g in
      rw is (record { fits = record { known = below; formed = formed }; numbered = record { clauses = few; sets = sets } })

  pub rule_fits : (least most : ℕ) (x : Numbered n) (ts : List Spelled) → length ts < 2 ^ 32 → OneRule n logic least most (Ok x) ts → IsRuleFor n logic x.rule
  rule_fits least most x ts short (t1, v1, w1, o1, (number, v2, w2, f2, (t3, v3, w3, o3, (rule, v4, w4, f4, (is, none), s4), s3), s2), s1) =
      let inside : length v4 < 2 ^ 32 = omega (arith, ap length s1, length-append v1 w1, ap length s2, length-append v2 w2, ap length s3, length-append v3 w3, ap length s4, length-append v4 w4) in
      rw is (by inside f4)
    where
      by : length v4 < 2 ^ 32 → OfOperator n logic (Ok rule) v4 ⊎ OfQuantifier n logic (Ok rule) v4 → IsRuleFor n logic rule
      by inside (inl h) = operator_for rule v4 inside h
      by inside (inr h) = quantifier_for rule v4 inside h
