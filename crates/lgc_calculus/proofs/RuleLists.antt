-- The rules of a calculus, on the way through the heads of a kind and the values.
use Rattle.std.proofs.Common.{◌≡◌, ℕ, zero, suc, ◌+◌, ◌*◌, ◌≤◌, List, [], ◌∷◌, ◌++◌, length, get_or, refl, ap, sym, subst, ◌∙◌, arith, length-append}
use Rattle.std.specs.Prelude.{All, map}
use Rattle.std.specs.List.{flat_map, range_with_len}
use Rattle.std.proofs.lemmas.List.{append_assoc, map-append, append-nil, length-map, get_or-map}
use Rattle.std.proofs.lemmas.List.Concat.{flat_map-append}
use Rattle.std.proofs.lemmas.List.Elements.{All-push, All-append}
use Rattle.lgc_values.specs.declared.TheConstants.{MOST_VALUES}
use Rattle.lgc_values.specs.Logic.{Logic}
use Rattle.lgc_clauses.specs.Rules.{Head, operator, quantifier, PlainRule, OperatorRule, QuantifierRule, of_operator, of_quantifier, Fits}
use Rattle.lgc_clauses.specs.Kinds.{plain_rule}
use Rattle.lgc_clauses.specs.declared.rule.Rule.{Rule}
use Rattle.lgc_calculus.specs.Calculus.{head_of, heads_with_values, IsRightRule, IsCalculus}
use Rattle.lgc_calculus.specs.RuleLists.{AreRules}

-- a head with each of the first n single values
abbrev heads_below : Head → ℕ → List (Head × List ℕ)
heads_below head n = map (λ v. (head, v ∷ [])) (range_with_len 0 n)

-- the rules of the first heads of a kind, and of the first n values at the next one
pub record AreRulesSoFar (logic : Logic) (head : ℕ → Head) (k n : ℕ) (rules : List PlainRule) : Type 0 where
  pub heads : map head_of rules ≡ heads_with_values logic.size head k ++ heads_below (head k) n
  pub right : All (IsRightRule logic) rules
  pub few : length rules ≤ k * MOST_VALUES + n

range_more : (a n : ℕ) → range_with_len a (n + 1) ≡ range_with_len a n ++ (a + n) ∷ []
range_more a zero = let e : a + 0 ≡ a = omega arith in rw e refl
range_more a (suc n) =
    let e : suc n + 1 ≡ suc (n + 1) = omega arith in
    let e' : a + suc n ≡ a + 1 + n = omega arith in
    rw (e, e') (ap (λ rest. a ∷ rest) (range_more (a + 1) n))

range_more_here : (n : ℕ) → range_with_len 0 (n + 1) ≡ range_with_len 0 n ++ n ∷ []
range_more_here n = let e : 0 + n ≡ n = omega arith in range_more 0 n ∙ ap (λ v. range_with_len 0 n ++ v ∷ []) e

heads_below-more : (head : Head) (n : ℕ) → heads_below head (n + 1) ≡ heads_below head n ++ (head, n ∷ []) ∷ []
heads_below-more head n = ap (map (λ v. (head, v ∷ []))) (range_more_here n) ∙ map-append (λ v. (head, v ∷ [])) (range_with_len 0 n) (n ∷ [])

heads_with_values-more : (size : ℕ) (head : ℕ → Head) (k : ℕ) → heads_with_values size head (k + 1) ≡ heads_with_values size head k ++ heads_below (head k) size
heads_with_values-more size head k =
    ap (flat_map (λ o. heads_below (head o) size)) (range_more_here k)
    ∙ flat_map-append (λ o. heads_below (head o) size) (range_with_len 0 k) (k ∷ [])
    ∙ ap (λ last. heads_with_values size head k ++ last) (append-nil (heads_below (head k) size))

-- the rule of one value more
pub rules_more : (logic : Logic) (head : ℕ → Head) (k n : ℕ) (rules : List PlainRule) (rule : PlainRule) → head_of rule ≡ (head k, n ∷ []) → IsRightRule logic rule → AreRulesSoFar logic head k n rules → AreRulesSoFar logic head k (n + 1) (rules ++ rule ∷ [])
rules_more logic head k n rules rule at is so_far = record {
  heads =
      map-append head_of rules (rule ∷ [])
      ∙ ap (λ heads. heads ++ head_of rule ∷ []) so_far.heads
      ∙ append_assoc (heads_with_values logic.size head k) (heads_below (head k) n) (head_of rule ∷ [])
      ∙ ap (λ rest. heads_with_values logic.size head k ++ rest) (ap (λ h. heads_below (head k) n ++ h ∷ []) at ∙ sym (heads_below-more (head k) n));
  right = All-push (IsRightRule logic) rules rule so_far.right is;
  few =
      let count : length (rules ++ rule ∷ []) ≡ length rules + 1 = length-append rules (rule ∷ []) in
      let before : length rules ≤ k * MOST_VALUES + n = so_far.few in
      omega arith;
}

-- the same, with the rules as they stand in the program
pub rule_pushed : (logic : Logic) (head : ℕ → Head) (k n size : ℕ) (rules pushed : List (Rule size)) (rule : Rule size) → pushed ≡ rules ++ rule ∷ [] → head_of (plain_rule rule) ≡ (head k, n ∷ []) → IsRightRule logic (plain_rule rule)
    → AreRulesSoFar logic head k n (map (plain_rule {size = size}) rules) → AreRulesSoFar logic head k (n + 1) (map (plain_rule {size = size}) pushed)
rule_pushed logic head k n size rules pushed rule added at is so_far =
    rw (added, map-append (plain_rule {size = size}) rules (rule ∷ [])) (rules_more logic head k n (map (plain_rule {size = size}) rules) (plain_rule rule) at is so_far)

pub operator_head : (rule : OperatorRule) (op n : ℕ) → rule.op ≡ op → rule.sign ≡ n ∷ [] → head_of (of_operator rule) ≡ (operator op, n ∷ [])
operator_head rule op n at sign = rw (at, sign) refl

pub quantifier_head : (rule : QuantifierRule) (q n : ℕ) → rule.quant ≡ q → rule.sign ≡ n ∷ [] → head_of (of_quantifier rule) ≡ (quantifier q, n ∷ [])
quantifier_head rule q n at sign = rw (at, sign) refl

-- after the last value comes the next head
pub rules_next : (logic : Logic) (head : ℕ → Head) (k n : ℕ) (rules : List PlainRule) → n ≡ logic.size → n ≤ MOST_VALUES → AreRulesSoFar logic head k n rules → AreRulesSoFar logic head (k + 1) 0 rules
rules_next logic head k n rules all most so_far = record {
  heads =
      so_far.heads
      ∙ ap (λ m. heads_with_values logic.size head k ++ heads_below (head k) m) all
      ∙ sym (heads_with_values-more logic.size head k)
      ∙ sym (append-nil (heads_with_values logic.size head (k + 1)));
  right = so_far.right;
  few = let before : length rules ≤ k * MOST_VALUES + n = so_far.few in omega arith;
}

-- the rules of the operators and then those of the quantifiers
pub calculus_of : (logic : Logic) (rules others : List PlainRule) → AreRules logic operator (length logic.operators) rules → AreRules logic quantifier (length logic.quantifiers) others → IsCalculus logic (rules ++ others)
calculus_of logic rules others first last = record {
  heads = map-append head_of rules others ∙ ap (λ heads. heads ++ map head_of others) first.heads ∙ ap (λ heads. heads_with_values logic.size operator (length logic.operators) ++ heads) last.heads;
  right = All-append (IsRightRule logic) rules others first.right last.right;
}

-- right rules are rules for the logic
pub all_fit : (logic : Logic) (size : ℕ) (rules : List (Rule size)) → All (IsRightRule logic) (map plain_rule rules) → All (λ rule. Fits logic (plain_rule rule)) rules
all_fit logic size rules right i d within =
    let count : length (map (plain_rule {size = size}) rules) ≡ length rules = length-map rules plain_rule in
    let at : get_or (map (plain_rule {size = size}) rules) i (plain_rule d) ≡ plain_rule (get_or rules i d) = get_or-map plain_rule rules i d (plain_rule d) within in
    subst (Fits logic) at (right i (plain_rule d) (omega (arith, count, within))).fits
