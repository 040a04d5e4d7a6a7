-- Rules that are missing, and rules that are there.
use Rattle.std.proofs.Common.{◌≡◌, ◌≢◌, ℕ, zero, suc, ◌+◌, ◌-◌, ◌<◌, ◌≤◌, ◌==◌, ◌&&◌, ◌||◌, not, min, Bool, true, false, Option, None, Some, List, [], ◌∷◌, length, get_or, map, take, drop, refl, ap, sym, ◌∙◌, arith, ⊎_elim, add-one}
use Rattle.std.specs.Prelude.{bytes_eq, MatchOption}
use Rattle.std.specs.List.{list_all}
use Rattle.std.proofs.lemmas.Bool.{cases_lt, and_parts, and_from, or_left, or_right, eq-eqb, true≢false}
use Rattle.std.proofs.lemmas.List.{take_all, get_or-map, length-map}
use Rattle.std.proofs.lemmas.List.Folds.{list_any_at}
use Rattle.std.proofs.lemmas.List.Sums.{AllPass-from_list_all}
use Rattle.std.proofs.lemmas.Option.{get_or_from_slice_get, slice_get_within}
use Rattle.std.proofs.lemmas.Slice.Eq.{bytes_eq-Decides}
use Rattle.lgc_clauses.specs.Rules.{OperatorRule}
use Rattle.lgc_syntax.specs.declared.formula.Formula.{Formula, Op}
use Rattle.lgc_syntax.specs.Fits.{fits_within}
use Rattle.lgc_syntax.proofs.Induction.{formula_induction}
use Rattle.lgc_syntax.proofs.SubformulaLaws.{op_fits}
use Rattle.lgc_sequents.specs.Sequents.{has_all}
use Rattle.lgc_calculus.specs.RuleBook.{IsNumberFor}
use Rattle.lgc_clause_sets.specs.AtomClauses.{has_member}
use Rattle.lgc_translate.specs.declared.covering.Missing.{Missing}
use Rattle.lgc_translate.specs.Translation.{is_for, rule_clauses}
use Rattle.lgc_translate.specs.Covering.{has_rule, all_covered, covers}
use Rattle.lgc_translate.specs.Words.{IsMissing}
use Rattle.lgc_translate.proofs.Equations.{covers-Atom, covers-Op, covers-Quant}

-- ---- signs and formulas for which no rule is asked

module _ (n : ℕ) (rules : List OperatorRule) (sign : List ℕ) where
  abbrev below : ℕ → List Formula → Bool
  below op args = has_rule rules op sign && list_all (λ sets. all_covered sets (map (covers n rules) args)) (rule_clauses rules op sign)

  covers_settled : (has_all n sign || not (has_member sign)) ≡ true → (f : Formula) → covers n rules f sign ≡ true
  covers_settled settled = formula_induction (λ f. covers n rules f sign ≡ true)
      (λ p args. covers-Atom n rules p args sign)
      (λ op args each. covers-Op n rules op args sign ∙ or_left (has_all n sign || not (has_member sign)) (below op args) settled)
      (λ q body rest. covers-Quant n rules q body sign)

  pub covers_full : (f : Formula) → has_all n sign ≡ true → covers n rules f sign ≡ true
  covers_full f full = covers_settled (or_left (has_all n sign) (not (has_member sign)) full) f

  pub covers_none : (f : Formula) → not (has_member sign) ≡ true → covers n rules f sign ≡ true
  covers_none f none = covers_settled (or_right (has_all n sign) (not (has_member sign)) none) f

  pub covers_simple : (f : Formula) → ((op : ℕ) (args : List Formula) → f ≡ Op op args → ⊥) → covers n rules f sign ≡ true
  covers_simple = formula_induction (λ f. ((op : ℕ) (args : List Formula) → f ≡ Op op args → ⊥) → covers n rules f sign ≡ true)
      (λ p args simple. covers-Atom n rules p args sign)
      (λ op args each simple. absurd (simple op args refl))
      (λ q body rest simple. covers-Quant n rules q body sign)

  -- a compound is covered where its rule is there and the arguments are
  pub covers_op : (f : Formula) (op : ℕ) (args args' : List Formula) (clauses : List (List (List ℕ))) → f ≡ Op op args → args' ≡ args → has_rule rules op sign ≡ true → clauses ≡ rule_clauses rules op sign
      → list_all (λ sets. all_covered sets (map (covers n rules) args')) clauses ≡ true → covers n rules f sign ≡ true
  covers_op f op args args' clauses is same there found all =
      ap (λ g. covers n rules g sign) is ∙ covers-Op n rules op args sign
      ∙ or_right (has_all n sign || not (has_member sign)) (below op args)
      (and_from (has_rule rules op sign) (list_all (λ sets. all_covered sets (map (covers n rules) args)) (rule_clauses rules op sign)) there
      (sym (λ i. list_all (λ sets. all_covered sets (map (covers n rules) (same i))) (found i)) ∙ all))

-- ---- rules that are missing

member_some : (sign : List ℕ) → has_member sign ≡ true → sign ≢ []
member_some sign some none = true≢false (sym some ∙ ap has_member none)

-- that of a compound
pub missing_here : (rules : List OperatorRule) (f : Formula) (op : ℕ) (args : List Formula) (sign : List ℕ) → f ≡ Op op args → has_rule rules op sign ≡ false → has_member sign ≡ true → IsMissing rules (f ∷ []) op sign
missing_here rules f op args sign is absent some = record {
  absent = absent;
  nonempty = member_some sign some;
  known = λ logic fits. (op_fits logic op args (ap (λ g. fits_within logic g 0) (sym is) ∙ (and_parts (fits_within logic f 0) true fits).0)).0;
}

-- one that the arguments of a compound ask for
pub missing_below : {n : ℕ} (rules : List OperatorRule) (f : Formula) (op : ℕ) (args args' : List Formula) (P Q : Type 0) (found : Option (Missing n)) → f ≡ Op op args → args' ≡ args → (P → Q)
    → MatchOption found P (λ missing. IsMissing rules args' missing.op missing.sign) → MatchOption found Q (λ missing. IsMissing rules (f ∷ []) missing.op missing.sign)
missing_below {n} rules f op args args' P Q found is same covered matched = pick found matched where
  pick : (found : Option (Missing n)) → MatchOption found P (λ missing. IsMissing rules args' missing.op missing.sign) → MatchOption found Q (λ missing. IsMissing rules (f ∷ []) missing.op missing.sign)
  pick None h = covered h
  pick (Some missing) h = record {
    absent = h.absent;
    nonempty = h.nonempty;
    known = λ logic fits. h.known logic (ap (list_all (λ g. fits_within logic g 0)) same ∙ (op_fits logic op args (ap (λ g. fits_within logic g 0) (sym is) ∙ (and_parts (fits_within logic f 0) true fits).0)).2);
  }

-- one that some argument asks for
pub missing_at : (rules : List OperatorRule) (args : List Formula) (i : ℕ) (a : Formula) (op : ℕ) (sign : List ℕ) → i < length args → a ≡ get_or args i a → IsMissing rules (a ∷ []) op sign → IsMissing rules args op sign
missing_at rules args i a op sign within at missing = record {
  absent = missing.absent;
  nonempty = missing.nonempty;
  known = λ logic fit. missing.known logic (and_from (fits_within logic a 0) true (ap (λ g. fits_within logic g 0) at ∙ AllPass-from_list_all (λ g. fits_within logic g 0) args fit i a within) refl);
}

-- ---- the arguments so far are covered

all_covered-suc : (tests : List (List ℕ → Bool)) (sets : List (List ℕ)) (j : ℕ) (s : List ℕ) (t : List ℕ → Bool) → j < length sets → j < length tests → all_covered (drop j sets) (drop j tests) ≡ (get_or tests j t (get_or sets j s) && all_covered (drop (suc j) sets) (drop (suc j) tests))
all_covered-suc tests [] j s t lt lt' = absurd (omega arith)
all_covered-suc [] (x ∷ sets) j s t lt lt' = absurd (omega arith)
all_covered-suc (y ∷ tests) (x ∷ sets) zero s t lt lt' = refl
all_covered-suc (y ∷ tests) (x ∷ sets) (suc j) s t lt lt' = all_covered-suc tests sets j s t (omega arith) (omega arith)

pub all_covered-end : (tests : List (List ℕ → Bool)) (sets : List (List ℕ)) (j : ℕ) → min (length tests) (length sets) ≤ j → all_covered (drop j sets) (drop j tests) ≡ true
all_covered-end tests [] zero le = refl
all_covered-end tests [] (suc j) le = refl
all_covered-end [] (x ∷ sets) zero le = refl
all_covered-end [] (x ∷ sets) (suc j) le = ends (drop j sets) where
  ends : (sets : List (List ℕ)) → all_covered sets [] ≡ true
  ends [] = refl
  ends (s ∷ sets) = refl
all_covered-end (y ∷ tests) (x ∷ sets) zero le = absurd (omega arith)
all_covered-end (y ∷ tests) (x ∷ sets) (suc j) le = all_covered-end tests sets j (omega arith)

-- one argument more is covered
pub covered_more : (n : ℕ) (rules : List OperatorRule) (args : List Formula) (sets : List (List ℕ)) (j : ℕ) (a : Formula) (s : List ℕ) → j < length args → j < length sets → a ≡ get_or args j a → s ≡ get_or sets j s → covers n rules a s ≡ true
    → all_covered (drop j sets) (drop j (map (covers n rules) args)) ≡ all_covered (drop (j + 1) sets) (drop (j + 1) (map (covers n rules) args))
covered_more n rules args sets j a s lt lt' at at' covered =
    let tests : List (List ℕ → Bool) = map (covers n rules) args in
    let test : get_or tests j (covers n rules a) ≡ covers n rules a = get_or-map (covers n rules) args j a (covers n rules a) lt ∙ ap (covers n rules) (sym at) in
    rw add-one (all_covered-suc tests sets j s (covers n rules a) lt' (omega (arith, lt, length-map args (covers n rules)))
    ∙ ap (λ b. b && all_covered (drop (suc j) sets) (drop (suc j) tests)) (ap (λ t. t (get_or sets j s)) test ∙ ap (covers n rules a) (sym at') ∙ covered))

-- ---- the book grows

pub kept_further : {X : Type 0} (a b c : List X) → take (length a) b ≡ a → take (length b) c ≡ b → take (length a) c ≡ a
kept_further [] b c h k = refl
kept_further (x ∷ a) [] c h k = cc
kept_further (x ∷ a) (y ∷ b) [] h k = cc
kept_further (x ∷ a) (y ∷ b) (z ∷ c) h k = λ i. first i ∷ kept_further a b c (ap (drop 1) h) (ap (drop 1) k) i where
  first : z ≡ x
  first = ap (λ l. get_or l 0 z) k ∙ ap (λ l. get_or l 0 z) h

-- a rule with a number is there
number_there : (rules : List OperatorRule) (op : ℕ) (sign : List ℕ) (number : ℕ) → IsNumberFor rules op sign number → has_rule rules op sign ≡ true
number_there rules op sign number is =
    let at : get_or rules (number - 1) is.rule ≡ is.rule = get_or_from_slice_get rules (number - 1) is.rule is.rule is.place in
    list_any_at (is_for op sign) rules (number - 1) is.rule (slice_get_within rules (number - 1) is.rule is.place)
    (ap (is_for op sign) at ∙ and_from (is.rule.op == op) (bytes_eq is.rule.sign sign) (eq-eqb is.rule.op op is.operator) ((bytes_eq-Decides is.rule.sign sign).1 is.signed))

-- where a rule wasn't there and now is, there is one more
pub one_more : (old new : List OperatorRule) (op : ℕ) (sign : List ℕ) (number : ℕ) → has_rule old op sign ≡ false → IsNumberFor new op sign number → take (length old) new ≡ old → length new ≤ length old + 1 → length new ≡ length old + 1
one_more old new op sign number absent is kept one = ⊎_elim
    (λ (lt : length old < length new). omega arith)
    (λ (le : length new ≤ length old). absurd (true≢false (sym (number_there new op sign number is) ∙ ap (λ rules. has_rule rules op sign) (sym (take_all (length old) new le) ∙ kept) ∙ absent)))
    (cases_lt (length old) (length new))
