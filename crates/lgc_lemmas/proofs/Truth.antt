-- Steps keep truth, and values carry a false premise back to the conclusion.
use Rattle.std.proofs.Common.{◌≡◌, ℕ, zero, suc, ◌-◌, ◌<◌, ◌≤◌, Bool, true, false, ◌==◌, ◌||◌, ◌&&◌, ◌⊎◌, inl, inr, not, List, [], ◌∷◌, ◌++◌, map, length, slice_get, Some, refl, sym, ◌∙◌, ap, subst, arith, ⊎_elim, append_assoc}
use Rattle.std.specs.Prelude.{All}
use Rattle.std.specs.List.{list_all, zip}
use Rattle.std.proofs.lemmas.List.{append-nil, length-map}
use Rattle.std.proofs.lemmas.List.Elements.{All-push, All-map}
use Rattle.std.proofs.lemmas.Option.{get_or_from_slice_get, slice_get_within}
use Rattle.std.proofs.lemmas.Bool.{eqb-true, and_parts, and_from, or_cases, or_left, or_right, and_left, and_right, true≢false}
use Rattle.std.proofs.lemmas.Bool.Decides.{eqb_tells}
use Rattle.lgc_values.specs.Values.{has}
use Rattle.lgc_values.specs.Logic.{Logic, IsLogic, operator_at}
use Rattle.lgc_clauses.specs.Rules.{OperatorRule, some_in}
use Rattle.lgc_numbering.specs.declared.node.Node.{Node}
use Rattle.lgc_numbering.specs.declared.node.Node.TheVariants.{Compound}
use Rattle.lgc_calculus.specs.Arguments.{IsExactAtArguments}
use Rattle.lgc_calculus.specs.RuleBook.{IsRightBook}
use Rattle.lgc_calculus.proofs.ArgumentLaws.{exact_at_arguments}
use Rattle.lgc_packed.specs.Packed.{marks, is_true_of}
use Rattle.lgc_packed.proofs.Truth.{true_from_mark, mark_from_true, is_true_of-full}
use Rattle.lgc_lemmas.specs.declared.lemma.Reason.{Reason}
use Rattle.lgc_lemmas.specs.declared.lemma.Reason.TheVariants.{Axiom, ByRule}
use Rattle.lgc_lemmas.specs.Plain.{PlainLemma}
use Rattle.lgc_lemmas.specs.Nodes.{AreNodes, AreValues}
use Rattle.lgc_lemmas.specs.Steps.{marks_other, ArePremises, IsByRule, IsReason, AreSteps}

pub all_at : {X : Type 0} (P : X → Type 0) (xs : List X) (i : ℕ) (x : X) → All P xs → slice_get xs i ≡ Some x → P x
all_at P xs i x all here = subst P (get_or_from_slice_get xs i x x here) (all i x (slice_get_within xs i x here))

-- the rules of a right book are exact at arguments
pub exact_rules : (logic : Logic) (rules : List OperatorRule) → IsLogic logic → IsRightBook logic rules → All (IsExactAtArguments logic) rules
exact_rules logic rules is book i d l = let right = book.right i d l in exact_at_arguments logic _ is.sized right.fits right.exact

-- a clause at arguments is true where some argument's value lies in the set at its place
pub clause_true : (value : ℕ → ℕ) (sets : List (List ℕ)) (arguments : List ℕ) → some_in sets (map value arguments) ≡ is_true_of value (zip arguments sets)
clause_true value [] [] = refl
clause_true value [] (a ∷ arguments) = refl
clause_true value (set ∷ sets) [] = refl
clause_true value (set ∷ sets) (a ∷ arguments) = ap (λ b. has set (value a) || b) (clause_true value sets arguments)

-- the lemmas are true
abbrev pub AreTrue : (ℕ → ℕ) → List PlainLemma → Type 0
AreTrue value lemmas = All (λ lemma. is_true_of value lemma.sequent ≡ true) lemmas

-- where the premises are true, the conclusion is, or each clause
premises_true : (value : ℕ → ℕ) (n : ℕ) → ((k : ℕ) → value k < n) → (lemmas : List PlainLemma) (besides : ℕ → ℕ → Bool) (sequent : List (ℕ × List ℕ)) (arguments : List ℕ) (clauses : List (List (List ℕ))) (cited : List ℕ) → AreTrue value lemmas
    → ((k w : ℕ) → besides k w ≡ true → marks sequent k w ≡ true) → ArePremises n lemmas besides arguments clauses cited → (is_true_of value sequent ≡ true) ⊎ (list_all (λ sets. some_in sets (map value arguments)) clauses ≡ true)
premises_true value n below lemmas besides sequent arguments [] [] true_lemmas wide premises = inr refl
premises_true value n below lemmas besides sequent arguments [] (place ∷ cited) true_lemmas wide premises = absurd premises
premises_true value n below lemmas besides sequent arguments (sets ∷ clauses) [] true_lemmas wide premises = absurd premises
premises_true value n below lemmas besides sequent arguments (sets ∷ clauses) (place ∷ cited) true_lemmas wide premises =
    let one = premises.0 in
    let found = mark_from_true value one.lemma.sequent (all_at (λ (lemma : PlainLemma). is_true_of value lemma.sequent ≡ true) lemmas place one.lemma true_lemmas one.is) in
    ⊎_elim
    (λ aside. inl (true_from_mark value sequent found.0 (wide found.0 (value found.0) aside)))
    (λ here. ⊎_elim
    (λ holds. inl holds)
    (λ rest. inr (and_from (some_in sets (map value arguments)) (list_all (λ sets. some_in sets (map value arguments)) clauses) (clause_true value sets arguments ∙ true_from_mark value (zip arguments sets) found.0 here) rest))
    (premises_true value n below lemmas besides sequent arguments clauses cited true_lemmas wide premises.1))
    (or_cases (besides found.0 (value found.0)) (marks (zip arguments sets) found.0 (value found.0)) (one.within found.0 (value found.0) (below found.0) found.1))

module _ (logic : Logic) (nodes : List Node) (value : ℕ → ℕ) (values : AreValues logic nodes value) (are_nodes : AreNodes logic nodes) where
  -- the value of a compound lies in the sign of an exact rule where each clause is true
  pub sign_at : (rule : OperatorRule) → IsExactAtArguments logic rule → (principal : ℕ) (arguments : List ℕ) → slice_get nodes principal ≡ Some (Compound rule.op arguments) → has rule.sign (value principal) ≡ list_all (λ sets. some_in sets (map value arguments)) rule.clauses
  sign_at rule exact principal arguments compound =
      ap (has rule.sign) (values.compounds principal rule.op arguments compound)
      ∙ exact (map value arguments) (length-map arguments value ∙ (are_nodes principal rule.op arguments compound).arity) (All-map (λ v. v < logic.size) value arguments (λ i d l. values.below _))

  by_rule_true : (rules : List OperatorRule) (before : List PlainLemma) (sequent : List (ℕ × List ℕ)) (number principal : ℕ) (cited : List ℕ) → All (IsExactAtArguments logic) rules → AreTrue value before → IsByRule logic nodes rules before sequent number principal cited → is_true_of value sequent ≡ true
  by_rule_true rules before sequent number principal cited exact true_before step = ⊎_elim
      (λ holds. holds)
      (λ all. true_from_mark value sequent principal (step.signed (value principal) (values.below principal) (sign_at step.rule (all_at (IsExactAtArguments logic) rules (number - 1) step.rule exact step.numbered) principal step.arguments step.compound ∙ all)))
      (premises_true value logic.size values.below before (marks_other sequent principal) sequent step.arguments step.rule.clauses cited true_before (λ k w m. (and_parts (marks sequent k w) (not (principal == k)) m).0) step.premises)

  reason_true : (rules : List OperatorRule) (before : List PlainLemma) (sequent : List (ℕ × List ℕ)) (reason : Reason) → All (IsExactAtArguments logic) rules → AreTrue value before → IsReason logic nodes rules before sequent reason → is_true_of value sequent ≡ true
  reason_true rules before sequent Axiom exact true_before full = is_true_of-full value logic.size values.below sequent full
  reason_true rules before sequent (ByRule number principal cited) exact true_before step = by_rule_true rules before sequent number principal cited exact true_before step

  -- lemmas that are steps by exact rules are true where the lemmas before them are
  pub lemmas_true : (rules : List OperatorRule) → All (IsExactAtArguments logic) rules → (before lemmas : List PlainLemma) → AreTrue value before → AreSteps logic nodes rules before lemmas → AreTrue value (before ++ lemmas)
  lemmas_true rules exact before [] true_before steps = subst (AreTrue value) (sym (append-nil before)) true_before
  lemmas_true rules exact before (lemma ∷ lemmas) true_before steps =
      subst (AreTrue value) (append_assoc before (lemma ∷ []) lemmas)
      (lemmas_true rules exact (before ++ lemma ∷ []) lemmas (All-push (λ (l : PlainLemma). is_true_of value l.sequent ≡ true) before lemma true_before (reason_true rules before lemma.sequent lemma.reason exact true_before steps.0.reason)) steps.1)

  -- ---- back from a premise
  not_true : (a b : Bool) → (a ≡ true → b ≡ true) → b ≡ false → a ≡ false
  not_true true b h e = absurd (true≢false (sym (h refl) ∙ e))
  not_true false b h e = refl

  one_fails : (test : List (List ℕ) → Bool) (clauses : List (List (List ℕ))) (i : ℕ) (sets : List (List ℕ)) → slice_get clauses i ≡ Some sets → test sets ≡ false → list_all test clauses ≡ false
  one_fails test [] i sets here fails = cc
  one_fails test (x ∷ clauses) zero sets here fails = let same : x ≡ sets = cc in and_left (test x) (list_all test clauses) (ap test same ∙ fails)
  one_fails test (x ∷ clauses) (suc i) sets here fails = and_right (test x) (list_all test clauses) (one_fails test clauses i sets here fails)

  -- where the premise for a clause is false, the conclusion is
  pub false_back : (rule : OperatorRule) → IsExactAtArguments logic rule → (principal : ℕ) (arguments : List ℕ) → slice_get nodes principal ≡ Some (Compound rule.op arguments) → (goal premise : List (ℕ × List ℕ)) (i : ℕ) (sets : List (List ℕ)) → slice_get rule.clauses i ≡ Some sets
      → ((w : ℕ) → w < logic.size → marks goal principal w ≡ true → has rule.sign w ≡ true)
      → ((k w : ℕ) → w < logic.size → (marks_other goal principal k w || marks (zip arguments sets) k w) ≡ true → marks premise k w ≡ true)
      → is_true_of value premise ≡ false → is_true_of value goal ≡ false
  false_back rule exact principal arguments compound goal premise i sets here signed made fails =
      let clause : some_in sets (map value arguments) ≡ false = not_true (some_in sets (map value arguments)) (is_true_of value premise)
      (λ holds. let found = mark_from_true value (zip arguments sets) (sym (clause_true value sets arguments) ∙ holds) in
      true_from_mark value premise found.0 (made found.0 (value found.0) (values.below found.0) (or_right (marks_other goal principal found.0 (value found.0)) (marks (zip arguments sets) found.0 (value found.0)) found.1))) fails in
      let outside : has rule.sign (value principal) ≡ false = sign_at rule exact principal arguments compound ∙ one_fails (λ s. some_in s (map value arguments)) rule.clauses i sets here clause in
      not_true (is_true_of value goal) (is_true_of value premise) (λ holds. let found = mark_from_true value goal holds in in_premise outside found.0 found.1) fails
    where
      in_premise : has rule.sign (value principal) ≡ false → (k : ℕ) → marks goal k (value k) ≡ true → is_true_of value premise ≡ true
      in_premise outside k m = ⊎_elim
          (λ e. let own : marks goal principal (value principal) ≡ true = subst (λ (j : ℕ). marks goal j (value j) ≡ true) (sym e.1) m in absurd (true≢false (sym (signed (value principal) (values.below principal) own) ∙ outside)))
          (λ e. true_from_mark value premise k (made k (value k) (values.below k) (or_left (marks_other goal principal k (value k)) (marks (zip arguments sets) k (value k)) (and_from (marks goal k (value k)) (not (principal == k)) m (ap not e.0)))))
          (eqb_tells principal k)
