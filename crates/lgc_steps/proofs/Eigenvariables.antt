-- Eigenvariables, by tests.
use Rattle.std.proofs.Common.{◌≡◌, ◌≢◌, ℕ, suc, Bool, true, false, not, ◌&&◌, List, [], ◌∷◌, map, refl, sym, ap, ◌∙◌, arith}
use Rattle.std.specs.Bool.{Decides}
use Rattle.std.specs.List.{All, AllPairs, list_any, list_all}
use Rattle.std.proofs.lemmas.Bool.{and_parts, and_from, or_parts, or_from, false_from_ne_true, true≢false}
use Rattle.std.proofs.lemmas.List.Elements.{All-nil, All-cons, All-head, All-tail}
use Rattle.std.proofs.lemmas.List.Kept.{AllPairs-cons}
use Rattle.lgc_syntax.specs.declared.formula.Term.{Term, Bound, Free, Apply, out-Term}
use Rattle.lgc_syntax.specs.declared.formula.Term.TheVariants.{outs-Bound, outs-Free, outs-Apply}
use Rattle.lgc_syntax.specs.Equality.{same_term}
use Rattle.lgc_syntax.proofs.EqualityLaws.{same_term-Decides}
use Rattle.lgc_syntax.proofs.Induction.{term_induction}
use Rattle.lgc_syntax.specs.Variables.{free}
use Rattle.lgc_sequents.specs.Signed.{SignedFormula}
use Rattle.lgc_sequents.specs.Steps.{AreEigenvariables}
use Rattle.lgc_steps.specs.StepTests.{eigenvariable_layer, is_eigenvariable, are_eigenvariables}

module _ (conclusion : List SignedFormula) (others : List Term) where
  pub eigenvariable-Bound : (i : ℕ) → is_eigenvariable conclusion others (Bound i) ≡ false
  unfolding is_eigenvariable
  eigenvariable-Bound i = ap (eigenvariable_layer conclusion others (Bound i)) (outs-Bound i)

  pub eigenvariable-Free : (x : List ℕ) → is_eigenvariable conclusion others (Free x) ≡ (not (list_any (same_term (Free x)) others) && list_all (λ item. not (free x item.formula)) conclusion)
  unfolding is_eigenvariable
  eigenvariable-Free x = ap (eigenvariable_layer conclusion others (Free x)) (outs-Free x)

  pub eigenvariable-Apply : (f : List ℕ) (args : List Term) → is_eigenvariable conclusion others (Apply f args) ≡ false
  unfolding is_eigenvariable
  eigenvariable-Apply f args = ap (eigenvariable_layer conclusion others (Apply f args)) (outs-Apply f args)

pub ruleset eigenvariable_rules = (eigenvariable-Bound, eigenvariable-Free, eigenvariable-Apply)

-- ---- what the tests tell

same_Free : {x y : List ℕ} → Free x ≡ Free y → x ≡ y
same_Free {x} {y} same = let parts = sym (outs-Free x) ∙ ap out-Term same ∙ outs-Free y in cc

-- what is told of a term that passes
record IsVariable (conclusion : List SignedFormula) (others : List Term) (t : Term) : Type 0 where
  pub name : List ℕ
  pub is : t ≡ Free name
  pub differs : list_any (same_term (Free name)) others ≡ false
  pub fresh : list_all (λ item. not (free name item.formula)) conclusion ≡ true

not_true : (b : Bool) → not b ≡ true → b ≡ false
not_true true h = sym h
not_true false h = refl

not_false : (b : Bool) → b ≡ false → not b ≡ true
not_false b h = ap not h

variable_passes : (conclusion : List SignedFormula) (others : List Term) (t : Term) → is_eigenvariable conclusion others t ≡ true → IsVariable conclusion others t
variable_passes conclusion others = term_induction (λ t. is_eigenvariable conclusion others t ≡ true → IsVariable conclusion others t)
    (λ i passes. absurd (true≢false (sym passes ∙ eigenvariable-Bound conclusion others i)))
    (λ x passes.
    let parts = and_parts (not (list_any (same_term (Free x)) others)) (list_all (λ item. not (free x item.formula)) conclusion) (sym (eigenvariable-Free conclusion others x) ∙ passes) in
    record { name = x; is = refl; differs = not_true (list_any (same_term (Free x)) others) parts.0; fresh = parts.1 })
    (λ f args each passes. absurd (true≢false (sym passes ∙ eigenvariable-Apply conclusion others f args)))

-- a variable differs from each of others where its term isn't among theirs
differ_each : (x : List ℕ) (names : List (List ℕ)) → list_any (same_term (Free x)) (map Free names) ≡ false → All (λ y. x ≢ y) names
differ_each x [] none = All-nil (λ y. x ≢ y)
differ_each x (y ∷ names) none =
    let parts = or_parts (same_term (Free x) (Free y)) (list_any (same_term (Free x)) (map Free names)) none in
    All-cons (λ z. x ≢ z) y names (λ same. true≢false (sym ((same_term-Decides (Free x) (Free y)).1 (ap Free same)) ∙ parts.0)) (differ_each x names parts.1)

not_among : (x : List ℕ) (names : List (List ℕ)) → All (λ y. x ≢ y) names → list_any (same_term (Free x)) (map Free names) ≡ false
not_among x [] differ = refl
not_among x (y ∷ names) differ =
    or_from (same_term (Free x) (Free y)) (list_any (same_term (Free x)) (map Free names))
    (false_from_ne_true (same_term (Free x) (Free y)) (λ same. All-head (λ z. x ≢ z) y names differ (same_Free ((same_term-Decides (Free x) (Free y)).0 same))))
    (not_among x names (All-tail (λ z. x ≢ z) y names differ))

fresh_each : (x : List ℕ) (conclusion : List SignedFormula) → list_all (λ item. not (free x item.formula)) conclusion ≡ true → All (λ item. free x item.formula ≡ false) conclusion
fresh_each x [] all = All-nil (λ item. free x item.formula ≡ false)
fresh_each x (item ∷ conclusion) all =
    let parts = and_parts (not (free x item.formula)) (list_all (λ other. not (free x other.formula)) conclusion) all in
    All-cons (λ other. free x other.formula ≡ false) item conclusion (not_true (free x item.formula) parts.0) (fresh_each x conclusion parts.1)

all_fresh : (x : List ℕ) (conclusion : List SignedFormula) → All (λ item. free x item.formula ≡ false) conclusion → list_all (λ item. not (free x item.formula)) conclusion ≡ true
all_fresh x [] each = refl
all_fresh x (item ∷ conclusion) each =
    and_from (not (free x item.formula)) (list_all (λ other. not (free x other.formula)) conclusion)
    (not_false (free x item.formula) (All-head (λ other. free x other.formula ≡ false) item conclusion each))
    (all_fresh x conclusion (All-tail (λ other. free x other.formula ≡ false) item conclusion each))

eigenvariables_pass : (conclusion : List SignedFormula) (terms : List Term) → are_eigenvariables conclusion terms ≡ true → AreEigenvariables conclusion terms
eigenvariables_pass conclusion [] passes = record { names = []; variables = refl; differ = λ i j d lt within. absurd (omega arith); fresh = All-nil (λ x. All (λ item. free x item.formula ≡ false) conclusion) }
eigenvariables_pass conclusion (t ∷ ts) passes =
    let parts = and_parts (is_eigenvariable conclusion ts t) (are_eigenvariables conclusion ts) passes in
    let first = variable_passes conclusion ts t parts.0 in
    let rest = eigenvariables_pass conclusion ts parts.1 in
    record {
      names = first.name ∷ rest.names;
      variables = λ i. first.is i ∷ rest.variables i;
      differ = AllPairs-cons (λ x y. x ≢ y) first.name rest.names (differ_each first.name rest.names (ap (list_any (same_term (Free first.name))) (sym rest.variables) ∙ first.differs)) rest.differ;
      fresh = All-cons (λ x. All (λ item. free x item.formula ≡ false) conclusion) first.name rest.names (fresh_each first.name conclusion first.fresh) rest.fresh;
    }

pass_eigenvariables : (conclusion : List SignedFormula) (names : List (List ℕ)) → AllPairs (λ x y. x ≢ y) names → All (λ x. All (λ item. free x item.formula ≡ false) conclusion) names → are_eigenvariables conclusion (map Free names) ≡ true
pass_eigenvariables conclusion [] differ fresh = refl
pass_eigenvariables conclusion (x ∷ names) differ fresh =
    let others : All (λ y. x ≢ y) names = λ i d lt. differ 0 (suc i) d (omega arith) (omega arith) in
    let rest : AllPairs (λ x y. x ≢ y) names = λ i j d lt within. differ (suc i) (suc j) d (omega arith) (omega arith) in
    and_from (is_eigenvariable conclusion (map Free names) (Free x)) (are_eigenvariables conclusion (map Free names))
    (eigenvariable-Free conclusion (map Free names) x
    ∙ and_from (not (list_any (same_term (Free x)) (map Free names))) (list_all (λ item. not (free x item.formula)) conclusion)
    (not_false (list_any (same_term (Free x)) (map Free names)) (not_among x names others))
    (all_fresh x conclusion (All-head (λ y. All (λ item. free y item.formula ≡ false) conclusion) x names fresh)))
    (pass_eigenvariables conclusion names rest (All-tail (λ y. All (λ item. free y item.formula ≡ false) conclusion) x names fresh))

-- terms pass exactly where they are eigenvariables
pub are_eigenvariables-Decides : (conclusion : List SignedFormula) (terms : List Term) → Decides (are_eigenvariables conclusion terms) (AreEigenvariables conclusion terms)
are_eigenvariables-Decides conclusion terms =
    (eigenvariables_pass conclusion terms, λ are. ap (are_eigenvariables conclusion) are.variables ∙ pass_eigenvariables conclusion are.names are.differ are.fresh)
