-- What is true of the parts of queries that can be written: they can be written too, and have no quantifiers.
use Rattle.std.proofs.Common.{◌≡◌, suc, true, false, List, [], ◌∷◌, refl, sym, subst, arith}
use Rattle.std.specs.Prelude.{All, Contains}
use Rattle.std.specs.List.{AllByRecursion, Any, flat_map, list_any}
use Rattle.std.proofs.lemmas.List.Elements.{All-append, All-cons, All-nil, All-weaker, All-contains}
use Rattle.std.proofs.lemmas.Map.Views.{Contains-from_any}
use Rattle.lgc_values.specs.Logic.{Logic}
use Rattle.lgc_syntax.specs.declared.formula.Formula.{Formula, Atom, Op, Quant}
use Rattle.lgc_syntax.specs.Sizes.{has_quantifier}
use Rattle.lgc_syntax.specs.Subformulas.{IsSubformula, itself, of_body}
use Rattle.lgc_syntax.specs.Equality.{same_formula}
use Rattle.lgc_syntax.proofs.EqualityLaws.{same_formula-Decides}
use Rattle.lgc_syntax.proofs.Induction.{formula_induction}
use Rattle.lgc_syntax.proofs.Lists.{each_always}
use Rattle.lgc_syntax.proofs.SubformulaLaws.{propositional_subformula, subformula_of_some}
use Rattle.lgc_meaning.specs.declared.query.Query.{Query}
use Rattle.lgc_meaning.specs.Queries.{formulas_of}
use Rattle.lgc_meaning.specs.Valuations.{atom_places}
use Rattle.lgc_meaning.proofs.Places.{atom_places-Atom, atom_places-Op, atom_places-Quant}
use Rattle.lgc_formulas.specs.declared.formula.TheConstants.{MOST_NODES}
use Rattle.lgc_formulas.specs.FormulaTexts.{text_setting}
use Rattle.lgc_query_trip.proofs.Subformulas.{query_subformula_writable}
use Rattle.lgc_report.specs.Writable.{IsReadable}
use Rattle.lgc_queries.specs.Asked.{IsAsked}
use Rattle.lgc_prove.specs.Answers.{IsPartOf}

-- ---- lists

some_here : {X : Type 0} (P : X → Type 0) (x : X) (xs : List X) → P x → Any P (x ∷ xs)
some_here P x xs is = (0, x, omega arith, refl, is)

some_there : {X : Type 0} (P : X → Type 0) (x : X) (xs : List X) → Any P xs → Any P (x ∷ xs)
some_there P x xs some = (suc some.0, some.1, omega (arith, some.2), some.3, some.4)

-- ---- atoms are parts

-- the formula at a place of atoms, among those of several formulas, is a subformula of one of them
some_place : (fs : List Formula) → AllByRecursion (λ f. All (λ atom. IsSubformula atom f) (atom_places f)) fs → All (λ atom. Any (IsSubformula atom) fs) (flat_map atom_places fs)
some_place [] each = All-nil (λ atom. Any (IsSubformula atom) [])
some_place (f ∷ fs) each =
    All-append (λ atom. Any (IsSubformula atom) (f ∷ fs)) (atom_places f) (flat_map atom_places fs)
    (All-weaker (λ atom. IsSubformula atom f) (λ atom. Any (IsSubformula atom) (f ∷ fs)) (λ atom part. some_here (IsSubformula atom) f fs part) (atom_places f) each.0)
    (All-weaker (λ atom. Any (IsSubformula atom) fs) (λ atom. Any (IsSubformula atom) (f ∷ fs)) (λ atom some. some_there (IsSubformula atom) f fs some) (flat_map atom_places fs) (some_place fs each.1))

-- an atom that stands in a formula is a subformula
places_are_parts : (f : Formula) → All (λ atom. IsSubformula atom f) (atom_places f)
places_are_parts = formula_induction (λ f. All (λ atom. IsSubformula atom f) (atom_places f))
    (λ p args. subst (All (λ atom. IsSubformula atom (Atom p args))) (sym (atom_places-Atom p args)) (All-cons (λ atom. IsSubformula atom (Atom p args)) (Atom p args) [] itself (All-nil (λ atom. IsSubformula atom (Atom p args)))))
    (λ o args each. subst (All (λ atom. IsSubformula atom (Op o args))) (sym (atom_places-Op o args))
    (All-weaker (λ atom. Any (IsSubformula atom) args) (λ atom. IsSubformula atom (Op o args)) (λ atom some. subformula_of_some o args atom some) (flat_map atom_places args) (some_place args each)))
    (λ q body all. subst (All (λ atom. IsSubformula atom (Quant q body))) (sym (atom_places-Quant q body))
    (All-weaker (λ atom. IsSubformula atom body) (λ atom. IsSubformula atom (Quant q body)) (λ atom part. of_body q body part) (atom_places body) all))

-- an atom that is found among those of a query is a part of it
pub atom_is_part : (query : Query) (atom : Formula) → list_any (same_formula atom) (flat_map atom_places (formulas_of query)) ≡ true → Any (IsSubformula atom) (formulas_of query)
atom_is_part query atom found =
    let places : List Formula = flat_map atom_places (formulas_of query) in
    All-contains (λ a. Any (IsSubformula a) (formulas_of query)) places atom (some_place (formulas_of query) (each_always (λ f. All (λ a. IsSubformula a f) (atom_places f)) (formulas_of query) places_are_parts))
    (Contains-from_any (λ a b same. (same_formula-Decides a b).0 same) atom places found)

-- ---- parts of queries

module _ (logic : Logic) (asked : List Query) (are : All (IsAsked logic) asked) where
  -- a part of one of the queries
  pub part_of_one : (P : Formula → Type 0) → ((query : Query) (f g : Formula) → IsAsked logic query → Contains (formulas_of query) g → IsSubformula f g → P f) → (f : Formula) → IsPartOf asked f → P f
  part_of_one P each f part =
      let query : Query = part.1 in
      let inner = part.4 in
      each query f inner.1 (All-contains (IsAsked logic) asked query are (part.0, part.2, part.3)) (inner.0, inner.2, inner.3) inner.4

  -- it can be written
  pub part_readable : (f : Formula) → IsPartOf asked f → IsReadable logic f
  part_readable = part_of_one (IsReadable logic) (λ query f g is among part. query_subformula_writable (text_setting logic) MOST_NODES query f g is.writable is.propositional among part)

  -- and it has no quantifier
  pub part_propositional : (f : Formula) → IsPartOf asked f → has_quantifier f ≡ false
  part_propositional = part_of_one (λ f. has_quantifier f ≡ false)
      (λ query f g is among part. propositional_subformula f g part (All-contains (λ h. has_quantifier h ≡ false) (formulas_of query) g is.propositional among))
