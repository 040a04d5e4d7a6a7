-- The places of atoms in formulas, and the atoms at them, each once.
use Rattle.std.proofs.Common.{◌≡◌, ◌≢◌, ◌<◌, ℕ, suc, Bool, true, false, cond, List, [], ◌∷◌, ◌++◌, map, length, get_or, refl, sym, subst, ap, ◌∙◌, arith}
use Rattle.std.specs.List.{All, AllPairs, AllByRecursion, flat_map, list_any, fold}
use Rattle.std.proofs.lemmas.Bool.{both_ways}
use Rattle.std.proofs.lemmas.List.Elements.{All-append, All-cons}
use Rattle.std.proofs.lemmas.List.Folds.{list_any_at}
use Rattle.std.proofs.lemmas.List.Quantifiers.{all_pairs_push}
use Rattle.std.proofs.lemmas.List.Sums.{fold-append}
use Rattle.lgc_syntax.specs.declared.formula.Term.{Term}
use Rattle.lgc_syntax.specs.declared.formula.Formula.{Formula, Atom, Op, Quant}
use Rattle.lgc_syntax.specs.Equality.{same_formula}
use Rattle.lgc_syntax.proofs.EqualityLaws.{same_formula-Decides}
use Rattle.lgc_syntax.proofs.Induction.{formula_induction}
use Rattle.lgc_syntax.proofs.Lists.{each_always}
use Rattle.lgc_syntax.proofs.Folds.{fold-Atom, fold-Op, fold-Quant}
use Rattle.lgc_meaning.specs.Valuations.{is_atom, is_atom_layer, atom_places, atom_places_layer, with_atom, each_once}

flat_map-map : {X Y : Type 0} (g : X → List Y) (xs : List X) → flat_map (λ ys. ys) (map g xs) ≡ flat_map g xs
flat_map-map g [] = refl
flat_map-map g (x ∷ xs) = ap (λ ys. g x ++ ys) (flat_map-map g xs)

pub atom_places-Atom : (p : List ℕ) (args : List Term) → atom_places (Atom p args) ≡ Atom p args ∷ []
unfolding atom_places
atom_places-Atom p args = fold-Atom (List Formula) atom_places_layer p args

pub atom_places-Op : (o : ℕ) (args : List Formula) → atom_places (Op o args) ≡ flat_map atom_places args
unfolding atom_places
atom_places-Op o args = fold-Op (List Formula) atom_places_layer o args ∙ flat_map-map atom_places args

pub atom_places-Quant : (q : ℕ) (body : Formula) → atom_places (Quant q body) ≡ atom_places body
unfolding atom_places
atom_places-Quant q body = fold-Quant (List Formula) atom_places_layer q body

pub ruleset atom_rules = (atom_places-Atom, atom_places-Op, atom_places-Quant, fold-append)

-- ---- the places have atoms

pub is_atom-Atom : (p : List ℕ) (args : List Term) → is_atom (Atom p args) ≡ true
unfolding is_atom
is_atom-Atom p args = fold-Atom Bool is_atom_layer p args

all_of_each : (fs : List Formula) → AllByRecursion (λ f. All (λ atom. is_atom atom ≡ true) (atom_places f)) fs → All (λ atom. is_atom atom ≡ true) (flat_map atom_places fs)
all_of_each [] each = λ i d lt. absurd (omega arith)
all_of_each (f ∷ fs) each = All-append (λ atom. is_atom atom ≡ true) (atom_places f) (flat_map atom_places fs) each.0 (all_of_each fs each.1)

All-atom_places : (f : Formula) → All (λ atom. is_atom atom ≡ true) (atom_places f)
All-atom_places = formula_induction (λ f. All (λ atom. is_atom atom ≡ true) (atom_places f))
    (λ p args. subst (All (λ atom. is_atom atom ≡ true)) (sym (atom_places-Atom p args)) (All-cons (λ atom. is_atom atom ≡ true) (Atom p args) [] (is_atom-Atom p args) (λ i d lt. absurd (omega arith))))
    (λ o args each. subst (All (λ atom. is_atom atom ≡ true)) (sym (atom_places-Op o args)) (all_of_each args each))
    (λ q body all. subst (All (λ atom. is_atom atom ≡ true)) (sym (atom_places-Quant q body)) all)

-- ---- each atom once

-- what is true of a list is true of it with one more atom
with_atom-pick : (P : List Formula → Type 0) (atoms : List Formula) (atom : Formula) (b : Bool) → list_any (same_formula atom) atoms ≡ b → P atoms → (list_any (same_formula atom) atoms ≡ false → P (atoms ++ atom ∷ [])) → P (cond b atoms (atoms ++ atom ∷ []))
with_atom-pick P atoms atom true test here there = here
with_atom-pick P atoms atom false test here there = there test

differ_from : (atoms : List Formula) (atom : Formula) → list_any (same_formula atom) atoms ≡ false → (k : ℕ) (d : Formula) → k < length atoms → get_or atoms k d ≢ atom
differ_from atoms atom absent k d within e =
    both_ways (list_any (same_formula atom) atoms) absent (list_any_at (same_formula atom) atoms k d within ((same_formula-Decides atom (get_or atoms k d)).1 (sym e)))

pub All-each_once : (P : Formula → Type 0) (found places : List Formula) → All P found → All P places → All P (fold with_atom found places)
All-each_once P found [] all_found all = all_found
All-each_once P found (atom ∷ places) all_found all =
    All-each_once P (with_atom found atom) places
    (with_atom-pick (All P) found atom (list_any (same_formula atom) found) refl all_found (λ _. All-append P found (atom ∷ []) all_found (All-cons P atom [] (all 0 atom (omega arith)) (λ i d lt. absurd (omega arith)))))
    (λ i d lt. all (suc i) d (omega arith))

pub distinct-each_once : (found places : List Formula) → AllPairs (λ a b. a ≢ b) found → AllPairs (λ a b. a ≢ b) (fold with_atom found places)
distinct-each_once found [] distinct = distinct
distinct-each_once found (atom ∷ places) distinct =
    distinct-each_once (with_atom found atom) places
    (with_atom-pick (AllPairs (λ a b. a ≢ b)) found atom (list_any (same_formula atom) found) refl distinct (λ absent. all_pairs_push (λ a b. a ≢ b) found atom distinct (differ_from found atom absent)))

-- the atoms of formulas
pub atoms_are_atoms : (fs : List Formula) → All (λ atom. is_atom atom ≡ true) (each_once (flat_map atom_places fs))
atoms_are_atoms fs = All-each_once (λ atom. is_atom atom ≡ true) [] (flat_map atom_places fs) (λ i d lt. absurd (omega arith)) (all_of_each fs (each_always (λ f. All (λ atom. is_atom atom ≡ true) (atom_places f)) fs All-atom_places))

pub atoms_differ : (fs : List Formula) → AllPairs (λ a b. a ≢ b) (each_once (flat_map atom_places fs))
atoms_differ fs = distinct-each_once [] (flat_map atom_places fs) (λ i j d lt within. absurd (omega arith))
