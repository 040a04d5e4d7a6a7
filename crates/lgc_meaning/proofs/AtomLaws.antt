-- The atoms of formulas, each once: which are there, that they are subformulas, and that a valuation of them gives the formulas the values
-- that they have.
use Rattle.std.proofs.Common.{◌≡◌, ◌≢◌, ℕ, ◌<◌, Bool, true, false, cond, ◌||◌, List, [], ◌∷◌, ◌++◌, length, map, get_or, refl, sym, ◌∙◌, ap, subst, arith}
use Rattle.std.specs.List.{All, AllPairs, AllByRecursion, Contains, list_any, flat_map, fold}
use Rattle.std.proofs.Math.Bool.{or-false}
use Rattle.std.proofs.lemmas.List.{length-map, get_or-map, get_or_default}
use Rattle.std.proofs.lemmas.List.Elements.{All-nil, All-cons, All-head, All-tail, All-append, All-weaker, All-from_recursion, recursion_from_All}
use Rattle.std.proofs.lemmas.List.Folds.{list_any-append, list_any_at}
use Rattle.lgc_values.specs.Logic.{Logic}
use Rattle.lgc_syntax.specs.declared.formula.Formula.{Formula, Atom, Op, Quant}
use Rattle.lgc_syntax.specs.Equality.{same_formula}
use Rattle.lgc_syntax.specs.Fits.{Fits}
use Rattle.lgc_syntax.specs.Sizes.{has_quantifier}
use Rattle.lgc_syntax.specs.Subformulas.{IsSubformula, itself, of_argument, of_body}
use Rattle.lgc_syntax.specs.Values.{operation, listed, value}
use Rattle.lgc_syntax.proofs.EqualityLaws.{same_formula-Decides}
use Rattle.lgc_syntax.proofs.Induction.{formula_induction}
use Rattle.lgc_syntax.proofs.Lists.{map_each}
use Rattle.lgc_syntax.proofs.SubformulaLaws.{fits_subformula, propositional_subformula}
use Rattle.lgc_syntax.proofs.ValueLaws.{value-Atom, value-Op, value-Quant}
use Rattle.lgc_meaning.specs.Valuations.{atom_places, with_atom, each_once}
use Rattle.lgc_meaning.proofs.Parts.{All-flat_map}
use Rattle.lgc_meaning.proofs.Places.{All-each_once, atom_places-Atom, atom_places-Op, atom_places-Quant, atoms_differ}

-- ---- lists

All-of_parts : {X Y : Type 0} (P : Y → Type 0) (g : X → List Y) (xs : List X) → All (λ x. All P (g x)) xs → All P (flat_map g xs)
All-of_parts P g [] all = All-nil P
All-of_parts P g (x ∷ xs) all = All-append P (g x) (flat_map g xs) (All-head (λ x. All P (g x)) x xs all) (All-of_parts P g xs (All-tail (λ x. All P (g x)) x xs all))

each_then : {X : Type 0} (P Q : X → Type 0) (xs : List X) → AllByRecursion (λ x. P x → Q x) xs → AllByRecursion P xs → AllByRecursion Q xs
each_then P Q [] follows each = tt
each_then P Q (x ∷ xs) follows each = (follows.0 each.0, each_then P Q xs follows.1 each.1)

any_of_map : {X Y : Type 0} (p : Y → Bool) (f : X → Y) (xs : List X) → list_any p (map f xs) ≡ list_any (λ x. p (f x)) xs
any_of_map p f [] = refl
any_of_map p f (x ∷ xs) = ap (λ b. p (f x) || b) (any_of_map p f xs)

-- ---- each atom once

any-with_atom : (found : List Formula) (atom a : Formula) → list_any (same_formula a) (with_atom found atom) ≡ (list_any (same_formula a) found || same_formula a atom)
any-with_atom found atom a = cases (list_any (same_formula atom) found) refl where
  known : (b : Bool) → list_any (same_formula atom) found ≡ true → same_formula a atom ≡ b → list_any (same_formula a) found ≡ (list_any (same_formula a) found || b)
  known true there same =
      let here : list_any (same_formula a) found ≡ true = ap (λ x. list_any (same_formula x) found) ((same_formula-Decides a atom).0 same) ∙ there in
      here ∙ ap (λ b. b || true) (sym here)
  known false there different = sym (or-false (list_any (same_formula a) found))

  cases : (b : Bool) → list_any (same_formula atom) found ≡ b → list_any (same_formula a) (cond b found (found ++ atom ∷ [])) ≡ (list_any (same_formula a) found || same_formula a atom)
  cases true there = known (same_formula a atom) there refl
  cases false absent = list_any-append (same_formula a) found (atom ∷ []) ∙ ap (λ b. list_any (same_formula a) found || b) (or-false (same_formula a atom))

any-fold : (a : Formula) (found places : List Formula) → list_any (same_formula a) (fold with_atom found places) ≡ (list_any (same_formula a) found || list_any (same_formula a) places)
any-fold a found [] = sym (or-false (list_any (same_formula a) found))
any-fold a found (atom ∷ places) =
    any-fold a (with_atom found atom) places
    ∙ ap (λ b. b || list_any (same_formula a) places) (any-with_atom found atom a)
    ∙ regrouped (list_any (same_formula a) found) (same_formula a atom) (list_any (same_formula a) places) where
      regrouped : (x y z : Bool) → ((x || y) || z) ≡ (x || (y || z))
      regrouped true y z = refl
      regrouped false y z = refl

-- the same atoms are there
pub any-each_once : (a : Formula) (places : List Formula) → list_any (same_formula a) (each_once places) ≡ list_any (same_formula a) places
any-each_once a places = any-fold a [] places

-- ---- subformulas

atoms_are_subformulas : (f : Formula) → All (λ atom. IsSubformula atom f) (atom_places f)
atoms_are_subformulas = formula_induction (λ f. All (λ atom. IsSubformula atom f) (atom_places f))
    (λ p args. subst (All (λ atom. IsSubformula atom (Atom p args))) (sym (atom_places-Atom p args)) (All-cons (λ atom. IsSubformula atom (Atom p args)) (Atom p args) [] itself (All-nil (λ atom. IsSubformula atom (Atom p args)))))
    (λ o args each. subst (All (λ atom. IsSubformula atom (Op o args))) (sym (atom_places-Op o args)) (All-of_parts (λ atom. IsSubformula atom (Op o args)) atom_places args (of_arguments o args each)))
    (λ q body all. subst (All (λ atom. IsSubformula atom (Quant q body))) (sym (atom_places-Quant q body)) (All-weaker (λ atom. IsSubformula atom body) (λ atom. IsSubformula atom (Quant q body)) (λ atom part. of_body q body part) (atom_places body) all)) where
      of_arguments : (o : ℕ) (args : List Formula) → AllByRecursion (λ f. All (λ atom. IsSubformula atom f) (atom_places f)) args → All (λ a. All (λ atom. IsSubformula atom (Op o args)) (atom_places a)) args
      of_arguments o args each i d lt =
          let a = get_or args i d in
          let among : Contains args a = (i, lt, get_or_default args i a d lt) in
          All-weaker (λ atom. IsSubformula atom a) (λ atom. IsSubformula atom (Op o args)) (λ atom part. of_argument o args a among part) (atom_places a)
          (All-from_recursion (λ f. All (λ atom. IsSubformula atom f) (atom_places f)) args each i d lt)

-- the atoms of formulas of a logic are formulas of the logic, without quantifiers
pub atoms_fit : (logic : Logic) (fs : List Formula) → All (Fits logic) fs → All (λ f. has_quantifier f ≡ false) fs → All (λ atom. Fits logic atom × (has_quantifier atom ≡ false)) (each_once (flat_map atom_places fs))
atoms_fit logic fs fit propositional =
    let P : Formula → Type 0 = λ atom. Fits logic atom × (has_quantifier atom ≡ false) in
    All-each_once P [] (flat_map atom_places fs) (All-nil P) (All-of_parts P atom_places fs (λ i d lt.
    let f = get_or fs i d in
    All-weaker (λ atom. IsSubformula atom f) P (λ atom part. (fits_subformula logic atom f part (propositional i d lt) (fit i d lt), propositional_subformula atom f part (propositional i d lt))) (atom_places f) (atoms_are_subformulas f)))

-- ---- the valuation of the atoms

-- the entries of the atoms of formulas with their values are of these atoms
pub entries_are_of_atoms : (g : Formula → ℕ) (fs : List Formula) (a : Formula) → list_any (λ (entry : Formula × ℕ). same_formula a entry.0) (map (λ atom. (atom, g atom)) (each_once (flat_map atom_places fs))) ≡ list_any (same_formula a) (flat_map atom_places fs)
entries_are_of_atoms g fs a =
    any_of_map (λ (entry : Formula × ℕ). same_formula a entry.0) (λ atom. (atom, g atom)) (each_once (flat_map atom_places fs)) ∙ any-each_once a (flat_map atom_places fs)

-- and no atom stands twice
pub entries_differ : (g : Formula → ℕ) (fs : List Formula) → AllPairs (λ (a b : Formula × ℕ). a.0 ≢ b.0) (map (λ atom. (atom, g atom)) (each_once (flat_map atom_places fs)))
entries_differ g fs = λ i j d before within same.
    let atoms = each_once (flat_map atom_places fs) in
    let entry : Formula → (Formula × ℕ) = λ atom. (atom, g atom) in
    let inside : j < length atoms = omega (arith, within, length-map atoms entry) in
    let first = ap (λ (e : Formula × ℕ). e.0) (get_or-map entry atoms i d.0 d (omega arith)) in
    let later = ap (λ (e : Formula × ℕ). e.0) (get_or-map entry atoms j d.0 d inside) in
    atoms_differ fs i j d.0 before inside (sym first ∙ same ∙ later)

listed_value : (g : Formula → ℕ) (atoms : List Formula) (a : Formula) → list_any (same_formula a) atoms ≡ true → listed (map (λ atom. (atom, g atom)) atoms) a ≡ g a
listed_value g [] a there = cc
listed_value g (atom ∷ atoms) a there = cases (same_formula a atom) refl there (listed_value g atoms a) where
  cases : (b : Bool) → same_formula a atom ≡ b → (b || list_any (same_formula a) atoms) ≡ true → (list_any (same_formula a) atoms ≡ true → listed (map (λ f. (f, g f)) atoms) a ≡ g a) → cond b (g atom) (listed (map (λ f. (f, g f)) atoms) a) ≡ g a
  cases true same there later = ap g (sym ((same_formula-Decides a atom).0 same))
  cases false different there later = later there

-- a formula has its value under the valuation of its atoms
module _ (logic : Logic) (v : Formula → ℕ) (atoms : List Formula) where
  abbrev told : Formula → ℕ
  told = listed (map (λ atom. (atom, value logic v atom)) atoms)

  abbrev AreListed : Formula → Type 0
  AreListed f = All (λ atom. list_any (same_formula atom) atoms ≡ true) (atom_places f)

  abbrev IsSame : Formula → Type 0
  IsSame f = value logic told f ≡ value logic v f

  same_value : (f : Formula) → AreListed f → IsSame f
  same_value = formula_induction (λ f. AreListed f → IsSame f)
      (λ p args here.
      let there : list_any (same_formula (Atom p args)) atoms ≡ true = All-head (λ atom. list_any (same_formula atom) atoms ≡ true) (Atom p args) [] (subst (All (λ atom. list_any (same_formula atom) atoms ≡ true)) (atom_places-Atom p args) here) in
      value-Atom logic told p args ∙ listed_value (value logic v) atoms (Atom p args) there)
      (λ o args each here.
      let below = All-flat_map (λ atom. list_any (same_formula atom) atoms ≡ true) atom_places args (subst (All (λ atom. list_any (same_formula atom) atoms ≡ true)) (atom_places-Op o args) here) in
      value-Op logic told o args
      ∙ ap (operation logic o) (map_each (value logic told) (value logic v) args (each_then AreListed IsSame args each (recursion_from_All AreListed args below)))
      ∙ sym (value-Op logic v o args))
      (λ q body same here. value-Quant logic told q body ∙ sym (value-Quant logic v q body))

-- so the formulas have their values under the valuation of their atoms
pub same_values : (logic : Logic) (v : Formula → ℕ) (fs : List Formula) → All (λ f. value logic (listed (map (λ atom. (atom, value logic v atom)) (each_once (flat_map atom_places fs)))) f ≡ value logic v f) fs
same_values logic v fs =
    let places = flat_map atom_places fs in
    let atoms = each_once places in
    let Q : Formula → Type 0 = λ atom. list_any (same_formula atom) atoms ≡ true in
    let all : All Q places = λ i d lt. any-each_once (get_or places i d) places ∙ list_any_at (same_formula (get_or places i d)) places i d lt ((same_formula-Decides (get_or places i d) (get_or places i d)).1 refl) in
    All-weaker (AreListed logic v atoms) (IsSame logic v atoms) (same_value logic v atoms) fs (All-flat_map Q atom_places fs all)
