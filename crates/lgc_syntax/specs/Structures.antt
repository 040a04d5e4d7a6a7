-- The value of a formula in a finite structure, under an assignment.
use Rattle.std.specs.Prelude.{◌≡◌, ◌≢◌, ◌≤◌, ◌<◌, ℕ, List, ◌∷◌, map, slice_index}
use Rattle.std.specs.List.{range_with_len}
use Rattle.lgc_values.specs.Values.{has, values_where}
use Rattle.lgc_values.specs.Logic.{Logic, value_over}
use Rattle.lgc_syntax.specs.declared.formula.Term.{Term, fold-Term}
use Rattle.lgc_syntax.specs.declared.formula.Term.TheOpen.{Term-F}
use Rattle.lgc_syntax.specs.declared.formula.Term.TheOpen as term
use Rattle.lgc_syntax.specs.declared.formula.Formula.{Formula, fold-Formula}
use Rattle.lgc_syntax.specs.declared.formula.Formula.TheOpen.{Formula-F}
use Rattle.lgc_syntax.specs.declared.formula.Formula.TheOpen as formula
use Rattle.lgc_syntax.specs.Values.{operation}

-- A finite structure. Its elements are the numbers below `size`. A predicate has a truth value at a list of elements, and a function an
-- element; with how many elements they are asked for tells symbols of one name apart.
pub record Structure : Type 0 where
  pub size : ℕ
  pub predicate : List ℕ → List ℕ → ℕ
  pub function : List ℕ → List ℕ → ℕ

-- the elements of a structure
abbrev pub elements : Structure → List ℕ
elements M = range_with_len 0 M.size

-- it has an element, and what it gives are truth values of the logic and elements
pub record IsStructure (logic : Logic) (M : Structure) : Type 0 where
  pub nonempty : 1 ≤ M.size
  pub predicates : (p : List ℕ) (arguments : List ℕ) → M.predicate p arguments < logic.size
  pub functions : (f : List ℕ) (arguments : List ℕ) → M.function f arguments < M.size

-- an assignment gives each variable an element
abbrev pub IsAssignment : Structure → (List ℕ → ℕ) → Type 0
IsAssignment M s = (x : List ℕ) → s x < M.size

-- the element of a term, where e has the elements of the quantifiers around, the innermost first
abbrev pub element_layer : Structure → (List ℕ → ℕ) → Term-F (List ℕ → ℕ) → List ℕ → ℕ
element_layer M s (term.Bound i) e = slice_index e i
element_layer M s (term.Free x) e = s x
element_layer M s (term.Apply f args) e = M.function f (map (λ a. a e) args)

unfoldable pub element : Structure → (List ℕ → ℕ) → Term → List ℕ → ℕ
element M s = fold-Term (List ℕ → ℕ) (element_layer M s)

-- the set of the values that stand in a list, as a rising list
abbrev pub set_of_values : Logic → List ℕ → List ℕ
set_of_values logic values = values_where logic.size (has values)

-- The value of a formula. That of a quantified one is the quantifier's at the set of the values that the body takes over all elements.
abbrev pub value_in_layer : Logic → Structure → (List ℕ → ℕ) → Formula-F (List ℕ → ℕ) → List ℕ → ℕ
value_in_layer logic M s (formula.Atom p args) e = M.predicate p (map (λ a. element M s a e) args)
value_in_layer logic M s (formula.Op o args) e = operation logic o (map (λ a. a e) args)
value_in_layer logic M s (formula.Quant q body) e = value_over logic q (set_of_values logic (map (λ x. body (x ∷ e)) (elements M)))

unfoldable pub value_in : Logic → Structure → (List ℕ → ℕ) → Formula → List ℕ → ℕ
value_in logic M s = fold-Formula (List ℕ → ℕ) (value_in_layer logic M s)

-- The law of substitution: in every structure, under every assignment, f has the value that the body has where the element of t is that
-- of the quantifier around.
abbrev pub HasValueOfBody : Formula → Term → Formula → Type 0
HasValueOfBody body t f = (logic : Logic) (M : Structure) (s : List ℕ → ℕ) (e : List ℕ) → value_in logic M s f e ≡ value_in logic M s body (element M s t e ∷ e)

-- A variable that doesn't matter for f: in every structure, f has one value under assignments that give all other variables the same
-- elements.
abbrev pub IsIndependent : List ℕ → Formula → Type 0
IsIndependent x f = (logic : Logic) (M : Structure) (s s' : List ℕ → ℕ) (e : List ℕ) → ((y : List ℕ) → y ≢ x → s y ≡ s' y) → value_in logic M s f e ≡ value_in logic M s' f e
