-- Formulas by their parts: when they are formulas of a logic, and values that go by its tables.
use Rattle.std.specs.Prelude.{◌≡◌, ◌<◌, ℕ, Bool, true, false, List, [], ◌∷◌, All, length, map, slice_get, Some, None, Option}
use Rattle.std.specs.List.{list_any}
use Rattle.lgc_values.specs.Logic.{Logic, operator_at}
use Rattle.lgc_syntax.specs.Values.{operation}
use Rattle.lgc_numbering.specs.declared.node.Node.{Node}
use Rattle.lgc_numbering.specs.declared.node.Node.TheVariants.{Atom, Compound}

-- a compound of a logic: its operator exists and takes so many arguments, which stand before it
pub record IsCompound (logic : Logic) (k op : ℕ) (arguments : List ℕ) : Type 0 where
  pub known : op < length logic.operators
  pub arity : length arguments ≡ (operator_at logic op).arity
  pub before : All (λ argument. argument < k) arguments

-- the nodes are those of formulas of the logic
abbrev pub AreNodes : Logic → List Node → Type 0
AreNodes logic nodes = (k op : ℕ) (arguments : List ℕ) → slice_get nodes k ≡ Some (Compound op arguments) → IsCompound logic k op arguments

-- Numbered formulas have these values: an atom any truth value, a compound the one that its operator has at the values of its arguments.
pub record AreValues (logic : Logic) (nodes : List Node) (value : ℕ → ℕ) : Type 0 where
  pub below : (k : ℕ) → value k < logic.size
  pub compounds : (k op : ℕ) (arguments : List ℕ) → slice_get nodes k ≡ Some (Compound op arguments) → value k ≡ operation logic op (map value arguments)

-- each number of a sequent is that of a node
abbrev pub HasNumbersBelow : ℕ → List (ℕ × List ℕ) → Type 0
HasNumbersBelow count pairs = All (λ pair. pair.0 < count) pairs

-- whether a node is a compound, and whether some formula of a sequent is
abbrev pub is_compound_node : Option Node → Bool
is_compound_node None = false
is_compound_node (Some (Atom f)) = false
is_compound_node (Some (Compound op arguments)) = true

abbrev pub has_compound : List Node → List (ℕ × List ℕ) → Bool
has_compound nodes pairs = list_any (λ pair. is_compound_node (slice_get nodes pair.0)) pairs

-- the formula at a place is a compound
pub record IsCompoundAt (nodes : List Node) (pairs : List (ℕ × List ℕ)) (at : ℕ) : Type 0 where
  pub number : ℕ
  pub sign : List ℕ
  pub op : ℕ
  pub arguments : List ℕ
  pub is : slice_get pairs at ≡ Some (number, sign)
  pub compound : slice_get nodes number ≡ Some (Compound op arguments)
