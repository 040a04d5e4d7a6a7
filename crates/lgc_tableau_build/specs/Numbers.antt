-- Words of private calls: branches over the numbers of formulas, and which formulas are left to be split.
use Rattle.std.specs.Prelude.{◌≡◌, ◌≢◌, ◌<◌, ℕ, Bool, true, false, List, [], slice_index_or, slice_get, Some}
use Rattle.lgc_values.specs.Values.{has}
use Rattle.lgc_sequents.specs.Signed.{SignedFormula}
use Rattle.lgc_syntax.specs.declared.formula.Formula.{Formula}
use Rattle.lgc_numbering.specs.declared.node.Node.{Node}
use Rattle.lgc_numbering.specs.declared.node.Node.TheVariants.{Atom, Compound}
use Rattle.lgc_packed.specs.Packed.{marks, unpacked}
use Rattle.lgc_packed.specs.Packing.{AreKnown}

-- these are the items of a goal, each with the number of its formula
pub record IsNumbered (formulas : List Formula) (goal : List SignedFormula) (pairs : List (ℕ × List ℕ)) : Type 0 where
  pub known : AreKnown formulas pairs
  pub same : unpacked formulas pairs ≡ goal

-- ---- signs

-- the values that stand on each formula of a branch, by its number
abbrev pub AreSigns : ℕ → List (ℕ × List ℕ) → List (List ℕ) → Type 0
AreSigns n branch signs = (k w : ℕ) → w < n → has (slice_index_or signs k []) w ≡ marks branch k w

-- each value below n stands on a formula
abbrev pub IsFull : ℕ → List (ℕ × List ℕ) → ℕ → Type 0
IsFull n branch k = (w : ℕ) → w < n → marks branch k w ≡ true

abbrev pub IsNoneFull : ℕ → List (ℕ × List ℕ) → Type 0
IsNoneFull n branch = (k : ℕ) → IsFull n branch k → ⊥

-- the first formula with a value on the branch that has every value there
pub record IsFirstFullNumber (n : ℕ) (branch : List (ℕ × List ℕ)) (k : ℕ) : Type 0 where
  pub at : ℕ
  pub sign : List ℕ
  pub is : slice_get branch at ≡ Some (k, sign)
  pub signed : sign ≢ []
  pub full : IsFull n branch k
  pub before : (i : ℕ) (earlier : ℕ × List ℕ) → i < at → slice_get branch i ≡ Some earlier → earlier.1 ≢ [] → IsFull n branch earlier.0 → ⊥

-- ---- formulas that are left

-- whether the formula with a number is left
abbrev pub is_left : List Bool → ℕ → Bool
is_left left k = slice_index_or left k false

-- the numbers of a node's arguments
abbrev pub arguments_of : Node → List ℕ
arguments_of (Atom f) = []
arguments_of (Compound op args) = args

-- arguments have smaller numbers
abbrev pub AreNodesInOrder : List Node → Type 0
AreNodesInOrder nodes = (k a : ℕ) (node : Node) → slice_get nodes k ≡ Some node → has (arguments_of node) a ≡ true → a < k

-- no formula that is left has this argument
abbrev pub IsArgumentOfNone : List Node → List Bool → ℕ → Type 0
IsArgumentOfNone nodes left number = (j : ℕ) (node : Node) → is_left left j ≡ true → slice_get nodes j ≡ Some node → has (arguments_of node) number ≡ false

-- a formula is left, and none with a greater number
pub record IsLastLeft (left : List Bool) (k : ℕ) : Type 0 where
  pub is : is_left left k ≡ true
  pub last : (j : ℕ) → k < j → is_left left j ≡ false

-- a formula is left, and is an argument of no other one that is
pub record IsFree (nodes : List Node) (left : List Bool) (k : ℕ) : Type 0 where
  pub is : is_left left k ≡ true
  pub free : IsArgumentOfNone nodes left k
