-- Formulas with numbers: each compound stands behind its arguments.
use Rattle.std.specs.Prelude.{◌≡◌, ◌≢◌, ◌<◌, ℕ, false, List, [], ◌∷◌, ◌++◌, All, AllPairs, map, length, slice_get, Some, unwrap_or}
use Rattle.std.specs.List.{fold}
use Rattle.lgc_syntax.specs.declared.formula.Term.{Term}
use Rattle.lgc_syntax.specs.declared.formula.Formula.{Formula, Atom, Op}
use Rattle.lgc_syntax.specs.Sizes.{has_quantifier}
use Rattle.lgc_numbering.specs.declared.node.Node.{Node}
use Rattle.lgc_numbering.specs.declared.node.Node.TheVariants as node

-- the formula with a number, counted from 0; past the end an atom stands for it
abbrev pub formula_at : List Formula → ℕ → Formula
formula_at formulas k = unwrap_or (slice_get formulas k) (Atom [] [])

-- the formula of a node, where the formulas before it have these numbers
abbrev pub formula_of : List Formula → Node → Formula
formula_of before (node.Atom atom) = atom
formula_of before (node.Compound op args) = Op op (map (formula_at before) args)

-- the formulas of nodes, in their order
abbrev pub formulas_of : List Node → List Formula
formulas_of nodes = fold (λ before node. before ++ formula_of before node ∷ []) [] nodes

-- one of the first k formulas is this one
pub record StandsBefore (formulas : List Formula) (k : ℕ) (f : Formula) : Type 0 where
  pub place : ℕ
  pub before : place < k
  pub is : slice_get formulas place ≡ Some f

-- what is asked of numbered formulas: each has one number, and the arguments of a compound stand before it
pub record IsNumbering (formulas : List Formula) : Type 0 where
  pub distinct : AllPairs (λ a b. a ≢ b) formulas
  pub propositional : All (λ f. has_quantifier f ≡ false) formulas
  pub arguments : (k op : ℕ) (args : List Formula) → slice_get formulas k ≡ Some (Op op args) → All (StandsBefore formulas k) args

-- a node over the first n formulas: an atom, or an operator with numbers below n
abbrev pub IsNode : ℕ → Node → Type 0
IsNode n (node.Atom atom) = (p : List ℕ) × (args : List Term) × (atom ≡ Atom p args)
IsNode n (node.Compound op args) = All (λ a. a < n) args

-- the node with a number is that of the formula with this number, and is over the formulas before it
pub record AreNodesOf (formulas : List Formula) (nodes : List Node) : Type 0 where
  pub count : length nodes ≡ length formulas
  pub over : (k : ℕ) (a : Node) → slice_get nodes k ≡ Some a → IsNode k a
  pub formula : (k : ℕ) (a : Node) → slice_get nodes k ≡ Some a → slice_get formulas k ≡ Some (formula_of formulas a)
