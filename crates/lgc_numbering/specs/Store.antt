-- Words of private calls: what is kept of numbered formulas, which is their nodes and the nodes' keys, and the numbers of a list of formulas.
use Rattle.std.specs.Prelude.{◌≡◌, ◌<◌, ℕ, List, All, length, map}
use Rattle.lgc_syntax.specs.declared.formula.Formula.{Formula}
use Rattle.lgc_numbering.specs.declared.node.Node.{Node}
use Rattle.lgc_numbering.specs.Numbering.{formula_at, formulas_of, AreNodesOf, IsNumbering}
use Rattle.lgc_numbering.specs.Keys.{key_of}

pub record IsStore (nodes : List Node) (keys : List (List ℕ)) : Type 0 where
  pub coded : keys ≡ map key_of nodes
  pub parts : AreNodesOf (formulas_of nodes) nodes
  pub numbering : IsNumbering (formulas_of nodes)

-- these are the numbers of formulas
pub record AreNumbersOf (formulas fs : List Formula) (numbers : List ℕ) : Type 0 where
  pub within : All (λ a. a < length formulas) numbers
  pub same : map (formula_at formulas) numbers ≡ fs
