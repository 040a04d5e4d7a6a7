-- The key of a node, by which it is found: a list of numbers that is no other node's.
use Rattle.std.specs.Prelude.{ℕ, ◌+◌, List, [], ◌∷◌, ◌++◌, length}
use Rattle.std.specs.List.{flat_map}
use Rattle.lgc_syntax.specs.declared.formula.Term.{Term, fold-Term}
use Rattle.lgc_syntax.specs.declared.formula.Term.TheOpen.{Term-F}
use Rattle.lgc_syntax.specs.declared.formula.Term.TheOpen as term
use Rattle.lgc_syntax.specs.declared.formula.Formula.{Formula, fold-Formula}
use Rattle.lgc_syntax.specs.declared.formula.Formula.TheOpen.{Formula-F}
use Rattle.lgc_syntax.specs.declared.formula.Formula.TheOpen as formula
use Rattle.lgc_numbering.specs.declared.node.Node.{Node}
use Rattle.lgc_numbering.specs.declared.node.Node.TheVariants as node

-- a name by its length and its bytes
abbrev pub name_key : List ℕ → List ℕ
name_key name = length name ∷ name

-- a term by its kind and its parts, of which there are as many as a number before them says
abbrev pub term_key_layer : Term-F (List ℕ) → List ℕ
term_key_layer (term.Bound i) = 0 ∷ i ∷ []
term_key_layer (term.Free x) = 1 ∷ name_key x
term_key_layer (term.Apply f args) = 2 ∷ name_key f ++ length args ∷ flat_map (λ key. key) args

unfoldable pub term_key : Term → List ℕ
term_key = fold-Term (List ℕ) term_key_layer

-- an atom by its name and its terms; no other formula has a key
abbrev pub atom_key_layer : Formula-F (List ℕ) → List ℕ
atom_key_layer (formula.Atom p args) = name_key p ++ length args ∷ flat_map term_key args
atom_key_layer (formula.Op o args) = []
atom_key_layer (formula.Quant q body) = []

unfoldable pub atom_key : Formula → List ℕ
atom_key = fold-Formula (List ℕ) atom_key_layer

-- an atom's key starts with 0, and a compound's with 1 more than its operator
abbrev pub key_of : Node → List ℕ
key_of (node.Atom atom) = 0 ∷ atom_key atom
key_of (node.Compound op args) = (op + 1) ∷ args
