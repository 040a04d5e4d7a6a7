-- How many nodes a term or a formula has, how deep it is, whether it has a quantifier, and how many operators.
--
-- Each formula and each term inside is one node. The depth counts the nodes of the longest way down.
use Rattle.std.specs.Prelude.{ℕ, ◌+◌, max, Bool, true, false, List, [], ◌∷◌, map}
use Rattle.std.specs.List.{sum, list_any}
use Rattle.lgc_syntax.specs.declared.formula.Term.{Term, fold-Term}
use Rattle.lgc_syntax.specs.declared.formula.Term.TheOpen.{Term-F}
use Rattle.lgc_syntax.specs.declared.formula.Term.TheOpen as term
use Rattle.lgc_syntax.specs.declared.formula.Formula.{Formula, fold-Formula}
use Rattle.lgc_syntax.specs.declared.formula.Formula.TheOpen.{Formula-F}
use Rattle.lgc_syntax.specs.declared.formula.Formula.TheOpen as formula

-- the greatest number of a list, and 0 of none
abbrev pub greatest : List ℕ → ℕ
greatest [] = 0
greatest (n ∷ ns) = max n (greatest ns)

-- ---- nodes

abbrev pub term_nodes_layer : Term-F ℕ → ℕ
term_nodes_layer (term.Bound i) = 1
term_nodes_layer (term.Free x) = 1
term_nodes_layer (term.Apply f args) = 1 + sum args

unfoldable pub term_nodes : Term → ℕ
term_nodes = fold-Term ℕ term_nodes_layer

abbrev pub nodes_layer : Formula-F ℕ → ℕ
nodes_layer (formula.Atom p args) = 1 + sum (map term_nodes args)
nodes_layer (formula.Op o args) = 1 + sum args
nodes_layer (formula.Quant q body) = 1 + body

unfoldable pub nodes : Formula → ℕ
nodes = fold-Formula ℕ nodes_layer

-- ---- depth

abbrev pub term_depth_layer : Term-F ℕ → ℕ
term_depth_layer (term.Bound i) = 1
term_depth_layer (term.Free x) = 1
term_depth_layer (term.Apply f args) = 1 + greatest args

unfoldable pub term_depth : Term → ℕ
term_depth = fold-Term ℕ term_depth_layer

abbrev pub depth_layer : Formula-F ℕ → ℕ
depth_layer (formula.Atom p args) = 1 + greatest (map term_depth args)
depth_layer (formula.Op o args) = 1 + greatest args
depth_layer (formula.Quant q body) = 1 + body

unfoldable pub depth : Formula → ℕ
depth = fold-Formula ℕ depth_layer

-- ---- quantifiers

abbrev pub has_quantifier_layer : Formula-F Bool → Bool
has_quantifier_layer (formula.Atom p args) = false
has_quantifier_layer (formula.Op o args) = list_any (λ b. b) args
has_quantifier_layer (formula.Quant q body) = true

unfoldable pub has_quantifier : Formula → Bool
has_quantifier = fold-Formula Bool has_quantifier_layer

-- ---- operators

-- how many operators occur in a formula, each as often as it stands there
abbrev pub operators_layer : Formula-F ℕ → ℕ
operators_layer (formula.Atom p args) = 0
operators_layer (formula.Op o args) = 1 + sum args
operators_layer (formula.Quant q body) = body

unfoldable pub operators : Formula → ℕ
operators = fold-Formula ℕ operators_layer
