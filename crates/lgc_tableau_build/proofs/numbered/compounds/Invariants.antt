-- The marks so far.
use Rattle.std.proofs.Common.{◌≡◌, map, take, Some}
use Rattle.lgc_lemmas.specs.Nodes.{is_compound_node}
use Rattle.lgc_tableau_build.proofs.numbered.compounds.Given as goal

abbrev pub invariant-loop-node : goal.invariant-loop-node
invariant-loop-node l = l.left ≡ map (λ node. is_compound_node (Some node)) (take l.node-index l.nodes)
