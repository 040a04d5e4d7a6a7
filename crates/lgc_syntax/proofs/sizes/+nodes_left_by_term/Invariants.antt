-- The nodes of the terms so far are counted off.
use Rattle.std.proofs.Common.{◌≡◌, ◌+◌, take}
use Rattle.std.specs.List.{sum_by}
use Rattle.lgc_syntax.specs.Sizes.{term_nodes}
use Rattle.lgc_syntax.proofs.sizes.+nodes_left_by_term.Given as goal

abbrev pub invariant-nodes_left_by_terms-loop-term : goal.invariant-nodes_left_by_terms-loop-term
invariant-nodes_left_by_terms-loop-term l = l.left + sum_by term_nodes (take l.term-index l.terms) ≡ l.many
