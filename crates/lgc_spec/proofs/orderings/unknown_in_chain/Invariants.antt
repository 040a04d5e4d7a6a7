use Rattle.std.proofs.Common.{◌≡◌, take, None}
use Rattle.std.specs.List.{flat_map}
use Rattle.lgc_spec.specs.Words.{unknown_word}
use Rattle.lgc_spec.proofs.orderings.unknown_in_chain.Given as goal

abbrev pub invariant-loop-node : goal.invariant-loop-node
invariant-loop-node l = unknown_word l.text l.names (flat_map (λ node. node) (take l.node-index l.chain)) ≡ None
