use Rattle.std.proofs.Common.{◌≡◌, take, None}
use Rattle.std.specs.List.{flat_map}
use Rattle.lgc_spec.specs.Words.{unknown_word}
use Rattle.lgc_spec.proofs.orderings.unknown_word.Given as goal

abbrev pub invariant-loop-chain : goal.invariant-loop-chain
invariant-loop-chain l = unknown_word l.text l.names (flat_map (flat_map (λ node. node)) (take l.chain-index l.chains)) ≡ None
