use Rattle.std.proofs.Common.{◌≡◌, take}
use Rattle.lgc_spec.specs.Orderings.{links_of}
use Rattle.lgc_spec.proofs.orderings.links_of.Given as goal

abbrev pub invariant-loop-chain : goal.invariant-loop-chain
invariant-loop-chain l = l.links.items ≡ links_of l.text l.names (take l.chain-index l.chains)
