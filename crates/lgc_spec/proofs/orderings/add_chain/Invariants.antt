use Rattle.std.proofs.Common.{◌≡◌, ◌≤◌, ◌++◌, take}
use Rattle.lgc_spec.specs.Orderings.{chain_links}
use Rattle.lgc_spec.proofs.orderings.add_chain.Given as goal

abbrev pub invariant-loop-i : goal.invariant-loop-i
invariant-loop-i l = record {
  behind : 1 ≤ l.i;
  links : l.links.items ≡ l.initial.links.items ++ chain_links l.text l.names (take l.i l.chain);
}
