-- No formula so far is a compound.
use Rattle.std.proofs.Common.{◌≡◌, drop}
use Rattle.lgc_lemmas.specs.Nodes.{has_compound}
use Rattle.lgc_lemmas.proofs.atoms.compound_at.Given as goal

abbrev pub invariant-loop-i : goal.invariant-loop-i
invariant-loop-i g l = has_compound l.nodes l.pairs ≡ has_compound l.nodes (drop l.i l.pairs)
