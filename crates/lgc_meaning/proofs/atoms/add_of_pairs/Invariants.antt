-- The atoms of the equations before are there.
use Rattle.std.proofs.Common.{◌≡◌, drop}
use Rattle.std.specs.List.{flat_map, fold}
use Rattle.lgc_meaning.specs.Valuations.{atom_places, with_atom}
use Rattle.lgc_meaning.specs.Queries.{sides}
use Rattle.lgc_meaning.proofs.atoms.add_of_pairs.Given as goal

abbrev pub invariant-loop-pair : goal.invariant-loop-pair
invariant-loop-pair l = fold with_atom l.initial.atoms (flat_map atom_places (flat_map sides l.pairs)) ≡ fold with_atom l.atoms (flat_map atom_places (flat_map sides (drop l.pair-index l.pairs)))
