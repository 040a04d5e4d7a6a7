-- The atoms of the formulas before are there.
use Rattle.std.proofs.Common.{◌≡◌, drop}
use Rattle.std.specs.List.{flat_map, fold}
use Rattle.lgc_meaning.specs.Valuations.{atom_places, with_atom}
use Rattle.lgc_meaning.proofs.atoms.+add_of_formula.Given as goal

abbrev pub invariant-add_of_formulas-loop-f : goal.invariant-add_of_formulas-loop-f
invariant-add_of_formulas-loop-f l = fold with_atom l.initial.atoms (flat_map atom_places l.fs) ≡ fold with_atom l.atoms (flat_map atom_places (drop l.f-index l.fs))
