-- The atoms so far have their values.
use Rattle.std.proofs.Common.{◌≡◌, ◌++◌, length, map}
use Rattle.std.specs.Vec.Iter.{into_iter_items, into_iter_len}
use Rattle.lgc_syntax.specs.Values.{listed, value}
use Rattle.lgc_prove.proofs.evidence.values_of_atoms.Given as goal

abbrev pub invariant-loop-atom : goal.invariant-loop-atom
invariant-loop-atom g l =
    (l.yielded ++ into_iter_items l.atom-iterator ≡ into_iter_items l.initial.atom-iterator) × (into_iter_len l.atom-iterator ≡ length (into_iter_items l.atom-iterator)) × (l.values ≡ map (λ atom. (atom, value l.m (listed l.v) atom)) l.yielded)
