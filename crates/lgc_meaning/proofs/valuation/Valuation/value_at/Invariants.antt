-- How the loop over the entries looks for the atom.
use Rattle.std.proofs.Common.{◌≡◌, drop}
use Rattle.lgc_syntax.specs.Values.{listed}
use Rattle.lgc_meaning.proofs.valuation.Valuation.value_at.Given as goal

abbrev pub invariant-loop-entry : goal.invariant-loop-entry
invariant-loop-entry l = listed l.entry-items l.atom ≡ listed (drop l.entry-index l.entry-items) l.atom
