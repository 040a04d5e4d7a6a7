-- The marked lemmas so far have lines, and what was appended for them.
use Rattle.std.proofs.Common.{◌≡◌, List, length}
use Rattle.lgc_sequents.specs.Signed.{SignedFormula}
use Rattle.lgc_decision.specs.Decided.{AreSubformulasOf}
use Rattle.lgc_proofs.specs.Found.{AreAppended}
use Rattle.lgc_proofs.specs.Writing.{HaveLines}
use Rattle.lgc_proofs.proofs.writing.write_lines.Given as goal

abbrev pub invariant-loop-place : goal.invariant-loop-place
invariant-loop-place g l =
    (length l.positions.items ≡ l.place)
    × HaveLines l.formulas l.lemmas l.proofs l.marks l.positions.items l.place
    × ((goal : List SignedFormula) → AreSubformulasOf goal l.formulas → AreAppended l.m l.book goal l.fn.proofs l.proofs)
