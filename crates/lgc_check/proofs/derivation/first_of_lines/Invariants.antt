-- Nothing is found of the lines so far, and they have sequents.
use Rattle.std.proofs.Common.{◌+◌, take}
use Rattle.std.specs.List.{All}
use Rattle.lgc_sequents.specs.Sequents.{IsSequent}
use Rattle.lgc_steps.specs.StepFaults.{plain_rules}
use Rattle.lgc_check.specs.Causes.{found_of_line}
use Rattle.lgc_check.specs.Verdicts.{AreRightBefore}
use Rattle.lgc_check.proofs.derivation.first_of_lines.Given as goal

abbrev pub invariant-loop-i : goal.invariant-loop-i
invariant-loop-i g l = record {
  right : AreRightBefore (found_of_line g.row.N (plain_rules l.rules) l.lines) l.lines (l.i + 1);
  sequents : All (λ line. IsSequent g.row.N line.sequent) (take l.i l.lines);
}
