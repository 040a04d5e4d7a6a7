-- The cases before have them.
use Rattle.std.proofs.Common.{take}
use Rattle.lgc_tableau_check.specs.Branches.{HaveArguments}
use Rattle.lgc_tableau_check.proofs.split.have_arguments.Given as goal

abbrev pub invariant-loop-case : goal.invariant-loop-case
invariant-loop-case g l = HaveArguments l.args (take l.case-index l.cases)
