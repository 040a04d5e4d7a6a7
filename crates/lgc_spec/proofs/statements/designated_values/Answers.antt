use Rattle.std.proofs.Common.{sym}
use Rattle.lgc_spec.specs.Statements.{designated_in}
use Rattle.lgc_spec.proofs.StatementLaws.{first_some_found, first_some_passes}
use Rattle.lgc_spec.proofs.statements.designated_values.Goals as goal

pub returns-in-Some : goal.returns-in-Some
returns-in-Some c =
    sym (first_some_found designated_in c.args.statements.now c.loop-statement.statement-index _ _ c.loop-statement-test.true c.statement-item.is c.loop-statement.invariant (sym c.in-Some.ensures))

pub loop-statement-preserved : goal.loop-statement-preserved
loop-statement-preserved c =
    first_some_passes designated_in c.args.statements.now c.loop-statement.statement-index _ c.loop-statement-test.true c.statement-item.is c.loop-statement.invariant (sym c.in_default.ensures)
