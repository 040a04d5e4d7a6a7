use Rattle.std.proofs.Common.{length, ◌/◌, ◌%◌}
use Rattle.lgc_spec.specs.Tables.{table_value}
use Rattle.lgc_spec.proofs.TableLaws.{one_more_place}
use Rattle.lgc_spec.proofs.table.results.Goals as goal

pub loop-row-preserved : goal.loop-row-preserved
loop-row-preserved c =
    one_more_place (λ row. table_value c.args.bytes.now c.args.names.now c.args.cells.now (row / length c.args.names.now) (row % length c.args.names.now)) c.loop-row.row _ _ _ c.loop-row.invariant c.in_ok-push.ensures.ok c.result_at.ensures
