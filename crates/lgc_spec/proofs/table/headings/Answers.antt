use Rattle.std.proofs.Common.{refl}
use Rattle.lgc_spec.specs.Tables.{cell_at, heading_place}
use Rattle.lgc_spec.proofs.TableLaws.{one_more_place}
use Rattle.lgc_spec.proofs.table.headings.Goals as goal

pub loop-line-preserved : goal.loop-line-preserved
loop-line-preserved c =
    one_more_place (λ line. cell_at c.args.cells.now (heading_place c.args.n line)) c.loop-line.line _ _ _ c.loop-line.invariant c.in_ok-push.ensures.items refl
