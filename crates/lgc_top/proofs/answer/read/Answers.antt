use Rattle.std.proofs.Common.{ap, ◌∙◌}
use Rattle.std.specs.Prelude.{Err}
use Rattle.lgc_top.specs.FaultLine.{read_line}
use Rattle.lgc_top.proofs.Stops.{read_failed}
use Rattle.lgc_top.proofs.answer.read.Goals as goal

pub returns-in-Err-Failed : goal.returns-in-Err-Failed
returns-in-Err-Failed g c = record {
  read =
      read_failed _ _ c.args.name.now c.refused.result
      (c.read_file.ensures.failed (c.in-Err-Failed.is ∙ ap Err c.in-Err-Failed.field-0-is))
      (c.refused.ensures (read_line c.args.name.now) c.read_line.ensures);
  kept = tt;
}
