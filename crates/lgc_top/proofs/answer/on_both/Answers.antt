use Rattle.std.proofs.Common.{Some, sym, subst}
use Rattle.lgc_io.specs.Files.{FilesState}
use Rattle.lgc_top.specs.Commands.{Command}
use Rattle.lgc_top.specs.Run.{HasSpec}
use Rattle.lgc_top.specs.Steps.{Answered, on_both}
use Rattle.lgc_top.proofs.Endings.{spec_of-on_both}
use Rattle.lgc_top.proofs.answer.on_both.Goals as goal

pub returns-in-Ok : goal.returns-in-Ok
returns-in-Ok g c =
    let command : Command = on_both c.args.work c.args.name.now c.args.input.now in
    let same = c.in-Ok.ensures.kept in
    subst (λ (files : FilesState). Answered (Some command) files (g.F.Files.state c.work_against.new.files) c.work_against.result) same
    (c.work_against.ensures c.args.name.now (subst (λ (files : FilesState). HasSpec command files c.in-Ok.spec) (sym same) (c.in-Ok.ensures.spec command (spec_of-on_both c.args.work c.args.name.now c.args.input.now))))

pub returns-in-Err : goal.returns-in-Err
returns-in-Err g c = c.in-Err.ensures.spec (on_both c.args.work c.args.name.now c.args.input.now) (spec_of-on_both c.args.work c.args.name.now c.args.input.now)
