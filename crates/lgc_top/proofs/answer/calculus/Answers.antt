use Rattle.std.proofs.Common.{refl}
use Rattle.lgc_top.specs.Commands.{Calculus}
use Rattle.lgc_top.proofs.answer.calculus.Goals as goal

pub returns-in-Ok : goal.returns-in-Ok
returns-in-Ok g c =
    c.printed.ensures c.args.name.now (g.F.Files.state c.args.files.now) (g.F.Files.state c.read_first.new.files) c.in-Ok.ensures.kept (c.in-Ok.ensures.spec (Calculus c.args.format c.args.name.now) refl)

pub returns-in-Err : goal.returns-in-Err
returns-in-Err g c = c.in-Err.ensures.spec (Calculus c.args.format c.args.name.now) refl
