use Rattle.std.proofs.Common.{subst}
use Rattle.std.specs.Prelude.{Option}
use Rattle.lgc_top.specs.Commands.{Command}
use Rattle.lgc_top.specs.Steps.{Answered}
use Rattle.lgc_top.proofs.answer.answer_to.Goals as goal

pub returns-in-None : goal.returns-in-None
returns-in-None g c =
    let files = g.F.Files.state c.args.files.now in
    subst (λ (found : Option Command). Answered found files files c.usage.result) c.in-None.ensures (c.usage.ensures files)
