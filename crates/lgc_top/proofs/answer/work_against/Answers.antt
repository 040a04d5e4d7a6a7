use Rattle.std.proofs.Common.{ℕ, ◌<◌, List, length, sym, subst}
use Rattle.lgc_spec.specs.Logics.{logic_of}
use Rattle.lgc_syntax.specs.declared.fault.TheConstants.{FILE_TOO_LONG}
use Rattle.lgc_top.specs.Run.{HasInputFault}
use Rattle.lgc_top.specs.Steps.{on_both}
use Rattle.lgc_top.proofs.Endings.{input_of-on_both, long_input}
use Rattle.lgc_top.proofs.answer.work_against.Goals as goal

pub returns-in-Err : goal.returns-in-Err
returns-in-Err g c file has =
    c.in-Err.ensures.input (on_both c.args.work file c.args.input.now) c.args.spec.now (input_of-on_both c.args.work file c.args.input.now) has
    (subst (λ (limit : ℕ). (bytes : List ℕ) → limit < length bytes → HasInputFault (on_both c.args.work file c.args.input.now) (logic_of c.args.spec.now) bytes FILE_TOO_LONG limit) (sym c.limit_of.ensures)
    (long_input c.args.work file c.args.input.now (logic_of c.args.spec.now)))
