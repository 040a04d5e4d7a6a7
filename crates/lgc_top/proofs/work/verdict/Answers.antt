use Rattle.std.proofs.Common.{◌≡◌, ap, ◌∙◌, arith}
use Rattle.lgc_values.specs.Logic.{Logic}
use Rattle.lgc_spec.specs.Logics.{logic_of}
use Rattle.lgc_top.proofs.Judging.{checked, report_refused}
use Rattle.lgc_top.proofs.work.verdict.Goals as goal

pub tell_verdict-requires : goal.tell_verdict-requires
tell_verdict-requires g c = (omega arith, (omega arith, c.in-Ok.ensures.fits.fits))

pub returns-in-Ok : goal.returns-in-Ok
returns-in-Ok g c =
    let m : Logic = c.in_ok-m.m in
    let logic : Logic = logic_of c.args.spec.now in
    let same : m ≡ logic = c.in_ok-m.ensures in
    let told = c.in_ok-tell_verdict-in-Ok.field-0 in
    checked g.row.N m logic same (ap (λ (l : Logic). l.size) same ∙ c.requires.size) c.args.bytes.now told.accepted told.line.items c.in-Ok.report c.in-Ok.ensures.answer c.in_ok-tell_verdict-in-Ok.ensures

pub returns : goal.returns
returns g c =
    let m : Logic = c.in_ok-m.m in
    let logic : Logic = logic_of c.args.spec.now in
    let same : m ≡ logic = c.in_ok-m.ensures in
    report_refused g.row.N m logic same (ap (λ (l : Logic). l.size) same ∙ c.requires.size) c.args.bytes.now c.in-Err.fault c.in-Err.ensures.answer
