use Rattle.std.proofs.Common.{sym, subst, arith}
use Rattle.lgc_values.specs.Logic.{Logic, IsLogic}
use Rattle.lgc_spec.specs.Logics.{logic_of}
use Rattle.lgc_top.proofs.Judging.{reported, queries_refused, asked_of_file, few_of_file}
use Rattle.lgc_top.proofs.work.report.Goals as goal

pub prove_queries-requires : goal.prove_queries-requires
prove_queries-requires g c =
    let m : Logic = c.in_ok-m.m in
    let is : IsLogic m = subst IsLogic (sym c.in_ok-m.ensures) c.requires.logic in
    let given = c.in-Ok.ensures.answer in
    (omega arith, (few_of_file m c.args.bytes.now c.in-Ok.queries given, asked_of_file m c.args.bytes.now c.in-Ok.queries is given c.in-Ok.ensures.fits))

pub returns-in-Ok : goal.returns-in-Ok
returns-in-Ok g c =
    let m : Logic = c.in_ok-m.m in
    let told = c.in_ok-prove_queries-in-Ok.field-0 in
    reported m (logic_of c.args.spec.now) c.in_ok-m.ensures c.args.bytes.now told.all_proved told.text.items c.in-Ok.queries c.in-Ok.ensures.answer c.in_ok-prove_queries-in-Ok.ensures

pub returns : goal.returns
returns g c = queries_refused c.in_ok-m.m (logic_of c.args.spec.now) c.in_ok-m.ensures c.args.bytes.now c.in-Err.fault c.in-Err.ensures.answer
