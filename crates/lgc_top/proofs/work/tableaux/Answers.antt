use Rattle.std.proofs.Common.{List, sym, subst, arith}
use Rattle.std.specs.Prelude.{All}
use Rattle.lgc_values.specs.Logic.{Logic, IsLogic}
use Rattle.lgc_meaning.specs.declared.query.Query.{Query}
use Rattle.lgc_queries.specs.Asked.{IsAsked}
use Rattle.lgc_tableaux.specs.TableauxText.{IsTableauxText}
use Rattle.lgc_spec.specs.Logics.{logic_of}
use Rattle.lgc_top.proofs.Judging.{tableaux_told, queries_refused, asked_of_file}
use Rattle.lgc_top.proofs.work.tableaux.Goals as goal

pub tableaux_text-requires : goal.tableaux_text-requires
tableaux_text-requires g c =
    let m : Logic = c.in_ok-m.m in
    let is : IsLogic m = subst IsLogic (sym c.in_ok-m.ensures) c.requires.logic in
    let P : List Query → Type 0 = All (IsAsked m) in
    (omega arith, subst P (sym c.items.ensures) (asked_of_file m c.args.bytes.now c.in-Ok.queries is c.in-Ok.ensures.answer c.in-Ok.ensures.fits))

pub returns-in-Ok : goal.returns-in-Ok
returns-in-Ok g c =
    let m : Logic = c.in_ok-m.m in
    let told = c.in_ok-tableaux_text-in-Ok.field-0 in
    let P : List Query → Type 0 = λ queries. IsTableauxText m queries told.all_closed told.text.items in
    tableaux_told m (logic_of c.args.spec.now) c.in_ok-m.ensures c.args.bytes.now told.all_closed told.text.items c.in-Ok.queries c.in-Ok.ensures.answer (subst P c.items.ensures c.in_ok-tableaux_text-in-Ok.ensures)

pub returns : goal.returns
returns g c = queries_refused c.in_ok-m.m (logic_of c.args.spec.now) c.in_ok-m.ensures c.args.bytes.now c.in-Err.fault c.in-Err.ensures.answer
