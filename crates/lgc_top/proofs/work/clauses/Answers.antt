use Rattle.std.proofs.Common.{List, sym, subst, arith}
use Rattle.std.specs.Prelude.{All}
use Rattle.lgc_values.specs.Logic.{Logic, IsLogic}
use Rattle.lgc_meaning.specs.declared.query.Query.{Query}
use Rattle.lgc_queries.specs.Asked.{IsAsked}
use Rattle.lgc_clause_text.specs.ClausesText.{IsClausesText}
use Rattle.lgc_spec.specs.Logics.{logic_of}
use Rattle.lgc_top.proofs.Judging.{clauses_told, queries_refused, asked_of_file}
use Rattle.lgc_top.proofs.work.clauses.Goals as goal

pub clauses_text-requires : goal.clauses_text-requires
clauses_text-requires g c =
    let m : Logic = c.in_ok-m.m in
    let is : IsLogic m = subst IsLogic (sym c.in_ok-m.ensures) c.requires.logic in
    let P : List Query → Type 0 = All (IsAsked m) in
    (omega arith, subst P (sym c.items.ensures) (asked_of_file m c.args.bytes.now c.in-Ok.queries is c.in-Ok.ensures.answer c.in-Ok.ensures.fits))

pub returns-in-Ok : goal.returns-in-Ok
returns-in-Ok g c =
    let m : Logic = c.in_ok-m.m in
    let text = c.in_ok-clauses_text-in-Ok.field-0 in
    let P : List Query → Type 0 = λ queries. IsClausesText m queries text.items in
    clauses_told m (logic_of c.args.spec.now) c.in_ok-m.ensures c.args.bytes.now text.items c.in-Ok.queries c.in-Ok.ensures.answer (subst P c.items.ensures c.in_ok-clauses_text-in-Ok.ensures)

pub returns : goal.returns
returns g c = queries_refused c.in_ok-m.m (logic_of c.args.spec.now) c.in_ok-m.ensures c.args.bytes.now c.in-Err.fault c.in-Err.ensures.answer
