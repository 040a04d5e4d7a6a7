-- The report of the claims, with the rules by their use, answers the queries.
use Rattle.std.proofs.Common.{List, map, sym, subst}
use Rattle.lgc_clauses.specs.Rules.{OperatorRule}
use Rattle.lgc_sequents.specs.Lines.{PlainLine}
use Rattle.lgc_report.specs.Reports.{plain_numbered, plain_claim}
use Rattle.lgc_prove.specs.Work.{AreAnswers}
use Rattle.lgc_prove.proofs.ReportLaws.{report_answers}
use Rattle.lgc_prove.proofs.answers.answer_queries.Goals as goal

pub returns : goal.returns
returns g c =
    let logic = c.args.m.now in
    let queries = c.args.queries in
    let rules = c.rules.result.now in
    let lines = c.into_lines.result in
    let claims = map (plain_claim {size = g.row.N}) c.in_ok-claims.claims in
    let by_rules = subst (λ (rs : List OperatorRule). AreAnswers logic rs queries c.claims_for.new.proofs claims) (sym c.rules.ensures.rules) c.in_ok-claims.ensures in
    let are = subst (λ (ls : List PlainLine). AreAnswers logic rules queries ls claims) (sym c.into_lines.ensures.lines) by_rules in
    report_answers logic g.row.N c.operators-operators.ensures.size queries c.requires.asked rules lines claims are c.into_lines.ensures.distinct (map (plain_numbered {size = g.row.N}) c.in_ok-rules.rules) c.in_ok-rules.lines c.in_ok-rules.ensures
