-- It holds of each part.
use Rattle.std.proofs.Common.{All, subst}
use Rattle.std.proofs.lemmas.List.Elements.{All-map}
use Rattle.lgc_clauses.specs.declared.rule.Numbered.{Numbered}
use Rattle.lgc_report.specs.declared.report.Claim.{Claim}
use Rattle.lgc_report.specs.Reports.{plain_numbered, plain_claim}
use Rattle.lgc_report_trip.specs.WellFormed.{IsWellFormedRule, IsWellFormedLine, IsWellFormedClaim}
use Rattle.lgc_report_trip.proofs.facts.see_report.Goals as goal

pub returns : goal.returns
returns g c = record {
  rules = All-map (IsWellFormedRule g.row.N) plain_numbered c.args.r.now.rules (subst (All (λ (x : Numbered g.row.N). IsWellFormedRule g.row.N (plain_numbered x))) c.items.ensures c.see_rules.ensures);
  lines = subst (All (IsWellFormedLine g.row.N)) c.items-2.ensures c.see_lines.ensures;
  claims = All-map (IsWellFormedClaim g.row.N) plain_claim c.args.r.now.claims (subst (All (λ (x : Claim g.row.N). IsWellFormedClaim g.row.N (plain_claim x))) c.items-3.ensures c.see_claims.ensures);
}
