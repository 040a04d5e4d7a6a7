-- It holds of each of the first ones, and so of all.
use Rattle.std.proofs.Common.{All, subst, arith}
use Rattle.std.proofs.lemmas.List.{take_all}
use Rattle.lgc_clauses.specs.declared.rule.Numbered.{Numbered}
use Rattle.lgc_report.specs.Reports.{plain_numbered}
use Rattle.lgc_report_trip.specs.WellFormed.{IsWellFormedRule}
use Rattle.lgc_round_trip.proofs.SetLaws.{all_more}
use Rattle.lgc_report_trip.proofs.facts.see_rules.Goals as goal

pub loop-numbered-preserved : goal.loop-numbered-preserved
loop-numbered-preserved g c = all_more (λ (x : Numbered g.row.N). IsWellFormedRule g.row.N (plain_numbered x)) c.args.rules.now c.loop-numbered.numbered-index c.numbered-item.result (omega arith) (subst (λ (x : Numbered g.row.N). IsWellFormedRule g.row.N (plain_numbered x)) c.numbered-item.is c.see_rule.ensures) c.loop-numbered.invariant

pub returns : goal.returns
returns g c = subst (All (λ (x : Numbered g.row.N). IsWellFormedRule g.row.N (plain_numbered x))) (take_all c.loop-numbered.numbered-index c.args.rules.now (omega arith)) c.loop-numbered.invariant
