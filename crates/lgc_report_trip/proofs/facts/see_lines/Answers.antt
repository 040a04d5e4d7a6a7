-- It holds of each of the first ones, and so of all.
use Rattle.std.proofs.Common.{All, subst, arith}
use Rattle.std.proofs.lemmas.List.{take_all}
use Rattle.lgc_sequents.specs.Lines.{PlainLine}
use Rattle.lgc_report_trip.specs.WellFormed.{IsWellFormedLine}
use Rattle.lgc_round_trip.proofs.SetLaws.{all_more}
use Rattle.lgc_report_trip.proofs.facts.see_lines.Goals as goal

pub loop-line-preserved : goal.loop-line-preserved
loop-line-preserved g c = all_more (λ (x : PlainLine). IsWellFormedLine g.row.N x) c.args.lines.now c.loop-line.line-index c.line-item.result (omega arith) (subst (λ (x : PlainLine). IsWellFormedLine g.row.N x) c.line-item.is c.see_line.ensures) c.loop-line.invariant

pub returns : goal.returns
returns g c = subst (All (λ (x : PlainLine). IsWellFormedLine g.row.N x)) (take_all c.loop-line.line-index c.args.lines.now (omega arith)) c.loop-line.invariant
