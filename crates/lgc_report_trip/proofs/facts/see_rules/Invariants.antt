-- It holds of the rules so far.
use Rattle.std.proofs.Common.{take}
use Rattle.std.specs.Prelude.{All}
use Rattle.lgc_report.specs.Reports.{plain_numbered}
use Rattle.lgc_report_trip.specs.WellFormed.{IsWellFormedRule}
use Rattle.lgc_report_trip.proofs.facts.see_rules.Given as goal

abbrev pub invariant-loop-numbered : goal.invariant-loop-numbered
invariant-loop-numbered g l = All (λ numbered. IsWellFormedRule g.row.N (plain_numbered numbered)) (take l.numbered-index l.rules)
