-- Those before are written.
use Rattle.std.proofs.Common.{◌≡◌, ◌++◌, take, map}
use Rattle.std.specs.List.{flat_map}
use Rattle.lgc_report.specs.Reports.{plain_numbered}
use Rattle.lgc_report.specs.ReportText.{numbered_text}
use Rattle.lgc_report.proofs.text.put_rules.Given as goal

abbrev pub invariant-loop-numbered : goal.invariant-loop-numbered
invariant-loop-numbered g l = l.into.items ≡ l.initial.into.items ++ flat_map (numbered_text l.m) (map plain_numbered (take l.numbered-index l.rules))
