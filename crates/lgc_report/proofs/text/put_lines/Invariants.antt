-- Those before are written.
use Rattle.std.proofs.Common.{◌≡◌, ◌++◌, take}
use Rattle.std.specs.List.{flat_map}
use Rattle.lgc_report.specs.ReportText.{line_text}
use Rattle.lgc_report.proofs.text.put_lines.Given as goal

abbrev pub invariant-loop-line : goal.invariant-loop-line
invariant-loop-line g l = l.into.items ≡ l.initial.into.items ++ flat_map (line_text l.m) (take l.line-index l.lines)
