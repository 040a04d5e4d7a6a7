-- Those before are written, with separators between them.
use Rattle.std.proofs.Common.{◌≡◌, ◌++◌, take, map}
use Rattle.std.specs.Prelude.{codes}
use Rattle.lgc_report.specs.ReportText.{entry_text}
use Rattle.lgc_print.specs.Text.{joined}
use Rattle.lgc_print.proofs.TextLaws.{between}
use Rattle.lgc_report.proofs.text.put_entries.Given as goal

abbrev pub invariant-loop-entry : goal.invariant-loop-entry
invariant-loop-entry g l = record {
  so_far : l.into.items ≡ l.initial.into.items ++ joined (codes ", ") (map (entry_text l.m) (take l.entry-index l.entries));
  next : l.separator ≡ between (codes ", ") (map (entry_text l.m) (take l.entry-index l.entries));
}
