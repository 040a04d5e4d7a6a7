-- Those before are written, with separators between them.
use Rattle.std.proofs.Common.{◌≡◌, ◌++◌, take, map}
use Rattle.std.specs.Prelude.{codes}
use Rattle.lgc_report.specs.ReportText.{item_text}
use Rattle.lgc_print.specs.Text.{joined}
use Rattle.lgc_print.proofs.TextLaws.{between}
use Rattle.lgc_report.proofs.text.put_sequent.Given as goal

abbrev pub invariant-loop-item : goal.invariant-loop-item
invariant-loop-item g l = record {
  so_far : l.into.items ≡ l.initial.into.items ++ joined (codes ", ") (map (item_text l.m) (take l.item-index l.items));
  next : l.separator ≡ between (codes ", ") (map (item_text l.m) (take l.item-index l.items));
}
