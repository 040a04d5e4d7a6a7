-- The items with values among those before are written, with commas between them.
use Rattle.std.proofs.Common.{◌≡◌, ◌++◌, take, map}
use Rattle.std.specs.Prelude.{codes}
use Rattle.lgc_print.specs.Text.{joined}
use Rattle.lgc_print.proofs.TextLaws.{between}
use Rattle.lgc_report.specs.ReportText.{item_text}
use Rattle.lgc_tableau_text.specs.TableauText.{with_values}
use Rattle.lgc_tableau_text.proofs.text.put_added.Given as goal

abbrev pub invariant-loop-item : goal.invariant-loop-item
invariant-loop-item g l = record {
  so_far : l.into.items ≡ l.initial.into.items ++ joined (codes ", ") (map (item_text l.m) (with_values (take l.item-index l.added)));
  next : l.separator ≡ between (codes ", ") (map (item_text l.m) (with_values (take l.item-index l.added)));
}
