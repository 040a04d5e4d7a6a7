-- Those before are written, with separators between them.
use Rattle.std.proofs.Common.{◌≡◌, ◌++◌, take, map}
use Rattle.std.specs.Prelude.{codes}
use Rattle.lgc_report.specs.ReportText.{cited_text}
use Rattle.lgc_print.specs.Text.{joined}
use Rattle.lgc_print.proofs.TextLaws.{between}
use Rattle.lgc_report.proofs.text.put_each_cited.Given as goal

abbrev pub invariant-loop-cited : goal.invariant-loop-cited
invariant-loop-cited l = record {
  so_far : l.into.items ≡ l.initial.into.items ++ joined (codes ", ") (map cited_text (take l.cited-index l.premises));
  next : l.separator ≡ between (codes ", ") (map cited_text (take l.cited-index l.premises));
}
