-- Those before are written, with separators between them.
use Rattle.std.proofs.Common.{◌≡◌, ◌++◌, take, map}
use Rattle.std.specs.Prelude.{codes}
use Rattle.lgc_print.specs.FormulaText.{term_text}
use Rattle.lgc_print.specs.Text.{joined}
use Rattle.lgc_print.proofs.TextLaws.{between}
use Rattle.lgc_report.proofs.text.put_each_term.Given as goal

abbrev pub invariant-loop-t : goal.invariant-loop-t
invariant-loop-t l = record {
  so_far : l.into.items ≡ l.initial.into.items ++ joined (codes ",") (map (λ t. term_text t 0) (take l.t-index l.terms));
  next : l.separator ≡ between (codes ",") (map (λ t. term_text t 0) (take l.t-index l.terms));
}
