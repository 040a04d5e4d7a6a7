-- The formulas before are written, with separators between them.
use Rattle.std.proofs.Common.{◌≡◌, ◌++◌, take, map}
use Rattle.std.specs.Prelude.{codes}
use Rattle.lgc_print.specs.Text.{joined}
use Rattle.lgc_print.specs.FormulaText.{formula_text}
use Rattle.lgc_print.proofs.TextLaws.{between}
use Rattle.lgc_queries.proofs.text.put_formulas.Given as goal

abbrev pub invariant-loop-f : goal.invariant-loop-f
invariant-loop-f g l = record {
  so_far : l.into.items ≡ l.initial.into.items ++ joined (codes ", ") (map (formula_text l.m) (take l.f-index l.formulas));
  next : l.separator ≡ between (codes ", ") (map (formula_text l.m) (take l.f-index l.formulas));
}
