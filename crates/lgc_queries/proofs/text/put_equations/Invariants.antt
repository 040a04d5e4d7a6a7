-- The equations before are written, with separators between them.
use Rattle.std.proofs.Common.{◌≡◌, ◌++◌, take, map}
use Rattle.std.specs.Prelude.{codes}
use Rattle.lgc_print.specs.Text.{joined}
use Rattle.lgc_print.proofs.TextLaws.{between}
use Rattle.lgc_queries.specs.QueryText.{equation_text}
use Rattle.lgc_queries.proofs.text.put_equations.Given as goal

abbrev pub invariant-loop-pair : goal.invariant-loop-pair
invariant-loop-pair g l = record {
  so_far : l.into.items ≡ l.initial.into.items ++ joined (codes ", ") (map (equation_text l.m) (take l.pair-index l.pairs));
  next : l.separator ≡ between (codes ", ") (map (equation_text l.m) (take l.pair-index l.pairs));
}
