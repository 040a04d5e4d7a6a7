use Rattle.std.proofs.Common.{◌≡◌, ◌++◌}
use Rattle.std.specs.Prelude.{codes, map}
use Rattle.std.specs.List.{range_with_len}
use Rattle.lgc_print.specs.Text.{joined}
use Rattle.lgc_print.proofs.TextLaws.{between}
use Rattle.lgc_latex.specs.declared.document.Part.TheVariants.{Argument}
use Rattle.lgc_latex.specs.Latex.{part_text}
use Rattle.lgc_latex.proofs.document.put_each_argument.Given as goal

abbrev pub invariant-loop-j : goal.invariant-loop-j
invariant-loop-j l = record {
  so_far : l.into.items ≡ l.initial.into.items ++ joined (codes ",") (map (part_text Argument) (range_with_len 1 l.j));
  next : l.separator ≡ between (codes ",") (map (part_text Argument) (range_with_len 1 l.j));
}
