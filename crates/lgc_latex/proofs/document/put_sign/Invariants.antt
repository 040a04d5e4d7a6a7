use Rattle.std.proofs.Common.{◌≡◌, [], ◌++◌}
use Rattle.std.specs.Prelude.{map, slice_index_or, codes}
use Rattle.lgc_values.specs.Values.{members_of}
use Rattle.lgc_print.specs.Text.{joined}
use Rattle.lgc_print.proofs.TextLaws.{between}
use Rattle.lgc_latex.specs.Latex.{name_text}
use Rattle.lgc_latex.proofs.document.put_sign.Given as goal

abbrev pub invariant-loop-v : goal.invariant-loop-v
invariant-loop-v g l = record {
  so_far : l.into.items ≡ l.initial.into.items ++ joined (codes ",") (map (λ v. name_text (slice_index_or l.names v [])) (members_of l.v l.mask));
  next : l.separator ≡ between (codes ",") (map (λ v. name_text (slice_index_or l.names v [])) (members_of l.v l.mask));
}
