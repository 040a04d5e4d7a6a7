use Rattle.std.proofs.Common.{◌≡◌, [], ◌++◌, take}
use Rattle.std.specs.Prelude.{codes, map, slice_index_or}
use Rattle.lgc_values.specs.Logic.{arguments_at}
use Rattle.lgc_print.specs.Text.{joined, value_text}
use Rattle.lgc_print.proofs.TextLaws.{between}
use Rattle.lgc_verify.proofs.text.put_arguments.Given as goal

abbrev pub invariant-loop-j : goal.invariant-loop-j
invariant-loop-j g l = record {
  so_far : l.into.items ≡ l.initial.into.items ++ joined (codes ",") (map (λ v. value_text (slice_index_or l.m.names v [])) (take l.j (arguments_at g.row.N l.arity l.row)));
  next : l.separator ≡ between (codes ",") (map (λ v. value_text (slice_index_or l.m.names v [])) (take l.j (arguments_at g.row.N l.arity l.row)));
}
