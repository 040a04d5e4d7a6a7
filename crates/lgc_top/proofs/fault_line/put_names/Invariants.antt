use Rattle.std.proofs.Common.{◌≡◌, ◌++◌, take}
use Rattle.std.specs.Prelude.{codes, map}
use Rattle.lgc_print.specs.Text.{joined, value_text}
use Rattle.lgc_print.proofs.TextLaws.{between}
use Rattle.lgc_top.proofs.fault_line.put_names.Given as goal

abbrev pub invariant-loop-name : goal.invariant-loop-name
invariant-loop-name l = record {
  so_far : l.into.items ≡ l.initial.into.items ++ joined (codes ",") (map value_text (take l.name-index l.names));
  next : l.separator ≡ between (codes ",") (map value_text (take l.name-index l.names));
}
