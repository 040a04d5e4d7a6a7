use Rattle.std.proofs.Common.{◌≡◌, ◌++◌, take}
use Rattle.std.specs.Prelude.{codes, map}
use Rattle.lgc_print.specs.Text.{joined, all_text}
use Rattle.lgc_print.proofs.TextLaws.{between}
use Rattle.lgc_print.proofs.rules.put_all_sets.Given as goal

abbrev pub invariant-loop-set : goal.invariant-loop-set
invariant-loop-set g l = record {
  so_far : l.into.items ≡ l.initial.into.items ++ joined (codes ", ") (map (all_text l.names) (take l.set-index l.sets));
  next : l.separator ≡ between (codes ", ") (map (all_text l.names) (take l.set-index l.sets));
}
