-- The set lies in none of the sets before.
use Rattle.std.proofs.Common.{◌≡◌, take, false}
use Rattle.std.specs.List.{list_all, list_any}
use Rattle.lgc_values.specs.Values.{has}
use Rattle.lgc_values.proofs.value_set.ValueSet.lies_in_some.Given as goal

abbrev pub invariant-loop-other : goal.invariant-loop-other
invariant-loop-other g l = list_any (λ other. list_all (has other) l.self) (take l.other-index l.others) ≡ false
