-- How the loop over the formulas looks for one whose value is outside.
use Rattle.std.proofs.Common.{◌≡◌, not, drop}
use Rattle.std.specs.List.{list_any}
use Rattle.lgc_values.specs.Values.{has}
use Rattle.lgc_syntax.specs.Values.{listed, value}
use Rattle.lgc_meaning.proofs.satisfaction.some_outside.Given as goal

abbrev pub invariant-loop-f : goal.invariant-loop-f
invariant-loop-f g l = list_any (λ f. not (has l.set (value l.m (listed l.v) f))) l.fs ≡ list_any (λ f. not (has l.set (value l.m (listed l.v) f))) (drop l.f-index l.fs)
