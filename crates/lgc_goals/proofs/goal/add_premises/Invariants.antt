-- The sides of the premises before are added.
use Rattle.std.proofs.Common.{◌≡◌, ◌+◌, length, drop}
use Rattle.std.specs.List.{fold, flat_map, zip}
use Rattle.lgc_values.specs.Logic.{arguments_at}
use Rattle.lgc_goals.specs.Goals.{with_signed, premise_items}
use Rattle.lgc_goals.proofs.goal.add_premises.Given as goal

abbrev pub invariant-loop-place : goal.invariant-loop-place
invariant-loop-place g l =
    fold (with_signed g.row.N) l.initial.goal (flat_map (premise_items g.row.N) (zip l.premises (arguments_at g.row.N (length l.premises + 1) l.tuple)))
    ≡ fold (with_signed g.row.N) l.goal (flat_map (premise_items g.row.N) (zip (drop l.place l.premises) (drop l.place (arguments_at g.row.N (length l.premises + 1) l.tuple))))
