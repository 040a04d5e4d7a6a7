-- The sets so far have no members.
use Rattle.std.proofs.Common.{◌≡◌, take}
use Rattle.lgc_translate.specs.Translation.{no_items}
use Rattle.lgc_translate.proofs.rows.no_items.Given as goal

abbrev pub invariant-loop-place : goal.invariant-loop-place
invariant-loop-place g l = l.sets ≡ no_items (take l._place l.atoms)
