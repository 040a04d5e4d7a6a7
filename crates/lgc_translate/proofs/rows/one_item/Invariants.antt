-- The sets so far are those of the clause.
use Rattle.std.proofs.Common.{◌≡◌, take}
use Rattle.lgc_translate.specs.Translation.{one_item}
use Rattle.lgc_translate.proofs.rows.one_item.Given as goal

abbrev pub invariant-loop-other : goal.invariant-loop-other
invariant-loop-other g l = l.sets ≡ one_item g.row.N (take l.other-index l.atoms) l.atom l.sign
