-- The pairs of the items so far, and what was appended for them.
use Rattle.std.proofs.Common.{take}
use Rattle.std.specs.List.{Any}
use Rattle.lgc_numbering.specs.Numbering.{IsNumbering}
use Rattle.lgc_syntax.specs.Subformulas.{IsSubformula}
use Rattle.lgc_numbering.specs.Growth.{IsGrownBy}
use Rattle.lgc_packed.specs.Packing.{IsPackOf}
use Rattle.lgc_packed.proofs.packing.pack.Given as goal

abbrev pub invariant-loop-item : goal.invariant-loop-item
invariant-loop-item g l = record {
  packed : IsPackOf l.formulas (take l.item-index l.items) l.packed;
  grown : IsGrownBy (λ g. Any (λ item. IsSubformula g item.formula) l.items) l.fn.formulas l.formulas;
  numbering : IsNumbering l.formulas;
}
