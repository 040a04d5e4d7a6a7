-- The pairs of the items so far, and what was appended for them.
use Rattle.std.proofs.Common.{take}
use Rattle.std.specs.List.{Any}
use Rattle.lgc_numbering.specs.Numbering.{IsNumbering}
use Rattle.lgc_syntax.specs.Subformulas.{IsSubformula}
use Rattle.lgc_numbering.specs.Growth.{IsGrownBy}
use Rattle.lgc_tableau_build.specs.Numbers.{IsNumbered}
use Rattle.lgc_tableau_build.proofs.numbered.numbered.Given as goal

abbrev pub invariant-loop-item : goal.invariant-loop-item
invariant-loop-item g l = record {
  numbered : IsNumbered l.formulas (take l.item-index l.items) l.pairs;
  grown : IsGrownBy (λ g. Any (λ item. IsSubformula g item.formula) l.items) l.fn.formulas l.formulas;
  numbering : IsNumbering l.formulas;
}
