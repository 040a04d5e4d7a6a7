-- The numbers of the formulas so far, and what was appended for them.
use Rattle.std.proofs.Common.{take}
use Rattle.std.specs.List.{Any}
use Rattle.lgc_numbering.specs.Store.{AreNumbersOf}
use Rattle.lgc_syntax.specs.Subformulas.{IsSubformula}
use Rattle.lgc_numbering.specs.Growth.{IsGrownBy}
use Rattle.lgc_numbering.proofs.number.+number_in.Given as goal

abbrev pub invariant-numbers_in-loop-f : goal.invariant-numbers_in-loop-f
invariant-numbers_in-loop-f l = record {
  numbers : AreNumbersOf l.formulas (take l.f-index l.fs) l.numbers;
  grown : IsGrownBy (λ g. Any (IsSubformula g) l.fs) l.fn.formulas l.formulas;
}
