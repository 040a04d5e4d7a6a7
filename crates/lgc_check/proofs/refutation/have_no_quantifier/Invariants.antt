-- The formulas so far have no quantifier.
use Rattle.std.proofs.Common.{◌≡◌, not, drop}
use Rattle.std.specs.List.{list_all}
use Rattle.lgc_syntax.specs.Sizes.{has_quantifier}
use Rattle.lgc_check.proofs.refutation.have_no_quantifier.Given as goal

abbrev pub invariant-loop-formula : goal.invariant-loop-formula
invariant-loop-formula l = list_all (λ f. not (has_quantifier f)) l.formulas ≡ list_all (λ f. not (has_quantifier f)) (drop l.formula-index l.formulas)
