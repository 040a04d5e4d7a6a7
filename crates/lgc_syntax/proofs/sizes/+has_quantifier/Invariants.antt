-- The formulas that are left decide.
use Rattle.std.proofs.Common.{◌≡◌, drop}
use Rattle.std.specs.List.{list_any}
use Rattle.lgc_syntax.specs.Sizes.{has_quantifier}
use Rattle.lgc_syntax.proofs.sizes.+has_quantifier.Given as goal

abbrev pub invariant-some_has_quantifier-loop-formula : goal.invariant-some_has_quantifier-loop-formula
invariant-some_has_quantifier-loop-formula l = list_any has_quantifier l.formulas ≡ list_any has_quantifier (drop l.formula-index l.formulas)
