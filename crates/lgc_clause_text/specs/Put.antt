-- Words of private calls: the lines put behind others, and formulas of which clauses can be made and put.
use Rattle.std.specs.Prelude.{◌≡◌, ◌<◌, ◌^◌, ℕ, false, List, ◌++◌}
use Rattle.lgc_values.specs.Logic.{Logic}
use Rattle.lgc_clauses.specs.Rules.{OperatorRule}
use Rattle.lgc_syntax.specs.declared.formula.Formula.{Formula}
use Rattle.lgc_syntax.specs.Fits.{Fits}
use Rattle.lgc_syntax.specs.Sizes.{depth, has_quantifier}
use Rattle.lgc_clause_text.specs.Items.{GoalItem}
use Rattle.lgc_clause_text.specs.ClausesText.{AreLines}

-- lines for these items are put
pub record ArePut (logic : Logic) (rules : List OperatorRule) (items : List GoalItem) (old new : List ℕ) : Type 0 where
  pub text : List ℕ
  pub put : new ≡ old ++ text
  pub lines : AreLines logic rules items text

-- a formula of the logic, without quantifiers and not too deep to be written
pub record IsTranslatable (logic : Logic) (f : Formula) : Type 0 where
  pub fits : Fits logic f
  pub propositional : has_quantifier f ≡ false
  pub shallow : depth f < 2 ^ 32
