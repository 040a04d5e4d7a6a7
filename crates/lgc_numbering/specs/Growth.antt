-- Lists of formulas that grow.
use Rattle.std.specs.Prelude.{◌≡◌, List, ◌++◌, All}
use Rattle.lgc_syntax.specs.declared.formula.Formula.{Formula}

-- formulas that stay, with further ones behind them, of which P holds
pub record IsGrownBy (P : Formula → Type 0) (old new : List Formula) : Type 0 where
  pub added : List Formula
  pub is : new ≡ old ++ added
  pub each : All P added
