-- What formulas are read against.
use Rattle.std.specs.Prelude.{ℕ, zero, suc, Bool, List, Option, Some, None, is_some, option_map, slice_get}
use Rattle.lgc_values.specs.Logic.{Logic}
use Rattle.lgc_syntax.specs.declared.formula.Formula.{Formula}
use Rattle.lgc_formulas.specs.declared.context.Context.{Context}

-- A logic, whether quantifiers may stand, and the formulas that a # and a number stand for. Where there are none of these no formula
-- begins with a #.
pub record Setting : Type 0 where
  pub logic : Logic
  pub quantified : Bool
  pub lets : Option (List Formula)

-- the setting of these parts
abbrev pub setting_with : Logic → Bool → Option (List Formula) → Setting
setting_with logic quantified lets = record { logic = logic; quantified = quantified; lets = lets }

-- what the code reads against
abbrev pub setting_of : {n : ℕ} → Context n → Setting
setting_of c = record { logic = c.m.now; quantified = c.quantified; lets = option_map (λ lets. lets.now) c.lets }

-- formulas have numbers
abbrev pub numbered : Setting → Bool
numbered s = is_some s.lets

-- the formula with a number, counted from 1
abbrev pub numbered_from : List Formula → ℕ → Option Formula
numbered_from lets zero = None
numbered_from lets (suc k) = slice_get lets k

-- the formula that a number stands for
abbrev pub let_among : Option (List Formula) → Option ℕ → Option Formula
let_among (Some lets) (Some number) = numbered_from lets number
let_among _ _ = None

abbrev pub let_at : Setting → Option ℕ → Option Formula
let_at s number = let_among s.lets number
