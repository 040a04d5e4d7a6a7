-- Subformulas.
use Rattle.std.specs.Prelude.{ℕ, List, Contains}
use Rattle.lgc_syntax.specs.declared.formula.Formula.{Formula, Op, Quant}

-- f is a subformula: the formula itself, or a subformula of an argument or of a body
pub data IsSubformula (f : Formula) : Formula → Type 0 where
  itself : IsSubformula f f
  of_argument : (op : ℕ) (args : List Formula) (a : Formula) → Contains args a → IsSubformula f a → IsSubformula f (Op op args)
  of_body : (q : ℕ) (body : Formula) → IsSubformula f body → IsSubformula f (Quant q body)
