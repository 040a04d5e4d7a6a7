-- Equality of terms and of formulas as a test: two are equal where they have the same code, the one under which the prover keeps them.
use Rattle.std.specs.Prelude.{Bool, true, false, ◌&&◌, nat_eq}
use base.Stored.{Gv, gnil, gnum, gcons}
use Rattle.lgc_syntax.specs.declared.formula.Term.{Term}
use Rattle.lgc_syntax.specs.declared.formula.Formula.{Formula}
use Rattle.lgc_syntax.specs.contracts.formula.Term as term
use Rattle.lgc_syntax.specs.contracts.formula.Formula as formula

abbrev pub same_code : Gv → Gv → Bool
same_code gnil gnil = true
same_code (gnum m) (gnum n) = nat_eq m n
same_code (gcons a b) (gcons c d) = same_code a c && same_code b d
same_code _ _ = false

unfoldable pub same_term : Term → Term → Bool
same_term a b = same_code (term.the_row.coded.code a) (term.the_row.coded.code b)

unfoldable pub same_formula : Formula → Formula → Bool
same_formula a b = same_code (formula.the_row.coded.code a) (formula.the_row.coded.code b)
