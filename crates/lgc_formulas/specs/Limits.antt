-- What is true of each formula and of each term that is read.
use Rattle.std.specs.Prelude.{◌≡◌, ◌≤◌, true, false, All, IfSome}
use Rattle.lgc_syntax.specs.declared.formula.Term.{Term}
use Rattle.lgc_syntax.specs.declared.formula.Formula.{Formula}
use Rattle.lgc_syntax.specs.Fits.{Fits}
use Rattle.lgc_syntax.specs.Sizes.{term_depth, depth, has_quantifier}
use Rattle.lgc_syntax.specs.Variables.{has_no_bound}
use Rattle.lgc_formulas.specs.declared.formula.TheConstants.{MOST_DEPTH}
use Rattle.lgc_formulas.specs.Setting.{Setting}

-- each formula that a number stands for is one of the logic
abbrev pub LetsFit : Setting → Type 0
LetsFit s = IfSome s.lets (All (Fits s.logic))

-- A formula that is read against a setting: it is one of the logic, keeps the limit of depth, and has no quantifier where none may stand.
pub record IsFormulaFor (s : Setting) (f : Formula) : Type 0 where
  pub fits : Fits s.logic f
  pub shallow : depth f ≤ MOST_DEPTH
  pub propositional : s.quantified ≡ false → has_quantifier f ≡ false

-- A term that is read with no quantifier around it: it has no bound variable, and keeps the limit of depth.
pub record IsReadTerm (t : Term) : Type 0 where
  pub closed : has_no_bound t ≡ true
  pub shallow : term_depth t ≤ MOST_DEPTH
