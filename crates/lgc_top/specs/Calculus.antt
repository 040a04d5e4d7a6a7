-- The printed calculus of a specification.
use Rattle.std.specs.Prelude.{◌≡◌, ℕ, List}
use Rattle.lgc_clauses.specs.Rules.{PlainRule}
use Rattle.lgc_print.specs.Text.{calculus_text}
use Rattle.lgc_latex.specs.Latex.{calculus_latex}
use Rattle.lgc_calculus.specs.Calculus.{IsCalculus}
use Rattle.lgc_spec.specs.declared.spec.Spec.{Spec}
use Rattle.lgc_spec.specs.Logics.{logic_of}
use Rattle.lgc_top.specs.declared.command.Format.{Format}
use Rattle.lgc_top.specs.declared.command.Format.TheVariants.{Text, Latex}

-- how rules of the specification's logic are printed in a format
abbrev pub rules_in : Format → Spec → List PlainRule → List ℕ
rules_in Text spec rules = calculus_text (logic_of spec) rules
rules_in Latex spec rules = calculus_latex (logic_of spec) spec.name rules

-- the bytes are those of a calculus of the specification's logic, in this format
pub record IsCalculusText (format : Format) (spec : Spec) (text : List ℕ) : Type 0 where
  pub rules : List PlainRule
  pub calculus : IsCalculus (logic_of spec) rules
  pub printed : text ≡ rules_in format spec rules
