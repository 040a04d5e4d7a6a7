-- What reading a formula has to answer among the tokens of a larger text of which nothing is known.
use Rattle.std.specs.Prelude.{◌≡◌, ◌⊎◌, ℕ, true, false, List, [], ◌∷◌, Result, Ok, Err}
use Rattle.lgc_grammar.specs.Grammar.{Why, Unexpected, Breaks}
use Rattle.lgc_grammar.specs.Among.{TakesTo, AnswersAmong}
use Rattle.lgc_syntax.specs.declared.fault.TheConstants.{WRONG_ARITY}
use Rattle.lgc_formulas.specs.declared.formula.Read.{Read}
use Rattle.lgc_formulas.specs.Named.{Named}
use Rattle.lgc_formulas.specs.Setting.{Setting, numbered}
use Rattle.lgc_formulas.specs.FormulaGrammar.{OneFormula}
use Rattle.lgc_formulas.specs.PlainFormulas.{PlainFormula}

-- Behind a bare formula any token could go on, and breaks the rule of the number of arguments; the end comes too early.
abbrev pub why_bare : List Named → Why
why_bare [] = Unexpected
why_bare (t ∷ _) = Breaks WRONG_ARITY

-- What reading answers: the longest formula with which the tokens begin, and the tokens behind it, unless that formula is bare.
abbrev pub FormulaGives : Setting → ℕ → List Named → Result (Read × List Named) (List Named × Why) → Type 0
FormulaGives s many ts (Ok x) = (x.0.is_bare ≡ false) × AnswersAmong (OneFormula s many) (PlainFormula (numbered s)) ts (Ok x)
FormulaGives s many ts (Err e) =
    AnswersAmong (OneFormula s many) (PlainFormula (numbered s)) ts (Err e)
    ⊎ ((x : Read) × (x.is_bare ≡ true) × TakesTo (OneFormula s many) (PlainFormula (numbered s)) ts e.0 x × (e.1 ≡ why_bare e.0))
