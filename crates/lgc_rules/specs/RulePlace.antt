-- What the rule that begins at a place among tokens gives: the rule and the place behind it, or the first fault.
use Rattle.std.specs.Prelude.{ℕ, List, Result}
use Rattle.lgc_grammar.specs.Grammar.{Grammar}
use Rattle.lgc_values.specs.Logic.{Logic}
use Rattle.lgc_syntax.specs.declared.fault.InputFault.{InputFault}
use Rattle.lgc_tokens.specs.declared.number.TheConstants.{MOST_NUMBER}
use Rattle.lgc_clauses.specs.declared.rule.Numbered.{Numbered}
use Rattle.lgc_tokens.specs.Spelled.{Spelled, place_of}
use Rattle.lgc_inputs.specs.Places.{PlaceGives}
use Rattle.lgc_rules.specs.RuleGrammar.{OneRule}
use Rattle.lgc_rules.specs.PlainGrammar.{PlainRule}

-- a rule with any number
abbrev pub AnyNumbered : (n : ℕ) → Logic → Grammar Spelled (Numbered n)
AnyNumbered n logic = OneRule n logic 0 MOST_NUMBER

-- What the tokens from the place `at` on give.
abbrev pub RuleGives : (n : ℕ) → Logic → ℕ → List Spelled → ℕ → Result (Numbered n × ℕ) InputFault → Type 0
RuleGives n logic end ts at told = PlaceGives place_of (AnyNumbered n logic) PlainRule end ts at told
