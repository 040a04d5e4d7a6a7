-- What the bytes of a rule file give: its rules, or its first fault.
use Rattle.std.specs.Prelude.{◌≤◌, ◌⊎◌, ℕ, List, Result}
use Rattle.lgc_values.specs.Logic.{Logic}
use Rattle.lgc_clauses.specs.declared.rule.Rule.{Rule}
use Rattle.lgc_clauses.specs.Rules.{Fits}
use Rattle.lgc_clauses.specs.Kinds.{plain_rule}
use Rattle.lgc_clauses.specs.Irredundance.{IsNumbered}
use Rattle.lgc_syntax.specs.declared.fault.InputFault.{InputFault}
use Rattle.lgc_inputs.specs.Texts.{TextGives, IsTextOf}
use Rattle.lgc_rules.specs.declared.file.TheConstants.{LONGEST_FILE}
use Rattle.lgc_tokens.specs.Spelled.{spelled_all, place_of}
use Rattle.lgc_rules.specs.RuleGrammar.{Rules}
use Rattle.lgc_rules.specs.PlainGrammar.{PlainRules}

-- a rule for the logic, whose clauses and sets have numbers of 32 bits
pub record IsRuleFor (n : ℕ) (logic : Logic) (rule : Rule n) : Type 0 where
  pub fits : Fits logic (plain_rule rule)
  pub numbered : IsNumbered (plain_rule rule)

-- What the bytes of a file give: a fault of their length, or else of their tokens, or else of their grammar, and else the rules.
abbrev pub FileGives : (n : ℕ) → Logic → List ℕ → Result (List (Rule n)) InputFault → Type 0
FileGives n logic bytes told = TextGives place_of (spelled_all bytes) (Rules n logic) PlainRules LONGEST_FILE bytes told

-- The bytes are those of a file with these rules.
abbrev pub IsFileOf : (n : ℕ) → Logic → List ℕ → List (Rule n) → Type 0
IsFileOf n logic bytes rules = IsTextOf (spelled_all bytes) (Rules n logic) LONGEST_FILE bytes rules

-- the numbers of the faults of a rule that begins among tokens: 4 to 6, and 10 to 12
abbrev pub IsRuleFault : ℕ → Type 0
IsRuleFault number = ((4 ≤ number) × (number ≤ 6)) ⊎ ((10 ≤ number) × (number ≤ 12))

-- the numbers of the faults of a file: 1 to 6, and 10 to 12
abbrev pub IsFileFault : ℕ → Type 0
IsFileFault number = ((1 ≤ number) × (number ≤ 6)) ⊎ ((10 ≤ number) × (number ≤ 12))
