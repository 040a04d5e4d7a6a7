-- What a rule file gives, and what the rule that begins at a place among tokens gives, as functions: the words of the clauses `exact`.
-- What they compute is the one answer that RuleFile and RulePlace allow.
use Rattle.std.specs.Prelude.{ℕ, List, Result}
use Rattle.lgc_grammar.specs.Reading.{whole}
use Rattle.lgc_values.specs.Logic.{Logic}
use Rattle.lgc_clauses.specs.declared.rule.Numbered.{Numbered}
use Rattle.lgc_clauses.specs.declared.rule.Rule.{Rule}
use Rattle.lgc_syntax.specs.declared.fault.InputFault.{InputFault}
use Rattle.lgc_rules.specs.declared.file.TheConstants.{LONGEST_FILE}
use Rattle.lgc_tokens.specs.declared.number.TheConstants.{MOST_NUMBER}
use Rattle.lgc_tokens.specs.Spelled.{Spelled, spelled_all, place_of}
use Rattle.lgc_inputs.specs.Told.{told_of, text_told}
use Rattle.lgc_rules.specs.RuleReading.{rules_at, rule_at}

-- the rules of the bytes of a file, or its first fault
abbrev pub file_read : (n : ℕ) → Logic → List ℕ → Result (List (Rule n)) InputFault
file_read n logic bytes = text_told place_of (spelled_all bytes) (whole (rules_at n logic)) LONGEST_FILE bytes

-- the rule with which the tokens begin and the tokens behind it, or the first fault
abbrev pub rule_read : (n : ℕ) → Logic → ℕ → List Spelled → Result (Numbered n × List Spelled) InputFault
rule_read n logic end ts = told_of place_of end (rule_at n logic 0 MOST_NUMBER ts)
