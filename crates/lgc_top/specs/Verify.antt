-- Rule files, and the lines on their rules.
use Rattle.std.specs.Prelude.{◌↔◌, ℕ, Bool, IsTrue, List, All, map, Result, Ok, Err}
use Rattle.lgc_values.specs.Logic.{Logic}
use Rattle.lgc_clauses.specs.declared.rule.Rule.{Rule}
use Rattle.lgc_clauses.specs.Kinds.{plain_rule}
use Rattle.lgc_syntax.specs.declared.fault.InputFault.{InputFault}
use Rattle.lgc_syntax.specs.declared.fault.InputFault.TheVariants.{Fault, Memory}
use Rattle.lgc_rules.specs.RuleFile.{FileGives}
use Rattle.lgc_verify.specs.declared.text.Judged.{Judged}
use Rattle.lgc_verify.specs.Verdicts.{IsRight, IsText}

-- what the bytes of a rule file give for a logic: its rules, or its first fault
abbrev pub RulesGiven : (logic : Logic) → List ℕ → Result (List (Rule logic.size)) InputFault → Type 0
RulesGiven logic bytes told = FileGives logic.size logic bytes told

-- The bytes are those of a rule file, the text has a line on each of its rules, and `right` tells whether all of them are right.
pub record IsVerdictText (logic : Logic) (right : Bool) (bytes text : List ℕ) : Type 0 where
  pub rules : List (Rule logic.size)
  pub given : RulesGiven logic bytes (Ok rules)
  pub decided : IsTrue right ↔ All (IsRight logic) (map plain_rule rules)
  pub printed : IsText logic (map plain_rule rules) text

-- the lines on the rules of a rule file, and whether all rules are right; or its first fault
abbrev pub JudgesBytes : Logic → List ℕ → Result Judged InputFault → Type 0
JudgesBytes logic bytes (Ok judged) = IsVerdictText logic judged.all_right bytes judged.lines.items
JudgesBytes logic bytes (Err Memory) = Unit {0}
JudgesBytes logic bytes (Err (Fault number offset)) = RulesGiven logic bytes (Err (Fault number offset))
