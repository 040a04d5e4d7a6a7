-- What verdicts on reports mean.
use Rattle.std.specs.Prelude.{◌≡◌, ℕ, ◌<◌, List, map, Some, None}
use Rattle.lgc_values.specs.Logic.{Logic}
use Rattle.lgc_clauses.specs.Rules.{PlainRule}
use Rattle.lgc_sequents.specs.Lines.{at_position}
use Rattle.lgc_steps.specs.Findings.{Finding}
use Rattle.lgc_report.specs.Reports.{PlainReport}
use Rattle.lgc_report.specs.Valid.{IsValid}
use Rattle.lgc_check.specs.declared.verdict.Cause.{Cause}
use Rattle.lgc_check.specs.declared.verdict.Place.{Place}
use Rattle.lgc_check.specs.declared.verdict.Place.TheVariants as place
use Rattle.lgc_check.specs.declared.verdict.Verdict.{Verdict}
use Rattle.lgc_check.specs.declared.verdict.Verdict.TheVariants.{Accepted, Rejected}
use Rattle.lgc_check.specs.Causes.{found_of_rule, found_of_line, found_of_claim}

-- ---- the items of a part, by what may be found of the one at a position

-- nothing is found of the items before a position
abbrev pub AreRightBefore : {X : Type 0} → (ℕ → X → Finding Cause) → List X → ℕ → Type 0
AreRightBefore {X} found items position = (earlier : ℕ) (item : X) → earlier < position → at_position items earlier ≡ Some item → found earlier item None

-- nothing is found of any
abbrev pub AreRight : {X : Type 0} → (ℕ → X → Finding Cause) → List X → Type 0
AreRight {X} found items = (position : ℕ) (item : X) → at_position items position ≡ Some item → found position item None

-- the item at a position is the first of which something is found: this cause
pub record IsFirstFault {X : Type 0} (found : ℕ → X → Finding Cause) (items : List X) (position : ℕ) (cause : Cause) : Type 0 where
  pub item : X
  pub stands : at_position items position ≡ Some item
  pub fault : found position item (Some cause)
  pub before : AreRightBefore found items position

-- ---- reports

abbrev pub rules_of : PlainReport → List PlainRule
rules_of report = map (λ numbered. numbered.rule) report.rules

abbrev pub AreRulesRight : Logic → PlainReport → Type 0
AreRulesRight logic report = AreRight (found_of_rule logic) report.rules

abbrev pub AreLinesRight : Logic → PlainReport → Type 0
AreLinesRight logic report = AreRight (found_of_line logic.size (rules_of report) report.lines) report.lines

-- an item of a report is the first of which something is found; rules stand before lines, and these before claims
abbrev pub IsFirstOf : Logic → PlainReport → Place → ℕ → Cause → Type 0
IsFirstOf logic report place.Rule position cause = IsFirstFault (found_of_rule logic) report.rules position cause
IsFirstOf logic report place.Line position cause = AreRulesRight logic report × IsFirstFault (found_of_line logic.size (rules_of report) report.lines) report.lines position cause
IsFirstOf logic report place.Claim position cause = AreRulesRight logic report × AreLinesRight logic report × IsFirstFault (found_of_claim logic report.lines) report.claims position cause

-- what a verdict says of a report
abbrev pub IsVerdict : Logic → PlainReport → Verdict → Type 0
IsVerdict logic report Accepted = IsValid logic report
IsVerdict logic report (Rejected place position cause) = IsFirstOf logic report place position cause
