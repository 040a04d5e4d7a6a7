-- Words of private calls: derivations that are unfolded from lines.
use Rattle.std.specs.Prelude.{◌≡◌, ◌<◌, ◌≤◌, ◌-◌, ℕ, List, [], map, take, All, Option, None, Some}
use Rattle.std.specs.List.{AllZip}
use Rattle.lgc_clauses.specs.Rules.{OperatorRule, of_operator}
use Rattle.lgc_sequents.specs.Signed.{SignedFormula}
use Rattle.lgc_sequents.specs.Sequents.{IsSign}
use Rattle.lgc_sequents.specs.Lines.{PlainLine, at_position, sequent_at, premises_of}
use Rattle.lgc_sequents.specs.Lines.{formulas_of as formulas_of_line}
use Rattle.lgc_sequents.specs.Steps.{IsReasonFor, AreSteps}
use Rattle.lgc_sequents.specs.declared.line.Cited.{Cited}
use Rattle.lgc_sequents.specs.declared.line.Reason.{Reason}
use Rattle.lgc_sequents.specs.declared.line.Reason.TheVariants.{Axiom}
use Rattle.lgc_derivations.specs.Derivations.{Tree, conclusion_of, formulas_of, most_steps, IsRight}
use Rattle.lgc_decision.specs.Decided.{AreSubformulasOf}
use Rattle.lgc_proofs.specs.Reasons.{IsPlainReason}
use Rattle.lgc_proofs.specs.Found.{operators, CitesLighter}

-- ---- lines by their positions

abbrev pub reason_of : Option PlainLine → Reason
reason_of None = Axiom
reason_of (Some line) = line.reason

-- the reason of the line at a position, and that of an axiom where there is none
abbrev pub reason_at : List PlainLine → ℕ → Reason
reason_at lines position = reason_of (at_position lines position)

-- the premises that it cites, and their lines
abbrev pub premises_at : List PlainLine → ℕ → List Cited
premises_at lines position = premises_of (reason_at lines position)

abbrev pub cited_at : List PlainLine → ℕ → List ℕ
cited_at lines position = map (λ cited. cited.line) (premises_at lines position)

-- the lines before it
abbrev pub lines_before : List PlainLine → ℕ → List PlainLine
lines_before lines position = take (position - 1) lines

-- each line is an axiom, or by a rule from lines before it
pub record AreInOrder (lines : List PlainLine) : Type 0 where
  pub plain : (position : ℕ) → IsPlainReason (reason_at lines position)
  pub earlier : (position : ℕ) → All (λ cited. (1 ≤ cited) × (cited < position)) (cited_at lines position)

-- ---- derivations

-- A derivation has a conclusion, and for it the reason of the line at a position. Where the lines are steps by some rules, and this reason
-- holds of the conclusion, it is right for these rules. Its other conclusions are those of lines, so it has no formulas but theirs, and where
-- lines cite lighter ones, no way down has more steps than the line has operators.
pub record IsUnfolded (n : ℕ) (lines : List PlainLine) (position : ℕ) (conclusion : List SignedFormula) (d : Tree) : Type 0 where
  pub concludes : conclusion_of d ≡ conclusion
  pub right : (rules : List OperatorRule) → AreSteps n (map of_operator rules) [] lines → IsReasonFor n (map of_operator rules) (lines_before lines position) conclusion (reason_at lines position) → IsRight n (map of_operator rules) d
  pub parts : (goal : List SignedFormula) → All (λ line. AreSubformulasOf goal (formulas_of_line line)) lines → AreSubformulasOf goal (map (λ item. item.formula) conclusion) → AreSubformulasOf goal (formulas_of d)
  pub short : (rules : List OperatorRule) → All (λ rule. IsSign n rule.sign) rules → AreSteps n (map of_operator rules) [] lines → All (CitesLighter lines) lines → most_steps d ≤ operators (sequent_at lines position)

-- derivations of the lines at some positions, each with the line's own sequent
abbrev pub AreUnfolded : ℕ → List PlainLine → List ℕ → List Tree → Type 0
AreUnfolded n lines positions ds = AllZip (λ position d. IsUnfolded n lines position (sequent_at lines position) d) positions ds
