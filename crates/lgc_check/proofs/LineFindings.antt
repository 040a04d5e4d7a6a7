-- What is found of a line, by what is found of it as a step and of its number.
use Rattle.std.proofs.Common.{◌≡◌, ℕ, zero, suc, ◌+◌, ◌<◌, List, [], ◌∷◌, length, take, refl, sym, ap, subst, add-one, arith}
use Rattle.std.specs.Prelude.{slice_get, Option, Some, None}
use Rattle.lgc_clauses.specs.Rules.{PlainRule}
use Rattle.lgc_sequents.specs.Lines.{PlainLine}
use Rattle.lgc_steps.specs.declared.fault.StepFault.{StepFault}
use Rattle.lgc_steps.specs.StepFaults.{found_of_step}
use Rattle.lgc_check.specs.declared.verdict.Cause.{Cause}
use Rattle.lgc_check.specs.Causes.{found_of_number, cause_of_step, before_position, found_of_line}
use Rattle.lgc_check.proofs.Faults.{first_found, next_found}

module _ (n : ℕ) (rules : List PlainRule) (lines : List PlainLine) (at : ℕ) (line : PlainLine) where
  lines_before : before_position lines (at + 1) ≡ take at lines
  lines_before = ap (before_position lines) (add-one at)

  pub step_faulty : (fault : StepFault) (told : Cause) → told ≡ cause_of_step fault → found_of_step n rules (take at lines) line (Some fault) → found_of_line n rules lines (at + 1) line (Some told)
  step_faulty fault told is found =
      subst (λ cause. found_of_line n rules lines (at + 1) line (Some cause)) (sym is)
      (first_found (found_of_step n rules (before_position lines (at + 1)) line) cause_of_step (found_of_number (at + 1) line.number) fault
      (subst (λ before. found_of_step n rules before line (Some fault)) (sym lines_before) found))

  pub step_right : (found : Option Cause) → found_of_step n rules (take at lines) line None → found_of_number (at + 1) line.number found → found_of_line n rules lines (at + 1) line found
  step_right found right numbered =
      next_found (found_of_step n rules (before_position lines (at + 1)) line) cause_of_step (found_of_number (at + 1) line.number) found
      (subst (λ before. found_of_step n rules before line None) (sym lines_before) right) numbered

-- something stands at each place within a list
pub item_at : {X : Type 0} (xs : List X) (i : ℕ) → i < length xs → (x : X) × (slice_get xs i ≡ Some x)
item_at [] i within = absurd (omega arith)
item_at (x ∷ xs) zero within = (x, refl)
item_at (x ∷ xs) (suc i) within = item_at xs i (omega arith)
