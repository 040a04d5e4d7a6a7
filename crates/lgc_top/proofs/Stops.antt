-- Steps on the way to an answer.
use Rattle.std.proofs.Common.{List, ℕ, Some, sym, subst}
use Rattle.lgc_io.specs.Files.{FilesState, FailsAt}
use Rattle.lgc_top.specs.declared.status.Status.{Status}
use Rattle.lgc_top.specs.declared.status.Status.TheVariants.{ReadFault}
use Rattle.lgc_top.specs.declared.answer.Stop.{Stop}
use Rattle.lgc_top.specs.declared.answer.Stop.TheVariants.{Refused, Memory}
use Rattle.lgc_top.specs.FaultLine.{read_line}
use Rattle.lgc_top.specs.Commands.{Command}
use Rattle.lgc_top.specs.Run.{IsRead, CommandAnswers}
use Rattle.lgc_top.specs.Steps.{Stops, Refuses, ReadStops}

module _ (files files_after : FilesState) where
  -- a read that failed
  pub read_failed : (file : List ℕ) (stop : Stop) → FailsAt files files_after file → Refuses ReadFault (read_line file) stop → ReadStops files files_after file stop
  read_failed file (Refused answer) fails (status, line) = (fails, status, line)
  read_failed file Memory fails refuses = tt

  module _ (command : Command) where
    -- a refusal with an answer of the command
    pub refused : (status : Status) (line : List ℕ) (stop : Stop) → Refuses status line stop → CommandAnswers command files files_after status line → Stops (Some command) files files_after stop
    refused status line (Refused answer) (is, told) answers =
        subst (λ (s : Status). CommandAnswers command files files_after s answer.bytes.items) (sym is)
        (subst (λ (bytes : List ℕ). CommandAnswers command files files_after status bytes) (sym told) answers)
    refused status line Memory refuses answers = tt

    -- the same for a read that failed
    pub read_refused : (file : List ℕ) (stop : Stop) → IsRead command files file → ReadStops files files_after file stop → Stops (Some command) files files_after stop
    read_refused file (Refused answer) read (fails, is, told) =
        subst (λ (s : Status). CommandAnswers command files files_after s answer.bytes.items) (sym is) (file, read, fails, told)
    read_refused file Memory read h = tt
