-- The promises are kept by how a run ends.
use Rattle.lgc_top.specs.declared.status.Status.{Status}
use Rattle.lgc_top.specs.Run.{Run, Ends}
use Rattle.lgc_top.specs.Promise.{KeepsPromises}
use Rattle.lgc_top.proofs.Endings.{prints_calculus, prints_right, prints_rejected, prints_proved, prints_refuted, prints_accepted, prints_invalid, sound_accepted, prints_clauses, prints_closed, prints_unclosed}
use Rattle.lgc_top.proofs.Meanings.{completes}

pub kept : (run : Run) (status : Status) → Ends run status → KeepsPromises run status
kept run status ends = record {
  ends = ends;
  calculus = λ format file. prints_calculus run format file status ends;
  right = λ file rules. prints_right run file rules status ends;
  rejected = λ file rules. prints_rejected run file rules status ends;
  proved = λ file queries. prints_proved run file queries status ends;
  refuted = λ file queries. prints_refuted run file queries status ends;
  accepted = λ file report. prints_accepted run file report status ends;
  invalid = λ file report. prints_invalid run file report status ends;
  sound = λ file report. sound_accepted run file report status ends;
  clauses = λ file queries. prints_clauses run file queries status ends;
  closed = λ file queries. prints_closed run file queries status ends;
  unclosed = λ file queries. prints_unclosed run file queries status ends;
  complete = λ meant means none. completes run meant means none status ends;
}
