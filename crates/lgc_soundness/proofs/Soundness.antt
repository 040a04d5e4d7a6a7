-- What a valid report derives holds in every finite structure of the logic.
use Rattle.std.proofs.Common.{◌≢◌, List, [], map, get_or}
use Rattle.std.specs.List.{All}
use Rattle.std.proofs.lemmas.List.Elements.{All-map}
use Rattle.lgc_values.specs.Logic.{Logic, IsLogic}
use Rattle.lgc_syntax.specs.Structures.{Structure, IsStructure}
use Rattle.lgc_clauses.specs.Rules as clauses
use Rattle.lgc_clauses.specs.Rules.{PlainRule}
use Rattle.lgc_clauses.specs.Exactness.{IsExact}
use Rattle.lgc_meaning.specs.declared.query.Query.{Query}
use Rattle.lgc_sequents.specs.Sequents.{IsSequent}
use Rattle.lgc_sequents.specs.Lines.{PlainLine}
use Rattle.lgc_report.specs.declared.report.Evidence.{Evidence}
use Rattle.lgc_report.specs.declared.report.Evidence.TheVariants.{Proved, Refuted, Unfinished}
use Rattle.lgc_report.specs.Reports.{PlainNumbered, PlainClaim, answer, holds, PlainReport, FitsReport}
use Rattle.lgc_report.specs.Valid.{IsEvidence, IsValidClaim, IsValid}
use Rattle.lgc_soundness.specs.Soundness.{AnswerHolds, ClaimHolds, IsSound}
use Rattle.lgc_soundness.proofs.LinesHold.{LinesHold, lines_hold}
use Rattle.lgc_soundness.proofs.Claims.{included_holds, proved_is_satisfied}

module _ (logic : Logic) (is : IsLogic logic) (lines : List PlainLine) (hold : (M : Structure) → IsStructure logic M → LinesHold logic M lines) where
  answer_holds : (query : Query) (evidence : Evidence) → IsEvidence logic lines query evidence → AnswerHolds logic query evidence
  answer_holds query (Proved cited) proof = λ M structure. proved_is_satisfied logic M lines (hold M structure) is structure query cited proof
  answer_holds query (Refuted entries) refutation = tt
  answer_holds query (Unfinished cited) unfinished = tt

  -- a claim that follows from lines holds where the lines do
  claim_holds : (claim : PlainClaim) → IsValidClaim logic lines claim → ClaimHolds logic claim
  claim_holds (answer number query evidence) valid = answer_holds query evidence valid
  claim_holds (holds number sequent line) valid = λ M structure. included_holds logic M lines (hold M structure) line sequent valid.included valid.settled

-- a valid report of a logic, whose lines are sequents, is sound
pub valid_is_sound : (logic : Logic) → IsLogic logic → (report : PlainReport) → FitsReport logic report → All (λ line. IsSequent logic.size line.sequent) report.lines → IsValid logic report → IsSound logic report
valid_is_sound logic is report fits sequents valid = record { lines = λ position line stands settled M structure. hold M structure position line stands settled; claims = λ i d lt. claim_holds logic is report.lines hold (get_or report.claims i d) (valid.claims i d lt) } where
  rules : List PlainRule
  rules = map (λ (numbered : PlainNumbered). numbered.rule) report.rules

  hold : (M : Structure) → IsStructure logic M → LinesHold logic M report.lines
  hold M structure =
      lines_hold logic is M structure rules
      (All-map (clauses.Fits logic) (λ (numbered : PlainNumbered). numbered.rule) report.rules (λ i d lt. (fits.rules i d lt).fits))
      (All-map (λ (rule : PlainRule). rule.sign ≢ []) (λ (numbered : PlainNumbered). numbered.rule) report.rules (λ i d lt. (fits.rules i d lt).signed))
      (All-map (IsExact logic) (λ (numbered : PlainNumbered). numbered.rule) report.rules valid.exact)
      report.lines valid.steps fits.lines sequents
