-- What a query file gives is what reading it tells, and the one thing that it gives.
use Rattle.std.proofs.Common.{◌≡◌, ℕ, List, All, Result, Ok, Err, IfOk, inl, arith}
use Rattle.lgc_grammar.specs.Reading.{whole}
use Rattle.lgc_grammar.proofs.Readers.{whole_answers}
use Rattle.lgc_grammar.proofs.Exact.{whole_exact}
use Rattle.lgc_values.specs.Logic.{Logic, IsLogic}
use Rattle.lgc_syntax.specs.declared.fault.InputFault.{InputFault}
use Rattle.lgc_meaning.specs.declared.query.Query.{Query}
use Rattle.lgc_inputs.specs.Told.{Holds, IfFault, IsTree, Tells}
use Rattle.lgc_inputs.proofs.Texts.{text_once, text_answer, text_is, text_of, text_faults}
use Rattle.lgc_formulas.specs.Named.{named_all}
use Rattle.lgc_formulas.specs.FormulaTexts.{named_place}
use Rattle.lgc_formulas.proofs.FormulasKept.{named_known}
use Rattle.lgc_queries.specs.declared.TheConstants.{LONGEST_FILE}
use Rattle.lgc_queries.specs.QueryGrammar.{Queries}
use Rattle.lgc_queries.specs.PlainQueries.{PlainQueries}
use Rattle.lgc_queries.specs.QueryReading.{queries_at}
use Rattle.lgc_queries.specs.QueryFile.{FileGives, IsFileOf, IsFileFault}
use Rattle.lgc_queries.specs.Limits.{IsFileQuery}
use Rattle.lgc_queries.specs.FileReading.{file_read}
use Rattle.lgc_queries.proofs.QueryReads.{queries_read}
use Rattle.lgc_queries.proofs.QueryFaults.{file_only}
use Rattle.lgc_queries.proofs.QueriesKept.{queries_kept}

module _ (logic : Logic) (bytes : List ℕ) where
  -- what the bytes give is what reading them tells, so it is one
  pub file_once : (told : Result (List Query) InputFault) → FileGives logic bytes told → file_read logic bytes ≡ told
  file_once = text_once named_place (named_all logic bytes) (Queries logic) PlainQueries (whole (queries_at logic)) (whole_answers (queries_read logic)) (whole_exact (queries_read logic)) LONGEST_FILE bytes

  pub file_answer : (result : Result (List Query) InputFault) → Tells (λ queries. queries) result (file_read logic bytes) → Holds (FileGives logic bytes) result
  file_answer = text_answer named_place (named_all logic bytes) (Queries logic) PlainQueries (whole (queries_at logic)) (whole_answers (queries_read logic)) (whole_exact (queries_read logic)) LONGEST_FILE bytes

  pub file_is : (queries : List Query) (result : Result (List Query) InputFault) → IsFileOf logic bytes queries → Tells (λ queries. queries) result (file_read logic bytes) → IsTree (λ queries. queries) result queries
  file_is = text_is named_place (named_all logic bytes) (Queries logic) PlainQueries (whole (queries_at logic)) (whole_answers (queries_read logic)) (whole_exact (queries_read logic)) LONGEST_FILE bytes

  pub file_of : (queries : List Query) → FileGives logic bytes (Ok queries) → IsFileOf logic bytes queries
  file_of = text_of named_place (named_all logic bytes) (Queries logic) PlainQueries (whole (queries_at logic)) (whole_answers (queries_read logic)) (whole_exact (queries_read logic)) LONGEST_FILE bytes

  pub file_faults : (result : Result (List Query) InputFault) → Holds (FileGives logic bytes) result → IfFault result IsFileFault
  file_faults = text_faults named_place (named_all logic bytes) (Queries logic) PlainQueries (whole (queries_at logic)) (whole_answers (queries_read logic)) (whole_exact (queries_read logic)) LONGEST_FILE bytes IsFileFault (file_only logic) (λ _. inl (omega arith, omega arith)) (inl (omega arith, omega arith)) (inl (omega arith, omega arith)) (inl (omega arith, omega arith))

  -- each is a query for the logic
  pub file_fits : IsLogic logic → (result : Result (List Query) InputFault) → Tells (λ queries. queries) result (file_read logic bytes) → IfOk result (λ queries. All (IsFileQuery logic) queries)
  file_fits is_logic (Ok queries) told = let text = file_of queries (file_answer (Ok queries) told) in queries_kept logic is_logic queries (named_all logic bytes text.tokens) (named_known logic bytes text.tokens) text.derived
  file_fits is_logic (Err f) told = tt
