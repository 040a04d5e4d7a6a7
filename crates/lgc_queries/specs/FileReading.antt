-- What a query file gives, and what the query that begins at a place among tokens gives, as functions. What they compute is the one answer
-- that QueryFile and QueryPlace allow.
use Rattle.std.specs.Prelude.{ℕ, List, Result}
use Rattle.lgc_grammar.specs.Reading.{whole}
use Rattle.lgc_values.specs.Logic.{Logic}
use Rattle.lgc_syntax.specs.declared.fault.InputFault.{InputFault}
use Rattle.lgc_meaning.specs.declared.query.Query.{Query}
use Rattle.lgc_inputs.specs.Told.{told_of, text_told}
use Rattle.lgc_formulas.specs.Named.{Named, named_all}
use Rattle.lgc_formulas.specs.Setting.{Setting}
use Rattle.lgc_formulas.specs.FormulaTexts.{named_place}
use Rattle.lgc_queries.specs.declared.TheConstants.{LONGEST_FILE}
use Rattle.lgc_queries.specs.QueryReading.{queries_at, query_here_at}

-- the queries of the bytes of a file, or its first fault
abbrev pub file_read : Logic → List ℕ → Result (List Query) InputFault
file_read logic bytes = text_told named_place (named_all logic bytes) (whole (queries_at logic)) LONGEST_FILE bytes

-- the query with which the tokens begin and the tokens behind it, or the first fault
abbrev pub query_read : Setting → ℕ → ℕ → List Named → Result (Query × List Named) InputFault
query_read s many end ts = told_of named_place end (query_here_at s many ts)
