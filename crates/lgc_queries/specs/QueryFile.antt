-- What the bytes of a query file give: its queries, or its first fault.
use Rattle.std.specs.Prelude.{◌≤◌, ◌⊎◌, ℕ, List, Result}
use Rattle.lgc_values.specs.Logic.{Logic}
use Rattle.lgc_syntax.specs.declared.fault.InputFault.{InputFault}
use Rattle.lgc_syntax.specs.declared.fault.TheConstants.{FILE_TOO_LONG, UNKNOWN_VALUE, NOT_PROPOSITIONAL, TOO_MANY_GOALS}
use Rattle.lgc_meaning.specs.declared.query.Query.{Query}
use Rattle.lgc_inputs.specs.Texts.{TextGives, IsTextOf}
use Rattle.lgc_formulas.specs.Named.{named_all}
use Rattle.lgc_formulas.specs.FormulaTexts.{named_place}
use Rattle.lgc_queries.specs.declared.TheConstants.{LONGEST_FILE}
use Rattle.lgc_queries.specs.QueryGrammar.{Queries}
use Rattle.lgc_queries.specs.PlainQueries.{PlainQueries}

-- What the bytes of a file give: a fault of their length, or else of their tokens, or else of their grammar, and else the queries.
abbrev pub FileGives : Logic → List ℕ → Result (List Query) InputFault → Type 0
FileGives logic bytes told = TextGives named_place (named_all logic bytes) (Queries logic) PlainQueries LONGEST_FILE bytes told

-- The bytes are those of a file with these queries.
abbrev pub IsFileOf : Logic → List ℕ → List Query → Type 0
IsFileOf logic bytes queries = IsTextOf (named_all logic bytes) (Queries logic) LONGEST_FILE bytes queries

-- the numbers of the faults of a file: 1 to 10, 13 and 14
abbrev pub IsFileFault : ℕ → Type 0
IsFileFault number = ((FILE_TOO_LONG ≤ number) × (number ≤ UNKNOWN_VALUE)) ⊎ ((NOT_PROPOSITIONAL ≤ number) × (number ≤ TOO_MANY_GOALS))
