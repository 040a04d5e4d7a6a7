-- What the query that begins at a place among tokens gives: the query and the place behind it, or the first fault. Nothing is known of
-- the text that it stands in, and its goals aren't counted.
use Rattle.std.specs.Prelude.{◌≡◌, ◌≤◌, ◌⊎◌, ℕ, true, false, List, drop, Result, Ok, Err}
use Rattle.lgc_grammar.specs.Grammar.{Why}
use Rattle.lgc_grammar.specs.Among.{TakesTo, AnswersAmong}
use Rattle.lgc_syntax.specs.declared.fault.InputFault.{InputFault}
use Rattle.lgc_syntax.specs.declared.fault.TheConstants.{UNEXPECTED, UNKNOWN_VALUE, NOT_PROPOSITIONAL, UNKNOWN_NUMBER}
use Rattle.lgc_meaning.specs.declared.query.Query.{Query}
use Rattle.lgc_inputs.specs.Places.{AccountGives}
use Rattle.lgc_formulas.specs.Named.{Named}
use Rattle.lgc_formulas.specs.Setting.{Setting, numbered}
use Rattle.lgc_formulas.specs.FormulaPlaces.{why_bare}
use Rattle.lgc_formulas.specs.FormulaTexts.{named_place}
use Rattle.lgc_queries.specs.declared.read.QueryRead.{QueryRead}
use Rattle.lgc_queries.specs.QueryGrammar.{OneQuery}
use Rattle.lgc_queries.specs.PlainQueries.{PlainQuery}

-- a query whose last formula isn't bare
abbrev pub whole_query : Query → QueryRead
whole_query query = record { query = query; is_bare = false }

-- What reading answers: the longest query with which the tokens begin, and the tokens behind it, unless its last formula is bare.
abbrev pub QueryGives : Setting → ℕ → List Named → Result (Query × List Named) (List Named × Why) → Type 0
QueryGives s many ts (Ok x) = TakesTo (OneQuery s many) (PlainQuery (numbered s)) ts x.1 (whole_query x.0)
QueryGives s many ts (Err e) =
    AnswersAmong (OneQuery s many) (PlainQuery (numbered s)) ts (Err e)
    ⊎ ((x : QueryRead) × (x.is_bare ≡ true) × TakesTo (OneQuery s many) (PlainQuery (numbered s)) ts e.0 x × (e.1 ≡ why_bare e.0))

-- a query that was read, and the tokens behind it, in the place of where they begin
abbrev pub with_tokens : List Named → Query × ℕ → Query × List Named
with_tokens ts x = (x.0, drop x.1 ts)

-- What is told of the tokens from the place `at` on: the query and the place of the token behind it, or the fault for which reading stops.
abbrev pub QueryTold : Setting → ℕ → ℕ → List Named → ℕ → Result (Query × ℕ) InputFault → Type 0
QueryTold s many end ts at told = AccountGives named_place (QueryGives s many) end (with_tokens ts) (drop at ts) told

-- the numbers of the faults of a query among tokens: 4 to 10, 13 where quantifiers may not stand, and 15 where formulas have numbers
abbrev pub IsPlaceFault : Setting → ℕ → Type 0
IsPlaceFault s number =
    ((UNEXPECTED ≤ number) × (number ≤ UNKNOWN_VALUE))
    ⊎ (((number ≡ NOT_PROPOSITIONAL) × (s.quantified ≡ false)) ⊎ ((number ≡ UNKNOWN_NUMBER) × (numbered s ≡ true)))
