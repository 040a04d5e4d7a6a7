-- Which queries can be read from their text.
use Rattle.std.specs.Prelude.{◌≡◌, ℕ, true, List, All}
use Rattle.lgc_values.specs.Logic.{Logic}
use Rattle.lgc_meaning.specs.declared.query.Query.{Query}
use Rattle.lgc_meaning.specs.Queries.{formulas_of}
use Rattle.lgc_formulas.specs.declared.formula.TheConstants.{MOST_NODES}
use Rattle.lgc_formulas.specs.Setting.{Setting, numbered}
use Rattle.lgc_formulas.specs.FormulaTexts.{text_setting}
use Rattle.lgc_formulas.specs.Writable.{has_readable_names}
use Rattle.lgc_queries.specs.Limits.{IsQueryFor}

-- A query that can be read against a setting where `many` nodes are left: it keeps the limits of queries that are read, and the names in
-- its formulas have the forms by which they are read.
pub record IsWritableQuery (s : Setting) (many : ℕ) (query : Query) : Type 0 where
  pub query_for : IsQueryFor s many query
  pub named : All (λ f. has_readable_names s.logic (numbered s) f ≡ true) (formulas_of query)

-- Each of the queries can be read from a text of its own, where quantifiers may stand and formulas have no numbers.
abbrev pub AreWritable : Logic → List Query → Type 0
AreWritable logic queries = All (IsWritableQuery (text_setting logic) MOST_NODES) queries
