-- Queries that every valuation satisfies.
use Rattle.std.specs.Prelude.{◌≡◌, ℕ, true}
use Rattle.lgc_values.specs.Logic.{Logic}
use Rattle.lgc_syntax.specs.declared.formula.Formula.{Formula}
use Rattle.lgc_syntax.specs.Values.{value, IsValuation}
use Rattle.lgc_meaning.specs.declared.query.Query.{Query}
use Rattle.lgc_meaning.specs.Queries.{satisfies}

-- every valuation satisfies a query
abbrev pub IsSatisfiedEverywhere : Logic → Query → Type 0
IsSatisfiedEverywhere logic query = (v : Formula → ℕ) → IsValuation logic v → satisfies logic.size (value logic v) query ≡ true
