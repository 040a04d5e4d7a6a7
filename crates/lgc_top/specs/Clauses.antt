-- Query files, and the signed clauses of their goals.
use Rattle.std.specs.Prelude.{ℕ, List, Ok}
use Rattle.lgc_values.specs.Logic.{Logic}
use Rattle.lgc_meaning.specs.declared.query.Query.{Query}
use Rattle.lgc_clause_text.specs.ClausesText.{IsClausesText}
use Rattle.lgc_top.specs.Prove.{QueriesGiven}

-- the bytes are those of a query file, and the text tells the signed clauses of its queries
pub record IsClausesOn (logic : Logic) (bytes text : List ℕ) : Type 0 where
  pub queries : List Query
  pub given : QueriesGiven logic bytes (Ok queries)
  pub clauses : IsClausesText logic queries text
