-- Query files, and the tableaux of their goals.
use Rattle.std.specs.Prelude.{ℕ, Bool, List, Ok}
use Rattle.lgc_values.specs.Logic.{Logic}
use Rattle.lgc_meaning.specs.declared.query.Query.{Query}
use Rattle.lgc_tableaux.specs.TableauxText.{IsTableauxText}
use Rattle.lgc_top.specs.Prove.{QueriesGiven}

-- The bytes are those of a query file, and the text has the tableaux of its queries. `all_closed` tells whether every valuation satisfies every
-- query.
pub record IsTableauxOn (logic : Logic) (all_closed : Bool) (bytes text : List ℕ) : Type 0 where
  pub queries : List Query
  pub given : QueriesGiven logic bytes (Ok queries)
  pub tableaux : IsTableauxText logic queries all_closed text
