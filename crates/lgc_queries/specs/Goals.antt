-- Whether a query has too many goals.
use Rattle.std.specs.Prelude.{ℕ, nat_lt, Bool}
use Rattle.lgc_meaning.specs.declared.query.Query.{Query}
use Rattle.lgc_goals.specs.declared.TheConstants.{MOST_GOALS}
use Rattle.lgc_goals.specs.Goals.{goal_count}

-- a query has more goals than queries that are read may have
abbrev pub has_too_many_goals : ℕ → Query → Bool
has_too_many_goals n query = nat_lt MOST_GOALS (goal_count n query)
