use Rattle.std.proofs.Common.{◌≡◌, length}
use Rattle.lgc_tokens.specs.Spelled.{IsRest, spelled_all}
use Rattle.lgc_queries.specs.QueryReading.{more_values_at}
use Rattle.lgc_queries.proofs.set.more_values.Given as goal

abbrev pub invariant-loop-set : goal.invariant-loop-set
invariant-loop-set g l = record {
  so_far : more_values_at l.m l.set (spelled_all l.bytes l.rest) ≡ more_values_at l.m l.fn.set (spelled_all l.bytes l.tokens);
  rest : IsRest l.bytes l.tokens l.rest;
}

abbrev pub decreases-loop-set : goal.decreases-loop-set
decreases-loop-set g l = length l.rest
