use Rattle.std.proofs.Common.{◌≡◌, length}
use Rattle.lgc_grammar.specs.Reading.{growing_at}
use Rattle.lgc_tokens.specs.Spelled.{IsRest}
use Rattle.lgc_tokens.specs.Classes.{starts_query}
use Rattle.lgc_formulas.specs.Named.{named_all}
use Rattle.lgc_queries.specs.QueryReading.{next_query_at, queries_at}
use Rattle.lgc_queries.proofs.file.more_queries.Given as goal

abbrev pub invariant-loop-alloc : goal.invariant-loop-alloc
invariant-loop-alloc g l = record {
  so_far : growing_at (λ t. starts_query t.spelled) (next_query_at l.c.m.now) l.queries (named_all l.c.m.now l.c.bytes.now l.rest) ≡ queries_at l.c.m.now (named_all l.c.m.now l.c.bytes.now l.tokens);
  rest : IsRest l.c.bytes.now l.tokens l.rest;
}

abbrev pub decreases-loop-alloc : goal.decreases-loop-alloc
decreases-loop-alloc g l = length l.rest
