use Rattle.lgc_queries.specs.QueryReading.{named_set_at}
use Rattle.lgc_formulas.proofs.NamedTokens.{seen_gives}
use Rattle.lgc_queries.proofs.QueryReads.{value_set_reads}
use Rattle.lgc_queries.proofs.set.named_set.Goals as goal

pub returns-clause-gives : goal.returns-clause-gives
unfolding named_set_at
returns-clause-gives g c = seen_gives c.args.c.now.m.now c.args.c.now.bytes.now (value_set_reads c.args.c.now.m.now) c.args.tokens.now _ _ _ c.value_set.ensures.gives
