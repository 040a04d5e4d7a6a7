use Rattle.std.proofs.Common.{sym, ◌∙◌}
use Rattle.lgc_tokens.specs.Classes.{starts_query}
use Rattle.lgc_formulas.proofs.NamedTokens.{next_named}
use Rattle.lgc_queries.proofs.file.next_starts_query.Goals as goal

pub returns : goal.returns
returns g c = c.next_is.ensures ∙ sym (next_named c.args.c.now.m.now c.args.c.now.bytes.now starts_query c.args.tokens.now)
