use Rattle.std.proofs.Common.{sym, ◌∙◌}
use Rattle.lgc_tokens.specs.declared.terminal.Terminal.TheVariants.{Only}
use Rattle.lgc_tokens.specs.Classes.{is_a}
use Rattle.lgc_formulas.proofs.NamedTokens.{next_named}
use Rattle.lgc_formulas.proofs.token.next_is.Goals as goal

pub returns : goal.returns
returns g c = c.next_is.ensures ∙ sym (next_named c.args.c.now.m.now c.args.c.now.bytes.now (is_a (Only c.args.class)) c.args.tokens.now)
