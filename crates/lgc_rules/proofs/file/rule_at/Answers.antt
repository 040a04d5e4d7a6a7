use Rattle.std.proofs.Common.{length, drop, arith, ◌∙◌}
use Rattle.lgc_lexer.proofs.SpanLaws.{tokens_all_in}
use Rattle.lgc_tokens.specs.Spelled.{spelled_all}
use Rattle.lgc_inputs.proofs.Stops.{tells_same}
use Rattle.lgc_rules.proofs.Tops.{rule_answer, rule_once, rule_is, rule_faults, rule_for}
use Rattle.lgc_rules.proofs.file.rule_at.Goals as goal

pub rule_from-requires : goal.rule_from-requires
rule_from-requires g c = (omega arith, (omega arith, (c.requires.length, (tokens_all_in c.args.bytes.now c.args.tokens.now c.requires.tokens, c.requires.at))))

pub returns-clause-answer : goal.returns-clause-answer
returns-clause-answer g c = rule_answer g.row.N c.args.m.now _ _ _ _ c.rule_from.ensures.exact

pub returns-clause-complete : goal.returns-clause-complete
returns-clause-complete g c = λ rule front rest split h. rule_is g.row.N c.args.m.now (length c.args.bytes.now) (spelled_all c.args.bytes.now c.args.tokens.now) c.args.at _ rule front rest split h c.rule_from.ensures.exact

pub returns-clause-fits : goal.returns-clause-fits
returns-clause-fits g c = rule_for g.row.N c.args.m.now _ (c.names-names.ensures.logic.named ∙ c.names-names.ensures.size) c.args.bytes.now c.args.tokens.now c.args.at _ c.requires.length c.requires.tokens c.rule_from.ensures.exact

pub returns-clause-once : goal.returns-clause-once
returns-clause-once g c = λ told h. tells_same (λ x. (x.0, drop x.1 (spelled_all c.args.bytes.now c.args.tokens.now))) _ _ _ (rule_once g.row.N c.args.m.now (length c.args.bytes.now) (spelled_all c.args.bytes.now c.args.tokens.now) c.args.at told h) c.rule_from.ensures.exact

pub returns-clause-faults : goal.returns-clause-faults
returns-clause-faults g c = rule_faults g.row.N c.args.m.now (length c.args.bytes.now) (spelled_all c.args.bytes.now c.args.tokens.now) c.args.at _ (rule_answer g.row.N c.args.m.now _ _ _ _ c.rule_from.ensures.exact)
