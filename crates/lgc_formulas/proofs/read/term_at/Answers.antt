use Rattle.std.proofs.Common.{length, drop}
use Rattle.lgc_lexer.proofs.SpanLaws.{tokens_all_in}
use Rattle.lgc_tokens.specs.Spelled.{spelled_all}
use Rattle.lgc_inputs.proofs.Stops.{tells_same}
use Rattle.lgc_formulas.proofs.Tops.{lone_answer, lone_once, lone_is, lone_faults, lone_fits, lone_small}
use Rattle.lgc_formulas.proofs.read.term_at.Goals as goal

pub lone_term_from-requires-clause-inside : goal.lone_term_from-requires-clause-inside
lone_term_from-requires-clause-inside c = tokens_all_in c.args.bytes.now c.args.tokens.now c.requires.tokens

pub returns-clause-answer : goal.returns-clause-answer
returns-clause-answer c = lone_answer (length c.args.bytes.now) (spelled_all c.args.bytes.now c.args.tokens.now) c.args.at _ c.lone_term_from.ensures.exact

pub returns-clause-once : goal.returns-clause-once
returns-clause-once c = λ told h. tells_same (λ x. (x.0, drop x.1 (spelled_all c.args.bytes.now c.args.tokens.now))) c.lone_term_from.result _ _ (lone_once (length c.args.bytes.now) (spelled_all c.args.bytes.now c.args.tokens.now) c.args.at told h) c.lone_term_from.ensures.exact

pub returns-clause-complete : goal.returns-clause-complete
returns-clause-complete c = lone_is (length c.args.bytes.now) (spelled_all c.args.bytes.now c.args.tokens.now) c.args.at _ c.lone_term_from.ensures.exact

pub returns-clause-faults : goal.returns-clause-faults
returns-clause-faults c = lone_faults (length c.args.bytes.now) (spelled_all c.args.bytes.now c.args.tokens.now) c.args.at _ (lone_answer (length c.args.bytes.now) (spelled_all c.args.bytes.now c.args.tokens.now) c.args.at c.lone_term_from.result c.lone_term_from.ensures.exact)

pub returns-clause-fits : goal.returns-clause-fits
returns-clause-fits c = lone_fits (length c.args.bytes.now) (spelled_all c.args.bytes.now c.args.tokens.now) c.args.at _ c.lone_term_from.ensures.exact

pub returns-clause-small : goal.returns-clause-small
returns-clause-small c = lone_small (length c.args.bytes.now) (spelled_all c.args.bytes.now c.args.tokens.now) c.args.at _ c.lone_term_from.ensures.exact
