use Rattle.std.proofs.Common.{length, drop}
use Rattle.lgc_lexer.proofs.SpanLaws.{tokens_all_in}
use Rattle.lgc_tokens.specs.Spelled.{spelled_all}
use Rattle.lgc_inputs.proofs.Stops.{tells_same}
use Rattle.lgc_formulas.proofs.Tops.{term_answer, term_once, term_is, term_faults, term_fits, term_counted}
use Rattle.lgc_formulas.proofs.read.term_with.Goals as goal

pub term_from-requires-clause-inside : goal.term_from-requires-clause-inside
term_from-requires-clause-inside c = tokens_all_in c.args.bytes.now c.args.tokens.now c.requires.tokens

pub returns-clause-answer : goal.returns-clause-answer
returns-clause-answer c = term_answer c.args.nodes_left (length c.args.bytes.now) (λ x. ((x.0, x.2), drop x.1 (spelled_all c.args.bytes.now c.args.tokens.now))) (spelled_all c.args.bytes.now c.args.tokens.now) c.args.at _ c.term_from.ensures.exact

pub returns-clause-complete : goal.returns-clause-complete
returns-clause-complete c = term_is c.args.nodes_left (length c.args.bytes.now) (λ x. ((x.0, x.2), drop x.1 (spelled_all c.args.bytes.now c.args.tokens.now))) (spelled_all c.args.bytes.now c.args.tokens.now) c.args.at _ c.term_from.ensures.exact

pub returns-clause-faults : goal.returns-clause-faults
returns-clause-faults c = term_faults c.args.nodes_left (length c.args.bytes.now) (λ x. ((x.0, x.2), drop x.1 (spelled_all c.args.bytes.now c.args.tokens.now))) (spelled_all c.args.bytes.now c.args.tokens.now) c.args.at _ (term_answer c.args.nodes_left (length c.args.bytes.now) (λ x. ((x.0, x.2), drop x.1 (spelled_all c.args.bytes.now c.args.tokens.now))) (spelled_all c.args.bytes.now c.args.tokens.now) c.args.at c.term_from.result c.term_from.ensures.exact)

pub returns-clause-once : goal.returns-clause-once
returns-clause-once c = λ told h. tells_same (λ x. ((x.0, x.2), drop x.1 (spelled_all c.args.bytes.now c.args.tokens.now))) c.term_from.result _ _ (term_once c.args.nodes_left (length c.args.bytes.now) (λ x. ((x.0, x.2), drop x.1 (spelled_all c.args.bytes.now c.args.tokens.now))) (spelled_all c.args.bytes.now c.args.tokens.now) c.args.at told h) c.term_from.ensures.exact

pub returns-clause-fits : goal.returns-clause-fits
returns-clause-fits c = term_fits c.args.nodes_left (length c.args.bytes.now) (λ x. ((x.0, x.2), drop x.1 (spelled_all c.args.bytes.now c.args.tokens.now))) (spelled_all c.args.bytes.now c.args.tokens.now) c.args.at _ c.term_from.ensures.exact

pub returns-clause-counted : goal.returns-clause-counted
returns-clause-counted c = term_counted c.args.nodes_left (length c.args.bytes.now) (λ x. ((x.0, x.2), drop x.1 (spelled_all c.args.bytes.now c.args.tokens.now))) (spelled_all c.args.bytes.now c.args.tokens.now) c.args.at _ c.term_from.ensures.exact
