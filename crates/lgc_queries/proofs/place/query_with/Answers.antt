use Rattle.std.proofs.Common.{length, drop, arith, subst}
use Rattle.std.specs.Prelude.{option_map}
use Rattle.lgc_lexer.proofs.SpanLaws.{tokens_all_in}
use Rattle.lgc_inputs.proofs.Stops.{tells_same}
use Rattle.lgc_formulas.specs.Named.{named_all}
use Rattle.lgc_formulas.specs.Setting.{setting_with}
use Rattle.lgc_formulas.proofs.NamedTokens.{named_drop}
use Rattle.lgc_formulas.proofs.FormulasKept.{AreKnown, named_known}
use Rattle.lgc_queries.specs.QueryPlace.{with_tokens}
use Rattle.lgc_queries.proofs.QueryPlaces.{place_answer, place_once, place_complete, place_faults, place_fits}
use Rattle.lgc_queries.proofs.place.query_with.Goals as goal

pub query_from-requires : goal.query_from-requires
query_from-requires g c = (omega arith, (omega arith, (tokens_all_in c.args.bytes.now c.args.tokens.now c.requires.tokens, c.requires.at)))

pub returns-clause-answer : goal.returns-clause-answer
returns-clause-answer g c = place_answer (setting_with c.args.m.now c.args.quantifiers (option_map (λ l. l.now) c.args.lets)) c.args.nodes_left (length c.args.bytes.now) (named_all c.args.m.now c.args.bytes.now c.args.tokens.now) c.args.at _ c.query_from.ensures.exact

pub returns-clause-once : goal.returns-clause-once
returns-clause-once g c = λ told h. tells_same (with_tokens (named_all c.args.m.now c.args.bytes.now c.args.tokens.now)) _ _ _ (place_once (setting_with c.args.m.now c.args.quantifiers (option_map (λ l. l.now) c.args.lets)) c.args.nodes_left (length c.args.bytes.now) (named_all c.args.m.now c.args.bytes.now c.args.tokens.now) c.args.at told h) c.query_from.ensures.exact

pub returns-clause-complete : goal.returns-clause-complete
returns-clause-complete g c = λ query front rest split phrase ends. place_complete (setting_with c.args.m.now c.args.quantifiers (option_map (λ l. l.now) c.args.lets)) c.args.nodes_left (length c.args.bytes.now) (named_all c.args.m.now c.args.bytes.now c.args.tokens.now) c.args.at query front rest _ split phrase ends c.query_from.ensures.exact

pub returns-clause-fits : goal.returns-clause-fits
returns-clause-fits g c = λ lets. place_fits (setting_with c.args.m.now c.args.quantifiers (option_map (λ l. l.now) c.args.lets)) c.args.nodes_left (length c.args.bytes.now) (named_all c.args.m.now c.args.bytes.now c.args.tokens.now) c.args.at lets c.names-names.ensures.logic (subst (AreKnown c.args.m.now) (named_drop c.args.m.now c.args.bytes.now c.args.tokens.now c.args.at) (named_known c.args.m.now c.args.bytes.now (drop c.args.at c.args.tokens.now))) _ c.query_from.ensures.exact

pub returns-clause-faults : goal.returns-clause-faults
returns-clause-faults g c = place_faults (setting_with c.args.m.now c.args.quantifiers (option_map (λ l. l.now) c.args.lets)) c.args.nodes_left (length c.args.bytes.now) (named_all c.args.m.now c.args.bytes.now c.args.tokens.now) c.args.at _ (place_answer (setting_with c.args.m.now c.args.quantifiers (option_map (λ l. l.now) c.args.lets)) c.args.nodes_left (length c.args.bytes.now) (named_all c.args.m.now c.args.bytes.now c.args.tokens.now) c.args.at c.query_from.result c.query_from.ensures.exact)
