use Rattle.std.proofs.Common.{length, drop, subst, arith}
use Rattle.std.specs.Prelude.{option_map}
use Rattle.lgc_lexer.proofs.SpanLaws.{tokens_all_in}
use Rattle.lgc_inputs.proofs.Stops.{tells_same}
use Rattle.lgc_formulas.specs.Named.{named_all}
use Rattle.lgc_formulas.specs.Setting.{setting_with}
use Rattle.lgc_formulas.specs.FormulaTexts.{parsed}
use Rattle.lgc_formulas.proofs.NamedTokens.{named_drop}
use Rattle.lgc_formulas.proofs.FormulasKept.{AreKnown, named_known}
use Rattle.lgc_formulas.proofs.Tops.{parsed_answer, parsed_once, parsed_is, parsed_faults, parsed_fits, parsed_counted}
use Rattle.lgc_formulas.proofs.read.formula_with.Goals as goal

pub formula_from-requires : goal.formula_from-requires
formula_from-requires g c = (omega arith, (omega arith, (tokens_all_in c.args.bytes.now c.args.tokens.now c.requires.tokens, c.requires.at)))

pub returns-clause-answer : goal.returns-clause-answer
returns-clause-answer g c = parsed_answer (setting_with c.args.m.now c.args.quantifiers (option_map (λ l. l.now) c.args.lets)) c.args.nodes_left (length c.args.bytes.now) (named_all c.args.m.now c.args.bytes.now c.args.tokens.now) c.args.at _ c.formula_from.ensures.exact

pub returns-clause-once : goal.returns-clause-once
returns-clause-once g c = λ told h. tells_same (parsed (named_all c.args.m.now c.args.bytes.now c.args.tokens.now)) _ _ _ (parsed_once (setting_with c.args.m.now c.args.quantifiers (option_map (λ l. l.now) c.args.lets)) c.args.nodes_left (length c.args.bytes.now) (named_all c.args.m.now c.args.bytes.now c.args.tokens.now) c.args.at told h) c.formula_from.ensures.exact

pub returns-clause-complete : goal.returns-clause-complete
returns-clause-complete g c = parsed_is (setting_with c.args.m.now c.args.quantifiers (option_map (λ l. l.now) c.args.lets)) c.args.nodes_left (length c.args.bytes.now) (named_all c.args.m.now c.args.bytes.now c.args.tokens.now) c.args.at _ c.formula_from.ensures.exact

pub returns-clause-faults : goal.returns-clause-faults
returns-clause-faults g c = parsed_faults (setting_with c.args.m.now c.args.quantifiers (option_map (λ l. l.now) c.args.lets)) c.args.nodes_left (length c.args.bytes.now) (named_all c.args.m.now c.args.bytes.now c.args.tokens.now) c.args.at _ (parsed_answer (setting_with c.args.m.now c.args.quantifiers (option_map (λ l. l.now) c.args.lets)) c.args.nodes_left (length c.args.bytes.now) (named_all c.args.m.now c.args.bytes.now c.args.tokens.now) c.args.at c.formula_from.result c.formula_from.ensures.exact)

pub returns-clause-fits : goal.returns-clause-fits
returns-clause-fits g c = parsed_fits (setting_with c.args.m.now c.args.quantifiers (option_map (λ l. l.now) c.args.lets)) c.args.nodes_left (length c.args.bytes.now) (named_all c.args.m.now c.args.bytes.now c.args.tokens.now) c.args.at (subst (AreKnown c.args.m.now) (named_drop c.args.m.now c.args.bytes.now c.args.tokens.now c.args.at) (named_known c.args.m.now c.args.bytes.now (drop c.args.at c.args.tokens.now))) _ c.formula_from.ensures.exact

pub returns-clause-counted : goal.returns-clause-counted
returns-clause-counted g c = parsed_counted (setting_with c.args.m.now c.args.quantifiers (option_map (λ l. l.now) c.args.lets)) c.args.nodes_left (length c.args.bytes.now) (named_all c.args.m.now c.args.bytes.now c.args.tokens.now) c.args.at (subst (AreKnown c.args.m.now) (named_drop c.args.m.now c.args.bytes.now c.args.tokens.now c.args.at) (named_known c.args.m.now c.args.bytes.now (drop c.args.at c.args.tokens.now))) _ c.formula_from.ensures.exact
