-- The lemmas stay steps while the book grows.
use Rattle.std.proofs.Common.{[]}
use Rattle.lgc_lemmas.proofs.StepLaws.{grown_kept, steps_rules}
use Rattle.lgc_search.proofs.engine.choose.Goals as goal

pub returns-clause-rules : goal.returns-clause-rules
returns-clause-rules g c = grown_kept c.args.book.now c.rule_for.new.self c.rule_for.ensures.kept

pub returns-clause-steps : goal.returns-clause-steps
returns-clause-steps g c = steps_rules c.args.m.now c.args.nodes.now c.args.book.now c.rule_for.new.self [] c.args.lemmas.now (grown_kept c.args.book.now c.rule_for.new.self c.rule_for.ensures.kept) c.requires.steps
