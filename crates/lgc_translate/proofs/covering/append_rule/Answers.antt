-- A rule that wasn't there is there now.
use Rattle.lgc_translate.proofs.CoverLaws.{one_more}
use Rattle.lgc_translate.proofs.covering.append_rule.Goals as goal

pub returns-clause-one : goal.returns-clause-one
returns-clause-one g c =
    one_more c.args.book.now c.rule_for-derived.new.self c.args.missing.op c.args.missing.sign c.in_ok-derived.field-0 c.requires.absent c.in_ok-derived.ensures.number c.rule_for-derived.ensures.kept c.rule_for-derived.ensures.one
