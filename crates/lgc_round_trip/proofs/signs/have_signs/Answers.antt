use Rattle.std.proofs.Common.{◌≡◌, take, subst, rules, arith, IsTrue, All}
use Rattle.std.proofs.lemmas.List.{take_all}
use Rattle.lgc_clauses.specs.declared.rule.Rule.{Rule}
use Rattle.lgc_clauses.specs.Kinds.{plain_rule}
use Rattle.lgc_round_trip.specs.RoundTrip.{HasSets}
use Rattle.lgc_round_trip.proofs.SetLaws.{all_more}
use Rattle.lgc_round_trip.proofs.signs.have_signs.Goals as goal

pub loop-rule-preserved : goal.loop-rule-preserved
loop-rule-preserved g c =
    let yes : IsTrue c.has_sign.result = search rules in
    all_more (λ (x : Rule g.row.N). HasSets g.row.N (plain_rule x)) c.args.rules.now c.loop-rule.rule-index c.rule-item.result (omega arith) (subst (λ (x : Rule g.row.N). HasSets g.row.N (plain_rule x)) c.rule-item.is (c.has_sign.ensures.0 yes)) c.loop-rule.invariant

pub returns : goal.returns
returns g c =
    let whole : take c.loop-rule.rule-index c.args.rules.now ≡ c.args.rules.now = take_all c.loop-rule.rule-index c.args.rules.now (omega arith) in
    (λ _. subst (λ xs. All (λ (x : Rule g.row.N). HasSets g.row.N (plain_rule x)) xs) whole c.loop-rule.invariant, λ _. search rules)
