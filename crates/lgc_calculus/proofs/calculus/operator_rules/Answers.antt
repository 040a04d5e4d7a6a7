-- The rule of one value more, and the next operator after the last value.
use Rattle.std.proofs.Common.{◌≡◌, ◌≤◌, ◌++◌, ◌∷◌, [], ◌∙◌, arith}
use Rattle.std.proofs.lemmas.Grind.{common_steps}
use Rattle.std.specs.Prelude.{map}
use Rattle.lgc_values.specs.declared.TheConstants.{MOST_VALUES}
use Rattle.lgc_clauses.specs.Kinds.{plain_rule}
use Rattle.lgc_clauses.specs.Rules.{operator, of_operator}
use Rattle.lgc_clauses.specs.declared.rule.Rule.TheVariants.{Operator}
use Rattle.lgc_calculus.specs.Calculus.{IsRightRule}
use Rattle.lgc_calculus.proofs.RuleLists.{rule_pushed, operator_head, rules_next}
use Rattle.lgc_calculus.proofs.calculus.operator_rules.Goals as goal

pub loop-v-preserved : goal.loop-v-preserved
loop-v-preserved g c =
    let rule = c.in_ok-rule.rule in
    let made = c.in_ok-rule.ensures in
    let right : IsRightRule c.args.m.now (of_operator c.in_ok-rule.rule) = record {
      fits = made.fits;
      exact = made.exact;
      irredundant = made.irredundant;
      rising = made.rising;
      sets = λ i d lt. tt;
    } in
    let pushed : c.push.new.self.items ≡ c.loop-v.rules.items ++ Operator c.in_ok-rule.rule ∷ [] = grind (arith, common_steps) in
    rule_pushed c.args.m.now operator c.loop-op.op c.loop-v.v g.row.N c.loop-v.rules.items c.push.new.self.items (Operator rule) pushed (operator_head rule c.loop-op.op c.loop-v.v made.operator (made.sign ∙ c.single.ensures)) right c.loop-v.invariant

pub loop-op-preserved : goal.loop-op-preserved
loop-op-preserved g c =
    let sized = c.operators.ensures.logic.sized in
    let most : g.row.N ≤ MOST_VALUES = let high = sized.high in let size = c.operators.ensures.size in omega arith in
    let all : c.loop-v.v ≡ c.args.m.now.size = let size = c.operators.ensures.size in omega arith in
    rules_next c.args.m.now operator c.loop-op.op c.loop-v.v (map (plain_rule {size = g.row.N}) c.loop-v.rules.items) all (omega arith) c.loop-v.invariant
