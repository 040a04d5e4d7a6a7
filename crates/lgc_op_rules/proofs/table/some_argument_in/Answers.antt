-- An argument in its set, or one set more without.
use Rattle.std.proofs.Common.{sym, ◌∙◌}
use Rattle.lgc_op_rules.proofs.Digits.{found_at, passed_at, rest_more}
use Rattle.lgc_op_rules.proofs.table.some_argument_in.Goals as goal

pub returns-then-contains : goal.returns-then-contains
returns-then-contains g c =
    sym (found_at g.row.N c.args.row c.loop-i.rest c.args.sets.now c.loop-i.i c.loop-i-test.true c.index-sets-sets.result c.index-sets-sets.is c.loop-i.invariant.rest (sym c.contains.ensures ∙ c.if-contains.true))

pub loop-i-preserved : goal.loop-i-preserved
loop-i-preserved g c = record {
  rest = rest_more g.row.N c.args.row c.loop-i.rest c.args.sets.now c.loop-i.i c.loop-i-test.true c.index-sets-sets.result c.index-sets-sets.is c.loop-i.invariant.rest;
  none = passed_at g.row.N c.args.row c.loop-i.rest c.args.sets.now c.loop-i.i c.loop-i-test.true c.index-sets-sets.result c.index-sets-sets.is c.loop-i.invariant.rest (sym c.contains.ensures ∙ c.if-contains.false) c.loop-i.invariant.none;
}
