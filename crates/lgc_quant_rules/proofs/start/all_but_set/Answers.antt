-- A value of the set gives a set more.
use Rattle.std.proofs.Common.{sym, ◌∙◌}
use Rattle.lgc_quant_rules.proofs.Starts.{value_more, value_passed}
use Rattle.lgc_quant_rules.proofs.start.all_but_set.Goals as goal
use Rattle.lgc_quant_rules.proofs.start.all_but_set.Goals.{then-contains+in_ok-push-2, else-contains}

pub loop-v-preserved : goal.loop-v-preserved
loop-v-preserved g c = elim c.if-contains.branch [
  | then-contains+in_ok-push-2 w ↦
      rw w.sets-is (value_more g.row.N c.loop-v.v c.args.set w.without.result c.loop-v.sets.items w.push-then-contains.new.self.items (sym c.contains.ensures ∙ w.if-contains.true) w.without.ensures c.loop-v.invariant w.in_ok-push-2.ensures.items)
  | else-contains w ↦
      rw w.sets-is (value_passed g.row.N c.loop-v.v c.args.set c.loop-v.sets.items (sym c.contains.ensures ∙ w.if-contains.false) c.loop-v.invariant)
]
