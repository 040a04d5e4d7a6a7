-- One set more, and all at the end.
use Rattle.std.proofs.Common.{◌≡◌, [], ◌∷◌, ◌++◌, arith}
use Rattle.std.proofs.lemmas.Grind.{common_steps}
use Rattle.lgc_values.specs.Logic.{arguments_at}
use Rattle.lgc_op_rules.proofs.Starts.{one_more, other_is, whole}
use Rattle.lgc_op_rules.proofs.table.all_but_row.Goals as goal

pub loop-j-preserved : goal.loop-j-preserved
loop-j-preserved g c =
    let pushed : c.push.new.self.items ≡ c.loop-j.sets.items ++ c.complement.result ∷ [] = grind (arith, common_steps) in
    one_more g.row.N (arguments_at g.row.N c.args.arity c.args.row) c.loop-j.j c.argument_at.result c.loop-j.sets.items c.push.new.self.items c.complement.result c.loop-j.invariant
    c.argument_at.ensures.argument (other_is g.row.N c.argument_at.result c.single.result c.complement.result c.single.ensures c.complement.ensures) pushed

pub returns : goal.returns
returns g c = whole g.row.N c.args.arity c.args.row c.loop-j.j c.loop-j.sets.items c.loop-j.invariant c.loop-j-test.false
