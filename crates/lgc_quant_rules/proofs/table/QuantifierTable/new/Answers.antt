-- One row more is told.
use Rattle.std.proofs.Common.{◌≡◌, ℕ, length-append, ◌+◌, ◌++◌, ◌∷◌, [], length, ap, ◌∙◌, arith}
use Rattle.std.proofs.lemmas.Grind.{common_steps}
use Rattle.lgc_values.specs.Values.{has, set_of_row}
use Rattle.lgc_values.specs.Logic.{value_over}
use Rattle.lgc_quant_rules.proofs.Rows.{told_more}
use Rattle.lgc_quant_rules.proofs.table.QuantifierTable.new.Goals as goal

pub loop-row-preserved : goal.loop-row-preserved
loop-row-preserved g c =
    let pushed : c.push.new.self.items ≡ c.loop-row.inside.items ++ c.contains.result ∷ [] = grind (arith, common_steps) in
    let told : c.contains.result ≡ has c.args.sign (value_over c.args.m.now c.args.q (set_of_row g.row.N c.loop-row.row)) = c.contains.ensures ∙ ap (has c.args.sign) (c.distribute.ensures.value ∙ ap (value_over c.args.m.now c.args.q) c.of_row.ensures.set) in
    record {
      count = ap length pushed ∙ length-append c.loop-row.inside.items (c.contains.result ∷ []) ∙ ap (λ (n : ℕ). n + 1) c.loop-row.invariant.count;
      told = told_more c.loop-row.inside.items c.push.new.self.items c.loop-row.row c.contains.result (λ row. has c.args.sign (value_over c.args.m.now c.args.q (set_of_row g.row.N row))) c.loop-row.invariant.count pushed told c.loop-row.invariant.told;
    }
