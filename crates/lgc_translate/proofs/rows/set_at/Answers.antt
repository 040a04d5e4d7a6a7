-- An atom's own set is the sign.
use Rattle.std.proofs.Common.{◌∙◌, sym}
use Rattle.lgc_translate.proofs.RowLaws.{item_law}
use Rattle.lgc_translate.proofs.rows.set_at.Goals as goal

pub returns-then-same_formula : goal.returns-then-same_formula
returns-then-same_formula g c = item_law g.row.N c.mask-mask.result c.args.sign c.args.other.now c.args.atom.now c.mask-mask.ensures.members (sym c.same_formula.ensures.test ∙ c.if-same_formula.true)
