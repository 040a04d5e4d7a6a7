-- The first lines are kept with their keys.
use Rattle.std.proofs.Common.{◌≤◌, length, sym, subst}
use Rattle.lgc_proofs.proofs.StoreLaws.{kept_first}
use Rattle.lgc_proofs.proofs.proofs.Proofs.truncate.Goals as goal

pub invariant_of-self : goal.invariant_of-self
invariant_of-self g c =
    let kept = c.self.inside in
    kept_first (λ key. key.items) g.row.N kept.formulas kept.lines c.truncate.new.self kept.keys.keys c.truncate-2.new.self.keys c.args.count (subst (λ ls. c.args.count ≤ length ls) (sym c.self.view_is) c.requires) c.truncate.ensures
    c.truncate-2.ensures.keys c.self.invariant
