-- The sign of an item is that of its formula.
use Rattle.std.proofs.Common.{sym, ap, ◌∙◌}
use Rattle.lgc_sequents.specs.Signed.{SignedFormula}
use Rattle.lgc_steps.proofs.Places.{sign_in-there, sign_in-absent}
use Rattle.lgc_steps.proofs.near.sign_near.Goals as goal

pub returns-in-Some-clause-sign : goal.returns-in-Some-clause-sign
returns-in-Some-clause-sign g c =
    let item = c.index-items-place.result in
    let place = c.in-Some.ensures in
    ap (λ (x : SignedFormula). x.sign) (c.item.view_is ∙ c.index-items-place.is) ∙ sym (sign_in-there c.args.items.now c.args.f.now c.in-Some.place item c.requires.sequent.distinct place.within (place.there item))

pub returns-in-None-clause-sign : goal.returns-in-None-clause-sign
returns-in-None-clause-sign g c = c.empty.ensures ∙ sym (sign_in-absent c.args.items.now c.args.f.now c.in-None.ensures)
