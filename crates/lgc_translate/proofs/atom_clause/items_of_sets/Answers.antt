-- One atom more is signed, and then none is left.
use Rattle.std.proofs.Common.{◌∙◌, ◌++◌, ◌+◌, ◌∷◌, [], sym, ap, drop, arith}
use Rattle.std.proofs.lemmas.List.{append-nil, append_assoc}
use Rattle.lgc_translate.specs.SignedClauses.{signed_atoms}
use Rattle.lgc_translate.proofs.SignedLaws.{signed_more, signed_end}
use Rattle.lgc_translate.proofs.atom_clause.items_of_sets.Goals as goal

pub loop-place-preserved : goal.loop-place-preserved
loop-place-preserved g c =
    let at = c.loop-place in
    let one = signed_atoms (c.index-atoms-place.result ∷ []) (c.index-sets-place.result ∷ []) in
    let rest = signed_atoms (drop (at.place + 1) c.args.atoms.now) (drop (at.place + 1) c.args.sets.now) in
    at.invariant
    ∙ ap (λ l. at.items ++ l) (signed_more c.args.atoms.now c.args.sets.now at.place c.index-atoms-place.result c.index-sets-place.result (omega (arith, c.loop-place-test.true, c.min-place-end.ensures)) (omega (arith, c.loop-place-test.true, c.min-place-end.ensures)) c.index-atoms-place.is c.index-sets-place.is)
    ∙ sym (append_assoc at.items one rest) ∙ ap (λ l. l ++ rest) (sym c.in_ok-add_item.ensures)

pub returns : goal.returns
returns g c =
    sym (c.loop-place.invariant ∙ ap (λ l. c.loop-place.items ++ l) (signed_end c.args.atoms.now c.args.sets.now c.loop-place.place (omega (arith, c.loop-place-test.false, c.min-place-end.ensures))) ∙ append-nil c.loop-place.items)
