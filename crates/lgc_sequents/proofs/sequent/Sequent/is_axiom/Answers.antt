-- A sequent with a full sign is true at all values.
use Rattle.std.proofs.Common.{◌≡◌, true, sym, ◌∙◌, ap}
use Rattle.lgc_sequents.specs.Sequents.{has_all}
use Rattle.lgc_sequents.proofs.Laws.{axiom_walked, is_true_at-axiom}
use Rattle.lgc_sequents.proofs.sequent.Sequent.is_axiom.Goals as goal

pub returns-then-has_all-clause-truth : goal.returns-then-has_all-clause-truth
returns-then-has_all-clause-truth g c = λ _ value values.
    let x = c.item-item.result in
    let full : has_all g.row.N x.sign ≡ true = ap (λ item. has_all g.row.N item.sign) (sym c.item.view_is) ∙ sym c.has_all.ensures ∙ c.if-has_all.true in
    is_true_at-axiom value g.row.N c.args.self.now values
    (axiom_walked g.row.N c.deref-item-items.result.now c.args.self.now c.loop-item.item-index x (c.deref-item-items.ensures.value ∙ c.self.view_is) c.loop-item.invariant c.loop-item-test.true c.item-item.is full)
