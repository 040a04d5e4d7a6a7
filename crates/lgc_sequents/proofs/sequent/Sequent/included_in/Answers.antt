-- A sequent that includes a true one is true.
use Rattle.std.proofs.Common.{◌∙◌}
use Rattle.lgc_sequents.proofs.Laws.{included_walked, is_true_at-included}
use Rattle.lgc_sequents.proofs.sequent.Sequent.included_in.Goals as goal

pub returns-clause-truth : goal.returns-clause-truth
returns-clause-truth g c = λ _ value holds.
    is_true_at-included value c.args.self.now c.args.other.now
    (included_walked c.deref-item-items.result.now c.args.self.now c.args.other.now c.loop-item.item-index (c.deref-item-items.ensures.value ∙ c.self.view_is) c.loop-item.invariant c.loop-item-test.false) holds
