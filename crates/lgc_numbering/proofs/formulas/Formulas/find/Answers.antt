-- A key that is found is that of the node.
use Rattle.std.proofs.Common.{◌≡◌, Some, length, slice_get, sym, subst}
use Rattle.lgc_numbering.specs.Numbering.{formula_of, IsNode}
use Rattle.lgc_numbering.proofs.StoreLaws.{store_position}
use Rattle.lgc_numbering.proofs.formulas.Formulas.find.Goals as goal

pub returns : goal.returns
returns c = λ a is key.
    let kept = c.self.inside in
    subst (λ fs. slice_get fs c.in_ok-k.k ≡ Some (formula_of fs a)) c.self.view_is
    (store_position (λ v. v.items) kept.nodes kept.keys.keys c.args.key.now a c.in_ok-k.k c.self.invariant (subst (λ fs. IsNode (length fs) a) (sym c.self.view_is) is) key (sym c.in_ok-k.ensures.index))
