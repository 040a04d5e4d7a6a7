-- A key that was there is that of the node, and a new one is appended with the node.
use Rattle.std.proofs.Common.{Some, length, map, slice_get, sym, ap, subst, ◌∙◌}
use Rattle.lgc_numbering.specs.Numbering.{formula_of, formulas_of, IsNode}
use Rattle.lgc_numbering.proofs.StoreLaws.{store_stored, store_inserted, store_last}
use Rattle.lgc_numbering.proofs.formulas.Formulas.place.Goals as goal

pub returns-then-not-is_new-clause-number : goal.returns-then-not-is_new-clause-number
returns-then-not-is_new-clause-number c =
    let kept = c.self.inside in
    let stored = c.in_ok-k.ensures.stored in
    store_stored (λ v. v.items) kept.nodes kept.keys.keys c.insert_full.new.self.keys c.args.key stored.0 c.args.added c.in_ok-k.k c.in_ok-k.is_new c.self.invariant (subst (λ fs. IsNode (length fs) c.args.added) (sym c.self.view_is) c.requires.over) c.requires.key
    c.in_ok-k.ensures.keys c.in_ok-k.ensures.added c.if-not-is_new.true stored.1 stored.2
    ∙ ap (λ fs. Some (formula_of fs c.args.added)) c.self.view_is

pub invariant_of-self-in_default : goal.invariant_of-self-in_default
invariant_of-self-in_default c =
    let kept = c.self.inside in
    store_inserted (λ v. v.items) kept.nodes c.push.new.self kept.keys.keys c.insert_full.new.self.keys c.args.key c.args.added c.in_ok-k.is_new c.self.invariant (subst (λ fs. IsNode (length fs) c.args.added) (sym c.self.view_is) c.requires.over) c.requires.key
    c.in_ok-k.ensures.keys c.in_ok-k.ensures.added c.if-not-is_new.false c.in_default.ensures.ok

pub returns-clause-number : goal.returns-clause-number
returns-clause-number c =
    let kept = c.self.inside in
    ap (λ ns. slice_get (formulas_of c.push.new.self) (length ns)) c.items-count.ensures
    ∙ store_last kept.nodes c.push.new.self (map (λ v. v.items) kept.keys.keys) c.args.added c.self.invariant c.in_default.ensures.ok
    ∙ ap (λ fs. Some (formula_of fs c.args.added)) c.self.view_is
