-- A formula that doesn't occur stands last, as joining puts it.
use Rattle.std.proofs.Common.{List, ◌≡◌, ◌++◌, ◌∷◌, [], sym, ◌∙◌, ap, subst}
use Rattle.lgc_sequents.specs.Signed.{SignedFormula}
use Rattle.lgc_sequents.specs.Sequents.{IsSequent, joined, added, occurs}
use Rattle.lgc_sequents.proofs.Laws.{IsSign-from, IsSequent-joined, joined-last, added-some}
use Rattle.lgc_sequents.proofs.sequent.Sequent.add_new.Given as given
use Rattle.lgc_sequents.proofs.sequent.Sequent.add_new.Goals as goal

last : (g : given.Over) (c : goal.In_ok-push g) → c.push.new.self.items ≡ joined g.row.N c.self.inside.items.items c.args.formula c.args.sign
last g c = c.in_ok-push.ensures.items ∙ sym (joined-last g.row.N c.self.inside.items.items c.args.formula c.args.sign (ap (λ items. occurs items c.args.formula) c.self.view_is ∙ c.requires.new))

pub invariant_of-self-2 : goal.invariant_of-self-2
invariant_of-self-2 g c =
    let is = IsSign-from g.row.N c.mask-mask.result c.args.sign c.is_empty.result c.mask-mask.ensures.members c.is_empty.ensures c.if-is_empty.false in
    subst (IsSequent g.row.N) (sym (last g c)) (IsSequent-joined g.row.N c.self.inside.items.items c.args.formula c.args.sign c.self.invariant is)

pub returns-clause-ok : goal.returns-clause-ok
returns-clause-ok g c =
    let is = IsSign-from g.row.N c.mask-mask.result c.args.sign c.is_empty.result c.mask-mask.ensures.members c.is_empty.ensures c.if-is_empty.false in
    last g c ∙ sym (added-some g.row.N c.self.inside.items.items c.args.formula c.args.sign is.nonempty) ∙ ap (λ items. added g.row.N items c.args.formula c.args.sign) c.self.view_is
