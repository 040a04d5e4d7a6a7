-- Joining and appending keep what is asked of a sequent, and tell where it is true.
use Rattle.std.proofs.Common.{List, ◌≡◌, ◌++◌, ◌∷◌, ◌||◌, [], sym, ◌∙◌, ap, subst}
use Rattle.lgc_sequents.specs.Signed.{SignedFormula}
use Rattle.lgc_sequents.specs.Sequents.{IsSequent, joined, added, is_true_at}
use Rattle.lgc_sequents.proofs.Laws.{IsSign-from, IsSequent-joined, joined-last, added-some, is_true_at-joined}
use Rattle.lgc_values.specs.Values.{has}
use Rattle.lgc_sequents.proofs.sequent.Sequent.add.Given as given
use Rattle.lgc_sequents.proofs.sequent.Sequent.add.Goals as goal

pub invariant_of-self : goal.invariant_of-self
invariant_of-self g c =
    let is = IsSign-from g.row.N c.mask-mask.result c.args.sign c.is_empty.result c.mask-mask.ensures.members c.is_empty.ensures c.if-is_empty.false in
    subst (IsSequent g.row.N) (sym {A = List SignedFormula} (c.join.ensures.joined c.if-join.true)) (IsSequent-joined g.row.N c.self.inside.items.items c.args.formula c.args.sign c.self.invariant is)

pub returns-then-join-clause-truth : goal.returns-then-join-clause-truth
returns-then-join-clause-truth g c =
    let is = IsSign-from g.row.N c.mask-mask.result c.args.sign c.is_empty.result c.mask-mask.ensures.members c.is_empty.ensures c.if-is_empty.false in
    λ value. ap (is_true_at value) (c.join.ensures.joined c.if-join.true)
    ∙ is_true_at-joined value g.row.N c.self.inside.items.items c.args.formula c.args.sign c.self.invariant.signs is.set
    ∙ ap (λ items. is_true_at value items || has c.args.sign (value c.args.formula)) c.self.view_is

-- what was appended is what joining gives
last : (g : given.Over) (c : goal.In_ok-push g) → c.push.new.self.items ≡ joined g.row.N c.self.inside.items.items c.args.formula c.args.sign
last g c = c.in_ok-push.ensures.items ∙ ap (λ v. v.items ++ record { formula = c.args.formula; sign = c.args.sign } ∷ []) (c.join.ensures.same c.if-join.false) ∙ sym (joined-last g.row.N c.self.inside.items.items c.args.formula c.args.sign (sym c.join.ensures.occurs ∙ c.if-join.false))

pub invariant_of-self-2 : goal.invariant_of-self-2
invariant_of-self-2 g c =
    let is = IsSign-from g.row.N c.mask-mask.result c.args.sign c.is_empty.result c.mask-mask.ensures.members c.is_empty.ensures c.if-is_empty.false in
    subst (IsSequent g.row.N) (sym (last g c)) (IsSequent-joined g.row.N c.self.inside.items.items c.args.formula c.args.sign c.self.invariant is)

pub returns-clause-ok : goal.returns-clause-ok
returns-clause-ok g c =
    let is = IsSign-from g.row.N c.mask-mask.result c.args.sign c.is_empty.result c.mask-mask.ensures.members c.is_empty.ensures c.if-is_empty.false in
    last g c ∙ sym (added-some g.row.N c.self.inside.items.items c.args.formula c.args.sign is.nonempty) ∙ ap (λ items. added g.row.N items c.args.formula c.args.sign) c.self.view_is
