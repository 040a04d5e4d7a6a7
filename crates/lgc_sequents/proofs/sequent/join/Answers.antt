-- A write at the first place of the formula joins the sign there.
use Rattle.std.proofs.Common.{◌≡◌, ◌<◌, true, length, set, sym, ◌∙◌, ap, arith}
use Rattle.std.proofs.lemmas.List.{get_or_read}
use Rattle.lgc_syntax.specs.Equality.{same_formula}
use Rattle.lgc_sequents.specs.Signed.{SignedFormula}
use Rattle.lgc_sequents.specs.Sequents.{union, joined}
use Rattle.lgc_sequents.proofs.Laws.{joined-set}
use Rattle.lgc_sequents.proofs.sequent.join.Goals as goal

pub returns-then-same_formula-clause-joined : goal.returns-then-same_formula-clause-joined
returns-then-same_formula-clause-joined g c = λ _.
    let n = g.row.N in
    let f = c.args.formula.now in
    let items = c.loop-i.items.items in
    let i = c.loop-i.i in
    let x = c.index_mut-item.result.now in
    let within : i < length items = omega (arith, c.loop-i.items.ok.0, c.loop-i-test.true) in
    let same : c.index.result.now ≡ x = get_or_read items i c.index.result.now within c.index.ensures x ∙ sym c.index_mut-item.ensures.value in
    let test : same_formula f x.formula ≡ true = ap (λ item. same_formula f item.formula) (sym (c.behind-items.view_is ∙ same)) ∙ sym c.same_formula.ensures.test ∙ c.if-same_formula.true in
    let before : SignedFormula = record { formula = c.item.inside.formula; sign = c.item.inside.sign } in
    let written : record before { sign = c.union-item-inside.result } ≡ record x { sign = union n x.sign c.args.sign } =
    ap (λ sign. record before { sign = sign }) c.union-item-inside.ensures ∙ ap (λ (item : SignedFormula). record item { sign = union n item.sign c.args.sign }) c.item.view_is in
    ap (set items i) written ∙ joined-set n items f c.args.sign i x within c.index_mut-item.ensures.value test c.loop-i.invariant.joined ∙ ap (λ v. joined n v.items f c.args.sign) c.loop-i.invariant.same
