-- An item on the formula adds the values of its sign, and another one none.
use Rattle.std.proofs.Common.{◌≡◌, ◌∙◌, ◌||◌, sym, ap, arith, take, List, ℕ}
use Rattle.lgc_values.specs.Values.{has, values_where}
use Rattle.lgc_sequents.specs.Signed.{SignedFormula}
use Rattle.lgc_sequents.specs.Steps.{carries}
use Rattle.lgc_syntax.specs.Equality.{same_formula}
use Rattle.lgc_tableau_check.proofs.BranchLaws.{sign_more, sign_passed}
use Rattle.lgc_tableau_check.proofs.branch.sign_among.Goals as goal
use Rattle.lgc_tableau_check.proofs.branch.sign_among.Goals.{then-same_formula, else-same_formula}

pub loop-item-preserved : goal.loop-item-preserved
loop-item-preserved g c =
    let test : c.same_formula.result ≡ same_formula c.args.f.now c.item-item.result.formula = c.same_formula.ensures.test ∙ ap (λ (x : SignedFormula). same_formula c.args.f.now x.formula) c.item.view_is in
    elim c.if-same_formula.branch [
      | then-same_formula w ↦
          w.sign-is ∙ w.union-sign.ensures
          ∙ ap (λ (s : List ℕ). values_where g.row.N (λ v. has s v || has c.item.inside.sign v)) c.loop-item.invariant
          ∙ ap (λ (x : SignedFormula). values_where g.row.N (λ v. has (values_where g.row.N (carries (take c.loop-item.item-index c.args.items.now) c.args.f.now)) v || has x.sign v)) c.item.view_is
          ∙ sign_more g.row.N c.args.items.now c.loop-item.item-index c.item-item.result c.args.f.now (omega arith) c.item-item.is (sym test ∙ w.if-same_formula.true)
      | else-same_formula w ↦
          w.sign-is ∙ c.loop-item.invariant ∙ sym (sign_passed g.row.N c.args.items.now c.loop-item.item-index c.item-item.result c.args.f.now (omega arith) c.item-item.is (sym test ∙ w.if-same_formula.false))
    ]
