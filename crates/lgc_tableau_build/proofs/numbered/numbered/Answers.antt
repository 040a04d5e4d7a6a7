-- An item's pair is put behind the others.
use Rattle.std.proofs.Common.{◌≡◌, List, get_or, refl, sym, subst}
use Rattle.std.specs.List.{Any}
use Rattle.lgc_sequents.specs.Signed.{SignedFormula}
use Rattle.lgc_syntax.specs.Subformulas.{IsSubformula}
use Rattle.lgc_numbering.specs.Growth.{IsGrownBy}
use Rattle.lgc_packed.proofs.PackLaws.{grown_by_item}
use Rattle.lgc_tableau_build.proofs.BuiltLaws.{one_numbered}
use Rattle.lgc_tableau_build.proofs.numbered.numbered.Goals as goal

pub returns-in_err-number-clause-grown : goal.returns-in_err-number-clause-grown
returns-in_err-number-clause-grown g c =
    grown_by_item c.args.formulas.now c.loop-item.formulas c.number_of.new.self c.items-items.result.now c.args.goal.now c.loop-item.item-index (record { formula = c.item.inside.formula; sign = c.item.inside.sign }) c.item-item.result c.items-items.ensures.items
    c.loop-item-test.true c.item.view_is c.item-item.is c.loop-item.invariant.grown c.number_of.ensures.grown

pub returns-in_err-push-clause-grown : goal.returns-in_err-push-clause-grown
returns-in_err-push-clause-grown g c =
    grown_by_item c.args.formulas.now c.loop-item.formulas c.number_of.new.self c.items-items.result.now c.args.goal.now c.loop-item.item-index (record { formula = c.item.inside.formula; sign = c.item.inside.sign }) c.item-item.result c.items-items.ensures.items
    c.loop-item-test.true c.item.view_is c.item-item.is c.loop-item.invariant.grown c.number_of.ensures.grown

pub loop-item-preserved : goal.loop-item-preserved
loop-item-preserved g c =
    let items : List SignedFormula = c.items-items.result.now in
    let i = c.loop-item.item-index in
    let item : SignedFormula = record { formula = c.item.inside.formula; sign = c.item.inside.sign } in
    let read : item ≡ get_or items i item = subst (λ (x : SignedFormula). x ≡ get_or items i x) (sym c.item.view_is) c.item-item.is in
    record {
      numbered = one_numbered (λ f. IsSubformula f item.formula) c.loop-item.formulas c.number_of.new.self items i item c.loop-item.pairs c.push.new.self c.in_ok-number.number c.loop-item-test.true read
          c.number_of.ensures.grown c.loop-item.invariant.numbered c.in_ok-number.ensures.number c.in_ok-push.ensures.ok;
      grown = grown_by_item c.args.formulas.now c.loop-item.formulas c.number_of.new.self items items i item c.item-item.result refl c.loop-item-test.true c.item.view_is c.item-item.is c.loop-item.invariant.grown c.number_of.ensures.grown;
      numbering = c.number_of.ensures.numbering;
    }

pub returns-clause-grown : goal.returns-clause-grown
returns-clause-grown g c =
    subst (λ (xs : List SignedFormula). IsGrownBy (λ f. Any (λ (x : SignedFormula). IsSubformula f x.formula) xs) c.args.formulas.now c.loop-item.formulas) c.items-items.ensures.items c.loop-item.invariant.grown
