-- An item's formula is new, since no formula stands twice.
use Rattle.std.proofs.Common.{◌≡◌, List, get_or, refl, sym, subst}
use Rattle.std.specs.List.{Any}
use Rattle.lgc_sequents.specs.Signed.{SignedFormula}
use Rattle.lgc_sequents.specs.Sequents.{IsSequent}
use Rattle.lgc_syntax.specs.Subformulas.{IsSubformula}
use Rattle.lgc_numbering.specs.Growth.{IsGrownBy}
use Rattle.lgc_packed.proofs.PackLaws.{pack_more, packed_all, grown_by_item}
use Rattle.lgc_packed.proofs.packing.pack.Goals as goal

pub returns-in_err-number-clause-grown : goal.returns-in_err-number-clause-grown
returns-in_err-number-clause-grown g c =
    grown_by_item c.args.formulas.now c.loop-item.formulas c.number_of.new.self c.items-items.result.now c.args.s.now c.loop-item.item-index (record { formula = c.item.inside.formula; sign = c.item.inside.sign }) c.item-item.result c.items-items.ensures.items
    c.loop-item-test.true c.item.view_is c.item-item.is c.loop-item.invariant.grown c.number_of.ensures.grown

pub returns-in_err-add-clause-grown : goal.returns-in_err-add-clause-grown
returns-in_err-add-clause-grown g c =
    grown_by_item c.args.formulas.now c.loop-item.formulas c.number_of.new.self c.items-items.result.now c.args.s.now c.loop-item.item-index (record { formula = c.item.inside.formula; sign = c.item.inside.sign }) c.item-item.result c.items-items.ensures.items
    c.loop-item-test.true c.item.view_is c.item-item.is c.loop-item.invariant.grown c.number_of.ensures.grown

pub loop-item-preserved : goal.loop-item-preserved
loop-item-preserved g c =
    let items : List SignedFormula = c.items-items.result.now in
    let i = c.loop-item.item-index in
    let item : SignedFormula = record { formula = c.item.inside.formula; sign = c.item.inside.sign } in
    let read : item ≡ get_or items i item = subst (λ (x : SignedFormula). x ≡ get_or items i x) (sym c.item.view_is) c.item-item.is in
    let sequent : IsSequent g.row.N items = subst (IsSequent g.row.N) (sym c.items-items.ensures.items) c.items-items.ensures.sequent in
    record {
      packed = pack_more (λ f. IsSubformula f item.formula) g.row.N c.loop-item.formulas c.number_of.new.self items i item c.loop-item.packed c.add.new.self c.in_ok-number.number sequent c.loop-item-test.true read
          c.number_of.ensures.grown c.loop-item.invariant.packed c.in_ok-number.ensures.number c.in_ok-add.ensures.ok;
      grown = grown_by_item c.args.formulas.now c.loop-item.formulas c.number_of.new.self items items i item c.item-item.result refl c.loop-item-test.true c.item.view_is c.item-item.is c.loop-item.invariant.grown c.number_of.ensures.grown;
      numbering = c.number_of.ensures.numbering;
    }

pub returns-clause-truth : goal.returns-clause-truth
returns-clause-truth g c = packed_all c.loop-item.formulas c.items-items.result.now c.args.s.now c.loop-item.item-index c.loop-item.packed c.loop-item.invariant.packed c.loop-item-test.false c.items-items.ensures.items

pub returns-clause-grown : goal.returns-clause-grown
returns-clause-grown g c =
    subst (λ (xs : List SignedFormula). IsGrownBy (λ f. Any (λ (x : SignedFormula). IsSubformula f x.formula) xs) c.args.formulas.now c.loop-item.formulas) c.items-items.ensures.items c.loop-item.invariant.grown
