-- The masks are equal where the sets are.
use Rattle.std.proofs.Common.{◌≡◌, ◌≢◌, ◌∙◌, sym, [], IsTrue, true, false}
use Rattle.lgc_sequents.specs.Signed.{SignedFormula}
use Rattle.lgc_tableau_check.specs.Branches.{items_of}
use Rattle.lgc_tableau_check.proofs.ClosedLaws.{sign_test}
use Rattle.lgc_tableau_check.proofs.split.has_sign.Goals as goal

pub returns-then-not-is_empty : goal.returns-then-not-is_empty
returns-then-not-is_empty g c =
    let item : SignedFormula = record { formula = c.on.inside.formula; sign = c.on.inside.sign } in
    let nonempty : item.sign ≢ [] = λ none. let h : true ≡ false = sym (c.is_empty.ensures.1 none) ∙ c.if-not-is_empty.true in cc in
    sign_test g.row.N (items_of c.args.branch.now) item c.args.on.now c.sign_on.result c.mask.result c.mask-then-not-is_empty.result c.on.view_is c.sign_on.ensures c.mask.ensures.members c.mask.ensures.mask c.mask-then-not-is_empty.ensures.members c.mask-then-not-is_empty.ensures.mask nonempty
