-- A tableau is closed where its root says so, and cases are where each is.
use Rattle.std.proofs.Common.{◌≡◌, ◌∙◌, sym, refl, arith, IsTrue, true, false}
use Rattle.lgc_tableau_check.proofs.ClosedLaws.{split_test, split_refused, case_passed, case_refused, cases_passed, at_case, full_test}
use Rattle.lgc_tableau_check.specs.Branches.{items_of}
use Rattle.lgc_tableau_check.proofs.closed.+is_closed_on.Goals as goal

pub are_closed-returns-then-not-is_closed_on : goal.are_closed-returns-then-not-is_closed_on
are_closed-returns-then-not-is_closed_on g t c =
    let test = at_case c.args.m.now _ _ c.case-item.result _ c.is_closed_on.result c.items.ensures c.get.ensures c.is_closed_on.ensures in
    (λ (off : IsTrue false). absurd cc, λ closed. sym c.if-not-is_closed_on.true ∙ test.1 (case_refused c.args.m.now (items_of c.args.branch.now) c.args.cases.now c.loop-case.case-index c.case-item.result (omega arith) c.case-item.is c.loop-case.invariant closed))

pub are_closed-loop-case-preserved : goal.are_closed-loop-case-preserved
are_closed-loop-case-preserved g t c =
    let test = at_case c.args.m.now _ _ c.case-item.result _ c.is_closed_on.result c.items.ensures c.get.ensures c.is_closed_on.ensures in
    case_passed c.args.m.now (items_of c.args.branch.now) c.args.cases.now c.loop-case.case-index c.case-item.result (omega arith) c.case-item.is (test.0 c.if-not-is_closed_on.false) c.loop-case.invariant

pub are_closed-returns : goal.are_closed-returns
are_closed-returns g t c = (λ _. cases_passed c.args.m.now (items_of c.args.branch.now) c.args.cases.now c.loop-case.case-index (omega arith) c.loop-case.invariant, λ _. refl)

pub is_closed_on-returns-in-Closed : goal.is_closed_on-returns-in-Closed
is_closed_on-returns-in-Closed g t c =
    full_test c.args.m.now g.row.N c.operators-operators.ensures.size (items_of c.args.branch.now) c.args.t.now c.in-Closed.by c.sign_on.result c.is_full.result c.in-Closed.is c.sign_on.ensures c.is_full.ensures

pub is_closed_on-returns-then-is_split : goal.is_closed_on-returns-then-is_split
is_closed_on-returns-then-is_split g t c =
    split_test c.args.m.now (items_of c.args.branch.now) c.args.t.now c.in-Split.on c.in-Split.cases _ _ c.is_split.result c.are_closed.result c.in-Split.is c.items.ensures c.items-then-is_split.ensures c.is_split.ensures c.are_closed.ensures c.if-is_split.true

pub is_closed_on-returns-else-is_split : goal.is_closed_on-returns-else-is_split
is_closed_on-returns-else-is_split g t c =
    split_refused c.args.m.now (items_of c.args.branch.now) c.args.t.now c.in-Split.on c.in-Split.cases _ c.is_split.result c.in-Split.is c.items.ensures c.is_split.ensures c.if-is_split.false
