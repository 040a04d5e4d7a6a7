-- There is a formula left to be split, and fewer are left without it.
use Rattle.std.proofs.Common.{ℕ, length, sym, ◌∙◌, ap, subst, arith}
use Rattle.lgc_tableau_build.specs.Numbers.{IsNoneFull, is_left}
use Rattle.lgc_tableau_build.proofs.NumberLaws.{nodes_in_order}
use Rattle.lgc_tableau_build.proofs.ClosingLaws.{never_open}
use Rattle.lgc_tableau_build.proofs.OpenedLaws.{opened_at, opened_left, opened_falls}
use Rattle.lgc_tableau_build.proofs.opened.open.Goals as goal

pub next-requires : goal.next-requires
next-requires g c =
    let are = c.nodes-nodes.ensures.nodes in
    (omega arith, (omega arith, (nodes_in_order c.args.formulas.now c.nodes-nodes.result.now are, (ap length c.items-left.ensures ∙ c.requires.left.count ∙ sym are.count, c.requires.count ∙ sym are.count))))

pub unreachable-requires : goal.unreachable-requires
unreachable-requires g c =
    let branch = c.args.branch.now in
    let None : ℕ → Type 0 = λ n. IsNoneFull n branch.pairs in
    never_open c.args.m.now c.operators-operators.ensures.logic c.args.formulas.now c.nodes-nodes.ensures.numbering branch.left branch.pairs c.requires.branch (subst None (sym c.operators-operators.ensures.size) c.requires.unclosed)
    (λ k. ap (λ l. is_left l k) (sym c.items-left.ensures) ∙ c.in-None.ensures k)

pub returns-clause-left : goal.returns-clause-left
returns-clause-left g c =
    let logic = c.args.m.now in
    let formulas = c.args.formulas.now in
    let branch = c.args.branch.now in
    let k = c.in-Some.number in
    let sign = c.index-signs-number.result in
    let rest = c.in_ok-rest-in-Some.rest in
    let opened = opened_at logic g.row.N c.operators-operators.ensures.size formulas c.nodes-nodes.result.now c.nodes-nodes.ensures.nodes branch.left c.requires.left branch.pairs c.args.signs.now c.requires.count c.requires.signs
    c.items-left.result.now c.items-left.ensures k c.in-Some.ensures sign c.index-signs-number.is rest c.in_ok-rest-in-Some.ensures in
    opened_left logic formulas c.nodes-nodes.ensures.numbering branch.left c.requires.left branch.pairs k sign rest opened

pub returns-clause-falls : goal.returns-clause-falls
returns-clause-falls g c =
    let logic = c.args.m.now in
    let formulas = c.args.formulas.now in
    let branch = c.args.branch.now in
    let k = c.in-Some.number in
    let sign = c.index-signs-number.result in
    let rest = c.in_ok-rest-in-Some.rest in
    let opened = opened_at logic g.row.N c.operators-operators.ensures.size formulas c.nodes-nodes.result.now c.nodes-nodes.ensures.nodes branch.left c.requires.left branch.pairs c.args.signs.now c.requires.count c.requires.signs
    c.items-left.result.now c.items-left.ensures k c.in-Some.ensures sign c.index-signs-number.is rest c.in_ok-rest-in-Some.ensures in
    opened_falls logic formulas c.nodes-nodes.ensures.numbering branch.left c.requires.left branch.pairs k sign rest opened
