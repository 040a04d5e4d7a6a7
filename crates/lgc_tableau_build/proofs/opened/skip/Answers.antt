-- The branch stays right without a formula that has no value there.
use Rattle.std.proofs.Common.{◌≡◌, ℕ, List, Bool, sym, ◌∙◌, ap, subst, arith}
use Rattle.lgc_tableau_build.specs.Building.{AreLeft, IsBranch, left_count}
use Rattle.lgc_tableau_build.proofs.OpenedLaws.{opened_left, opened_falls, opened_skipped}
use Rattle.lgc_tableau_build.proofs.opened.skip.Goals as goal

pub returns-clause-left : goal.returns-clause-left
returns-clause-left g c =
    let branch = c.args.branch.now in
    let opened = c.args.opened.now in
    let left : c.of_vec-left.result ≡ opened.rest = c.of_vec-left.ensures ∙ c.in_ok-from_slice.ensures.items ∙ c.items.ensures in
    subst (AreLeft c.args.formulas.now) (sym left) (opened_left c.args.m.now c.args.formulas.now c.nodes-nodes.ensures.numbering branch.left c.requires.left branch.pairs opened.number opened.sign opened.rest c.requires.opened)

pub returns-clause-branch : goal.returns-clause-branch
returns-clause-branch g c =
    let branch = c.args.branch.now in
    let opened = c.args.opened.now in
    let left : c.of_vec-left.result ≡ opened.rest = c.of_vec-left.ensures ∙ c.in_ok-from_slice.ensures.items ∙ c.items.ensures in
    let pairs : c.of_vec-pairs.result ≡ branch.pairs = c.of_vec-pairs.ensures ∙ c.in_ok-from_slice-2.ensures.items ∙ c.items-2.ensures in
    let Branch : List Bool → List (ℕ × List ℕ) → Type 0 = IsBranch c.args.m.now c.args.formulas.now in
    subst (λ l. Branch l c.of_vec-pairs.result) (sym left) (subst (Branch opened.rest) (sym pairs)
    (opened_skipped c.args.m.now c.args.formulas.now c.nodes-nodes.ensures.numbering branch.left c.requires.left branch.pairs opened.number opened.sign opened.rest c.requires.opened c.operators-operators.ensures.logic c.requires.fit c.requires.branch c.requires.empty))

pub returns-clause-falls : goal.returns-clause-falls
returns-clause-falls g c =
    let branch = c.args.branch.now in
    let opened = c.args.opened.now in
    let left : c.of_vec-left.result ≡ opened.rest = c.of_vec-left.ensures ∙ c.in_ok-from_slice.ensures.items ∙ c.items.ensures in
    let same : left_count c.of_vec-left.result ≡ left_count opened.rest = ap left_count left in
    let falls = opened_falls c.args.m.now c.args.formulas.now c.nodes-nodes.ensures.numbering branch.left c.requires.left branch.pairs opened.number opened.sign opened.rest c.requires.opened in
    omega (arith, same, falls)
