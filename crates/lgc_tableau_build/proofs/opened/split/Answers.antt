-- Each case makes a longer branch.
use Rattle.std.proofs.Common.{◌++◌}
use Rattle.std.specs.List.{All}
use Rattle.std.proofs.lemmas.Result.{IfOk-weaker}
use Rattle.lgc_tableau_build.specs.Building.{IsBranch, IsExpanded}
use Rattle.lgc_tableau_build.proofs.OpenedLaws.{opened_branches}
use Rattle.lgc_tableau_build.proofs.opened.split.Goals as goal

pub returns-clause-branches : goal.returns-clause-branches
returns-clause-branches g c =
    let branch = c.args.branch.now in
    let opened = c.args.opened.now in
    IfOk-weaker c.expand.result (IsExpanded c.expand.new.book c.args.formulas.now opened.number opened.sign)
    (All (λ added. IsBranch c.args.m.now c.args.formulas.now opened.rest (branch.pairs ++ added)))
    (λ additions expanded. opened_branches c.args.m.now c.args.formulas.now c.nodes-nodes.ensures.numbering branch.left c.requires.left branch.pairs opened.number opened.sign opened.rest c.requires.opened c.operators-operators.ensures.logic c.requires.fit c.requires.branch
    c.expand.new.book c.expand.ensures.right additions expanded)
    c.expand.ensures.expanded
