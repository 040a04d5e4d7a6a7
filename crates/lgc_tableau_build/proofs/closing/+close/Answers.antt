-- What is made on a branch, and one case more.
use Rattle.std.proofs.Common.{◌≡◌, ◌<◌, ◌++◌, ℕ, Bool, List, [], length, get_or, sym, ◌∙◌, ap, subst, arith}
use Rattle.std.proofs.lemmas.Bool.{true≢false}
use Rattle.std.proofs.lemmas.Result.{IfOk-weaker}
use Rattle.lgc_clauses.specs.Rules.{OperatorRule}
use Rattle.lgc_lemmas.proofs.StepLaws.{grown_same, grown_more}
use Rattle.lgc_tableau.specs.ClosedTableaux.{PlainTableau, PlainCase}
use Rattle.lgc_tableau_build.specs.Numbers.{IsFirstFullNumber, IsNoneFull}
use Rattle.lgc_tableau_build.specs.Building.{IsBranch, IsMade, AreMade}
use Rattle.lgc_tableau_build.proofs.ClosingLaws.{end_made, no_cases, cases_taken}
use Rattle.lgc_tableau_build.proofs.OpenedLaws.{opened_skip_made, opened_made}
use Rattle.lgc_tableau_build.proofs.closing.+close.Goals as goal

pub close-returns-in-Some-clause-made : goal.close-returns-in-Some-clause-made
close-returns-in-Some-clause-made g t c =
    let branch = c.args.branch.now in
    let First : ℕ → List (ℕ × List ℕ) → Type 0 = λ n pairs. IsFirstFullNumber n pairs c.in-Some.number in
    end_made c.args.m.now c.operators-operators.ensures.logic c.args.formulas.now c.nodes-nodes.ensures.numbering branch.left branch.pairs c.args.book.now c.requires.branch.known c.in-Some.number c.in_ok-by.by c.in_ok-by.ensures
    (subst (First c.args.m.now.size) c.items-pairs.ensures (subst (λ n. First n c.items-pairs.result.now) (sym c.operators-operators.ensures.size) c.in-Some.ensures))

pub close-returns-then-is_empty-clause-made : goal.close-returns-then-is_empty-clause-made
close-returns-then-is_empty-clause-made g t c =
    let logic = c.args.m.now in
    let formulas = c.args.formulas.now in
    let branch = c.args.branch.now in
    let opened = c.in_ok-opened.opened in
    let below = c.in_ok-below.below in
    IfOk-weaker c.close.result (IsMade logic c.close.new.book formulas below.left below.pairs) (IsMade logic c.close.new.book formulas branch.left branch.pairs)
    (λ tableau made. opened_skip_made logic formulas c.nodes-nodes.ensures.numbering branch.left c.requires.left branch.pairs opened.number opened.sign opened.rest c.in_ok-opened.ensures.is c.operators-operators.ensures.logic c.requires.fit c.requires.branch
    below.left c.in_ok-below.ensures.rest below.pairs c.in_ok-below.ensures.pairs c.close.new.book tableau made)
    c.close.ensures.made

pub close-returns-clause-made : goal.close-returns-clause-made
close-returns-clause-made g t c =
    let logic = c.args.m.now in
    let formulas = c.args.formulas.now in
    let branch = c.args.branch.now in
    let opened = c.in_ok-opened.opened in
    let unclosed : IsNoneFull g.row.N c.items-pairs.result.now = λ k full. c.in_default.ensures k full in
    let None : ℕ → List (ℕ × List ℕ) → Type 0 = λ n pairs. IsNoneFull n pairs in
    opened_made logic formulas c.nodes-nodes.ensures.numbering branch.left c.requires.left branch.pairs opened.number opened.sign opened.rest c.in_ok-opened.ensures.is c.operators-operators.ensures.logic c.requires.fit c.requires.branch
    c.split.new.book c.in_ok-additions.ensures.right c.in_ok-additions.additions c.in_ok-additions.ensures.expanded c.close_cases.new.book c.in_ok-cases.ensures.rules (λ none. true≢false (sym (c.is_empty.ensures.1 none) ∙ c.if-is_empty.false))
    (subst (None logic.size) c.items-pairs.ensures (subst (λ n. None n c.items-pairs.result.now) (sym c.operators-operators.ensures.size) unclosed))
    c.in_ok-formula.formula c.in_ok-formula.ensures c.in_ok-cases.cases c.in_ok-cases.ensures.made

pub close_cases-loop-addition-init : goal.close_cases-loop-addition-init
close_cases-loop-addition-init g t c =
    let logic = c.args.m.now in
    let formulas = c.args.formulas.now in
    let rest = c.args.opened.now.rest in
    let pairs = c.args.branch.now.pairs in
    let Made : List PlainCase → Type 0 = λ cases. AreMade logic c.args.book.now formulas rest pairs [] cases in
    record {
      made = subst Made (sym c.new-cases.ensures) (no_cases logic formulas rest pairs c.args.book.now);
      rules = grown_same c.args.book.now;
      right = c.requires.right;
    }

pub close_cases-longer-requires : goal.close_cases-longer-requires
close_cases-longer-requires g t c =
    let pairs = c.args.branch.now.pairs in
    let i = c.loop-addition.addition-index in
    let addition : List (ℕ × List ℕ) = c.addition-item.result in
    let lt = subst (λ (all : List (List (ℕ × List ℕ))). i < length all) c.items-addition-items.ensures c.loop-addition-test.true in
    let read : addition ≡ get_or c.args.additions.now i addition = c.addition-item.is ∙ ap (λ (all : List (List (ℕ × List ℕ))). get_or all i addition) c.items-addition-items.ensures in
    let Branch : List (ℕ × List ℕ) → Type 0 = λ added. IsBranch c.args.m.now c.args.formulas.now c.args.opened.now.rest (pairs ++ added) in
    (omega arith, (omega arith, (omega arith, (omega arith, (c.requires.left, subst Branch (sym c.items-in-loop-addition.ensures) (subst Branch (sym read) (c.requires.branches i addition lt)))))))

pub close_cases-loop-addition-preserved : goal.close_cases-loop-addition-preserved
close_cases-loop-addition-preserved g t c =
    let logic = c.args.m.now in
    let formulas = c.args.formulas.now in
    let rest = c.args.opened.now.rest in
    let i = c.loop-addition.addition-index in
    let addition : List (ℕ × List ℕ) = c.addition-item.result in
    let lt = subst (λ (all : List (List (ℕ × List ℕ))). i < length all) c.items-addition-items.ensures c.loop-addition-test.true in
    let read : addition ≡ get_or c.args.additions.now i addition = c.addition-item.is ∙ ap (λ (all : List (List (ℕ × List ℕ))). get_or all i addition) c.items-addition-items.ensures in
    let old : List OperatorRule = c.loop-addition.book in
    let new : List OperatorRule = c.close.new.book in
    let below = c.in_ok-branch_below.branch_below in
    let Made : List Bool → PlainTableau → Type 0 = λ left tableau. IsMade logic new formulas left below.pairs tableau in
    let made : Made rest c.in_ok-below.below = subst (λ left. Made left c.in_ok-below.below) c.in_ok-branch_below.ensures.rest (subst (Made below.left) (sym c.in_ok-below.ensures) c.in_ok-tableau.ensures.made) in
    record {
      made = cases_taken logic formulas rest c.args.branch.now.pairs old new c.in_ok-tableau.ensures.rules c.args.additions.now i addition lt read
          c.items.result.now c.items.ensures c.items-in-loop-addition.result.now c.items-in-loop-addition.ensures c.loop-addition.cases c.push.new.self (record { added = c.in_ok-added.added; below = c.in_ok-below.below }) c.in_ok-push.ensures.ok c.in_ok-added.ensures
          below.pairs c.in_ok-branch_below.ensures.pairs c.loop-addition.invariant.made made;
      rules = grown_more c.args.book.now old new c.loop-addition.invariant.rules c.in_ok-tableau.ensures.rules;
      right = c.in_ok-tableau.ensures.right;
    }
