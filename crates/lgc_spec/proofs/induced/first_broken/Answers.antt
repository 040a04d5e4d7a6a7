use Rattle.std.proofs.Common.{◌≡◌, ◌^◌, ◌≤◌, sym, ◌∙◌, arith}
use Rattle.lgc_values.specs.declared.TheConstants.{MOST_ROWS}
use Rattle.lgc_spec.specs.Folds.{applied}
use Rattle.lgc_spec.specs.Inductions.{width}
use Rattle.lgc_spec.proofs.InductionSteps.{width_small, few_rows, breaks_first, breaks_nowhere}
use Rattle.lgc_spec.proofs.induced.first_broken.Goals as goal

pub pow-index-end-requires : goal.pow-index-end-requires
pow-index-end-requires c =
    let small : c.args.n ^ width c.args.law ≤ MOST_ROWS = few_rows c.args.n (width c.args.law) c.requires.some c.requires.few (width_small c.args.law) in
    rw (c.from.ensures, c.width.ensures) (omega arith)

pub returns-then-not-holds : goal.returns-then-not-holds
returns-then-not-holds c =
    let end : c.pow-index-end.result ≡ c.args.n ^ width c.args.law = rw (c.from.ensures, c.width.ensures) at c.pow-index-end.ensures in
    sym (breaks_first c.args.law c.args.n (applied c.args.n c.args.table.now) c.loop-index.index (omega (arith, end, c.loop-index-test.true)) (sym c.holds.ensures ∙ c.if-not-holds.true) c.loop-index.invariant)

pub returns : goal.returns
returns c =
    let end : c.pow-index-end.result ≡ c.args.n ^ width c.args.law = rw (c.from.ensures, c.width.ensures) at c.pow-index-end.ensures in
    sym (breaks_nowhere c.args.law c.args.n (applied c.args.n c.args.table.now) (λ k lt. c.loop-index.invariant k (omega (arith, end, c.loop-index-test.false, lt))))
