use Rattle.std.proofs.Common.{◌≡◌, ◌*◌, ◌-◌, ℕ, suc, true, sym, subst, ◌∙◌, arith}
use Rattle.std.specs.Prelude.{nat_lt}
use Rattle.lgc_goals.specs.declared.TheConstants.{MOST_GOALS}
use Rattle.lgc_queries.proofs.Powers.{factor_before, factor_moves, stays_large}
use Rattle.lgc_queries.proofs.goals.is_large_power.Goals as goal

pub loop-left-init : goal.loop-left-init
loop-left-init c = record { total = factor_before c.args.n c.args.exponent; few = omega (arith, c.requires.high) }

pub returns-then-power-gt-MOST_GOALS : goal.returns-then-power-gt-MOST_GOALS
returns-then-power-gt-MOST_GOALS c =
    let others : c.loop-left.left ≡ suc (c.loop-left.left - 1) = omega (arith, c.loop-left-test.true) in
    sym (subst (λ (k : ℕ). nat_lt MOST_GOALS k ≡ true)
    (factor_moves c.args.n c.loop-left.power c.loop-left.left (c.loop-left.left - 1) others ∙ c.loop-left.invariant.total)
    (stays_large c.args.n (c.loop-left.power * c.args.n) (c.loop-left.left - 1) c.requires.low c.if-power-gt-MOST_GOALS.true))
