use Rattle.std.proofs.Common.{◌-◌, arith}
use Rattle.lgc_formulas.specs.Scopes.{names_of}
use Rattle.lgc_formulas.specs.Setting.{setting_of}
use Rattle.lgc_formulas.specs.FormulaReading.{formula_at}
use Rattle.lgc_formulas.proofs.Operands.{operands_go_on}
use Rattle.lgc_formulas.proofs.formula.+formula.Goals as goal

pub more_operands-returns-clause-gives : goal.more_operands-returns-clause-gives
more_operands-returns-clause-gives g t c =
    rw (operands_go_on (formula_at (setting_of c.args.c.now) c.args.deep (names_of c.args.scope.now)) c.args.before c.in_ok-before.before _ _ _ _ _ c.if-is_bare.false c.if-next_is-2.ensures c.in_ok-rest-2.ensures.gives c.in_ok-next.ensures.gives c.in_ok-before.ensures c.args.k (c.args.k - 1) (omega (arith, c.if-k-eq0.false)))
    c.more_operands.ensures.gives
