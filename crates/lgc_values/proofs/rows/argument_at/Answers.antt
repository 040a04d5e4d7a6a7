use Rattle.std.proofs.Common.{◌∙◌, sym, ap, ◌/◌, ◌%◌}
use Rattle.std.specs.Prelude.{Some}
use Rattle.lgc_values.proofs.Digits.{get-arguments_at}
use Rattle.lgc_values.proofs.rows.argument_at.Goals as goal

pub returns-clause-argument : goal.returns-clause-argument
returns-clause-argument c = get-arguments_at c.args.size c.args.arity c.args.row c.args.j c.requires.within ∙ ap (λ p. Some (c.args.row / p % c.args.size)) (sym c.pow.ensures)
