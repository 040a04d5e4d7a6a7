use Rattle.std.proofs.Common.{◌≡◌, length, sym, ◌∙◌}
use Rattle.std.proofs.lemmas.Result.{err_from_is_err_and}
use Rattle.lgc_spec.proofs.RowLaws.{unknown_argument, unknown_result}
use Rattle.lgc_spec.proofs.mapping.check_row.Goals as goal

pub returns-in_err-check_known : goal.returns-in_err-check_known
returns-in_err-check_known c =
    let p = err_from_is_err_and c.from_residual.result c.from_residual.ensures.1 in
    let size : length c.args.row.now.arguments ≡ c.args.arity = sym c.len.ensures ∙ c.if-len-from.false ∙ c.from.ensures in
    rw (p.1, p.2) (unknown_argument c.args.bytes.now c.args.names.now c.args.arity c.args.row.now _ size (rw c.items.ensures at c.in_err-check_known.ensures))

pub returns : goal.returns
returns c =
    let size : length c.args.row.now.arguments ≡ c.args.arity = sym c.len.ensures ∙ c.if-len-from.false ∙ c.from.ensures in
    unknown_result c.args.bytes.now c.args.names.now c.args.arity c.args.row.now c.check_known-2.result size (rw c.items.ensures at c.in_ok-check_known.ensures) (rw c.from_ref.ensures.value at c.check_known-2.ensures)
