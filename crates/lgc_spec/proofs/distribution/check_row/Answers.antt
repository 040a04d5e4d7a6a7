use Rattle.std.proofs.Common.{◌∙◌}
use Rattle.std.proofs.lemmas.Result.{err_from_is_err_and}
use Rattle.lgc_spec.proofs.DistributionSteps.{unknown_member, unknown_value}
use Rattle.lgc_spec.proofs.distribution.check_row.Goals as goal

pub returns-in_err-check_known : goal.returns-in_err-check_known
returns-in_err-check_known c =
    let p = err_from_is_err_and c.from_residual.result c.from_residual.ensures.1 in
    rw (p.1, p.2) (unknown_member c.args.bytes.now c.args.names.now c.args.row.now _ (λ e. c.if-len-eq0.false (c.len.ensures ∙ e)) (rw c.items.ensures at c.in_err-check_known.ensures))

pub returns : goal.returns
returns c = unknown_value c.args.bytes.now c.args.names.now c.args.row.now c.check_known-2.result (λ e. c.if-len-eq0.false (c.len.ensures ∙ e)) (rw c.items.ensures at c.in_ok-check_known.ensures) (rw c.from_ref.ensures.value at c.check_known-2.ensures)
