use Rattle.std.proofs.Common.{◌<◌, ◌≤◌, length, arith, ◌∙◌}
use Rattle.lgc_spec.proofs.NameLaws.{argument_name_more, argument_names_all}
use Rattle.lgc_spec.proofs.mapping.argument_names.Goals as goal

pub loop-j-preserved : goal.loop-j-preserved
loop-j-preserved c =
    let lt : c.loop-j.j < c.args.arity = omega (arith, c.from-j-end.ensures) in
    let below : c.argument_at-value.result < length c.args.names.now = omega (arith, c.argument_at-value.ensures.below) in
    rw c.in_ok-push.ensures.ok
    (argument_name_more c.args.names.now c.args.arity c.args.index c.loop-j.j c.argument_at-value.result _ _ c.loop-j.found lt c.loop-j.invariant (rw c.from.ensures at c.argument_at-value.ensures.argument) below (rw c.from-in-loop-j.ensures at c.index-names-from.is) (c.in_ok-of_bytes.ensures ∙ c.bytes.ensures))

pub returns : goal.returns
returns c =
    let done : c.args.arity ≤ c.loop-j.j = omega (arith, c.from-j-end.ensures) in
    argument_names_all c.args.names.now c.args.arity c.args.index c.loop-j.j c.loop-j.found done c.loop-j.invariant
