use Rattle.std.proofs.Common.{arith}
use Rattle.std.proofs.lemmas.Result.{err_from_is_err_and}
use Rattle.lgc_tokens.specs.Classes.{is}
use Rattle.lgc_tokens.proofs.Stops.{when_ok}
use Rattle.lgc_parser.proofs.Lists.{part_taken, part_fails, parts_ended}
use Rattle.lgc_parser.proofs.parts.separated.Goals as goal

pub returns-in_err-next-clause-gives : goal.returns-in_err-next-clause-gives
returns-in_err-next-clause-gives g c =
    let p = err_from_is_err_and c.from_residual-in_err-next.result c.from_residual-in_err-next.ensures.1 in
    rw (p.1, p.2) (part_fails (is c.args.separator) c.requires.shortens _ _ _ _ _ _ c.in-Some.ensures.skips c.in_err-next.ensures.gives c.loop-after.invariant.so_far)

pub loop-after-preserved : goal.loop-after-preserved
loop-after-preserved g c =
    let pushed = when_ok _ _ c.in_ok-push-2.was c.push-in-Some.ensures.ok in
    record {
      so_far = rw pushed (part_taken (is c.args.separator) c.requires.shortens _ _ _ _ _ _ c.in-Some.ensures.skips c.in_ok-next.ensures.gives c.loop-after.invariant.so_far);
      rest = record { shorter = omega (arith, c.in_ok-next.ensures.rest.shorter, c.in-Some.ensures.rest.shorter, c.loop-after.invariant.rest.shorter); inside = c.in_ok-next.ensures.rest.inside };
    }

pub returns-clause-gives : goal.returns-clause-gives
returns-clause-gives g c = parts_ended (is c.args.separator) c.requires.shortens _ _ _ c.in_default.ensures.skips c.loop-after.invariant.so_far
