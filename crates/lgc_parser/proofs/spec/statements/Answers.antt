use Rattle.std.proofs.Common.{sym, arith}
use Rattle.std.proofs.lemmas.Result.{err_from_is_err_and}
use Rattle.lgc_grammar.proofs.Loops.{begins_many, many_takes, many_ended}
use Rattle.lgc_parser.specs.SpecReading.{spec_at}
use Rattle.lgc_parser.proofs.SpecReads.{sentence_reads}
use Rattle.lgc_tokens.proofs.Stops.{when_ok}
use Rattle.lgc_parser.proofs.Lists.{next_fails}
use Rattle.lgc_parser.proofs.spec.statements.Goals as goal

pub loop-alloc-init : goal.loop-alloc-init
unfolding spec_at
loop-alloc-init c = record { so_far = rw c.new-statements.ensures (begins_many _); rest = record { shorter = omega arith; inside = c.requires } }

pub returns-in_err-next-clause-gives : goal.returns-in_err-next-clause-gives
returns-in_err-next-clause-gives c =
    let p = err_from_is_err_and c.from_residual.result c.from_residual.ensures.1 in
    rw (p.1, p.2) (next_fails sentence_reads _ _ _ _ _ (sym c.loop-alloc-test.ensures) c.in_err-next.ensures.gives c.loop-alloc.invariant.so_far)

pub loop-alloc-preserved : goal.loop-alloc-preserved
loop-alloc-preserved c =
    let pushed = when_ok _ _ c.in_ok-push.was c.push.ensures.ok in
    record {
      so_far = rw pushed (many_takes sentence_reads _ _ _ _ _ (sym c.loop-alloc-test.ensures) c.in_ok-next.ensures.gives c.loop-alloc.invariant.so_far);
      rest = record { shorter = omega (arith, c.in_ok-next.ensures.rest.shorter, c.loop-alloc.invariant.rest.shorter); inside = c.in_ok-next.ensures.rest.inside };
    }

pub returns-clause-gives : goal.returns-clause-gives
returns-clause-gives c = many_ended sentence_reads _ _ _ (sym c.loop-alloc-test.ensures) c.loop-alloc.invariant.so_far
