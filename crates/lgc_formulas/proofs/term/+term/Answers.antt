use Rattle.std.proofs.Common.{arith}
use Rattle.std.proofs.lemmas.Result.{err_from_is_err_and}
use Rattle.lgc_tokens.proofs.Loops.{grows, growth_fails, growth_ends}
use Rattle.lgc_formulas.specs.Scopes.{names_of}
use Rattle.lgc_formulas.specs.TermReading.{more_terms_at}
use Rattle.lgc_formulas.proofs.TermReads.{term_reads, comma_term_reads}
use Rattle.lgc_formulas.proofs.term.+term.Goals as goal

pub more_terms-returns-in_err-left-clause-gives : goal.more_terms-returns-in_err-left-clause-gives
unfolding more_terms_at
more_terms-returns-in_err-left-clause-gives t c =
    let p = err_from_is_err_and c.from_residual.result c.from_residual.ensures.1 in
    rw (p.1, p.2) (growth_fails (comma_term_reads (term_reads c.args.limited (names_of c.args.scope.now) c.args.deep)) _ _ _ _ _ c.loop-alloc-test.ensures c.in_err-left.ensures.gives c.loop-alloc.invariant.so_far)

pub more_terms-loop-alloc-preserved : goal.more_terms-loop-alloc-preserved
unfolding more_terms_at
more_terms-loop-alloc-preserved t c = record {
  so_far = grows (comma_term_reads (term_reads c.args.limited (names_of c.args.scope.now) c.args.deep)) _ _ _ _ _ c.loop-alloc-test.ensures c.in_ok-left.ensures.gives c.loop-alloc.invariant.so_far;
  rest = record { shorter = omega (arith, c.in_ok-left.ensures.rest.shorter, c.loop-alloc.invariant.rest.shorter); inside = c.in_ok-left.ensures.rest.inside };
}

pub more_terms-returns-clause-gives : goal.more_terms-returns-clause-gives
unfolding more_terms_at
more_terms-returns-clause-gives t c = growth_ends (comma_term_reads (term_reads c.args.limited (names_of c.args.scope.now) c.args.deep)) _ _ _ c.loop-alloc-test.ensures c.loop-alloc.invariant.so_far
