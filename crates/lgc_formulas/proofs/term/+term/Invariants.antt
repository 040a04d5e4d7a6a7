use Rattle.std.proofs.Common.{◌≡◌, ◌+◌, ◌*◌, ◌-◌, length}
use Rattle.lgc_tokens.specs.Spelled.{IsRest, spelled_all}
use Rattle.lgc_formulas.specs.Scopes.{names_of}
use Rattle.lgc_formulas.specs.TermReading.{more_terms_at, term_at}
use Rattle.lgc_formulas.proofs.term.+term.Given as goal

abbrev pub decreases-term : goal.decreases-term
decreases-term l = 8 * l.deep

abbrev pub decreases-next_term : goal.decreases-next_term
decreases-next_term l = 8 * l.deep + 1

abbrev pub decreases-comma_term : goal.decreases-comma_term
decreases-comma_term l = 8 * l.deep + 2

abbrev pub decreases-more_terms : goal.decreases-more_terms
decreases-more_terms l = 8 * l.deep + 3

abbrev pub decreases-some_terms : goal.decreases-some_terms
decreases-some_terms l = 8 * l.deep + 4

abbrev pub decreases-terms_in : goal.decreases-terms_in
decreases-terms_in l = 8 * l.deep + 5

abbrev pub decreases-application : goal.decreases-application
decreases-application l = 8 * l.deep - 1

abbrev pub invariant-more_terms-loop-alloc : goal.invariant-more_terms-loop-alloc
invariant-more_terms-loop-alloc l = record {
  so_far : more_terms_at (term_at l.limited (names_of l.scope) l.deep) (l.terms, l.many) (spelled_all l.bytes l.rest) ≡ more_terms_at (term_at l.limited (names_of l.scope) l.deep) (l.fn.terms, l.fn.many) (spelled_all l.bytes l.tokens);
  rest : IsRest l.bytes l.tokens l.rest;
}

abbrev pub decreases-more_terms-loop-alloc : goal.decreases-more_terms-loop-alloc
decreases-more_terms-loop-alloc l = length l.rest
