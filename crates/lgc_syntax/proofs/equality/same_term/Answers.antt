-- What tells whether two are equal is the test.
use Rattle.lgc_syntax.proofs.EqualityLaws.{same_term_test}
use Rattle.lgc_syntax.proofs.equality.same_term.Goals as goal

pub returns-clause-test : goal.returns-clause-test
returns-clause-test c = same_term_test c.equal_terms.result c.args.a.now c.args.b.now c.equal_terms.ensures
