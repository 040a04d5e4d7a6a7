-- What tells whether two are equal is the test.
use Rattle.lgc_syntax.proofs.EqualityLaws.{same_formula_test}
use Rattle.lgc_syntax.proofs.equality.same_formula.Goals as goal

pub returns-clause-test : goal.returns-clause-test
returns-clause-test c = same_formula_test c.equal_formulas.result c.args.a.now c.args.b.now c.equal_formulas.ensures
