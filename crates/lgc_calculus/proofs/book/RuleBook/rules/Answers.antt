-- A right book has few rules.
use Rattle.lgc_calculus.proofs.BookLaws.{few_now}
use Rattle.lgc_calculus.proofs.book.RuleBook.rules.Goals as goal

pub returns-clause-few : goal.returns-clause-few
returns-clause-few g c = λ logic is book. few_now logic g.row.N c.self.inside.rules c.args.self.now c.self.inside.keys.keys is book c.self.invariant c.self.view_is
