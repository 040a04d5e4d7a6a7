-- The lemma is a pair of the goal.
use Rattle.lgc_lemmas.proofs.StepLaws.{axiom_included}
use Rattle.lgc_lemmas.proofs.lemmas.axiom_at.Goals as goal

pub returns-clause-included : goal.returns-clause-included
returns-clause-included g c = axiom_included g.row.N c.args.goal.now c.pairs.result.now c.new-sequent.result c.add.new.self c.args.at c.requires.number c.requires.sign c.index-pairs-at.result c.index-pairs-at-2.result c.pairs.ensures.pairs c.requires.is c.new-sequent.ensures c.in_ok-add.ensures.ok
