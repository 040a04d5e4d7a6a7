-- The appended lemma is a step.
use Rattle.std.proofs.Common.{◌≡◌, subst}
use Rattle.lgc_packed.specs.Packed.{IsPacked}
use Rattle.lgc_lemmas.specs.Plain.{PlainLemma}
use Rattle.lgc_search.proofs.Concluding.{appended_steps}
use Rattle.lgc_search.proofs.engine.append_step.Goals as goal

pub returns-clause-steps : goal.returns-clause-steps
returns-clause-steps g c =
    let P : PlainLemma → Type 0 = λ lemma. IsPacked g.row.N lemma.sequent in
    appended_steps c.args.m.now c.args.nodes.now c.args.book.now g.row.N c.operators-operators.ensures.size c.args.goal.now c.args.lemmas.now c.append.new.self c.args.lemma (subst P c.lemma.view_is c.pairs-pairs.ensures.packed) c.requires.numbers c.requires.included c.requires.reason c.requires.steps c.append.result c.append.ensures.ok c.append.ensures.err
