-- What is found of the premises answers the goal, and one premise more is proved.
use Rattle.std.proofs.Common.{◌≡◌, ℕ, ◌+◌, ◌<◌, ◌≤◌, ◌||◌, ◌∷◌, ◌++◌, [], List, take, length, sym, ◌∙◌, ap, subst, arith}
use Rattle.std.specs.List.{zip}
use Rattle.lgc_clauses.specs.Rules.{OperatorRule}
use Rattle.lgc_clauses.specs.Irredundance.{clause_at}
use Rattle.lgc_packed.specs.Packed.{marks, marks_besides, added_all}
use Rattle.lgc_lemmas.specs.Plain.{PlainLemma}
use Rattle.lgc_lemmas.specs.Steps.{IsGrown}
use Rattle.lgc_lemmas.specs.Answers.{IsProvedBy}
use Rattle.lgc_lemmas.proofs.StepLaws.{grown_more}
use Rattle.lgc_search.specs.declared.answer.Answer.{Answer}
use Rattle.lgc_search.specs.declared.answer.Premises.{Premises}
use Rattle.lgc_search.specs.Search.{IsAnswer, AreFound, AreProved, clauses_of}
use Rattle.lgc_search.proofs.Concluding.{step_reason, step_included, enough, refuted, one_refuted, more_proved, clauses_grown}
use Rattle.lgc_search.proofs.engine.+prove.Goals as goal

pub prove-append_step-requires-in-All : goal.prove-append_step-requires-in-All
prove-append_step-requires-in-All g t c =
    let logic = c.args.m.now in
    let nodes = c.args.nodes.now in
    let goal = c.args.goal.now in
    let size = c.operators-operators.ensures.size in
    let o = c.in_ok-opened-in-Some-principal_at.opened in
    let is = c.in_ok-opened-in-Some-principal_at.ensures.is in
    let number = c.in_ok-number-in-Some-principal_at.number in
    let found = c.in_ok-number-in-Some-principal_at.ensures.rule in
    let Q : Premises g.row.N → Type 0 = AreFound logic nodes c.prove_premises.new.lemmas (clauses_of c.choose.new.book number) o.arguments o.rest in
    let proved = subst Q c.in-All.is c.in_ok-cited-in-Some-principal_at.ensures.found in
    let lemma = c.in_ok-lemma-in-All.lemma in
    let reason = step_reason logic nodes c.requires.nodes g.row.N size goal o.rest o.op o.principal o.sign o.arguments c.pairs-pairs.ensures.packed is c.choose.new.book number found c.prove_premises.new.book c.in_ok-cited-in-Some-principal_at.ensures.rules c.prove_premises.new.lemmas c.in-All.cited c.in-All.kept proved lemma c.in_ok-lemma-in-All.ensures.sequent c.in_ok-lemma-in-All.ensures.reason in
    let included = step_included logic nodes c.requires.nodes g.row.N size goal o.rest o.op o.principal o.sign o.arguments c.pairs-pairs.ensures.packed is c.choose.new.book number found c.prove_premises.new.book c.in_ok-cited-in-Some-principal_at.ensures.rules c.prove_premises.new.lemmas c.in-All.cited c.in-All.kept proved lemma c.in_ok-lemma-in-All.ensures.sequent c.in_ok-lemma-in-All.ensures.reason in
    (omega arith, (omega arith, (omega arith, (omega arith, (omega arith, (c.requires.numbers, (c.in_ok-cited-in-Some-principal_at.ensures.steps, (reason, included))))))))

pub prove-returns-in-Enough-clause-answer : goal.prove-returns-in-Enough-clause-answer
prove-returns-in-Enough-clause-answer g t c =
    let logic = c.args.m.now in
    let nodes = c.args.nodes.now in
    let o = c.in_ok-opened-in-Some-principal_at.opened in
    let number = c.in_ok-number-in-Some-principal_at.number in
    let Q : Premises g.row.N → Type 0 = AreFound logic nodes c.prove_premises.new.lemmas (clauses_of c.choose.new.book number) o.arguments o.rest in
    enough logic nodes c.requires.nodes g.row.N c.operators-operators.ensures.size c.args.goal.now o.rest o.op o.principal o.sign o.arguments c.pairs-pairs.ensures.packed c.in_ok-opened-in-Some-principal_at.ensures.is c.prove_premises.new.lemmas c.in-Enough.place (subst Q c.in-Enough.is c.in_ok-cited-in-Some-principal_at.ensures.found)

pub prove-returns-clause-answer : goal.prove-returns-clause-answer
prove-returns-clause-answer g t c =
    let logic = c.args.m.now in
    let nodes = c.args.nodes.now in
    let o = c.in_ok-opened-in-Some-principal_at.opened in
    let number = c.in_ok-number-in-Some-principal_at.number in
    let Q : Premises g.row.N → Type 0 = AreFound logic nodes c.prove_premises.new.lemmas (clauses_of c.choose.new.book number) o.arguments o.rest in
    refuted logic nodes c.requires.nodes g.row.N c.operators-operators.ensures.size c.args.goal.now o.rest o.op o.principal o.sign o.arguments c.pairs-pairs.ensures.packed c.in_ok-opened-in-Some-principal_at.ensures.is c.choose.new.book number c.in_ok-number-in-Some-principal_at.ensures.rule c.in-Refuted.values
    c.operators-operators.ensures.logic c.in_ok-number-in-Some-principal_at.ensures.right (subst Q c.in-Refuted.is c.in_ok-cited-in-Some-principal_at.ensures.found)

pub prove_premises-returns-in-Refuted-clause-found : goal.prove_premises-returns-in-Refuted-clause-found
prove_premises-returns-in-Refuted-clause-found g t c =
    let logic = c.args.m.now in
    let nodes = c.args.nodes.now in
    let book : List OperatorRule = c.args.book.now in
    let number = c.args.number in
    let opened = c.args.opened.now in
    let i = c.loop-i.i in
    let premise = c.in_ok-premise.premise in
    let Q : Answer → Type 0 = IsAnswer logic nodes c.prove.new.lemmas premise in
    one_refuted logic nodes g.row.N (clauses_of book number) opened.arguments opened.rest premise i c.in-Refuted.values c.operators-operators.ensures.size (omega (arith, c.loop-i-test.true, c.clause_count-i-end.ensures))
    (c.in_ok-premise.ensures.is ∙ ap (λ clauses. added_all g.row.N (zip opened.arguments (clause_at clauses i)) opened.rest) (clauses_grown book c.loop-i.book opened.op number opened.sign c.loop-i.invariant.1 c.requires.rule))
    (subst Q c.in-Refuted.is c.in_ok-place.ensures.answer)

pub prove_premises-loop-i-preserved : goal.prove_premises-loop-i-preserved
prove_premises-loop-i-preserved g t c =
    let logic = c.args.m.now in
    let nodes = c.args.nodes.now in
    let book : List OperatorRule = c.args.book.now in
    let number = c.args.number in
    let opened = c.args.opened.now in
    let i = c.loop-i.i in
    let premise = c.in_ok-premise.premise in
    let place = c.in-Proved.place in
    let lemma = c.lemma-lemma.result.now in
    let Q : Answer → Type 0 = IsAnswer logic nodes c.prove.new.lemmas premise in
    let P : ℕ → Type 0 = λ n. IsProvedBy n c.prove.new.lemmas premise place in
    let rules = grown_more book c.loop-i.book c.prove.new.book c.loop-i.invariant.1 c.in_ok-place.ensures.rules in
    let lemmas = grown_more c.args.lemmas.now c.loop-i.lemmas c.prove.new.lemmas c.loop-i.invariant.2 c.in_ok-place.ensures.lemmas in
    let before = clauses_grown book c.loop-i.book opened.op number opened.sign c.loop-i.invariant.1 c.requires.rule in
    let after = clauses_grown book c.prove.new.book opened.op number opened.sign rules c.requires.rule in
    let sequent = ap (λ (x : PlainLemma). x.sequent) c.lemma.view_is in
    let wider = c.in_ok-kept-in-Proved.kept in
    let wider_is : (k w : ℕ) → w < g.row.N → marks wider k w ≡ (marks c.loop-i.kept k w || marks_besides lemma.sequent (zip opened.arguments (clause_at (clauses_of book number) i)) k w)
    = λ k w l. c.in_ok-kept-in-Proved.ensures k w l ∙ (λ j. marks c.loop-i.kept k w || marks_besides (sequent j) (zip opened.arguments (clause_at (after j) i)) k w) in
    let R : List ℕ → Type 0 = λ cited. AreProved g.row.N c.prove.new.lemmas opened.rest opened.arguments (take (i + 1) (clauses_of book number)) cited wider in (
      subst R (sym c.in_ok-push-in-Proved.ensures.ok)
          (more_proved g.row.N c.loop-i.lemmas c.prove.new.lemmas opened.rest premise opened.arguments (clauses_of book number) i c.loop-i.cited c.loop-i.kept wider place lemma (omega (arith, c.loop-i-test.true, c.clause_count-i-end.ensures))
          (c.in_ok-premise.ensures.is ∙ ap (λ clauses. added_all g.row.N (zip opened.arguments (clause_at clauses i)) opened.rest) before)
          c.in_ok-place.ensures.lemmas (subst P c.operators-operators.ensures.size (subst Q c.in-Proved.is c.in_ok-place.ensures.answer)) c.lemma-lemma.ensures wider_is c.loop-i.invariant.0),
      rules,
      lemmas,
      c.in_ok-place.ensures.right,
      c.in_ok-place.ensures.steps,
    )
