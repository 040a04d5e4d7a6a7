-- What is decided of the packed goal is decided of the goal.
use Rattle.std.proofs.Common.{◌≡◌, ℕ, ◌<◌, List, [], length, sym, subst, arith}
use Rattle.std.specs.List.{Any}
use Rattle.lgc_syntax.specs.declared.formula.Formula.{Formula}
use Rattle.lgc_syntax.specs.Subformulas.{IsSubformula}
use Rattle.lgc_sequents.specs.Sequents.{IsSequent}
use Rattle.lgc_numbering.specs.Growth.{IsGrownBy}
use Rattle.lgc_lemmas.specs.Plain.{PlainLemma}
use Rattle.lgc_lemmas.specs.Steps.{AreSteps}
use Rattle.lgc_search.specs.declared.answer.Answer.{Answer}
use Rattle.lgc_search.specs.Search.{IsAnswer}
use Rattle.lgc_decision.specs.Atoms.{HasAtomsBelow}
use Rattle.lgc_decision.proofs.DecisionLaws.{parts_of_goal, all_fit, nodes_fit, numbers_of_nodes, true_everywhere, proved_from, counterexample}
use Rattle.lgc_decision.proofs.deciding.decide.Goals as goal

pub prove-requires : goal.prove-requires
prove-requires g c =
    let logic = c.args.m.now in
    let items = c.args.goal.now in
    let formulas = c.pack.new.formulas in
    let nodes = c.nodes.result.now in
    let are = c.nodes.ensures.nodes in
    let P : List Formula → Type 0 = λ old. IsGrownBy (λ h. Any (λ item. IsSubformula h item.formula) items) old formulas in
    let grown = subst P c.new-formulas.ensures c.in_ok-packed.ensures.grown in
    let fit = nodes_fit logic items c.requires.fits c.requires.propositional formulas grown nodes are in
    let S : List PlainLemma → Type 0 = λ lemmas. AreSteps logic nodes c.args.book.now [] lemmas in
    (omega arith, (omega arith, (omega arith, (omega arith, (fit, (numbers_of_nodes formulas nodes c.in_ok-packed.packed are c.in_ok-packed.ensures.packed.known, (c.requires.right, subst S (sym c.new-lemmas.ensures) tt)))))))

pub returns-in-Proved-clause-decided : goal.returns-in-Proved-clause-decided
returns-in-Proved-clause-decided g c =
    let logic = c.args.m.now in
    let items = c.args.goal.now in
    let formulas = c.pack.new.formulas in
    let nodes = c.nodes.result.now in
    let are = c.nodes.ensures.nodes in
    let P : List Formula → Type 0 = λ old. IsGrownBy (λ h. Any (λ item. IsSubformula h item.formula) items) old formulas in
    let grown = subst P c.new-formulas.ensures c.in_ok-packed.ensures.grown in
    let fit = nodes_fit logic items c.requires.fits c.requires.propositional formulas grown nodes are in
    let parts = parts_of_goal logic items c.requires.fits c.requires.propositional formulas grown in
    let packed = c.in_ok-packed.packed in
    let Q : Answer → Type 0 = IsAnswer logic nodes c.prove.new.lemmas packed in
    let proved = subst Q c.in-Proved.is c.in_ok-place.ensures.answer in
    let S : ℕ → Type 0 = λ n. IsSequent n items in
    let sequent = subst S (sym c.operators-operators.ensures.size) c.items-items.ensures.sequent in (
      proved_from logic c.operators-operators.ensures.logic items formulas nodes are c.nodes.ensures.numbering parts fit packed c.in_ok-packed.ensures.packed c.in_ok-packed.ensures.truth c.prove.new.book c.in_ok-place.ensures.right c.prove.new.lemmas c.in_ok-place.ensures.steps c.in-Proved.place proved sequent,
      true_everywhere logic c.operators-operators.ensures.logic items formulas nodes are c.nodes.ensures.numbering parts fit packed c.in_ok-packed.ensures.packed c.in_ok-packed.ensures.truth c.prove.new.book c.in_ok-place.ensures.right c.prove.new.lemmas c.in_ok-place.ensures.steps c.in-Proved.place proved,
    )

pub returns-in_ok-valuation-in-Refuted-clause-decided : goal.returns-in_ok-valuation-in-Refuted-clause-decided
returns-in_ok-valuation-in-Refuted-clause-decided g c =
    let logic = c.args.m.now in
    let items = c.args.goal.now in
    let formulas = c.pack.new.formulas in
    let nodes = c.nodes.result.now in
    let are = c.nodes.ensures.nodes in
    let P : List Formula → Type 0 = λ old. IsGrownBy (λ h. Any (λ item. IsSubformula h item.formula) items) old formulas in
    let grown = subst P c.new-formulas.ensures c.in_ok-packed.ensures.grown in
    let fit = nodes_fit logic items c.requires.fits c.requires.propositional formulas grown nodes are in
    let parts = parts_of_goal logic items c.requires.fits c.requires.propositional formulas grown in
    let packed = c.in_ok-packed.packed in
    let Q : Answer → Type 0 = IsAnswer logic nodes c.prove.new.lemmas packed in
    let refuted = subst Q c.in-Refuted.is c.in_ok-place.ensures.answer in
    let V : List ℕ → Type 0 = λ values. HasAtomsBelow (length formulas) formulas values c.in_ok-valuation-in-Refuted.valuation in
    counterexample logic c.operators-operators.ensures.logic items formulas nodes are c.nodes.ensures.numbering parts fit packed c.in_ok-packed.ensures.packed c.in_ok-packed.ensures.truth (all_fit logic items c.requires.fits c.requires.propositional formulas grown) c.in-Refuted.values refuted c.in_ok-valuation-in-Refuted.valuation (subst V c.items.ensures c.in_ok-valuation-in-Refuted.ensures)
