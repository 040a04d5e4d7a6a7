-- Each atom is listed once, with its value.
use Rattle.std.proofs.Common.{◌≡◌, ◌≢◌, ℕ, ◌+◌, List, ◌++◌, ◌∷◌, [], map, slice_index, Some, sym, ◌∙◌, ap, subst}
use Rattle.std.specs.Prelude.{All}
use Rattle.lgc_syntax.specs.declared.formula.Formula.{Formula}
use Rattle.lgc_syntax.specs.Values.{listed, value}
use Rattle.lgc_meaning.specs.Valuations.{is_atom}
use Rattle.lgc_numbering.specs.declared.node.Node.TheVariants.{Atom, Compound}
use Rattle.lgc_numbering.specs.Numbering.{formula_of}
use Rattle.lgc_lemmas.proofs.Refuting.{node_there}
use Rattle.lgc_decision.proofs.DecisionLaws.{node_of_atom, node_of_compound}
use Rattle.lgc_tableau_build.specs.Building.{ListsAtomsBelow}
use Rattle.lgc_tableau_build.proofs.BuiltLaws.{unlisted_yet, one_listed, no_more_listed, value_there}
use Rattle.lgc_tableau_build.proofs.unclosed.values_of_atoms.Goals.{in-Atom+in_ok-copy-in-Atom+in_ok-set-in-Atom, in-Compound}
use Rattle.lgc_tableau_build.proofs.unclosed.values_of_atoms.Goals as goal

pub set-requires-clause-atom : goal.set-requires-clause-atom
set-requires-clause-atom g c =
    let node = node_there c.nodes-nodes.result.now c.loop-k.k c.index-nodes-k.result c.loop-k-test.true c.index-nodes-k.is ∙ ap Some c.in-Atom.is in
    ap is_atom c.in_ok-copy-in-Atom.ensures ∙ node_of_atom c.args.formulas.now c.nodes-nodes.result.now c.loop-k.k c.in-Atom.atom c.nodes-nodes.ensures.nodes node

pub set-requires-clause-unlisted : goal.set-requires-clause-unlisted
set-requires-clause-unlisted g c =
    let k = c.loop-k.k in
    let formulas = c.args.formulas.now in
    let node = node_there c.nodes-nodes.result.now k c.index-nodes-k.result c.loop-k-test.true c.index-nodes-k.is ∙ ap Some c.in-Atom.is in
    let at = c.nodes-nodes.ensures.nodes.formula k (Atom c.in-Atom.atom) node in
    let P : Formula → Type 0 = λ atom. All (λ (entry : Formula × ℕ). entry.0 ≢ atom) c.loop-k.values in
    subst P (sym c.in_ok-copy-in-Atom.ensures) (unlisted_yet formulas (map (value c.args.m.now (listed c.args.valuation.now)) formulas) c.nodes-nodes.ensures.numbering k c.in-Atom.atom at c.loop-k.values c.loop-k.invariant)

pub loop-k-preserved : goal.loop-k-preserved
loop-k-preserved g c =
    let formulas = c.args.formulas.now in
    let logic = c.args.m.now in
    let v = listed c.args.valuation.now in
    let values = map (value logic v) formulas in
    let k = c.loop-k.k in
    let before = c.loop-k.values in
    let are = c.nodes-nodes.ensures.nodes in
    let numbering = c.nodes-nodes.ensures.numbering in
    let here = node_there c.nodes-nodes.result.now k c.index-nodes-k.result c.loop-k-test.true c.index-nodes-k.is in
    let P : List (Formula × ℕ) → Type 0 = ListsAtomsBelow (k + 1) formulas values in
    elim c.match-nodes-k.branch [
      | in-Atom+in_ok-copy-in-Atom+in_ok-set-in-Atom w ↦
          let atom = w.in-Atom.atom in
          let at = are.formula k (Atom atom) (here ∙ ap Some w.in-Atom.is) in
          let x = w.value_of-value.result in
          let is : x ≡ slice_index values k = w.value_of-value.ensures.value ∙ sym (value_there logic v formulas k atom at) in
          subst P (sym (w.values-is ∙ w.in_ok-set-in-Atom.ensures.ok ∙ ap (λ (f : Formula). before ++ (f, x) ∷ []) w.in_ok-copy-in-Atom.ensures)) (one_listed formulas values numbering k atom at before c.loop-k.invariant x is)
      | in-Compound w ↦
          let node = Compound w.in-Compound.op w.in-Compound.args in
          let at = are.formula k node (here ∙ ap Some w.in-Compound.is) in
          subst P (sym w.values-is) (no_more_listed formulas values numbering k (formula_of formulas node) at before c.loop-k.invariant (node_of_compound formulas w.in-Compound.op w.in-Compound.args))
    ]
