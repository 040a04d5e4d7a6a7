-- One value more, and all of them.
use Rattle.std.proofs.Common.{◌≡◌, ℕ, ◌+◌, ◌<◌, ◌≤◌, List, ◌++◌, ◌∷◌, [], length, map, slice_get, slice_index, Some, sym, ◌∙◌, ap, subst, arith}
use Rattle.std.specs.Prelude.{All}
use Rattle.lgc_syntax.specs.Values.{operation}
use Rattle.lgc_numbering.specs.declared.node.Node.TheVariants.{Compound}
use Rattle.lgc_packed.specs.Packed.{marks}
use Rattle.lgc_lemmas.specs.Nodes.{is_compound_node}
use Rattle.lgc_lemmas.proofs.Refuting.{AreValuesSoFar, numbers_up, node_there, length_push, more_by_atom, more_by_compound, refuted_by}
use Rattle.lgc_lemmas.proofs.atoms.refute.Goals.{in-Atom, in-Compound}
use Rattle.lgc_lemmas.proofs.atoms.refute.Goals as goal

pub value_of-value-requires : goal.value_of-value-requires
value_of-value-requires g c =
    let logic = c.args.m.now in
    let nodes = c.args.nodes.now in
    let k = c.loop-k.k in
    let op = c.in-Compound.op in
    let arguments = c.items.result.now in
    let compound : slice_get nodes k ≡ Some (Compound op arguments) = node_there nodes k c.index-nodes-k.result c.loop-k-test.true c.index-nodes-k.is ∙ ap Some (c.in-Compound.is ∙ ap (λ (l : List ℕ). Compound op l) (sym c.items.ensures)) in
    let is = c.requires.nodes k op arguments compound in
    let P : List ℕ → Type 0 = λ vs. All (λ v. v < logic.size) vs in
    (omega arith, (is.known, (is.arity, (numbers_up k (length c.items-in-Compound.result.now) arguments (omega (arith, c.loop-k.invariant.0, ap length c.items-in-Compound.ensures)) is.before, subst P (sym c.items-in-Compound.ensures) c.loop-k.invariant.1.below))))

pub loop-k-preserved : goal.loop-k-preserved
loop-k-preserved g c =
    let logic = c.args.m.now in
    let nodes = c.args.nodes.now in
    let pairs = c.pairs-pairs.result.now in
    let k = c.loop-k.k in
    let values = c.loop-k.values in
    let new = c.push.new.self in
    let v = c.match-nodes-k.value in
    let size = c.operators-operators.ensures.size in
    let made : new ≡ values ++ v ∷ [] = c.in_ok-push.ensures.ok in
    let count = c.loop-k.invariant.0 in
    let so_far = c.loop-k.invariant.1 in
    let node = ap (slice_get nodes) count ∙ node_there nodes k c.index-nodes-k.result c.loop-k-test.true c.index-nodes-k.is in (
      ap length made ∙ length_push values v ∙ ap (λ n. n + 1) count,
      elim c.match-nodes-k.branch [
        | in-Atom w ↦ more_by_atom logic nodes pairs c.requires.nodes values new v made so_far (omega (arith, w.value-is, w.value_outside-value.ensures.below, size)) (ap is_compound_node (node ∙ ap Some w.in-Atom.is)) ((λ j. marks pairs (count j) (w.value-is j)) ∙ w.value_outside-value.ensures.outside)
        | in-Compound w ↦ more_by_compound logic nodes pairs c.requires.nodes values new v w.in-Compound.op w.items.result.now made so_far (omega (arith, w.value-is, w.value_of-value.ensures.below, size)) (node ∙ ap Some (w.in-Compound.is ∙ ap (λ (l : List ℕ). Compound w.in-Compound.op l) (sym w.items.ensures)))
            (w.value-is ∙ w.value_of-value.ensures.value ∙ ap (λ (vs : List ℕ). operation logic w.in-Compound.op (map (slice_index vs) w.items.result.now)) w.items-in-Compound.ensures)
      ],
    )

pub returns : goal.returns
returns g c =
    let P : List (ℕ × List ℕ) → Type 0 = λ pairs. AreValuesSoFar c.args.m.now c.args.nodes.now pairs c.loop-k.values in
    refuted_by c.args.m.now c.args.nodes.now c.args.goal.now c.loop-k.values c.operators-operators.ensures.logic c.requires.numbers c.requires.atoms (omega (arith, c.loop-k.invariant.0, c.loop-k-test.false)) (subst P c.pairs-pairs.ensures.pairs c.loop-k.invariant.1)
