-- The next atom is one for the logic, and isn't listed yet.
use Rattle.std.proofs.Common.{◌≡◌, ◌≢◌, ℕ, false, sym, ◌∙◌, subst, arith}
use Rattle.std.specs.Prelude.{All, AllPairs}
use Rattle.std.specs.List.{flat_map}
use Rattle.std.specs.Vec.Iter.{into_iter_items}
use Rattle.std.proofs.lemmas.List.Elements.{All-map}
use Rattle.lgc_syntax.specs.declared.formula.Formula.{Formula}
use Rattle.lgc_syntax.specs.Fits.{Fits}
use Rattle.lgc_syntax.specs.Sizes.{has_quantifier}
use Rattle.lgc_syntax.specs.Values.{listed, value}
use Rattle.lgc_meaning.specs.Valuations.{atom_places, each_once}
use Rattle.lgc_meaning.specs.Queries.{formulas_of}
use Rattle.lgc_prove.proofs.OneByOne.{next_item, next_differs}
use Rattle.lgc_meaning.proofs.AtomLaws.{atoms_fit}
use Rattle.lgc_prove.proofs.evidence.values_of_atoms.Goals as goal

pub value_of-value-requires : goal.value_of-value-requires
value_of-value-requires g c =
    let logic = c.args.m.now in
    let at = c.loop-atom in
    let all = into_iter_items c.into_iter-atom-iterator.result in
    let Known : Formula → Type 0 = λ f. Fits logic f × (has_quantifier f ≡ false) in
    let atoms : all ≡ each_once (flat_map atom_places (formulas_of c.args.query.now)) = c.into_iter-atom-iterator.ensures.into_iter_gives.0 ∙ c.into_vec-atom-items.ensures ∙ c.in_ok-atoms.ensures.list in
    let fit = next_item all at.yielded Known (into_iter_items at.atom-iterator) (into_iter_items c.next.new.self) c.in-Some.atom at.invariant.0 c.in-Some.ensures.steps.0 (subst (All Known) (sym atoms) (atoms_fit logic (formulas_of c.args.query.now) c.requires.fits.formulas c.requires.propositional)) in
    (omega arith, (fit.0, (fit.1, c.requires.values)))

pub set-requires-clause-unlisted : goal.set-requires-clause-unlisted
set-requires-clause-unlisted g c =
    let logic = c.args.m.now in
    let at = c.loop-atom in
    let atom = c.in-Some.atom in
    let all = into_iter_items c.into_iter-atom-iterator.result in
    let given : all ≡ c.in_ok-atoms.atoms = c.into_iter-atom-iterator.ensures.into_iter_gives.0 ∙ c.into_vec-atom-items.ensures in
    let differ = next_differs all at.yielded (into_iter_items at.atom-iterator) (into_iter_items c.next.new.self) atom at.invariant.0 c.in-Some.ensures.steps.0 (subst (AllPairs (λ a b. a ≢ b)) (sym given) c.in_ok-atoms.ensures.distinct) in
    let Other : (Formula × ℕ) → Type 0 = λ entry. entry.0 ≢ atom in
    subst (All Other) (sym at.invariant.2) (All-map Other (λ (f : Formula). (f, value logic (listed c.args.v.now) f)) at.yielded differ)
