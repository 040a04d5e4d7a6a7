-- The sides of one premise more.
use Rattle.std.proofs.Common.{◌≡◌, ℕ, ◌+◌, ◌<◌, List, [], ◌∷◌, ◌++◌, length, get_or, drop, slice_index, sym, ◌∙◌, ap, arith}
use Rattle.std.specs.List.{fold, flat_map, zip}
use Rattle.std.proofs.lemmas.List.{drop_more}
use Rattle.lgc_values.specs.Logic.{arguments_at}
use Rattle.lgc_sequents.specs.Sequents.{added}
use Rattle.lgc_meaning.specs.declared.query.Pair.{Pair}
use Rattle.lgc_goals.specs.Goals.{complement, with_signed, premise_items}
use Rattle.lgc_syntax.proofs.IndexLaws.{length-arguments_at}
use Rattle.lgc_goals.proofs.goal.add_premises.Goals as goal

one_more : (n : ℕ) (premises : List Pair) (tuple : List ℕ) (i : ℕ) (pair : Pair) → i < length premises → i < length tuple → pair ≡ get_or premises i pair
    → flat_map (premise_items n) (zip (drop i premises) (drop i tuple)) ≡ premise_items n (pair, slice_index tuple i) ++ flat_map (premise_items n) (zip (drop (i + 1) premises) (drop (i + 1) tuple))
one_more n premises tuple i pair within inside at =
    let pairs : drop i premises ≡ pair ∷ drop (i + 1) premises = drop_more premises i pair within ∙ ap (λ x. x ∷ drop (i + 1) premises) (sym at) in
    let values : drop i tuple ≡ slice_index tuple i ∷ drop (i + 1) tuple = drop_more tuple i 0 inside in
    λ k. flat_map (premise_items n) (zip (pairs k) (values k))

pub loop-place-preserved : goal.loop-place-preserved
loop-place-preserved g c =
    let n = g.row.N in
    let premises = c.args.premises.now in
    let tuple = arguments_at n (length premises + 1) c.args.tuple in
    let i = c.loop-place.place in
    let pair = c.index-premises-place.result in
    let others : c.complement-others.result ≡ complement n (slice_index tuple i ∷ []) = c.complement-others.ensures ∙ ap (complement n) c.value_of_tuple.ensures in
    let left : c.add.new.self ≡ added n c.loop-place.goal pair.left (complement n (slice_index tuple i ∷ [])) = c.in_ok-add.ensures.ok ∙ (λ k. added n c.loop-place.goal (c.in_ok-copy_formula.ensures k) (others k)) in
    let both : c.add-in-loop-place.new.self ≡ added n (added n c.loop-place.goal pair.left (complement n (slice_index tuple i ∷ []))) pair.right (complement n (slice_index tuple i ∷ [])) =
    c.in_ok-add-2.ensures.ok ∙ (λ k. added n (left k) (c.in_ok-copy_formula-2.ensures k) (others k)) in
    c.loop-place.invariant
    ∙ ap (fold (with_signed n) c.loop-place.goal) (one_more n premises tuple i pair c.loop-place-test.true (omega (arith, c.loop-place-test.true, length-arguments_at n (length premises + 1) c.args.tuple)) c.index-premises-place.is)
    ∙ ap (λ sequent. fold (with_signed n) sequent (flat_map (premise_items n) (zip (drop (i + 1) premises) (drop (i + 1) tuple)))) (sym both)
