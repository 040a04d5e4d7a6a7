-- One lemma more.
use Rattle.std.proofs.Common.{◌≡◌, ◌+◌, ◌-◌, ℕ, true, Bool, List, length, sym, ◌∙◌, ap, subst, arith}
use Rattle.std.proofs.lemmas.List.{with_items_is}
use Rattle.lgc_proofs.specs.Writing.{is_marked, AreClosedFrom}
use Rattle.lgc_proofs.proofs.writing.needed_by.Goals as goal

pub loop-done-preserved : goal.loop-done-preserved
loop-done-preserved g c =
    let lemmas = c.args.lemmas.now in
    let place = c.args.place in
    let done = c.loop-done.done in
    let new = c.mark_cited.new.marks in
    let read : c.deref_mut.result.now ≡ c.loop-done.marks.items = c.deref_mut.ensures.value in
    let count : length new ≡ length c.loop-done.marks.items = c.mark_cited.auto.marks ∙ ap length read in
    let inv = c.loop-done.invariant in
    let all : length c.items-count.result.now ≡ length lemmas = ap length c.items-count.ensures in
    let at : ℕ = length c.items-count.result.now - 1 - done in
    let before : length lemmas - done ≡ at + 1 = omega (arith, c.loop-done-test.true, all) in
    let closed : AreClosedFrom at lemmas new = c.mark_cited.ensures.closed (subst (λ xs. AreClosedFrom (at + 1) lemmas xs) (sym read) (subst (λ n. AreClosedFrom n lemmas c.loop-done.marks.items) before inv.2)) in
    let after : at ≡ length lemmas - (done + 1) = omega (arith, all) in
    let P : List Bool → Type 0 = λ xs. (length xs ≡ length lemmas) × (is_marked xs place ≡ true) × AreClosedFrom (length lemmas - (done + 1)) lemmas xs in
    subst P (sym (with_items_is c.loop-done.marks new (omega (arith, count, c.loop-done.marks.ok.0))))
    (count ∙ inv.0, c.mark_cited.ensures.kept place (subst (λ xs. is_marked xs place ≡ true) (sym read) inv.1), subst (λ n. AreClosedFrom n lemmas new) after closed)
