-- One pair more is included, or it isn't and the sequent isn't either.
use Rattle.std.proofs.Common.{ℕ, List, length, refl, sym, ◌∙◌, subst}
use Rattle.std.proofs.lemmas.Bool.{true≢false}
use Rattle.std.proofs.lemmas.Option.{slice_get_read}
use Rattle.lgc_sequents.specs.Sequents.{IsSign}
use Rattle.lgc_packed.specs.Packed.{IsPacked, IsIncluded}
use Rattle.lgc_packed.proofs.InclusionLaws.{pair_included, pair_within, included_more, included_one, below_next}
use Rattle.lgc_packed.proofs.inclusion.included_in.Goals as goal

pub returns-then-not-is_subset : goal.returns-then-not-is_subset
returns-then-not-is_subset g c = (
  λ wrong. absurd (true≢false (sym wrong)),
  λ included.
      let n = g.row.N in
      let xs : List (ℕ × List ℕ) = c.pairs-pair-items.result.now in
      let d : ℕ × List ℕ = c.pair-item.result in
      let here = slice_get_read xs (length xs) c.loop-pair.pair-index d refl c.loop-pair-test.true c.pair-item.is in
      let included_here = subst (λ (ys : List (ℕ × List ℕ)). IsIncluded n ys c.pairs-others.result.now) (sym c.pairs-pair-items.ensures.pairs) (subst (λ (ys : List (ℕ × List ℕ)). IsIncluded n c.args.packed.now ys) (sym c.pairs-others.ensures.pairs) included) in
      let packed = subst (IsPacked n) (sym c.pairs-pair-items.ensures.pairs) c.pairs-pair-items.ensures.packed in
      let is = subst (λ (pair : ℕ × List ℕ). IsSign n pair.1) (sym c.pair-item.is) (packed.signs c.loop-pair.pair-index d c.loop-pair-test.true) in
      sym c.if-not-is_subset.true ∙ c.is_subset.ensures ∙ pair_within n d.0 d.1 c.sign_at.result c.pairs-others.result.now is c.sign_at.ensures (included_one n xs c.pairs-others.result.now c.loop-pair.pair-index d here included_here),
)

pub loop-pair-preserved : goal.loop-pair-preserved
loop-pair-preserved g c =
    let n = g.row.N in
    let xs : List (ℕ × List ℕ) = c.pairs-pair-items.result.now in
    let others : List (ℕ × List ℕ) = c.pairs-others.result.now in
    let i = c.loop-pair.pair-index in
    let d : ℕ × List ℕ = c.pair-item.result in
    let packed = subst (IsPacked n) (sym c.pairs-pair-items.ensures.pairs) c.pairs-pair-items.ensures.packed in
    let is = subst (λ (pair : ℕ × List ℕ). IsSign n pair.1) (sym c.pair-item.is) (packed.signs i d c.loop-pair-test.true) in (
      c.place_from-at.ensures.within,
      (λ next there. below_next n xs others i c.place_from-at.result d next packed c.loop-pair-test.true c.pair-item.is there c.place_from-at.ensures.before),
      included_more n xs others i d c.loop-pair-test.true c.pair-item.is (pair_included n d.0 d.1 c.sign_at.result others is c.sign_at.ensures (sym c.is_subset.ensures ∙ c.if-not-is_subset.false)) c.loop-pair.invariant.2,
    )
