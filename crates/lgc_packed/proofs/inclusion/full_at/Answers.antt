-- The formula at the place has a full sign.
use Rattle.std.proofs.Common.{ℕ, List, slice_get, sym, ◌∙◌, ap}
use Rattle.std.proofs.lemmas.Option.{slice_get-get_or}
use Rattle.lgc_packed.proofs.inclusion.full_at.Goals as goal

pub returns-then-has_all : goal.returns-then-has_all
returns-then-has_all g c = record {
  number = _;
  sign = _;
  is = ap (λ (xs : List (ℕ × List ℕ)). slice_get xs c.loop-i.i) (sym c.pairs-pairs.ensures.pairs) ∙ slice_get-get_or c.pairs-pairs.result.now c.loop-i.i c.index-pairs-i.result c.loop-i-test.true;
  full = sym c.has_all.ensures ∙ c.if-has_all.true;
}
