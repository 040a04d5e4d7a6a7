-- The pair at the place is the only one that may have the number.
use Rattle.std.proofs.Common.{◌≡◌, ◌<◌, ℕ, List, Some, slice_get, sym, ◌∙◌, ap, arith}
use Rattle.std.proofs.lemmas.Option.{slice_get_within, get_or_from_slice_get}
use Rattle.lgc_values.specs.Values.{has}
use Rattle.lgc_packed.proofs.InclusionLaws.{sign_there}
use Rattle.lgc_packed.proofs.Marks.{marks-none}
use Rattle.lgc_packed.proofs.inclusion.sign_at.Goals.{else-at-pairs-via-then-at-pairs+else-pairs-at, else-at-pairs-via-else-at-pairs}
use Rattle.lgc_packed.proofs.inclusion.sign_at.Goals as goal

pub returns-then-pairs-at : goal.returns-then-pairs-at
returns-then-pairs-at g c w l = sign_there g.row.N c.args.pairs.now c.args.at c.index-pairs-at.result c.index-pairs-at-then-pairs-at.result c.args.number w c.requires.packed c.if-at-pairs.true c.index-pairs-at.is c.index-pairs-at-then-pairs-at.is c.if-pairs-at.true

pub returns-else-at-pairs : goal.returns-else-at-pairs
returns-else-at-pairs g c w l =
    let xs : List (ℕ × List ℕ) = c.args.pairs.now in
    let after : (d : ℕ × List ℕ) → slice_get xs c.args.at ≡ Some d → c.args.number < d.0 = elim c.else-at-pairs.branch [
      | else-at-pairs-via-then-at-pairs+else-pairs-at u ↦ (λ d here. omega (arith, c.requires.from d here, u.if-pairs-at.false, ap (λ (pair : ℕ × List ℕ). pair.0) (get_or_from_slice_get xs c.args.at d u.index-pairs-at.result here)))
      | else-at-pairs-via-else-at-pairs u ↦ (λ d here. absurd (omega (arith, u.if-at-pairs.false, slice_get_within xs c.args.at d here)))
    ] in
    ap (λ set. has set w) c.empty.ensures ∙ sym (marks-none g.row.N xs c.args.at c.args.number w c.requires.packed c.requires.before after)
