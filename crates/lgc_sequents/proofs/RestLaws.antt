-- Laws of what lines rest on.
use Rattle.std.proofs.Common.{◌≡◌, ◌≢◌, ℕ, zero, suc, List, ◌++◌, subst}
use Rattle.std.specs.Prelude.{Some}
use Rattle.std.specs.List.{All}
use Rattle.std.proofs.lemmas.Option.{slice_get_within, get_or_from_slice_get}
use Rattle.lgc_sequents.specs.Lines.{PlainLine, at_position}
use Rattle.lgc_sequents.specs.Rests.{RestsOn, on_itself, on_cited, IsPendingBased}
use Rattle.lgc_sequents.specs.declared.line.Reason.TheVariants.{Pending}
use Rattle.lgc_sequents.proofs.StepLaws.{at_position_kept}

-- what is true of each is true of what stands at a position
pub All-at_position : {X : Type 0} (P : X → Type 0) (xs : List X) (position : ℕ) (x : X) → All P xs → at_position xs position ≡ Some x → P x
All-at_position P xs zero x all is = cc
All-at_position P xs (suc k) x all is = subst P (get_or_from_slice_get xs k x x is) (all k x (slice_get_within xs k x is))

-- where no line is pending, none rests on a pending one
pub none_pending : (lines : List PlainLine) (position : ℕ) → All (λ line. line.reason ≢ Pending) lines → IsPendingBased lines position → ⊥
none_pending lines position none based = All-at_position (λ line. line.reason ≢ Pending) lines based.other based.line none based.stands based.pending

-- a line still rests on what it rests on where lines are appended
pub rests_kept : (lines more : List PlainLine) (position other : ℕ) → RestsOn lines position other → RestsOn (lines ++ more) position other
rests_kept lines more _ _ (on_itself position) = on_itself position
rests_kept lines more _ _ (on_cited position earlier other line stands cites before rests) =
    on_cited position earlier other line (at_position_kept lines more position line stands) cites before (rests_kept lines more earlier other rests)

pub pending_based_kept : (lines more : List PlainLine) (position : ℕ) → IsPendingBased lines position → IsPendingBased (lines ++ more) position
pending_based_kept lines more position based = record {
  other = based.other;
  line = based.line;
  rests = rests_kept lines more position based.other based.rests;
  stands = at_position_kept lines more based.other based.line based.stands;
  pending = based.pending;
}
