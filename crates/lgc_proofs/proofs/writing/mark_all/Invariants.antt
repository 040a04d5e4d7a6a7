-- The places so far are marked.
use Rattle.std.proofs.Common.{◌≡◌, ◌≢◌, ℕ, true, length, take}
use Rattle.std.specs.Prelude.{All}
use Rattle.lgc_proofs.specs.Writing.{is_marked}
use Rattle.lgc_proofs.proofs.writing.mark_all.Given as goal

abbrev pub invariant-loop-place : goal.invariant-loop-place
invariant-loop-place l =
    (length l.marks ≡ length l.fn.marks)
    × All (λ place. is_marked l.marks place ≡ true) (take l.place-index l.places)
    × ((other : ℕ) → is_marked l.fn.marks other ≡ true → is_marked l.marks other ≡ true)
    × ((other : ℕ) → All (λ place. place ≢ other) l.places → is_marked l.marks other ≡ is_marked l.fn.marks other)
