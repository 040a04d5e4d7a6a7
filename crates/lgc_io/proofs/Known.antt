-- Bytes that a writer is known to hold, over several writes.
use Rattle.std.proofs.Common.{◌≡◌, ℕ, ◌-◌, List, [], ◌++◌, length, take, drop, ap, sym, ◌∙◌, None, Some, append_assoc, append-nil, take-append-drop}
use Rattle.std.proofs.lemmas.List.{take_rest}
use Rattle.std.specs.Prelude.{Option}
use Rattle.std.specs.Io.KnownBytes.{Appends, Keeps}

-- two writes are one of both pieces
pub appended_both : (a b c : Option (List ℕ)) (xs ys : List ℕ) → Appends a b xs → Appends b c ys → Appends a c (xs ++ ys)
appended_both None b c xs ys p q = tt
appended_both (Some x) None c xs ys p q = absurd p
appended_both (Some x) (Some y) None xs ys p q = absurd q
appended_both (Some x) (Some y) (Some z) xs ys p q = q ∙ ap (λ l. l ++ ys) p ∙ append_assoc x xs ys

-- a flush or a failed write adds nothing
pub appended_kept : (a b c : Option (List ℕ)) (xs : List ℕ) → Appends a b xs → Keeps b c → Appends a c xs
appended_kept None b c xs p q = tt
appended_kept (Some x) None c xs p q = absurd p
appended_kept (Some x) (Some y) None xs p q = absurd q
appended_kept (Some x) (Some y) (Some z) xs p q = q ∙ p

pub appended_none : (a : Option (List ℕ)) → Appends a a []
appended_none None = tt
appended_none (Some x) = sym (append-nil x)

-- the first n of the rest were taken too
pub split_later : (bytes taken rest : List ℕ) (n : ℕ) → bytes ≡ taken ++ rest → bytes ≡ (taken ++ take n rest) ++ take (length rest - n) (drop n rest)
split_later bytes taken rest n split = rw (take_rest rest n, append_assoc taken (take n rest) (drop n rest), take-append-drop n rest) split
