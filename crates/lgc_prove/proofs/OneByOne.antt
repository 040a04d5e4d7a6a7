-- Lists whose items are taken from the front, one by one.
use Rattle.std.proofs.Common.{◌≡◌, ◌≢◌, ◌<◌, List, [], ◌∷◌, ◌++◌, length, refl, sym, ◌∙◌, ap, subst, arith}
use Rattle.std.specs.List.{All, AllPairs}
use Rattle.std.proofs.lemmas.List.{append_assoc, length-append, get_or_append_left, get_or_at}
use Rattle.std.proofs.lemmas.List.Elements.{All-head}
use Rattle.lgc_meaning.proofs.Parts.{All-right}

module _ {X : Type 0} (all taken : List X) where
  -- one item more is taken
  pub one_more_taken : (left rest : List X) (x : X) → taken ++ left ≡ all → left ≡ x ∷ rest → (taken ++ x ∷ []) ++ rest ≡ all
  one_more_taken left rest x so_far next = append_assoc taken (x ∷ []) rest ∙ ap (λ l. taken ++ l) (sym next) ∙ so_far

  -- what is true of each item is true of the next one
  pub next_item : (P : X → Type 0) (left rest : List X) (x : X) → taken ++ left ≡ all → left ≡ x ∷ rest → All P all → P x
  next_item P left rest x so_far next each = All-head P x rest (All-right P taken (x ∷ rest) (subst (All P) (sym (ap (λ l. taken ++ l) (sym next) ∙ so_far)) each))

  -- the next item differs from those before, where no two are the same
  pub next_differs : (left rest : List X) (x : X) → taken ++ left ≡ all → left ≡ x ∷ rest → AllPairs (λ a b. a ≢ b) all → All (λ y. y ≢ x) taken
  next_differs left rest x so_far next differ i d lt same =
      let whole : taken ++ x ∷ rest ≡ all = ap (λ l. taken ++ l) (sym next) ∙ so_far in
      let within : length taken < length (taken ++ x ∷ rest) = omega (arith, length-append taken (x ∷ rest)) in
      subst (AllPairs (λ a b. a ≢ b)) (sym whole) differ i (length taken) d lt within
      (get_or_append_left taken (x ∷ rest) d i lt ∙ same ∙ sym (get_or_at taken x rest d (length taken) refl))
