-- Clauses with smaller sets, and clauses with a value taken from a set.
use Rattle.std.proofs.Common.{◌≡◌, ℕ, zero, suc, ◌<◌, Bool, true, ◌==◌, not, List, [], ◌∷◌, length, refl, ap, sym, ◌∙◌, subst}
use Rattle.std.specs.Prelude.{filter}
use Rattle.std.proofs.lemmas.Bool.{and_parts, and_from, both_ways, eq-eqb}
use Rattle.std.proofs.lemmas.List.{get_or-set_same}
use Rattle.lgc_values.specs.Values.{has}
use Rattle.lgc_clauses.proofs.Changes.{has-filter}
use Rattle.lgc_clauses.specs.Irredundance.{set_at, sets_without}
use Rattle.lgc_derivation.specs.Parts.{IsWithin}

pub within_refl : (sets : List (List ℕ)) → IsWithin sets sets
within_refl [] = tt
within_refl (a ∷ rest) = ((λ v member. member), within_refl rest)

pub within_trans : (xs ys zs : List (List ℕ)) → IsWithin xs ys → IsWithin ys zs → IsWithin xs zs
within_trans [] [] zs h k = k
within_trans [] (y ∷ ys) zs h k = absurd h
within_trans (x ∷ xs) [] zs h k = absurd h
within_trans (x ∷ xs) (y ∷ ys) [] h k = absurd k
within_trans (x ∷ xs) (y ∷ ys) (z ∷ zs) h k = ((λ v member. k.0 v (h.0 v member)), within_trans xs ys zs h.1 k.1)

pub within_length : (xs ys : List (List ℕ)) → IsWithin xs ys → length xs ≡ length ys
within_length [] [] h = refl
within_length [] (y ∷ ys) h = absurd h
within_length (x ∷ xs) [] h = absurd h
within_length (x ∷ xs) (y ∷ ys) h = ap suc (within_length xs ys h.1)

pub within_at : (xs ys : List (List ℕ)) (j v : ℕ) → IsWithin xs ys → has (set_at xs j) v ≡ true → has (set_at ys j) v ≡ true
within_at [] [] j v h member = member
within_at [] (y ∷ ys) j v h member = absurd h
within_at (x ∷ xs) [] j v h member = absurd h
within_at (x ∷ xs) (y ∷ ys) zero v h member = h.0 v member
within_at (x ∷ xs) (y ∷ ys) (suc j) v h member = within_at xs ys j v h.1 member

-- a value is taken
kept_before : (test : ℕ → Bool) (xs : List ℕ) (v : ℕ) → has (filter test xs) v ≡ true → has xs v ≡ true
kept_before test xs v member = (and_parts (has xs v) (test v) (sym (has-filter test xs v) ∙ member)).0

kept_both : (test : ℕ → Bool) (xs ys : List ℕ) (v : ℕ) → (has xs v ≡ true → has ys v ≡ true) → has (filter test xs) v ≡ true → has (filter test ys) v ≡ true
kept_both test xs ys v inside member =
    let parts : (has xs v ≡ true) × (test v ≡ true) = and_parts (has xs v) (test v) (sym (has-filter test xs v) ∙ member) in
    has-filter test ys v ∙ and_from (has ys v) (test v) (inside parts.0) parts.1

pub within_without : (sets : List (List ℕ)) (j v : ℕ) → IsWithin (sets_without sets j v) sets
within_without [] j v = tt
within_without (a ∷ rest) zero v = ((λ w member. kept_before (λ u. not (u == v)) a w member), within_refl rest)
within_without (a ∷ rest) (suc j) v = ((λ w member. member), within_without rest j v)

pub within_both : (xs ys : List (List ℕ)) (j v : ℕ) → IsWithin xs ys → IsWithin (sets_without xs j v) (sets_without ys j v)
within_both [] [] j v h = tt
within_both [] (y ∷ ys) j v h = absurd h
within_both (x ∷ xs) [] j v h = absurd h
within_both (x ∷ xs) (y ∷ ys) zero v h = ((λ w member. kept_both (λ u. not (u == v)) x y w (h.0 w) member), h.1)
within_both (x ∷ xs) (y ∷ ys) (suc j) v h = (h.0, within_both xs ys j v h.1)

pub taken_is_gone : (sets : List (List ℕ)) (j v : ℕ) → j < length sets → has (set_at (sets_without sets j v) j) v ≡ true → ⊥
taken_is_gone sets j v lt member =
    let at : set_at (sets_without sets j v) j ≡ filter (λ w. not (w == v)) (set_at sets j) = get_or-set_same sets j (filter (λ w. not (w == v)) (set_at sets j)) [] lt in
    let parts = and_parts (has (set_at sets j) v) (not (v == v)) (sym (has-filter (λ w. not (w == v)) (set_at sets j) v) ∙ subst (λ (s : List ℕ). has s v ≡ true) at member) in
    both_ways (not (v == v)) (ap not (eq-eqb v v refl)) parts.1
