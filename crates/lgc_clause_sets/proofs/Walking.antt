-- The definitions on the rest of a list.
use Rattle.std.proofs.Common.{◌≡◌, ◌≢◌, ℕ, zero, suc, ◌+◌, ◌-◌, ◌<◌, ◌≤◌, Bool, false, true, ◌||◌, ◌&&◌, List, [], ◌∷◌, ◌++◌, length, take, drop, get_or, refl, ap, sym, ◌∙◌, arith, add-one, min}
use Rattle.std.proofs.lemmas.Bool.{and_right}
use Rattle.std.proofs.lemmas.List.{append-nil, append_assoc, take_rest}
use Rattle.std.specs.List.{list_all}
use Rattle.lgc_values.specs.Values.{has}
use Rattle.lgc_sequents.specs.Sequents.{union}
use Rattle.lgc_clause_sets.specs.AtomClauses.{subsumes, joined}

-- clauses over different numbers of atoms don't subsume each other
pub subsumes-lengths : (a b : List (List ℕ)) → length a ≢ length b → subsumes a b ≡ false
subsumes-lengths [] [] h = absurd (h refl)
subsumes-lengths [] (y ∷ b) h = refl
subsumes-lengths (x ∷ a) [] h = refl
subsumes-lengths (x ∷ a) (y ∷ b) h = and_right (list_all (has y) x) (subsumes a b) (subsumes-lengths a b (λ e. h (ap suc e)))

subsumes-suc : (a b : List (List ℕ)) (i : ℕ) (d e : List ℕ) → i < length a → i < length b → subsumes (drop i a) (drop i b) ≡ (list_all (has (get_or b i e)) (get_or a i d) && subsumes (drop (suc i) a) (drop (suc i) b))
subsumes-suc [] b i d e lt lt' = absurd (omega arith)
subsumes-suc (x ∷ a) [] i d e lt lt' = absurd (omega arith)
subsumes-suc (x ∷ a) (y ∷ b) zero d e lt lt' = refl
subsumes-suc (x ∷ a) (y ∷ b) (suc i) d e lt lt' = subsumes-suc a b i d e (omega arith) (omega arith)

pub subsumes-drop : (a b : List (List ℕ)) (i : ℕ) (d e : List ℕ) → i < length a → i < length b → subsumes (drop i a) (drop i b) ≡ (list_all (has (get_or b i e)) (get_or a i d) && subsumes (drop (i + 1) a) (drop (i + 1) b))
subsumes-drop a b i d e lt lt' = rw add-one (subsumes-suc a b i d e lt lt')

drop_nil : (i : ℕ) → drop {A = List ℕ} i [] ≡ []
drop_nil zero = refl
drop_nil (suc i) = refl

pub subsumes-over : (a b : List (List ℕ)) (i : ℕ) → length a ≡ length b → length a ≤ i → subsumes (drop i a) (drop i b) ≡ true
subsumes-over [] [] i e le = rw (drop_nil i) refl
subsumes-over [] (y ∷ b) i e le = absurd (omega arith)
subsumes-over (x ∷ a) [] i e le = absurd (omega arith)
subsumes-over (x ∷ a) (y ∷ b) zero e le = absurd (omega arith)
subsumes-over (x ∷ a) (y ∷ b) (suc i) e le = subsumes-over a b i (omega (arith, e)) (omega arith)

-- joining, on the rest of the sets
joined-suc : (n : ℕ) (a b : List (List ℕ)) (i : ℕ) (d e : List ℕ) → i < length a → i < length b → joined n (drop i a) (drop i b) ≡ union n (get_or a i d) (get_or b i e) ∷ joined n (drop (suc i) a) (drop (suc i) b)
joined-suc n [] b i d e lt lt' = absurd (omega arith)
joined-suc n (x ∷ a) [] i d e lt lt' = absurd (omega arith)
joined-suc n (x ∷ a) (y ∷ b) zero d e lt lt' = refl
joined-suc n (x ∷ a) (y ∷ b) (suc i) d e lt lt' = joined-suc n a b i d e (omega arith) (omega arith)

pub joined-drop : (n : ℕ) (a b : List (List ℕ)) (i : ℕ) (d e : List ℕ) → i < length a → i < length b → joined n (drop i a) (drop i b) ≡ union n (get_or a i d) (get_or b i e) ∷ joined n (drop (i + 1) a) (drop (i + 1) b)
joined-drop n a b i d e lt lt' = rw add-one (joined-suc n a b i d e lt lt')

pub joined-over : (n : ℕ) (a b : List (List ℕ)) (i : ℕ) → i ≡ min (length a) (length b) → joined n (drop i a) (drop i b) ≡ drop i a ++ drop i b
joined-over n [] b zero e = refl
joined-over n [] b (suc i) e = absurd (omega arith)
joined-over n (x ∷ a) [] zero e = sym (append-nil (x ∷ a))
joined-over n (x ∷ a) [] (suc i) e = absurd (omega arith)
joined-over n (x ∷ a) (y ∷ b) zero e = absurd (omega arith)
joined-over n (x ∷ a) (y ∷ b) (suc i) e = joined-over n a b i (omega (arith, e))

pub ruleset walking_rules = (subsumes-lengths, subsumes-drop, subsumes-over, joined-drop, joined-over, append_assoc)

-- one more set is joined
pub joined_more : (n : ℕ) (a b : List (List ℕ)) (i : ℕ) (x y : List ℕ) (made : List (List ℕ)) (u : List ℕ) (more : List (List ℕ)) → i < length a → i < length b → x ≡ get_or a i x → y ≡ get_or b i y → u ≡ union n x y → more ≡ made ++ u ∷ []
    → joined n a b ≡ made ++ joined n (drop i a) (drop i b) → joined n a b ≡ more ++ joined n (drop (i + 1) a) (drop (i + 1) b)
joined_more n a b i x y made u more lt lt' at at' is pushed h =
    let step : joined n (drop i a) (drop i b) ≡ u ∷ joined n (drop (i + 1) a) (drop (i + 1) b) =
    joined-drop n a b i x y lt lt' ∙ ap (λ (set : List ℕ). set ∷ joined n (drop (i + 1) a) (drop (i + 1) b)) (sym (λ j. union n (at j) (at' j)) ∙ sym is) in
    h ∙ ap (λ (rest : List (List ℕ)). made ++ rest) step ∙ sym (append_assoc made (u ∷ []) (joined n (drop (i + 1) a) (drop (i + 1) b))) ∙ ap (λ (l : List (List ℕ)). l ++ joined n (drop (i + 1) a) (drop (i + 1) b)) (sym pushed)

-- then come the sets past the shorter clause
pub joined_end : (n : ℕ) (a b : List (List ℕ)) (i k : ℕ) (made first last result : List (List ℕ)) → k ≡ min (length a) (length b) → i ≡ k → first ≡ made ++ take (length a - k) (drop k a) → last ≡ first ++ take (length b - k) (drop k b) → result ≡ last → joined n a b ≡ made ++ joined n (drop i a) (drop i b) → result ≡ joined n a b
joined_end n a b i k made first last result e f p q is h =
    is ∙ q
    ∙ ap (λ (l : List (List ℕ)). l ++ take (length b - k) (drop k b)) p
    ∙ append_assoc made (take (length a - k) (drop k a)) (take (length b - k) (drop k b))
    ∙ (λ j. made ++ (take_rest a k j ++ take_rest b k j))
    ∙ ap (λ (l : List (List ℕ)). made ++ l) (sym (joined-over n a b k e))
    ∙ sym (h ∙ ap (λ m. made ++ joined n (drop m a) (drop m b)) f)
