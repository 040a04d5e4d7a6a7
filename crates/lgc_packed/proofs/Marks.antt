-- What stands on a formula after signs are added, and after a pair is taken away.
use Rattle.std.proofs.Common.{◌≡◌, ℕ, zero, suc, ◌<◌, Bool, true, false, ◌==◌, ◌||◌, ◌&&◌, not, List, [], ◌∷◌, ◌++◌, slice_get, Some, take, refl, sym, ◌∙◌, ap, subst, arith, if◌then◌else◌}
use Rattle.std.specs.Prelude.{All, nat_lt}
use Rattle.std.specs.List.{remove}
use Rattle.std.proofs.lemmas.Bool.{eqb-true, eq-eqb, ne_eqb, and_left, or_from, true≢false}
use Rattle.std.proofs.lemmas.List.Elements.{All-head, All-tail}
use Rattle.lgc_values.specs.Values.{has}
use Rattle.lgc_sequents.specs.Sequents.{union}
use Rattle.lgc_packed.specs.Packed.{marks, IsPacked, joined, added, added_all, marks_either}
use Rattle.lgc_packed.proofs.Rising.{IsAbove, IsRising, rising_from, above_above, has-union}

-- ---- Bool
or-false : (b : Bool) → b ≡ (b || false)
or-false true = refl
or-false false = refl

or_assoc : (a b c : Bool) → ((a || b) || c) ≡ (a || (b || c))
or_assoc true b c = refl
or_assoc false b c = refl

or_swap : (a b : Bool) → (a || b) ≡ (b || a)
or_swap true true = refl
or_swap true false = refl
or_swap false true = refl
or_swap false false = refl

or_turn : (a b c : Bool) → ((a || b) || c) ≡ ((a || c) || b)
or_turn true b c = refl
or_turn false b c = or_swap b c

and_or : (a b c : Bool) → (a && (b || c)) ≡ ((a && b) || (a && c))
and_or true b c = refl
and_or false b c = refl

and_false : (a : Bool) → (a && false) ≡ false
and_false true = refl
and_false false = refl

-- ---- added signs
module _ (n k : ℕ) (sign : List ℕ) (j w : ℕ) (below : w < n) where
  -- the pair stands before, at or behind the number
  by_place : (x : ℕ × List ℕ) (xs rest : List (ℕ × List ℕ)) → marks rest j w ≡ (marks xs j w || ((k == j) && has sign w)) → (p q : Bool) → (x.0 == k) ≡ q
      → marks (if p then x ∷ rest else (if q then (k, union n x.1 sign) ∷ xs else (k, sign) ∷ x ∷ xs)) j w ≡ (marks (x ∷ xs) j w || ((k == j) && has sign w))
  by_place x xs rest e true q h = ap (λ b. ((x.0 == j) && has x.1 w) || b) e ∙ sym (or_assoc ((x.0 == j) && has x.1 w) (marks xs j w) ((k == j) && has sign w))
  by_place x xs rest e false true h =
      ap (λ b. ((k == j) && b) || marks xs j w) (has-union n x.1 sign w below)
      ∙ ap (λ b. b || marks xs j w) (and_or (k == j) (has x.1 w) (has sign w))
      ∙ ap (λ i. (((i == j) && has x.1 w) || ((k == j) && has sign w)) || marks xs j w) (sym (eqb-true x.0 k h))
      ∙ or_turn ((x.0 == j) && has x.1 w) ((k == j) && has sign w) (marks xs j w)
  by_place x xs rest e false false h = or_swap ((k == j) && has sign w) (marks (x ∷ xs) j w)

  pub marks-joined : (xs : List (ℕ × List ℕ)) → marks (joined n k sign xs) j w ≡ (marks xs j w || ((k == j) && has sign w))
  marks-joined [] = or_swap ((k == j) && has sign w) false
  marks-joined (x ∷ xs) = by_place x xs (joined n k sign xs) (marks-joined xs) (nat_lt x.0 k) (x.0 == k) refl

pub marks-added : (n k : ℕ) (sign : List ℕ) (j w : ℕ) → w < n → (xs : List (ℕ × List ℕ)) → marks (added n k sign xs) j w ≡ (marks xs j w || ((k == j) && has sign w))
marks-added n k [] j w l xs = or-false (marks xs j w) ∙ ap (λ b. marks xs j w || b) (sym (and_false (k == j)))
marks-added n k (v ∷ sign) j w l xs = marks-joined n k (v ∷ sign) j w l xs

pub marks-added_all : (n : ℕ) (others xs : List (ℕ × List ℕ)) (j w : ℕ) → w < n → marks (added_all n others xs) j w ≡ marks_either xs others j w
marks-added_all n [] xs j w l = or-false (marks xs j w)
marks-added_all n (x ∷ others) xs j w l =
    marks-added_all n others (added n x.0 x.1 xs) j w l
    ∙ ap (λ b. b || marks others j w) (marks-added n x.0 x.1 j w l xs)
    ∙ or_assoc (marks xs j w) ((x.0 == j) && has x.1 w) (marks others j w)

-- ---- the pairs of a packed sequent
pub nothing_below : (k : ℕ) (xs : List (ℕ × List ℕ)) (w : ℕ) → IsAbove k xs → marks xs k w ≡ false
nothing_below k [] w above = refl
nothing_below k (x ∷ xs) w above = or_from ((x.0 == k) && has x.1 w) (marks xs k w) (and_left (x.0 == k) (has x.1 w) (ne_eqb x.0 k (λ e. absurd (omega (arith, e, above.0))))) (nothing_below k xs w above.1)

above_at : (k : ℕ) (xs : List (ℕ × List ℕ)) (i : ℕ) (d : ℕ × List ℕ) → IsAbove k xs → slice_get xs i ≡ Some d → k < d.0
above_at k [] i d above here = cc
above_at k (x ∷ xs) zero d above here = let e : x ≡ d = cc in subst (λ (y : ℕ × List ℕ). k < y.0) e above.0
above_at k (x ∷ xs) (suc i) d above here = above_at k xs i d above.1 here

own : (xs : List (ℕ × List ℕ)) (i : ℕ) (d : ℕ × List ℕ) (w : ℕ) → IsRising xs → slice_get xs i ≡ Some d → marks xs d.0 w ≡ has d.1 w
own [] i d w rising here = cc
own (x ∷ xs) zero d w rising here =
    let e : x ≡ d = cc in
    subst (λ (y : ℕ × List ℕ). marks (x ∷ xs) y.0 w ≡ has y.1 w) e (alone (x.0 == x.0) (has x.1 w) (marks xs x.0 w) (eq-eqb x.0 x.0 refl) (nothing_below x.0 xs w rising.0))
  where
    alone : (a b c : Bool) → a ≡ true → c ≡ false → ((a && b) || c) ≡ b
    alone true true c e f = refl
    alone true false c e f = f
    alone false b c e f = absurd (true≢false (sym e))
own (x ∷ xs) (suc i) d w rising here =
    let later = above_at x.0 xs i d rising.0 here in
    ap (λ b. (b && has x.1 w) || marks xs d.0 w) (ne_eqb x.0 d.0 (λ e. absurd (omega (arith, later, e)))) ∙ own xs i d w rising.1 here

-- the sign of a pair is all that stands on its formula
pub marks-own : (n : ℕ) (pairs : List (ℕ × List ℕ)) (i : ℕ) (d : ℕ × List ℕ) (w : ℕ) → IsPacked n pairs → slice_get pairs i ≡ Some d → marks pairs d.0 w ≡ has d.1 w
marks-own n pairs i d w packed here = own pairs i d w (rising_from pairs packed.rising) here

none : (k : ℕ) (xs : List (ℕ × List ℕ)) (i w : ℕ) → IsRising xs → All (λ pair. pair.0 < k) (take i xs) → ((d : ℕ × List ℕ) → slice_get xs i ≡ Some d → k < d.0) → marks xs k w ≡ false
none k [] i w rising before after = refl
none k (x ∷ xs) zero w rising before after = let l = after x refl in nothing_below k (x ∷ xs) w (l, above_above k x.0 xs l rising.0)
none k (x ∷ xs) (suc i) w rising before after =
    let l = All-head (λ pair. pair.0 < k) x (take i xs) before in
    ap (λ b. (b && has x.1 w) || marks xs k w) (ne_eqb x.0 k (λ e. absurd (omega (arith, l, e)))) ∙ none k xs i w rising.1 (All-tail (λ pair. pair.0 < k) x (take i xs) before) after

-- nothing stands on a formula whose number is between those of two pairs in turn
pub marks-none : (n : ℕ) (pairs : List (ℕ × List ℕ)) (i k w : ℕ) → IsPacked n pairs → All (λ pair. pair.0 < k) (take i pairs) → ((d : ℕ × List ℕ) → slice_get pairs i ≡ Some d → k < d.0) → marks pairs k w ≡ false
marks-none n pairs i k w packed before after = none k pairs i w (rising_from pairs packed.rising) before after

rest : (xs : List (ℕ × List ℕ)) (i : ℕ) (d : ℕ × List ℕ) (k w : ℕ) → IsRising xs → slice_get xs i ≡ Some d → marks (remove xs i) k w ≡ (marks xs k w && not (d.0 == k))
rest [] i d k w rising here = cc
rest (x ∷ xs) zero d k w rising here =
    let e : x ≡ d = cc in subst (λ (y : ℕ × List ℕ). marks xs k w ≡ (marks (x ∷ xs) k w && not (y.0 == k))) e (by (x.0 == k) refl)
  where
    none : (a b : Bool) → b ≡ false → b ≡ (a && false)
    none true b h = h
    none false b h = h

    whole : (b : Bool) → b ≡ (b && true)
    whole true = refl
    whole false = refl

    by : (t : Bool) → (x.0 == k) ≡ t → marks xs k w ≡ (((t && has x.1 w) || marks xs k w) && not t)
    by true h = none (has x.1 w || marks xs k w) (marks xs k w) (subst (λ (j : ℕ). marks xs j w ≡ false) (eqb-true x.0 k h) (nothing_below x.0 xs w rising.0))
    by false h = whole (marks xs k w)
rest (x ∷ xs) (suc i) d k w rising here =
    ap (λ b. ((x.0 == k) && has x.1 w) || b) (rest xs i d k w rising.1 here) ∙ by (x.0 == k) (d.0 == k) refl refl
  where
    whole : (a b : Bool) → (a || (b && true)) ≡ ((a || b) && true)
    whole true b = refl
    whole false b = refl

    by : (a b : Bool) → (x.0 == k) ≡ a → (d.0 == k) ≡ b → ((a && has x.1 w) || (marks xs k w && not b)) ≡ (((a && has x.1 w) || marks xs k w) && not b)
    by true true p q = absurd (omega (arith, eqb-true x.0 k p, eqb-true d.0 k q, above_at x.0 xs i d rising.0 here))
    by true false p q = whole (has x.1 w) (marks xs k w)
    by false b p q = refl

-- without a pair, nothing stands on its formula, and on each other one what stood there
pub marks-remove : (n : ℕ) (pairs : List (ℕ × List ℕ)) (i : ℕ) (d : ℕ × List ℕ) (k w : ℕ) → IsPacked n pairs → slice_get pairs i ≡ Some d → marks (remove pairs i) k w ≡ (marks pairs k w && not (d.0 == k))
marks-remove n pairs i d k w packed here = rest pairs i d k w (rising_from pairs packed.rising) here

pub marks-append : (xs ys : List (ℕ × List ℕ)) (k w : ℕ) → marks (xs ++ ys) k w ≡ marks_either xs ys k w
marks-append [] ys k w = refl
marks-append (x ∷ xs) ys k w = ap (λ b. ((x.0 == k) && has x.1 w) || b) (marks-append xs ys k w) ∙ sym (or_assoc ((x.0 == k) && has x.1 w) (marks xs k w) (marks ys k w))
