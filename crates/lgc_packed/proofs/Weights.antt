-- What a sequent weighs after signs are added.
use Rattle.std.proofs.Common.{◌≡◌, ◌≢◌, ℕ, zero, suc, ◌+◌, ◌<◌, ◌≤◌, Bool, true, false, ◌==◌, ◌&&◌, List, [], ◌∷◌, ◌++◌, length, get_or, slice_get, Some, refl, sym, ◌∙◌, ap, arith, if◌then◌else◌, ⊎_elim}
use Rattle.std.specs.Prelude.{All, nat_lt}
use Rattle.std.specs.List.{list_any, remove, zip}
use Rattle.std.proofs.lemmas.Bool.{eqb-true, and_parts, or_cases, or_left, or_right, true≢false}
use Rattle.std.proofs.lemmas.List.Elements.{All-head, All-tail}
use Rattle.std.proofs.lemmas.Option.{slice_get-get_or}
use Rattle.lgc_values.specs.Values.{has}
use Rattle.lgc_sequents.specs.Sequents.{union}
use Rattle.lgc_packed.specs.Packed.{IsPacked, IsIncluded, marks, joined, added, added_all, total, weight_of}
use Rattle.lgc_packed.proofs.Rising.{IsAbove, IsRising, rising_from, some_member}
use Rattle.lgc_packed.proofs.Marks.{marks-own}

module _ (weight : ℕ → ℕ) (n : ℕ) where
  by_place : (k : ℕ) (sign : List ℕ) (x : ℕ × List ℕ) (xs rest : List (ℕ × List ℕ)) → weight_of weight rest ≤ weight_of weight xs + weight k → (p q : Bool) → (x.0 == k) ≡ q
      → weight_of weight (if p then x ∷ rest else (if q then (k, union n x.1 sign) ∷ xs else (k, sign) ∷ x ∷ xs)) ≤ weight_of weight (x ∷ xs) + weight k
  by_place k sign x xs rest l true q e = omega (arith, l)
  by_place k sign x xs rest l false true e = omega (arith, ap weight (eqb-true x.0 k e))
  by_place k sign x xs rest l false false e = omega arith

  weight_of-joined : (k : ℕ) (sign : List ℕ) (xs : List (ℕ × List ℕ)) → weight_of weight (joined n k sign xs) ≤ weight_of weight xs + weight k
  weight_of-joined k sign [] = omega arith
  weight_of-joined k sign (x ∷ xs) = by_place k sign x xs (joined n k sign xs) (weight_of-joined k sign xs) (nat_lt x.0 k) (x.0 == k) refl

  pub weight_of-added : (k : ℕ) (sign : List ℕ) (xs : List (ℕ × List ℕ)) → weight_of weight (added n k sign xs) ≤ weight_of weight xs + weight k
  weight_of-added k [] xs = omega arith
  weight_of-added k (v ∷ sign) xs = weight_of-joined k (v ∷ sign) xs

  -- at most what the added formulas weigh
  pub weight_of-added_all : (others xs : List (ℕ × List ℕ)) → weight_of weight (added_all n others xs) ≤ weight_of weight xs + weight_of weight others
  weight_of-added_all [] xs = omega arith
  weight_of-added_all (x ∷ others) xs = omega (arith, weight_of-added_all others (added n x.0 x.1 xs), weight_of-added x.0 x.1 xs)

-- ---- a sequent weighs at most what one weighs that includes it

-- whether a number occurs
abbrev pub occurs : ℕ → List (ℕ × List ℕ) → Bool
occurs k xs = list_any (λ pair. pair.0 == k) xs

pub marked_occurs : (xs : List (ℕ × List ℕ)) (k w : ℕ) → marks xs k w ≡ true → occurs k xs ≡ true
marked_occurs [] k w m = m
marked_occurs (x ∷ xs) k w m = ⊎_elim
    (λ here. or_left (x.0 == k) (occurs k xs) (and_parts (x.0 == k) (has x.1 w) here).0)
    (λ later. or_right (x.0 == k) (occurs k xs) (marked_occurs xs k w later))
    (or_cases ((x.0 == k) && has x.1 w) (marks xs k w) m)

pub place_of : (xs : List (ℕ × List ℕ)) (k : ℕ) → occurs k xs ≡ true → (i : ℕ) × ((d : ℕ × List ℕ) × ((slice_get xs i ≡ Some d) × (d.0 ≡ k)))
place_of [] k there = absurd (true≢false (sym there))
place_of (x ∷ xs) k there = ⊎_elim
    (λ here. (0, (x, (refl, eqb-true x.0 k here))))
    (λ later. let found = place_of xs k later in (suc found.0, (found.1.0, (found.1.1.0, found.1.1.1))))
    (or_cases (x.0 == k) (occurs k xs) there)

occurs-remove : (xs : List (ℕ × List ℕ)) (i k : ℕ) (d : ℕ × List ℕ) → slice_get xs i ≡ Some d → d.0 ≢ k → occurs k xs ≡ true → occurs k (remove xs i) ≡ true
occurs-remove [] i k d here other there = cc
occurs-remove (x ∷ xs) zero k d here other there = ⊎_elim
    (λ this. let e : x ≡ d = cc in absurd (other (ap (λ (y : ℕ × List ℕ). y.0) (sym e) ∙ eqb-true x.0 k this)))
    (λ later. later)
    (or_cases (x.0 == k) (occurs k xs) there)
occurs-remove (x ∷ xs) (suc i) k d here other there = ⊎_elim
    (λ this. or_left (x.0 == k) (occurs k (remove xs i)) this)
    (λ later. or_right (x.0 == k) (occurs k (remove xs i)) (occurs-remove xs i k d here other later))
    (or_cases (x.0 == k) (occurs k xs) there)

-- without a pair, less the weight of its formula
pub weight_of-remove : (weight : ℕ → ℕ) (xs : List (ℕ × List ℕ)) (i : ℕ) (d : ℕ × List ℕ) → slice_get xs i ≡ Some d → weight_of weight xs ≡ weight_of weight (remove xs i) + weight d.0
weight_of-remove weight [] i d here = cc
weight_of-remove weight (x ∷ xs) zero d here = let e : x ≡ d = cc in omega (arith, ap (λ (y : ℕ × List ℕ). weight y.0) e)
weight_of-remove weight (x ∷ xs) (suc i) d here = omega (arith, weight_of-remove weight xs i d here)

by_occurrences : (weight : ℕ → ℕ) (xs ys : List (ℕ × List ℕ)) → IsRising xs → All (λ pair. occurs pair.0 ys ≡ true) xs → weight_of weight xs ≤ weight_of weight ys
by_occurrences weight [] ys rising all = omega arith
by_occurrences weight (x ∷ xs) ys rising all =
    let found = place_of ys x.0 (All-head (λ pair. occurs pair.0 ys ≡ true) x xs all) in
    let less = weight_of-remove weight ys found.0 found.1.0 found.1.1.0 in
    let same : weight found.1.0.0 ≡ weight x.0 = ap weight found.1.1.1 in
    omega (arith, less, same, by_occurrences weight xs (remove ys found.0) rising.1 (λ j d l. occurs-remove ys found.0 (get_or xs j d).0 found.1.0 found.1.1.0 (λ e. absurd (omega (arith, later xs rising.0 j d l, e, found.1.1.1))) (All-tail (λ pair. occurs pair.0 ys ≡ true) x xs all j d l)))
  where
    later : (zs : List (ℕ × List ℕ)) → IsAbove x.0 zs → (j : ℕ) (d : ℕ × List ℕ) → j < length zs → x.0 < (get_or zs j d).0
    later [] above j d l = absurd (omega (arith, l))
    later (z ∷ zs) above zero d l = above.0
    later (z ∷ zs) above (suc j) d l = later zs above.1 j d (omega (arith, l))

-- the other list need not be packed
pub weight_of-included : (weight : ℕ → ℕ) (n : ℕ) (xs ys : List (ℕ × List ℕ)) → IsPacked n xs → IsIncluded n xs ys → weight_of weight xs ≤ weight_of weight ys
weight_of-included weight n xs ys packed included = by_occurrences weight xs ys (rising_from xs packed.rising)
    (λ i d l. let member = some_member n (get_or xs i d).1 (packed.signs i d l) in
    marked_occurs ys (get_or xs i d).0 member.0 (included (get_or xs i d).0 member.0 member.1 (marks-own n xs i (get_or xs i d) member.0 packed (slice_get-get_or xs i d l) ∙ member.2)))

pub weight_of-append : (weight : ℕ → ℕ) (xs ys : List (ℕ × List ℕ)) → weight_of weight (xs ++ ys) ≡ weight_of weight xs + weight_of weight ys
weight_of-append weight [] ys = omega arith
weight_of-append weight (x ∷ xs) ys = omega (arith, weight_of-append weight xs ys)

-- a clause at arguments weighs at most what the arguments do
pub weight_of-zip : (weight : ℕ → ℕ) (arguments : List ℕ) (sets : List (List ℕ)) → weight_of weight (zip arguments sets) ≤ total weight arguments
weight_of-zip weight [] sets = omega arith
weight_of-zip weight (a ∷ arguments) [] = omega arith
weight_of-zip weight (a ∷ arguments) (s ∷ sets) = omega (arith, weight_of-zip weight arguments sets)
