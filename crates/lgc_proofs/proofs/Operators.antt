-- How many operators occur in sequents.
use Rattle.std.proofs.Common.{◌≡◌, ◌≢◌, ℕ, zero, suc, ◌+◌, ◌<◌, ◌≤◌, Bool, true, false, cond, List, [], ◌∷◌, length, map, get_or, refl, sym, ◌∙◌, ap, subst, arith}
use Rattle.std.specs.Prelude.{All, AllPairs, Contains, IsPermutation}
use Rattle.std.specs.List.{sum_by, list_all, remove}
use Rattle.std.proofs.lemmas.Bool.{and_parts, true≢false}
use Rattle.std.proofs.lemmas.List.Elements.{All-nil, All-cons, All-head, All-tail, All-map}
use Rattle.std.proofs.lemmas.List.Kept.{AllPairs-cons}
use Rattle.std.proofs.lemmas.List.Sorted.{Contains-permutation, IsPermutation-remove, sum_by_popped}
use Rattle.std.proofs.lemmas.List.Sums.{sum_by-cons}
use Rattle.lgc_values.specs.Values.{has}
use Rattle.lgc_syntax.specs.declared.formula.Formula.{Formula, Op}
use Rattle.lgc_syntax.specs.Equality.{same_formula}
use Rattle.lgc_syntax.specs.Sizes as syntax
use Rattle.lgc_syntax.proofs.EqualityLaws.{same_formula-Decides}
use Rattle.lgc_syntax.proofs.SizeLaws.{operators-Op}
use Rattle.lgc_sequents.specs.Signed.{SignedFormula}
use Rattle.lgc_sequents.specs.Sequents.{IsSign, sign_in, is_included}
use Rattle.lgc_sequents.proofs.Laws.{list_all-has}
use Rattle.lgc_numbering.specs.declared.node.Node.{Node}
use Rattle.lgc_numbering.specs.declared.node.Node.TheVariants.{Compound}
use Rattle.lgc_numbering.specs.Numbering.{formula_at, IsNumbering, AreNodesOf}
use Rattle.lgc_numbering.proofs.NumberingLaws.{formula_at-node, one_number}
use Rattle.lgc_packed.specs.Packed.{IsPacked, total, weight_of, unpacked}
use Rattle.lgc_packed.specs.Packing.{AreKnown}
use Rattle.lgc_packed.proofs.Rising.{some_member}
use Rattle.lgc_lemmas.specs.Citations.{FallsAtArguments}
use Rattle.lgc_proofs.specs.Found.{operators}

-- ---- numbered formulas

-- how many operators the formula with a number has
abbrev pub operators_at : List Formula → ℕ → ℕ
operators_at formulas k = syntax.operators (formula_at formulas k)

pub operators-unpacked : (formulas : List Formula) (pairs : List (ℕ × List ℕ)) → operators (unpacked formulas pairs) ≡ weight_of (operators_at formulas) pairs
operators-unpacked formulas [] = refl
operators-unpacked formulas (pair ∷ pairs) =
    sum_by-cons (λ (item : SignedFormula). syntax.operators item.formula) (record { formula = formula_at formulas pair.0; sign = pair.1 }) (unpacked formulas pairs)
    ∙ ap (λ n. operators_at formulas pair.0 + n) (operators-unpacked formulas pairs)

total-operators : (formulas : List Formula) (numbers : List ℕ) → sum_by syntax.operators (map (formula_at formulas) numbers) ≡ total (operators_at formulas) numbers
total-operators formulas [] = refl
total-operators formulas (k ∷ numbers) =
    sum_by-cons syntax.operators (formula_at formulas k) (map (formula_at formulas) numbers) ∙ ap (λ n. operators_at formulas k + n) (total-operators formulas numbers)

-- a compound has more operators than its arguments have together
pub operators_fall : (formulas : List Formula) (nodes : List Node) → AreNodesOf formulas nodes → FallsAtArguments nodes (operators_at formulas)
operators_fall formulas nodes are k op arguments compound =
    let is : formula_at formulas k ≡ Op op (map (formula_at formulas) arguments) = formula_at-node formulas nodes k (Compound op arguments) are compound in
    omega (arith, ap syntax.operators is, operators-Op op (map (formula_at formulas) arguments), total-operators formulas arguments)

-- ---- a sequent has at most the operators that one has that includes it

-- a sum over items of which none stands twice is at most the one over a list that has them all
module _ {X : Type 0} (f : X → ℕ) where
  others_left : (x : X) (xs left : List X) → All (λ y. x ≢ y) xs → All (Contains (x ∷ left)) xs → All (Contains left) xs
  others_left x xs left differ there i d l = let at = there i d l in by at.0 at.1 at.2
    where
      by : (k : ℕ) → k < length (x ∷ left) → get_or (x ∷ left) k (get_or xs i d) ≡ get_or xs i d → Contains left (get_or xs i d)
      by zero within is = absurd (differ i d l is)
      by (suc k) within is = (k, omega (arith, within), is)

  sum_by-distinct : (xs ys : List X) → AllPairs (λ a b. a ≢ b) xs → All (Contains ys) xs → sum_by f xs ≤ sum_by f ys
  sum_by-distinct [] ys distinct there = omega arith
  sum_by-distinct (x ∷ xs) ys distinct there =
      let at = All-head (Contains ys) x xs there in
      let left = remove ys at.0 in
      let moved : IsPermutation ys (x ∷ left) = IsPermutation-remove ys at.0 x at.1 (sym at.2) in
      let rest = sum_by-distinct xs left (λ i j d lt within. distinct (suc i) (suc j) d (omega (arith, lt)) (omega (arith, within)))
      (others_left x xs left (λ j d l. distinct 0 (suc j) d (omega arith) (omega (arith, l))) (λ i d l. Contains-permutation ys (x ∷ left) (get_or xs i d) moved (All-tail (Contains ys) x xs there i d l))) in
      omega (arith, sum_by-cons f x xs, sum_by_popped f x ys left moved, rest)

-- a formula with a value in its sign occurs
pub sign_occurs : (items : List SignedFormula) (f : Formula) (v : ℕ) → has (sign_in items f) v ≡ true → Contains (map (λ item. item.formula) items) f
sign_occurs [] f v member = absurd (true≢false (sym member))
sign_occurs (x ∷ xs) f v member = by (same_formula f x.formula) refl member (sign_occurs xs f v)
  where
    by : (b : Bool) → same_formula f x.formula ≡ b → has (cond b x.sign (sign_in xs f)) v ≡ true → (has (sign_in xs f) v ≡ true → Contains (map (λ item. item.formula) xs) f) → Contains (map (λ item. item.formula) (x ∷ xs)) f
    by true same here later = (0, omega arith, sym ((same_formula-Decides f x.formula).0 same))
    by false same there later = let found = later there in (suc found.0, omega (arith, found.1), found.2)

module _ (n : ℕ) (formulas : List Formula) (numbering : IsNumbering formulas) where
  included_occurs : (pairs : List (ℕ × List ℕ)) (others : List SignedFormula) → All (λ pair. IsSign n pair.1) pairs → is_included (unpacked formulas pairs) others ≡ true → All (Contains (map (λ item. item.formula) others)) (map (λ pair. formula_at formulas pair.0) pairs)
  included_occurs [] others signs included = All-nil (Contains (map (λ item. item.formula) others))
  included_occurs (x ∷ xs) others signs included =
      let f = formula_at formulas x.0 in
      let parts = and_parts (list_all (has (sign_in others f)) x.1) (is_included (unpacked formulas xs) others) included in
      let member = some_member n x.1 (All-head (λ pair. IsSign n pair.1) x xs signs) in
      All-cons (Contains (map (λ item. item.formula) others)) f (map (λ pair. formula_at formulas pair.0) xs) (sign_occurs others f member.0 (list_all-has (has (sign_in others f)) x.1 member.0 parts.0 member.2))
      (included_occurs xs others (All-tail (λ pair. IsSign n pair.1) x xs signs) parts.1)

  distinct_formulas : (pairs : List (ℕ × List ℕ)) → AllPairs (λ a b. a.0 < b.0) pairs → AreKnown formulas pairs → AllPairs (λ a b. a ≢ b) (map (λ pair. formula_at formulas pair.0) pairs)
  distinct_formulas [] rising known = λ i j d lt within. absurd (omega (arith, within))
  distinct_formulas (x ∷ xs) rising known =
      AllPairs-cons (λ a b. a ≢ b) (formula_at formulas x.0) (map (λ pair. formula_at formulas pair.0) xs)
      (All-map (λ f. formula_at formulas x.0 ≢ f) (λ pair. formula_at formulas pair.0) xs (λ j d l same.
      let above : x.0 < (get_or xs j d).0 = rising 0 (suc j) d (omega arith) (omega (arith, l)) in
      absurd (omega (arith, above, one_number formulas numbering.distinct x.0 (get_or xs j d).0 (All-head (λ pair. pair.0 < length formulas) x xs known) (All-tail (λ pair. pair.0 < length formulas) x xs known j d l) same))))
      (distinct_formulas xs (λ i j d lt within. rising (suc i) (suc j) d (omega (arith, lt)) (omega (arith, within))) (All-tail (λ pair. pair.0 < length formulas) x xs known))

  pub operators_included : (pairs : List (ℕ × List ℕ)) (others : List SignedFormula) → IsPacked n pairs → AreKnown formulas pairs → is_included (unpacked formulas pairs) others ≡ true → operators (unpacked formulas pairs) ≤ operators others
  operators_included pairs others packed known included =
      subst (λ a. a ≤ operators others) (sum_of_formulas pairs ∙ sym (operators-unpacked formulas pairs)) (subst (λ b. sum_by syntax.operators (map (λ pair. formula_at formulas pair.0) pairs) ≤ b) (items_sum others)
      (sum_by-distinct syntax.operators (map (λ pair. formula_at formulas pair.0) pairs) (map (λ item. item.formula) others) (distinct_formulas pairs packed.rising known) (included_occurs pairs others packed.signs included)))
    where
      sum_of_formulas : (xs : List (ℕ × List ℕ)) → sum_by syntax.operators (map (λ pair. formula_at formulas pair.0) xs) ≡ weight_of (operators_at formulas) xs
      sum_of_formulas [] = refl
      sum_of_formulas (x ∷ xs) = sum_by-cons syntax.operators (formula_at formulas x.0) (map (λ pair. formula_at formulas pair.0) xs) ∙ ap (λ m. operators_at formulas x.0 + m) (sum_of_formulas xs)

      items_sum : (items : List SignedFormula) → sum_by syntax.operators (map (λ item. item.formula) items) ≡ operators items
      items_sum [] = refl
      items_sum (x ∷ xs) =
          sum_by-cons syntax.operators x.formula (map (λ item. item.formula) xs) ∙ ap (λ m. syntax.operators x.formula + m) (items_sum xs) ∙ sym (sum_by-cons (λ (item : SignedFormula). syntax.operators item.formula) x xs)
