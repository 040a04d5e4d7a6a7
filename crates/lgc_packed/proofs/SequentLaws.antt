-- Inclusion of sequents over numbers is inclusion of the sequents.
use Rattle.std.proofs.Common.{⊎_elim, ℕ, suc, ◌≡◌, ◌≢◌, ◌<◌, ◌==◌, ◌||◌, ◌&&◌, Bool, true, false, cond, List, [], ◌∷◌, length, refl, sym, ap, subst, ◌∙◌, arith}
use Rattle.std.specs.Prelude.{nat_lt}
use Rattle.std.specs.List.{All, AllPairs, list_any, list_all}
use Rattle.std.proofs.lemmas.Bool.{and_parts, or_cases, or_left, or_right, eqb-true, eq-eqb, ltb-true}
use Rattle.std.proofs.lemmas.List.Elements.{All-head, All-tail}
use Rattle.std.proofs.lemmas.List.Sorted.{IsPermutation-refl, list_any-IsPermutation}
use Rattle.lgc_values.specs.Values.{has}
use Rattle.lgc_values.proofs.ValueLaws.{has-values_where}
use Rattle.lgc_syntax.specs.declared.formula.Formula.{Formula}
use Rattle.lgc_syntax.specs.Equality.{same_formula}
use Rattle.lgc_syntax.proofs.EqualityLaws.{same_formula-Decides}
use Rattle.lgc_sequents.specs.Signed.{SignedFormula}
use Rattle.lgc_sequents.specs.Sequents.{IsSign, IsSequent, sign_in, is_included}
use Rattle.lgc_numbering.specs.Numbering.{formula_at, IsNumbering}
use Rattle.lgc_numbering.proofs.NumberingLaws.{one_number}
use Rattle.lgc_packed.specs.Packed.{IsPacked, IsIncluded, marks, unpacked}
use Rattle.lgc_packed.specs.Packing.{AreKnown, IsPackOf}
use Rattle.lgc_packed.proofs.PackLaws.{differs}

-- whether the value w stands on the formula f
abbrev pub stands_on : List SignedFormula → Formula → ℕ → Bool
stands_on items f w = list_any (λ item. same_formula f item.formula && has item.sign w) items

-- ---- inclusion by what stands on formulas

-- what stands in the first sign of a formula stands on it
sign_step : (item : SignedFormula) (items : List SignedFormula) (f : Formula) (w : ℕ) (b : Bool) → same_formula f item.formula ≡ b → (has (sign_in items f) w ≡ true → stands_on items f w ≡ true)
    → has (cond b item.sign (sign_in items f)) w ≡ true → ((b && has item.sign w) || stands_on items f w) ≡ true
sign_step item items f w true is after member = or_left (has item.sign w) (stands_on items f w) member
sign_step item items f w false is after member = after member

sign_stands : (items : List SignedFormula) (f : Formula) (w : ℕ) → has (sign_in items f) w ≡ true → stands_on items f w ≡ true
sign_stands [] f w member = member
sign_stands (item ∷ items) f w member =
    ap (λ b. (b && has item.sign w) || stands_on items f w) refl ∙ sign_step item items f w (same_formula f item.formula) refl (sign_stands items f w) member

-- where no formula stands twice, what stands on a formula stands in its sign
none_stands : (items : List SignedFormula) (f : Formula) (w : ℕ) → All (λ item. f ≢ item.formula) items → stands_on items f w ≡ false
none_stands [] f w apart = refl
none_stands (item ∷ items) f w apart =
    ap (λ b. (b && has item.sign w) || stands_on items f w) (differs f item.formula (All-head (λ x. f ≢ x.formula) item items apart)) ∙ none_stands items f w (All-tail (λ x. f ≢ x.formula) item items apart)

stands_step : (item : SignedFormula) (items : List SignedFormula) (f : Formula) (w : ℕ) (b : Bool) → same_formula f item.formula ≡ b → All (λ x. item.formula ≢ x.formula) items → (stands_on items f w ≡ true → has (sign_in items f) w ≡ true)
    → ((b && has item.sign w) || stands_on items f w) ≡ true → has (cond b item.sign (sign_in items f)) w ≡ true
stands_step item items f w true is apart after stands =
    let same : f ≡ item.formula = (same_formula-Decides f item.formula).0 is in
    let none : stands_on items f w ≡ false = none_stands items f w (subst (λ g. All (λ x. g ≢ x.formula) items) (sym same) apart) in
    ⊎_elim (λ here. here) (λ later. let wrong : false ≡ true = sym none ∙ later in cc) (or_cases (has item.sign w) (stands_on items f w) stands)
stands_step item items f w false is apart after stands = after stands

stands_sign : (items : List SignedFormula) (f : Formula) (w : ℕ) → AllPairs (λ a b. a.formula ≢ b.formula) items → stands_on items f w ≡ true → has (sign_in items f) w ≡ true
stands_sign [] f w distinct stands = stands
stands_sign (item ∷ items) f w distinct stands =
    stands_step item items f w (same_formula f item.formula) refl (λ i d lt. distinct 0 (suc i) d (omega arith) (omega (arith, lt))) (stands_sign items f w (λ i j d lt within. distinct (suc i) (suc j) d (omega (arith, lt)) (omega (arith, within)))) stands

each_value : (test : ℕ → Bool) (sign : List ℕ) → ((w : ℕ) → has sign w ≡ true → test w ≡ true) → list_all test sign ≡ true
each_value test [] each = refl
each_value test (v ∷ sign) each =
    let here = each v (or_left' v sign) in
    ap (λ b. b && list_all test sign) here ∙ each_value test sign (λ w member. each w (or_right (v == w) (has sign w) member))
  where
    or_left' : (v : ℕ) (sign : List ℕ) → has (v ∷ sign) v ≡ true
    or_left' v sign = or_left (v == v) (has sign v) (eq-eqb v v refl)

value_of_all : (test : ℕ → Bool) (sign : List ℕ) (w : ℕ) → list_all test sign ≡ true → has sign w ≡ true → test w ≡ true
value_of_all test [] w all member = cc
value_of_all test (v ∷ sign) w all member =
    let parts = and_parts (test v) (list_all test sign) all in
    ⊎_elim (λ here. ap test (sym (eqb-true v w here)) ∙ parts.0) (λ later. value_of_all test sign w parts.1 later) (or_cases (v == w) (has sign w) member)

-- an included sequent's values stand in the other
pub stands_included : (items others : List SignedFormula) (f : Formula) (w : ℕ) → is_included items others ≡ true → stands_on items f w ≡ true → stands_on others f w ≡ true
stands_included [] others f w included stands = cc
stands_included (item ∷ items) others f w included stands =
    let parts = and_parts (list_all (has (sign_in others item.formula)) item.sign) (is_included items others) included in
    ⊎_elim
    (λ here. let both = and_parts (same_formula f item.formula) (has item.sign w) here in
    let member = value_of_all (has (sign_in others item.formula)) item.sign w parts.0 both.1 in
    sign_stands others f w (ap (λ g. has (sign_in others g) w) ((same_formula-Decides f item.formula).0 both.0) ∙ member))
    (λ later. stands_included items others f w parts.1 later)
    (or_cases (same_formula f item.formula && has item.sign w) (stands_on items f w) stands)

-- and conversely, where no formula stands twice in the other
pub included_stands : (items others : List SignedFormula) → AllPairs (λ a b. a.formula ≢ b.formula) others → ((f : Formula) (w : ℕ) → stands_on items f w ≡ true → stands_on others f w ≡ true) → is_included items others ≡ true
included_stands [] others distinct follows = refl
included_stands (item ∷ items) others distinct follows =
    let here = each_value (has (sign_in others item.formula)) item.sign (λ w member.
    stands_sign others item.formula w distinct (follows item.formula w (or_left (same_formula item.formula item.formula && has item.sign w) (stands_on items item.formula w)
    (ap (λ b. b && has item.sign w) ((same_formula-Decides item.formula item.formula).1 refl) ∙ member)))) in
    ap (λ b. b && is_included items others) here ∙ included_stands items others distinct (λ f w stands. follows f w (or_right (same_formula f item.formula && has item.sign w) (stands_on items f w) stands))

-- ---- by numbers

pub same_number : (formulas : List Formula) → AllPairs (λ a b. a ≢ b) formulas → (j k : ℕ) → j < length formulas → k < length formulas → same_formula (formula_at formulas k) (formula_at formulas j) ≡ (j == k)
same_number formulas distinct j k j_in k_in = by (j == k) refl where
  by : (b : Bool) → (j == k) ≡ b → same_formula (formula_at formulas k) (formula_at formulas j) ≡ b
  by true is = (same_formula-Decides (formula_at formulas k) (formula_at formulas j)).1 (ap (formula_at formulas) (sym (eqb-true j k is)))
  by false is = differs (formula_at formulas k) (formula_at formulas j) (λ same. let wrong : true ≡ false = sym (eq-eqb j k (one_number formulas distinct j k j_in k_in (sym same))) ∙ is in cc)

-- what stands on a formula stands on its number
pub stands_on-unpacked : (formulas : List Formula) (pairs : List (ℕ × List ℕ)) (k w : ℕ) → IsNumbering formulas → AreKnown formulas pairs → k < length formulas → stands_on (unpacked formulas pairs) (formula_at formulas k) w ≡ marks pairs k w
stands_on-unpacked formulas [] k w numbering known lt = refl
stands_on-unpacked formulas (pair ∷ pairs) k w numbering known lt =
    λ i. (same_number formulas numbering.distinct pair.0 k (All-head (λ p. p.0 < length formulas) pair pairs known) lt i && has pair.1 w)
    || stands_on-unpacked formulas pairs k w numbering (All-tail (λ p. p.0 < length formulas) pair pairs known) lt i

-- a value stands on the formula of some pair
standing : (formulas : List Formula) (pairs : List (ℕ × List ℕ)) (f : Formula) (w : ℕ) → AreKnown formulas pairs → stands_on (unpacked formulas pairs) f w ≡ true → (k : ℕ) × (k < length formulas) × (f ≡ formula_at formulas k)
standing formulas [] f w known stands = cc
standing formulas (pair ∷ pairs) f w known stands =
    ⊎_elim
    (λ here. (pair.0, All-head (λ p. p.0 < length formulas) pair pairs known, (same_formula-Decides f (formula_at formulas pair.0)).0 (and_parts (same_formula f (formula_at formulas pair.0)) (has pair.1 w) here).0))
    (λ later. standing formulas pairs f w (All-tail (λ p. p.0 < length formulas) pair pairs known) later)
    (or_cases (same_formula f (formula_at formulas pair.0) && has pair.1 w) (stands_on (unpacked formulas pairs) f w) stands)

-- what stands on a number is a value below n
mark_below : (n : ℕ) (pairs : List (ℕ × List ℕ)) (k w : ℕ) → All (λ pair. IsSign n pair.1) pairs → marks pairs k w ≡ true → w < n
mark_below n [] k w signs mark = cc
mark_below n (pair ∷ pairs) k w signs mark =
    ⊎_elim
    (λ here. let member = (and_parts (pair.0 == k) (has pair.1 w) here).1 in
    let set = (All-head (λ p. IsSign n p.1) pair pairs signs).set in
    ltb-true w n (and_parts (nat_lt w n) (has pair.1 w) (sym (ap (λ s. has s w) set ∙ has-values_where n (has pair.1) w) ∙ member)).0)
    (λ later. mark_below n pairs k w (All-tail (λ p. IsSign n p.1) pair pairs signs) later)
    (or_cases ((pair.0 == k) && has pair.1 w) (marks pairs k w) mark)

module _ (n : ℕ) (formulas : List Formula) (numbering : IsNumbering formulas) (items others : List SignedFormula) (pairs other_pairs : List (ℕ × List ℕ)) (is : IsPackOf formulas items pairs) (other_is : IsPackOf formulas others other_pairs) where
  on_number : (xs : List SignedFormula) (ps : List (ℕ × List ℕ)) → IsPackOf formulas xs ps → (k w : ℕ) → k < length formulas → stands_on xs (formula_at formulas k) w ≡ marks ps k w
  on_number xs ps pack k w lt =
      list_any-IsPermutation (λ item. same_formula (formula_at formulas k) item.formula && has item.sign w) xs (unpacked formulas ps) pack.same ∙ stands_on-unpacked formulas ps k w numbering pack.known lt

  -- where the pairs are included, the items are
  pub included_items : IsPacked n pairs → IsSequent n others → IsIncluded n pairs other_pairs → is_included items others ≡ true
  included_items packed sequent included = included_stands items others sequent.distinct (λ f w stands.
      let unpacked_stands = sym (list_any-IsPermutation (λ item. same_formula f item.formula && has item.sign w) items (unpacked formulas pairs) is.same) ∙ stands in
      let found = standing formulas pairs f w is.known unpacked_stands in
      let mark = sym (on_number items pairs is found.0 w found.1) ∙ ap (λ g. stands_on items g w) (sym found.2) ∙ stands in
      ap (λ g. stands_on others g w) found.2 ∙ on_number others other_pairs other_is found.0 w found.1 ∙ included found.0 w (mark_below n pairs found.0 w packed.signs mark) mark)

  marked : (ps : List (ℕ × List ℕ)) (k w : ℕ) → AreKnown formulas ps → marks ps k w ≡ true → k < length formulas
  marked [] k w known mark = cc
  marked (pair ∷ ps) k w known mark =
      ⊎_elim
      (λ here. subst (λ j. j < length formulas) (eqb-true pair.0 k (and_parts (pair.0 == k) (has pair.1 w) here).0) (All-head (λ p. p.0 < length formulas) pair ps known))
      (λ later. marked ps k w (All-tail (λ p. p.0 < length formulas) pair ps known) later)
      (or_cases ((pair.0 == k) && has pair.1 w) (marks ps k w) mark)

  -- and where the items are, the pairs are
  pub included_pairs : is_included items others ≡ true → IsIncluded n pairs other_pairs
  included_pairs included k w below mark =
      let lt = marked pairs k w is.known mark in
      sym (on_number others other_pairs other_is k w lt) ∙ stands_included items others (formula_at formulas k) w included (on_number items pairs is k w lt ∙ mark)

-- ---- pairs that are unpacked

pub pack_of-unpacked : (formulas : List Formula) (pairs : List (ℕ × List ℕ)) → AreKnown formulas pairs → IsPackOf formulas (unpacked formulas pairs) pairs
pack_of-unpacked formulas pairs known = record { known = known; same = IsPermutation-refl (unpacked formulas pairs) }
