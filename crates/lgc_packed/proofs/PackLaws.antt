-- Items that are packed one after the other, and pairs that are unpacked.
use Rattle.std.proofs.Common.{ℕ, ◌≡◌, ◌≢◌, ◌+◌, ◌<◌, ◌≤◌, ◌==◌, ◌||◌, Bool, true, false, List, [], ◌∷◌, ◌++◌, Some, length, take, get_or, slice_get, refl, sym, ap, subst, ◌∙◌, arith, if◌then◌else◌}
use Rattle.std.specs.Prelude.{IsPermutation, nat_lt}
use Rattle.std.specs.List.{All, AllPairs, Any, Contains}
use Rattle.std.proofs.lemmas.Bool.{eqb-true}
use Rattle.std.proofs.lemmas.List.{take_more, take_all, get_or_default, get_or-take, map-append, length-map, get_or-map, length-take}
use Rattle.std.proofs.lemmas.List.Elements.{All-head, All-tail, All-cons, All-map, Contains-get_or}
use Rattle.std.proofs.lemmas.List.Folds.{list_any_none}
use Rattle.std.proofs.lemmas.List.Sorted.{IsPermutation-refl, IsPermutation-sym, IsPermutation-cons, IsPermutation-middle, IsPermutation-trans, IsPermutation-map, IsPermutation-push_more, All-permutation, Contains-permutation, list_any-IsPermutation}
use Rattle.std.proofs.lemmas.Option.{slice_get_within}
use Rattle.lgc_values.specs.Values.{has}
use Rattle.lgc_syntax.specs.declared.formula.Formula.{Formula}
use Rattle.lgc_syntax.specs.Equality.{same_formula}
use Rattle.lgc_syntax.proofs.EqualityLaws.{same_formula-Decides}
use Rattle.lgc_sequents.specs.Signed.{SignedFormula}
use Rattle.lgc_sequents.specs.Sequents.{IsSign, IsSequent, union, occurs, is_true_at}
use Rattle.lgc_sequents.specs.Sequents as sequents
use Rattle.lgc_sequents.proofs.Laws as sequent_laws
use Rattle.lgc_numbering.specs.Numbering.{formula_at, IsNumbering}
use Rattle.lgc_syntax.specs.Subformulas.{IsSubformula}
use Rattle.lgc_numbering.specs.Growth.{IsGrownBy}
use Rattle.lgc_numbering.proofs.Lists.{map-alike}
use Rattle.lgc_numbering.proofs.NumberingLaws.{formula_at-is, formula_at-left, one_number}
use Rattle.lgc_numbering.proofs.GrowthLaws.{grown_as, grown_grown, grown_long}
use Rattle.lgc_packed.specs.Packed.{IsPacked, joined, added, is_true_of, unpacked}
use Rattle.lgc_packed.specs.Packing.{AreKnown, IsPackOf, IsTrueAs}
use Rattle.lgc_packed.proofs.Rising.{added-some}

-- the item of a pair
abbrev pub item_of : List Formula → ℕ × List ℕ → SignedFormula
item_of formulas pair = record { formula = formula_at formulas pair.0; sign = pair.1 }

-- ---- packing

swapped : {X : Type 0} (a b : X) (xs : List X) → IsPermutation (a ∷ b ∷ xs) (b ∷ a ∷ xs)
swapped a b xs = IsPermutation-middle (a ∷ []) b xs

joined_step : (n k : ℕ) (sign : List ℕ) (x : ℕ × List ℕ) (xs : List (ℕ × List ℕ)) → x.0 ≢ k → IsPermutation ((k, sign) ∷ xs) (joined n k sign xs) → (p q : Bool) → (x.0 == k) ≡ q
    → IsPermutation ((k, sign) ∷ x ∷ xs) (if p then x ∷ joined n k sign xs else (if q then (k, union n x.1 sign) ∷ xs else (k, sign) ∷ x ∷ xs))
joined_step n k sign x xs other after true q is = IsPermutation-trans ((k, sign) ∷ x ∷ xs) (x ∷ (k, sign) ∷ xs) (x ∷ joined n k sign xs) (swapped (k, sign) x xs) (IsPermutation-cons x ((k, sign) ∷ xs) (joined n k sign xs) after)
joined_step n k sign x xs other after false true is = absurd (other (eqb-true x.0 k is))
joined_step n k sign x xs other after false false is = IsPermutation-refl ((k, sign) ∷ x ∷ xs)

-- a new number's pair is put among the others
joined_new : (n k : ℕ) (sign : List ℕ) (pairs : List (ℕ × List ℕ)) → All (λ pair. pair.0 ≢ k) pairs → IsPermutation ((k, sign) ∷ pairs) (joined n k sign pairs)
joined_new n k sign [] others = IsPermutation-refl ((k, sign) ∷ [])
joined_new n k sign (x ∷ xs) others =
    joined_step n k sign x xs (All-head (λ pair. pair.0 ≢ k) x xs others) (joined_new n k sign xs (All-tail (λ pair. pair.0 ≢ k) x xs others)) (nat_lt x.0 k) (x.0 == k) refl

-- the numbers stay where more formulas stand behind
pub pack_grown : (P : Formula → Type 0) (old new : List Formula) (items : List SignedFormula) (pairs : List (ℕ × List ℕ)) → IsGrownBy P old new → IsPackOf old items pairs → IsPackOf new items pairs
pack_grown P old new items pairs more is = record {
  known = λ i d lt. let below = is.known i d lt in let long = grown_long P old new more in omega (arith, below, long);
  same = subst (IsPermutation items) (sym (map-alike (item_of new) (item_of old) pairs (λ i d lt. same_item (get_or pairs i d) (is.known i d lt)))) is.same;
} where
  same_item : (pair : ℕ × List ℕ) → pair.0 < length old → item_of new pair ≡ item_of old pair
  same_item pair lt = λ i. record { formula = (ap (λ fs. formula_at fs pair.0) more.is ∙ formula_at-left old more.added pair.0 lt) i; sign = pair.1 }

-- a formula that isn't among the items has none of the numbers
new_number : (formulas : List Formula) (items : List SignedFormula) (i : ℕ) (item : SignedFormula) (pairs : List (ℕ × List ℕ)) (k : ℕ) → AllPairs (λ a b. a.formula ≢ b.formula) items → i < length items → item ≡ get_or items i item
    → IsPackOf formulas (take i items) pairs → slice_get formulas k ≡ Some item.formula → All (λ pair. pair.0 ≢ k) pairs
new_number formulas items i item pairs k distinct lt read is at = λ j d j_lt same.
    let pair = get_or pairs j d in
    let u = item_of formulas pair in
    let there : Contains (unpacked formulas pairs) u = subst (Contains (unpacked formulas pairs)) (get_or-map (item_of formulas) pairs j d u j_lt) (Contains-get_or (unpacked formulas pairs) j u (subst (λ n. j < n) (sym (length-map pairs (item_of formulas))) j_lt)) in
    let among = Contains-permutation (unpacked formulas pairs) (take i items) u (IsPermutation-sym (take i items) (unpacked formulas pairs) is.same) there in
    let m = among.0 in
    let before : m < i = let long = length-take i items in let within = among.1 in omega (arith, long, within) in
    let found : get_or items m u ≡ u = sym (get_or-take i items m u before) ∙ among.2 in
    let formulas_same : u.formula ≡ item.formula = ap (formula_at formulas) same ∙ formula_at-is formulas k item.formula at in
    distinct m i u before lt (ap (λ x. x.formula) found ∙ formulas_same ∙ ap (λ x. x.formula) (read ∙ get_or_default items i item u lt))

pub pack_none : (formulas : List Formula) (items : List SignedFormula) → IsPackOf formulas (take 0 items) []
pack_none formulas items = record { known = λ i d lt. absurd (omega (arith, lt)); same = IsPermutation-refl [] }

-- one more item
pub pack_more : (P : Formula → Type 0) (n : ℕ) (old new : List Formula) (items : List SignedFormula) (i : ℕ) (item : SignedFormula) (pairs after : List (ℕ × List ℕ)) (k : ℕ) → IsSequent n items → i < length items → item ≡ get_or items i item
    → IsGrownBy P old new → IsPackOf old (take i items) pairs → slice_get new k ≡ Some item.formula → after ≡ added n k item.sign pairs → IsPackOf new (take (i + 1) items) after
pack_more P n old new items i item pairs after k sequent lt read more is at made =
    let sign : IsSign n item.sign = subst (λ x. IsSign n x.sign) (sym read) (sequent.signs i item lt) in
    let now = pack_grown P old new (take i items) pairs more is in
    let as_joined : after ≡ joined n k item.sign pairs = made ∙ added-some n k item.sign pairs sign.nonempty in
    let permuted = joined_new n k item.sign pairs (new_number new items i item pairs k sequent.distinct lt read now at) in
    let k_lt : k < length new = slice_get_within new k item.formula at in
    let items_same : (item ∷ unpacked new pairs) ≡ unpacked new ((k, item.sign) ∷ pairs) = λ j. record { formula = sym (formula_at-is new k item.formula at) j; sign = item.sign } ∷ unpacked new pairs in
    let mapped : IsPermutation (item ∷ unpacked new pairs) (unpacked new (joined n k item.sign pairs)) = subst (λ xs. IsPermutation xs (unpacked new (joined n k item.sign pairs))) (sym items_same) (IsPermutation-map (item_of new) ((k, item.sign) ∷ pairs) (joined n k item.sign pairs) permuted) in
    let taken : take (i + 1) items ≡ take i items ++ item ∷ [] = take_more items i item lt ∙ ap (λ x. take i items ++ x ∷ []) (sym read) in
    subst (IsPackOf new (take (i + 1) items)) (sym as_joined) (record {
      known = All-permuted (λ pair. pair.0 < length new) k_lt now.known permuted;
      same = subst (λ xs. IsPermutation xs (unpacked new (joined n k item.sign pairs))) (sym taken) (IsPermutation-push_more (take i items) (unpacked new pairs) (unpacked new (joined n k item.sign pairs)) item now.same mapped);
    })
  where
    All-permuted : (Q : ℕ × List ℕ → Type 0) → Q (k, item.sign) → All Q pairs → IsPermutation ((k, item.sign) ∷ pairs) (joined n k item.sign pairs) → All Q (joined n k item.sign pairs)
    All-permuted Q new_one each permuted = All-permutation Q ((k, item.sign) ∷ pairs) (joined n k item.sign pairs) permuted (All-cons Q (k, item.sign) pairs new_one each)

-- what is appended for an item is appended for the sequent
pub grown_by_item : (old mid new : List Formula) (items all : List SignedFormula) (i : ℕ) (item x : SignedFormula) → items ≡ all → i < length items → item ≡ x → x ≡ get_or items i x → IsGrownBy (λ g. Any (λ y. IsSubformula g y.formula) items) old mid
    → IsGrownBy (λ g. IsSubformula g item.formula) mid new → IsGrownBy (λ g. Any (λ y. IsSubformula g y.formula) all) old new
grown_by_item old mid new items all i item x same lt seen read more further =
    subst (λ (ys : List SignedFormula). IsGrownBy (λ g. Any (λ (y : SignedFormula). IsSubformula g y.formula) ys) old new) same
    (grown_grown (λ g. Any (λ y. IsSubformula g y.formula) items) old mid new more
    (grown_as (λ g. IsSubformula g item.formula) (λ g. Any (λ y. IsSubformula g y.formula) items) (λ g part. (i, x, lt, sym read, subst (λ (y : SignedFormula). IsSubformula g y.formula) seen part)) mid new further))

-- ---- unpacking

pub differs : (f g : Formula) → f ≢ g → same_formula f g ≡ false
differs f g apart = by (same_formula f g) refl where
  by : (b : Bool) → same_formula f g ≡ b → b ≡ false
  by true is = absurd (apart ((same_formula-Decides f g).0 is))
  by false is = refl

module _ (n : ℕ) (formulas : List Formula) (pairs : List (ℕ × List ℕ)) (i : ℕ) (pair : ℕ × List ℕ) (f : Formula) (items : List SignedFormula) (numbering : IsNumbering formulas) (packed : IsPacked n pairs) (known : AreKnown formulas pairs) (lt : i < length pairs) (read : pair ≡ get_or pairs i pair)
    (at : slice_get formulas pair.0 ≡ Some f) (before : items ≡ unpacked formulas (take i pairs)) where
  f_is : formula_at formulas pair.0 ≡ f
  f_is = formula_at-is formulas pair.0 f at

  earlier_differ : All (λ p. same_formula f (formula_at formulas p.0) ≡ false) (take i pairs)
  earlier_differ = λ j d j_lt.
      let j_before : j < i = let long = length-take i pairs in omega (arith, long, j_lt) in
      let earlier : get_or (take i pairs) j d ≡ get_or pairs j d = get_or-take i pairs j d j_before in
      let rising : (get_or pairs j d).0 < (get_or pairs i d).0 = packed.rising j i d j_before lt in
      let here : (get_or pairs i d).0 ≡ pair.0 = ap (λ (p : ℕ × List ℕ). p.0) (get_or_default pairs i d pair lt ∙ sym read) in
      let earlier_known : (get_or pairs j d).0 < length formulas = known j d (omega (arith, j_before, lt)) in
      differs f (formula_at formulas (get_or (take i pairs) j d).0) (λ same.
      let numbers : pair.0 ≡ (get_or pairs j d).0 = one_number formulas numbering.distinct pair.0 (get_or pairs j d).0 (slice_get_within formulas pair.0 f at) earlier_known (f_is ∙ same ∙ ap (λ (p : ℕ × List ℕ). formula_at formulas p.0) earlier) in
      omega (arith, numbers, rising, here))

  -- the formula of the next pair is new
  pub unpack_new : occurs items f ≡ false
  unpack_new = ap (λ xs. occurs xs f) before ∙ list_any_none (λ item. same_formula f item.formula) (unpacked formulas (take i pairs)) (All-map (λ item. same_formula f item.formula ≡ false) (item_of formulas) (take i pairs) earlier_differ)

  -- one more pair
  pub unpack_more : (after : List SignedFormula) → after ≡ sequents.added n items f pair.1 → after ≡ unpacked formulas (take (i + 1) pairs)
  unpack_more after made =
      let sign : IsSign n pair.1 = subst (λ (p : ℕ × List ℕ). IsSign n p.1) (sym read) (packed.signs i pair lt) in
      made ∙ sequent_laws.added-some n items f pair.1 sign.nonempty ∙ sequent_laws.joined-last n items f pair.1 unpack_new
      ∙ (λ j. before j ++ record { formula = sym f_is j; sign = pair.1 } ∷ [])
      ∙ sym (ap (unpacked formulas) (take_more pairs i pair lt ∙ ap (λ p. take i pairs ++ p ∷ []) (sym read)) ∙ map-append (item_of formulas) (take i pairs) (pair ∷ []))

-- ---- truth

pub is_true_at-unpacked : (value : Formula → ℕ) (formulas : List Formula) (pairs : List (ℕ × List ℕ)) → is_true_at value (unpacked formulas pairs) ≡ is_true_of (λ k. value (formula_at formulas k)) pairs
is_true_at-unpacked value formulas [] = refl
is_true_at-unpacked value formulas (pair ∷ pairs) = ap (λ b. has pair.1 (value (formula_at formulas pair.0)) || b) (is_true_at-unpacked value formulas pairs)

pub is_true_at-pack : (formulas : List Formula) (items : List SignedFormula) (pairs : List (ℕ × List ℕ)) → IsPackOf formulas items pairs → IsTrueAs formulas items pairs
is_true_at-pack formulas items pairs is value =
    list_any-IsPermutation (λ item. has item.sign (value item.formula)) items (unpacked formulas pairs) is.same ∙ is_true_at-unpacked value formulas pairs

-- ---- walks

pub packed_all : (formulas : List Formula) (items all : List SignedFormula) (i : ℕ) (pairs : List (ℕ × List ℕ)) → IsPackOf formulas (take i items) pairs → length items ≤ i → items ≡ all → IsTrueAs formulas all pairs
packed_all formulas items all i pairs is done same = subst (λ xs. IsTrueAs formulas xs pairs) (take_all i items done ∙ same) (is_true_at-pack formulas (take i items) pairs is)

pub unpacked_all : (formulas : List Formula) (items : List SignedFormula) (pairs all : List (ℕ × List ℕ)) (i : ℕ) → items ≡ unpacked formulas (take i pairs) → length pairs ≤ i → pairs ≡ all → IsTrueAs formulas items all
unpacked_all formulas items pairs all i is done same =
    subst (λ xs. IsTrueAs formulas xs all) (sym (is ∙ ap (unpacked formulas) (take_all i pairs done ∙ same))) (λ value. is_true_at-unpacked value formulas all)
