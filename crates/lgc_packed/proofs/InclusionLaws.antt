-- When sequents are included in others, and when they are full.
use Rattle.std.proofs.Common.{◌≡◌, ℕ, zero, suc, ◌+◌, ◌<◌, Bool, true, false, ◌==◌, ◌||◌, ◌&&◌, not, List, [], ◌∷◌, length, get_or, slice_get, Some, take, refl, sym, ◌∙◌, ap, subst, ⊎_elim, arith}
use Rattle.std.specs.Prelude.{All, nat_lt}
use Rattle.std.specs.List.{list_all}
use Rattle.std.proofs.lemmas.List.Elements.{All-head, All-tail}
use Rattle.std.proofs.lemmas.Option.{slice_get_read, slice_get-get_or, slice_get_within, get_or_from_slice_get}
use Rattle.std.proofs.lemmas.Bool.{eqb-true, eq-eqb, ltb-true, and_parts, and_from, or_cases, or_left, or_right, true≢false}
use Rattle.lgc_values.specs.Values.{has, values_where, NonePasses}
use Rattle.lgc_values.proofs.ValueLaws.{has-values_where}
use Rattle.lgc_sequents.specs.Sequents.{IsSign, has_all}
use Rattle.lgc_packed.specs.Packed.{marks, IsIncluded, IsPacked}
use Rattle.lgc_packed.proofs.Rising.{some_member}
use Rattle.lgc_packed.proofs.Marks.{marks-own}
use Rattle.lgc_packed.proofs.ClauseLaws.{marks-take}

pub all_has : (test : ℕ → Bool) (set : List ℕ) (v : ℕ) → list_all test set ≡ true → has set v ≡ true → test v ≡ true
all_has test [] v all member = cc
all_has test (w ∷ set) v all member =
    let parts = and_parts (test w) (list_all test set) all in
    ⊎_elim (λ here. ap test (sym (eqb-true w v here)) ∙ parts.0) (λ there. all_has test set v parts.1 there) (or_cases (w == v) (has set v) member)

pub all_pass : (test : ℕ → Bool) (set : List ℕ) → ((v : ℕ) → has set v ≡ true → test v ≡ true) → list_all test set ≡ true
all_pass test [] members = refl
all_pass test (v ∷ set) members = and_from (test v) (list_all test set) (members v (or_left (v == v) (has set v) (eq-eqb v v refl))) (all_pass test set (λ w m. members w (or_right (v == w) (has set w) m)))

-- a pair's values stand on its formula
pub marks-at : (xs : List (ℕ × List ℕ)) (i : ℕ) (d : ℕ × List ℕ) (k w : ℕ) → slice_get xs i ≡ Some d → ((d.0 == k) && has d.1 w) ≡ true → marks xs k w ≡ true
marks-at [] i d k w here m = cc
marks-at (x ∷ xs) zero d k w here m = let e : x ≡ d = cc in or_left ((x.0 == k) && has x.1 w) (marks xs k w) (subst (λ (y : ℕ × List ℕ). ((y.0 == k) && has y.1 w) ≡ true) (sym e) m)
marks-at (x ∷ xs) (suc i) d k w here m = or_right ((x.0 == k) && has x.1 w) (marks xs k w) (marks-at xs i d k w here m)

-- ---- a pair
plain : (b : Bool) → (b || false) ≡ true → b ≡ true
plain true h = refl
plain false h = h

pub member_below : (n : ℕ) (sign : List ℕ) (w : ℕ) → IsSign n sign → has sign w ≡ true → w < n
member_below n sign w is member = ltb-true w n (and_parts (nat_lt w n) (has sign w) (sym (ap (λ set. has set w) is.set ∙ has-values_where n (has sign) w) ∙ member)).0

-- what is read of the pair of a number is all that stands on its formula
pub sign_there : (n : ℕ) (xs : List (ℕ × List ℕ)) (i : ℕ) (d e : ℕ × List ℕ) (number w : ℕ) → IsPacked n xs → i < length xs → d ≡ get_or xs i d → e ≡ get_or xs i e → (get_or xs i d).0 ≡ number → has (get_or xs i e).1 w ≡ marks xs number w
sign_there n xs i d e number w packed l d_is e_is same =
    let there : slice_get xs i ≡ Some e = slice_get_read xs (length xs) i e refl l e_is in
    let read : Some e ≡ Some d = sym there ∙ slice_get_read xs (length xs) i d refl l d_is in
    let one : e ≡ d = cc in
    ap (λ (pair : ℕ × List ℕ). has pair.1 w) (sym e_is) ∙ sym (marks-own n xs i e w packed there) ∙ ap (λ (pair : ℕ × List ℕ). marks xs pair.0 w) (one ∙ d_is) ∙ ap (λ j. marks xs j w) same

-- a pair is included exactly where its sign is within what stands on its formula
module _ (n number : ℕ) (sign standing : List ℕ) (others : List (ℕ × List ℕ)) (is : IsSign n sign) (here : (w : ℕ) → w < n → has standing w ≡ marks others number w) where
  pub pair_included : list_all (has standing) sign ≡ true → IsIncluded n ((number, sign) ∷ []) others
  pair_included all k w l m =
      let both = and_parts (number == k) (has sign w) (plain ((number == k) && has sign w) m) in
      ap (λ j. marks others j w) (sym (eqb-true number k both.0)) ∙ sym (here w l) ∙ all_has (has standing) sign w all both.1

  pub pair_within : IsIncluded n ((number, sign) ∷ []) others → list_all (has standing) sign ≡ true
  pair_within included = all_pass (has standing) sign (λ w member.
      let l = member_below n sign w is member in
      here w l ∙ included number w l (or_left ((number == number) && has sign w) false (and_from (number == number) (has sign w) (eq-eqb number number refl) member)))

-- ---- pair after pair
pub included_none : (n : ℕ) (others : List (ℕ × List ℕ)) → IsIncluded n [] others
included_none n others k w lt m = absurd (true≢false (sym m))

pub included_more : (n : ℕ) (xs others : List (ℕ × List ℕ)) (i : ℕ) (d : ℕ × List ℕ) → i < length xs → d ≡ get_or xs i d → IsIncluded n (d ∷ []) others → IsIncluded n (take i xs) others → IsIncluded n (take (i + 1) xs) others
included_more n xs others i d l is one so_far k w lt m = ⊎_elim
    (λ before. so_far k w lt before)
    (λ here. one k w lt (or_left ((d.0 == k) && has d.1 w) false here))
    (or_cases (marks (take i xs) k w) ((d.0 == k) && has d.1 w) (sym (marks-take xs i d k w l is) ∙ m))

-- each pair of an included sequent is included
pub included_one : (n : ℕ) (xs others : List (ℕ × List ℕ)) (i : ℕ) (d : ℕ × List ℕ) → slice_get xs i ≡ Some d → IsIncluded n xs others → IsIncluded n (d ∷ []) others
included_one n xs others i d here included k w l m = included k w l (marks-at xs i d k w here (plain ((d.0 == k) && has d.1 w) m))

-- what is below a pair's number is below that of the next one
pub below_next : (n : ℕ) (xs others : List (ℕ × List ℕ)) (i at : ℕ) (x d : ℕ × List ℕ) → IsPacked n xs → i < length xs → x ≡ get_or xs i x → slice_get xs (i + 1) ≡ Some d → All (λ other. other.0 < x.0) (take at others) → All (λ other. other.0 < d.0) (take at others)
below_next n xs others i at x d packed l x_is next below j e m =
    let rises = packed.rising i (i + 1) x (omega arith) (slice_get_within xs (i + 1) d next) in
    omega (arith, below j e m, rises, ap (λ (pair : ℕ × List ℕ). pair.0) x_is, ap (λ (pair : ℕ × List ℕ). pair.0) (get_or_from_slice_get xs (i + 1) d x next))

-- ---- formulas

-- what is true of each formula on which something stands
pub marked_has : (P : ℕ → Type 0) (xs : List (ℕ × List ℕ)) (k w : ℕ) → All (λ pair. P pair.0) xs → marks xs k w ≡ true → P k
marked_has P [] k w all m = absurd (true≢false (sym m))
marked_has P (x ∷ xs) k w all m = ⊎_elim
    (λ here. subst P (eqb-true x.0 k (and_parts (x.0 == k) (has x.1 w) here).0) (All-head (λ pair. P pair.0) x xs all))
    (λ later. marked_has P xs k w (All-tail (λ pair. P pair.0) x xs all) later)
    (or_cases ((x.0 == k) && has x.1 w) (marks xs k w) m)

-- the formulas of a sequent are among those of each sequent that includes it
pub All-included : (P : ℕ → Type 0) (n : ℕ) (xs ys : List (ℕ × List ℕ)) → IsPacked n xs → IsIncluded n xs ys → All (λ pair. P pair.0) ys → All (λ pair. P pair.0) xs
All-included P n xs ys packed within all i d l =
    let x = get_or xs i d in
    let here : slice_get xs i ≡ Some x = slice_get-get_or xs i d l in
    let member = some_member n x.1 (packed.signs i d l) in
    marked_has P ys x.0 member.0 all (within x.0 member.0 member.1 (marks-at xs i x x.0 member.0 here (and_from (x.0 == x.0) (has x.1 member.0) (eq-eqb x.0 x.0 refl) member.2)))

-- ---- full signs

-- no value is missing
pub has_all-none : (n : ℕ) (set : List ℕ) → NonePasses n (λ w. not (has set w)) → has_all n set ≡ true
has_all-none n set none = all_pass (has set) (values_where n (λ _. true)) (λ v member. member_has v (lt v (sym (has-values_where n (λ _. true) v) ∙ member)))
  where
    lt : (v : ℕ) → (nat_lt v n && true) ≡ true → v < n
    lt v h = ltb-true v n (and_parts (nat_lt v n) true h).0

    member_has : (v : ℕ) → v < n → has set v ≡ true
    member_has v l = from_not (has set v) (none v l)
      where
        from_not : (b : Bool) → not b ≡ false → b ≡ true
        from_not true h = refl
        from_not false h = sym h
