-- Laws of sequents: what adding a signed formula does, and where sequents are true.
use Rattle.std.proofs.Common.{⊎_elim, ◌==◌, ◌≡◌, ◌≢◌, ℕ, suc, ◌+◌, ◌<◌, ◌≤◌, Bool, true, false, cond, ◌||◌, ◌&&◌, not, List, [], ◌∷◌, ◌++◌, length, take, drop, set, get_or, add-one, refl, sym, ◌∙◌, ap, subst, arith}
use Rattle.std.specs.Prelude.{filter, nat_lt}
use Rattle.std.specs.List.{All, AllPairs, list_all, range_with_len}
use Rattle.std.specs.Bool.{Decides}
use Rattle.std.proofs.lemmas.Bool.Decides.{not_from_Decides, same_from_decides}
use Rattle.std.proofs.lemmas.Bool.{eqb-true, eq-eqb, lt-ltb, and_parts, or_parts, or_cases, or_left, or_right}
use Rattle.std.specs.Int.{bit_at}
use Rattle.std.proofs.lemmas.List.{drop_more, drop_all, set_split}
use Rattle.std.proofs.lemmas.List.Kept.{AllPairs-cons}
use Rattle.std.proofs.lemmas.List.Elements.{All-cons}
use Rattle.lgc_values.specs.Values.{values_where, has, members_of}
use Rattle.lgc_values.proofs.ValueLaws.{values_where-alike, has-values_where}
use Rattle.lgc_syntax.specs.declared.formula.Formula.{Formula}
use Rattle.lgc_syntax.specs.Equality.{same_formula}
use Rattle.lgc_syntax.proofs.EqualityLaws.{same_formula-Decides}
use Rattle.lgc_sequents.specs.Signed.{SignedFormula}
use Rattle.lgc_sequents.specs.Sequents.{IsSign, IsSet, union, has_all, IsSequent, sign_in, occurs, joined, added, is_included, is_axiom, is_true_at, HasValues}

-- ---- sets

-- each value is a member exactly where none is missing
none_missing : (p : ℕ → Bool) (xs : List ℕ) → Decides (list_all p (filter (λ _. true) xs)) (filter (λ w. not (p w)) xs ≡ [])
none_missing p [] = (λ _. refl, λ _. refl)
none_missing p (x ∷ xs) =
    elim (p x) as (λ b. Decides (b && list_all p (filter (λ _. true) xs)) (cond (not b) (x ∷ filter (λ w. not (p w)) xs) (filter (λ w. not (p w)) xs) ≡ [])) [
      | true ↦ none_missing p xs
      | false ↦ (λ wrong. cc, λ wrong. cc)
    ]

pub has_all_test : (result : Bool) (n : ℕ) (set : List ℕ) → Decides result (values_where n (λ w. not (has set w)) ≡ []) → result ≡ has_all n set
has_all_test result n set decides = same_from_decides result (has_all n set) decides (none_missing (has set) (range_with_len 0 n))

-- what is true of all members is true of each
pub list_all-has : (p : ℕ → Bool) (set : List ℕ) (v : ℕ) → list_all p set ≡ true → has set v ≡ true → p v ≡ true
list_all-has p [] v all member = cc
list_all-has p (w ∷ set) v all member =
    let parts = and_parts (p w) (list_all p set) all in
    ⊎_elim (λ here. ap p (sym (eqb-true w v here)) ∙ parts.0) (λ there. list_all-has p set v parts.1 there) (or_cases (w == v) (has set v) member)

pub IsSet-values_where : (n : ℕ) (test : ℕ → Bool) → IsSet n (values_where n test)
IsSet-values_where n test = values_where-alike n test (has (values_where n test)) (λ v lt. sym (has-values_where n test v ∙ ap (λ b. b && test v) (lt-ltb v n lt)))

-- the members of a set are below n
has-set : (n : ℕ) (set : List ℕ) (v : ℕ) → IsSet n set → has set v ≡ (nat_lt v n && has set v)
has-set n set v is = ap (λ s. has s v) is ∙ has-values_where n (has set) v

has-union : (n : ℕ) (a b : List ℕ) (v : ℕ) → IsSet n a → IsSet n b → has (union n a b) v ≡ (has a v || has b v)
has-union n a b v is_a is_b = has-values_where n (λ w. has a w || has b w) v ∙ over (nat_lt v n) (has a v) (has b v) (has-set n a v is_a) (has-set n b v is_b) where
  over : (below x y : Bool) → x ≡ (below && x) → y ≡ (below && y) → (below && (x || y)) ≡ (x || y)
  over true x y e e' = refl
  over false x y e e' = rw (e, e') refl

union_some : (n : ℕ) (a b : List ℕ) → IsSet n a → IsSet n b → a ≢ [] → union n a b ≢ []
union_some n [] b is_a is_b some none = some refl
union_some n (v ∷ a) b is_a is_b some none =
    let member : has (v ∷ a) v ≡ true = rw (eq-eqb v v refl) refl in
    let both : has (union n (v ∷ a) b) v ≡ true = has-union n (v ∷ a) b v is_a is_b ∙ or_left (has (v ∷ a) v) (has b v) member in
    let gone : has [] v ≡ true = ap (λ s. has s v) (sym none) ∙ both in
    cc

-- ---- signs

different : (f g : Formula) → same_formula f g ≡ false → f ≢ g
different f g = not_from_Decides (same_formula f g) (same_formula-Decides f g)

-- a formula that doesn't occur is put last
pub joined-last : (n : ℕ) (items : List SignedFormula) (f : Formula) (sign : List ℕ) → occurs items f ≡ false → joined n items f sign ≡ items ++ record { formula = f; sign = sign } ∷ []
joined-last n [] f sign absent = refl
joined-last n (x ∷ xs) f sign absent =
    let parts = or_parts (same_formula f x.formula) (occurs xs f) absent in
    rw parts.0 (ap (λ rest. x ∷ rest) (joined-last n xs f sign parts.1))

-- a write at the first place of a formula joins the sign there
pub joined-set : (n : ℕ) (items : List SignedFormula) (f : Formula) (sign : List ℕ) (i : ℕ) (x : SignedFormula) → i < length items → x ≡ get_or items i x → same_formula f x.formula ≡ true
    → joined n items f sign ≡ take i items ++ joined n (drop i items) f sign → set items i (record x { sign = union n x.sign sign }) ≡ joined n items f sign
joined-set n items f sign i x within at test walk =
    let here : drop i items ≡ x ∷ drop (suc i) items = drop_more items i x within ∙ rw add-one (ap (λ y. y ∷ drop (suc i) items) (sym at)) in
    let written : joined n (x ∷ drop (suc i) items) f sign ≡ record x { sign = union n x.sign sign } ∷ drop (suc i) items = rw test refl in
    set_split items i (record x { sign = union n x.sign sign }) within ∙ sym (walk ∙ ap (λ rest. take i items ++ joined n rest f sign) here ∙ ap (λ rest. take i items ++ rest) written)

pub added-some : (n : ℕ) (items : List SignedFormula) (f : Formula) (sign : List ℕ) → sign ≢ [] → added n items f sign ≡ joined n items f sign
added-some n items f [] some = absurd (some refl)
added-some n items f (v ∷ sign) some = refl

-- what is asked of a sign, from what is known of a set that isn't empty
pub IsSign-from : (n mask : ℕ) (sign : List ℕ) (empty : Bool) → sign ≡ members_of n mask → Decides empty (sign ≡ []) → empty ≡ false → IsSign n sign
IsSign-from n mask sign empty members decides some = record { set = subst (IsSet n) (sym members) (IsSet-values_where n (λ v. bit_at mask v == 1)); nonempty = not_from_Decides empty decides some }

All-first : {X : Type 0} (P : X → Type 0) (x : X) (xs : List X) → All P (x ∷ xs) → P x
All-first P x xs all = all 0 x (omega arith)

All-rest : {X : Type 0} (P : X → Type 0) (x : X) (xs : List X) → All P (x ∷ xs) → All P xs
All-rest P x xs all = λ i d lt. all (suc i) d (omega arith)

-- what is true of each item before, of the added one and of those with a greater sign is true of each item after
All-joined : (P : SignedFormula → Type 0) (n : ℕ) (items : List SignedFormula) (f : Formula) (sign : List ℕ) → P (record { formula = f; sign = sign })
    → ((x : SignedFormula) → P x → P (record x { sign = union n x.sign sign })) → All P items → All P (joined n items f sign)
All-joined P n [] f sign new grown all = All-cons P (record { formula = f; sign = sign }) [] new all
All-joined P n (x ∷ xs) f sign new grown all =
    elim (same_formula f x.formula) as (λ b. All P (cond b (record x { sign = union n x.sign sign } ∷ xs) (x ∷ joined n xs f sign))) [
      | true ↦ All-cons P (record x { sign = union n x.sign sign }) xs (grown x (All-first P x xs all)) (All-rest P x xs all)
      | false ↦ All-cons P x (joined n xs f sign) (All-first P x xs all) (All-joined P n xs f sign new grown (All-rest P x xs all))
    ]

-- no formula stands twice
distinct_step : (n : ℕ) (x : SignedFormula) (xs : List SignedFormula) (f : Formula) (sign : List ℕ) (b : Bool) → same_formula f x.formula ≡ b → All (λ y. x.formula ≢ y.formula) xs → AllPairs (λ a b. a.formula ≢ b.formula) xs
    → AllPairs (λ a b. a.formula ≢ b.formula) (joined n xs f sign) → AllPairs (λ a b. a.formula ≢ b.formula) (cond b (record x { sign = union n x.sign sign } ∷ xs) (x ∷ joined n xs f sign))
distinct_step n x xs f sign true test first rest after = AllPairs-cons (λ a b. a.formula ≢ b.formula) (record x { sign = union n x.sign sign }) xs first rest
distinct_step n x xs f sign false test first rest after = AllPairs-cons (λ a b. a.formula ≢ b.formula) x (joined n xs f sign) (All-joined (λ y. x.formula ≢ y.formula) n xs f sign (λ e. different f x.formula test (sym e)) (λ y differ. differ) first) after

distinct-joined : (n : ℕ) (items : List SignedFormula) (f : Formula) (sign : List ℕ) → AllPairs (λ a b. a.formula ≢ b.formula) items → AllPairs (λ a b. a.formula ≢ b.formula) (joined n items f sign)
distinct-joined n [] f sign pairs = λ i j d lt within. absurd (omega arith)
distinct-joined n (x ∷ xs) f sign pairs =
    let first : All (λ y. x.formula ≢ y.formula) xs = λ i d lt. pairs 0 (suc i) d (omega arith) (omega arith) in
    let rest : AllPairs (λ a b. a.formula ≢ b.formula) xs = λ i j d lt within. pairs (suc i) (suc j) d (omega arith) (omega arith) in
    distinct_step n x xs f sign (same_formula f x.formula) refl first rest (distinct-joined n xs f sign rest)

-- a sign that is joined keeps what is asked of a sequent
pub IsSequent-joined : (n : ℕ) (items : List SignedFormula) (f : Formula) (sign : List ℕ) → IsSequent n items → IsSign n sign → IsSequent n (joined n items f sign)
IsSequent-joined n items f sign sequent is = record {
  sized = sequent.sized;
  signs = All-joined (λ item. IsSign n item.sign) n items f sign is (λ x is_x. record { set = IsSet-values_where n (λ v. has x.sign v || has sign v); nonempty = union_some n x.sign sign is_x.set is.set is_x.nonempty }) sequent.signs;
  distinct = distinct-joined n items f sign sequent.distinct;
}

-- ---- truth

or-false : (b : Bool) → (b || false) ≡ b
or-false true = refl
or-false false = refl

or_swap : (a b c : Bool) → ((a || b) || c) ≡ ((a || c) || b)
or_swap true b c = refl
or_swap false true c = sym (or_right c true refl)
or_swap false false c = sym (or-false c)

or_assoc : (a b c : Bool) → (a || (b || c)) ≡ ((a || b) || c)
or_assoc true b c = refl
or_assoc false b c = refl

truth_step : (value : Formula → ℕ) (n : ℕ) (x : SignedFormula) (xs : List SignedFormula) (f : Formula) (sign : List ℕ) (b : Bool) → same_formula f x.formula ≡ b → IsSet n x.sign → IsSet n sign
    → is_true_at value (joined n xs f sign) ≡ (is_true_at value xs || has sign (value f))
    → is_true_at value (cond b (record x { sign = union n x.sign sign } ∷ xs) (x ∷ joined n xs f sign)) ≡ ((has x.sign (value x.formula) || is_true_at value xs) || has sign (value f))
truth_step value n x xs f sign true test is_x is after =
    let there : has sign (value x.formula) ≡ has sign (value f) = ap (λ g. has sign (value g)) (sym ((same_formula-Decides f x.formula).0 test)) in
    ap (λ b. b || is_true_at value xs) (has-union n x.sign sign (value x.formula) is_x is ∙ ap (λ b. has x.sign (value x.formula) || b) there)
    ∙ or_swap (has x.sign (value x.formula)) (has sign (value f)) (is_true_at value xs)
truth_step value n x xs f sign false test is_x is after =
    ap (λ b. has x.sign (value x.formula) || b) after ∙ or_assoc (has x.sign (value x.formula)) (is_true_at value xs) (has sign (value f))

-- with a sign joined, a sequent is true where it was, and where the value of the formula lies in the sign
pub is_true_at-joined : (value : Formula → ℕ) (n : ℕ) (items : List SignedFormula) (f : Formula) (sign : List ℕ) → All (λ item. IsSign n item.sign) items → IsSet n sign → is_true_at value (joined n items f sign) ≡ (is_true_at value items || has sign (value f))
is_true_at-joined value n [] f sign signs is = or-false (has sign (value f))
is_true_at-joined value n (x ∷ xs) f sign signs is =
    truth_step value n x xs f sign (same_formula f x.formula) refl (All-first (λ item. IsSign n item.sign) x xs signs).set is (is_true_at-joined value n xs f sign (All-rest (λ item. IsSign n item.sign) x xs signs) is)

-- an axiom is true at all values
pub is_true_at-axiom : (value : Formula → ℕ) (n : ℕ) (items : List SignedFormula) → HasValues n value → is_axiom n items ≡ true → is_true_at value items ≡ true
is_true_at-axiom value n [] values carries = cc
is_true_at-axiom value n (x ∷ xs) values carries =
    ⊎_elim
    (λ full. or_left (has x.sign (value x.formula)) (is_true_at value xs)
    (list_all-has (has x.sign) (values_where n (λ _. true)) (value x.formula) full (has-values_where n (λ _. true) (value x.formula) ∙ ap (λ b. b && true) (lt-ltb (value x.formula) n (values x.formula)))))
    (λ later. or_right (has x.sign (value x.formula)) (is_true_at value xs) (is_true_at-axiom value n xs values later))
    (or_cases (has_all n x.sign) (is_axiom n xs) carries)

sign_true_step : (value : Formula → ℕ) (x : SignedFormula) (xs : List SignedFormula) (f : Formula) (b : Bool) → same_formula f x.formula ≡ b → (has (sign_in xs f) (value f) ≡ true → is_true_at value xs ≡ true)
    → has (cond b x.sign (sign_in xs f)) (value f) ≡ true → (has x.sign (value x.formula) || is_true_at value xs) ≡ true
sign_true_step value x xs f true test after member = or_left (has x.sign (value x.formula)) (is_true_at value xs) (ap (λ g. has x.sign (value g)) (sym ((same_formula-Decides f x.formula).0 test)) ∙ member)
sign_true_step value x xs f false test after member = or_right (has x.sign (value x.formula)) (is_true_at value xs) (after member)

-- a sequent is true where the value of a formula lies in the formula's sign
is_true_at-sign : (value : Formula → ℕ) (items : List SignedFormula) (f : Formula) → has (sign_in items f) (value f) ≡ true → is_true_at value items ≡ true
is_true_at-sign value [] f member = cc
is_true_at-sign value (x ∷ xs) f member = sign_true_step value x xs f (same_formula f x.formula) refl (is_true_at-sign value xs f) member

-- a sequent that includes a true one is true
pub is_true_at-included : (value : Formula → ℕ) (items others : List SignedFormula) → is_included items others ≡ true → is_true_at value items ≡ true → is_true_at value others ≡ true
is_true_at-included value [] others included holds = cc
is_true_at-included value (x ∷ xs) others included holds =
    let parts = and_parts (list_all (has (sign_in others x.formula)) x.sign) (is_included xs others) included in
    ⊎_elim
    (λ here. is_true_at-sign value others x.formula (list_all-has (has (sign_in others x.formula)) x.sign (value x.formula) parts.0 here))
    (λ later. is_true_at-included value xs others parts.1 later)
    (or_cases (has x.sign (value x.formula)) (is_true_at value xs) holds)

-- ---- walks over the items

-- a walk that found none that isn't included
pub included_walked : (items all others : List SignedFormula) (i : ℕ) → items ≡ all → is_included items others ≡ is_included (drop i items) others → length items ≤ i → is_included all others ≡ true
included_walked items all others i same walk done = ap (λ xs. is_included xs others) (sym same) ∙ walk ∙ ap (λ xs. is_included xs others) (drop_all i items done)

-- a walk that comes to a full sign
pub axiom_walked : (n : ℕ) (items all : List SignedFormula) (i : ℕ) (x : SignedFormula) → items ≡ all → is_axiom n items ≡ is_axiom n (drop i items) → i < length items → x ≡ get_or items i x → has_all n x.sign ≡ true → is_axiom n all ≡ true
axiom_walked n items all i x same walk within at full =
    ap (is_axiom n) (sym same) ∙ walk ∙ ap (is_axiom n) (drop_more items i x within ∙ ap (λ y. y ∷ drop (i + 1) items) (sym at)) ∙ or_left (has_all n x.sign) (is_axiom n (drop (i + 1) items)) full
