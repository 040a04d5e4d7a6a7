-- Lists with the same least clauses, and what keeps them so.
use Rattle.std.proofs.Common.{◌≡◌, ℕ, suc, ◌+◌, ◌<◌, inl, inr, Bool, true, false, ◌&&◌, not, List, [], ◌∷◌, ◌++◌, length, get_or, take, map, refl, ap, sym, ◌∙◌, subst, arith}
use Rattle.std.specs.Prelude.{All, AllPairs, filter}
use Rattle.std.specs.Cmp.{both_ways}
use Rattle.std.specs.List.{list_all, list_any, AllByRecursion}
use Rattle.std.proofs.lemmas.Bool.{and_parts, and_from, or_cases, or_parts, not-true, false_from_ne_true, true≢false}
use Rattle.std.proofs.lemmas.List.{append-nil, append_assoc, map_more, take_more}
use Rattle.std.proofs.lemmas.List.Concat.{flat_map-append}
use Rattle.std.proofs.lemmas.List.Kept.{AllPairs-filter}
use Rattle.std.proofs.lemmas.List.Quantifiers.{all_pairs_push}
use Rattle.lgc_clauses.specs.Rules.{some_in}
use Rattle.lgc_sequents.specs.Sequents.{IsSet}
use Rattle.lgc_clause_sets.specs.AtomClauses.{has_full, subsumes, joined, products}
use Rattle.lgc_clause_sets.specs.LeastClauses.{IsLeast, AreLeast}
use Rattle.lgc_clause_sets.specs.Reductions.{Among, Covers, AreApart, IsReduction, Reduces, ReducesBoth}
use Rattle.lgc_clause_sets.proofs.AmongLaws.{among_left, among_right, among_cases, among_all, among_at, among_from_contains, contains_from_among, among_filter, filter_among, among_map, map_among, among_flat, flat_among}
use Rattle.lgc_clause_sets.proofs.ClauseLaws.{subsumes_itself, subsumes_further, subsumes_both, open_down, subsumes_joined, full_left, full_right, true_wider, full_true}

abbrev Clause : Type 0
Clause = List (List ℕ)

abbrev Clauses : Type 0
Clauses = List (List (List ℕ))

-- ---- covering is an order

pub covers_itself : (n : ℕ) (xs : Clauses) → Covers n xs xs
covers_itself n xs c a open' = (c, a, subsumes_itself c)

pub covers_further : (n : ℕ) (xs ys zs : Clauses) → Covers n xs ys → Covers n ys zs → Covers n xs zs
covers_further n xs ys zs h k c a open' =
    let m = k c a open' in
    let l = h m.0 m.1 (open_down n m.0 c m.2 open') in
    (l.0, l.1, subsumes_further l.0 m.0 c l.2 m.2)

pub covers_append : (n : ℕ) (xs ys us vs : Clauses) → Covers n xs us → Covers n ys vs → Covers n (xs ++ ys) (us ++ vs)
covers_append n xs ys us vs h k c a open' = elim (among_cases us vs c a) [
  | inl b ↦ (let m = h c b open' in (m.0, among_left xs ys m.0 m.1, m.2))
  | inr b ↦ (let m = k c b open' in (m.0, among_right xs ys m.0 m.1, m.2))
]

-- a join is open where its parts are, so products of lists that cover others cover their products
open_left : (n : ℕ) (a b : Clause) → has_full n (joined n a b) ≡ false → has_full n a ≡ false
open_left n a b open' = false_from_ne_true (has_full n a) (λ full. true≢false (sym (full_left n a b full) ∙ open'))

open_right : (n : ℕ) (a b : Clause) → has_full n (joined n a b) ≡ false → has_full n b ≡ false
open_right n a b open' = false_from_ne_true (has_full n b) (λ full. true≢false (sym (full_right n a b full) ∙ open'))

pub covers_products : (n : ℕ) (xs ys us vs : Clauses) → Covers n xs us → Covers n ys vs → Covers n (products n xs ys) (products n us vs)
covers_products n xs ys us vs h k c a open' =
    let l = flat_among (λ left. map (joined n left) vs) us c a in
    let r = map_among (joined n l.0) vs c l.2 in
    let both : has_full n (joined n l.0 r.0) ≡ false = ap (has_full n) r.2 ∙ open' in
    let p = h l.0 l.1 (open_left n l.0 r.0 both) in
    let q = k r.0 r.1 (open_right n l.0 r.0 both) in (
      joined n p.0 q.0,
      among_flat (λ left. map (joined n left) ys) xs p.0 (joined n p.0 q.0) p.1 (among_map (joined n p.0) ys q.0 q.1),
      subst (λ d. subsumes (joined n p.0 q.0) d ≡ true) r.2 (subsumes_joined n p.0 q.0 l.0 r.0 p.2 q.2),
    )

-- ---- reductions of larger lists

among_products : (n : ℕ) (xs ys us vs : Clauses) → ((c : Clause) → Among xs c → Among us c) → ((c : Clause) → Among ys c → Among vs c) → (c : Clause) → Among (products n xs ys) c → Among (products n us vs) c
among_products n xs ys us vs h k c a =
    let l = flat_among (λ left. map (joined n left) ys) xs c a in
    let r = map_among (joined n l.0) ys c l.2 in
    among_flat (λ left. map (joined n left) vs) us l.0 c (h l.0 l.1) (subst (Among (map (joined n l.0) vs)) r.2 (among_map (joined n l.0) vs r.0 (k r.0 r.1)))

-- a reduction of the products of reductions is one of the products
pub reduction_products : (n : ℕ) (xs ys us vs kept : Clauses) → IsReduction n us xs → IsReduction n vs ys → IsReduction n (products n xs ys) kept → IsReduction n (products n us vs) kept
reduction_products n xs ys us vs kept h k r = record {
  within = λ c a. among_products n xs ys us vs h.within k.within c (r.within c a);
  covering = covers_further n kept (products n xs ys) (products n us vs) r.covering (covers_products n xs ys us vs h.covering k.covering);
  not_full = r.not_full;
  apart = r.apart;
}

pub reduction_append : (n : ℕ) (us vs xs ys kept : Clauses) → IsReduction n us xs → IsReduction n vs ys → IsReduction n (xs ++ ys) kept → IsReduction n (us ++ vs) kept
reduction_append n us vs xs ys kept h k r = record {
  within = λ c a. elim (among_cases xs ys c (r.within c a)) [ inl b ↦ among_left us vs c (h.within c b) | inr b ↦ among_right us vs c (k.within c b) ];
  covering = covers_further n kept (xs ++ ys) (us ++ vs) r.covering (covers_append n xs ys us vs h.covering k.covering);
  not_full = r.not_full;
  apart = r.apart;
}

pub reduction_none : (n : ℕ) → IsReduction n [] []
reduction_none n = record { within = λ c a. a; covering = λ c a open'. absurd a; not_full = λ c a. absurd a; apart = λ i j d lt within. absurd (omega arith) }

-- a reduction is one of itself
pub reduction_itself : (n : ℕ) (us xs : Clauses) → IsReduction n us xs → IsReduction n xs xs
reduction_itself n us xs r = record { within = λ c a. a; covering = covers_itself n xs; not_full = r.not_full; apart = r.apart }

-- ---- one clause more

-- it has a full set
skip_full : (n : ℕ) (old : Clauses) (c : Clause) → has_full n c ≡ true → Reduces n (c ∷ []) old old
skip_full n old c full us r = record {
  within = λ d a. among_left us (c ∷ []) d (r.within d a);
  covering = λ d a open'. elim (among_cases us (c ∷ []) d a) [
    | inl b ↦ r.covering d b open'
    | inr b ↦ elim b [ inl e ↦ absurd (true≢false (sym full ∙ ap (has_full n) e ∙ open')) | inr none ↦ absurd none ]
  ];
  not_full = r.not_full;
  apart = r.apart;
}

-- or one that is kept subsumes it
any_among : (p : Clause → Bool) (xs : Clauses) → list_any p xs ≡ true → (d : Clause) × Among xs d × (p d ≡ true)
any_among p [] h = cc
any_among p (x ∷ xs) h = elim (or_cases (p x) (list_any p xs) h) [ inl e ↦ (x, inl refl, e) | inr later ↦ (let k = any_among p xs later in (k.0, inr k.1, k.2)) ]

none_among : (p : Clause → Bool) (xs : Clauses) → list_any p xs ≡ false → (d : Clause) → Among xs d → p d ≡ false
none_among p [] h d a = absurd a
none_among p (x ∷ xs) h d (inl e) = ap p (sym e) ∙ (or_parts (p x) (list_any p xs) h).0
none_among p (x ∷ xs) h d (inr a) = none_among p xs (or_parts (p x) (list_any p xs) h).1 d a

skip_subsumed : (n : ℕ) (old : Clauses) (c : Clause) → list_any (λ d. subsumes d c) old ≡ true → Reduces n (c ∷ []) old old
skip_subsumed n old c some us r =
    let k = any_among (λ d. subsumes d c) old some in
    record {
      within = λ d a. among_left us (c ∷ []) d (r.within d a);
      covering = λ d a open'. elim (among_cases us (c ∷ []) d a) [
        | inl b ↦ r.covering d b open'
        | inr b ↦ elim b [ inl e ↦ (k.0, k.1, ap (subsumes k.0) (sym e) ∙ k.2) | inr none ↦ absurd none ]
      ];
      not_full = r.not_full;
      apart = r.apart;
    }

-- or it is kept, and those that it subsumes go
keep_clause : (n : ℕ) (old new : Clauses) (c : Clause) → has_full n c ≡ false → list_any (λ d. subsumes d c) old ≡ false → new ≡ filter (λ d. not (subsumes c d)) old ++ c ∷ [] → Reduces n (c ∷ []) old new
keep_clause n old new c open' none is us r = subst (IsReduction n (us ++ c ∷ [])) (sym is) (record {
  within = λ d a. elim (among_cases others (c ∷ []) d a) [ inl b ↦ among_left us (c ∷ []) d (r.within d (among_filter test old d b).0) | inr b ↦ among_right us (c ∷ []) d b ];
  covering = λ d a open''. elim (among_cases us (c ∷ []) d a) [
    | inl b ↦ (let m = r.covering d b open'' in pick m.0 m.1 d m.2 (subsumes c m.0) refl)
    | inr b ↦ elim b [ inl e ↦ (c, among_right others (c ∷ []) c (inl refl), subst (λ z. subsumes c z ≡ true) e (subsumes_itself c)) | inr none ↦ absurd none ]
  ];
  not_full = λ d a. elim (among_cases others (c ∷ []) d a) [ inl b ↦ r.not_full d (among_filter test old d b).0 | inr b ↦ elim b [ inl e ↦ ap (has_full n) (sym e) ∙ open' | inr none ↦ absurd none ] ];
  apart = all_pairs_push AreApart others c (AllPairs-filter AreApart test old r.apart) (λ k d lt.
      let kept = among_filter test old (get_or others k d) (among_at others k d lt) in
      record { onward = none_among (λ b. subsumes b c) old none (get_or others k d) kept.0; back = not-true (subsumes c (get_or others k d)) kept.1 });
}) where
  test : Clause → Bool
  test d = not (subsumes c d)

  others : Clauses
  others = filter test old

  pick : (m : Clause) → Among old m → (d : Clause) → subsumes m d ≡ true → (b : Bool) → subsumes c m ≡ b → (e : Clause) × Among (others ++ c ∷ []) e × (subsumes e d ≡ true)
  pick m a d s true h = (c, among_right others (c ∷ []) c (inl refl), subsumes_further c m d h s)
  pick m a d s false h = (m, among_left others (c ∷ []) m (filter_among test old m a (ap not h)), s)

-- a clause that isn't needed, and one that is
pub skip_clause : (n : ℕ) (old : Clauses) (c : Clause) → (not (has_full n c) && not (list_any (λ d. subsumes d c) old)) ≡ false → Reduces n (c ∷ []) old old
skip_clause n old c unneeded = pick (has_full n c) (list_any (λ d. subsumes d c) old) refl refl unneeded where
  pick : (f s : Bool) → has_full n c ≡ f → list_any (λ d. subsumes d c) old ≡ s → (not f && not s) ≡ false → Reduces n (c ∷ []) old old
  pick true s full some e = skip_full n old c full
  pick false true full some e = skip_subsumed n old c some
  pick false false full some e = absurd (true≢false e)

pub need_clause : (n : ℕ) (old new : Clauses) (c : Clause) → (not (has_full n c) && not (list_any (λ d. subsumes d c) old)) ≡ true → new ≡ filter (λ d. not (subsumes c d)) old ++ c ∷ [] → Reduces n (c ∷ []) old new
need_clause n old new c needed is =
    let parts = and_parts (not (has_full n c)) (not (list_any (λ d. subsumes d c) old)) needed in
    keep_clause n old new c (not-true (has_full n c) parts.0) (not-true (list_any (λ d. subsumes d c) old) parts.1) is

-- ---- further clauses one after another

pub reduces_none : (n : ℕ) (old : Clauses) → Reduces n [] old old
reduces_none n old us r = subst (λ l. IsReduction n l old) (sym (append-nil us)) r

pub reduces_further : (n : ℕ) (first last old mid new : Clauses) → Reduces n first old mid → Reduces n last mid new → Reduces n (first ++ last) old new
reduces_further n first last old mid new h k us r = subst (λ l. IsReduction n l new) (append_assoc us first last) (k (us ++ first) (h us r))

pub reduces_more : {X : Type 0} (n : ℕ) (f : X → Clause) (xs : List X) (i : ℕ) (x : X) (c : Clause) (old mid new : Clauses) → i < length xs → x ≡ get_or xs i x → c ≡ f x → Reduces n (map f (take i xs)) old mid → Reduces n (c ∷ []) mid new → Reduces n (map f (take (i + 1) xs)) old new
reduces_more n f xs i x c old mid new lt at is h k =
    subst (λ l. Reduces n l old new) (sym (map_more f xs i x lt ∙ ap (λ y. map f (take i xs) ++ f y ∷ []) (sym at)))
    (reduces_further n (map f (take i xs)) (f x ∷ []) old mid new h (subst (λ y. Reduces n (y ∷ []) mid new) is k))

-- all items are taken from a list where none is left
pub nothing_left : (taken left all : Clauses) → taken ++ left ≡ all → length left ≡ 0 → taken ≡ all
nothing_left taken [] all is none = sym (append-nil taken) ∙ is
nothing_left taken (x ∷ left) all is none = absurd (omega (arith, none))

-- what is added to none is a reduction of it
pub reduction_from_none : (n : ℕ) (added new : Clauses) → Reduces n added [] new → IsReduction n added new
reduction_from_none n added new h = h [] (reduction_none n)

-- the reductions of two lists, where the clauses of the second are added to the first, or the first is empty
pub both_added : (n : ℕ) (first second new : Clauses) → Reduces n second first new → ReducesBoth n first second new
both_added n first second new added us vs h k = reduction_append n us vs first second new h k (added first (reduction_itself n us first h))

pub none_and_others : (n : ℕ) (first second : Clauses) → length first ≡ 0 → ReducesBoth n first second second
none_and_others n [] second none us vs h k = reduction_append n us vs [] second second h k (reduction_itself n vs second k)
none_and_others n (x ∷ first) second none us vs h k = absurd (omega (arith, none))

-- the products of one clause more
pub products_more : (n : ℕ) (lefts rights : Clauses) (i : ℕ) (left : Clause) (mid new : Clauses) → i < length lefts → left ≡ get_or lefts i left → IsReduction n (products n (take i lefts) rights) mid → Reduces n (map (joined n left) rights) mid new → IsReduction n (products n (take (i + 1) lefts) rights) new
products_more n lefts rights i left mid new lt at h k =
    subst (λ l. IsReduction n l new)
    (sym (ap (λ l. products n l rights) (take_more lefts i left lt ∙ ap (λ y. take i lefts ++ y ∷ []) (sym at)) ∙ flat_map-append (λ l. map (joined n l) rights) (take i lefts) (left ∷ []) ∙ ap (λ l. products n (take i lefts) rights ++ l) (append-nil (map (joined n left) rights))))
    (k (products n (take i lefts) rights) h)

-- ---- a reduction has the least clauses, each once, where the sets are rising lists of values below n

apart_among : (xs : Clauses) → AllPairs AreApart xs → (c d : Clause) → Among xs c → Among xs d → subsumes d c ≡ true → d ≡ c
apart_among [] apart c d a b s = absurd a
apart_among (x ∷ xs) apart c d a b s = pick a b (λ i j. apart_among xs rest c d i j s) where
  first : All (AreApart x) xs
  first k y lt = apart 0 (suc k) y (omega arith) (omega arith)

  rest : AllPairs AreApart xs
  rest i j y lt within = apart (suc i) (suc j) y (omega arith) (omega arith)

  pick : Among (x ∷ xs) c → Among (x ∷ xs) d → (Among xs c → Among xs d → d ≡ c) → d ≡ c
  pick (inl e) (inl f) later = sym f ∙ e
  pick (inl e) (inr b) later = absurd (true≢false (sym s ∙ ap (subsumes d) (sym e) ∙ (among_all (AreApart x) xs d first b).back))
  pick (inr a) (inl f) later = absurd (true≢false (sym s ∙ ap (λ y. subsumes y c) (sym f) ∙ (among_all (AreApart x) xs c first a).onward))
  pick (inr a) (inr b) later = later a b

pub reduction_least : (n : ℕ) (clauses kept : Clauses) → ((c : Clause) → Among clauses c → AllByRecursion (IsSet n) c) → IsReduction n clauses kept → AreLeast n clauses kept
reduction_least n clauses kept sets r = record {
  each = λ c. ((λ at. there c (among_from_contains kept c at)), λ least. contains_from_among kept c (back c least));
  once = λ i j d lt within e. true≢false (sym (subsumes_itself (get_or kept i d)) ∙ ap (subsumes (get_or kept i d)) e ∙ (r.apart i j d lt within).onward);
} where
  there : (c : Clause) → Among kept c → IsLeast n clauses c
  there c a = record {
    is = contains_from_among clauses c (r.within c a);
    not_full = r.not_full c a;
    least = λ d at below.
        let here = among_from_contains clauses d at in
        let k = r.covering d here (open_down n d c below (r.not_full c a)) in
        let e : k.0 ≡ c = apart_among kept r.apart c k.0 a k.1 (subsumes_further k.0 d c k.2 below) in
        subsumes_both n d c (sets d here) (sets c (r.within c a)) below (subst (λ b. subsumes b d ≡ true) e k.2);
  }

  back : (c : Clause) → IsLeast n clauses c → Among kept c
  back c least =
      let m = r.covering c (among_from_contains clauses c least.is) least.not_full in
      subst (Among kept) (least.least m.0 (contains_from_among clauses m.0 (r.within m.0 m.1)) m.2) m.1

-- ---- a reduction is true where the clauses are

all_from : (p : Clause → Bool) (xs : Clauses) → ((c : Clause) → Among xs c → p c ≡ true) → list_all p xs ≡ true
all_from p [] h = refl
all_from p (x ∷ xs) h = and_from (p x) (list_all p xs) (h x (inl refl)) (all_from p xs (λ c a. h c (inr a)))

all_at : (p : Clause → Bool) (xs : Clauses) → list_all p xs ≡ true → (c : Clause) → Among xs c → p c ≡ true
all_at p [] h c a = absurd a
all_at p (x ∷ xs) h c (inl e) = ap p (sym e) ∙ (and_parts (p x) (list_all p xs) h).0
all_at p (x ∷ xs) h c (inr a) = all_at p xs (and_parts (p x) (list_all p xs) h).1 c a

pub reduction_true : (n : ℕ) (clauses kept : Clauses) (values : List ℕ) → AllByRecursion (λ v. v < n) values → ((c : Clause) → Among clauses c → length c ≡ length values) → IsReduction n clauses kept → list_all (λ c. some_in c values) kept ≡ list_all (λ c. some_in c values) clauses
reduction_true n clauses kept values low widths r = both_ways (list_all (λ c. some_in c values) kept) (list_all (λ c. some_in c values) clauses)
    (λ holds. all_from (λ c. some_in c values) clauses (λ c a. pick c a holds (has_full n c) refl))
    (λ holds. all_from (λ c. some_in c values) kept (λ c a. all_at (λ c. some_in c values) clauses holds c (r.within c a))) where
      pick : (c : Clause) → Among clauses c → list_all (λ c. some_in c values) kept ≡ true → (b : Bool) → has_full n c ≡ b → some_in c values ≡ true
      pick c a holds true full = full_true n c values low (widths c a) full
      pick c a holds false open' = let k = r.covering c a open' in true_wider k.0 c values k.2 (all_at (λ d. some_in d values) kept holds k.0 k.1)
