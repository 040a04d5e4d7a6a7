-- Steps of the loops over sets and their members.
use Rattle.std.proofs.Common.{◌≡◌, ℕ, ◌+◌, ◌==◌, ◌<◌, true, false, List, [], ◌∷◌, ◌++◌, length, map, get_or, fold, Option, Some, None, unwrap_or, refl, sym, ap, ◌∙◌, arith}
use Rattle.std.specs.Int.{bit_at}
use Rattle.std.specs.List.{range_with_len}
use Rattle.std.proofs.lemmas.List.{append-nil, map-append, get_or_read}
use Rattle.std.proofs.lemmas.List.FromFn.{map-range_with_len_more}
use Rattle.lgc_values.specs.Values.{members_of}
use Rattle.lgc_spec.specs.Words.{names_of}
use Rattle.lgc_spec.specs.Folds.{folded}
use Rattle.lgc_spec.proofs.LinkSteps.{values_next, item_of_member, item_of_none}

-- ---- the fold of a set

-- the values so far, joined
abbrev pub joined : (ℕ → ℕ → ℕ) → List ℕ → Option ℕ
joined op [] = None
joined op (v ∷ set) = Some (fold op v set)

joined_value : (op : ℕ → ℕ → ℕ) → Option ℕ → ℕ → ℕ
joined_value op None v = v
joined_value op (Some before) v = op before v

fold_push : (op : ℕ → ℕ → ℕ) (u v : ℕ) (set : List ℕ) → fold op u (set ++ v ∷ []) ≡ op (fold op u set) v
fold_push op u v [] = refl
fold_push op u v (w ∷ set) = fold_push op (op u w) v set

joined_push : (op : ℕ → ℕ → ℕ) (set : List ℕ) (v : ℕ) → joined op (set ++ v ∷ []) ≡ Some (joined_value op (joined op set) v)
unfolding joined_value
joined_push op [] v = refl
joined_push op (u ∷ set) v = ap Some (fold_push op u v set)

-- a value that is a member
member_joined : (op : ℕ → ℕ → ℕ) (mask v : ℕ) → (bit_at mask v == 1) ≡ true → joined op (members_of (v + 1) mask) ≡ Some (joined_value op (joined op (members_of v mask)) v)
member_joined op mask v is = rw (values_next v (λ w. bit_at mask w == 1), is) (joined_push op (members_of v mask) v)

pub join_first : (op : ℕ → ℕ → ℕ) (mask v : ℕ) (before : Option ℕ) → (bit_at mask v == 1) ≡ true → before ≡ joined op (members_of v mask) → before ≡ None → Some v ≡ joined op (members_of (v + 1) mask)
unfolding joined_value
join_first op mask v before is so_far none = sym (member_joined op mask v is ∙ rw (← so_far, none) refl)

pub join_next : (op : ℕ → ℕ → ℕ) (mask v u : ℕ) (before : Option ℕ) → (bit_at mask v == 1) ≡ true → before ≡ joined op (members_of v mask) → before ≡ Some u → Some (op u v) ≡ joined op (members_of (v + 1) mask)
unfolding joined_value
join_next op mask v u before is so_far some = sym (member_joined op mask v is ∙ rw (← so_far, some) refl)

-- a value that is none
pub join_none : (op : ℕ → ℕ → ℕ) (mask v : ℕ) (before : Option ℕ) → (bit_at mask v == 1) ≡ false → before ≡ joined op (members_of v mask) → before ≡ joined op (members_of (v + 1) mask)
join_none op mask v before is so_far = so_far ∙ ap (joined op) (sym (values_next v (λ w. bit_at mask w == 1) ∙ rw is (append-nil (members_of v mask))))

pub joined_all : (op : ℕ → ℕ → ℕ) (set : List ℕ) (before : Option ℕ) → before ≡ joined op set → unwrap_or before 0 ≡ folded op set
joined_all op [] before e = rw e refl
joined_all op (v ∷ set) before e = rw e refl

-- ---- the names of members

pub name_more : (names : List (List ℕ)) (mask v : ℕ) (item name : List ℕ) (so_far now : List (List ℕ)) → so_far ≡ names_of names (members_of v mask) → (bit_at mask v == 1) ≡ true → v < length names → item ≡ get_or names v item → name ≡ item → now ≡ so_far ++ name ∷ [] → now ≡ names_of names (members_of (v + 1) mask)
name_more names mask v item name so_far now is member lt here copy push =
    let named : name ≡ get_or names v [] = copy ∙ get_or_read names v item lt here [] in
    item_of_member (λ w. get_or names w []) (λ w. bit_at mask w == 1) v [] so_far now is member (push ∙ ap (λ x. so_far ++ x ∷ []) named)

pub name_none : (names : List (List ℕ)) (mask v : ℕ) (so_far : List (List ℕ)) → so_far ≡ names_of names (members_of v mask) → (bit_at mask v == 1) ≡ false → so_far ≡ names_of names (members_of (v + 1) mask)
name_none names mask v so_far is none = item_of_none (λ w. get_or names w []) (λ w. bit_at mask w == 1) v [] so_far is none

-- ---- tables over sets

-- the first sets
abbrev pub first_sets : ℕ → ℕ → List (List ℕ)
first_sets n count = map (λ index. members_of n (index + 1)) (range_with_len 0 count)

pub first_sets_more : (n i : ℕ) → first_sets n (i + 1) ≡ first_sets n i ++ members_of n (i + 1) ∷ []
first_sets_more n i = map-range_with_len_more (λ index. members_of n (index + 1)) 0 i i (omega arith)

pub one_more_set : {X : Type 0} (n i : ℕ) (value : List ℕ → X) (xs ys : List X) (x : X) → xs ≡ map value (first_sets n i) → ys ≡ xs ++ x ∷ [] → x ≡ value (members_of n (i + 1)) → ys ≡ map value (first_sets n (i + 1))
one_more_set n i value xs ys x so_far push here =
    push ∙ rw (so_far, here, first_sets_more n i) (sym (map-append value (first_sets n i) (members_of n (i + 1) ∷ [])))
