-- Steps of the loops over order texts and the links that they make.
use Rattle.std.proofs.Common.{◌≡◌, ℕ, zero, suc, ◌≤◌, ◌-◌, ◌+◌, ◌<◌, Bool, true, false, cond, List, [], ◌∷◌, ◌++◌, length, map, filter, take, drop, get_or, find, Some, None, refl, sym, ap, ◌∙◌, append_assoc, arith}
use Rattle.std.specs.Prelude.{zip}
use Rattle.std.specs.List.{flat_map, range_with_len}
use Rattle.std.specs.Option.{option_or}
use Rattle.std.proofs.lemmas.List.{append-nil, take_more, take-append-drop}
use Rattle.std.proofs.lemmas.List.Elements.{filter-append}
use Rattle.std.proofs.lemmas.List.Folds.{find-append}
use Rattle.std.proofs.lemmas.List.FromFn.{map-range_with_len_more}
use Rattle.std.proofs.lemmas.Grind.{flat_map-append}
use Rattle.std.proofs.lemmas.List.Concat.{flat_map_single}
use Rattle.lgc_values.specs.Values.{values_where}
use Rattle.lgc_parser.specs.declared.tree.Word.{Word}
use Rattle.lgc_spec.specs.Values.{values_named}
use Rattle.lgc_spec.specs.Orderings.{pairs_of, chain_links}

pub flat_map_next : {X Y : Type 0} (part : X → List Y) (xs : List X) (i : ℕ) (x : X) → i < length xs → x ≡ get_or xs i x → flat_map part (take (i + 1) xs) ≡ flat_map part (take i xs) ++ part x
flat_map_next part xs i x lt e =
    let next : take (i + 1) xs ≡ take i xs ++ x ∷ [] = take_more xs i x lt ∙ ap (λ y. take i xs ++ y ∷ []) (sym e) in
    rw next (flat_map-append part (take i xs) (x ∷ []) ∙ ap (λ ys. flat_map part (take i xs) ++ ys) (append-nil (part x)))

-- ---- the first item of some parts that passes a test

found_next : {X Y : Type 0} (test : Y → Bool) (part : X → List Y) (xs : List X) (i : ℕ) (x : X) → i < length xs → x ≡ get_or xs i x → find test (flat_map part (take i xs)) ≡ None → find test (flat_map part (take (i + 1) xs)) ≡ find test (part x)
found_next test part xs i x lt e none =
    ap (find test) (flat_map_next part xs i x lt e) ∙ find-append test (flat_map part (take i xs)) (part x) ∙ ap (λ o. option_or o (find test (part x))) none

pub found_in_part : {X Y : Type 0} (test : Y → Bool) (part : X → List Y) (xs : List X) (i : ℕ) (x : X) (y : Y) → i < length xs → x ≡ get_or xs i x → find test (flat_map part (take i xs)) ≡ None → find test (part x) ≡ Some y → find test (flat_map part xs) ≡ Some y
found_in_part test part xs i x y lt e none here =
    let so_far : find test (flat_map part (take (i + 1) xs)) ≡ Some y = found_next test part xs i x lt e none ∙ here in
    sym (ap (λ l. find test (flat_map part l)) (take-append-drop (i + 1) xs)) ∙ ap (find test) (flat_map-append part (take (i + 1) xs) (drop (i + 1) xs)) ∙ find-append test (flat_map part (take (i + 1) xs)) (flat_map part (drop (i + 1) xs)) ∙ ap (λ o. option_or o (find test (flat_map part (drop (i + 1) xs)))) so_far

pub passes_part : {X Y : Type 0} (test : Y → Bool) (part : X → List Y) (xs : List X) (i : ℕ) (x : X) → i < length xs → x ≡ get_or xs i x → find test (flat_map part (take i xs)) ≡ None → find test (part x) ≡ None → find test (flat_map part (take (i + 1) xs)) ≡ None
passes_part test part xs i x lt e none here = found_next test part xs i x lt e none ∙ here

-- ---- the values of a set, one after another

range_next : (n : ℕ) → range_with_len 0 (n + 1) ≡ range_with_len 0 n ++ n ∷ []
range_next n = sym (same (range_with_len 0 (n + 1))) ∙ map-range_with_len_more (λ v. v) 0 n n (omega arith) ∙ ap (λ l. l ++ n ∷ []) (same (range_with_len 0 n)) where
  same : (xs : List ℕ) → map (λ v. v) xs ≡ xs
  same [] = refl
  same (x ∷ xs) = ap (λ l. x ∷ l) (same xs)

pub values_next : (n : ℕ) (test : ℕ → Bool) → values_where (n + 1) test ≡ values_where n test ++ cond (test n) (n ∷ []) []
values_next n test = ap (filter test) (range_next n) ∙ filter-append test (range_with_len 0 n) (n ∷ [])

pub part_of_member : {Y : Type 0} (part : ℕ → List Y) (test : ℕ → Bool) (n : ℕ) (before so_far now : List Y) → so_far ≡ before ++ flat_map part (values_where n test) → test n ≡ true → now ≡ so_far ++ part n → now ≡ before ++ flat_map part (values_where (n + 1) test)
part_of_member part test n before so_far now is t push =
    let next : flat_map part (values_where (n + 1) test) ≡ flat_map part (values_where n test) ++ part n =
    ap (flat_map part) (values_next n test) ∙ rw t (flat_map-append part (values_where n test) (n ∷ []) ∙ ap (λ ys. flat_map part (values_where n test) ++ ys) (append-nil (part n))) in
    push ∙ ap (λ l. l ++ part n) is ∙ append_assoc before (flat_map part (values_where n test)) (part n) ∙ ap (λ l. before ++ l) (sym next)

pub part_of_none : {Y : Type 0} (part : ℕ → List Y) (test : ℕ → Bool) (n : ℕ) (before so_far : List Y) → so_far ≡ before ++ flat_map part (values_where n test) → test n ≡ false → so_far ≡ before ++ flat_map part (values_where (n + 1) test)
part_of_none part test n before so_far is f =
    let next : values_where (n + 1) test ≡ values_where n test = values_next n test ∙ rw f (append-nil (values_where n test)) in
    is ∙ ap (λ l. before ++ flat_map part l) (sym next)

pub item_of_member : {Y : Type 0} (f : ℕ → Y) (test : ℕ → Bool) (n : ℕ) (before so_far now : List Y) → so_far ≡ before ++ map f (values_where n test) → test n ≡ true → now ≡ so_far ++ f n ∷ [] → now ≡ before ++ map f (values_where (n + 1) test)
item_of_member f test n before so_far now is t push =
    part_of_member (λ v. f v ∷ []) test n before so_far now (is ∙ ap (λ l. before ++ l) (sym (flat_map_single f (values_where n test)))) t push ∙ ap (λ l. before ++ l) (flat_map_single f (values_where (n + 1) test))

pub item_of_none : {Y : Type 0} (f : ℕ → Y) (test : ℕ → Bool) (n : ℕ) (before so_far : List Y) → so_far ≡ before ++ map f (values_where n test) → test n ≡ false → so_far ≡ before ++ map f (values_where (n + 1) test)
item_of_none f test n before so_far is t =
    part_of_none (λ v. f v ∷ []) test n before so_far (is ∙ ap (λ l. before ++ l) (sym (flat_map_single f (values_where n test)))) t ∙ ap (λ l. before ++ l) (flat_map_single f (values_where (n + 1) test))

-- ---- neighbours in a chain

neighbours_next : {X : Type 0} (xs : List X) (i : ℕ) (d e : X) → suc i < length xs → zip (take (suc (suc i)) xs) (drop 1 (take (suc (suc i)) xs)) ≡ zip (take (suc i) xs) (drop 1 (take (suc i) xs)) ++ (get_or xs i d, get_or xs (suc i) e) ∷ []
neighbours_next [] i d e lt = absurd (omega arith)
neighbours_next (a ∷ []) i d e lt = absurd (omega arith)
neighbours_next (a ∷ b ∷ xs) zero d e lt = refl
neighbours_next (a ∷ b ∷ xs) (suc i) d e lt = ap (λ l. (a, b) ∷ l) (neighbours_next (b ∷ xs) i d e (omega arith))

-- the same at a place that is counted from 1
neighbours_at : {X : Type 0} (xs : List X) (n : ℕ) (d e : X) → 1 ≤ n → n < length xs → zip (take (n + 1) xs) (drop 1 (take (n + 1) xs)) ≡ zip (take n xs) (drop 1 (take n xs)) ++ (get_or xs (n - 1) d, get_or xs n e) ∷ []
neighbours_at xs zero d e one lt = absurd (omega arith)
neighbours_at xs (suc i) d e one lt =
    let more : suc i + 1 ≡ suc (suc i) = omega arith in
    let less : suc i - 1 ≡ i = omega arith in
    rw (more, less) (neighbours_next xs i d e lt)

pub links_next : (text : List ℕ) (names : List (List ℕ)) (chain : List (List Word)) (n : ℕ) (d e : List Word) (left right : List ℕ) (before so_far now : List (ℕ × ℕ)) → 1 ≤ n → n < length chain → so_far ≡ before ++ chain_links text names (take n chain) → left ≡ values_named text names (get_or chain (n - 1) d) → right ≡ values_named text names (get_or chain n e) → now ≡ so_far ++ pairs_of left right → now ≡ before ++ chain_links text names (take (n + 1) chain)
links_next text names chain n d e left right before so_far now one lt is l r push =
    let part : List Word × List Word → List (ℕ × ℕ) = λ nodes. pairs_of (values_named text names nodes.0) (values_named text names nodes.1) in
    let old = zip (take n chain) (drop 1 (take n chain)) in
    let pair : List Word × List Word = (get_or chain (n - 1) d, get_or chain n e) in
    let next : chain_links text names (take (n + 1) chain) ≡ chain_links text names (take n chain) ++ part pair =
    ap (flat_map part) (neighbours_at chain n d e one lt) ∙ flat_map-append part old (pair ∷ []) ∙ ap (λ ys. flat_map part old ++ ys) (append-nil (part pair)) in
    push ∙ rw (is, l, r) (append_assoc before (chain_links text names (take n chain)) (part pair)) ∙ ap (λ ys. before ++ ys) (sym next)
