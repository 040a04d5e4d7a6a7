-- Steps of the loops over statements.
use Rattle.std.proofs.Common.{◌≡◌, ℕ, ◌+◌, ◌<◌, Bool, true, false, cond, List, [], ◌∷◌, ◌++◌, length, take, drop, get_or, Option, Some, None, refl, sym, ap, ◌∙◌}
use Rattle.std.specs.Option.{option_or}
use Rattle.std.proofs.lemmas.List.{take_more, take-append-drop}
use Rattle.lgc_parser.specs.declared.tree.Statement.{Statement}
use Rattle.lgc_spec.specs.Faults.{fault_at}
use Rattle.lgc_parser.specs.declared.tree.Statement.TheVariants.{Logic, Values, Designated, Ordering, Operator, Quantifier}
use Rattle.lgc_spec.specs.Statements.{first_some, is_single, same_kind, comes_again, keyword_of, second_fault, first_second}
use Rattle.lgc_spec.proofs.InOrderLaws.{first_fault_found, first_fault_more}

first_some-append : {X Y : Type 0} (part : X → Option Y) (xs ys : List X) → first_some part (xs ++ ys) ≡ option_or (first_some part xs) (first_some part ys)
first_some-append part [] ys = refl
first_some-append part (x ∷ xs) ys = append_case (part x) (first_some part xs) (first_some part ys) (first_some part (xs ++ ys)) (first_some-append part xs ys) where
  append_case : {Y : Type 0} (here rest more all : Option Y) → all ≡ option_or rest more → option_or here all ≡ option_or (option_or here rest) more
  append_case None rest more all e = e
  append_case (Some y) rest more all e = refl

first_some_more : {X Y : Type 0} (part : X → Option Y) (xs : List X) (i : ℕ) (x : X) → i < length xs → x ≡ get_or xs i x → first_some part (take i xs) ≡ None → first_some part (take (i + 1) xs) ≡ part x
first_some_more part xs i x lt e none =
    let next : take (i + 1) xs ≡ take i xs ++ x ∷ [] = take_more xs i x lt ∙ ap (λ y. take i xs ++ y ∷ []) (sym e) in
    rw next (first_some-append part (take i xs) (x ∷ []) ∙ rw none (one (part x))) where
      one : {Y : Type 0} (o : Option Y) → option_or o None ≡ o
      one None = refl
      one (Some y) = refl

pub first_some_found : {X Y : Type 0} (part : X → Option Y) (xs : List X) (i : ℕ) (x : X) (y : Y) → i < length xs → x ≡ get_or xs i x → first_some part (take i xs) ≡ None → part x ≡ Some y → first_some part xs ≡ Some y
first_some_found part xs i x y lt e none here =
    let so_far : first_some part (take (i + 1) xs) ≡ Some y = first_some_more part xs i x lt e none ∙ here in
    sym (ap (first_some part) (take-append-drop (i + 1) xs)) ∙ first_some-append part (take (i + 1) xs) (drop (i + 1) xs) ∙ rw so_far refl

pub first_some_passes : {X Y : Type 0} (part : X → Option Y) (xs : List X) (i : ℕ) (x : X) → i < length xs → x ≡ get_or xs i x → first_some part (take i xs) ≡ None → part x ≡ None → first_some part (take (i + 1) xs) ≡ None
first_some_passes part xs i x lt e none here = first_some_more part xs i x lt e none ∙ here

-- of other kinds there may be many
other_kind : (s t : Statement) → is_single s ≡ false → same_kind s t ≡ false
other_kind (Logic _ _) t e = absurd cc
other_kind (Values _ _) t e = absurd cc
other_kind (Designated _ _) t e = absurd cc
other_kind (Ordering _ _) t e = refl
other_kind (Operator _ _ _) t e = refl
other_kind (Quantifier _ _) t e = refl

pub never_again : (before : List Statement) (s : Statement) → is_single s ≡ false → comes_again before s ≡ false
never_again [] s e = refl
never_again (t ∷ before) s e = rw (other_kind s t e) (never_again before s e)

second_fault-is : (before : List Statement) (s : Statement) (again is : Bool) → again ≡ comes_again before s → again ≡ is → second_fault before s ≡ cond is (Some (fault_at 4 (keyword_of s))) None
second_fault-is before s again is e a = let now : comes_again before s ≡ is = sym e ∙ a in rw now refl

pub second_found : (xs : List Statement) (i : ℕ) (s : Statement) (again : Bool) (at : ℕ) → i < length xs → s ≡ get_or xs i s → first_second (take i xs) ≡ None → again ≡ comes_again (take i xs) s → again ≡ true → at ≡ keyword_of s → first_second xs ≡ Some (fault_at 4 at)
second_found xs i s again at lt e none a t place =
    let here : second_fault (take i xs) (get_or xs i s) ≡ Some (fault_at 4 at) = rw (← e, place) (second_fault-is (take i xs) s again true a t) in
    first_fault_found second_fault xs i s (fault_at 4 at) lt none here

pub second_passes : (xs : List Statement) (i : ℕ) (s : Statement) (again : Bool) → i < length xs → s ≡ get_or xs i s → first_second (take i xs) ≡ None → again ≡ comes_again (take i xs) s → again ≡ false → first_second (take (i + 1) xs) ≡ None
second_passes xs i s again lt e none a t =
    let here : second_fault (take i xs) (get_or xs i s) ≡ None = rw (← e) (second_fault-is (take i xs) s again false a t) in
    first_fault_more second_fault xs i s lt ∙ rw (none, here) refl
