-- The laws of an operator, and the quantifier that it induces.
use Rattle.std.proofs.Common.{◌≡◌, ℕ, suc, ◌+◌, ◌^◌, ◌<◌, ◌≤◌, ◌==◌, ◌&&◌, Bool, true, false, cond, not, All, List, [], ◌∷◌, length, get_or, find, Some, None, Err, refl, sym, ap, arith}
use Rattle.std.specs.Prelude.{nat_lt, position}
use Rattle.std.specs.Str.{bytes_eq}
use Rattle.std.specs.List.{range_with_len, position_or_len}
use Rattle.std.proofs.lemmas.Bool.{eqb-true, and_parts}
use Rattle.std.proofs.lemmas.List.Quantifiers.{position-Some}
use Rattle.lgc_values.specs.declared.TheConstants.{MOST_VALUES, MOST_ROWS}
use Rattle.lgc_values.specs.Logic.{arguments_at}
use Rattle.lgc_values.specs.declared.matrix.Operator.{Operator}
use Rattle.lgc_tokens.specs.Numbers.{number_of}
use Rattle.lgc_parser.specs.declared.tree.Word.{Word}
use Rattle.lgc_spec.specs.declared.fault.Law.{Law}
use Rattle.lgc_spec.specs.declared.fault.Law.TheVariants.{Idempotent, Commutative, Associative}
use Rattle.lgc_spec.specs.Faults.{fault_at}
use Rattle.lgc_spec.specs.Words.{text_of}
use Rattle.lgc_spec.specs.Folds.{HasRows, applied}
use Rattle.lgc_spec.specs.Inductions.{width, holds, first_broken, semilattice_given, induced_given}
use Rattle.lgc_spec.proofs.Indices.{power_small}
use Rattle.lgc_spec.proofs.KeptOrderLaws.{place_is, place_past}
use Rattle.lgc_spec.proofs.MappingEnds.{find_in_range, none_in_range}

pub width_small : (law : Law) → width law ≤ 3
width_small Idempotent = omega arith
width_small Commutative = omega arith
width_small Associative = omega arith

-- the values that a law speaks of are those of a few rows
pub few_rows : (n k : ℕ) → 2 ≤ n → n ≤ MOST_VALUES → k ≤ 3 → n ^ k ≤ MOST_ROWS
few_rows n k some few narrow = let small : n ^ k ≤ MOST_VALUES ^ 3 = power_small n k 3 (omega arith) few narrow in omega arith

-- ---- the first index at which a law fails

pub breaks_first : (law : Law) (n : ℕ) (op : ℕ → ℕ → ℕ) (index : ℕ) → index < n ^ width law → holds law op (arguments_at n (width law) index) ≡ false → ((k : ℕ) → k < index → holds law op (arguments_at n (width law) k) ≡ true) → first_broken law n op ≡ Some index
breaks_first law n op index lt here before =
    let test : ℕ → Bool = λ k. not (holds law op (arguments_at n (width law) k)) in
    let z : 0 + index ≡ index = omega arith in
    let found : find test (range_with_len 0 (n ^ width law)) ≡ Some (0 + index) =
    find_in_range test 0 (n ^ width law) index lt (rw z (ap not here)) (λ k lower. let y : 0 + k ≡ k = omega arith in rw y (ap not (before k lower))) in
    rw z at found

pub breaks_nowhere : (law : Law) (n : ℕ) (op : ℕ → ℕ → ℕ) → ((k : ℕ) → k < n ^ width law → holds law op (arguments_at n (width law) k) ≡ true) → first_broken law n op ≡ None
breaks_nowhere law n op all =
    none_in_range (λ k. not (holds law op (arguments_at n (width law) k))) 0 (n ^ width law) (λ k lower. let y : 0 + k ≡ k = omega arith in rw y (ap not (all k lower)))

-- ---- the operator that is named

find_place : {X : Type 0} (test : X → Bool) (xs : List X) (place : ℕ) (d : X) → place ≡ position_or_len test xs → place < length xs → find test xs ≡ Some (get_or xs place d)
find_place test [] place d is lt = absurd (omega arith)
find_place {X} test (x ∷ xs) place d is lt = step (test x) place is lt (λ l. find_place test xs (position_or_len test xs) d refl l) where
  step : (here : Bool) (at : ℕ) → at ≡ cond (not here) (1 + position_or_len test xs) 0 → at < suc (length xs) → (position_or_len test xs < length xs → find test xs ≡ Some (get_or xs (position_or_len test xs) d)) → cond here (Some x) (find test xs) ≡ Some (get_or (x ∷ xs) at d)
  step true at e l later = rw e refl
  step false at e l later =
      let next : at ≡ suc (position_or_len test xs) = omega arith in
      rw next (later (omega arith))

find_no_place : {X : Type 0} (test : X → Bool) (xs : List X) → length xs ≤ position_or_len test xs → find test xs ≡ None
find_no_place test [] none = refl
find_no_place {X} test (x ∷ xs) none = step (test x) none (λ l. find_no_place test xs l) where
  step : (here : Bool) → suc (length xs) ≤ cond (not here) (1 + position_or_len test xs) 0 → (length xs ≤ position_or_len test xs → find test xs ≡ None) → cond here (Some x) (find test xs) ≡ None
  step true l later = absurd (omega arith)
  step false l later = later (omega arith)

module _ (bytes : List ℕ) (names : List (List ℕ)) (operators : List Operator) (name arity : Word) (text : List ℕ) (two : (number_of (text_of bytes arity) == 2) ≡ true) (says : text ≡ text_of bytes name) where
  pub operator_named : (place : ℕ) (d : Operator) → Some place ≡ position (λ o. bytes_eq o.name text && (o.arity == 2)) operators → place < length operators
      → induced_given bytes names operators name arity ≡ semilattice_given names (applied (length names) (get_or operators place d).table) name.at
  operator_named place d at lt =
      let test : Operator → Bool = λ o. bytes_eq o.name text && (o.arity == 2) in
      let here : place ≡ position_or_len test operators = place_is (nat_lt (position_or_len test operators) (length operators)) place (position_or_len test operators) at in
      let found : find (λ o. bytes_eq o.name (text_of bytes name) && (o.arity == 2)) operators ≡ Some (get_or operators place d) = rw (← says) (find_place test operators place d here lt) in
      rw (two, found) refl

  pub operator_unknown : None ≡ position (λ o. bytes_eq o.name text && (o.arity == 2)) operators → induced_given bytes names operators name arity ≡ Err (fault_at 21 name.at)
  operator_unknown none =
      let test : Operator → Bool = λ o. bytes_eq o.name text && (o.arity == 2) in
      let past = place_past (position_or_len test operators) (length operators) none in
      let absent : find (λ o. bytes_eq o.name (text_of bytes name) && (o.arity == 2)) operators ≡ None = rw (← says) (find_no_place test operators past) in
      rw (two, absent) refl

-- the table of the operator at a place
pub binary_rows : (n : ℕ) (operators : List Operator) (place : ℕ) (d : Operator) (text : List ℕ) → All (λ o. HasRows n o.arity o.table) operators → Some place ≡ position (λ o. bytes_eq o.name text && (o.arity == 2)) operators → HasRows n 2 (get_or operators place d).table
binary_rows n operators place d text all at =
    let here = position-Some (λ o. bytes_eq o.name text && (o.arity == 2)) operators place d (sym at) in
    let two : (get_or operators place d).arity ≡ 2 = eqb-true (get_or operators place d).arity 2 (and_parts (bytes_eq (get_or operators place d).name text) ((get_or operators place d).arity == 2) here.1).1 in
    rw two at (all place d here.0)
