-- What the table of all rows of a mapping tells.
use Rattle.std.proofs.Common.{◌≡◌, ◌≢◌, ℕ, zero, suc, ◌+◌, ◌^◌, ◌<◌, ◌≤◌, ◌==◌, Bool, true, false, not, List, length, map, get_or, find, Option, Some, None, option_map, unwrap_or, is_some, Ok, Err, refl, sym, ap, arith}
use Rattle.std.specs.List.{list_any, range_with_len}
use Rattle.std.proofs.lemmas.Bool.{eq-eqb, ne_eqb}
use Rattle.std.proofs.lemmas.List.FromFn.{fill_by_all}
use Rattle.lgc_values.specs.Logic.{arguments_at}
use Rattle.lgc_values.specs.declared.TheConstants.{MOST_VALUES}
use Rattle.lgc_parser.specs.declared.tree.Row.{Row}
use Rattle.lgc_spec.specs.Faults.{keeping}
use Rattle.lgc_spec.specs.InOrder.{first_fault}
use Rattle.lgc_spec.specs.Words.{value_of, names_of}
use Rattle.lgc_spec.specs.Mappings.{has_arguments, row_fault, row_at, indices, result_at, mapping_given}
use Rattle.lgc_spec.specs.Rows.{TellsRows}
use Rattle.lgc_spec.proofs.PutRows.{any_find, small_results}

-- ---- the first number that passes a test

pub find_in_range : (test : ℕ → Bool) (a n i : ℕ) → i < n → test (a + i) ≡ true → ((k : ℕ) → k < i → test (a + k) ≡ false) → find test (range_with_len a n) ≡ Some (a + i)
find_in_range test a zero i lt here before = absurd (omega arith)
find_in_range test a (suc n) zero lt here before =
    let same : a + 0 ≡ a = omega arith in
    let passes : test a ≡ true = rw same at here in
    rw (passes, same) refl
find_in_range test a (suc n) (suc i) lt here before =
    let first : a + 0 ≡ a = omega arith in
    let fails : test a ≡ false = rw first at (before 0 (omega arith)) in
    let place : a + suc i ≡ a + 1 + i = omega arith in
    let rest : find test (range_with_len (a + 1) n) ≡ Some (a + 1 + i) =
    find_in_range test (a + 1) n i (omega arith) (rw place at here)
    (λ k lower. let next : a + suc k ≡ a + 1 + k = omega arith in rw next at (before (suc k) (omega arith))) in
    rw (fails, place) rest

pub none_in_range : (test : ℕ → Bool) (a n : ℕ) → ((k : ℕ) → k < n → test (a + k) ≡ false) → find test (range_with_len a n) ≡ None
none_in_range test a zero before = refl
none_in_range test a (suc n) before =
    let first : a + 0 ≡ a = omega arith in
    let fails : test a ≡ false = rw first at (before 0 (omega arith)) in
    rw fails (none_in_range test (a + 1) n (λ k lower. let next : a + suc k ≡ a + 1 + k = omega arith in rw next at (before (suc k) (omega arith))))

-- ---- marks

absent_test : (val : Row → ℕ) (o : Option Row) (m : ℕ) (any is : Bool) → ((r : Row) → val r < 255) → m ≡ unwrap_or (option_map val o) 255 → any ≡ is_some o → (m == 255) ≡ is → not any ≡ is
absent_test val None m any is small e a t = rw (a, ← t, e) refl
absent_test val (Some r) m any is small e a t =
    let lt = small r in
    let ne : (m == 255) ≡ false = ne_eqb m 255 (λ same. absurd (omega arith)) in
    rw (a, ← t, ne) refl

told_result : (val : Row → ℕ) (o : Option Row) (m : ℕ) → m ≡ unwrap_or (option_map val o) 255 → m ≢ 255 → m ≡ unwrap_or (option_map val o) 0
told_result val None m e ne = absurd (ne e)
told_result val (Some r) m e ne = e

-- no row has the arguments of an index
abbrev absent : List ℕ → List (List ℕ) → ℕ → List Row → ℕ → Bool
absent bytes names arity rows index = not (list_any (has_arguments bytes names (arguments_at (length names) arity index)) rows)

absent-is : (bytes : List ℕ) (names : List (List ℕ)) (arity : ℕ) (rows : List Row) (table : List ℕ) (r : ℕ) (is : Bool) → 0 < length names → length names ≤ MOST_VALUES → TellsRows bytes names arity rows table → r < length names ^ arity → (get_or table r 0 == 255) ≡ is → absent bytes names arity rows r ≡ is
absent-is bytes names arity rows table r is some few told lt t =
    absent_test (λ row. value_of bytes names row.value) (row_at bytes names arity rows r) (get_or table r 0) (list_any (has_arguments bytes names (arguments_at (length names) arity r)) rows) is
    (small_results bytes names some few) (told.marks r lt) (any_find (has_arguments bytes names (arguments_at (length names) arity r)) rows) t

-- ---- the two ends

pub mapping_misses : (bytes : List ℕ) (names : List (List ℕ)) (arity : ℕ) (rows : List Row) (close : ℕ) (table : List ℕ) (index : ℕ) → 0 < length names → length names ≤ MOST_VALUES → first_fault (row_fault bytes names arity) rows ≡ None → TellsRows bytes names arity rows table → index < length table → get_or table index 0 ≡ 255 → ((k : ℕ) → k < index → get_or table k 0 ≢ 255) → mapping_given bytes names arity rows close ≡ Err (keeping 15 close (names_of names (arguments_at (length names) arity index)))
mapping_misses bytes names arity rows close table index some few none told lt here before =
    let within : index < length names ^ arity = omega (arith, told.size) in
    let at : absent bytes names arity rows (0 + index) ≡ true =
    let z : 0 + index ≡ index = omega arith in
    rw z (absent-is bytes names arity rows table index true some few told within (eq-eqb (get_or table index 0) 255 here)) in
    let found : find (absent bytes names arity rows) (indices names arity) ≡ Some (0 + index) =
    find_in_range (absent bytes names arity rows) 0 (length names ^ arity) index within at
    (λ k lower. let z : 0 + k ≡ k = omega arith in rw z (absent-is bytes names arity rows table k false some few told (omega arith) (ne_eqb (get_or table k 0) 255 (before k lower)))) in
    let z : 0 + index ≡ index = omega arith in
    rw (none, rw z at found) refl

pub mapping_tells : (bytes : List ℕ) (names : List (List ℕ)) (arity : ℕ) (rows : List Row) (close : ℕ) (table : List ℕ) → 0 < length names → length names ≤ MOST_VALUES → first_fault (row_fault bytes names arity) rows ≡ None → TellsRows bytes names arity rows table → ((k : ℕ) → k < length table → get_or table k 0 ≢ 255) → mapping_given bytes names arity rows close ≡ Ok table
mapping_tells bytes names arity rows close table some few none told full =
    let whole : (k : ℕ) → k < length names ^ arity → get_or table k 0 ≢ 255 = λ k lt. full k (omega (arith, told.size)) in
    let nowhere : find (absent bytes names arity rows) (indices names arity) ≡ None =
    none_in_range (absent bytes names arity rows) 0 (length names ^ arity)
    (λ k lt. let z : 0 + k ≡ k = omega arith in rw z (absent-is bytes names arity rows table k false some few told lt (ne_eqb (get_or table k 0) 255 (whole k lt)))) in
    let same : table ≡ map (result_at bytes names arity rows) (indices names arity) =
    fill_by_all (result_at bytes names arity rows) table (length names ^ arity) 0 told.size
    (λ k lt. told_result (λ row. value_of bytes names row.value) (row_at bytes names arity rows k) (get_or table k 0) (told.marks k lt) (whole k lt)) in
    rw (none, nowhere) (ap Ok (sym same))
