-- The loop that puts the rows of a mapping in their places.
use Rattle.std.proofs.Common.{◌≡◌, ◌≢◌, ℕ, ◌+◌, ◌^◌, ◌<◌, ◌≤◌, ◌==◌, Bool, true, false, cond, ◌||◌, List, [], ◌∷◌, ◌++◌, All, length, take, set, replicate, get_or, find, position, Option, Some, None, option_map, unwrap_or, is_some, Err, refl, sym, ap, ◌∙◌, arith, ⊎_elim}
use Rattle.std.specs.Option.{option_or}
use Rattle.std.specs.Str.{bytes_eq}
use Rattle.std.specs.List.{list_any}
use Rattle.std.proofs.lemmas.Bool.{cases_eq, eqb-true}
use Rattle.std.proofs.lemmas.Slice.Eq.{bytes_eq-Decides}
use Rattle.std.proofs.lemmas.List.{take_more, get_or-set_same, get_or-set_other, get_or-replicate, length-set, length-replicate, length-map}
use Rattle.std.proofs.lemmas.List.Folds.{find-append}
use Rattle.std.proofs.lemmas.List.Quantifiers.{position-Some}
use Rattle.std.proofs.lemmas.List.Elements.{All-map}
use Rattle.lgc_values.specs.Logic.{arguments_at}
use Rattle.lgc_values.specs.declared.TheConstants.{MOST_VALUES}
use Rattle.lgc_parser.specs.declared.tree.Word.{Word}
use Rattle.lgc_parser.specs.declared.tree.Row.{Row}
use Rattle.lgc_spec.specs.declared.fault.SpecFault.{SpecFault}
use Rattle.lgc_spec.specs.declared.fault.SpecFault.TheVariants.{Fault, Memory}
use Rattle.lgc_spec.specs.Faults.{fault_at, Passes}
use Rattle.lgc_spec.specs.InOrder.{first_fault}
use Rattle.lgc_spec.specs.Words.{text_of, value_of}
use Rattle.lgc_spec.specs.Mappings.{arguments_of, has_arguments, row_again, row_fault, row_at}
use Rattle.lgc_spec.specs.Rows.{width_fault, index_of, mark_at, TellsRows}
use Rattle.lgc_spec.proofs.InOrderLaws.{first_fault_found, first_fault_more}
use Rattle.lgc_spec.proofs.Indices.{arguments_at-index, index_of-arguments, index_of-below}

-- ---- words name values

at_most : (o : Option ℕ) (n : ℕ) → 0 < n → ((i : ℕ) → o ≡ Some i → i < n) → unwrap_or o 0 < n
at_most None n some within = some
at_most (Some i) n some within = within i refl

pub value_of-below : (bytes : List ℕ) (names : List (List ℕ)) (w : Word) → 0 < length names → value_of bytes names w < length names
value_of-below bytes names w some =
    at_most (position (λ name. bytes_eq name (text_of bytes w)) names) (length names) some
    (λ i e. let at = position-Some (λ name. bytes_eq name (text_of bytes w)) names i [] e in at.0)

arguments_of-below : (bytes : List ℕ) (names : List (List ℕ)) (row : Row) → 0 < length names → All (λ v. v < length names) (arguments_of bytes names row)
arguments_of-below bytes names row some = All-map (λ v. v < length names) (value_of bytes names) row.arguments (λ k d lt. value_of-below bytes names (get_or row.arguments k d) some)

-- ---- the faults of a row

same_width : (b : Bool) (u : Option SpecFault) (e : SpecFault) → cond b u (Some e) ≡ None → b ≡ true
same_width true u e h = refl
same_width false u e h = cc

pub width_is : (bytes : List ℕ) (names : List (List ℕ)) (arity : ℕ) (row : Row) → width_fault bytes names arity row ≡ None → length row.arguments ≡ arity
width_is bytes names arity row none =
    eqb-true (length row.arguments) arity (same_width (length row.arguments == arity) _ (fault_at 13 row.at) none)

only_again : (b : Bool) (u a : Option SpecFault) (e : SpecFault) → cond b u (Some e) ≡ None → cond b (option_or u a) (Some e) ≡ a
only_again true None a e h = refl
only_again true (Some f) a e h = cc
only_again false u a e h = cc

row_fault-again : (bytes : List ℕ) (names : List (List ℕ)) (arity : ℕ) (before : List Row) (row : Row) → width_fault bytes names arity row ≡ None → row_fault bytes names arity before row ≡ row_again bytes names before row
row_fault-again bytes names arity before row none = only_again (length row.arguments == arity) _ (row_again bytes names before row) (fault_at 13 row.at) none

passes_wider : (f : SpecFault) (b : Bool) (u a : Option SpecFault) (e : SpecFault) → Passes (Err f) (cond b u (Some e)) → Passes (Err f) (cond b (option_or u a) (Some e))
passes_wider Memory b u a e p = p
passes_wider (Fault number offset kept) true u a e p = rw p refl
passes_wider (Fault number offset kept) false u a e p = p

pub passes_found : {X : Type 0} (fault : List X → X → Option SpecFault) (xs : List X) (i : ℕ) (x : X) (f : SpecFault) → i < length xs → x ≡ get_or xs i x → first_fault fault (take i xs) ≡ None → Passes (Err f) (fault (take i xs) x) → Passes (Err f) (first_fault fault xs)
passes_found fault xs i x Memory lt e none p = p
passes_found fault xs i x (Fault number offset kept) lt e none p =
    first_fault_found fault xs i x (Fault number offset kept) lt none (ap (fault (take i xs)) (sym e) ∙ p)

-- a row with a fault of its own
pub narrow_row : (bytes : List ℕ) (names : List (List ℕ)) (arity : ℕ) (rows : List Row) (i : ℕ) (row : Row) (f : SpecFault) → i < length rows → row ≡ get_or rows i row → first_fault (row_fault bytes names arity) (take i rows) ≡ None → Passes (Err f) (width_fault bytes names arity row) → Passes (Err f) (first_fault (row_fault bytes names arity) rows)
narrow_row bytes names arity rows i row f lt e none p =
    passes_found (row_fault bytes names arity) rows i row f lt e none (passes_wider f (length row.arguments == arity) _ (row_again bytes names (take i rows) row) (fault_at 13 row.at) p)

-- ---- the places of rows

pub any_find : (test : Row → Bool) (rows : List Row) → list_any test rows ≡ is_some (find test rows)
any_find test [] = refl
any_find test (row ∷ rows) = split (test row) row (find test rows) (list_any test rows) (any_find test rows) where
  split : (b : Bool) (r : Row) (o : Option Row) (some : Bool) → some ≡ is_some o → (b || some) ≡ is_some (cond b (Some r) o)
  split true r o some e = refl
  split false r o some e = e

marked : (val : Row → ℕ) (o : Option Row) → ((r : Row) → val r < 255) → unwrap_or (option_map val o) 255 ≢ 255 → is_some o ≡ true
marked val None small h = absurd (h refl)
marked val (Some r) small h = refl

unmarked : (val : Row → ℕ) (o : Option Row) → ((r : Row) → val r < 255) → unwrap_or (option_map val o) 255 ≡ 255 → o ≡ None
unmarked val None small h = refl
unmarked val (Some r) small h = let lt = small r in absurd (omega arith)

-- What is known of a row behind the rows before it, whose results the table tells, and of the index of its arguments.
pub record Stands (bytes : List ℕ) (names : List (List ℕ)) (arity : ℕ) (before : List Row) (row : Row) (table : List ℕ) (index : ℕ) : Type 0 where
  pub some : 0 < length names
  pub few : length names ≤ MOST_VALUES
  pub told : TellsRows bytes names arity before table
  pub wide : width_fault bytes names arity row ≡ None
  pub place : index ≡ index_of (length names) (arguments_of bytes names row)

pub arguments_are : (bytes : List ℕ) (names : List (List ℕ)) (arity : ℕ) (before : List Row) (row : Row) (table : List ℕ) (index : ℕ) → Stands bytes names arity before row table index → arguments_at (length names) arity index ≡ arguments_of bytes names row
arguments_are bytes names arity before row table index s =
    let size : length (arguments_of bytes names row) ≡ arity = length-map row.arguments (value_of bytes names) ∙ width_is bytes names arity row s.wide in
    rw s.place (arguments_at-index (length names) arity (arguments_of bytes names row) (arguments_of-below bytes names row s.some) size)

pub index_below : (bytes : List ℕ) (names : List (List ℕ)) (arity : ℕ) (before : List Row) (row : Row) (table : List ℕ) (index : ℕ) → Stands bytes names arity before row table index → index < length names ^ arity
index_below bytes names arity before row table index s =
    let size : length (arguments_of bytes names row) ≡ arity = length-map row.arguments (value_of bytes names) ∙ width_is bytes names arity row s.wide in
    rw (s.place, ← size) (index_of-below (length names) (arguments_of bytes names row) (arguments_of-below bytes names row s.some))

pub small_results : (bytes : List ℕ) (names : List (List ℕ)) → 0 < length names → length names ≤ MOST_VALUES → (r : Row) → value_of bytes names r.value < 255
small_results bytes names some few r = omega (arith, value_of-below bytes names r.value some)

again-is : (bytes : List ℕ) (names : List (List ℕ)) (before : List Row) (row : Row) (is : Bool) → is_some (find (has_arguments bytes names (arguments_of bytes names row)) before) ≡ is → row_again bytes names before row ≡ cond is (Some (fault_at 14 row.at)) None
again-is bytes names before row is e =
    let now : list_any (has_arguments bytes names (arguments_of bytes names row)) before ≡ is = any_find (has_arguments bytes names (arguments_of bytes names row)) before ∙ e in
    rw now refl

-- the place is taken: the arguments are those of a row before it
pub place_taken : (bytes : List ℕ) (names : List (List ℕ)) (arity : ℕ) (before : List Row) (row : Row) (table : List ℕ) (index : ℕ) → Stands bytes names arity before row table index → get_or table index 0 ≢ 255 → row_fault bytes names arity before row ≡ Some (fault_at 14 row.at)
place_taken bytes names arity before row table index s taken =
    let args = arguments_are bytes names arity before row table index s in
    let here : get_or table index 0 ≡ mark_at bytes names arity before index = s.told.marks index (index_below bytes names arity before row table index s) in
    let found = marked (λ r. value_of bytes names r.value) (row_at bytes names arity before index) (small_results bytes names s.some s.few) (λ e. taken (here ∙ e)) in
    let same : is_some (find (has_arguments bytes names (arguments_of bytes names row)) before) ≡ true = sym (ap (λ vs. is_some (find (has_arguments bytes names vs) before)) args) ∙ found in
    row_fault-again bytes names arity before row s.wide ∙ again-is bytes names before row true same

-- the place is free
pub place_free : (bytes : List ℕ) (names : List (List ℕ)) (arity : ℕ) (before : List Row) (row : Row) (table : List ℕ) (index : ℕ) → Stands bytes names arity before row table index → get_or table index 0 ≡ 255 → (row_at bytes names arity before index ≡ None) × (row_fault bytes names arity before row ≡ None)
place_free bytes names arity before row table index s free =
    let args = arguments_are bytes names arity before row table index s in
    let here : get_or table index 0 ≡ mark_at bytes names arity before index = s.told.marks index (index_below bytes names arity before row table index s) in
    let none : row_at bytes names arity before index ≡ None = unmarked (λ r. value_of bytes names r.value) (row_at bytes names arity before index) (small_results bytes names s.some s.few) (sym here ∙ free) in
    let same : is_some (find (has_arguments bytes names (arguments_of bytes names row)) before) ≡ false = sym (ap (λ vs. is_some (find (has_arguments bytes names vs) before)) args) ∙ ap is_some none in
    (none, row_fault-again bytes names arity before row s.wide ∙ again-is bytes names before row false same)

-- the row tells its own index, and no other one
own_index : (bytes : List ℕ) (names : List (List ℕ)) (arity : ℕ) (before : List Row) (row : Row) (table : List ℕ) (index : ℕ) → Stands bytes names arity before row table index → has_arguments bytes names (arguments_at (length names) arity index) row ≡ true
own_index bytes names arity before row table index s =
    let args = arguments_are bytes names arity before row table index s in
    let decides = bytes_eq-Decides (arguments_of bytes names row) (arguments_at (length names) arity index) in
    decides.1 (sym args)

other_index : (bytes : List ℕ) (names : List (List ℕ)) (arity : ℕ) (before : List Row) (row : Row) (table : List ℕ) (index r : ℕ) → Stands bytes names arity before row table index → r < length names ^ arity → (r ≡ index → ⊥) → has_arguments bytes names (arguments_at (length names) arity r) row ≡ false
other_index bytes names arity before row table index r s below ne =
    let decides = bytes_eq-Decides (arguments_of bytes names row) (arguments_at (length names) arity r) in
    no_test (has_arguments bytes names (arguments_at (length names) arity r) row)
    (λ t. let e : arguments_of bytes names row ≡ arguments_at (length names) arity r = decides.0 t in
    ne (sym (s.place ∙ ap (index_of (length names)) e ∙ index_of-arguments (length names) arity r s.some below))) where
      no_test : (b : Bool) → (b ≡ true → ⊥) → b ≡ false
      no_test true h = absurd (h refl)
      no_test false h = refl

row_at-push : (bytes : List ℕ) (names : List (List ℕ)) (arity : ℕ) (before : List Row) (row : Row) (r : ℕ) (is : Bool) → has_arguments bytes names (arguments_at (length names) arity r) row ≡ is → row_at bytes names arity (before ++ row ∷ []) r ≡ option_or (row_at bytes names arity before r) (cond is (Some row) None)
row_at-push bytes names arity before row r is e =
    find-append (has_arguments bytes names (arguments_at (length names) arity r)) before (row ∷ []) ∙ rw e refl

option_or-none : (o : Option Row) → option_or o None ≡ o
option_or-none None = refl
option_or-none (Some r) = refl

-- the table with the result of one more row
pub row_put : (bytes : List ℕ) (names : List (List ℕ)) (arity : ℕ) (before : List Row) (row : Row) (table : List ℕ) (index value : ℕ) → Stands bytes names arity before row table index → get_or table index 0 ≡ 255 → value ≡ value_of bytes names row.value → TellsRows bytes names arity (before ++ row ∷ []) (set table index value)
row_put bytes names arity before row table index value s free result =
    let below : index < length names ^ arity = index_below bytes names arity before row table index s in
    let within : index < length table = omega (arith, s.told.size) in
    record {
      size = length-set table index value ∙ s.told.size;
      marks = λ r lt. ⊎_elim
          (λ (e : r ≡ index).
          let none = place_free bytes names arity before row table index s free in
          let now : row_at bytes names arity (before ++ row ∷ []) index ≡ Some row = row_at-push bytes names arity before row index true (own_index bytes names arity before row table index s) ∙ ap (λ o. option_or o (Some row)) none.0 in
          rw (e, now) (get_or-set_same table index value 0 within ∙ result))
          (λ (ne : r ≡ index → ⊥).
          let now : row_at bytes names arity (before ++ row ∷ []) r ≡ row_at bytes names arity before r = row_at-push bytes names arity before row r false (other_index bytes names arity before row table index r s lt ne) ∙ option_or-none (row_at bytes names arity before r) in
          rw now (get_or-set_other table index r value 0 ne ∙ s.told.marks r lt))
          (cases_eq r index);
    }

-- the table without rows
pub no_rows : (bytes : List ℕ) (names : List (List ℕ)) (arity : ℕ) (table : List ℕ) → table ≡ replicate (length names ^ arity) 255 → TellsRows bytes names arity [] table
no_rows bytes names arity table e = record {
  size = ap length e ∙ length-replicate (length names ^ arity) 255;
  marks = λ r lt. rw e (get_or-replicate (length names ^ arity) r 255 0 lt);
}

-- the loop's end at a place that is taken
pub duplicate_row : (bytes : List ℕ) (names : List (List ℕ)) (arity : ℕ) (rows : List Row) (i : ℕ) (row : Row) (table : List ℕ) (index : ℕ) → i < length rows → row ≡ get_or rows i row → first_fault (row_fault bytes names arity) (take i rows) ≡ None → Stands bytes names arity (take i rows) row table index → get_or table index 0 ≢ 255 → first_fault (row_fault bytes names arity) rows ≡ Some (fault_at 14 row.at)
duplicate_row bytes names arity rows i row table index lt e none s taken =
    first_fault_found (row_fault bytes names arity) rows i row (fault_at 14 row.at) lt none
    (ap (row_fault bytes names arity (take i rows)) (sym e) ∙ place_taken bytes names arity (take i rows) row table index s taken)

-- the loop's step
pub one_more_row : (bytes : List ℕ) (names : List (List ℕ)) (arity : ℕ) (rows : List Row) (i : ℕ) (row : Row) (table : List ℕ) (index value : ℕ) → i < length rows → row ≡ get_or rows i row → first_fault (row_fault bytes names arity) (take i rows) ≡ None → Stands bytes names arity (take i rows) row table index → get_or table index 0 ≡ 255 → value ≡ value_of bytes names row.value → (first_fault (row_fault bytes names arity) (take (i + 1) rows) ≡ None) × TellsRows bytes names arity (take (i + 1) rows) (set table index value)
one_more_row bytes names arity rows i row table index value lt e none s free result =
    let next : take (i + 1) rows ≡ take i rows ++ row ∷ [] = take_more rows i row lt ∙ ap (λ r. take i rows ++ r ∷ []) (sym e) in
    let fine = place_free bytes names arity (take i rows) row table index s free in
    let here : row_fault bytes names arity (take i rows) (get_or rows i row) ≡ None = ap (row_fault bytes names arity (take i rows)) (sym e) ∙ fine.1 in (
      first_fault_more (row_fault bytes names arity) rows i row lt ∙ rw (none, here) refl,
      rw next (row_put bytes names arity (take i rows) row table index value s free result),
    )
