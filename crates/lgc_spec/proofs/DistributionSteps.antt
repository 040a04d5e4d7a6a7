-- Steps of the loops over the rows of a mapping of sets, and over the sets.
use Rattle.std.proofs.Common.{◌≡◌, ℕ, zero, suc, ◌+◌, ◌-◌, ◌^◌, ◌<◌, ◌==◌, Bool, true, false, cond, not, List, [], ◌∷◌, ◌++◌, length, map, take, get_or, find, Option, Some, None, option_map, unwrap_or, is_some, Result, Ok, Err, subst, refl, sym, ap, ◌∙◌, arith, ne_eqb, eq-eqb, ⊎_elim}
use Rattle.std.specs.Option.{option_or}
use Rattle.std.specs.List.{list_any, AllZip}
use Rattle.std.proofs.lemmas.Bool.{cases_eq}
use Rattle.std.proofs.lemmas.Bool.Decides.{same_from_decides, Decides-eqb}
use Rattle.std.proofs.lemmas.Slice.Eq.{bytes_eq-Decides}
use Rattle.std.proofs.lemmas.List.{take_more}
use Rattle.std.proofs.lemmas.List.Folds.{find-append}
use Rattle.lgc_values.specs.Values.{members_of}
use Rattle.lgc_values.proofs.ValueLaws.{same_from_mask}
use Rattle.lgc_parser.specs.declared.tree.Row.{Row}
use Rattle.lgc_spec.specs.declared.distribution.Told.{Told}
use Rattle.lgc_spec.specs.declared.fault.SpecFault.{SpecFault}
use Rattle.lgc_spec.specs.declared.fault.SpecFault.TheVariants.{Fault, Memory}
use Rattle.lgc_spec.specs.declared.fault.Kept.TheVariants.{Set}
use Rattle.lgc_spec.specs.Faults.{fault_at, unless, Passes, FailsAs}
use Rattle.lgc_spec.specs.InOrder.{first_fault}
use Rattle.lgc_spec.specs.Words.{value_of, names_of, first_unknown}
use Rattle.lgc_spec.specs.Distributions.{set_of, has_set, set_again, own_fault, set_fault, missing_set, result_over}
use Rattle.lgc_spec.specs.ToldSets.{Tells}
use Rattle.lgc_spec.specs.Sets.{nonempty_sets, table_over}
use Rattle.lgc_spec.proofs.FaultLaws.{Passes-front, Passes-back}
use Rattle.lgc_spec.proofs.InOrderLaws.{first_fault_found, first_fault_more}
use Rattle.lgc_spec.proofs.RowLaws.{first_unknown-append}
use Rattle.lgc_spec.proofs.PutRows.{passes_found, any_find}
use Rattle.lgc_spec.proofs.OrderingTurns.{all_zip_push}
use Rattle.lgc_spec.proofs.SetSteps.{first_sets, first_sets_more, one_more_set}

-- ---- the faults of a row

pub no_values : (bytes : List ℕ) (names : List (List ℕ)) (row : Row) → length row.arguments ≡ 0 → own_fault bytes names row ≡ Some (fault_at 23 row.at)
no_values bytes names row e = rw (eq-eqb (length row.arguments) 0 e) refl

some_values : (bytes : List ℕ) (names : List (List ℕ)) (row : Row) → (length row.arguments ≡ 0 → ⊥) → own_fault bytes names row ≡ option_or (first_unknown bytes names row.arguments) (first_unknown bytes names (row.value ∷ []))
some_values bytes names row ne = rw (ne_eqb (length row.arguments) 0 ne) (first_unknown-append bytes names row.arguments (row.value ∷ []))

pub unknown_member : (bytes : List ℕ) (names : List (List ℕ)) (row : Row) (f : SpecFault) → (length row.arguments ≡ 0 → ⊥) → Passes (Err f) (first_unknown bytes names row.arguments) → Passes (Err f) (own_fault bytes names row)
unknown_member bytes names row f ne p = rw (some_values bytes names row ne) (Passes-front f (first_unknown bytes names row.arguments) (first_unknown bytes names (row.value ∷ [])) p)

pub unknown_value : (bytes : List ℕ) (names : List (List ℕ)) (row : Row) (r : Result Unit SpecFault) → (length row.arguments ≡ 0 → ⊥) → first_unknown bytes names row.arguments ≡ None → Passes r (first_unknown bytes names (row.value ∷ [])) → Passes r (own_fault bytes names row)
unknown_value bytes names row r ne none p = rw (some_values bytes names row ne) (Passes-back r (first_unknown bytes names row.arguments) (first_unknown bytes names (row.value ∷ [])) none p)

pub fails_unless : {X : Type 0} (f : SpecFault) (o : Option SpecFault) (r : Result X SpecFault) → Passes (Err f) o → FailsAs f (unless o r)
fails_unless Memory o r p = tt
fails_unless (Fault number offset kept) o r p = rw p refl

-- no row has this set
abbrev pub absent : List ℕ → List (List ℕ) → List Row → List ℕ → Bool
absent bytes names rows set = not (list_any (has_set bytes names set) rows)

-- ---- the rows that are told

module _ (bytes : List ℕ) (names : List (List ℕ)) where
  same_set : (t : Told) (row : Row) (mask : ℕ) (set : List ℕ) → Tells bytes names t row → members_of (length names) mask ≡ set → mask < 2 ^ length names → (t.mask == mask) ≡ has_set bytes names set row
  same_set t row mask set tells is below = same_from_decides (t.mask == mask) (has_set bytes names set row) (Decides-eqb t.mask mask) (back, forth) where
    back : has_set bytes names set row ≡ true → t.mask ≡ mask
    back h = same_from_mask (length names) t.mask mask (set_of bytes names row) set tells.set is tells.below below ((bytes_eq-Decides (set_of bytes names row) set).0 h)

    forth : t.mask ≡ mask → has_set bytes names set row ≡ true
    forth e = (bytes_eq-Decides (set_of bytes names row) set).1 (sym tells.set ∙ ap (members_of (length names)) e ∙ is)

  -- the rows that are told give the results of the rows
  pub told_is : (mask : ℕ) (set : List ℕ) → members_of (length names) mask ≡ set → mask < 2 ^ length names → (told : List Told) (rows : List Row) → AllZip (Tells bytes names) told rows → option_map (λ t. t.value) (find (λ t. t.mask == mask) told) ≡ option_map (λ row. value_of bytes names row.value) (find (has_set bytes names set) rows)
  told_is mask set is below [] [] all = refl
  told_is mask set is below [] (row ∷ rows) all = absurd all
  told_is mask set is below (t ∷ told) [] all = absurd all
  told_is mask set is below (t ∷ told) (row ∷ rows) all =
      step (t.mask == mask) (has_set bytes names set row) (same_set t row mask set all.0 is below) (find (λ u. u.mask == mask) told) (find (has_set bytes names set) rows) (told_is mask set is below told rows all.1) where
        step : (a b : Bool) → a ≡ b → (x : Option Told) (y : Option Row) → option_map (λ u. u.value) x ≡ option_map (λ r. value_of bytes names r.value) y → option_map (λ u. u.value) (cond a (Some t) x) ≡ option_map (λ r. value_of bytes names r.value) (cond b (Some row) y)
        step true true e x y later = ap Some all.0.value
        step false false e x y later = later
        step true false e x y later = absurd cc
        step false true e x y later = absurd cc

  mapped_some : {X : Type 0} (f : X → ℕ) (o : Option X) → is_some (option_map f o) ≡ is_some o
  mapped_some f None = refl
  mapped_some f (Some x) = refl

  -- whether a set is told
  pub told_any : (mask : ℕ) (set : List ℕ) (told : List Told) (rows : List Row) → members_of (length names) mask ≡ set → mask < 2 ^ length names → AllZip (Tells bytes names) told rows → list_any (has_set bytes names set) rows ≡ is_some (find (λ t. t.mask == mask) told)
  told_any mask set told rows is below all =
      any_find (has_set bytes names set) rows ∙ sym (mapped_some (λ row. value_of bytes names row.value) (find (has_set bytes names set) rows)) ∙ sym (ap is_some (told_is mask set is below told rows all)) ∙ mapped_some (λ t. t.value) (find (λ t. t.mask == mask) told)

  module _ (rows : List Row) (i : ℕ) (row : Row) (lt : i < length rows) (at : row ≡ get_or rows i row) (none : first_fault (set_fault bytes names) (take i rows) ≡ None) where
    -- a row with a fault of its own
    pub row_fails : (f : SpecFault) → Passes (Err f) (own_fault bytes names row) → FailsAs f (unless (first_fault (set_fault bytes names) rows) (Ok (tt {0})))
    row_fails f p = fails_unless f (first_fault (set_fault bytes names) rows) (Ok (tt {0})) (passes_found (set_fault bytes names) rows i row f lt at none (Passes-front f (own_fault bytes names row) (set_again bytes names (take i rows) row) p))

    module _ (mask : ℕ) (told : List Told) (own : own_fault bytes names row ≡ None) (is : members_of (length names) mask ≡ set_of bytes names row) (below : mask < 2 ^ length names) (all : AllZip (Tells bytes names) told (take i rows)) where
      fault_is : (again : Bool) → is_some (find (λ t. t.mask == mask) told) ≡ again → set_fault bytes names (take i rows) row ≡ cond again (Some (fault_at 24 row.at)) None
      fault_is again e =
          let any : list_any (has_set bytes names (set_of bytes names row)) (take i rows) ≡ again = told_any mask (set_of bytes names row) told (take i rows) is below all ∙ e in
          rw (own, any) refl

      -- a row with the set of a row before it
      pub row_again : is_some (find (λ t. t.mask == mask) told) ≡ true → FailsAs (fault_at 24 row.at) (unless (first_fault (set_fault bytes names) rows) (Ok (tt {0})))
      row_again e =
          let found : first_fault (set_fault bytes names) rows ≡ Some (fault_at 24 row.at) = first_fault_found (set_fault bytes names) rows i row (fault_at 24 row.at) lt none (ap (set_fault bytes names (take i rows)) (sym at) ∙ fault_is true e) in
          rw found refl

      -- a row more
      pub one_more_told : (t : Told) → t.mask ≡ mask → t.value ≡ value_of bytes names row.value → is_some (find (λ u. u.mask == mask) told) ≡ false
          → (first_fault (set_fault bytes names) (take (i + 1) rows) ≡ None) × AllZip (Tells bytes names) (told ++ t ∷ []) (take (i + 1) rows)
      one_more_told t same value e =
          let next : take (i + 1) rows ≡ take i rows ++ row ∷ [] = take_more rows i row lt ∙ ap (λ r. take i rows ++ r ∷ []) (sym at) in
          let here : set_fault bytes names (take i rows) (get_or rows i row) ≡ None = ap (set_fault bytes names (take i rows)) (sym at) ∙ fault_is false e in (
            first_fault_more (set_fault bytes names) rows i row lt ∙ rw (none, here) refl,
            rw next (all_zip_push (Tells bytes names) told (take i rows) t row all (record { set = rw same is; below = rw same below; value = value })),
          )

  -- ---- the sets, one after another

  module _ (told : List Told) (rows : List Row) (all : AllZip (Tells bytes names) told rows) where
    more_sets : (count : ℕ) → find (absent bytes names rows) (first_sets (length names) (count + 1)) ≡ option_or (find (absent bytes names rows) (first_sets (length names) count)) (cond (absent bytes names rows (members_of (length names) (count + 1))) (Some (members_of (length names) (count + 1))) None)
    more_sets count = rw (first_sets_more (length names) count) (find-append (absent bytes names rows) (first_sets (length names) count) (members_of (length names) (count + 1) ∷ []))

    found_first : (count m : ℕ) → find (absent bytes names rows) (first_sets (length names) count) ≡ None → absent bytes names rows (members_of (length names) (count + 1)) ≡ true → count < m → find (absent bytes names rows) (first_sets (length names) m) ≡ Some (members_of (length names) (count + 1))
    found_first count zero none here lt = absurd (omega arith)
    found_first count (suc m) none here lt =
        let next : m + 1 ≡ suc m = omega arith in
        subst (λ k. find (absent bytes names rows) (first_sets (length names) k) ≡ Some (members_of (length names) (count + 1))) next (⊎_elim
        (λ (e : count ≡ m). rw (← e) (more_sets count ∙ rw (none, here) refl))
        (λ (ne : count ≡ m → ⊥). more_sets m ∙ rw (found_first count m none here (omega (arith, ne))) refl)
        (cases_eq count m))

    absent_is : (mask : ℕ) (o : Option Told) (is : Bool) → mask < 2 ^ length names → o ≡ find (λ t. t.mask == mask) told → is_some o ≡ is → absent bytes names rows (members_of (length names) mask) ≡ not is
    absent_is mask o is below e t = ap not (told_any mask (members_of (length names) mask) told rows refl below all ∙ ap is_some (sym e) ∙ t)

    -- a set that isn't told is the first of them
    pub set_missing : (close index mask : ℕ) (found : List (List ℕ)) → find (absent bytes names rows) (first_sets (length names) index) ≡ None → index < 2 ^ length names - 1 → mask ≡ index + 1 → None ≡ find (λ t. t.mask == mask) told → found ≡ names_of names (members_of (length names) mask)
        → FailsAs (Fault 25 close (Set found)) (unless (missing_set bytes names close rows) (Ok (table_over (length names) (result_over bytes names rows))))
    set_missing close index mask found none lt next e named =
        let here : absent bytes names rows (members_of (length names) (index + 1)) ≡ true = rw next at (absent_is mask None false (omega arith) e refl) in
        let first : find (absent bytes names rows) (nonempty_sets (length names)) ≡ Some (members_of (length names) (index + 1)) = found_first index (2 ^ length names - 1) none here lt in
        rw (first, named, next) refl

    -- a set that is told
    pub set_told : (index mask : ℕ) (row : Told) (table more : List ℕ) → find (absent bytes names rows) (first_sets (length names) index) ≡ None → table ≡ map (result_over bytes names rows) (first_sets (length names) index) → index < 2 ^ length names - 1 → mask ≡ index + 1 → Some row ≡ find (λ t. t.mask == mask) told → more ≡ table ++ row.value ∷ []
        → (find (absent bytes names rows) (first_sets (length names) (index + 1)) ≡ None) × (more ≡ map (result_over bytes names rows) (first_sets (length names) (index + 1)))
    set_told index mask row table more none so_far lt next e push =
        let here : absent bytes names rows (members_of (length names) (index + 1)) ≡ false = rw next at (absent_is mask (Some row) true (omega arith) e refl) in
        let is : option_map (λ r. value_of bytes names r.value) (find (has_set bytes names (members_of (length names) mask)) rows) ≡ Some row.value = sym (ap (option_map (λ t. t.value)) e ∙ told_is mask (members_of (length names) mask) refl (omega arith) told rows all) in
        let result_is : row.value ≡ result_over bytes names rows (members_of (length names) mask) = sym (ap (λ o. unwrap_or o 0) is) in
        (more_sets index ∙ rw (none, here) refl, one_more_set (length names) index (result_over bytes names rows) table more row.value so_far push (rw next at result_is))
