-- How the reader of a mapping finds the place of a row: by the index of its arguments.
use Rattle.std.specs.Prelude.{◌≡◌, ◌≢◌, MatchOption, ℕ, ◌+◌, ◌*◌, ◌^◌, ◌<◌, ◌==◌, List, [], ◌∷◌, ◌++◌, fold, length, Option, Some, unwrap_or, option_map, slice_index, if◌then◌else◌}
use Rattle.lgc_parser.specs.declared.tree.Row.{Row}
use Rattle.lgc_spec.specs.declared.fault.SpecFault.{SpecFault}
use Rattle.lgc_spec.specs.declared.fault.TheConstants.{ROW_WIDTH}
use Rattle.lgc_spec.specs.declared.mapping.TheConstants.{ABSENT}
use Rattle.lgc_spec.specs.Faults.{fault_at}
use Rattle.lgc_spec.specs.Words.{value_of, first_unknown}
use Rattle.lgc_spec.specs.Mappings.{row_at}

-- the faults of a row that don't depend on the rows before it
abbrev pub width_fault : List ℕ → List (List ℕ) → ℕ → Row → Option SpecFault
width_fault bytes names arity row =
    if length row.arguments == arity then first_unknown bytes names (row.arguments ++ row.value ∷ []) else Some (fault_at ROW_WIDTH row.at)

-- the number whose digits in the base n these are
abbrev pub index_of : ℕ → List ℕ → ℕ
index_of n digits = fold (λ index digit. index * n + digit) 0 digits

-- the result of the row with this index, or the mark where there is none
abbrev pub mark_at : List ℕ → List (List ℕ) → ℕ → List Row → ℕ → ℕ
mark_at bytes names arity rows index = unwrap_or (option_map (λ row. value_of bytes names row.value) (row_at bytes names arity rows index)) ABSENT

-- the table tells the results of these rows
pub record TellsRows (bytes : List ℕ) (names : List (List ℕ)) (arity : ℕ) (rows : List Row) (table : List ℕ) : Type 0 where
  pub size : length table ≡ length names ^ arity
  pub marks : (index : ℕ) → index < length names ^ arity → slice_index table index ≡ mark_at bytes names arity rows index

-- the first place of the mark, and None exactly where it stands nowhere
abbrev pub FirstMark : List ℕ → Option ℕ → Type 0
FirstMark table found = MatchOption found
    ((k : ℕ) → k < length table → slice_index table k ≢ ABSENT)
    (λ i. (i < length table) × (slice_index table i ≡ ABSENT) × ((k : ℕ) → k < i → slice_index table k ≢ ABSENT))
