-- Quantifiers by mapping: a row for each nonempty set of values, in any order.
use Rattle.std.specs.Prelude.{ℕ, ◌==◌, Bool, not, List, [], ◌∷◌, ◌++◌, find, length, Option, Some, None, unwrap_or, option_map, Result, Ok, if◌then◌else◌}
use Rattle.std.specs.Option.{option_or}
use Rattle.std.specs.Str.{bytes_eq}
use Rattle.std.specs.List.{list_any}
use Rattle.lgc_parser.specs.declared.tree.Row.{Row}
use Rattle.lgc_spec.specs.declared.fault.SpecFault.{SpecFault}
use Rattle.lgc_spec.specs.declared.fault.SpecFault.TheVariants.{Fault}
use Rattle.lgc_spec.specs.declared.fault.Kept.TheVariants.{Set}
use Rattle.lgc_spec.specs.declared.fault.TheConstants.{EMPTY_DISTRIBUTION, DUPLICATE_DISTRIBUTION, MISSING_DISTRIBUTION}
use Rattle.lgc_spec.specs.Faults.{fault_at, unless}
use Rattle.lgc_spec.specs.InOrder.{first_fault}
use Rattle.lgc_spec.specs.Words.{value_of, names_of, first_unknown}
use Rattle.lgc_spec.specs.Values.{values_named}
use Rattle.lgc_spec.specs.Sets.{nonempty_sets, table_over}

-- the set that a row writes, rising and without repeats
abbrev pub set_of : List ℕ → List (List ℕ) → Row → List ℕ
set_of bytes names row = values_named bytes names row.arguments

-- whether a row writes this set
abbrev pub has_set : List ℕ → List (List ℕ) → List ℕ → Row → Bool
has_set bytes names set row = bytes_eq (set_of bytes names row) set

-- a row without values in its set is a fault, at its first token
abbrev pub empty_set : Row → Option SpecFault
empty_set row = if length row.arguments == 0 then Some (fault_at EMPTY_DISTRIBUTION row.at) else None

-- a row with the set of a row before it is a fault, at its first token
abbrev pub set_again : List ℕ → List (List ℕ) → List Row → Row → Option SpecFault
set_again bytes names before row =
    if list_any (has_set bytes names (set_of bytes names row)) before then Some (fault_at DUPLICATE_DISTRIBUTION row.at) else None

-- the faults of a row that don't depend on the rows before it: its set is empty; then its first unknown value, of the set
-- and then the result
abbrev pub own_fault : List ℕ → List (List ℕ) → Row → Option SpecFault
own_fault bytes names row = option_or (empty_set row) (first_unknown bytes names (row.arguments ++ row.value ∷ []))

-- the faults of a row behind the rows before it
abbrev pub set_fault : List ℕ → List (List ℕ) → List Row → Row → Option SpecFault
set_fault bytes names before row = option_or (own_fault bytes names row) (set_again bytes names before row)

-- the absent set with the least mask, at the closing bracket
abbrev pub missing_set : List ℕ → List (List ℕ) → ℕ → List Row → Option SpecFault
missing_set bytes names close rows =
    option_map (λ set. Fault MISSING_DISTRIBUTION close (Set (names_of names set)))
    (find (λ set. not (list_any (has_set bytes names set) rows)) (nonempty_sets (length names)))

-- the result at a set
abbrev pub result_over : List ℕ → List (List ℕ) → List Row → List ℕ → ℕ
result_over bytes names rows set = unwrap_or (option_map (λ row. value_of bytes names row.value) (find (has_set bytes names set) rows)) 0

-- the table of a mapping
abbrev pub distribution_given : List ℕ → List (List ℕ) → List Row → ℕ → Result (List ℕ) SpecFault
distribution_given bytes names rows close =
    unless (first_fault (set_fault bytes names) rows)
    (unless (missing_set bytes names close rows)
    (Ok (table_over (length names) (result_over bytes names rows))))
