-- The truth values, and the designated ones among them.
use Rattle.std.specs.Prelude.{ℕ, ◌==◌, nat_lt, List, map, length, Option, Some, None, option_map, Result, Ok, slice_get, if◌then◌else◌}
use Rattle.std.specs.List.{list_any}
use Rattle.lgc_values.specs.declared.TheConstants.{MOST_VALUES}
use Rattle.lgc_values.specs.Values.{values_where}
use Rattle.lgc_parser.specs.declared.tree.Word.{Word}
use Rattle.lgc_spec.specs.declared.fault.SpecFault.{SpecFault}
use Rattle.lgc_spec.specs.declared.fault.TheConstants.{TOO_FEW_VALUES, TOO_MANY_VALUES, DUPLICATE_VALUE}
use Rattle.lgc_spec.specs.Faults.{fault_at, unless}
use Rattle.lgc_spec.specs.Words.{text_of, value_of, first_repeat, first_unknown}

-- fewer than two values are written: at the word `truth_values`
abbrev pub too_few : ℕ → List Word → Option SpecFault
too_few at words = if nat_lt (length words) 2 then Some (fault_at TOO_FEW_VALUES at) else None

-- more values are written than a logic has: at the first that is too many
abbrev pub too_many : List Word → Option SpecFault
too_many words = option_map (λ w. fault_at TOO_MANY_VALUES w.at) (slice_get words MOST_VALUES)

-- the names of the truth values
abbrev pub names_given : List ℕ → ℕ → List Word → Result (List (List ℕ)) SpecFault
names_given bytes at words =
    unless (too_few at words) (unless (too_many words) (unless (first_repeat DUPLICATE_VALUE bytes words) (Ok (map (text_of bytes) words))))

-- the values that some words name, rising
abbrev pub values_named : List ℕ → List (List ℕ) → List Word → List ℕ
values_named bytes names words = values_where (length names) (λ v. list_any (λ w. value_of bytes names w == v) words)

-- the designated values
abbrev pub designated_given : List ℕ → List (List ℕ) → List Word → Result (List ℕ) SpecFault
designated_given bytes names words = unless (first_unknown bytes names words) (Ok (values_named bytes names words))
