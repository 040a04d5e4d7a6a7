-- Operators by mapping: a row for each tuple of arguments, in any order.
use Rattle.std.specs.Prelude.{ℕ, ◌^◌, ◌==◌, Bool, not, List, [], ◌∷◌, ◌++◌, map, find, length, Option, Some, None, unwrap_or, option_map, Result, Ok, if◌then◌else◌}
use Rattle.std.specs.Option.{option_or}
use Rattle.std.specs.Str.{bytes_eq}
use Rattle.std.specs.List.{list_any, range_with_len}
use Rattle.lgc_values.specs.Logic.{arguments_at}
use Rattle.lgc_parser.specs.declared.tree.Row.{Row}
use Rattle.lgc_spec.specs.declared.fault.SpecFault.{SpecFault}
use Rattle.lgc_spec.specs.declared.fault.TheConstants.{ROW_WIDTH, DUPLICATE_ROW, MISSING_ROW}
use Rattle.lgc_spec.specs.Faults.{fault_at, keeping, unless}
use Rattle.lgc_spec.specs.InOrder.{first_fault}
use Rattle.lgc_spec.specs.Words.{value_of, names_of, first_unknown}

-- the values of a row's arguments
abbrev pub arguments_of : List ℕ → List (List ℕ) → Row → List ℕ
arguments_of bytes names row = map (value_of bytes names) row.arguments

-- whether a row has these arguments
abbrev pub has_arguments : List ℕ → List (List ℕ) → List ℕ → Row → Bool
has_arguments bytes names arguments row = bytes_eq (arguments_of bytes names row) arguments

-- a row with the arguments of a row before it is a fault, at its first token
abbrev pub row_again : List ℕ → List (List ℕ) → List Row → Row → Option SpecFault
row_again bytes names before row =
    if list_any (has_arguments bytes names (arguments_of bytes names row)) before then Some (fault_at DUPLICATE_ROW row.at) else None

-- A row that has another number of arguments is a fault, at its first token; then its first unknown value is one, among
-- its arguments and its result; and then the arguments of a row before it.
abbrev pub row_fault : List ℕ → List (List ℕ) → ℕ → List Row → Row → Option SpecFault
row_fault bytes names arity before row =
    if length row.arguments == arity
    then option_or (first_unknown bytes names (row.arguments ++ row.value ∷ [])) (row_again bytes names before row)
    else Some (fault_at ROW_WIDTH row.at)

-- the first row with the arguments of this index
abbrev pub row_at : List ℕ → List (List ℕ) → ℕ → List Row → ℕ → Option Row
row_at bytes names arity rows index = find (has_arguments bytes names (arguments_at (length names) arity index)) rows

-- the indices of all tuples of arguments
abbrev pub indices : List (List ℕ) → ℕ → List ℕ
indices names arity = range_with_len 0 (length names ^ arity)

-- the absent row with the least index, at the closing bracket
abbrev pub missing_row : List ℕ → List (List ℕ) → ℕ → ℕ → List Row → Option SpecFault
missing_row bytes names arity close rows =
    option_map (λ index. keeping MISSING_ROW close (names_of names (arguments_at (length names) arity index)))
    (find (λ index. not (list_any (has_arguments bytes names (arguments_at (length names) arity index)) rows)) (indices names arity))

-- the result at an index
abbrev pub result_at : List ℕ → List (List ℕ) → ℕ → List Row → ℕ → ℕ
result_at bytes names arity rows index = unwrap_or (option_map (λ row. value_of bytes names row.value) (row_at bytes names arity rows index)) 0

-- the table of a mapping
abbrev pub mapping_given : List ℕ → List (List ℕ) → ℕ → List Row → ℕ → Result (List ℕ) SpecFault
mapping_given bytes names arity rows close =
    unless (first_fault (row_fault bytes names arity) rows)
    (unless (missing_row bytes names arity close rows)
    (Ok (map (result_at bytes names arity rows) (indices names arity))))
