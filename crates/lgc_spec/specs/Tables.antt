-- Operators of two arguments by table: a header, and for each value a line with its heading and its cells.
use Rattle.std.specs.Prelude.{ℕ, ◌+◌, ◌*◌, ◌/◌, ◌%◌, ◌==◌, ◌&&◌, List, map, take, length, position, Option, Some, None, unwrap_or, Result, Ok, slice_index_or, if◌then◌else◌}
use Rattle.std.specs.List.{range_with_len}
use Rattle.lgc_parser.specs.declared.tree.Word.{Word}
use Rattle.lgc_spec.specs.declared.fault.SpecFault.{SpecFault}
use Rattle.lgc_spec.specs.declared.fault.TheConstants.{TABLE_SHAPE, TABLE_HEADER}
use Rattle.lgc_spec.specs.Faults.{fault_at, unless}
use Rattle.lgc_spec.specs.Words.{value_of, first_unknown, first_repeat}

abbrev pub cell_at : List Word → ℕ → Word
cell_at cells i = slice_index_or cells i (record { start = 0; end = 0; at = 0 })

-- the header has n cells and names the values of the second argument
abbrev pub header : ℕ → List Word → List Word
header n cells = take n cells

-- each of the n lines behind the header begins with its heading, a value of the first argument, and has n cells more
abbrev pub heading_place : ℕ → ℕ → ℕ
heading_place n line = n + line * (n + 1)

abbrev pub headings : ℕ → List Word → List Word
headings n cells = map (λ line. cell_at cells (heading_place n line)) (range_with_len 0 n)

-- there are two arguments, and as many cells as a header and n lines have; else at the word `table`
abbrev pub misshapen : ℕ → ℕ → ℕ → List Word → Option SpecFault
misshapen n arity at cells = if arity == 2 && length cells == n * n + 2 * n then None else Some (fault_at TABLE_SHAPE at)

-- the place of the word that names a value
abbrev pub place_of : List ℕ → List (List ℕ) → List Word → ℕ → ℕ
place_of bytes names words value = unwrap_or (position (λ w. value_of bytes names w == value) words) 0

-- the value at the arguments a and b: the cell in the line with the heading a, under the b of the header
abbrev pub table_value : List ℕ → List (List ℕ) → List Word → ℕ → ℕ → ℕ
table_value bytes names cells a b =
    let n = length names in
    value_of bytes names (cell_at cells (heading_place n (place_of bytes names (headings n cells) a) + 1 + place_of bytes names (header n cells) b))

-- the table, by rows of arguments
abbrev pub table_given : List ℕ → List (List ℕ) → ℕ → ℕ → List Word → Result (List ℕ) SpecFault
table_given bytes names arity at cells =
    let n = length names in
    unless (misshapen n arity at cells)
    (unless (first_unknown bytes names cells)
    (unless (first_repeat TABLE_HEADER bytes (header n cells))
    (unless (first_repeat TABLE_HEADER bytes (headings n cells))
    (Ok (map (λ row. table_value bytes names cells (row / n) (row % n)) (range_with_len 0 (n * n)))))))
