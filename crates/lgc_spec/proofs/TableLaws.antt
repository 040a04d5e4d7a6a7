-- Places of cells in a table.
use Rattle.std.proofs.Common.{◌≡◌, ℕ, ◌+◌, ◌*◌, ◌<◌, ◌≤◌, List, [], ◌∷◌, ◌++◌, All, length, map, get_or, sym, ap, ◌∙◌, arith}
use Rattle.std.specs.List.{range_with_len}
use Rattle.std.proofs.Math.Nat.{mul-le-mul_left}
use Rattle.std.proofs.lemmas.Nat.{mul-add-lt}
use Rattle.std.proofs.lemmas.List.Elements.{All-map}
use Rattle.std.proofs.lemmas.List.FromFn.{length-range_with_len, get_or-range_with_len, length-map-range_with_len, map-range_with_len_more}
use Rattle.lgc_values.specs.declared.TheConstants.{MOST_VALUES}
use Rattle.lgc_parser.specs.declared.tree.Word.{Word}
use Rattle.lgc_spec.specs.Words.{LiesIn, value_of}
use Rattle.lgc_spec.specs.Tables.{cell_at, header, headings, heading_place, place_of, table_value}

-- the cell of a line and a column is one of the cells
pub cell_within : (n line column : ℕ) → line < n → column < n → n + line * (n + 1) + 1 + column < n * n + 2 * n
cell_within n line column a b =
    let place : line * (n + 1) + (column + 1) < (n + 1) * n = mul-add-lt line (n + 1) (column + 1) n a (omega arith) in
    let whole : (n + 1) * n ≡ n * n + n = grind arith in
    omega arith

pub heading_within : (n line : ℕ) → line < n → heading_place n line < n * n + 2 * n
heading_within n line lt = let next = cell_within n line 0 lt (omega arith) in omega arith

pub few_cells : (n : ℕ) → n ≤ MOST_VALUES → n * n + 2 * n ≤ MOST_VALUES * MOST_VALUES + 2 * MOST_VALUES
few_cells n few = let square : n * n ≤ n * MOST_VALUES = mul-le-mul_left n few in omega arith

pub length-headings : (n : ℕ) (cells : List Word) → length (headings n cells) ≡ n
length-headings n cells = length-map-range_with_len (λ line. cell_at cells (heading_place n line)) 0 n

pub headings_lie : (len n : ℕ) (cells : List Word) → length cells ≡ n * n + 2 * n → All (LiesIn len) cells → All (LiesIn len) (headings n cells)
headings_lie len n cells whole all =
    All-map (LiesIn len) (λ line. cell_at cells (heading_place n line)) (range_with_len 0 n)
    (λ k d lt.
    let size : length (range_with_len 0 n) ≡ n = length-range_with_len 0 n in
    let here : get_or (range_with_len 0 n) k d ≡ 0 + k = get_or-range_with_len 0 n k d (omega arith) in
    let z : 0 + k ≡ k = omega arith in
    let within : heading_place n k < n * n + 2 * n = heading_within n k (omega arith) in
    rw (here, z) (all (heading_place n k) (record { start = 0; end = 0; at = 0 }) (omega arith)))

pub one_more_place : {X : Type 0} (f : ℕ → X) (i : ℕ) (xs ys : List X) (y : X) → xs ≡ map f (range_with_len 0 i) → ys ≡ xs ++ y ∷ [] → y ≡ f i → ys ≡ map f (range_with_len 0 (i + 1))
one_more_place f i xs ys y so_far push here =
    push ∙ rw (so_far, here) (sym (map-range_with_len_more f 0 i i (omega arith)))

pub result_is : (bytes : List ℕ) (names : List (List ℕ)) (cells lines : List Word) (a b line column value : ℕ) → lines ≡ headings (length names) cells → line ≡ place_of bytes names lines a → column ≡ place_of bytes names (header (length names) cells) b → value ≡ value_of bytes names (cell_at cells (length names + line * (length names + 1) + 1 + column)) → value ≡ table_value bytes names cells a b
result_is bytes names cells lines a b line column value e l c v =
    let l' : line ≡ place_of bytes names (headings (length names) cells) a = l ∙ ap (λ ws. place_of bytes names ws a) e in
    v ∙ ap (λ i. value_of bytes names (cell_at cells (length names + i * (length names + 1) + 1 + column))) l' ∙ ap (λ j. value_of bytes names (cell_at cells (heading_place (length names) (place_of bytes names (headings (length names) cells) a) + 1 + j))) c
