-- A finite-valued logic, as plain lists and numbers.
use Rattle.std.specs.Prelude.{◌≡◌, ◌≢◌, ℕ, zero, suc, ◌+◌, ◌-◌, ◌/◌, ◌%◌, ◌^◌, ◌<◌, ◌≤◌, List, [], ◌∷◌, ◌++◌, length, map, All, AllPairs, slice_get, slice_index, unwrap_or, position, Option}
use Rattle.std.specs.Str.{bytes_eq}
use Rattle.lgc_values.specs.declared.TheConstants.{MOST_ARGUMENTS, MOST_ROWS, MOST_SYMBOLS, QUOTE}
use Rattle.lgc_values.specs.declared.matrix.Operator.{Operator}
use Rattle.lgc_values.specs.declared.matrix.Quantifier.{Quantifier}
use Rattle.lgc_values.specs.Values.{IsSize, values_where, has, mask_of}

-- the truth values are the numbers below `size`
pub record Logic : Type 0 where
  pub size : ℕ
  pub names : List (List ℕ)
  pub designated : List ℕ
  pub operators : List Operator
  pub quantifiers : List Quantifier

-- one or more printable bytes of ASCII, none of them the quote
pub record IsPlainName (name : List ℕ) : Type 0 where
  pub nonempty : name ≢ []
  pub printable : All (λ b. (32 ≤ b) × (b ≤ 126) × (b ≢ QUOTE)) name

-- the table has a value for each row of arguments
pub record IsOperator (size : ℕ) (operator : Operator) : Type 0 where
  pub named : IsPlainName operator.name
  pub narrow : operator.arity ≤ MOST_ARGUMENTS
  pub short : size ^ operator.arity ≤ MOST_ROWS
  pub rows : length operator.table ≡ size ^ operator.arity
  pub entries : All (λ v. v < size) operator.table

-- the table has a value for each nonempty set of values
pub record IsQuantifier (size : ℕ) (quantifier : Quantifier) : Type 0 where
  pub named : IsPlainName quantifier.name
  pub rows : length quantifier.table ≡ 2 ^ size - 1
  pub entries : All (λ v. v < size) quantifier.table

-- the names of the operators, and then of the quantifiers
abbrev pub symbols_of : Logic → List (List ℕ)
symbols_of logic = map (λ o. o.name) logic.operators ++ map (λ q. q.name) logic.quantifiers

-- what is asked of a logic
pub record IsLogic (logic : Logic) : Type 0 where
  pub sized : IsSize logic.size
  pub named : length logic.names ≡ logic.size
  pub plain : All IsPlainName logic.names
  pub distinct : AllPairs (λ a b. a ≢ b) logic.names
  pub designated : logic.designated ≡ values_where logic.size (has logic.designated)
  pub operators : All (IsOperator logic.size) logic.operators
  pub quantifiers : All (IsQuantifier logic.size) logic.quantifiers
  pub few : length logic.operators + length logic.quantifiers ≤ MOST_SYMBOLS
  pub distinct_symbols : AllPairs (λ a b. a ≢ b) (symbols_of logic)

abbrev pub operator_at : Logic → ℕ → Operator
operator_at logic op = unwrap_or (slice_get logic.operators op) (record { name = []; arity = 0; table = [] })

abbrev pub quantifier_at : Logic → ℕ → Quantifier
quantifier_at logic q = unwrap_or (slice_get logic.quantifiers q) (record { name = []; table = [] })

-- how many rows of arguments an operator has
abbrev pub row_count : Logic → ℕ → ℕ
row_count logic op = logic.size ^ (operator_at logic op).arity

-- the k arguments of the row with this index: its digits, the first the most significant
abbrev pub arguments_at : ℕ → ℕ → ℕ → List ℕ
arguments_at size zero row = []
arguments_at size (suc k) row = row / size ^ k % size ∷ arguments_at size k row

-- the value of an operator at a row, given by its index
abbrev pub value_at : Logic → ℕ → ℕ → ℕ
value_at logic op row = slice_index (operator_at logic op).table row

-- the value of a quantifier at a nonempty set
abbrev pub value_over : Logic → ℕ → List ℕ → ℕ
value_over logic q set = slice_index (quantifier_at logic q).table (mask_of set - 1)

-- ---- names

-- the truth value that has this name
abbrev pub value_named : Logic → List ℕ → Option ℕ
value_named logic text = position (λ name. bytes_eq name text) logic.names

-- the operator that has this name
abbrev pub operator_named : Logic → List ℕ → Option ℕ
operator_named logic text = position (λ o. bytes_eq o.name text) logic.operators

-- the quantifier that has this name
abbrev pub quantifier_named : Logic → List ℕ → Option ℕ
quantifier_named logic text = position (λ q. bytes_eq q.name text) logic.quantifiers
