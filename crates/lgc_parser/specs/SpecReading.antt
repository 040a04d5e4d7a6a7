-- The readers of specifications, line by line as their grammar.
use Rattle.std.specs.Prelude.{ℕ, Bool, List, [], ◌∷◌}
use Rattle.lgc_grammar.specs.Reading.{Reader, one_at, nothing_at, map_at, ◌>>=◌, ◌>>◌, either_at, optional_at, many_at, separated_at, loosely_at, between_at}
use Rattle.lgc_parser.specs.declared.tree.Word.{Word}
use Rattle.lgc_parser.specs.declared.tree.Row.{Row}
use Rattle.lgc_parser.specs.declared.tree.OpBody.{OpBody}
use Rattle.lgc_parser.specs.declared.tree.OpBody.TheVariants as op
use Rattle.lgc_parser.specs.declared.tree.QuantBody.{QuantBody}
use Rattle.lgc_parser.specs.declared.tree.QuantBody.TheVariants as quant
use Rattle.lgc_parser.specs.declared.tree.Statement.{Statement}
use Rattle.lgc_parser.specs.declared.tree.Statement.TheVariants as statement
use Rattle.lgc_parser.specs.declared.rows.RowKind.{RowKind}
use Rattle.lgc_parser.specs.declared.rows.RowKind.TheVariants as kind
use Rattle.lgc_tokens.specs.declared.class.Class.TheVariants.{LogicWord, ValuesWord, DesignatedWord, OrderingWord, OperatorWord, QuantifierWord, MappingWord, TableWord, InducedWord, InfWord, Text, OpenRound, CloseRound, OpenBrace, CloseBrace, OpenSquare, CloseSquare, Comma, Dot, Colon, Slash}
use Rattle.lgc_tokens.specs.Spelled.{Spelled, place_of}
use Rattle.lgc_tokens.specs.Classes.{is, is_name_or_symbol, is_value, is_logic_name, is_bound, starts_row, starts_bracketed, starts_statement, is_digits_alone}
use Rattle.lgc_parser.specs.Reads.{word_at, words_at}

-- ---- in brackets

abbrev pub enclosed_at : {A : Type 0} → (Spelled → Bool) → Reader Spelled A → (Spelled → Bool) → Reader Spelled (ℕ × A × ℕ)
enclosed_at opens inside closes = do
  start ← one_at opens
  tree ← inside
  end ← one_at closes
  nothing_at (place_of start, tree, place_of end)

abbrev pub bracketed_at : {A : Type 0} → Reader Spelled A → Reader Spelled (ℕ × A × ℕ)
bracketed_at inside = either_at (is OpenBrace) (enclosed_at (is OpenBrace) inside (is CloseBrace)) (enclosed_at (is OpenSquare) inside (is CloseSquare))

-- values, or none
unfoldable pub values_at : Reader Spelled (List Word)
values_at ts = optional_at is_value [] (words_at is_value) ts

unfoldable pub set_at : Reader Spelled (ℕ × List Word × ℕ)
set_at ts = bracketed_at values_at ts

-- cells with commas between some
unfoldable pub some_cells_at : Reader Spelled (List Word)
some_cells_at ts = loosely_at (is Comma) is_value (word_at is_value) ts

unfoldable pub inner_cells_at : Reader Spelled (List Word)
inner_cells_at ts = optional_at is_value [] some_cells_at ts

unfoldable pub cells_at : Reader Spelled (ℕ × List Word × ℕ)
cells_at ts = bracketed_at inner_cells_at ts

-- ---- rows

unfoldable pub several_at : Reader Spelled (ℕ × List Word)
several_at = do
  start ← one_at (is OpenRound)
  arguments ← values_at
  one_at (is CloseRound)
  nothing_at (place_of start, arguments)

unfoldable pub arguments_at : Reader Spelled (ℕ × List Word)
arguments_at ts = either_at (is OpenRound) several_at (map_at (λ v. (v.at, v ∷ [])) (word_at is_value)) ts

unfoldable pub op_row_at : Reader Spelled Row
op_row_at = do
  arguments ← arguments_at
  one_at (is Colon)
  value ← word_at is_value
  nothing_at (record { at = arguments.0; arguments = arguments.1; value = value })

unfoldable pub quant_row_at : Reader Spelled Row
quant_row_at = do
  set ← set_at
  one_at (is Colon)
  value ← word_at is_value
  nothing_at (record { at = set.0; arguments = set.1; value = value })

-- the rows of operators and of quantifiers
abbrev pub row_at : RowKind → Reader Spelled Row
row_at kind.OfOperator = op_row_at
row_at kind.OfQuantifier = quant_row_at

-- what a row begins with
abbrev pub starts : RowKind → Spelled → Bool
starts kind.OfOperator = starts_row
starts kind.OfQuantifier = starts_bracketed

-- one row or more
unfoldable pub some_rows_at : RowKind → Reader Spelled (List Row)
some_rows_at k ts = separated_at (is Comma) (row_at k) ts

unfoldable pub inner_rows_at : RowKind → Reader Spelled (List Row)
inner_rows_at k ts = optional_at (starts k) [] (some_rows_at k) ts

unfoldable pub rows_at : RowKind → Reader Spelled (ℕ × List Row × ℕ)
rows_at k ts = bracketed_at (inner_rows_at k) ts

-- ---- the bodies of operators and quantifiers

unfoldable pub op_mapping_at : Reader Spelled OpBody
op_mapping_at = do
  one_at (is MappingWord)
  rows ← rows_at kind.OfOperator
  nothing_at (op.Mapping rows.1 rows.2)

unfoldable pub op_table_at : Reader Spelled OpBody
op_table_at = do
  keyword ← one_at (is TableWord)
  cells ← cells_at
  nothing_at (op.Table (place_of keyword) cells.1)

unfoldable pub op_bound_at : Reader Spelled OpBody
op_bound_at = do
  keyword ← one_at is_bound
  one_at (is OpenRound)
  ordering ← word_at is_name_or_symbol
  one_at (is CloseRound)
  nothing_at (op.Bound (place_of keyword) (is InfWord keyword) ordering)

unfoldable pub op_body_at : Reader Spelled OpBody
op_body_at ts = either_at (is MappingWord) op_mapping_at (either_at (is TableWord) op_table_at op_bound_at) ts

unfoldable pub quant_mapping_at : Reader Spelled QuantBody
quant_mapping_at = do
  one_at (is MappingWord)
  rows ← rows_at kind.OfQuantifier
  nothing_at (quant.Mapping rows.1 rows.2)

unfoldable pub sized_at : Reader Spelled QuantBody
sized_at = do
  operator ← word_at is_name_or_symbol
  one_at (is Slash)
  arity ← word_at is_digits_alone
  nothing_at (quant.Induced operator arity)

unfoldable pub induced_at : Reader Spelled QuantBody
induced_at ts = either_at (is OpenRound) (between_at (is OpenRound) sized_at (is CloseRound)) sized_at ts

unfoldable pub quant_induced_at : Reader Spelled QuantBody
quant_induced_at = do
  one_at (is InducedWord)
  body ← induced_at
  nothing_at body

unfoldable pub quant_bound_at : Reader Spelled QuantBody
quant_bound_at = do
  keyword ← one_at is_bound
  one_at (is OpenRound)
  ordering ← word_at is_name_or_symbol
  one_at (is CloseRound)
  nothing_at (quant.Bound (place_of keyword) (is InfWord keyword) ordering)

unfoldable pub quant_body_at : Reader Spelled QuantBody
quant_body_at ts = either_at (is MappingWord) quant_mapping_at (either_at (is InducedWord) quant_induced_at quant_bound_at) ts

-- ---- statements

unfoldable pub logic_at : Reader Spelled Statement
logic_at = do
  keyword ← one_at (is LogicWord)
  name ← word_at is_logic_name
  nothing_at (statement.Logic (place_of keyword) name)

unfoldable pub truth_values_at : Reader Spelled Statement
truth_values_at = do
  keyword ← one_at (is ValuesWord)
  set ← set_at
  nothing_at (statement.Values (place_of keyword) set.1)

unfoldable pub designated_at : Reader Spelled Statement
designated_at = do
  keyword ← one_at (is DesignatedWord)
  set ← set_at
  nothing_at (statement.Designated (place_of keyword) set.1)

unfoldable pub ordering_at : Reader Spelled Statement
ordering_at = do
  one_at (is OrderingWord)
  one_at (is OpenRound)
  name ← word_at is_name_or_symbol
  one_at (is Comma)
  text ← word_at (is Text)
  one_at (is CloseRound)
  nothing_at (statement.Ordering name text)

unfoldable pub operator_at : Reader Spelled Statement
operator_at = do
  one_at (is OperatorWord)
  one_at (is OpenRound)
  name ← word_at is_name_or_symbol
  one_at (is Slash)
  arity ← word_at is_digits_alone
  one_at (is Comma)
  body ← op_body_at
  one_at (is CloseRound)
  nothing_at (statement.Operator name arity body)

unfoldable pub quantifier_at : Reader Spelled Statement
quantifier_at = do
  one_at (is QuantifierWord)
  one_at (is OpenRound)
  name ← word_at is_name_or_symbol
  one_at (is Comma)
  body ← quant_body_at
  one_at (is CloseRound)
  nothing_at (statement.Quantifier name body)

unfoldable pub statement_at : Reader Spelled Statement
statement_at ts = either_at (is LogicWord) logic_at (either_at (is ValuesWord) truth_values_at (either_at (is DesignatedWord) designated_at (either_at (is OrderingWord) ordering_at (either_at (is OperatorWord) operator_at quantifier_at)))) ts

unfoldable pub sentence_at : Reader Spelled Statement
sentence_at = do
  tree ← statement_at
  one_at (is Dot)
  nothing_at tree

unfoldable pub spec_at : Reader Spelled (List Statement)
spec_at ts = many_at starts_statement sentence_at ts
