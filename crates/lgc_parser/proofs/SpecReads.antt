-- The readers of specifications read their grammar.
use Rattle.std.proofs.Common.{◌≡◌, ℕ, Bool, true, false, List, [], ◌∷◌, Ok, Err, refl}
use Rattle.std.specs.Prelude.{◌||◌}
use Rattle.lgc_grammar.specs.Grammar.{Grammar, AnswersAll, Breaks, Optional, Separated, Loosely}
use Rattle.lgc_grammar.specs.Reading.{Reader, whole}
use Rattle.lgc_grammar.proofs.Readers.{ReadsAll, Start, Must, May, never, whole_answers_all, whole_complete}
use Rattle.lgc_grammar.proofs.Basic.{nothing_all, map_all}
use Rattle.lgc_grammar.proofs.Sequences.{then_all, then_all_if, between_all}
use Rattle.lgc_grammar.proofs.Choices.{either_all, optional_all}
use Rattle.lgc_grammar.proofs.Repetitions.{many_all, separated_all, loosely_all}
use Rattle.lgc_parser.specs.declared.tree.Word.{Word}
use Rattle.lgc_parser.specs.declared.tree.Row.{Row}
use Rattle.lgc_parser.specs.declared.tree.OpBody.TheVariants as op
use Rattle.lgc_parser.specs.declared.tree.QuantBody.TheVariants as quant
use Rattle.lgc_parser.specs.declared.tree.Statement.{Statement}
use Rattle.lgc_parser.specs.declared.tree.Statement.TheVariants as statement
use Rattle.lgc_parser.specs.declared.rows.RowKind.{RowKind}
use Rattle.lgc_parser.specs.declared.rows.RowKind.TheVariants as kind
use Rattle.lgc_tokens.specs.declared.class.Class.{Class}
use Rattle.lgc_tokens.specs.declared.class.Class.TheVariants.{LogicWord, ValuesWord, DesignatedWord, OrderingWord, OperatorWord, QuantifierWord, MappingWord, TableWord, InducedWord, InfWord, Text, OpenRound, CloseRound, OpenBrace, CloseBrace, OpenSquare, CloseSquare, Comma, Dot, Colon, Slash}
use Rattle.lgc_tokens.specs.declared.terminal.Terminal.TheVariants.{Only, NameOrSymbol, Value, LogicName, DigitsAlone, Bound}
use Rattle.lgc_tokens.specs.Spelled.{Spelled, place_of}
use Rattle.lgc_tokens.specs.Classes.{same, names_or_symbols, values, bounds, begins_row, begins_bracketed, is, is_name_or_symbol, is_value, is_bound, starts_row, starts_bracketed, starts_statement}
use Rattle.lgc_parser.specs.SpecGrammar.{Values, Enclosed, Bracketed, Set, Cells, Several, Arguments, OpRow, QuantRow, Rows, OpMapping, OpTable, OpBound, BodyOfOp, QuantMapping, Sized, Induced, QuantInduced, QuantBound, BodyOfQuant, Logic, TruthValues, Designated, Ordering, Operator, Quantifier, OneStatement, Sentence, Spec}
use Rattle.lgc_parser.specs.SpecGrammar as grammar
use Rattle.lgc_parser.specs.SpecReading.{enclosed_at, bracketed_at, values_at, set_at, some_cells_at, inner_cells_at, cells_at, several_at, arguments_at, op_row_at, quant_row_at, row_at, starts, some_rows_at, inner_rows_at, rows_at, op_mapping_at, op_table_at, op_bound_at, op_body_at, quant_mapping_at, sized_at, induced_at, quant_induced_at, quant_bound_at, quant_body_at, logic_at, truth_values_at, designated_at, ordering_at, operator_at, quantifier_at, statement_at, sentence_at, spec_at}
use Rattle.lgc_parser.specs.Gives.{Shortens}
use Rattle.lgc_parser.proofs.Tops.{unbroken}
use Rattle.lgc_parser.proofs.Lists.{shortens}
use Rattle.lgc_tokens.proofs.Tables.{off, one, one_of}
use Rattle.lgc_parser.proofs.WordReads.{word_reads}
use Rattle.lgc_parser.proofs.WordReads.{words_read}

-- ---- in brackets

module _ {A : Type 0} {p : Reader Spelled A} {L : Grammar Spelled A} {start : Start Spelled} {go : Spelled → Bool} (reads : ReadsAll p L start go) where
  enclosed_reads : (opens closes : Class) → ((t : Spelled) → is closes t ≡ true → go t ≡ false) → ReadsAll (enclosed_at (is opens) p (is closes)) (Enclosed (is opens) L (is closes)) (Must (is opens)) never
  enclosed_reads opens closes ends =
      then_all (one opens) (λ first.
      then_all_if reads (λ tree.
      then_all (one closes) (λ last.
      nothing_all (place_of first, tree, place_of last) never))
      ends)

  bracketed_reads : ((t : Spelled) → is CloseBrace t ≡ true → go t ≡ false) → ((t : Spelled) → is CloseSquare t ≡ true → go t ≡ false) → ReadsAll (bracketed_at p) (Bracketed L) (Must starts_bracketed) never
  bracketed_reads brace square =
      either_all (enclosed_reads OpenBrace CloseBrace brace) (enclosed_reads OpenSquare CloseSquare square)
      (off (same OpenSquare) (same OpenBrace) refl)

values_read : ReadsAll values_at (Optional [] Values) (May is_value) (λ t. is_value t || (is Comma t || never t))
unfolding values_at
values_read = optional_all [] (words_read Value)

pub set_reads : ReadsAll set_at Set (Must starts_bracketed) never
unfolding set_at
set_reads = bracketed_reads values_read (off (same CloseBrace) (λ c. values c || (same Comma c || false)) refl) (off (same CloseSquare) (λ c. values c || (same Comma c || false)) refl)

some_cells_read : ReadsAll some_cells_at (Loosely (is Comma) (grammar.Value)) (Must is_value) (λ t. (is Comma t || is_value t) || never t)
unfolding some_cells_at
some_cells_read = loosely_all (one Comma) (word_reads Value) (off values (same Comma) refl) (λ t h. refl) (λ t h. refl)

inner_cells_read : ReadsAll inner_cells_at (Optional [] (Loosely (is Comma) (grammar.Value))) (May is_value) (λ t. is_value t || ((is Comma t || is_value t) || never t))
unfolding inner_cells_at
inner_cells_read = optional_all [] some_cells_read

cells_read : ReadsAll cells_at Cells (Must starts_bracketed) never
unfolding cells_at
cells_read = bracketed_reads inner_cells_read (off (same CloseBrace) (λ c. values c || ((same Comma c || values c) || false)) refl) (off (same CloseSquare) (λ c. values c || ((same Comma c || values c) || false)) refl)

-- ---- rows

several_reads : ReadsAll several_at Several (Must (is OpenRound)) never
unfolding several_at
several_reads =
    then_all (one OpenRound) (λ first.
    then_all_if values_read (λ arguments.
    then_all (one CloseRound) (λ _.
    nothing_all (place_of first, arguments) never))
    (off (same CloseRound) (λ c. values c || (same Comma c || false)) refl))

arguments_read : ReadsAll arguments_at Arguments (Must starts_row) never
unfolding arguments_at
arguments_read = either_all several_reads (map_all (λ v. (v.at, v ∷ [])) (word_reads Value)) (off values (same OpenRound) refl)

abbrev row_of : ℕ → List Word → Word → Row
row_of at arguments value = record { at = at; arguments = arguments; value = value }

op_row_reads : ReadsAll op_row_at OpRow (Must starts_row) never
unfolding op_row_at
op_row_reads =
    then_all arguments_read (λ arguments.
    then_all (one Colon) (λ _.
    then_all (word_reads Value) (λ value.
    nothing_all (row_of arguments.0 arguments.1 value) never)))

quant_row_reads : ReadsAll quant_row_at QuantRow (Must starts_bracketed) never
unfolding quant_row_at
quant_row_reads =
    then_all set_reads (λ set.
    then_all (one Colon) (λ _.
    then_all (word_reads Value) (λ value.
    nothing_all (row_of set.0 set.1 value) never)))

abbrev RowOf : RowKind → Grammar Spelled Row
RowOf kind.OfOperator = OpRow
RowOf kind.OfQuantifier = QuantRow

pub row_reads : (k : RowKind) → ReadsAll (row_at k) (RowOf k) (Must (starts k)) never
row_reads kind.OfOperator = op_row_reads
row_reads kind.OfQuantifier = quant_row_reads

some_rows_read : (k : RowKind) → ReadsAll (some_rows_at k) (Separated (is Comma) (RowOf k)) (Must (starts k)) (λ t. is Comma t || never t)
unfolding some_rows_at
some_rows_read k = separated_all (one Comma) (row_reads k) (λ t h. refl)

inner_rows_read : (k : RowKind) → ReadsAll (inner_rows_at k) (Optional [] (Separated (is Comma) (RowOf k))) (May (starts k)) (λ t. starts k t || (is Comma t || never t))
unfolding inner_rows_at
inner_rows_read k = optional_all [] (some_rows_read k)

rows_read : (k : RowKind) → ReadsAll (rows_at k) (Rows (RowOf k)) (Must starts_bracketed) never
unfolding rows_at
rows_read kind.OfOperator = bracketed_reads (inner_rows_read kind.OfOperator) (off (same CloseBrace) (λ c. begins_row c || (same Comma c || false)) refl) (off (same CloseSquare) (λ c. begins_row c || (same Comma c || false)) refl)
rows_read kind.OfQuantifier = bracketed_reads (inner_rows_read kind.OfQuantifier) (off (same CloseBrace) (λ c. begins_bracketed c || (same Comma c || false)) refl) (off (same CloseSquare) (λ c. begins_bracketed c || (same Comma c || false)) refl)

-- ---- the bodies of operators and quantifiers

op_mapping_reads : ReadsAll op_mapping_at OpMapping (Must (is MappingWord)) never
unfolding op_mapping_at
op_mapping_reads = then_all (one MappingWord) (λ _. then_all (rows_read kind.OfOperator) (λ rows. nothing_all (op.Mapping rows.1 rows.2) never))

op_table_reads : ReadsAll op_table_at OpTable (Must (is TableWord)) never
unfolding op_table_at
op_table_reads = then_all (one TableWord) (λ keyword. then_all cells_read (λ cells. nothing_all (op.Table (place_of keyword) cells.1) never))

op_bound_reads : ReadsAll op_bound_at OpBound (Must is_bound) never
unfolding op_bound_at
op_bound_reads =
    then_all (one_of Bound) (λ keyword.
    then_all (one OpenRound) (λ _.
    then_all (word_reads NameOrSymbol) (λ ordering.
    then_all (one CloseRound) (λ _.
    nothing_all (op.Bound (place_of keyword) (is InfWord keyword) ordering) never))))

op_body_reads : ReadsAll op_body_at BodyOfOp (Must (λ t. is MappingWord t || (is TableWord t || is_bound t))) never
unfolding op_body_at
op_body_reads =
    either_all op_mapping_reads
    (either_all op_table_reads op_bound_reads (off bounds (same TableWord) refl))
    (off (λ c. same TableWord c || bounds c) (same MappingWord) refl)

quant_mapping_reads : ReadsAll quant_mapping_at QuantMapping (Must (is MappingWord)) never
unfolding quant_mapping_at
quant_mapping_reads = then_all (one MappingWord) (λ _. then_all (rows_read kind.OfQuantifier) (λ rows. nothing_all (quant.Mapping rows.1 rows.2) never))

sized_reads : ReadsAll sized_at Sized (Must is_name_or_symbol) never
unfolding sized_at
sized_reads =
    then_all (word_reads NameOrSymbol) (λ operator.
    then_all (one Slash) (λ _.
    then_all (word_reads DigitsAlone) (λ arity.
    nothing_all (quant.Induced operator arity) never)))

induced_reads : ReadsAll induced_at Induced (Must (λ t. is OpenRound t || is_name_or_symbol t)) never
unfolding induced_at
induced_reads = either_all (between_all (one OpenRound) sized_reads (one CloseRound) (λ t h. refl)) sized_reads (off names_or_symbols (same OpenRound) refl)

quant_induced_reads : ReadsAll quant_induced_at QuantInduced (Must (is InducedWord)) never
unfolding quant_induced_at
quant_induced_reads = then_all (one InducedWord) (λ _. then_all induced_reads (λ body. nothing_all body never))

quant_bound_reads : ReadsAll quant_bound_at QuantBound (Must is_bound) never
unfolding quant_bound_at
quant_bound_reads =
    then_all (one_of Bound) (λ keyword.
    then_all (one OpenRound) (λ _.
    then_all (word_reads NameOrSymbol) (λ ordering.
    then_all (one CloseRound) (λ _.
    nothing_all (quant.Bound (place_of keyword) (is InfWord keyword) ordering) never))))

quant_body_reads : ReadsAll quant_body_at BodyOfQuant (Must (λ t. is MappingWord t || (is InducedWord t || is_bound t))) never
unfolding quant_body_at
quant_body_reads =
    either_all quant_mapping_reads
    (either_all quant_induced_reads quant_bound_reads (off bounds (same InducedWord) refl))
    (off (λ c. same InducedWord c || bounds c) (same MappingWord) refl)

-- ---- statements

logic_reads : ReadsAll logic_at Logic (Must (is LogicWord)) never
unfolding logic_at
logic_reads = then_all (one LogicWord) (λ keyword. then_all (word_reads LogicName) (λ name. nothing_all (statement.Logic (place_of keyword) name) never))

truth_values_read : ReadsAll truth_values_at TruthValues (Must (is ValuesWord)) never
unfolding truth_values_at
truth_values_read = then_all (one ValuesWord) (λ keyword. then_all set_reads (λ set. nothing_all (statement.Values (place_of keyword) set.1) never))

designated_reads : ReadsAll designated_at Designated (Must (is DesignatedWord)) never
unfolding designated_at
designated_reads = then_all (one DesignatedWord) (λ keyword. then_all set_reads (λ set. nothing_all (statement.Designated (place_of keyword) set.1) never))

ordering_reads : ReadsAll ordering_at Ordering (Must (is OrderingWord)) never
unfolding ordering_at
ordering_reads =
    then_all (one OrderingWord) (λ _.
    then_all (one OpenRound) (λ _.
    then_all (word_reads NameOrSymbol) (λ name.
    then_all (one Comma) (λ _.
    then_all (word_reads (Only Text)) (λ text.
    then_all (one CloseRound) (λ _.
    nothing_all (statement.Ordering name text) never))))))

operator_reads : ReadsAll operator_at Operator (Must (is OperatorWord)) never
unfolding operator_at
operator_reads =
    then_all (one OperatorWord) (λ _.
    then_all (one OpenRound) (λ _.
    then_all (word_reads NameOrSymbol) (λ name.
    then_all (one Slash) (λ _.
    then_all (word_reads DigitsAlone) (λ arity.
    then_all (one Comma) (λ _.
    then_all op_body_reads (λ body.
    then_all (one CloseRound) (λ _.
    nothing_all (statement.Operator name arity body) never))))))))

quantifier_reads : ReadsAll quantifier_at Quantifier (Must (is QuantifierWord)) never
unfolding quantifier_at
quantifier_reads =
    then_all (one QuantifierWord) (λ _.
    then_all (one OpenRound) (λ _.
    then_all (word_reads NameOrSymbol) (λ name.
    then_all (one Comma) (λ _.
    then_all quant_body_reads (λ body.
    then_all (one CloseRound) (λ _.
    nothing_all (statement.Quantifier name body) never))))))

statement_reads : ReadsAll statement_at OneStatement (Must starts_statement) never
unfolding statement_at
statement_reads =
    either_all logic_reads
    (either_all truth_values_read
    (either_all designated_reads
    (either_all ordering_reads
    (either_all operator_reads quantifier_reads
    (off (same QuantifierWord) (same OperatorWord) refl))
    (off (λ c. same OperatorWord c || same QuantifierWord c) (same OrderingWord) refl))
    (off (λ c. same OrderingWord c || (same OperatorWord c || same QuantifierWord c)) (same DesignatedWord) refl))
    (off (λ c. same DesignatedWord c || (same OrderingWord c || (same OperatorWord c || same QuantifierWord c))) (same ValuesWord) refl))
    (off (λ c. same ValuesWord c || (same DesignatedWord c || (same OrderingWord c || (same OperatorWord c || same QuantifierWord c)))) (same LogicWord) refl)

pub sentence_reads : ReadsAll sentence_at Sentence (Must starts_statement) never
unfolding sentence_at
sentence_reads = then_all statement_reads (λ tree. then_all (one Dot) (λ _. nothing_all tree never))

spec_reads : ReadsAll spec_at Spec (May starts_statement) (λ t. starts_statement t || never t)
unfolding spec_at
spec_reads = many_all sentence_reads (λ t h. refl)

pub spec_answers : (ts : List Spelled) → AnswersAll Spec ts (whole spec_at ts)
spec_answers = whole_answers_all spec_reads

pub spec_complete : (statements : List Statement) (ts : List Spelled) → Spec (Ok statements) ts → whole spec_at ts ≡ Ok statements
spec_complete = whole_complete spec_reads

pub spec_unbroken : (ts rest : List Spelled) (n : ℕ) → spec_at ts ≡ Err (rest, Breaks n) → ⊥
spec_unbroken = unbroken spec_reads

-- reading one leaves no more tokens than there were
pub row_shortens : (k : RowKind) → Shortens (row_at k)
row_shortens k = shortens (row_reads k)
