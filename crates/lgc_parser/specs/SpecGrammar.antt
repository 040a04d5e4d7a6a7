-- The grammar of specifications, whose trees are those of the code.
use Rattle.std.specs.Prelude.{ℕ, Bool, List, [], ◌∷◌}
use Rattle.lgc_grammar.specs.Grammar.{Grammar, One, Nothing, Mapped, ◌>>=◌, ◌>>◌, Either, Optional, Many, Separated, Loosely, Between}
use Rattle.lgc_parser.specs.declared.tree.Word.{Word}
use Rattle.lgc_parser.specs.declared.tree.Row.{Row}
use Rattle.lgc_parser.specs.declared.tree.OpBody.{OpBody}
use Rattle.lgc_parser.specs.declared.tree.OpBody.TheVariants as op
use Rattle.lgc_parser.specs.declared.tree.QuantBody.{QuantBody}
use Rattle.lgc_parser.specs.declared.tree.QuantBody.TheVariants as quant
use Rattle.lgc_parser.specs.declared.tree.Statement.{Statement}
use Rattle.lgc_parser.specs.declared.tree.Statement.TheVariants as statement
use Rattle.lgc_tokens.specs.declared.class.Class.TheVariants.{LogicWord, ValuesWord, DesignatedWord, OrderingWord, OperatorWord, QuantifierWord, MappingWord, TableWord, InducedWord, InfWord, Text, OpenRound, CloseRound, OpenBrace, CloseBrace, OpenSquare, CloseSquare, Comma, Dot, Colon, Slash}
use Rattle.lgc_tokens.specs.Spelled.{Spelled, place_of}
use Rattle.lgc_parser.specs.Words.{word_of}
use Rattle.lgc_tokens.specs.Classes.{is, is_name_or_symbol, is_value, is_logic_name, is_bound, is_digits_alone}

-- name = Lower | Quoted | Symbol
abbrev pub Name : Grammar Spelled Word
Name = Mapped word_of (One is_name_or_symbol)

-- value = Lower | Upper | Digits | Quoted | Symbol
abbrev pub Value : Grammar Spelled Word
Value = Mapped word_of (One is_value)

-- arity = Digits, of digits alone
abbrev pub Arity : Grammar Spelled Word
Arity = Mapped word_of (One is_digits_alone)

-- value { "," value }
abbrev pub Values : Grammar Spelled (List Word)
Values = Separated (is Comma) Value

-- ---- in brackets

-- open x close, with the offsets of both
abbrev pub Enclosed : {A : Type 0} → (Spelled → Bool) → Grammar Spelled A → (Spelled → Bool) → Grammar Spelled (ℕ × A × ℕ)
Enclosed opens Inside closes = do
  start ← One opens
  tree ← Inside
  end ← One closes
  Nothing (place_of start, tree, place_of end)

-- "{" x "}"  or the same in "[" "]"
abbrev pub Bracketed : {A : Type 0} → Grammar Spelled A → Grammar Spelled (ℕ × A × ℕ)
Bracketed Inside = Either (Enclosed (is OpenBrace) Inside (is CloseBrace)) (Enclosed (is OpenSquare) Inside (is CloseSquare))

-- set = "{" [ value { "," value } ] "}"  or the same in "[" "]"
abbrev pub Set : Grammar Spelled (ℕ × List Word × ℕ)
Set = Bracketed (Optional [] Values)

-- cells = "[" [ value { [ "," ] value } ] "]"  or the same in "{" "}"
abbrev pub Cells : Grammar Spelled (ℕ × List Word × ℕ)
Cells = Bracketed (Optional [] (Loosely (is Comma) Value))

-- ---- rows

-- "(" [ value { "," value } ] ")"
abbrev pub Several : Grammar Spelled (ℕ × List Word)
Several = do
  start ← One (is OpenRound)
  arguments ← Optional [] Values
  One (is CloseRound)
  Nothing (place_of start, arguments)

-- "(" [ value { "," value } ] ")" | value
abbrev pub Arguments : Grammar Spelled (ℕ × List Word)
Arguments = Either Several (Mapped (λ v. (v.at, v ∷ [])) Value)

-- row = ( "(" [ value { "," value } ] ")" | value ) ":" value
abbrev pub OpRow : Grammar Spelled Row
OpRow = do
  arguments ← Arguments
  One (is Colon)
  value ← Value
  Nothing (record { at = arguments.0; arguments = arguments.1; value = value })

-- qrow = set ":" value
abbrev pub QuantRow : Grammar Spelled Row
QuantRow = do
  set ← Set
  One (is Colon)
  value ← Value
  Nothing (record { at = set.0; arguments = set.1; value = value })

-- rows = "{" [ row { "," row } ] "}"  or the same in "[" "]", and qrows in the same way
abbrev pub Rows : Grammar Spelled Row → Grammar Spelled (ℕ × List Row × ℕ)
Rows RowOf = Bracketed (Optional [] (Separated (is Comma) RowOf))

-- ---- the bodies of operators and quantifiers

-- "mapping" rows
abbrev pub OpMapping : Grammar Spelled OpBody
OpMapping = do
  One (is MappingWord)
  rows ← Rows OpRow
  Nothing (op.Mapping rows.1 rows.2)

-- "table" cells
abbrev pub OpTable : Grammar Spelled OpBody
OpTable = do
  keyword ← One (is TableWord)
  cells ← Cells
  Nothing (op.Table (place_of keyword) cells.1)

-- ( "inf" | "sup" ) "(" name ")"
abbrev pub OpBound : Grammar Spelled OpBody
OpBound = do
  keyword ← One is_bound
  One (is OpenRound)
  ordering ← Name
  One (is CloseRound)
  Nothing (op.Bound (place_of keyword) (is InfWord keyword) ordering)

-- opbody = "mapping" rows | "table" cells | ( "inf" | "sup" ) "(" name ")"
abbrev pub BodyOfOp : Grammar Spelled OpBody
BodyOfOp = Either OpMapping (Either OpTable OpBound)

-- "mapping" qrows
abbrev pub QuantMapping : Grammar Spelled QuantBody
QuantMapping = do
  One (is MappingWord)
  rows ← Rows QuantRow
  Nothing (quant.Mapping rows.1 rows.2)

-- name "/" arity
abbrev pub Sized : Grammar Spelled QuantBody
Sized = do
  operator ← Name
  One (is Slash)
  arity ← Arity
  Nothing (quant.Induced operator arity)

-- induced = name "/" arity | "(" name "/" arity ")"
abbrev pub Induced : Grammar Spelled QuantBody
Induced = Either (Between (is OpenRound) Sized (is CloseRound)) Sized

-- "induced_by" induced
abbrev pub QuantInduced : Grammar Spelled QuantBody
QuantInduced = do
  One (is InducedWord)
  body ← Induced
  Nothing body

-- ( "inf" | "sup" ) "(" name ")"
abbrev pub QuantBound : Grammar Spelled QuantBody
QuantBound = do
  keyword ← One is_bound
  One (is OpenRound)
  ordering ← Name
  One (is CloseRound)
  Nothing (quant.Bound (place_of keyword) (is InfWord keyword) ordering)

-- quantbody = "mapping" qrows | "induced_by" induced | ( "inf" | "sup" ) "(" name ")"
abbrev pub BodyOfQuant : Grammar Spelled QuantBody
BodyOfQuant = Either QuantMapping (Either QuantInduced QuantBound)

-- ---- statements

-- "logic" ( Text | Lower | Upper | Quoted )
abbrev pub Logic : Grammar Spelled Statement
Logic = do
  keyword ← One (is LogicWord)
  name ← Mapped word_of (One is_logic_name)
  Nothing (statement.Logic (place_of keyword) name)

-- "truth_values" set
abbrev pub TruthValues : Grammar Spelled Statement
TruthValues = do
  keyword ← One (is ValuesWord)
  set ← Set
  Nothing (statement.Values (place_of keyword) set.1)

-- "designated_truth_values" set
abbrev pub Designated : Grammar Spelled Statement
Designated = do
  keyword ← One (is DesignatedWord)
  set ← Set
  Nothing (statement.Designated (place_of keyword) set.1)

-- "ordering" "(" name "," Text ")"
abbrev pub Ordering : Grammar Spelled Statement
Ordering = do
  One (is OrderingWord)
  One (is OpenRound)
  name ← Name
  One (is Comma)
  text ← Mapped word_of (One (is Text))
  One (is CloseRound)
  Nothing (statement.Ordering name text)

-- "operator" "(" name "/" arity "," opbody ")"
abbrev pub Operator : Grammar Spelled Statement
Operator = do
  One (is OperatorWord)
  One (is OpenRound)
  name ← Name
  One (is Slash)
  arity ← Arity
  One (is Comma)
  body ← BodyOfOp
  One (is CloseRound)
  Nothing (statement.Operator name arity body)

-- "quantifier" "(" name "," quantbody ")"
abbrev pub Quantifier : Grammar Spelled Statement
Quantifier = do
  One (is QuantifierWord)
  One (is OpenRound)
  name ← Name
  One (is Comma)
  body ← BodyOfQuant
  One (is CloseRound)
  Nothing (statement.Quantifier name body)

abbrev pub OneStatement : Grammar Spelled Statement
OneStatement = Either Logic (Either TruthValues (Either Designated (Either Ordering (Either Operator Quantifier))))

-- statement "."
abbrev pub Sentence : Grammar Spelled Statement
Sentence = do
  tree ← OneStatement
  One (is Dot)
  Nothing tree

-- spec = { statement "." }
abbrev pub Spec : Grammar Spelled (List Statement)
Spec = Many Sentence
