-- The words of trees.
use Rattle.std.specs.Prelude.{◌≡◌, ◌≤◌, ℕ, Bool, true, List, ◌∷◌, ◌++◌, length, All}
use Rattle.lgc_lexer.specs.declared.token.Token.{Token}
use Rattle.lgc_parser.specs.declared.tree.Word.{Word}
use Rattle.lgc_parser.specs.declared.tree.Row.{Row}
use Rattle.lgc_parser.specs.declared.tree.OpBody.{OpBody}
use Rattle.lgc_parser.specs.declared.tree.OpBody.TheVariants as op
use Rattle.lgc_parser.specs.declared.tree.QuantBody.{QuantBody}
use Rattle.lgc_parser.specs.declared.tree.QuantBody.TheVariants as quant
use Rattle.lgc_parser.specs.declared.tree.Statement.{Statement}
use Rattle.lgc_parser.specs.declared.tree.Statement.TheVariants as statement
use Rattle.lgc_tokens.specs.Spelled.{Spelled, spelled}
use Rattle.lgc_parser.specs.Words.{token_word}

-- w is where one of the tokens stands and where its content, which lies in the bytes
pub record IsWordOf (bytes : List ℕ) (ts : List Token) (w : Word) : Type 0 where
  pub token : Token
  pub before : List Token
  pub behind : List Token
  pub among : ts ≡ before ++ token ∷ behind
  pub says : w ≡ token_word token
  pub ordered : w.start ≤ w.end
  pub inside : w.end ≤ length bytes

-- w is the word of one of the tokens, and this token passes the test
pub record IsWordWhere (bytes : List ℕ) (ts : List Token) (test : Spelled → Bool) (w : Word) : Type 0 where
  pub word : IsWordOf bytes ts w
  pub passes : test (spelled bytes word.token word.behind) ≡ true

-- ---- P holds of all words

pub record RowHas (P : Word → Type 0) (row : Row) : Type 0 where
  pub arguments : All P row.arguments
  pub value : P row.value

abbrev pub OpBodyHas : (Word → Type 0) → OpBody → Type 0
OpBodyHas P (op.Mapping rows close) = All (RowHas P) rows
OpBodyHas P (op.Table at cells) = All P cells
OpBodyHas P (op.Bound at lower ordering) = P ordering

abbrev pub QuantBodyHas : (Word → Type 0) → QuantBody → Type 0
QuantBodyHas P (quant.Mapping rows close) = All (RowHas P) rows
QuantBodyHas P (quant.Induced operator arity) = P operator × P arity
QuantBodyHas P (quant.Bound at lower ordering) = P ordering

abbrev pub StatementHas : (Word → Type 0) → Statement → Type 0
StatementHas P (statement.Logic at name) = P name
StatementHas P (statement.Values at values) = All P values
StatementHas P (statement.Designated at values) = All P values
StatementHas P (statement.Ordering name text) = P name × P text
StatementHas P (statement.Operator name arity body) = P name × P arity × OpBodyHas P body
StatementHas P (statement.Quantifier name body) = P name × QuantBodyHas P body

-- ---- what a statement declares

-- V holds of its truth values, and N of the name of its operator or quantifier
abbrev pub StatementDeclares : (Word → Type 0) → (Word → Type 0) → Statement → Type 0
StatementDeclares V N (statement.Values at values) = All V values
StatementDeclares V N (statement.Operator name arity body) = N name
StatementDeclares V N (statement.Quantifier name body) = N name
StatementDeclares V N _ = Unit {0}
