-- What holds of the words of all tokens holds of the words of a tree.
use Rattle.std.proofs.Common.{◌≡◌, ℕ, Bool, true, List, [], ◌∷◌, ◌++◌, All, refl, sym, ◌∙◌, append_assoc, arith}
use Rattle.std.specs.List.{AllByRecursion}
use Rattle.std.proofs.lemmas.List.Elements.{All-nil, All-cons}
use Rattle.lgc_grammar.specs.Grammar.{Grammar, One, Mapped, Optional}
use Rattle.lgc_lexer.specs.declared.token.Token.{Token}
use Rattle.lgc_lexer.specs.Spans.{AllIn}
use Rattle.lgc_parser.specs.declared.tree.Word.{Word}
use Rattle.lgc_parser.specs.declared.tree.Row.{Row}
use Rattle.lgc_parser.specs.declared.tree.OpBody.TheVariants as op
use Rattle.lgc_parser.specs.declared.tree.QuantBody.TheVariants as quant
use Rattle.lgc_parser.specs.declared.tree.Statement.{Statement}
use Rattle.lgc_parser.specs.declared.tree.Statement.TheVariants as statement
use Rattle.lgc_tokens.specs.declared.class.Class.TheVariants.{LogicWord, ValuesWord, DesignatedWord, OrderingWord, OperatorWord, QuantifierWord, MappingWord, TableWord, InducedWord, InfWord, Text, Less, OpenRound, CloseRound, OpenBrace, CloseBrace, OpenSquare, CloseSquare, Comma, Dot, Colon, Slash}
use Rattle.lgc_tokens.specs.Spelled.{Spelled, spelled, spelled_all, place_of}
use Rattle.lgc_parser.specs.Words.{token_word, word_of}
use Rattle.lgc_tokens.specs.Classes.{is, is_name_or_symbol, is_value, is_order_value, is_logic_name, is_bound, is_digits_alone}
use Rattle.lgc_parser.specs.TreeWords.{IsWordOf, RowHas, OpBodyHas, QuantBodyHas, StatementHas}
use Rattle.lgc_parser.specs.OrderGrammar.{Node, Order}
use Rattle.lgc_parser.specs.SpecGrammar.{Value, Values, Enclosed, Bracketed, Set, Cells, Several, Arguments, OpRow, QuantRow, Rows, OpMapping, OpTable, OpBound, BodyOfOp, QuantMapping, Sized, QuantInduced, QuantBound, BodyOfQuant, Logic, TruthValues, Designated, Ordering, Operator, Quantifier, OneStatement, Spec}
use Rattle.lgc_parser.proofs.Keeps.{Keeps, one_keeps, nothing_keeps, either_keeps, optional_keeps, many_keeps, map_keeps, then_keeps, behind_keeps, separated_keeps, loosely_keeps, between_keeps}

module _ (F : Spelled → Type 0) where
  -- where P holds of the word of each token of which F holds and which passes the test
  pub word_keeps : (P : Word → Type 0) (test : Spelled → Bool) → ((t : Spelled) → F t → test t ≡ true → P (word_of t)) → Keeps F (Mapped word_of (One test)) P
  word_keeps P test says = map_keeps F (λ t. P (word_of t)) P word_of (one_keeps F (λ t. P (word_of t)) test says) (λ t h. h)

  enclosed_keeps : {A : Type 0} (R : A → Type 0) {L : Grammar Spelled A} (opens closes : Spelled → Bool) → Keeps F L R → Keeps F (Enclosed opens L closes) (λ x. R x.1)
  enclosed_keeps R opens closes keeps =
      behind_keeps F (λ x. R x.1) (One opens) (λ first.
      then_keeps F R (λ x. R x.1) keeps (λ tree r.
      behind_keeps F (λ x. R x.1) (One closes) (λ last.
      nothing_keeps F (λ x. R x.1) (place_of first, tree, place_of last) r)))

  bracketed_keeps : {A : Type 0} (R : A → Type 0) {L : Grammar Spelled A} → Keeps F L R → Keeps F (Bracketed L) (λ x. R x.1)
  bracketed_keeps R keeps = either_keeps F (λ x. R x.1) (enclosed_keeps R (is OpenBrace) (is CloseBrace) keeps) (enclosed_keeps R (is OpenSquare) (is CloseSquare) keeps)

  values_keep : (P : Word → Type 0) → Keeps F Value P → Keeps F (Optional [] Values) (All P)
  values_keep P keeps = optional_keeps F (All P) [] (All-nil P) (separated_keeps F P (is Comma) keeps)

  pub set_keeps : (P : Word → Type 0) → Keeps F Value P → Keeps F Set (λ x. All P x.1)
  set_keeps P keeps = bracketed_keeps (All P) (values_keep P keeps)

  pub sentences_keep : (R : Statement → Type 0) → Keeps F OneStatement R → Keeps F Spec (All R)
  sentences_keep R keeps = many_keeps F R (then_keeps F R R keeps (λ tree r. behind_keeps F R (One (is Dot)) (λ _. nothing_keeps F R tree r)))

module _ (F : Spelled → Type 0) (P : Word → Type 0) (says : (t : Spelled) → F t → P (word_of t)) where
  word : (test : Spelled → Bool) → Keeps F (Mapped word_of (One test)) P
  word test = word_keeps F P test (λ t h _. says t h)

  single : (w : Word) → P w → All P (w ∷ [])
  single w h = All-cons P w [] h (All-nil P)

  -- ---- order texts

  node_keeps : Keeps F Node (All P)
  node_keeps = either_keeps F (All P) (map_keeps F P (All P) (λ v. v ∷ []) (word is_order_value) single) (between_keeps F (All P) (is OpenBrace) (is CloseBrace) (separated_keeps F P (is Comma) (word is_order_value)))

  pub order_keeps : Keeps F Order (All (All (All P)))
  order_keeps = optional_keeps F (All (All (All P))) [] (All-nil (All (All P))) (separated_keeps F (All (All P)) (is Comma) (separated_keeps F (All P) (is Less) node_keeps))

  -- ---- specifications

  cells_keep : Keeps F Cells (λ x. All P x.1)
  cells_keep = bracketed_keeps F (All P) (optional_keeps F (All P) [] (All-nil P) (loosely_keeps F P (is Comma) (word is_value)))

  several_keeps : Keeps F Several (λ x. All P x.1)
  several_keeps =
      behind_keeps F (λ x. All P x.1) (One (is OpenRound)) (λ first.
      then_keeps F (All P) (λ x. All P x.1) (values_keep F P (word is_value)) (λ arguments r.
      behind_keeps F (λ x. All P x.1) (One (is CloseRound)) (λ _.
      nothing_keeps F (λ x. All P x.1) (place_of first, arguments) r)))

  arguments_keep : Keeps F Arguments (λ x. All P x.1)
  arguments_keep = either_keeps F (λ x. All P x.1) several_keeps (map_keeps F P (λ x. All P x.1) (λ v. (v.at, v ∷ [])) (word is_value) single)

  abbrev row_of : ℕ → List Word → Word → Row
  row_of at arguments value = record { at = at; arguments = arguments; value = value }

  op_row_keeps : Keeps F OpRow (RowHas P)
  op_row_keeps =
      then_keeps F (λ x. All P x.1) (RowHas P) arguments_keep (λ x r.
      behind_keeps F (RowHas P) (One (is Colon)) (λ _.
      then_keeps F P (RowHas P) (word is_value) (λ value h.
      nothing_keeps F (RowHas P) (row_of x.0 x.1 value) (record { arguments = r; value = h }))))

  quant_row_keeps : Keeps F QuantRow (RowHas P)
  quant_row_keeps =
      then_keeps F (λ x. All P x.1) (RowHas P) (set_keeps F P (word is_value)) (λ x r.
      behind_keeps F (RowHas P) (One (is Colon)) (λ _.
      then_keeps F P (RowHas P) (word is_value) (λ value h.
      nothing_keeps F (RowHas P) (row_of x.0 x.1 value) (record { arguments = r; value = h }))))

  rows_keep : {L : Grammar Spelled Row} → Keeps F L (RowHas P) → Keeps F (Rows L) (λ x. All (RowHas P) x.1)
  rows_keep keeps = bracketed_keeps F (All (RowHas P)) (optional_keeps F (All (RowHas P)) [] (All-nil (RowHas P)) (separated_keeps F (RowHas P) (is Comma) keeps))

  op_body_keeps : Keeps F BodyOfOp (OpBodyHas P)
  op_body_keeps = either_keeps F (OpBodyHas P) mapping (either_keeps F (OpBodyHas P) table bound)
    where
      mapping : Keeps F OpMapping (OpBodyHas P)
      mapping = behind_keeps F (OpBodyHas P) (One (is MappingWord)) (λ _. then_keeps F (λ x. All (RowHas P) x.1) (OpBodyHas P) (rows_keep op_row_keeps) (λ x r. nothing_keeps F (OpBodyHas P) (op.Mapping x.1 x.2) r))

      table : Keeps F OpTable (OpBodyHas P)
      table = behind_keeps F (OpBodyHas P) (One (is TableWord)) (λ t. then_keeps F (λ x. All P x.1) (OpBodyHas P) cells_keep (λ x r. nothing_keeps F (OpBodyHas P) (op.Table (place_of t) x.1) r))

      bound : Keeps F OpBound (OpBodyHas P)
      bound = behind_keeps F (OpBodyHas P) (One is_bound) (λ t. behind_keeps F (OpBodyHas P) (One (is OpenRound)) (λ _. then_keeps F P (OpBodyHas P) (word is_name_or_symbol) (λ w h. behind_keeps F (OpBodyHas P) (One (is CloseRound)) (λ _. nothing_keeps F (OpBodyHas P) (op.Bound (place_of t) (is InfWord t) w) h))))

  quant_body_keeps : Keeps F BodyOfQuant (QuantBodyHas P)
  quant_body_keeps = either_keeps F (QuantBodyHas P) mapping (either_keeps F (QuantBodyHas P) induced bound)
    where
      mapping : Keeps F QuantMapping (QuantBodyHas P)
      mapping = behind_keeps F (QuantBodyHas P) (One (is MappingWord)) (λ _. then_keeps F (λ x. All (RowHas P) x.1) (QuantBodyHas P) (rows_keep quant_row_keeps) (λ x r. nothing_keeps F (QuantBodyHas P) (quant.Mapping x.1 x.2) r))

      sized : Keeps F Sized (QuantBodyHas P)
      sized = then_keeps F P (QuantBodyHas P) (word is_name_or_symbol) (λ w h. behind_keeps F (QuantBodyHas P) (One (is Slash)) (λ _. then_keeps F P (QuantBodyHas P) (word is_digits_alone) (λ n g. nothing_keeps F (QuantBodyHas P) (quant.Induced w n) (h, g))))

      induced : Keeps F QuantInduced (QuantBodyHas P)
      induced = behind_keeps F (QuantBodyHas P) (One (is InducedWord)) (λ _. then_keeps F (QuantBodyHas P) (QuantBodyHas P) (either_keeps F (QuantBodyHas P) (between_keeps F (QuantBodyHas P) (is OpenRound) (is CloseRound) sized) sized) (λ body h. nothing_keeps F (QuantBodyHas P) body h))

      bound : Keeps F QuantBound (QuantBodyHas P)
      bound = behind_keeps F (QuantBodyHas P) (One is_bound) (λ t. behind_keeps F (QuantBodyHas P) (One (is OpenRound)) (λ _. then_keeps F P (QuantBodyHas P) (word is_name_or_symbol) (λ w h. behind_keeps F (QuantBodyHas P) (One (is CloseRound)) (λ _. nothing_keeps F (QuantBodyHas P) (quant.Bound (place_of t) (is InfWord t) w) h))))

  logic_keeps : Keeps F Logic (StatementHas P)
  logic_keeps = behind_keeps F (StatementHas P) (One (is LogicWord)) (λ t. then_keeps F P (StatementHas P) (word is_logic_name) (λ w h. nothing_keeps F (StatementHas P) (statement.Logic (place_of t) w) h))

  truth_values_keep : Keeps F TruthValues (StatementHas P)
  truth_values_keep = behind_keeps F (StatementHas P) (One (is ValuesWord)) (λ t. then_keeps F (λ x. All P x.1) (StatementHas P) (set_keeps F P (word is_value)) (λ x r. nothing_keeps F (StatementHas P) (statement.Values (place_of t) x.1) r))

  designated_keeps : Keeps F Designated (StatementHas P)
  designated_keeps = behind_keeps F (StatementHas P) (One (is DesignatedWord)) (λ t. then_keeps F (λ x. All P x.1) (StatementHas P) (set_keeps F P (word is_value)) (λ x r. nothing_keeps F (StatementHas P) (statement.Designated (place_of t) x.1) r))

  ordering_keeps : Keeps F Ordering (StatementHas P)
  ordering_keeps =
      behind_keeps F (StatementHas P) (One (is OrderingWord)) (λ _.
      behind_keeps F (StatementHas P) (One (is OpenRound)) (λ _.
      then_keeps F P (StatementHas P) (word is_name_or_symbol) (λ name h.
      behind_keeps F (StatementHas P) (One (is Comma)) (λ _.
      then_keeps F P (StatementHas P) (word (is Text)) (λ text g.
      behind_keeps F (StatementHas P) (One (is CloseRound)) (λ _.
      nothing_keeps F (StatementHas P) (statement.Ordering name text) (h, g)))))))

  operator_keeps : Keeps F Operator (StatementHas P)
  operator_keeps =
      behind_keeps F (StatementHas P) (One (is OperatorWord)) (λ _.
      behind_keeps F (StatementHas P) (One (is OpenRound)) (λ _.
      then_keeps F P (StatementHas P) (word is_name_or_symbol) (λ name h.
      behind_keeps F (StatementHas P) (One (is Slash)) (λ _.
      then_keeps F P (StatementHas P) (word is_digits_alone) (λ arity g.
      behind_keeps F (StatementHas P) (One (is Comma)) (λ _.
      then_keeps F (OpBodyHas P) (StatementHas P) op_body_keeps (λ body k.
      behind_keeps F (StatementHas P) (One (is CloseRound)) (λ _.
      nothing_keeps F (StatementHas P) (statement.Operator name arity body) (h, g, k)))))))))

  quantifier_keeps : Keeps F Quantifier (StatementHas P)
  quantifier_keeps =
      behind_keeps F (StatementHas P) (One (is QuantifierWord)) (λ _.
      behind_keeps F (StatementHas P) (One (is OpenRound)) (λ _.
      then_keeps F P (StatementHas P) (word is_name_or_symbol) (λ name h.
      behind_keeps F (StatementHas P) (One (is Comma)) (λ _.
      then_keeps F (QuantBodyHas P) (StatementHas P) quant_body_keeps (λ body k.
      behind_keeps F (StatementHas P) (One (is CloseRound)) (λ _.
      nothing_keeps F (StatementHas P) (statement.Quantifier name body) (h, k)))))))

  statement_keeps : Keeps F OneStatement (StatementHas P)
  statement_keeps = either_keeps F (StatementHas P) logic_keeps (either_keeps F (StatementHas P) truth_values_keep (either_keeps F (StatementHas P) designated_keeps (either_keeps F (StatementHas P) ordering_keeps (either_keeps F (StatementHas P) operator_keeps quantifier_keeps))))

  pub spec_keeps : Keeps F Spec (All (StatementHas P))
  spec_keeps = sentences_keep F (StatementHas P) statement_keeps

-- ---- the tokens of the bytes

-- t is one of the tokens, and has its word
abbrev pub IsTokenOf : List ℕ → List Token → Spelled → Type 0
IsTokenOf bytes all t = (word : IsWordOf bytes all (word_of t)) × (spelled bytes word.token word.behind ≡ t)

pub tokens_have : (bytes : List ℕ) (all front ts : List Token) → all ≡ front ++ ts → AllIn bytes ts → AllByRecursion (IsTokenOf bytes all) (spelled_all bytes ts)
tokens_have bytes all front [] e h = tt
tokens_have bytes all front (t ∷ ts) e h =
    let word : IsWordOf bytes all (token_word t) = record { token = t; before = front; behind = ts; among = e; says = refl; ordered = omega (arith, h.0.0); inside = omega (arith, h.0.0, h.0.1) } in
    ((word, refl), tokens_have bytes all (front ++ t ∷ []) ts (e ∙ sym (append_assoc front (t ∷ []) ts)) h.1)
