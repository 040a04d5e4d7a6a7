-- The truth values of a tree are the words of values, and its operators and quantifiers have those of names.
use Rattle.std.proofs.Common.{◌≡◌, ℕ, true, List, All, sym, subst, Bool}
use Rattle.lgc_grammar.specs.Grammar.{Mapped, One}
use Rattle.lgc_lexer.specs.declared.token.Token.{Token}
use Rattle.lgc_parser.specs.declared.tree.Word.{Word}
use Rattle.lgc_parser.specs.declared.tree.Statement.{Statement}
use Rattle.lgc_parser.specs.declared.tree.Statement.TheVariants as statement
use Rattle.lgc_tokens.specs.Spelled.{Spelled, place_of}
use Rattle.lgc_parser.specs.Words.{word_of}
use Rattle.lgc_tokens.specs.declared.class.Class.TheVariants.{LogicWord, ValuesWord, DesignatedWord, OrderingWord, OperatorWord, QuantifierWord, Text, OpenRound, CloseRound, Comma, Slash}
use Rattle.lgc_tokens.specs.Classes.{is, is_name_or_symbol, is_value, is_logic_name}
use Rattle.lgc_parser.specs.TreeWords.{IsWordWhere, StatementDeclares}
use Rattle.lgc_parser.specs.SpecGrammar.{Name, Value, Arity, Set, BodyOfOp, BodyOfQuant, Logic, TruthValues, Designated, Ordering, Operator, Quantifier, OneStatement, Spec}
use Rattle.lgc_parser.proofs.Keeps.{Keeps, nothing_keeps, either_keeps, then_keeps, behind_keeps}
use Rattle.lgc_parser.proofs.TreeWords.{word_keeps, set_keeps, sentences_keep, IsTokenOf}

module _ (F : Spelled → Type 0) (V N : Word → Type 0) (value_keeps : Keeps F Value V) (name_keeps : Keeps F Name N) where
  abbrev R : Statement → Type 0
  R = StatementDeclares V N

  logic_declares : Keeps F Logic R
  logic_declares = behind_keeps F R (One (is LogicWord)) (λ t. behind_keeps F R (Mapped word_of (One is_logic_name)) (λ w. nothing_keeps F R (statement.Logic (place_of t) w) tt))

  truth_values_declare : Keeps F TruthValues R
  truth_values_declare = behind_keeps F R (One (is ValuesWord)) (λ t. then_keeps F (λ x. All V x.1) R (set_keeps F V value_keeps) (λ x r. nothing_keeps F R (statement.Values (place_of t) x.1) r))

  designated_declare : Keeps F Designated R
  designated_declare = behind_keeps F R (One (is DesignatedWord)) (λ t. behind_keeps F R Set (λ x. nothing_keeps F R (statement.Designated (place_of t) x.1) tt))

  ordering_declares : Keeps F Ordering R
  ordering_declares =
      behind_keeps F R (One (is OrderingWord)) (λ _.
      behind_keeps F R (One (is OpenRound)) (λ _.
      behind_keeps F R Name (λ name.
      behind_keeps F R (One (is Comma)) (λ _.
      behind_keeps F R (Mapped word_of (One (is Text))) (λ text.
      behind_keeps F R (One (is CloseRound)) (λ _.
      nothing_keeps F R (statement.Ordering name text) tt))))))

  operator_declares : Keeps F Operator R
  operator_declares =
      behind_keeps F R (One (is OperatorWord)) (λ _.
      behind_keeps F R (One (is OpenRound)) (λ _.
      then_keeps F N R name_keeps (λ name h.
      behind_keeps F R (One (is Slash)) (λ _.
      behind_keeps F R Arity (λ arity.
      behind_keeps F R (One (is Comma)) (λ _.
      behind_keeps F R BodyOfOp (λ body.
      behind_keeps F R (One (is CloseRound)) (λ _.
      nothing_keeps F R (statement.Operator name arity body) h))))))))

  quantifier_declares : Keeps F Quantifier R
  quantifier_declares =
      behind_keeps F R (One (is QuantifierWord)) (λ _.
      behind_keeps F R (One (is OpenRound)) (λ _.
      then_keeps F N R name_keeps (λ name h.
      behind_keeps F R (One (is Comma)) (λ _.
      behind_keeps F R BodyOfQuant (λ body.
      behind_keeps F R (One (is CloseRound)) (λ _.
      nothing_keeps F R (statement.Quantifier name body) h))))))

  statement_declares : Keeps F OneStatement R
  statement_declares = either_keeps F R logic_declares (either_keeps F R truth_values_declare (either_keeps F R designated_declare (either_keeps F R ordering_declares (either_keeps F R operator_declares quantifier_declares))))

module _ (bytes : List ℕ) (all : List Token) where
  where_keeps : (test : Spelled → Bool) → Keeps (IsTokenOf bytes all) (Mapped word_of (One test)) (IsWordWhere bytes all test)
  where_keeps test = word_keeps (IsTokenOf bytes all) (IsWordWhere bytes all test) test (λ t h e. record { word = h.0; passes = subst (λ s. test s ≡ true) (sym h.1) e })

  pub spec_declares : Keeps (IsTokenOf bytes all) Spec (All (StatementDeclares (IsWordWhere bytes all is_value) (IsWordWhere bytes all is_name_or_symbol)))
  spec_declares = sentences_keep (IsTokenOf bytes all) (StatementDeclares (IsWordWhere bytes all is_value) (IsWordWhere bytes all is_name_or_symbol)) (statement_declares (IsTokenOf bytes all) (IsWordWhere bytes all is_value) (IsWordWhere bytes all is_name_or_symbol) (where_keeps is_value) (where_keeps is_name_or_symbol))
