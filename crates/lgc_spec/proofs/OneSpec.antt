-- Bytes give one logic or one fault, so what they give is what is answered.
use Rattle.std.proofs.Common.{◌≡◌, ℕ, List, length, map, All, Option, Some, None, Result, Ok, sym, ◌∙◌}
use Rattle.std.specs.List.{filter_map}
use Rattle.std.specs.Str.{bytes_eq}
use Rattle.lgc_orders.specs.Order.{Leads, IsAntisymmetric}
use Rattle.lgc_values.specs.Values.{mask_of}
use Rattle.lgc_values.specs.declared.matrix.Operator as lgc
use Rattle.lgc_values.specs.declared.matrix.Quantifier as lgcq
use Rattle.lgc_lexer.specs.declared.token.Token.{Token}
use Rattle.lgc_parser.specs.declared.tree.Word.{Word}
use Rattle.lgc_parser.specs.declared.tree.OpBody.{OpBody}
use Rattle.lgc_parser.specs.declared.tree.OpBody.TheVariants.{Mapping, Table, Bound}
use Rattle.lgc_parser.specs.declared.tree.QuantBody.{QuantBody}
use Rattle.lgc_parser.specs.declared.tree.QuantBody.TheVariants as body
use Rattle.lgc_parser.specs.declared.tree.Statement.{Statement}
use Rattle.lgc_tokens.specs.Spelled.{Spelled}
use Rattle.lgc_parser.specs.SpecGrammar as grammar
use Rattle.lgc_parser.specs.OrderGrammar.{Order}
use Rattle.lgc_parser.proofs.SpecReads.{spec_complete}
use Rattle.lgc_parser.proofs.OrderReads.{order_complete}
use Rattle.lgc_spec.specs.declared.spec.Spec.{Spec}
use Rattle.lgc_spec.specs.declared.fault.SpecFault.{SpecFault}
use Rattle.lgc_spec.specs.Faults.{Gives, Answers, Then, unless}
use Rattle.lgc_spec.specs.Words.{text_of}
use Rattle.lgc_spec.specs.Statements.{first_some, name_in}
use Rattle.lgc_spec.specs.Texts.{tokens_given, Parses}
use Rattle.lgc_spec.specs.Orderings.{Ordered, ordering_in, name_again, unknown_in_text, links_of, Orders, ChainsGive, OrderingGives, OrderingsGive}
use Rattle.lgc_spec.specs.Bounds.{found, not_binary, ordering_named}
use Rattle.lgc_spec.specs.Mappings.{mapping_given}
use Rattle.lgc_spec.specs.Tables.{table_given}
use Rattle.lgc_spec.specs.Operators.{operator_in, head_given, BodyGives, OperatorGives, OperatorsGive}
use Rattle.lgc_spec.specs.Distributions.{distribution_given}
use Rattle.lgc_spec.specs.Inductions.{induced_given}
use Rattle.lgc_spec.specs.Quantifiers as quant
use Rattle.lgc_spec.specs.Quantifiers.{quantifier_in, symbol_fault, QuantifierGives, QuantifiersGive}
use Rattle.lgc_spec.specs.Specification.{values_given, logic_name, StatementsGive, BytesGive}
use Rattle.lgc_spec.proofs.OperatorShapes.{unless_ok, follows_ok, then_ok}
use Rattle.lgc_spec.proofs.OneAnswer.{OneAnswer, told_once, follows_once, then_once, parses_once, is_answered}
use Rattle.lgc_spec.proofs.OneInTurn.{parts_are, in_turn_once}
use Rattle.lgc_spec.proofs.OneOrder.{orders_once, bounds_once, set_bounds_once}
use Rattle.lgc_spec.proofs.QuantifierShapes.{found_has}

-- ---- trees

one_tree : (a b : List Statement) (ts : List Spelled) → grammar.Spec (Ok a) ts → grammar.Spec (Ok b) ts → a ≡ b
one_tree a b ts h g = let same = sym (spec_complete a ts h) ∙ spec_complete b ts g in cc

one_order : (a b : List (List (List Word))) (ts : List Spelled) → Order (Ok a) ts → Order (Ok b) ts → a ≡ b
one_order a b ts h g = let same = sym (order_complete a ts h) ∙ order_complete b ts g in cc

-- ---- orderings

-- the links of an ordering make an order
abbrev IsOrdering : List (List ℕ) → Ordered → Type 0
IsOrdering names ordered = IsAntisymmetric (length names) (Leads ordered.links)

ordering_once : (bytes : List ℕ) (names : List (List ℕ)) (before : List (Word × Word)) (ordering : Word × Word) → OneAnswer (OrderingGives bytes names before ordering)
ordering_once bytes names before (name, text) = follows_once _ _ (λ tokens _.
    then_once (Parses Order text.start (text_of bytes text) tokens) (ChainsGive bytes names name text)
    (parses_once Order one_order text.start (text_of bytes text) tokens)
    (λ chains _. follows_once _ _ (λ links _. orders_once names (text_of bytes name) text.at links)))

ordering_is : (bytes : List ℕ) (names : List (List ℕ)) (before : List (Word × Word)) (ordering : Word × Word) (ordered : Ordered) → OrderingGives bytes names before ordering (Ok ordered) → IsOrdering names ordered
ordering_is bytes names before (name, text) ordered h =
    let steps : List Token → Result Ordered SpecFault → Type 0 = λ tokens. Then (Parses Order text.start (text_of bytes text) tokens) (ChainsGive bytes names name text) in
    let (tokens, read, h1) = follows_ok (unless (name_again bytes (map (λ o. text_of bytes o.0) before) name) (tokens_given text.start (text_of bytes text))) steps ordered h in
    let (chains, tree, h2) = then_ok (Parses Order text.start (text_of bytes text) tokens) (ChainsGive bytes names name text) ordered h1 in
    let (links, known, h3) = follows_ok (unless (unknown_in_text text.start (text_of bytes text) names chains) (Ok (links_of (text_of bytes text) names chains))) (Orders names (text_of bytes name) text.at) ordered h2 in
    rw h3.0 h3.1

orderings_once : (bytes : List ℕ) (names : List (List ℕ)) (statements : List Statement) → OneAnswer (OrderingsGive bytes names statements)
orderings_once bytes names statements = in_turn_once (OrderingGives bytes names) (ordering_once bytes names) (filter_map ordering_in statements)

orderings_are : (bytes : List ℕ) (names : List (List ℕ)) (statements : List Statement) (orderings : List Ordered) → OrderingsGive bytes names statements (Ok orderings) → All (IsOrdering names) orderings
orderings_are bytes names statements orderings h = parts_are (OrderingGives bytes names) (IsOrdering names) (ordering_is bytes names) (filter_map ordering_in statements) orderings h

-- ---- operators

found_is : (word : Word) (o : Option Ordered) (ordered : Ordered) → found word o ≡ Ok ordered → o ≡ Some ordered
found_is word None ordered e = absurd cc
found_is word (Some other) ordered e = let same : other ≡ ordered = cc in cc

-- bounds are taken in orders alone, since each ordering is one
module _ (bytes : List ℕ) (names : List (List ℕ)) (orderings : List Ordered) (are : All (IsOrdering names) orderings) where
  body_once : (arity : ℕ) (body : OpBody) → OneAnswer (BodyGives bytes names orderings arity body)
  body_once arity (Mapping rows close) = told_once (mapping_given bytes names arity rows close)
  body_once arity (Table at cells) = told_once (table_given bytes names arity at cells)
  body_once arity (Bound at lower word) = follows_once _ _ (λ ordered is.
      let named = found_is word (ordering_named bytes orderings word) ordered (unless_ok (not_binary arity at) (found word (ordering_named bytes orderings word)) ordered is).1 in
      bounds_once lower names at (Leads ordered.links) (found_has (IsOrdering names) (λ o. bytes_eq o.name (text_of bytes word)) orderings ordered are named).0)

  operator_once : (before : List (Word × Word × OpBody)) (operator : Word × Word × OpBody) → OneAnswer (OperatorGives bytes names orderings before operator)
  operator_once before operator =
      let made : ℕ → List ℕ → Result lgc.Operator SpecFault = λ arity table. Ok (record { name = text_of bytes operator.0; arity = arity; table = table }) in
      follows_once (head_given bytes (length names) (map (λ o. text_of bytes o.0) before) operator.0 operator.1) (λ arity. Then (BodyGives bytes names orderings arity operator.2) (λ table told. told ≡ made arity table)) (λ arity _.
      then_once (BodyGives bytes names orderings arity operator.2) (λ table told. told ≡ made arity table) (body_once arity operator.2) (λ table _.
      told_once (made arity table)))

  operators_once : (statements : List Statement) → OneAnswer (OperatorsGive bytes names orderings statements)
  operators_once statements = in_turn_once (OperatorGives bytes names orderings) operator_once (filter_map operator_in statements)

  -- ---- quantifiers

  quantifier_body_once : (operators : List lgc.Operator) (b : QuantBody) → OneAnswer (quant.BodyGives bytes names orderings operators b)
  quantifier_body_once operators (body.Mapping rows close) = told_once (distribution_given bytes names rows close)
  quantifier_body_once operators (body.Induced name arity) = told_once (induced_given bytes names operators name arity)
  quantifier_body_once operators (body.Bound at lower word) = follows_once _ _ (λ ordered is.
      let named = found_is word (ordering_named bytes orderings word) ordered is in
      set_bounds_once lower names at (Leads ordered.links) (found_has (IsOrdering names) (λ o. bytes_eq o.name (text_of bytes word)) orderings ordered are named).0)

  quantifier_once : (operators : List lgc.Operator) (before : List (Word × QuantBody)) (quantifier : Word × QuantBody) → OneAnswer (QuantifierGives bytes names orderings operators before quantifier)
  quantifier_once operators before quantifier =
      let made : List ℕ → Result lgcq.Quantifier SpecFault = λ table. Ok (record { name = text_of bytes quantifier.0; table = table }) in
      follows_once (unless (symbol_fault bytes (map (λ o. o.name) operators) (map (λ q. text_of bytes q.0) before) quantifier.0) (Ok quantifier.1)) (λ b. Then (quant.BodyGives bytes names orderings operators b) (λ table told. told ≡ made table)) (λ b _.
      then_once (quant.BodyGives bytes names orderings operators b) (λ table told. told ≡ made table) (quantifier_body_once operators b) (λ table _.
      told_once (made table)))

  quantifiers_once : (operators : List lgc.Operator) (statements : List Statement) → OneAnswer (QuantifiersGive bytes names orderings operators statements)
  quantifiers_once operators statements = in_turn_once (QuantifierGives bytes names orderings operators) (quantifier_once operators) (filter_map quantifier_in statements)

-- ---- the file

statements_once : (bytes : List ℕ) (statements : List Statement) → OneAnswer (StatementsGive bytes statements)
statements_once bytes statements =
    let given : List (List ℕ) × List ℕ → List lgc.Operator → List lgcq.Quantifier → Result Spec SpecFault = λ values operators quantifiers. Ok (record { name = logic_name bytes (first_some name_in statements); values = values.0; designated = mask_of values.1; operators = operators; quantifiers = quantifiers }) in
    let last : List (List ℕ) × List ℕ → List Ordered → List lgc.Operator → Result Spec SpecFault → Type 0 = λ values orderings operators. Then (QuantifiersGive bytes values.0 orderings operators statements) (λ quantifiers told. told ≡ given values operators quantifiers) in
    let behind : List (List ℕ) × List ℕ → List Ordered → Result Spec SpecFault → Type 0 = λ values orderings. Then (OperatorsGive bytes values.0 orderings statements) (last values orderings) in
    follows_once (values_given bytes statements) (λ values. Then (OrderingsGive bytes values.0 statements) (behind values)) (λ values _.
    then_once (OrderingsGive bytes values.0 statements) (behind values) (orderings_once bytes values.0 statements) (λ orderings are.
    let orders = orderings_are bytes values.0 statements orderings are in
    then_once (OperatorsGive bytes values.0 orderings statements) (last values orderings) (operators_once bytes values.0 orderings orders statements) (λ operators _.
    then_once (QuantifiersGive bytes values.0 orderings operators statements) (λ quantifiers told. told ≡ given values operators quantifiers) (quantifiers_once bytes values.0 orderings orders operators statements) (λ quantifiers _.
    told_once (given values operators quantifiers)))))

-- what bytes give is one answer
pub one_answer : (bytes : List ℕ) → OneAnswer (BytesGive bytes)
one_answer bytes = follows_once _ _ (λ tokens _.
    then_once (Parses grammar.Spec 0 bytes tokens) (StatementsGive bytes) (parses_once grammar.Spec one_tree 0 bytes tokens) (λ statements _. statements_once bytes statements))

-- what the bytes give is answered
pub bytes_answered : (bytes : List ℕ) (result : Result Spec SpecFault) → Answers (BytesGive bytes) result → (told : Result Spec SpecFault) → BytesGive bytes told → Gives (λ spec. spec) result told
bytes_answered bytes = is_answered (BytesGive bytes) (one_answer bytes)
