use Rattle.std.proofs.Common.{[], refl, All}
use Rattle.lgc_grammar.specs.Grammar.{AnswersAll}
use Rattle.lgc_lexer.proofs.SpanLaws.{tokens_all_in}
use Rattle.lgc_tokens.specs.Spelled.{spelled_all}
use Rattle.lgc_parser.specs.TreeWords.{IsWordOf}
use Rattle.lgc_parser.specs.OrderGrammar.{Order}
use Rattle.lgc_parser.proofs.OrderReads.{order_answers, order_complete}
use Rattle.lgc_parser.proofs.Tops.{says_too, is_tree, tree_has}
use Rattle.lgc_parser.proofs.TreeWords.{IsTokenOf, tokens_have, order_keeps}
use Rattle.lgc_parser.proofs.order.parse_order.Goals as goal

pub whole_order-requires-clause-tokens : goal.whole_order-requires-clause-tokens
whole_order-requires-clause-tokens c = tokens_all_in _ _ c.requires.tokens

pub returns-clause-answer : goal.returns-clause-answer
returns-clause-answer c = says_too _ (λ x. x) _ (AnswersAll Order _) _ (order_answers _) c.whole_order.ensures

pub returns-clause-complete : goal.returns-clause-complete
returns-clause-complete c = λ chains h. is_tree _ (λ x. x) _ _ chains (order_complete chains _ h) c.whole_order.ensures

pub returns-clause-words : goal.returns-clause-words
returns-clause-words c =
    let ts = spelled_all c.args.bytes.now c.args.tokens.now in
    let have = tokens_have c.args.bytes.now c.args.tokens.now [] c.args.tokens.now refl (tokens_all_in _ _ c.requires.tokens) in
    tree_has _ (λ x. x) Order ts (All (All (All (IsWordOf c.args.bytes.now c.args.tokens.now)))) _ (λ tree h. (order_keeps (IsTokenOf c.args.bytes.now c.args.tokens.now) (IsWordOf c.args.bytes.now c.args.tokens.now) (λ t k. k.0)).keeps tree ts h have) (says_too _ (λ x. x) _ (AnswersAll Order ts) _ (order_answers ts) c.whole_order.ensures)
