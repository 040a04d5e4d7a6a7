use Rattle.std.proofs.Common.{[], refl, All}
use Rattle.lgc_grammar.specs.Grammar.{AnswersAll}
use Rattle.lgc_lexer.proofs.SpanLaws.{tokens_all_in}
use Rattle.lgc_tokens.specs.Spelled.{spelled_all}
use Rattle.lgc_tokens.specs.Classes.{is_name_or_symbol, is_value}
use Rattle.lgc_parser.specs.TreeWords.{IsWordOf, IsWordWhere, StatementDeclares, StatementHas}
use Rattle.lgc_parser.specs.SpecGrammar.{Spec}
use Rattle.lgc_parser.proofs.SpecReads.{spec_answers, spec_complete}
use Rattle.lgc_parser.proofs.Tops.{says_too, is_tree, tree_has}
use Rattle.lgc_parser.proofs.TreeWords.{IsTokenOf, tokens_have, spec_keeps}
use Rattle.lgc_parser.proofs.DeclaredWords.{spec_declares}
use Rattle.lgc_parser.proofs.spec.parse_spec.Goals as goal

pub whole_spec-requires-clause-tokens : goal.whole_spec-requires-clause-tokens
whole_spec-requires-clause-tokens c = tokens_all_in _ _ c.requires.tokens

pub returns-clause-answer : goal.returns-clause-answer
returns-clause-answer c = says_too _ (λ t. t.statements) _ (AnswersAll Spec _) _ (spec_answers _) c.whole_spec.ensures

pub returns-clause-complete : goal.returns-clause-complete
returns-clause-complete c = λ statements h. is_tree _ (λ t. t.statements) _ _ statements (spec_complete statements _ h) c.whole_spec.ensures

pub returns-clause-words : goal.returns-clause-words
returns-clause-words c =
    let ts = spelled_all c.args.bytes.now c.args.tokens.now in
    let have = tokens_have c.args.bytes.now c.args.tokens.now [] c.args.tokens.now refl (tokens_all_in _ _ c.requires.tokens) in
    tree_has _ (λ t. t.statements) Spec ts (All (StatementHas (IsWordOf c.args.bytes.now c.args.tokens.now))) _ (λ tree h. (spec_keeps (IsTokenOf c.args.bytes.now c.args.tokens.now) (IsWordOf c.args.bytes.now c.args.tokens.now) (λ t k. k.0)).keeps tree ts h have) (says_too _ (λ t. t.statements) _ (AnswersAll Spec ts) _ (spec_answers ts) c.whole_spec.ensures)

pub returns-clause-declared : goal.returns-clause-declared
returns-clause-declared c =
    let bytes = c.args.bytes.now in
    let tokens = c.args.tokens.now in
    let ts = spelled_all bytes tokens in
    let have = tokens_have bytes tokens [] tokens refl (tokens_all_in _ _ c.requires.tokens) in
    tree_has _ (λ t. t.statements) Spec ts (All (StatementDeclares (IsWordWhere bytes tokens is_value) (IsWordWhere bytes tokens is_name_or_symbol))) _ (λ tree h. (spec_declares bytes tokens).keeps tree ts h have) (says_too _ (λ t. t.statements) _ (AnswersAll Spec ts) _ (spec_answers ts) c.whole_spec.ensures)
