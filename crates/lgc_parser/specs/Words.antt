-- The words of tokens.
use Rattle.std.specs.Prelude.{◌+◌, ◌-◌}
use Rattle.lgc_lexer.specs.declared.token.Token.{Token}
use Rattle.lgc_lexer.specs.Spans.{quote_len}
use Rattle.lgc_tokens.specs.Spelled.{Spelled}
use Rattle.lgc_parser.specs.declared.tree.Word.{Word}

-- where the content of a token stands, and where the token
abbrev pub token_word : Token → Word
token_word t = record { start = t.start + quote_len t.kind; end = t.end - quote_len t.kind; at = t.start }

abbrev pub word_of : Spelled → Word
word_of t = token_word t.token
