-- Readers of words.
use Rattle.std.specs.Prelude.{Bool, List}
use Rattle.lgc_grammar.specs.Reading.{Reader, one_at, map_at, separated_at}
use Rattle.lgc_parser.specs.declared.tree.Word.{Word}
use Rattle.lgc_tokens.specs.declared.class.Class.TheVariants.{Comma}
use Rattle.lgc_tokens.specs.Spelled.{Spelled}
use Rattle.lgc_parser.specs.Words.{word_of}
use Rattle.lgc_tokens.specs.Classes.{is}

-- the word of one token that passes the test
unfoldable pub word_at : (Spelled → Bool) → Reader Spelled Word
word_at test ts = map_at word_of (one_at test) ts

-- words with commas between them
unfoldable pub words_at : (Spelled → Bool) → Reader Spelled (List Word)
words_at test ts = separated_at (is Comma) (word_at test) ts
