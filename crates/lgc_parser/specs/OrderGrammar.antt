-- The grammar of order texts.
--
--     order = [ chain { "," chain } ]
--     chain = node { Symbol "<" node }
--     node  = value | "{" value { "," value } "}"
--     value = Lower | Upper | Digits | Quoted | Symbol other than "<"
--
-- The tree has the chains in order; a chain has its nodes, and a node its values.
use Rattle.std.specs.Prelude.{List, [], ◌∷◌}
use Rattle.lgc_grammar.specs.Grammar.{Grammar, One, Mapped, Either, Optional, Separated, Between}
use Rattle.lgc_parser.specs.declared.tree.Word.{Word}
use Rattle.lgc_tokens.specs.declared.class.Class.TheVariants.{Comma, Less, OpenBrace, CloseBrace}
use Rattle.lgc_tokens.specs.Spelled.{Spelled}
use Rattle.lgc_parser.specs.Words.{word_of}
use Rattle.lgc_tokens.specs.Classes.{is, is_order_value}

abbrev pub Value : Grammar Spelled Word
Value = Mapped word_of (One is_order_value)

abbrev pub Node : Grammar Spelled (List Word)
Node = Either (Mapped (λ v. v ∷ []) Value) (Between (is OpenBrace) (Separated (is Comma) Value) (is CloseBrace))

abbrev pub Chain : Grammar Spelled (List (List Word))
Chain = Separated (is Less) Node

abbrev pub Order : Grammar Spelled (List (List (List Word)))
Order = Optional [] (Separated (is Comma) Chain)
