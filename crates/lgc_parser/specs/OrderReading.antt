-- The readers of order texts, line by line as their grammar.
use Rattle.std.specs.Prelude.{List, [], ◌∷◌}
use Rattle.lgc_grammar.specs.Reading.{Reader, map_at, either_at, optional_at, separated_at, between_at}
use Rattle.lgc_parser.specs.declared.tree.Word.{Word}
use Rattle.lgc_tokens.specs.declared.class.Class.TheVariants.{Comma, Less, OpenBrace, CloseBrace}
use Rattle.lgc_tokens.specs.Spelled.{Spelled}
use Rattle.lgc_tokens.specs.Classes.{is, is_order_value, starts_node}
use Rattle.lgc_parser.specs.Reads.{word_at, words_at}

-- values in braces
unfoldable pub braced_at : Reader Spelled (List Word)
braced_at ts = between_at (is OpenBrace) (words_at is_order_value) (is CloseBrace) ts

unfoldable pub node_at : Reader Spelled (List Word)
node_at ts = either_at is_order_value (map_at (λ v. v ∷ []) (word_at is_order_value)) braced_at ts

unfoldable pub chain_at : Reader Spelled (List (List Word))
chain_at ts = separated_at (is Less) node_at ts

-- one chain or more
unfoldable pub chains_at : Reader Spelled (List (List (List Word)))
chains_at ts = separated_at (is Comma) chain_at ts

unfoldable pub order_at : Reader Spelled (List (List (List Word)))
order_at ts = optional_at starts_node [] chains_at ts
