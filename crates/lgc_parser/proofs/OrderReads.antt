-- The readers of order texts read their grammar.
use Rattle.std.proofs.Common.{◌≡◌, false, ℕ, List, [], ◌∷◌, Ok, Err, refl}
use Rattle.std.specs.Prelude.{◌||◌}
use Rattle.lgc_grammar.specs.Grammar.{AnswersAll, Breaks, Separated}
use Rattle.lgc_grammar.specs.Reading.{whole}
use Rattle.lgc_grammar.proofs.Readers.{ReadsAll, Must, May, never, whole_answers_all, whole_complete}
use Rattle.lgc_grammar.proofs.Basic.{map_all}
use Rattle.lgc_grammar.proofs.Sequences.{between_all}
use Rattle.lgc_grammar.proofs.Choices.{either_all, optional_all}
use Rattle.lgc_grammar.proofs.Repetitions.{separated_all}
use Rattle.lgc_parser.specs.declared.tree.Word.{Word}
use Rattle.lgc_tokens.specs.declared.class.Class.TheVariants.{Comma, Less, OpenBrace, CloseBrace}
use Rattle.lgc_tokens.specs.declared.terminal.Terminal.TheVariants.{OrderValue}
use Rattle.lgc_tokens.specs.Spelled.{Spelled}
use Rattle.lgc_tokens.specs.Classes.{same, order_values, is, starts_node}
use Rattle.lgc_parser.specs.OrderGrammar.{Node, Chain, Order}
use Rattle.lgc_parser.specs.OrderReading.{braced_at, node_at, chain_at, chains_at, order_at}
use Rattle.lgc_parser.specs.Gives.{Shortens}
use Rattle.lgc_parser.proofs.Tops.{unbroken}
use Rattle.lgc_parser.proofs.Lists.{shortens}
use Rattle.lgc_tokens.proofs.Tables.{off, one}
use Rattle.lgc_parser.proofs.WordReads.{word_reads}
use Rattle.lgc_parser.proofs.WordReads.{words_read}

pub node_reads : ReadsAll node_at Node (Must starts_node) never
unfolding node_at braced_at
node_reads =
    either_all
    (map_all (λ v. v ∷ []) (word_reads OrderValue))
    (between_all (one OpenBrace) (words_read OrderValue) (one CloseBrace) (off (same CloseBrace) (λ c. same Comma c || false) refl))
    (off (same OpenBrace) order_values refl)

pub chain_reads : ReadsAll chain_at Chain (Must starts_node) (λ t. is Less t || never t)
unfolding chain_at
chain_reads = separated_all (one Less) node_reads (λ t h. refl)

pub chains_read : ReadsAll chains_at (Separated (is Comma) Chain) (Must starts_node) (λ t. is Comma t || (is Less t || never t))
unfolding chains_at
chains_read = separated_all (one Comma) chain_reads (off (same Comma) (λ c. same Less c || false) refl)

pub order_reads : ReadsAll order_at Order (May starts_node) (λ t. starts_node t || (is Comma t || (is Less t || never t)))
unfolding order_at
order_reads = optional_all [] chains_read

pub order_answers : (ts : List Spelled) → AnswersAll Order ts (whole order_at ts)
order_answers = whole_answers_all order_reads

pub order_unbroken : (ts rest : List Spelled) (n : ℕ) → order_at ts ≡ Err (rest, Breaks n) → ⊥
order_unbroken = unbroken order_reads

pub order_complete : (chains : List (List (List Word))) (ts : List Spelled) → Order (Ok chains) ts → whole order_at ts ≡ Ok chains
order_complete = whole_complete order_reads

-- reading one leaves no more tokens than there were
pub node_shortens : Shortens node_at
node_shortens = shortens node_reads

pub chain_shortens : Shortens chain_at
chain_shortens = shortens chain_reads
