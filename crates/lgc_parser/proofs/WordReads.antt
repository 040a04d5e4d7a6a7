-- The readers of words read words and lists of words.
use Rattle.std.proofs.Common.{refl}
use Rattle.std.specs.Prelude.{◌||◌}
use Rattle.lgc_grammar.specs.Grammar.{One, Mapped, Separated}
use Rattle.lgc_grammar.proofs.Readers.{ReadsAll, Must, never}
use Rattle.lgc_grammar.proofs.Basic.{map_all}
use Rattle.lgc_grammar.proofs.Repetitions.{separated_all}
use Rattle.lgc_tokens.specs.declared.class.Class.TheVariants.{Comma}
use Rattle.lgc_tokens.specs.declared.terminal.Terminal.{Terminal}
use Rattle.lgc_parser.specs.Words.{word_of}
use Rattle.lgc_tokens.specs.Classes.{is, is_a}
use Rattle.lgc_parser.specs.Reads.{word_at, words_at}
use Rattle.lgc_parser.specs.Gives.{Shortens}
use Rattle.lgc_parser.proofs.Lists.{shortens}
use Rattle.lgc_tokens.proofs.Tables.{one, one_of}

pub word_reads : (t : Terminal) → ReadsAll (word_at (is_a t)) (Mapped word_of (One (is_a t))) (Must (is_a t)) never
unfolding word_at
word_reads t = map_all word_of (one_of t)

pub words_read : (t : Terminal) → ReadsAll (words_at (is_a t)) (Separated (is Comma) (Mapped word_of (One (is_a t)))) (Must (is_a t)) (λ x. is Comma x || never x)
unfolding words_at
words_read t = separated_all (one Comma) (word_reads t) (λ t h. refl)

-- reading one leaves no more tokens than there were
pub word_shortens : (t : Terminal) → Shortens (word_at (is_a t))
word_shortens t = shortens (word_reads t)
