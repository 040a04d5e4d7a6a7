use Rattle.std.proofs.Common.{◌≡◌, length}
use Rattle.lgc_grammar.specs.Reading.{more_loosely_at}
use Rattle.lgc_grammar.proofs.Loops.{with_front}
use Rattle.lgc_tokens.specs.declared.class.Class.TheVariants.{Comma}
use Rattle.lgc_tokens.specs.Spelled.{IsRest, spelled_all}
use Rattle.lgc_tokens.specs.Classes.{is, is_value}
use Rattle.lgc_parser.specs.Reads.{word_at}
use Rattle.lgc_parser.specs.SpecReading.{some_cells_at}
use Rattle.lgc_parser.proofs.cells.some_cells.Given as goal

abbrev pub invariant-loop-after : goal.invariant-loop-after
invariant-loop-after l = record {
  so_far : with_front l.cells (more_loosely_at (is Comma) is_value (word_at is_value) (spelled_all l.bytes l.rest)) ≡ some_cells_at (spelled_all l.bytes l.tokens);
  rest : IsRest l.bytes l.tokens l.rest;
}

abbrev pub decreases-loop-after : goal.decreases-loop-after
decreases-loop-after l = length l.rest
