use Rattle.std.proofs.Common.{◌≡◌, length}
use Rattle.lgc_grammar.specs.Reading.{more_at, separated_at}
use Rattle.lgc_grammar.proofs.Loops.{with_front}
use Rattle.lgc_tokens.specs.Spelled.{IsRest, spelled_all}
use Rattle.lgc_tokens.specs.Classes.{is}
use Rattle.lgc_parser.proofs.parts.separated.Given as goal

abbrev pub invariant-loop-after : goal.invariant-loop-after
invariant-loop-after g l = record {
  so_far : with_front l.trees (more_at (is l.separator) (g.P.Part.reader l.part) (spelled_all l.bytes l.rest)) ≡ separated_at (is l.separator) (g.P.Part.reader l.part) (spelled_all l.bytes l.tokens);
  rest : IsRest l.bytes l.tokens l.rest;
}

abbrev pub decreases-loop-after : goal.decreases-loop-after
decreases-loop-after g l = length l.rest
