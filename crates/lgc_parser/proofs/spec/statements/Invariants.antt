use Rattle.std.proofs.Common.{◌≡◌, length}
use Rattle.lgc_grammar.specs.Reading.{many_at}
use Rattle.lgc_grammar.proofs.Loops.{with_front}
use Rattle.lgc_tokens.specs.Spelled.{IsRest, spelled_all}
use Rattle.lgc_tokens.specs.Classes.{starts_statement}
use Rattle.lgc_parser.specs.SpecReading.{sentence_at, spec_at}
use Rattle.lgc_parser.proofs.spec.statements.Given as goal

abbrev pub invariant-loop-alloc : goal.invariant-loop-alloc
invariant-loop-alloc l = record {
  so_far : with_front l.statements (many_at starts_statement sentence_at (spelled_all l.bytes l.rest)) ≡ spec_at (spelled_all l.bytes l.tokens);
  rest : IsRest l.bytes l.tokens l.rest;
}

abbrev pub decreases-loop-alloc : goal.decreases-loop-alloc
decreases-loop-alloc l = length l.rest
