use Rattle.lgc_tokens.specs.Spelled.{spelled_all, place_of}
use Rattle.lgc_tokens.proofs.Places.{length-spelled, spelled_drop}
use Rattle.lgc_inputs.proofs.Places.{told_left, reads_split}
use Rattle.lgc_formulas.specs.TermReading.{one_term_at}
use Rattle.lgc_formulas.proofs.TermReads.{one_term_reads}
use Rattle.lgc_formulas.proofs.read.term_behind.Goals as goal

pub returns-in-Ok-clause-exact : goal.returns-in-Ok-clause-exact
returns-in-Ok-clause-exact c = told_left place_of (spelled_all c.args.bytes.now) (length-spelled c.args.bytes.now) (spelled_drop c.args.bytes.now) (one_term_at c.args.many) (reads_split (one_term_reads c.args.many)) _ c.args.tokens.now c.in-Ok.rest.now _ c.in-Ok.ensures.gives
