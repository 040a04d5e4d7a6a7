use Rattle.std.proofs.Common.{length, arith}
use Rattle.lgc_tokens.specs.Spelled.{spelled_all, place_of}
use Rattle.lgc_tokens.proofs.Places.{length-spelled, spelled_drop}
use Rattle.lgc_inputs.proofs.Places.{told_moved, same_back, fault_moved, reads_split}
use Rattle.lgc_formulas.specs.TermReading.{one_term_at}
use Rattle.lgc_formulas.proofs.TermReads.{one_term_reads}
use Rattle.lgc_formulas.proofs.read.term_from.Goals as goal

pub returns-in-Ok-clause-exact : goal.returns-in-Ok-clause-exact
returns-in-Ok-clause-exact c = told_moved place_of (spelled_all c.args.bytes.now) (length-spelled c.args.bytes.now) (spelled_drop c.args.bytes.now) (one_term_at c.args.many) (reads_split (one_term_reads c.args.many)) (length c.args.bytes.now) c.args.tokens.now _ c.args.at c.requires.at c.split_at.ensures.back _ c.in-Ok.left (omega (arith, c.in-Ok.ensures.within)) c.in-Ok.ensures.exact

pub returns-in-Err-clause-exact : goal.returns-in-Err-clause-exact
returns-in-Err-clause-exact c = fault_moved c.in-Err.fault _ _ (same_back place_of (spelled_all c.args.bytes.now) (length-spelled c.args.bytes.now) (spelled_drop c.args.bytes.now) (one_term_at c.args.many) (reads_split (one_term_reads c.args.many)) (length c.args.bytes.now) c.args.tokens.now _ c.args.at c.requires.at c.split_at.ensures.back) c.in-Err.ensures.exact
