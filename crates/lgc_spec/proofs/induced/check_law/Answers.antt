use Rattle.std.proofs.Common.{length}
use Rattle.lgc_spec.specs.Inductions.{width}
use Rattle.lgc_spec.proofs.InductionSteps.{width_small, few_rows}
use Rattle.lgc_spec.proofs.induced.check_law.Goals as goal

pub argument_names-requires-clause-short : goal.argument_names-requires-clause-short
argument_names-requires-clause-short c = rw c.width.ensures (few_rows (length c.args.names.now) (width c.args.law) c.requires.some c.requires.few (width_small c.args.law))
