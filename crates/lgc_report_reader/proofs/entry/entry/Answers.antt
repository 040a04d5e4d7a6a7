use Rattle.lgc_report_reader.proofs.EntryAtoms.{unlisted}
use Rattle.lgc_report_reader.proofs.entry.entry.Goals as goal

pub set-requires-clause-unlisted : goal.set-requires-clause-unlisted
set-requires-clause-unlisted g c = unlisted _ _ c.in_ok-atom.ensures.unlisted
