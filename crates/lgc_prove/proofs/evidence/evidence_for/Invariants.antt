-- The goals so far are proved.
use Rattle.std.proofs.Common.{take}
use Rattle.std.specs.List.{AllZip}
use Rattle.lgc_goals.specs.Goals.{goals_of}
use Rattle.lgc_prove.specs.Work.{Proves, AreLinesBy, AreAppendedFor}
use Rattle.lgc_prove.proofs.evidence.evidence_for.Given as goal

abbrev pub invariant-loop-place : goal.invariant-loop-place
invariant-loop-place g l = AreLinesBy l.m l.book l.proofs × AreAppendedFor l.query l.fn.proofs l.proofs × AllZip (Proves l.m l.proofs) l.cited (take l.place (goals_of l.m.size l.query))
