-- The queries so far are answered.
use Rattle.std.proofs.Common.{◌≡◌, ◌++◌, length, map}
use Rattle.std.specs.Vec.Iter.{into_iter_items, into_iter_len}
use Rattle.lgc_report.specs.Reports.{plain_claim}
use Rattle.lgc_prove.specs.Work.{AreAnswers}
use Rattle.lgc_prove.proofs.answers.claims_for.Given as goal

abbrev pub invariant-loop-query : goal.invariant-loop-query
invariant-loop-query g l =
    (l.yielded ++ into_iter_items l.query-iterator ≡ into_iter_items l.initial.query-iterator) × (into_iter_len l.query-iterator ≡ length (into_iter_items l.query-iterator)) × (length l.claims ≡ length l.yielded)
    × AreAnswers l.m l.book l.yielded l.proofs (map plain_claim l.claims)
