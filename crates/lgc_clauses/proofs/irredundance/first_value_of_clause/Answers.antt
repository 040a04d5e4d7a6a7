use Rattle.std.proofs.Common.{◌≡◌, ℕ, ◌<◌, arith}
use Rattle.lgc_values.specs.Logic.{Logic}
use Rattle.lgc_clauses.specs.Kinds.{plain_rule}
use Rattle.lgc_clauses.specs.Rules.{PlainRule}
use Rattle.lgc_clauses.specs.Irredundance.{IsRedundantValue, ComesBefore, set_asked}
use Rattle.lgc_clauses.proofs.Asked.{asked_at, asked_before}
use Rattle.lgc_clauses.proofs.irredundance.first_value_of_clause.Goals as goal

moved : (logic : Logic) (rule : PlainRule) (i j k v : ℕ) → j ≡ k → IsRedundantValue logic rule i k v → IsRedundantValue logic rule i j v
moved logic rule i j k v e here = rw e here

pub returns-in-Some-clause-some : goal.returns-in-Some-clause-some
returns-in-Some-clause-some g c =
    let rule = plain_rule c.args.rule.now in
    let count = c.set_count-count.result in
    record {
      value = c.in-Some.ensures;
      before = λ k earlier v here.
          let before : ComesBefore rule.head k (set_asked rule.head count c.loop-place.place) = rw c.set_asked-j.ensures.asked at earlier in
          let found = asked_before rule.head count c.loop-place.place k c.loop-place-test.true (omega (arith, here.part)) before in
          c.loop-place.invariant found.0 found.1 v (moved c.args.m.now rule c.args.i (set_asked rule.head count found.0) k v found.2 here);
    }

pub returns-clause-none : goal.returns-clause-none
returns-clause-none g c = λ _ j v here.
    let rule = plain_rule c.args.rule.now in
    let count = c.set_count-count.result in
    let found = asked_at rule.head count j (omega (arith, here.part)) in
    let earlier : found.0 < c.loop-place.place = omega (arith, found.1) in
    c.loop-place.invariant found.0 earlier v (moved c.args.m.now rule c.args.i (set_asked rule.head count found.0) j v found.2 here)
