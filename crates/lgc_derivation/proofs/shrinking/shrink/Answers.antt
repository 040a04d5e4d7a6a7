-- A settled value stays settled when the next set shrinks.
use Rattle.std.proofs.Common.{below_more}
use Rattle.lgc_derivation.specs.Derived.{IsSettled}
use Rattle.lgc_derivation.proofs.Within.{within_trans}
use Rattle.lgc_derivation.proofs.Taking.{settled_within}
use Rattle.lgc_derivation.proofs.shrinking.shrink.Goals as goal

pub loop-j-preserved : goal.loop-j-preserved
loop-j-preserved g c =
    let table = g.T.Table.plain c.args.table.now in
    let new = c.shrink_set.new.sets in
    record {
      within = within_trans new c.loop-j.sets c.args.sets.now c.shrink_set.ensures.within c.loop-j.invariant.within;
      follows = c.shrink_set.ensures.follows;
      settled = λ j v lt. below_more (λ k. IsSettled table new k v) c.loop-j.j
          (λ k lt'. settled_within table (g.met.T.Table.monotone c.args.table.now) new c.loop-j.sets k v c.shrink_set.ensures.within (c.loop-j.invariant.settled k v lt'))
          (c.shrink_set.ensures.settled v) j lt;
    }
