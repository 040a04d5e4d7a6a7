-- A settled value stays settled, and no value from N on is in the set.
use Rattle.std.proofs.Common.{◌≡◌, ◌<◌, true, [], ap, ◌∙◌, below_more, arith}
use Rattle.std.proofs.lemmas.List.{get_or_read}
use Rattle.lgc_values.specs.Values.{has}
use Rattle.lgc_clauses.specs.Irredundance.{set_at}
use Rattle.lgc_derivation.specs.Derived.{IsSettled}
use Rattle.lgc_derivation.proofs.Within.{within_trans, within_at}
use Rattle.lgc_derivation.proofs.Taking.{settled_within}
use Rattle.lgc_derivation.proofs.shrinking.shrink_set.Goals as goal

pub loop-v-preserved : goal.loop-v-preserved
loop-v-preserved g c =
    let table = g.T.Table.plain c.args.table.now in
    let new = c.try_drop.new.sets in
    record {
      within = within_trans new c.loop-v.sets c.args.sets.now c.try_drop.ensures.within c.loop-v.invariant.within;
      follows = c.try_drop.ensures.follows;
      settled = below_more (λ v. IsSettled table new c.args.j v) c.loop-v.v
          (λ v lt. settled_within table (g.met.T.Table.monotone c.args.table.now) new c.loop-v.sets c.args.j v c.try_drop.ensures.within (c.loop-v.invariant.settled v lt))
          c.try_drop.ensures.settled;
    }

pub returns-clause-settled : goal.returns-clause-settled
returns-clause-settled g c =
    λ v member.
    let before : has (set_at c.args.sets.now c.args.j) v ≡ true = within_at c.loop-v.sets c.args.sets.now c.args.j v c.loop-v.invariant.within member in
    let is : c.index-sets-j.result ≡ set_at c.args.sets.now c.args.j = get_or_read c.args.sets.now c.args.j c.index-sets-j.result c.requires.part c.index-sets-j.is [] in
    let below : v < g.row.N = c.bound-v-end.ensures.below v (ap (λ s. has s v) is ∙ before) in
    c.loop-v.invariant.settled v (omega arith) member
