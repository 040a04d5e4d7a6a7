-- The value is taken, or given back where a row shows that it is needed.
use Rattle.std.proofs.Common.{ℕ, List, sym, subst}
use Rattle.lgc_clauses.specs.Irredundance.{sets_without}
use Rattle.lgc_derivation.specs.Parts.{IsWithin}
use Rattle.lgc_derivation.specs.Derived.{Follows, IsSettled, RefutesAt}
use Rattle.lgc_derivation.proofs.Within.{within_refl, within_without, taken_is_gone}
use Rattle.lgc_derivation.proofs.Taking.{taken, given_back}
use Rattle.lgc_derivation.proofs.shrinking.try_drop.Goals as goal

pub returns-in-Some-clause-within : goal.returns-in-Some-clause-within
returns-in-Some-clause-within g c =
    let back = given_back c.args.sets.now c.args.j c.index-sets-j.result c.without.result c.requires.part c.index-sets-j.is in
    subst (λ (s : List (List ℕ)). IsWithin s c.args.sets.now) (sym back) (within_refl c.args.sets.now)

pub returns-in-Some-clause-follows : goal.returns-in-Some-clause-follows
returns-in-Some-clause-follows g c =
    let back = given_back c.args.sets.now c.args.j c.index-sets-j.result c.without.result c.requires.part c.index-sets-j.is in
    subst (λ (s : List (List ℕ)). Follows (g.T.Table.plain c.args.table.now) s) (sym back) c.requires.follows

pub returns-in-Some-clause-settled : goal.returns-in-Some-clause-settled
returns-in-Some-clause-settled g c =
    let table = g.T.Table.plain c.args.table.now in
    let back = given_back c.args.sets.now c.args.j c.index-sets-j.result c.without.result c.requires.part c.index-sets-j.is in
    let less = taken c.args.sets.now c.args.j c.args.v c.index-sets-j.result c.without.result c.requires.part c.index-sets-j.is c.without.ensures in
    let refuted : RefutesAt table (sets_without c.args.sets.now c.args.j c.args.v) c.in-Some._row = subst (λ (s : List (List ℕ)). RefutesAt table s c.in-Some._row) less c.in-Some.ensures in
    subst (λ (s : List (List ℕ)). IsSettled table s c.args.j c.args.v) (sym back) (λ member. (c.in-Some._row, refuted))

pub returns-in_default-clause-within : goal.returns-in_default-clause-within
returns-in_default-clause-within g c =
    let less = taken c.args.sets.now c.args.j c.args.v c.index-sets-j.result c.without.result c.requires.part c.index-sets-j.is c.without.ensures in
    subst (λ (s : List (List ℕ)). IsWithin s c.args.sets.now) (sym less) (within_without c.args.sets.now c.args.j c.args.v)

pub returns-in_default-clause-settled : goal.returns-in_default-clause-settled
returns-in_default-clause-settled g c =
    let less = taken c.args.sets.now c.args.j c.args.v c.index-sets-j.result c.without.result c.requires.part c.index-sets-j.is c.without.ensures in
    subst (λ (s : List (List ℕ)). IsSettled (g.T.Table.plain c.args.table.now) s c.args.j c.args.v) (sym less) (λ member. absurd (taken_is_gone c.args.sets.now c.args.j c.args.v c.requires.part member))
