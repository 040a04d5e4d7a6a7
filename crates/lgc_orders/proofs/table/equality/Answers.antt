use Rattle.std.proofs.Common.{◌≡◌, ◌*◌, arith, subst}
use Rattle.lgc_orders.proofs.TableLaws.{IsEqualitySoFar, TellsLinks-none}
use Rattle.lgc_orders.proofs.table.equality.Goals as goal

pub returns : goal.returns
returns c =
    let all : c.loop-place.place ≡ c.args.n * c.args.n = omega arith in
    TellsLinks-none c.args.n c.loop-place.table.items (subst (λ i. IsEqualitySoFar c.args.n c.loop-place.table.items i) all c.loop-place.invariant)
