use Rattle.std.proofs.Common.{◌≤◌, arith}
use Rattle.lgc_spec.proofs.Indices.{power_small}
use Rattle.lgc_spec.proofs.operators.arity_given.Goals as goal

pub pow-requires : goal.pow-requires
pow-requires c =
    let narrow : c.from.result ≤ 4 = omega (arith, c.in-Some.ensures, c.from.ensures) in
    let small = power_small c.args.n c.from.result 4 c.requires.some c.requires.few narrow in
    omega arith
