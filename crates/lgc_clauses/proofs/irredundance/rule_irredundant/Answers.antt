use Rattle.std.proofs.Common.{arith}
use Rattle.lgc_clauses.specs.Kinds.{plain_rule}
use Rattle.lgc_clauses.proofs.Asked.{numbered_below}
use Rattle.lgc_clauses.proofs.irredundance.rule_irredundant.Goals as goal

pub part_of-requires : goal.part_of-requires
part_of-requires g c = (omega arith, numbered_below (plain_rule c.args.rule.now) c.in_ok-i.i c.in_ok-i.j c.requires.few c.in_ok-i.ensures.clause c.in_ok-i.ensures.part)
