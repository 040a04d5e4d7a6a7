-- A clause that lacks a bit of another one's mark isn't subsumed by it.
use Rattle.std.proofs.Common.{arith}
use Rattle.std.specs.Prelude.{bit_and}
use Rattle.std.proofs.lemmas.Bool.{eqb-false}
use Rattle.lgc_clause_sets.proofs.MarkLaws.{mark_differs}
use Rattle.lgc_clause_sets.proofs.row.may_subsume.Goals as goal

pub returns : goal.returns
returns c = λ lacks a b is is'. mark_differs a b c.args.mark c.args.other is is' (omega (arith, c.ranges.mark)) (eqb-false (bit_and c.args.mark c.args.other) c.args.mark lacks)
