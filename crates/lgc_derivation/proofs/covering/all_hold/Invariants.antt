-- The clauses before this one are true.
use Rattle.std.proofs.Common.{◌≡◌, take, true}
use Rattle.lgc_derivation.specs.Tables.{all_hold_over}
use Rattle.lgc_derivation.proofs.covering.all_hold.Given as goal

abbrev pub invariant-loop-clause : goal.invariant-loop-clause
invariant-loop-clause g l = all_hold_over (g.T.Table.plain l.table) (take l.clause-index l.clauses) l.row ≡ true
