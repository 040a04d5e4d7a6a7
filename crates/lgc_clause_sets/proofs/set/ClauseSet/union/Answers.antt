-- The others are added to a reduction, or stand alone.
use Rattle.std.proofs.Common.{◌∙◌, length, ap, sym}
use Rattle.std.proofs.lemmas.Bool.{eqb-true}
use Rattle.lgc_clause_sets.proofs.ReductionLaws.{both_added, none_and_others}
use Rattle.lgc_clause_sets.proofs.set.ClauseSet.union.Goals as goal

pub returns-then-is_empty : goal.returns-then-is_empty
returns-then-is_empty g c = none_and_others g.row.N c.args.self c.args.others (ap length (sym c.rows.ensures) ∙ eqb-true (length c.rows.result.now) 0 (sym c.is_empty.ensures ∙ c.if-is_empty.true))

pub returns : goal.returns
returns g c = both_added g.row.N c.args.self c.args.others c.add_each.new.self c.in_ok-add_each.ensures
