-- What is left is what the clause doesn't subsume.
use Rattle.std.proofs.Common.{rules, not}
use Rattle.std.proofs.lemmas.Fn.{filter_same}
use Rattle.lgc_clause_sets.specs.AtomClauses.{subsumes}
use Rattle.lgc_clause_sets.proofs.set.take_out_subsumed.Goals as goal

pub returns-clause-items : goal.returns-clause-items
returns-clause-items g c = filter_same _ (λ kept. not (subsumes c.args.row.now kept)) _ (λ x b f called. search rules) _ _ c.retain.ensures.filtered
