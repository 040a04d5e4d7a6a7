-- A set has all values where its complement is empty.
use Rattle.std.proofs.Common.{◌≡◌, [], List, ℕ, subst}
use Rattle.std.specs.Bool.{Decides}
use Rattle.lgc_sequents.proofs.Laws.{has_all_test}
use Rattle.lgc_clause_sets.proofs.row.is_full.Goals as goal

pub returns : goal.returns
returns g c = has_all_test c.is_empty.result g.row.N c.args.set (subst (λ (missing : List ℕ). Decides c.is_empty.result (missing ≡ [])) c.complement.ensures c.is_empty.ensures)
