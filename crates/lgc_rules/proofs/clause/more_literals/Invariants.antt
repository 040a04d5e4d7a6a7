use Rattle.std.proofs.Common.{◌≡◌, ◌≤◌, length}
use Rattle.lgc_tokens.specs.Spelled.{IsRest, spelled_all}
use Rattle.lgc_rules.specs.RuleReading.{more_literals_at}
use Rattle.lgc_rules.proofs.clause.more_literals.Given as goal

abbrev pub invariant-loop-sets : goal.invariant-loop-sets
invariant-loop-sets g l = record {
  so_far : more_literals_at g.row.N l.m l.arity l.sets (spelled_all l.bytes l.rest) ≡ more_literals_at g.row.N l.m l.arity l.fn.sets (spelled_all l.bytes l.tokens);
  few : length l.sets ≤ l.arity;
  rest : IsRest l.bytes l.tokens l.rest;
}

abbrev pub decreases-loop-sets : goal.decreases-loop-sets
decreases-loop-sets g l = length l.rest
