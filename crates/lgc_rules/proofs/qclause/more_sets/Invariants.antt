use Rattle.std.proofs.Common.{◌≡◌, length}
use Rattle.lgc_tokens.specs.Spelled.{IsRest, spelled_all}
use Rattle.lgc_rules.specs.RuleReading.{more_sets_at}
use Rattle.lgc_rules.proofs.qclause.more_sets.Given as goal

abbrev pub invariant-loop-all : goal.invariant-loop-all
invariant-loop-all g l = record {
  so_far : more_sets_at g.row.N l.m l.all (spelled_all l.bytes l.rest) ≡ more_sets_at g.row.N l.m l.fn.all (spelled_all l.bytes l.tokens);
  rest : IsRest l.bytes l.tokens l.rest;
}

abbrev pub decreases-loop-all : goal.decreases-loop-all
decreases-loop-all g l = length l.rest
