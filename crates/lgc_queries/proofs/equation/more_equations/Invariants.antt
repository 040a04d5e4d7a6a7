use Rattle.std.proofs.Common.{◌≡◌, length}
use Rattle.lgc_tokens.specs.Spelled.{IsRest}
use Rattle.lgc_formulas.specs.Named.{named_all}
use Rattle.lgc_formulas.specs.Setting.{setting_of}
use Rattle.lgc_queries.specs.QueryReading.{more_equations_at}
use Rattle.lgc_queries.proofs.equation.more_equations.Given as goal

abbrev pub invariant-loop-alloc : goal.invariant-loop-alloc
invariant-loop-alloc g l = record {
  so_far : more_equations_at (setting_of l.c) l.equations (named_all l.c.m.now l.c.bytes.now l.rest) ≡ more_equations_at (setting_of l.c) l.fn.before (named_all l.c.m.now l.c.bytes.now l.tokens);
  rest : IsRest l.c.bytes.now l.tokens l.rest;
}

abbrev pub decreases-loop-alloc : goal.decreases-loop-alloc
decreases-loop-alloc g l = length l.rest
