-- How the loop over the equations looks for one that fails.
use Rattle.std.proofs.Common.{◌≡◌, not, drop}
use Rattle.std.specs.List.{list_any}
use Rattle.lgc_syntax.specs.Values.{listed, value}
use Rattle.lgc_meaning.specs.Queries.{holds_at}
use Rattle.lgc_meaning.proofs.satisfaction.some_fails.Given as goal

abbrev pub invariant-loop-pair : goal.invariant-loop-pair
invariant-loop-pair g l = list_any (λ pair. not (holds_at (value l.m (listed l.v)) pair)) l.pairs ≡ list_any (λ pair. not (holds_at (value l.m (listed l.v)) pair)) (drop l.pair-index l.pairs)
