use Rattle.std.proofs.Common.{◌≡◌, ◌≤◌, ◌+◌, length}
use Rattle.std.specs.Str.{bytes_eq}
use Rattle.std.specs.List.{position_from}
use Rattle.lgc_formulas.specs.declared.formula.TheConstants.{MOST_DEPTH}
use Rattle.lgc_formulas.specs.Scopes.{names_of, bound_in}
use Rattle.lgc_formulas.proofs.scope.place_of.Given as goal

abbrev pub invariant-loop-at : goal.invariant-loop-at
invariant-loop-at l = record {
  so_far : position_from (λ name. bytes_eq name l.text) l.place (names_of l.at) ≡ bound_in (names_of l.scope) l.text;
  few : l.place + length (names_of l.at) ≤ MOST_DEPTH;
}
