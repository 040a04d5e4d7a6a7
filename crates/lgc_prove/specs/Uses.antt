-- Words of private calls: the rules that are in use, and their new numbers.
use Rattle.std.specs.Prelude.{◌≡◌, ℕ, ◌+◌, ◌==◌, List, length, map, Some}
use Rattle.std.specs.List.{position_or_len, range_with_len}
use Rattle.lgc_clauses.specs.Rules.{OperatorRule, of_operator}
use Rattle.lgc_sequents.specs.Lines.{at_position}
use Rattle.lgc_report.specs.Reports.{PlainNumbered}

-- the number of a rule: its place among those in use, counted from 1
abbrev pub number_in : List ℕ → ℕ → ℕ
number_in uses rule = position_or_len (λ k. rule == k) uses + 1

-- the rules at these positions, numbered in this order
pub record AreNumberedFrom (rules : List OperatorRule) (uses : List ℕ) (used : List PlainNumbered) : Type 0 where
  pub numbers : map (λ numbered. numbered.number) used ≡ range_with_len 1 (length uses)
  pub same : map (λ numbered. Some numbered.rule) used ≡ map (at_position (map of_operator rules)) uses
