-- Rules that are numbered in the order of their first use.
use Rattle.std.specs.Prelude.{◌≡◌, ◌==◌, ℕ, List, [], ◌∷◌, ◌++◌, length, map, All, Contains, if◌then◌else◌}
use Rattle.std.specs.List.{list_any, flat_map, fold, range_with_len}
use Rattle.lgc_clauses.specs.Rules.{OperatorRule, of_operator}
use Rattle.lgc_sequents.specs.Lines.{PlainLine}
use Rattle.lgc_sequents.specs.Steps.{AreSteps}
use Rattle.lgc_sequents.specs.declared.line.Reason.{Reason}
use Rattle.lgc_sequents.specs.declared.line.Reason.TheVariants.{Axiom, Pending, ByRule, Resolve}
use Rattle.lgc_report.specs.Reports.{PlainNumbered}
use Rattle.lgc_report.specs.Valid.{ArePositions}

-- the rule that a reason cites, by its position
abbrev pub rules_of_reason : Reason → List ℕ
rules_of_reason Axiom = []
rules_of_reason Pending = []
rules_of_reason (ByRule rule principal premises) = rule ∷ []
rules_of_reason (Resolve f left right) = []

-- the rules that lines cite, in the order of the lines
abbrev pub rules_cited : List PlainLine → List ℕ
rules_cited lines = flat_map (λ line. rules_of_reason line.reason) lines

-- numbers with one more, where it isn't among them yet
abbrev pub with_number : List ℕ → ℕ → List ℕ
with_number numbers k = if list_any (λ j. k == j) numbers then numbers else numbers ++ k ∷ []

-- each of some numbers once, in the order of their first places
abbrev pub first_uses : List ℕ → List ℕ
first_uses numbers = fold with_number [] numbers

-- so many rules have the numbers 1, 2 and so on in the order in which lines cite them first, and each is cited
abbrev pub AreByUse : ℕ → List PlainLine → Type 0
AreByUse count lines = first_uses (rules_cited lines) ≡ range_with_len 1 count

-- ---- other numbers

abbrev pub renumbered_reason : (ℕ → ℕ) → Reason → Reason
renumbered_reason number Axiom = Axiom
renumbered_reason number Pending = Pending
renumbered_reason number (ByRule rule principal premises) = ByRule (number rule) principal premises
renumbered_reason number (Resolve f left right) = Resolve f left right

-- a line with another number for the rule that it cites
abbrev pub renumbered : (ℕ → ℕ) → PlainLine → PlainLine
renumbered number line = record { number = line.number; sequent = line.sequent; reason = renumbered_reason number line.reason }

-- Lines cite the same rules by other numbers: those of rules in the order of their first use.
pub record IsByUse (n : ℕ) (rules : List OperatorRule) (old : List PlainLine) (used : List PlainNumbered) (new : List PlainLine) : Type 0 where
  pub number : ℕ → ℕ
  pub same : new ≡ map (renumbered number) old
  pub among : All (λ numbered. Contains (map of_operator rules) numbered.rule) used
  pub positions : ArePositions (map (λ numbered. numbered.number) used)
  pub by_use : AreByUse (length used) new
  pub steps : AreSteps n (map (λ numbered. numbered.rule) used) [] new
