-- Words of private calls: marks of lines, which tell that a line rests on a pending one.
use Rattle.std.specs.Prelude.{◌≡◌, ◌↔◌, ℕ, ◌||◌, Bool, true, false, List, Option, Some, None}
use Rattle.std.specs.List.{list_any}
use Rattle.lgc_sequents.specs.Lines.{PlainLine, at_position}
use Rattle.lgc_sequents.specs.Rests.{IsPendingBased}
use Rattle.lgc_sequents.specs.declared.line.Reason.{Reason}
use Rattle.lgc_sequents.specs.declared.line.Reason.TheVariants.{Axiom, Pending, ByRule, Resolve}

abbrev pub mark_of : Option Bool → Bool
mark_of None = false
mark_of (Some mark) = mark

-- whether the line at a position has a mark
abbrev pub is_marked : List Bool → ℕ → Bool
is_marked marks position = mark_of (at_position marks position)

-- whether a line with this reason gets one: it is pending, or cites a line that has
abbrev pub gets_mark : List Bool → Reason → Bool
gets_mark marks Axiom = false
gets_mark marks Pending = true
gets_mark marks (ByRule rule principal premises) = list_any (λ cited. is_marked marks cited.line) premises
gets_mark marks (Resolve f left right) = is_marked marks left || is_marked marks right

-- the lines with marks are those that rest on a pending one
abbrev pub AreMarks : List PlainLine → List Bool → Type 0
AreMarks lines marks = (position : ℕ) → is_marked marks position ≡ true ↔ IsPendingBased lines position
