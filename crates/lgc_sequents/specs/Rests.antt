-- What a line rests on.
use Rattle.std.specs.Prelude.{◌≡◌, ◌<◌, ℕ, List, [], ◌∷◌, map, Contains, Some}
use Rattle.lgc_sequents.specs.Lines.{PlainLine, at_position}
use Rattle.lgc_sequents.specs.declared.line.Reason.{Reason}
use Rattle.lgc_sequents.specs.declared.line.Reason.TheVariants.{Axiom, Pending, ByRule, Resolve}

-- the lines that a reason cites, by their positions
abbrev pub cited_by : Reason → List ℕ
cited_by Axiom = []
cited_by Pending = []
cited_by (ByRule rule principal premises) = map (λ cited. cited.line) premises
cited_by (Resolve f left right) = left ∷ right ∷ []

-- A line rests on itself. Where it cites a line before it, it also rests on whatever that one rests on.
pub data RestsOn (lines : List PlainLine) : ℕ → ℕ → Type 0 where
  on_itself : (position : ℕ) → RestsOn lines position position
  on_cited : (position earlier other : ℕ) (line : PlainLine) → at_position lines position ≡ Some line → Contains (cited_by line.reason) earlier → earlier < position → RestsOn lines earlier other → RestsOn lines position other

-- the line at a position rests on a pending line
pub record IsPendingBased (lines : List PlainLine) (position : ℕ) : Type 0 where
  pub other : ℕ
  pub line : PlainLine
  pub rests : RestsOn lines position other
  pub stands : at_position lines other ≡ Some line
  pub pending : line.reason ≡ Pending
