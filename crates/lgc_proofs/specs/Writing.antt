-- Words of private calls: the lines of lemmas.
use Rattle.std.specs.Prelude.{◌≡◌, ◌<◌, ◌≤◌, ℕ, Bool, true, false, List, [], ◌∷◌, All, map, slice_get, slice_index, slice_index_or, Some, IsPermutation}
use Rattle.lgc_syntax.specs.declared.formula.Formula.{Formula}
use Rattle.lgc_sequents.specs.Lines.{PlainLine, IsPosition, sequent_at}
use Rattle.lgc_sequents.specs.declared.line.Cited.{Cited}
use Rattle.lgc_sequents.specs.declared.line.Reason.{Reason as LineReason}
use Rattle.lgc_sequents.specs.declared.line.Reason.TheVariants as of_line
use Rattle.lgc_numbering.specs.Numbering.{formula_at}
use Rattle.lgc_packed.specs.Packed.{unpacked}
use Rattle.lgc_lemmas.specs.declared.lemma.Reason.{Reason}
use Rattle.lgc_lemmas.specs.declared.lemma.Reason.TheVariants as of_lemma
use Rattle.lgc_lemmas.specs.Plain.{PlainLemma}

-- ---- the reasons of lemmas

-- the places of the lemmas that a reason cites
abbrev pub places_cited_by : Reason → List ℕ
places_cited_by of_lemma.Axiom = []
places_cited_by (of_lemma.ByRule number principal cited) = cited

-- the number of its principal formula, if any
abbrev pub number_named_by : Reason → List ℕ
number_named_by of_lemma.Axiom = []
number_named_by (of_lemma.ByRule number principal cited) = principal ∷ []

-- this is true of each place that the lemma at a place cites
abbrev pub IsTrueOfCited : (ℕ → Type 0) → List PlainLemma → ℕ → Type 0
IsTrueOfCited P lemmas place = (lemma : PlainLemma) → slice_get lemmas place ≡ Some lemma → All P (places_cited_by lemma.reason)

-- each lemma cites lemmas before it
abbrev pub CiteEarlier : List PlainLemma → Type 0
CiteEarlier lemmas = (place : ℕ) → IsTrueOfCited (λ cited. cited < place) lemmas place

-- ---- marks

-- whether the lemma at a place is marked
abbrev pub is_marked : List Bool → ℕ → Bool
is_marked marks place = slice_index_or marks place false

-- where a lemma at this place or behind it is marked, the lemmas that it cites are
abbrev pub AreClosedFrom : ℕ → List PlainLemma → List Bool → Type 0
AreClosedFrom from lemmas marks = (place : ℕ) → from ≤ place → is_marked marks place ≡ true → IsTrueOfCited (λ cited. is_marked marks cited ≡ true) lemmas place

-- ---- lines of lemmas

-- the line of a cited lemma, without terms, where lemmas have their lines at these positions
abbrev pub cited_line : (ℕ → ℕ) → ℕ → Cited
cited_line position place = record { line = position place; terms = [] }

-- the reason of a lemma, of the formulas with its numbers and of lines
abbrev pub line_reason : List Formula → (ℕ → ℕ) → Reason → LineReason
line_reason formulas position of_lemma.Axiom = of_line.Axiom
line_reason formulas position (of_lemma.ByRule number principal cited) = of_line.ByRule number (formula_at formulas principal) (map (cited_line position) cited)

-- the line at a position has the items of the lemma at a place, in some order
pub record HasLine (formulas : List Formula) (lemmas : List PlainLemma) (lines : List PlainLine) (place position : ℕ) : Type 0 where
  pub stands : IsPosition lines position
  pub same : (lemma : PlainLemma) → slice_get lemmas place ≡ Some lemma → IsPermutation (sequent_at lines position) (unpacked formulas lemma.sequent)

-- the same of each marked lemma before a place
abbrev pub HaveLines : List Formula → List PlainLemma → List PlainLine → List Bool → List ℕ → ℕ → Type 0
HaveLines formulas lemmas lines marks positions before = (place : ℕ) → place < before → is_marked marks place ≡ true → HasLine formulas lemmas lines place (slice_index positions place)
