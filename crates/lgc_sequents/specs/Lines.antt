-- Lines of derivations, what stands at a position, and when a line is one of a logic.
use Rattle.std.specs.Prelude.{◌≡◌, ◌≤◌, ℕ, zero, suc, true, List, [], ◌∷◌, ◌++◌, map, length, All, slice_get, Option, None, Some, refl}
use Rattle.std.specs.Coded.{Coded, code_by, coded×, coded_ℕ, coded_list}
use Rattle.lgc_values.specs.Logic.{Logic}
use Rattle.lgc_syntax.specs.declared.formula.Formula.{Formula}
use Rattle.lgc_syntax.specs.Fits.{Fits}
use Rattle.lgc_syntax.specs.Variables.{has_no_bound}
use Rattle.lgc_sequents.specs.Signed.{SignedFormula, signed_code}
use Rattle.lgc_sequents.specs.declared.line.Cited.{Cited}
use Rattle.lgc_sequents.specs.declared.line.Reason.{Reason}
use Rattle.lgc_sequents.specs.declared.line.Reason.TheVariants.{Axiom, Pending, ByRule, Resolve}
use Rattle.lgc_sequents.specs.contracts.line.Reason as reason

-- a line, without the number of truth values in its type
pub record PlainLine : Type 0 where
  pub number : ℕ
  pub sequent : List SignedFormula
  pub reason : Reason

-- a line is stored as its fields
abbrev pub line_code : Coded PlainLine
line_code = code_by (ℕ × (List SignedFormula × Reason)) (coded× coded_ℕ (coded× (coded_list signed_code) reason.the_row.coded)) (λ line. (line.number, (line.sequent, line.reason))) (λ fields. record { number = fields.0; sequent = fields.1.0; reason = fields.1.1 }) (λ _. refl)

-- ---- positions, which are counted from 1

-- what stands at a position
abbrev pub at_position : {X : Type 0} → List X → ℕ → Option X
at_position xs zero = None
at_position xs (suc k) = slice_get xs k

-- something stands there
abbrev pub IsPosition : {X : Type 0} → List X → ℕ → Type 0
IsPosition xs position = (1 ≤ position) × (position ≤ length xs)

abbrev pub sequent_of : Option PlainLine → List SignedFormula
sequent_of None = []
sequent_of (Some line) = line.sequent

-- the sequent of the line at a position, and the empty one where there is none
abbrev pub sequent_at : List PlainLine → ℕ → List SignedFormula
sequent_at lines position = sequent_of (at_position lines position)

-- ---- lines of a logic

-- the formula that a reason names
abbrev pub named_by : Reason → List Formula
named_by Axiom = []
named_by Pending = []
named_by (ByRule rule principal premises) = principal ∷ []
named_by (Resolve f left right) = f ∷ []

-- the formulas of a line
abbrev pub formulas_of : PlainLine → List Formula
formulas_of line = map (λ item. item.formula) line.sequent ++ named_by line.reason

-- the premises that a reason by a rule cites
abbrev pub premises_of : Reason → List Cited
premises_of Axiom = []
premises_of Pending = []
premises_of (ByRule rule principal premises) = premises
premises_of (Resolve f left right) = []

-- the line is one for this logic
pub record FitsLine (logic : Logic) (line : PlainLine) : Type 0 where
  pub formulas : All (Fits logic) (formulas_of line)
  pub terms : All (λ cited. All (λ t. has_no_bound t ≡ true) cited.terms) (premises_of line.reason)
