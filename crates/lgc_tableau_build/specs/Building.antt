-- Words of private calls: what is true of a branch while a tableau is built, and what is made on it.
use Rattle.std.specs.Prelude.{◌≡◌, ◌<◌, ◌⊎◌, ℕ, ◌+◌, Bool, true, false, List, [], ◌∷◌, length, map, All, Contains, slice_get, slice_set, Some}
use Rattle.std.specs.List.{zip}
use Rattle.lgc_values.specs.Values.{has}
use Rattle.lgc_values.specs.Logic.{Logic}
use Rattle.lgc_clauses.specs.Rules.{OperatorRule}
use Rattle.lgc_syntax.specs.declared.formula.Formula.{Formula, Op}
use Rattle.lgc_syntax.specs.Values.{value, IsValuation}
use Rattle.lgc_sequents.specs.Signed.{SignedFormula}
use Rattle.lgc_sequents.specs.Sequents.{is_true_at}
use Rattle.lgc_sequents.specs.Steps.{carries}
use Rattle.lgc_meaning.specs.Valuations.{is_atom}
use Rattle.lgc_numbering.specs.declared.node.Node.{Node}
use Rattle.lgc_numbering.specs.Numbering.{formula_at, AreNodesOf}
use Rattle.lgc_packed.specs.Packed.{marks, unpacked}
use Rattle.lgc_packed.specs.Packing.{AreKnown}
use Rattle.lgc_decision.specs.Atoms.{HasAtomsBelow}
use Rattle.lgc_sequents.specs.Everywhere.{IsTrueEverywhere}
use Rattle.lgc_decision.specs.Decided.{AreSubformulasOf}
use Rattle.lgc_tableau.specs.ClosedTableaux.{PlainTableau, PlainCase, IsClosed, AreClosed}
use Rattle.lgc_tableau.specs.OrderlyTableaux.{IsOrderly, AreOrderly}
use Rattle.lgc_tableau_build.specs.Numbers.{is_left, IsFree}

-- ---- branches

-- a formula may still get values on a branch, or be split there: it is an atom, or left
abbrev pub IsLeft : List Formula → List Bool → Formula → Type 0
IsLeft formulas left f = (is_atom f ≡ true) ⊎ ((k : ℕ) × (is_left left k ≡ true) × (slice_get formulas k ≡ Some f))

-- those that are left are compounds, and their arguments are left as well
pub record AreLeft (formulas : List Formula) (left : List Bool) : Type 0 where
  pub count : length left ≡ length formulas
  pub compounds : (k : ℕ) → is_left left k ≡ true → (op : ℕ) × (args : List Formula) × (slice_get formulas k ≡ Some (Op op args))
  pub arguments : (k op : ℕ) (args : List Formula) → is_left left k ≡ true → slice_get formulas k ≡ Some (Op op args) → All (IsLeft formulas left) args

-- where each formula that is left takes none of the values that it has on the branch, the branch is false
abbrev pub Settles : Logic → (Formula → Type 0) → List SignedFormula → Type 0
Settles logic Left branch = (v : Formula → ℕ) → IsValuation logic v → ((f : Formula) → Left f → carries branch f (value logic v f) ≡ false) → is_true_at (value logic v) branch ≡ false

-- what is true of a branch: it is true under every valuation, and what is left settles it
pub record IsBranch (logic : Logic) (formulas : List Formula) (left : List Bool) (branch : List (ℕ × List ℕ)) : Type 0 where
  pub known : AreKnown formulas branch
  pub settles : Settles logic (IsLeft formulas left) (unpacked formulas branch)
  pub holds : IsTrueEverywhere logic (unpacked formulas branch)

-- ---- splits

-- A formula that is left, and an argument of no other one that is, with its values on the branch, and what else is left.
pub record IsOpened (logic : Logic) (formulas : List Formula) (left : List Bool) (branch : List (ℕ × List ℕ)) (k : ℕ) (sign : List ℕ) (rest : List Bool) : Type 0 where
  pub nodes : List Node
  pub are : AreNodesOf formulas nodes
  pub free : IsFree nodes left k
  pub signed : (w : ℕ) → w < logic.size → has sign w ≡ marks branch k w
  pub is : rest ≡ slice_set left k false

-- The formula with a number is a compound of a rule's operator, the rule has this sign, and these are its clauses, each as the pairs of the
-- arguments' numbers and its sets.
pub record IsExpanded (rules : List OperatorRule) (formulas : List Formula) (k : ℕ) (sign : List ℕ) (additions : List (List (ℕ × List ℕ))) : Type 0 where
  pub rule : OperatorRule
  pub known : Contains rules rule
  pub signed : rule.sign ≡ sign
  pub args : List ℕ
  pub numbers : All (λ a. a < length formulas) args
  pub compound : slice_get formulas k ≡ Some (Op rule.op (map (formula_at formulas) args))
  pub is : additions ≡ map (zip args) rule.clauses

-- none of the formulas that were split above is left
abbrev pub AreSplit : List Formula → List Bool → List Formula → Type 0
AreSplit formulas left above = (k : ℕ) (f : Formula) → is_left left k ≡ true → slice_get formulas k ≡ Some f → Contains above f → ⊥

-- a tableau is closed on a branch, and made in good order where the formulas are subformulas of a goal
pub record IsMade (logic : Logic) (rules : List OperatorRule) (formulas : List Formula) (left : List Bool) (branch : List (ℕ × List ℕ)) (t : PlainTableau) : Type 0 where
  pub closed : IsClosed logic (unpacked formulas branch) t
  pub orderly : (goal : List SignedFormula) (above : List Formula) → AreSubformulasOf goal formulas → AreSplit formulas left above → IsOrderly logic rules goal (unpacked formulas branch) above t

-- so are those below cases, which add these pairs to the branch
pub record AreMade (logic : Logic) (rules : List OperatorRule) (formulas : List Formula) (left : List Bool) (branch : List (ℕ × List ℕ)) (additions : List (List (ℕ × List ℕ))) (cases : List PlainCase) : Type 0 where
  pub added : map (λ case. case.added) cases ≡ map (unpacked formulas) additions
  pub closed : AreClosed logic (unpacked formulas branch) cases
  pub orderly : (goal : List SignedFormula) (above : List Formula) → AreSubformulasOf goal formulas → AreSplit formulas left above → AreOrderly logic rules goal (unpacked formulas branch) above cases

-- how many formulas are left
abbrev pub left_count : List Bool → ℕ
left_count [] = 0
left_count (true ∷ left) = left_count left + 1
left_count (false ∷ left) = left_count left

-- ---- valuations

-- Entries have the values of a list at the numbers of formulas: one for each atom with a number below n, and no others.
pub record ListsAtomsBelow (n : ℕ) (formulas : List Formula) (values : List ℕ) (entries : List (Formula × ℕ)) : Type 0 where
  pub valued : HasAtomsBelow n formulas values entries
  pub each : (k : ℕ) (f : Formula) → k < n → slice_get formulas k ≡ Some f → is_atom f ≡ true → Contains (map (λ entry. entry.0) entries) f
