-- Tableaux that are made in good order.
use Rattle.std.specs.Prelude.{◌≡◌, ◌≢◌, ◌<◌, ℕ, List, [], ◌∷◌, ◌++◌, map, Contains, slice_get, Some}
use Rattle.std.specs.List.{Any}
use Rattle.lgc_values.specs.Logic.{Logic}
use Rattle.lgc_clauses.specs.Rules.{OperatorRule, of_operator}
use Rattle.lgc_syntax.specs.declared.formula.Formula.{Formula, Op}
use Rattle.lgc_syntax.specs.Subformulas.{IsSubformula}
use Rattle.lgc_sequents.specs.Signed.{SignedFormula}
use Rattle.lgc_calculus.specs.Calculus.{IsRightRule}
use Rattle.lgc_tableau.specs.declared.tableau.Tableau.{Closed, Split}
use Rattle.lgc_tableau.specs.ClosedTableaux.{PlainTableau, PlainCase, CarriesAll, rule_of}

-- no formula has every value below n on the branch
abbrev pub IsUnclosed : ℕ → List SignedFormula → Type 0
IsUnclosed n branch = (f : Formula) → CarriesAll n branch f → ⊥

-- the formula of the signed formula at a place of the branch has every value there, and none does that has a value before
pub record IsFirstFull (n : ℕ) (branch : List SignedFormula) (f : Formula) : Type 0 where
  pub at : ℕ
  pub item : SignedFormula
  pub is : slice_get branch at ≡ Some item
  pub formula : item.formula ≡ f
  pub signed : item.sign ≢ []
  pub full : CarriesAll n branch f
  pub before : (i : ℕ) (earlier : SignedFormula) → i < at → slice_get branch i ≡ Some earlier → earlier.sign ≢ [] → CarriesAll n branch earlier.formula → ⊥

-- Some formulas were split above on the branch. A compound is split there in good order: no formula has every value, it is a subformula of the
-- goal, it wasn't split above, and the cases are the clauses of one of some rules, which is exact and irredundant and has its clauses in rising order.
pub record IsOrderlySplit (logic : Logic) (rules : List OperatorRule) (goal branch : List SignedFormula) (above : List Formula) (op : ℕ) (args : List Formula) (sign : List ℕ) (cases : List PlainCase) : Type 0 where
  pub unclosed : IsUnclosed logic.size branch
  pub part : Any (λ item. IsSubformula (Op op args) item.formula) goal
  pub once : Contains above (Op op args) → ⊥
  pub known : Contains rules (rule_of op sign cases)
  pub right : IsRightRule logic (of_operator (rule_of op sign cases))

-- A tableau on a branch is made in good order: it is closed as soon as some formula has every value there, by the first such formula, and each
-- split is in good order.
mutual
  pub data IsOrderly (logic : Logic) (rules : List OperatorRule) (goal : List SignedFormula) : List SignedFormula → List Formula → PlainTableau → Type 0 where
    orderly_end : (branch : List SignedFormula) (above : List Formula) (f : Formula) → IsFirstFull logic.size branch f → IsOrderly logic rules goal branch above (Closed f)
    orderly_split : (branch : List SignedFormula) (above : List Formula) (op : ℕ) (args : List Formula) (sign : List ℕ) (cases : List PlainCase) → IsOrderlySplit logic rules goal branch above op args sign cases → AreOrderly logic rules goal branch (Op op args ∷ above) cases
        → IsOrderly logic rules goal branch above (Split (record { formula = Op op args; sign = sign }) cases)

  pub data AreOrderly (logic : Logic) (rules : List OperatorRule) (goal : List SignedFormula) : List SignedFormula → List Formula → List PlainCase → Type 0 where
    orderly_none : (branch : List SignedFormula) (above : List Formula) → AreOrderly logic rules goal branch above []
    orderly_more : (branch : List SignedFormula) (above : List Formula) (case : PlainCase) (cases : List PlainCase) → IsOrderly logic rules goal (branch ++ case.added) above case.below → AreOrderly logic rules goal branch above cases → AreOrderly logic rules goal branch above (case ∷ cases)
