-- Dual tableaux, and when one is closed for a goal.
use Rattle.std.specs.Prelude.{◌≡◌, ◌≢◌, ◌<◌, ℕ, true, List, [], ◌∷◌, ◌++◌, length, map, All}
use Rattle.lgc_values.specs.Values.{has}
use Rattle.lgc_values.specs.Logic.{Logic, operator_at}
use Rattle.lgc_clauses.specs.Rules.{OperatorRule, of_operator, Fits}
use Rattle.lgc_clauses.specs.Exactness.{IsExact}
use Rattle.lgc_syntax.specs.declared.formula.Formula.{Formula, Op}
use Rattle.lgc_sequents.specs.Signed.{SignedFormula}
use Rattle.lgc_sequents.specs.Steps.{carries}
use Rattle.lgc_tableau.specs.declared.tableau.Case.{Case}
use Rattle.lgc_tableau.specs.declared.tableau.Tableau.{Tableau, Closed, Split}

-- a tableau of signed formulas, and a case of a split there
abbrev pub PlainTableau : Type 0
PlainTableau = Tableau SignedFormula

abbrev pub PlainCase : Type 0
PlainCase = Case SignedFormula

-- A branch is the list of its signed formulas: those of the goal, and behind them what the cases on the way down have added. A formula has
-- there the values of all its signs: those that the branch carries on it. Here it has every value below n.
abbrev pub CarriesAll : ℕ → List SignedFormula → Formula → Type 0
CarriesAll n branch f = (v : ℕ) → v < n → carries branch f v ≡ true

-- the sets of a case, one for each argument
abbrev pub sets_of : PlainCase → List (List ℕ)
sets_of case = map (λ item. item.sign) case.added

-- the rule of an operator at a sign that has the cases as its clauses
abbrev pub rule_of : ℕ → List ℕ → List PlainCase → OperatorRule
rule_of op sign cases = record { op = op; sign = sign; clauses = map sets_of cases }

-- The compound of an operator and arguments may be split on a branch into cases. The sign isn't empty, and has just the values that the
-- compound has on the branch. Each case has an item for each argument, in order. Read as clauses, the cases are those of an exact rule.
pub record IsSplit (logic : Logic) (branch : List SignedFormula) (op : ℕ) (args : List Formula) (sign : List ℕ) (cases : List PlainCase) : Type 0 where
  pub nonempty : sign ≢ []
  pub whole : (v : ℕ) → v < logic.size → has sign v ≡ carries branch (Op op args) v
  pub arity : length args ≡ (operator_at logic op).arity
  pub formulas : All (λ case. map (λ item. item.formula) case.added ≡ args) cases
  pub fits : Fits logic (of_operator (rule_of op sign cases))
  pub exact : IsExact logic (of_operator (rule_of op sign cases))

-- A tableau is closed on a branch where some formula has every value there, or where a formula is split and the tableau below each case is
-- closed on the branch with what the case adds. It is closed for a goal where it is on the branch of the goal's items.
mutual
  pub data IsClosed (logic : Logic) : List SignedFormula → PlainTableau → Type 0 where
    closed_by : (branch : List SignedFormula) (f : Formula) → CarriesAll logic.size branch f → IsClosed logic branch (Closed f)
    split_on : (branch : List SignedFormula) (op : ℕ) (args : List Formula) (sign : List ℕ) (cases : List PlainCase) → IsSplit logic branch op args sign cases → AreClosed logic branch cases → IsClosed logic branch (Split (record { formula = Op op args; sign = sign }) cases)

  pub data AreClosed (logic : Logic) : List SignedFormula → List PlainCase → Type 0 where
    none_left : (branch : List SignedFormula) → AreClosed logic branch []
    one_more : (branch : List SignedFormula) (case : PlainCase) (cases : List PlainCase) → IsClosed logic (branch ++ case.added) case.below → AreClosed logic branch cases → AreClosed logic branch (case ∷ cases)
