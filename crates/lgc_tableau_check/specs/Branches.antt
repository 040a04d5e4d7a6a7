-- Words of private calls: the items of a branch, and splits of signed formulas.
use Rattle.std.specs.Prelude.{◌≡◌, ◌≢◌, ◌<◌, ℕ, List, [], ◌++◌, length, map, All}
use Rattle.lgc_values.specs.Values.{has}
use Rattle.lgc_values.specs.Logic.{Logic, operator_at}
use Rattle.lgc_clauses.specs.Rules.{of_operator}
use Rattle.lgc_clauses.specs.Exactness.{IsExact}
use Rattle.lgc_syntax.specs.declared.formula.Formula.{Formula, Op}
use Rattle.lgc_sequents.specs.Signed.{SignedFormula}
use Rattle.lgc_sequents.specs.Steps.{carries}
use Rattle.lgc_tableau.specs.ClosedTableaux.{PlainCase, rule_of, IsSplit}
use Rattle.lgc_tableau_check.specs.declared.branch.Branch.{Branch, fold-Branch}
use Rattle.lgc_tableau_check.specs.declared.branch.Branch.TheOpen.{Branch-F}
use Rattle.lgc_tableau_check.specs.declared.branch.Branch.TheOpen as branch

abbrev pub items_layer : Branch-F SignedFormula (List SignedFormula) → List SignedFormula
items_layer (branch.Goal items) = items.now
items_layer (branch.Case above items) = above.now ++ items.now

-- the items of a branch: those of the goal, and behind them what the cases on the way down have added
unfoldable pub items_of : Branch SignedFormula → List SignedFormula
items_of = fold-Branch SignedFormula (List SignedFormula) items_layer

-- a signed formula has just the values on the branch that are in its sign, of which there is one
pub record HasSign (n : ℕ) (branch : List SignedFormula) (on : SignedFormula) : Type 0 where
  pub nonempty : on.sign ≢ []
  pub whole : (v : ℕ) → v < n → has on.sign v ≡ carries branch on.formula v

-- each case has an item for each of these arguments, in order
abbrev pub HaveArguments : List Formula → List PlainCase → Type 0
HaveArguments args cases = All (λ case. map (λ item. item.formula) case.added ≡ args) cases

-- the operator has so many arguments, and the cases are the clauses of an exact rule for it at this sign
pub record IsExactFor (logic : Logic) (op : ℕ) (args : List Formula) (sign : List ℕ) (cases : List PlainCase) : Type 0 where
  pub known : op < length logic.operators
  pub arity : length args ≡ (operator_at logic op).arity
  pub formulas : HaveArguments args cases
  pub exact : IsExact logic (of_operator (rule_of op sign cases))

-- a signed formula is a compound that may be split on a branch into cases
pub record IsSplitOf (logic : Logic) (branch : List SignedFormula) (on : SignedFormula) (cases : List PlainCase) : Type 0 where
  pub op : ℕ
  pub args : List Formula
  pub is : on.formula ≡ Op op args
  pub split : IsSplit logic branch op args on.sign cases
