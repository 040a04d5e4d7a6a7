-- Words of private calls: rules that aren't there yet, and clauses before it is said that they are the least.
use Rattle.std.specs.Prelude.{◌≡◌, ◌≢◌, ◌<◌, ℕ, true, false, List, [], length, map}
use Rattle.std.specs.List.{list_all}
use Rattle.lgc_values.specs.Logic.{Logic}
use Rattle.lgc_clauses.specs.Rules.{OperatorRule}
use Rattle.lgc_syntax.specs.declared.formula.Formula.{Formula}
use Rattle.lgc_syntax.specs.Fits.{fits_within}
use Rattle.lgc_sequents.specs.Signed.{SignedFormula}
use Rattle.lgc_clause_sets.specs.Reductions.{IsReduction}
use Rattle.lgc_translate.specs.Translation.{translated}
use Rattle.lgc_translate.specs.Covering.{has_rule}
use Rattle.lgc_translate.specs.SignedClauses.{atoms_in, signed_atoms}

-- formulas ask for a rule that isn't there: its sign has members, and its operator is one of each logic that the formulas fit
pub record IsMissing (rules : List OperatorRule) (fs : List Formula) (op : ℕ) (sign : List ℕ) : Type 0 where
  pub absent : has_rule rules op sign ≡ false
  pub nonempty : sign ≢ []
  pub known : (logic : Logic) → list_all (λ f. fits_within logic f 0) fs ≡ true → op < length logic.operators

-- the clauses are a reduction of those to which the rules lead
pub record AreReduced (n : ℕ) (rules : List OperatorRule) (f : Formula) (sign : List ℕ) (clauses : List (List SignedFormula)) : Type 0 where
  pub rows : List (List (List ℕ))
  pub reduced : IsReduction n (translated n rules (atoms_in f) f sign) rows
  pub same : clauses ≡ map (signed_atoms (atoms_in f)) rows
