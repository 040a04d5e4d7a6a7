-- What is built for a goal: a tableau that is closed for it, or a valuation of its atoms under which it is false.
use Rattle.std.specs.Prelude.{◌≡◌, ◌↔◌, ℕ, true, List, [], map, Contains}
use Rattle.std.specs.List.{Any}
use Rattle.lgc_values.specs.Logic.{Logic}
use Rattle.lgc_clauses.specs.Rules.{OperatorRule}
use Rattle.lgc_syntax.specs.declared.formula.Formula.{Formula}
use Rattle.lgc_syntax.specs.Subformulas.{IsSubformula}
use Rattle.lgc_sequents.specs.Signed.{SignedFormula}
use Rattle.lgc_meaning.specs.Valuations.{is_atom, IsEntries}
use Rattle.lgc_sequents.specs.Everywhere.{IsTrueEverywhere, IsCounterexample}
use Rattle.lgc_tableau.specs.ClosedTableaux.{PlainTableau, IsClosed}
use Rattle.lgc_tableau.specs.OrderlyTableaux.{IsOrderly}
use Rattle.lgc_tableau_build.specs.declared.built.Built.{Built}
use Rattle.lgc_tableau_build.specs.declared.built.Built.TheVariants.{Closed, Unclosed}

-- A tableau is one for a goal: it is closed for it, and made in good order by some rules, with no formula split above the goal.
pub record IsTableauFor (logic : Logic) (rules : List OperatorRule) (goal : List SignedFormula) (t : PlainTableau) : Type 0 where
  pub closed : IsClosed logic goal t
  pub orderly : IsOrderly logic rules goal goal [] t

-- A valuation is one against a goal: the goal is false under it, and it lists the atoms of the goal's formulas, each once, and no other atom.
pub record IsValuationAgainst (logic : Logic) (goal : List SignedFormula) (entries : List (Formula × ℕ)) : Type 0 where
  pub counterexample : IsCounterexample logic goal entries
  pub once : IsEntries entries
  pub atoms : (f : Formula) → is_atom f ≡ true → Contains (map (λ entry. entry.0) entries) f ↔ Any (λ item. IsSubformula f item.formula) goal

-- What is built for a goal is right: a tableau, where the goal is true under every valuation, and else a valuation.
abbrev pub IsBuilt : {size : ℕ} → Logic → List OperatorRule → List SignedFormula → Built size → Type 0
IsBuilt logic rules goal (Closed t) = IsTableauFor logic rules goal t × IsTrueEverywhere logic goal
IsBuilt logic rules goal (Unclosed entries) = IsValuationAgainst logic goal entries
