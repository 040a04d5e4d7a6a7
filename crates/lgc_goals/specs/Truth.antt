-- When a query is satisfied exactly where each of some sequents is true.
use Rattle.std.specs.Prelude.{◌≡◌, ◌<◌, ℕ, List, [], All}
use Rattle.std.specs.List.{list_all}
use Rattle.lgc_values.specs.Logic.{Logic}
use Rattle.lgc_syntax.specs.declared.formula.Formula.{Formula}
use Rattle.lgc_syntax.specs.Values.{value, IsValuation}
use Rattle.lgc_syntax.specs.Structures.{Structure, IsStructure, value_in}
use Rattle.lgc_sequents.specs.Signed.{SignedFormula}
use Rattle.lgc_sequents.specs.Sequents.{is_true_at}
use Rattle.lgc_meaning.specs.declared.query.Query.{Query}
use Rattle.lgc_meaning.specs.Queries.{formulas_of, satisfies}

-- where formulas have these values
abbrev pub AgreeAt : ℕ → Query → List (List SignedFormula) → (Formula → ℕ) → Type 0
AgreeAt n query sequents values = satisfies n values query ≡ list_all (is_true_at values) sequents

-- whatever values below n the formulas of the query have
abbrev pub Agree : ℕ → Query → List (List SignedFormula) → Type 0
Agree n query sequents = (values : Formula → ℕ) → All (λ f. values f < n) (formulas_of query) → AgreeAt n query sequents values

-- under every valuation
abbrev pub AgreeUnderValuations : Logic → Query → List (List SignedFormula) → Type 0
AgreeUnderValuations logic query sequents = (v : Formula → ℕ) → IsValuation logic v → AgreeAt logic.size query sequents (value logic v)

-- in every structure under every assignment s
abbrev pub AgreeInStructures : Logic → Query → List (List SignedFormula) → Type 0
AgreeInStructures logic query sequents = (M : Structure) (s : List ℕ → ℕ) → IsStructure logic M → AgreeAt logic.size query sequents (λ f. value_in logic M s f [])
