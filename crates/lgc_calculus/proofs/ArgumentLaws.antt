-- An exact rule of an operator is exact at arguments.
use Rattle.std.proofs.Common.{◌≡◌, ℕ, ◌^◌, ◌<◌, ◌&&◌, List, [], ◌∷◌, length, refl, ap, sym, subst, ◌∙◌}
use Rattle.std.specs.List.{AllByRecursion, list_all}
use Rattle.std.proofs.lemmas.List.Elements.{recursion_from_All}
use Rattle.lgc_values.specs.Values.{IsSize}
use Rattle.lgc_values.specs.Logic.{Logic, operator_at, row_count, arguments_at}
use Rattle.lgc_clauses.specs.Rules.{some_in, clause_holds, OperatorRule, of_operator, Fits}
use Rattle.lgc_clauses.specs.Exactness.{IsExact}
use Rattle.lgc_syntax.specs.Values.{row_index}
use Rattle.lgc_syntax.proofs.IndexLaws.{arguments_at-row_index, row_index-below}
use Rattle.lgc_calculus.specs.Arguments.{IsExactAtArguments}

-- clauses at a row, and at its arguments
clauses_at : (n k row : ℕ) (arguments : List ℕ) → arguments_at n k row ≡ arguments → (clauses : List (List (List ℕ))) → AllByRecursion (λ sets. length sets ≡ k) clauses
    → list_all (λ sets. clause_holds n sets row) clauses ≡ list_all (λ sets. some_in sets arguments) clauses
clauses_at n k row arguments at [] formed = refl
clauses_at n k row arguments at (sets ∷ clauses) formed =
    let here : clause_holds n sets row ≡ some_in sets arguments = ap (λ (j : ℕ). some_in sets (arguments_at n j row)) formed.0 ∙ ap (some_in sets) at in
    ap (λ b. b && list_all (λ s. clause_holds n s row) clauses) here ∙ ap (λ b. some_in sets arguments && b) (clauses_at n k row arguments at clauses formed.1)

pub exact_at_arguments : (logic : Logic) (rule : OperatorRule) → IsSize logic.size → Fits logic (of_operator rule) → IsExact logic (of_operator rule) → IsExactAtArguments logic rule
exact_at_arguments logic rule size fits exact arguments count below =
    let n : ℕ = logic.size in
    let row : ℕ = row_index n arguments in
    let values : AllByRecursion (λ v. v < n) arguments = recursion_from_All (λ v. v < n) arguments below in
    let within : row < row_count logic rule.op = subst (λ (k : ℕ). row < n ^ k) count (row_index-below n arguments size.low values) in
    let at : arguments_at n (operator_at logic rule.op).arity row ≡ arguments = ap (λ (k : ℕ). arguments_at n k row) (sym count) ∙ arguments_at-row_index n arguments values in
    sym (exact row within)
    ∙ clauses_at n (operator_at logic rule.op).arity row arguments at rule.clauses (recursion_from_All (λ sets. length sets ≡ (operator_at logic rule.op).arity) rule.clauses fits.formed)
