-- When a book has each rule that the clauses of a formula at a sign ask for.
use Rattle.std.specs.Prelude.{ℕ, ◌&&◌, ◌||◌, not, Bool, true, List, [], ◌∷◌}
use Rattle.std.specs.List.{list_all, list_any}
use Rattle.lgc_clauses.specs.Rules.{OperatorRule}
use Rattle.lgc_syntax.specs.declared.formula.Formula.{Formula, fold-Formula}
use Rattle.lgc_syntax.specs.declared.formula.Formula.TheOpen.{Formula-F}
use Rattle.lgc_syntax.specs.declared.formula.Formula.TheOpen as formula
use Rattle.lgc_sequents.specs.Sequents.{has_all}
use Rattle.lgc_clause_sets.specs.AtomClauses.{has_member}
use Rattle.lgc_translate.specs.Translation.{is_for, rule_clauses}

-- whether a rule for an operator at a sign is there
abbrev pub has_rule : List OperatorRule → ℕ → List ℕ → Bool
has_rule rules op sign = list_any (is_for op sign) rules

-- whether each argument is covered at its set
abbrev pub all_covered : List (List ℕ) → List (List ℕ → Bool) → Bool
all_covered [] arguments = true
all_covered (set ∷ sets) [] = true
all_covered (set ∷ sets) (argument ∷ arguments) = argument set && all_covered sets arguments

-- No rule is asked for at the sign of all values and at that of none, nor for an atom. For a compound that of its operator is, and those for
-- its arguments at the sets of the rule's clauses.
abbrev pub covers_layer : ℕ → List OperatorRule → Formula-F (List ℕ → Bool) → List ℕ → Bool
covers_layer n rules (formula.Atom p args) sign = true
covers_layer n rules (formula.Op op arguments) sign = (has_all n sign || not (has_member sign)) || (has_rule rules op sign && list_all (λ sets. all_covered sets arguments) (rule_clauses rules op sign))
covers_layer n rules (formula.Quant q body) sign = true

-- whether the rules cover a formula at a sign
unfoldable pub covers : ℕ → List OperatorRule → Formula → List ℕ → Bool
covers n rules = fold-Formula (List ℕ → Bool) (covers_layer n rules)
