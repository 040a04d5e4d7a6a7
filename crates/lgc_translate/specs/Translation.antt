-- The clauses to which rules lead from a formula at a sign: the formula takes a value in the sign exactly where all of them are true.
--
-- Clauses are rows of sets over a list of atoms, the formula's. Rules are those of a book, and an operator's rule at a sign is the first one
-- with this operator and this sign.
use Rattle.std.specs.Prelude.{ℕ, ◌&&◌, ◌==◌, Bool, List, [], ◌∷◌, map, bytes_eq, if◌then◌else◌}
use Rattle.std.specs.List.{flat_map}
use Rattle.lgc_values.specs.Values.{has, values_where}
use Rattle.lgc_clauses.specs.Rules.{OperatorRule}
use Rattle.lgc_syntax.specs.declared.formula.Formula.{Formula, Atom, fold-Formula}
use Rattle.lgc_syntax.specs.declared.formula.Formula.TheOpen.{Formula-F}
use Rattle.lgc_syntax.specs.declared.formula.Formula.TheOpen as formula
use Rattle.lgc_syntax.specs.Equality.{same_formula}
use Rattle.lgc_sequents.specs.Sequents.{has_all}
use Rattle.lgc_clause_sets.specs.AtomClauses.{has_member, products}

-- the clause that speaks of no atom, which is never true
abbrev pub no_items : List Formula → List (List ℕ)
no_items atoms = map (λ _. []) atoms

-- the clause that an atom takes a value in the sign
abbrev pub one_item : ℕ → List Formula → Formula → List ℕ → List (List ℕ)
one_item n atoms atom sign = map (λ a. values_where n (λ v. same_formula a atom && has sign v)) atoms

-- whether this is a rule for an operator at a sign
abbrev pub is_for : ℕ → List ℕ → OperatorRule → Bool
is_for op sign rule = (rule.op == op) && bytes_eq rule.sign sign

-- the clauses of the rule for an operator at a sign, and none where it isn't there
abbrev pub rule_clauses : List OperatorRule → ℕ → List ℕ → List (List (List ℕ))
rule_clauses [] op sign = []
rule_clauses (rule ∷ rules) op sign = if is_for op sign rule then rule.clauses else rule_clauses rules op sign

-- for one clause of a rule: a clause of each argument at its set, joined, in every choice
abbrev pub choices : ℕ → List Formula → List (List ℕ) → List (List ℕ → List (List (List ℕ))) → List (List (List ℕ))
choices n atoms [] arguments = no_items atoms ∷ []
choices n atoms (set ∷ sets) [] = no_items atoms ∷ []
choices n atoms (set ∷ sets) (argument ∷ arguments) = products n (argument set) (choices n atoms sets arguments)

-- at the sign of all values no clause is wanted, and at that of none the clause that is never true; else these clauses
abbrev pub at_sign : ℕ → List Formula → List ℕ → List (List (List ℕ)) → List (List (List ℕ))
at_sign n atoms sign clauses = if has_all n sign then [] else (if has_member sign then clauses else no_items atoms ∷ [])

-- An atom is one clause at other signs. A compound has for each clause of the rule of its operator all choices of clauses of its arguments. A
-- quantified formula has no clauses.
abbrev pub translated_layer : ℕ → List OperatorRule → List Formula → Formula-F (List ℕ → List (List (List ℕ))) → List ℕ → List (List (List ℕ))
translated_layer n rules atoms (formula.Atom p args) sign = at_sign n atoms sign (one_item n atoms (Atom p args) sign ∷ [])
translated_layer n rules atoms (formula.Op op arguments) sign = at_sign n atoms sign (flat_map (λ sets. choices n atoms sets arguments) (rule_clauses rules op sign))
translated_layer n rules atoms (formula.Quant q body) sign = at_sign n atoms sign []

unfoldable pub translated : ℕ → List OperatorRule → List Formula → Formula → List ℕ → List (List (List ℕ))
translated n rules atoms = fold-Formula (List ℕ → List (List (List ℕ))) (translated_layer n rules atoms)
