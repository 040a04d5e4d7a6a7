-- Clauses and rules of operators and of quantifiers: where they are true, when a rule fits, and the order of clauses.
use Rattle.std.specs.Prelude.{◌≡◌, ◌≢◌, ℕ, ◌-◌, ◌^◌, ◌<◌, ◌==◌, ◌||◌, Bool, true, false, List, [], ◌∷◌, length, drop, All, AllPairs, map, nat_lt, if◌then◌else◌}
use Rattle.std.specs.List.{list_all, list_any}
use Rattle.lgc_values.specs.Values.{has, mask_of, set_of_row}
use Rattle.lgc_values.specs.Logic.{Logic, operator_at, arguments_at, row_count, value_at, value_over}

-- ---- clauses of operators

-- whether some argument lies in the set at its place
abbrev pub some_in : List (List ℕ) → List ℕ → Bool
some_in [] arguments = false
some_in sets [] = false
some_in (set ∷ sets) (argument ∷ arguments) = has set argument || some_in sets arguments

-- whether a clause, given by its sets, is true at a row, given by its index
abbrev pub clause_holds : ℕ → List (List ℕ) → ℕ → Bool
clause_holds size sets row = some_in sets (arguments_at size (length sets) row)

-- ---- clauses of quantifiers

-- Whether a clause, given by its `some` set and then its `all` sets, is true at a nonempty set of values: some value lies in
-- the `some` set, or all of them in one of the `all` sets.
abbrev pub holds_over : List (List ℕ) → List ℕ → Bool
holds_over [] values = false
holds_over (some ∷ all) values = list_any (has some) values || list_any (λ set. list_all (has set) values) all

-- ---- rules

-- what a rule introduces: an operator, or a quantifier, by its number from 0
pub data Head : Type 0 where
  operator : ℕ → Head
  quantifier : ℕ → Head

-- a rule at a sign, with each clause as the list of its sets
pub record PlainRule : Type 0 where
  pub head : Head
  pub sign : List ℕ
  pub clauses : List (List (List ℕ))

-- a rule for an operator
pub record OperatorRule : Type 0 where
  pub op : ℕ
  pub sign : List ℕ
  pub clauses : List (List (List ℕ))

-- a rule for a quantifier
pub record QuantifierRule : Type 0 where
  pub quant : ℕ
  pub sign : List ℕ
  pub clauses : List (List (List ℕ))

abbrev pub of_operator : OperatorRule → PlainRule
of_operator rule = record { head = operator rule.op; sign = rule.sign; clauses = rule.clauses }

abbrev pub of_quantifier : QuantifierRule → PlainRule
of_quantifier rule = record { head = quantifier rule.quant; sign = rule.sign; clauses = rule.clauses }

-- how many rows the table has
abbrev pub rows_of : Logic → Head → ℕ
rows_of logic (operator op) = row_count logic op
rows_of logic (quantifier q) = 2 ^ logic.size - 1

-- the value at a row
abbrev pub value_in : Logic → Head → ℕ → ℕ
value_in logic (operator op) row = value_at logic op row
value_in logic (quantifier q) row = value_over logic q (set_of_row logic.size row)

-- whether a clause is true at a row
abbrev pub is_true_at : Logic → Head → List (List ℕ) → ℕ → Bool
is_true_at logic (operator op) sets row = clause_holds logic.size sets row
is_true_at logic (quantifier q) sets row = holds_over sets (set_of_row logic.size row)

-- whether every clause is true at a row
abbrev pub all_true_at : Logic → Head → List (List (List ℕ)) → ℕ → Bool
all_true_at logic head clauses row = list_all (λ sets. is_true_at logic head sets row) clauses

-- ---- rules that fit

-- the operator or quantifier exists
abbrev pub IsHead : Logic → Head → Type 0
IsHead logic (operator op) = op < length logic.operators
IsHead logic (quantifier q) = q < length logic.quantifiers

-- A clause of an operator has a set for each argument. A clause of a quantifier has a `some` set, and its `all` sets have members.
abbrev pub IsClauseOf : Logic → Head → List (List ℕ) → Type 0
IsClauseOf logic (operator op) sets = length sets ≡ (operator_at logic op).arity
IsClauseOf logic (quantifier q) sets = (0 < length sets) × All (λ set. set ≢ []) (drop 1 sets)

-- the rule is one for this logic
pub record Fits (logic : Logic) (rule : PlainRule) : Type 0 where
  pub known : IsHead logic rule.head
  pub formed : All (IsClauseOf logic rule.head) rule.clauses

-- ---- the order of clauses

-- whether a list of numbers comes before another in the order of dictionaries
abbrev pub is_before : List ℕ → List ℕ → Bool
is_before xs [] = false
is_before [] (y ∷ ys) = true
is_before (x ∷ xs) (y ∷ ys) = if x == y then is_before xs ys else nat_lt x y

-- the clauses rise by the lists of their masks
abbrev pub IsRising : List (List (List ℕ)) → Type 0
IsRising clauses = AllPairs (λ a b. is_before (map mask_of a) (map mask_of b) ≡ true) clauses

-- the masks of the `all` sets of a quantifier's clause rise
abbrev pub HasRisingSets : Head → List (List ℕ) → Type 0
HasRisingSets (operator op) sets = Unit {0}
HasRisingSets (quantifier q) sets = AllPairs (λ a b. mask_of a < mask_of b) (drop 1 sets)
