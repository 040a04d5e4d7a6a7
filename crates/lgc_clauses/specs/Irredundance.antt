-- Rules with a part taken away, and when a rule is irredundant.
use Rattle.std.specs.Prelude.{◌≡◌, ℕ, zero, suc, ◌+◌, ◌-◌, ◌%◌, ◌^◌, ◌<◌, ◌≤◌, ◌==◌, true, not, List, [], length, All, filter, slice_set, slice_index_or}
use Rattle.std.specs.List.{remove}
use Rattle.lgc_values.specs.Values.{has}
use Rattle.lgc_values.specs.Logic.{Logic}
use Rattle.lgc_clauses.specs.Rules.{Head, operator, quantifier, PlainRule}
use Rattle.lgc_clauses.specs.Exactness.{IsExact}
use Rattle.lgc_clauses.specs.declared.irredundance.Part.{Part}
use Rattle.lgc_clauses.specs.declared.irredundance.Part.TheVariants as part
use Rattle.lgc_clauses.specs.declared.irredundance.Droppable.{Droppable}
use Rattle.lgc_clauses.specs.declared.irredundance.Droppable.TheVariants.{Clause, Value}

abbrev pub set_at : List (List ℕ) → ℕ → List ℕ
set_at sets j = slice_index_or sets j []

abbrev pub clause_at : List (List (List ℕ)) → ℕ → List (List ℕ)
clause_at clauses i = slice_index_or clauses i []

-- the sets of a clause without value v of set j
abbrev pub sets_without : List (List ℕ) → ℕ → ℕ → List (List ℕ)
sets_without sets j v = slice_set sets j (filter (λ w. not (w == v)) (set_at sets j))

-- clauses without value v of set j of clause i
abbrev pub clauses_without : List (List (List ℕ)) → ℕ → ℕ → ℕ → List (List (List ℕ))
clauses_without clauses i j v = slice_set clauses i (sets_without (clause_at clauses i) j v)

-- the rule with other clauses
abbrev pub with_clauses : PlainRule → List (List (List ℕ)) → PlainRule
with_clauses rule clauses = record rule { clauses = clauses }

-- clause i, counted from 0, can be taken away with the rest exact
pub record IsRedundantClause (logic : Logic) (rule : PlainRule) (i : ℕ) : Type 0 where
  pub clause : i < length rule.clauses
  pub exact : IsExact logic (with_clauses rule (remove rule.clauses i))

-- value v of set j of clause i, both counted from 0, can be taken away with the rest exact
pub record IsRedundantValue (logic : Logic) (rule : PlainRule) (i j v : ℕ) : Type 0 where
  pub clause : i < length rule.clauses
  pub part : j < length (clause_at rule.clauses i)
  pub value : has (set_at (clause_at rule.clauses i) j) v ≡ true
  pub exact : IsExact logic (with_clauses rule (clauses_without rule.clauses i j v))

-- no number has a property
abbrev pub Never : (ℕ → Type 0) → Type 0
Never Holds = (i : ℕ) → Holds i → ⊥

-- i is the least number with a property
pub record IsFirst (Holds : ℕ → Type 0) (i : ℕ) : Type 0 where
  pub holds : Holds i
  pub before : (k : ℕ) → k < i → Holds k → ⊥

-- the rule isn't exact without any one of its clauses, nor without any one value of any one set
pub record IsIrredundant (logic : Logic) (rule : PlainRule) : Type 0 where
  pub clauses : Never (IsRedundantClause logic rule)
  pub values : (i j : ℕ) → Never (IsRedundantValue logic rule i j)

-- Whether set k of a clause is asked before set j. The sets of an operator's clause are asked in order. Of a quantifier's clause,
-- in which the `some` set stands first, the `all` sets are asked in order, and then the `some` set.
abbrev pub ComesBefore : Head → ℕ → ℕ → Type 0
ComesBefore (operator op) k j = k < j
ComesBefore (quantifier q) k zero = 1 ≤ k
ComesBefore (quantifier q) k (suc j) = (1 ≤ k) × (k ≤ j)

-- the set that is asked at a place, where the clause has `count` sets
abbrev pub set_asked : Head → ℕ → ℕ → ℕ
set_asked (operator op) count place = place
set_asked (quantifier q) count place = (place + 1) % count

-- the first value of clause i that can be taken away: by set, then by value
pub record IsFirstOfClause (logic : Logic) (rule : PlainRule) (i j v : ℕ) : Type 0 where
  pub value : IsFirst (IsRedundantValue logic rule i j) v
  pub before : (k : ℕ) → ComesBefore rule.head k j → Never (IsRedundantValue logic rule i k)

-- the first value that can be taken away: by clause, then by set, then by value
pub record IsFirstValue (logic : Logic) (rule : PlainRule) (i j v : ℕ) : Type 0 where
  pub value : IsFirstOfClause logic rule i j v
  pub before : (h k : ℕ) → h < i → Never (IsRedundantValue logic rule h k)

-- what set j of a clause is, counted from 1: an argument's set, an `all` set, or the `some` set, which stands first
abbrev pub part_of : Head → ℕ → Part
part_of (operator op) j = part.Argument (j + 1)
part_of (quantifier q) zero = part.Some
part_of (quantifier q) (suc j) = part.All (suc j)

-- the first clause that can be taken away, or the first value where no clause can be
abbrev pub IsFirstDroppable : Logic → PlainRule → Droppable → Type 0
IsFirstDroppable logic rule (Clause i) = (1 ≤ i) × IsFirst (IsRedundantClause logic rule) (i - 1)
IsFirstDroppable logic rule (Value i part v) = Never (IsRedundantClause logic rule) × (1 ≤ i) × (j : ℕ) × (part ≡ part_of rule.head j) × IsFirstValue logic rule (i - 1) j v

-- the number of set j of a clause: of an argument's set or an `all` set, counted from 1; the `some` set, which stands first, has none
abbrev pub set_number : Head → ℕ → ℕ
set_number (operator op) j = j + 1
set_number (quantifier q) j = j

-- the clauses, and the sets of each, have numbers of 32 bits
pub record IsNumbered (rule : PlainRule) : Type 0 where
  pub clauses : length rule.clauses < 2 ^ 32
  pub sets : All (λ sets. set_number rule.head (length sets - 1) < 2 ^ 32) rule.clauses
