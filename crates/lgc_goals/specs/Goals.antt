-- The goals of a query: sequents that are all true exactly where the query is satisfied.
use Rattle.std.specs.Prelude.{ℕ, ◌+◌, ◌^◌, not, List, [], ◌∷◌, ◌++◌, length, map, slice_index}
use Rattle.std.specs.List.{fold, flat_map, zip, range_with_len}
use Rattle.lgc_values.specs.Values.{values_where, has, members_of}
use Rattle.lgc_values.specs.Logic.{arguments_at}
use Rattle.lgc_syntax.specs.declared.formula.Formula.{Formula}
use Rattle.lgc_sequents.specs.Signed.{SignedFormula}
use Rattle.lgc_sequents.specs.Sequents.{added}
use Rattle.lgc_meaning.specs.declared.query.Pair.{Pair}
use Rattle.lgc_meaning.specs.declared.query.Query.{Query}
use Rattle.lgc_meaning.specs.declared.query.Query.TheVariants.{Mixed, Equation, Quasi}
use Rattle.lgc_meaning.specs.Queries.{sides}

-- How many goals a query has in a logic of n truth values: a mixed entailment one, and a quasi-equation one for each way to choose a value
-- for each of its equations. An equation is a quasi-equation without premises.
abbrev pub goal_count : ℕ → Query → ℕ
goal_count n (Mixed given wanted premises conclusions) = 1
goal_count n (Equation pair) = n
goal_count n (Quasi premises conclusion) = n ^ (length premises + 1)

-- ---- sequents of signed formulas

-- the values below n that aren't in a set
abbrev pub complement : ℕ → List ℕ → List ℕ
complement n set = values_where n (λ v. not (has set v))

-- formulas with one sign
abbrev pub each_signed : List ℕ → List Formula → List SignedFormula
each_signed sign formulas = map (λ f. record { formula = f; sign = sign }) formulas

-- a sequent with a signed formula added
abbrev pub with_signed : ℕ → List SignedFormula → SignedFormula → List SignedFormula
with_signed n sequent item = added n sequent item.formula item.sign

-- the sequent of signed formulas, added in their order
abbrev pub sequent_of : ℕ → List SignedFormula → List SignedFormula
sequent_of n items = fold (with_signed n) [] items

-- ---- goals

-- the goal of a mixed entailment: a premise takes a value that isn't in `given`, or a conclusion one in `wanted`
abbrev pub mixed_goal : ℕ → List ℕ → List ℕ → List Formula → List Formula → List SignedFormula
mixed_goal n given wanted premises conclusions = sequent_of n (each_signed (complement n given) premises ++ each_signed wanted conclusions)

-- a side of a premise takes another value than v
abbrev pub premise_items : ℕ → (Pair × ℕ) → List SignedFormula
premise_items n (pair, v) = each_signed (complement n (v ∷ [])) (sides pair)

-- the left side of the conclusion takes another value than w, or the right side takes w
abbrev pub conclusion_items : ℕ → Pair → ℕ → List SignedFormula
conclusion_items n pair w = record { formula = pair.left; sign = complement n (w ∷ []) } ∷ record { formula = pair.right; sign = w ∷ [] } ∷ []

-- the goal of a quasi-equation at a tuple of values, one for each premise and the last for the conclusion
abbrev pub quasi_goal : ℕ → List Pair → Pair → List ℕ → List SignedFormula
quasi_goal n premises conclusion tuple = sequent_of n (flat_map (premise_items n) (zip premises tuple) ++ conclusion_items n conclusion (slice_index tuple (length premises)))

-- a goal for each tuple, in rising order: the first value is the most significant
abbrev pub quasi_goals : ℕ → List Pair → Pair → List (List SignedFormula)
quasi_goals n premises conclusion =
    map (λ i. quasi_goal n premises conclusion (arguments_at n (length premises + 1) i)) (range_with_len 0 (n ^ (length premises + 1)))

-- the goals of a query
abbrev pub goals_of : ℕ → Query → List (List SignedFormula)
goals_of n (Mixed given wanted premises conclusions) = mixed_goal n (members_of n given) (members_of n wanted) premises conclusions ∷ []
goals_of n (Equation pair) = quasi_goals n [] pair
goals_of n (Quasi premises conclusion) = quasi_goals n premises conclusion
