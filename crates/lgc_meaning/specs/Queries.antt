-- Queries: their formulas, when they are of a logic, and when they are satisfied.
use Rattle.std.specs.Prelude.{◌≡◌, ℕ, ◌<◌, ◌^◌, ◌==◌, ◌||◌, not, Bool, false, List, [], ◌∷◌, ◌++◌, All}
use Rattle.std.specs.List.{list_any, flat_map}
use Rattle.lgc_values.specs.Values.{has, members_of}
use Rattle.lgc_values.specs.Logic.{Logic}
use Rattle.lgc_syntax.specs.declared.formula.Formula.{Formula}
use Rattle.lgc_syntax.specs.Fits.{Fits}
use Rattle.lgc_syntax.specs.Sizes.{has_quantifier}
use Rattle.lgc_meaning.specs.declared.query.Pair.{Pair}
use Rattle.lgc_meaning.specs.declared.query.Query.{Query}
use Rattle.lgc_meaning.specs.declared.query.Query.TheVariants.{Mixed, Equation, Quasi}

-- the sides of an equation
abbrev pub sides : Pair → List Formula
sides pair = pair.left ∷ pair.right ∷ []

-- the formulas of a query, in the order in which they are written
abbrev pub formulas_of : Query → List Formula
formulas_of (Mixed given wanted premises conclusions) = premises ++ conclusions
formulas_of (Equation pair) = sides pair
formulas_of (Quasi premises conclusion) = flat_map sides premises ++ sides conclusion

-- ---- queries of a logic

-- the sets of a mixed entailment have values below n
abbrev pub HasSetsBelow : ℕ → Query → Type 0
HasSetsBelow n (Mixed given wanted premises conclusions) = (given < 2 ^ n) × (wanted < 2 ^ n)
HasSetsBelow n (Equation pair) = Unit {0}
HasSetsBelow n (Quasi premises conclusion) = Unit {0}

-- the query is one for this logic
pub record FitsQuery (logic : Logic) (query : Query) : Type 0 where
  pub formulas : All (Fits logic) (formulas_of query)
  pub sets : HasSetsBelow logic.size query

-- it has no quantifier
abbrev pub IsPropositional : Query → Type 0
IsPropositional query = All (λ f. has_quantifier f ≡ false) (formulas_of query)

-- ---- satisfaction

-- whether the sides of an equation have the same value
abbrev pub holds_at : (Formula → ℕ) → Pair → Bool
holds_at value pair = value pair.left == value pair.right

-- Whether a query is satisfied where formulas have these values, which are below n: under a valuation, or in a structure under an
-- assignment.
abbrev pub satisfies : ℕ → (Formula → ℕ) → Query → Bool
satisfies n value (Mixed given wanted premises conclusions) = list_any (λ f. not (has (members_of n given) (value f))) premises || list_any (λ f. has (members_of n wanted) (value f)) conclusions
satisfies n value (Equation pair) = holds_at value pair
satisfies n value (Quasi premises conclusion) = list_any (λ pair. not (holds_at value pair)) premises || holds_at value conclusion
