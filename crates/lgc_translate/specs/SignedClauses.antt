-- Clauses as lists of signed atoms: which ones a formula has at a sign by the rules of a book, of what form they are, and what they mean.
use Rattle.std.specs.Prelude.{◌≡◌, ◌≢◌, ℕ, false, List, [], ◌∷◌, map, All, AllPairs, if◌then◌else◌}
use Rattle.std.specs.List.{Contains, list_all}
use Rattle.lgc_values.specs.Values.{has}
use Rattle.lgc_values.specs.Logic.{Logic}
use Rattle.lgc_clauses.specs.Rules.{OperatorRule}
use Rattle.lgc_syntax.specs.declared.formula.Formula.{Formula}
use Rattle.lgc_syntax.specs.Values.{value, IsValuation}
use Rattle.lgc_sequents.specs.Signed.{SignedFormula}
use Rattle.lgc_sequents.specs.Sequents.{IsSign, has_all, is_included, is_true_at}
use Rattle.lgc_meaning.specs.Valuations.{atom_places, each_once}
use Rattle.lgc_clause_sets.specs.AtomClauses.{has_member}
use Rattle.lgc_clause_sets.specs.LeastClauses.{AreLeast}
use Rattle.lgc_translate.specs.Translation.{translated}

-- the atoms of a formula, each once, in the order of their first places
abbrev pub atoms_in : Formula → List Formula
atoms_in f = each_once (atom_places f)

-- the signed atoms of which a row speaks, in the order of the atoms
abbrev pub signed_atoms : List Formula → List (List ℕ) → List SignedFormula
signed_atoms [] sets = []
signed_atoms (atom ∷ atoms) [] = []
signed_atoms (atom ∷ atoms) (set ∷ sets) = if has_member set then record { formula = atom; sign = set } ∷ signed_atoms atoms sets else signed_atoms atoms sets

-- the clauses are the least ones to which the rules lead, each once, in some order
pub record AreLeastClauses (n : ℕ) (rules : List OperatorRule) (f : Formula) (sign : List ℕ) (clauses : List (List SignedFormula)) : Type 0 where
  pub rows : List (List (List ℕ))
  pub least : AreLeast n (translated n rules (atoms_in f) f sign) rows
  pub same : clauses ≡ map (signed_atoms (atoms_in f)) rows

-- a clause has atoms of the formula, none twice, with signs that have members and not all values
pub record IsClauseOver (n : ℕ) (f : Formula) (clause : List SignedFormula) : Type 0 where
  pub atoms : All (λ item. Contains (atoms_in f) item.formula) clause
  pub distinct : AllPairs (λ a b. a.formula ≢ b.formula) clause
  pub signs : All (λ item. IsSign n item.sign) clause
  pub open' : All (λ item. has_all n item.sign ≡ false) clause

-- neither clause subsumes the other: some item of each has a value that the other one's sign of the atom lacks
pub record AreApart (c d : List SignedFormula) : Type 0 where
  pub onward : is_included c d ≡ false
  pub back : is_included d c ≡ false

-- a clause set of a formula at a sign: under each valuation the formula's value lies in the sign exactly where every clause is true
abbrev pub IsClauseSet : Logic → Formula → List ℕ → List (List SignedFormula) → Type 0
IsClauseSet logic f sign clauses = (v : Formula → ℕ) → IsValuation logic v → list_all (is_true_at (value logic v)) clauses ≡ has sign (value logic v f)
