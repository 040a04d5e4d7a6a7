-- Atoms, and valuations as lists of entries.
use Rattle.std.specs.Prelude.{◌≡◌, ◌≢◌, ℕ, Bool, true, false, List, [], ◌∷◌, ◌++◌, All, AllPairs, if◌then◌else◌}
use Rattle.std.specs.List.{list_any, flat_map, fold}
use Rattle.lgc_syntax.specs.declared.formula.Formula.{Formula, Atom, fold-Formula}
use Rattle.lgc_syntax.specs.declared.formula.Formula.TheOpen.{Formula-F}
use Rattle.lgc_syntax.specs.declared.formula.Formula.TheOpen as formula
use Rattle.lgc_syntax.specs.Equality.{same_formula}

abbrev pub is_atom_layer : Formula-F Bool → Bool
is_atom_layer (formula.Atom p args) = true
is_atom_layer (formula.Op o args) = false
is_atom_layer (formula.Quant q body) = false

unfoldable pub is_atom : Formula → Bool
is_atom = fold-Formula Bool is_atom_layer

-- what is asked of a valuation, given by its entries: they are of atoms, and no atom stands twice
pub record IsEntries (entries : List (Formula × ℕ)) : Type 0 where
  pub atoms : All (λ entry. is_atom entry.0 ≡ true) entries
  pub distinct : AllPairs (λ a b. a.0 ≢ b.0) entries

-- the atoms of a formula at all their places, in order
abbrev pub atom_places_layer : Formula-F (List Formula) → List Formula
atom_places_layer (formula.Atom p args) = Atom p args ∷ []
atom_places_layer (formula.Op o args) = flat_map (λ atoms. atoms) args
atom_places_layer (formula.Quant q body) = body

unfoldable pub atom_places : Formula → List Formula
atom_places = fold-Formula (List Formula) atom_places_layer

-- a list of atoms with one more, where it isn't there yet
abbrev pub with_atom : List Formula → Formula → List Formula
with_atom atoms atom = if list_any (same_formula atom) atoms then atoms else atoms ++ atom ∷ []

-- the atoms that stand at the places in a list, each once, in the order of their first places
abbrev pub each_once : List Formula → List Formula
each_once places = fold with_atom [] places
