-- Words of private calls: the keys by which lines are found.
use Rattle.std.specs.Prelude.{◌≡◌, ℕ, List, [], ◌∷◌}
use Rattle.std.specs.List.{flat_map, AllZip}
use Rattle.lgc_values.specs.Values.{mask_of}
use Rattle.lgc_syntax.specs.declared.formula.Formula.{Formula}
use Rattle.lgc_sequents.specs.Lines.{PlainLine}
use Rattle.lgc_packed.specs.Packed.{IsPacked}
use Rattle.lgc_packed.specs.Packing.{IsPackOf}
use Rattle.lgc_proofs.specs.Proofs.{AreDistinct}

-- the key of a pair: the number of the formula, and the mask of its sign
abbrev pub key_of_pair : ℕ × List ℕ → List ℕ
key_of_pair pair = pair.0 ∷ mask_of pair.1 ∷ []

-- the key of a sequent over numbers
abbrev pub key_of : List (ℕ × List ℕ) → List ℕ
key_of pairs = flat_map key_of_pair pairs

-- a line has this key, where its formulas have these numbers
pub record HasKey (n : ℕ) (formulas : List Formula) (line : PlainLine) (key : List ℕ) : Type 0 where
  pub pairs : List (ℕ × List ℕ)
  pub packed : IsPacked n pairs
  pub is : IsPackOf formulas line.sequent pairs
  pub coded : key ≡ key_of pairs

-- what is kept of lines: the lines, which are distinct, and their keys
pub record AreKept (n : ℕ) (formulas : List Formula) (lines : List PlainLine) (keys : List (List ℕ)) : Type 0 where
  pub keyed : AllZip (HasKey n formulas) lines keys
  pub distinct : AreDistinct lines
