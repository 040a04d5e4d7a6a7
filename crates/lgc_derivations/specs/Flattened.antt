-- The lines of a derivation.
use Rattle.std.specs.Prelude.{◌≡◌, ◌+◌, ℕ, List, [], ◌++◌, map, length}
use Rattle.std.specs.List.{AllZip, range_with_len}
use Rattle.lgc_clauses.specs.Rules.{PlainRule}
use Rattle.lgc_sequents.specs.Lines.{PlainLine, IsPosition, sequent_at}
use Rattle.lgc_sequents.specs.Steps.{AreSteps}
use Rattle.lgc_sequents.specs.declared.line.Cited.{Cited}
use Rattle.lgc_derivations.specs.Derivations.{Tree, conclusion_of, IsRight, AreRight}

-- Lines were appended whose numbers are positions. They are steps by rules for which a derivation is right.
pub record IsAppended (n : ℕ) (Right : List PlainRule → Type 0) (old new : List PlainLine) : Type 0 where
  pub more : List PlainLine
  pub is : new ≡ old ++ more
  pub numbers : map (λ line. line.number) more ≡ range_with_len (length old + 1) (length more)
  pub steps : (rules : List PlainRule) → Right rules → AreSteps n rules old more

-- the line at a position has a derivation's conclusion
pub record Concludes (lines : List PlainLine) (d : Tree) (position : ℕ) : Type 0 where
  pub stands : IsPosition lines position
  pub sequent : sequent_at lines position ≡ conclusion_of d

-- the lines of a derivation were appended, and the last has its conclusion
pub record IsFlattened (n : ℕ) (d : Tree) (old new : List PlainLine) (position : ℕ) : Type 0 where
  pub appended : IsAppended n (λ rules. IsRight n rules d) old new
  pub concludes : Concludes new d position
  pub last : position ≡ length new

-- those of several derivations were, and lines with their conclusions are cited without terms
pub record AreFlattened (n : ℕ) (ds : List Tree) (old new : List PlainLine) (cited : List Cited) : Type 0 where
  pub appended : IsAppended n (λ rules. AreRight n rules ds) old new
  pub concludes : AllZip (λ d c. Concludes new d c.line × (c.terms ≡ [])) ds cited
