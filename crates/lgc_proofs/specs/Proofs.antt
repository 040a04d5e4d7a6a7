-- Lines of which no two say the same.
use Rattle.std.specs.Prelude.{◌≡◌, ◌⊎◌, ◌+◌, ℕ, List, [], ◌∷◌, ◌++◌, length, map, AllPairs, IsPermutation}
use Rattle.std.specs.List.{range_with_len}
use Rattle.lgc_sequents.specs.Signed.{SignedFormula}
use Rattle.lgc_sequents.specs.Lines.{PlainLine, IsPosition, sequent_at}
use Rattle.lgc_sequents.specs.declared.line.Reason.{Reason}
use Rattle.lgc_proofs.specs.Alike.{AreAlike}

-- the numbers of lines are their positions, and no two lines are alike
pub record AreDistinct (lines : List PlainLine) : Type 0 where
  pub numbers : map (λ line. line.number) lines ≡ range_with_len 1 (length lines)
  pub differ : AllPairs (λ a b. AreAlike a.sequent b.sequent → ⊥) lines

-- the line at a position has these items in some order
pub record HasItems (lines : List PlainLine) (items : List SignedFormula) (position : ℕ) : Type 0 where
  pub stands : IsPosition lines position
  pub same : IsPermutation (sequent_at lines position) items

-- the lines are as they were, or there is one more, with this sequent and this reason
abbrev pub IsOneMore : List PlainLine → List PlainLine → List SignedFormula → Reason → Type 0
IsOneMore old new sequent reason = (new ≡ old) ⊎ (new ≡ old ++ record { number = length old + 1; sequent = sequent; reason = reason } ∷ [])

-- a line has the items of a sequent, and it was appended with this reason where there was none
pub record IsLineFor (old new : List PlainLine) (sequent : List SignedFormula) (reason : Reason) (position : ℕ) : Type 0 where
  pub line : HasItems new sequent position
  pub grown : IsOneMore old new sequent reason
