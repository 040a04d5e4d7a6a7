-- What is known of the lemmas that a step cites.
use Rattle.std.specs.Prelude.{◌≡◌, ◌<◌, ℕ, List, All, slice_get, Some}
use Rattle.lgc_numbering.specs.declared.node.Node.{Node}
use Rattle.lgc_numbering.specs.declared.node.Node.TheVariants.{Compound}
use Rattle.lgc_packed.specs.Packed.{total, weight_of}
use Rattle.lgc_lemmas.specs.Plain.{PlainLemma}

-- each compound weighs more than its arguments together, as it has more operators than they have
abbrev pub FallsAtArguments : List Node → (ℕ → ℕ) → Type 0
FallsAtArguments nodes weight = (k op : ℕ) (arguments : List ℕ) → slice_get nodes k ≡ Some (Compound op arguments) → total weight arguments < weight k

-- what is true of a compound is true of its arguments, as to be a part of a formula is
abbrev pub IsClosedUnderArguments : List Node → (ℕ → Type 0) → Type 0
IsClosedUnderArguments nodes P = (k op : ℕ) (arguments : List ℕ) → slice_get nodes k ≡ Some (Compound op arguments) → P k → All P arguments

-- the lemma at a place weighs less than a sequent
pub record IsLighter (weight : ℕ → ℕ) (lemmas : List PlainLemma) (sequent : List (ℕ × List ℕ)) (place : ℕ) : Type 0 where
  pub lemma : PlainLemma
  pub is : slice_get lemmas place ≡ Some lemma
  pub lighter : weight_of weight lemma.sequent < weight_of weight sequent

-- this is true of the formulas of the lemma at a place
pub record HasFormulasIn (P : ℕ → Type 0) (lemmas : List PlainLemma) (place : ℕ) : Type 0 where
  pub lemma : PlainLemma
  pub is : slice_get lemmas place ≡ Some lemma
  pub formulas : All (λ pair. P pair.0) lemma.sequent
