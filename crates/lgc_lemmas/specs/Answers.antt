-- What answers a goal: a lemma that it includes, or values under which it is false.
use Rattle.std.specs.Prelude.{◌≡◌, ℕ, false, List, slice_get, slice_index, Some}
use Rattle.lgc_values.specs.Logic.{Logic}
use Rattle.lgc_numbering.specs.declared.node.Node.{Node}
use Rattle.lgc_packed.specs.Packed.{IsIncluded, is_true_of}
use Rattle.lgc_lemmas.specs.Plain.{PlainLemma}
use Rattle.lgc_lemmas.specs.Nodes.{AreValues}

-- the lemma at a place, counted from 0, is included in the goal
pub record IsProvedBy (n : ℕ) (lemmas : List PlainLemma) (goal : List (ℕ × List ℕ)) (place : ℕ) : Type 0 where
  pub lemma : PlainLemma
  pub is : slice_get lemmas place ≡ Some lemma
  pub included : IsIncluded n lemma.sequent goal

-- the goal is false where numbered formulas have the values of a list, each at its place
pub record IsRefutedBy (logic : Logic) (nodes : List Node) (goal : List (ℕ × List ℕ)) (values : List ℕ) : Type 0 where
  pub values_are : AreValues logic nodes (slice_index values)
  pub fails : is_true_of (slice_index values) goal ≡ false
