-- Lemmas: packed sequents with the reason for which they hold.
use Rattle.std.specs.Prelude.{ℕ, List}
use Rattle.lgc_lemmas.specs.declared.lemma.Reason.{Reason}

-- a sequent with the reason for which it holds
pub record PlainLemma : Type 0 where
  pub sequent : List (ℕ × List ℕ)
  pub reason : Reason
