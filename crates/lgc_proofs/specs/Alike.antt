-- Sequents that say the same.
use Rattle.std.specs.Prelude.{◌≡◌, true, List}
use Rattle.lgc_sequents.specs.Signed.{SignedFormula}
use Rattle.lgc_sequents.specs.Sequents.{is_included}

-- two sequents are included in each other
pub record AreAlike (a b : List SignedFormula) : Type 0 where
  pub left : is_included a b ≡ true
  pub right : is_included b a ≡ true
