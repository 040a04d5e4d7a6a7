-- The bounds of an order, and of the links that make it.
use Rattle.std.proofs.Common.{◌≡◌, ℕ, ◌*◌, ◌/◌, ◌%◌, ◌<◌, Bool, List, [], ◌∷◌, length, get_or, Err, refl}
use Rattle.lgc_spec.specs.declared.fault.SpecFault.{SpecFault}
use Rattle.lgc_spec.specs.Faults.{keeping, Answers}
use Rattle.lgc_spec.specs.Words.{names_of}
use Rattle.lgc_spec.specs.Bounds.{IsBound, BoundsGive}

-- the first row without a bound
pub bound_fault : (lower : Bool) (names : List (List ℕ)) (at : ℕ) (le : ℕ → ℕ → Type 0) (row size : ℕ) (table : List ℕ) (pair : List (List ℕ)) (fault : SpecFault) → size ≡ length names → row < length names * length names → ((c : ℕ) → IsBound lower size le (row / length names) (row % length names) c → ⊥) → ((r : ℕ) → r < row → IsBound lower (length names) le (r / length names) (r % length names) (get_or table r 0)) → pair ≡ names_of names (row / length names ∷ row % length names ∷ []) → fault ≡ keeping 20 at pair → Answers (BoundsGive lower names at le) (Err fault)
bound_fault lower names at le row size table pair fault s lt none bounds p f =
    let nowhere : (c : ℕ) → IsBound lower (length names) le (row / length names) (row % length names) c → ⊥ = rw s at none in
    rw (f, p) (row, lt, (λ h. nowhere h.0 h.1), (λ r l. (get_or table r 0, bounds r l)), refl)
