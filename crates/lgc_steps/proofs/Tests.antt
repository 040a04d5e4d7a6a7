-- What tests of lists decide.
use Rattle.std.proofs.Common.{◌≡◌, ℕ, Bool, true, List, [], ◌∷◌, map, length, refl, sym}
use Rattle.std.specs.Prelude.{nat_lt, nat_le}
use Rattle.std.specs.Bool.{Decides}
use Rattle.std.specs.List.{AllZip}
use Rattle.std.proofs.lemmas.Bool.{leb-true, le-leb, true≢false}
use Rattle.std.proofs.lemmas.Bool.Decides.{Decides-and, Decides-ltb}
use Rattle.lgc_sequents.specs.Lines.{IsPosition}
use Rattle.lgc_steps.specs.StepTests.{all_zip, is_position}

pub Decides-test : (b : Bool) → Decides b (b ≡ true)
Decides-test b = (λ passes. passes, λ passes. passes)

-- what stands at one place in two lists
pub Decides-zip : {X Y : Type 0} (test : X → Y → Bool) (R : X → Y → Type 0) → ((x : X) (y : Y) → Decides (test x y) (R x y)) → (xs : List X) (ys : List Y) → Decides (all_zip test xs ys) (AllZip R xs ys)
Decides-zip test R each [] [] = (λ passes. tt, λ all. refl)
Decides-zip test R each [] (y ∷ ys) = (λ passes. absurd (true≢false (sym passes)), λ all. absurd all)
Decides-zip test R each (x ∷ xs) [] = (λ passes. absurd (true≢false (sym passes)), λ all. absurd all)
Decides-zip test R each (x ∷ xs) (y ∷ ys) = Decides-and (test x y) (all_zip test xs ys) (each x y) (Decides-zip test R each xs ys)

-- the same where the second list is mapped
pub Decides-mapped : {X Y Z : Type 0} (test : X → Z → Bool) (R : X → Y → Type 0) (f : Z → Y) → ((x : X) (z : Z) → Decides (test x z) (R x (f z))) → (xs : List X) (zs : List Z) → Decides (all_zip test xs zs) (AllZip R xs (map f zs))
Decides-mapped test R f each [] [] = (λ passes. tt, λ all. refl)
Decides-mapped test R f each [] (z ∷ zs) = (λ passes. absurd (true≢false (sym passes)), λ all. absurd all)
Decides-mapped test R f each (x ∷ xs) [] = (λ passes. absurd (true≢false (sym passes)), λ all. absurd all)
Decides-mapped test R f each (x ∷ xs) (z ∷ zs) = Decides-and (test x z) (all_zip test xs zs) (each x z) (Decides-mapped test R f each xs zs)

-- there is something at a position
pub is_position-Decides : {X : Type 0} (xs : List X) (position : ℕ) → Decides (is_position xs position) (IsPosition xs position)
is_position-Decides xs position = Decides-and (nat_lt 0 position) (nat_le position (length xs)) (Decides-ltb 0 position) (leb-true position (length xs), le-leb position (length xs))
