-- The mask of a set tells the set, and the set its mask.
use Rattle.std.proofs.Common.{◌≡◌, ℕ, ◌+◌, ◌*◌, ◌/◌, ◌%◌, ◌^◌, ◌<◌, zero, suc, Bool, true, false, cond, ◌==◌, List, ◌∷◌, refl, ap, sym, ◌∙◌, arith}
use Rattle.std.specs.Prelude.{filter}
use Rattle.std.specs.List.{range_with_len}
use Rattle.std.specs.Int.{bit_at}
use Rattle.std.proofs.lemmas.Bool.Decides.{nat_tests}
use Rattle.std.proofs.lemmas.Grind.{common_steps}
use Rattle.std.proofs.Math.Nat.{div-one, div-div-eq-div-mul}
use Rattle.lgc_values.specs.Values.{mask_of, members_of}

-- the mask of the set with a mask
half : (a mask : ℕ) → mask / 2 ^ (a + 1) ≡ mask / 2 ^ a / 2
half a mask = let next : 2 ^ (a + 1) ≡ 2 ^ a * 2 = grind (arith, common_steps) in ap (λ d. mask / d) next ∙ sym (div-div-eq-div-mul mask (2 ^ a) 2)

odd_part : (p h q : ℕ) → q ≡ 2 * h + 1 → p + p * 2 * h ≡ p * q
odd_part p h q e = rw e (omega arith)

even_part : (p h q : ℕ) → q ≡ 2 * h → p * 2 * h ≡ p * q
even_part p h q e = rw e (omega arith)

mask_of-pick : (b : Bool) (a q : ℕ) (rest : List ℕ) → (q % 2 == 1) ≡ b → mask_of rest ≡ 2 ^ (a + 1) * (q / 2) → mask_of (cond b (a ∷ rest) rest) ≡ 2 ^ a * q
mask_of-pick true a q rest odd e =
    let next : 2 ^ (a + 1) ≡ 2 ^ a * 2 = grind (arith, common_steps) in
    let one : q ≡ 2 * (q / 2) + 1 = grind (arith, nat_tests) in
    rw (e, next, odd_part (2 ^ a) (q / 2) q one) refl
mask_of-pick false a q rest even e =
    let next : 2 ^ (a + 1) ≡ 2 ^ a * 2 = grind (arith, common_steps) in
    let none : q ≡ 2 * (q / 2) = grind (arith, nat_tests) in
    rw (e, next, even_part (2 ^ a) (q / 2) q none) refl

mask_of-filter : (a n mask : ℕ) → mask / 2 ^ a < 2 ^ n → mask_of (filter (λ v. bit_at mask v == 1) (range_with_len a n)) ≡ 2 ^ a * (mask / 2 ^ a)
mask_of-filter a zero mask lt =
    let none : mask / 2 ^ a ≡ 0 = omega arith in
    rw none (omega arith)
mask_of-filter a (suc n) mask lt =
    let down : mask / 2 ^ (a + 1) ≡ mask / 2 ^ a / 2 = half a mask in
    let next : 2 ^ suc n ≡ 2 ^ n * 2 = grind (arith, common_steps) in
    let below : mask / 2 ^ (a + 1) < 2 ^ n = omega arith in
    let rest : mask_of (filter (λ v. bit_at mask v == 1) (range_with_len (a + 1) n)) ≡ 2 ^ (a + 1) * (mask / 2 ^ a / 2) = mask_of-filter (a + 1) n mask below ∙ ap (λ h. 2 ^ (a + 1) * h) down in
    mask_of-pick (bit_at mask a == 1) a (mask / 2 ^ a) (filter (λ v. bit_at mask v == 1) (range_with_len (a + 1) n)) refl rest

pub mask_of-members_of : (n mask : ℕ) → mask < 2 ^ n → mask_of (members_of n mask) ≡ mask
mask_of-members_of n mask lt =
    let all : mask / 2 ^ 0 ≡ mask = div-one mask in
    let below : mask / 2 ^ 0 < 2 ^ n = omega arith in
    mask_of-filter 0 n mask below ∙ omega arith
