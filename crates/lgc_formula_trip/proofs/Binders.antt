-- The variables of quantifiers: each is found at its place, and no other name is one.
use Rattle.std.proofs.Common.{◌≡◌, ℕ, zero, suc, ◌+◌, ◌^◌, ◌<◌, true, false, List, [], ◌∷◌, length, Some, None, refl, sym, ap, ◌∙◌, arith}
use Rattle.std.specs.List.{position_from}
use Rattle.std.specs.Str.{bytes_eq}
use Rattle.std.specs.Fmt.{decimal}
use Rattle.std.proofs.lemmas.Bool.{lt-ltb}
use Rattle.std.proofs.lemmas.Slice.Eq.{bytes_eq-Decides}
use Rattle.std.proofs.lemmas.Fmt.{decimal_injective, decimal_nonempty}
use Rattle.lgc_print.specs.FormulaText.{binder}
use Rattle.lgc_formulas.specs.Scopes.{bound_in, is_reserved}
use Rattle.lgc_round_trip.proofs.Decimals.{writes_decimal}
use Rattle.lgc_round_trip.proofs.Lookups.{differ}

-- the names in scope where so many quantifiers stand around, the innermost first
abbrev pub binders : ℕ → List (List ℕ)
binders zero = []
binders (suc k) = binder (suc k) ∷ binders k

pub binders_more : (k : ℕ) → binder (k + 1) ∷ binders k ≡ binders (k + 1)
binders_more k = let step : k + 1 ≡ suc k = omega arith in rw step refl

binder_injective : (m n : ℕ) → m < 2 ^ 32 → n < 2 ^ 32 → binder m ≡ binder n → m ≡ n
binder_injective m n small low e = let digits : decimal m ≡ decimal n = cc in decimal_injective m n (omega arith) (omega arith) digits

-- the i-th from the innermost, of names that are counted from `start` on
bound_from : (k i start n : ℕ) → k < 2 ^ 32 → i < k → n + i ≡ k → position_from (λ name. bytes_eq name (binder n)) start (binders k) ≡ Some (start + i)
bound_from zero i start n small lt e = absurd (omega arith)
bound_from (suc k) zero start n small lt e =
    let same : suc k ≡ n = omega arith in
    let yes : bytes_eq (binder (suc k)) (binder n) ≡ true = (bytes_eq-Decides (binder (suc k)) (binder n)).1 (ap binder same) in
    rw yes (ap Some (omega arith))
bound_from (suc k) (suc i) start n small lt e =
    let no : bytes_eq (binder (suc k)) (binder n) ≡ false = differ (binder (suc k)) (binder n) (λ d. let f : suc k ≡ n = binder_injective (suc k) n small (omega arith) d in omega arith) in
    rw no (bound_from k i (start + 1) n (omega arith) (omega arith) (omega arith) ∙ ap Some (omega arith))

pub bound_at : (k i n : ℕ) → k < 2 ^ 32 → i < k → n + i ≡ k → bound_in (binders k) (binder n) ≡ Some i
bound_at k i n small lt e = bound_from k i 0 n small lt e ∙ ap Some (omega arith)

binder_reserved : (k : ℕ) → k < 2 ^ 32 → is_reserved (binder k) ≡ true
binder_reserved k small = rw (lt-ltb 0 (length (decimal k)) (decimal_nonempty k (omega arith)), (writes_decimal k (omega arith)).are_digits) refl

none_from : (k start : ℕ) (x : List ℕ) → k < 2 ^ 32 → is_reserved x ≡ false → position_from (λ name. bytes_eq name x) start (binders k) ≡ None
none_from zero start x small own = refl
none_from (suc k) start x small own =
    let no : bytes_eq (binder (suc k)) x ≡ false = differ (binder (suc k)) x (λ d. let f : is_reserved (binder (suc k)) ≡ true = binder_reserved (suc k) small in let g : is_reserved x ≡ true = sym (ap is_reserved d) ∙ f in cc) in
    rw no (none_from k (start + 1) x (omega arith) own)

pub none_bound : (k : ℕ) (x : List ℕ) → k < 2 ^ 32 → is_reserved x ≡ false → bound_in (binders k) x ≡ None
none_bound k x small own = none_from k 0 x small own
