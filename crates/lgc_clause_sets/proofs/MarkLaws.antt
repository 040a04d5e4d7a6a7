-- A clause that subsumes another one lacks no bit of its mark.
use Rattle.std.proofs.Common.{◌≡◌, ◌≢◌, ℕ, ◌+◌, ◌*◌, ◌%◌, ◌^◌, ◌<◌, inl, inr, Bool, true, false, not, ◌||◌, ◌&&◌, ◌==◌, nat_lt, List, [], ◌∷◌, ◌++◌, length, take, get_or, refl, ap, sym, ◌∙◌, arith}
use Rattle.std.specs.Prelude.{bit_and, bit_or}
use Rattle.std.specs.Bool.{Decides}
use Rattle.std.specs.Int.{bit_at}
use Rattle.std.specs.List.{list_all}
use Rattle.std.proofs.lemmas.Bool.{and_parts, and_from, and_right, or_cases, or_left, or_right, ltb-true, eqb-true, false_from_ne_true, true≢false}
use Rattle.std.proofs.lemmas.List.{take_more, length-take-le}
use Rattle.std.proofs.lemmas.Nat.Bits.{bit_at-zero}
use Rattle.std.proofs.Math.Pow.{pow-lt}
use Rattle.lgc_values.specs.Values.{has, members_of}
use Rattle.lgc_values.proofs.ValueLaws.{has-values_where, has-members_of, bit-or, bit-one, subset_law}
use Rattle.lgc_clause_sets.specs.AtomClauses.{has_member, subsumes}
use Rattle.lgc_clause_sets.specs.Marks.{has_bit, is_marked, IsMark}
use Rattle.lgc_clause_sets.proofs.ClauseLaws.{list_all-from_has}

-- what lies in an empty set is empty
some_wider : (x y : List ℕ) → list_all (has y) x ≡ true → has_member x ≡ true → has_member y ≡ true
some_wider [] y inside some = cc
some_wider (v ∷ x) [] inside some = cc
some_wider (v ∷ x) (w ∷ y) inside some = refl

marked_wider : (bit place : ℕ) (a b : List (List ℕ)) → subsumes a b ≡ true → is_marked bit place a ≡ true → is_marked bit place b ≡ true
marked_wider bit place [] b h marked = cc
marked_wider bit place (x ∷ a) [] h marked = cc
marked_wider bit place (x ∷ a) (y ∷ b) h marked =
    let p = and_parts (list_all (has y) x) (subsumes a b) h in
    elim (or_cases (has_bit bit place x) (is_marked bit (place + 1) a) marked) [
      | inl e ↦ (let q = and_parts (bit == place % 64) (has_member x) e in or_left (has_bit bit place y) (is_marked bit (place + 1) b) (and_from (bit == place % 64) (has_member y) q.0 (some_wider x y p.0 q.1)))
      | inr later ↦ or_right (has_bit bit place y) (is_marked bit (place + 1) b) (marked_wider bit (place + 1) a b p.1 later)
    ]

-- the bits of the narrower clause's mark are among those of the wider one's
bits_inside : (a b : List (List ℕ)) (mark other : ℕ) → IsMark a mark → IsMark b other → subsumes a b ≡ true → list_all (has (members_of 64 other)) (members_of 64 mark) ≡ true
bits_inside a b mark other is is' h = list_all-from_has (has (members_of 64 other)) (members_of 64 mark) (λ bit member.
    let p = and_parts (nat_lt bit 64) (bit_at mark bit == 1) (sym (has-values_where 64 (λ w. bit_at mark w == 1) bit) ∙ member) in
    let lt = ltb-true bit 64 p.0 in
    has-members_of 64 other bit lt ∙ is' bit lt ∙ marked_wider bit 0 a b h (sym (is bit lt) ∙ p.1))

-- a clause that lacks a bit of another one's mark isn't subsumed by it
pub mark_differs : (a b : List (List ℕ)) (mark other : ℕ) → IsMark a mark → IsMark b other → mark < 2 ^ 64 → bit_and mark other ≢ mark → subsumes a b ≡ false
mark_differs a b mark other is is' lt differ =
    false_from_ne_true (subsumes a b) (λ h. differ (eqb-true (bit_and mark other) mark (subset_law 64 mark other (members_of 64 mark) (members_of 64 other) refl refl lt ∙ bits_inside a b mark other is is' h)))

-- ---- making a mark

shl_one : (v : ℕ) → v < 64 → 1 * 2 ^ v % 18446744073709551616 ≡ 2 ^ v
shl_one v lt = let below : 2 ^ v < 2 ^ 64 = pow-lt lt in omega arith

pub has_member_from : (empty : Bool) (set : List ℕ) → Decides empty (set ≡ []) → has_member set ≡ not empty
has_member_from true [] decides = refl
has_member_from false [] decides = absurd (true≢false (sym (decides.1 refl)))
has_member_from true (v ∷ set) decides = let wrong = decides.0 refl in cc
has_member_from false (v ∷ set) decides = refl

pub bit_of_empty : (empty : Bool) (set : List ℕ) (bit place : ℕ) → Decides empty (set ≡ []) → empty ≡ true → (bit_at 0 bit == 1) ≡ has_bit bit place set
bit_of_empty empty set bit place decides is = ap (λ b. b == 1) (bit_at-zero bit) ∙ sym (and_right (bit == place % 64) (has_member set) (has_member_from empty set decides ∙ ap not is))

pub bit_of_some : (empty : Bool) (set : List ℕ) (bit place : ℕ) → Decides empty (set ≡ []) → empty ≡ false → (bit_at (1 * 2 ^ (place % 64) % 18446744073709551616) bit == 1) ≡ has_bit bit place set
bit_of_some empty set bit place decides is =
    ap (λ m. bit_at m bit == 1) (shl_one (place % 64) (omega arith)) ∙ bit-one (place % 64) bit ∙ sym (ap (λ some. (bit == place % 64) && some) (has_member_from empty set decides ∙ ap not is) ∙ and_true (bit == place % 64)) where
      and_true : (b : Bool) → (b && true) ≡ b
      and_true true = refl
      and_true false = refl

marked-push : (bit place : ℕ) (sets : List (List ℕ)) (set : List ℕ) → is_marked bit place (sets ++ set ∷ []) ≡ (is_marked bit place sets || has_bit bit (place + length sets) set)
marked-push bit place [] set = or_false (has_bit bit place set) ∙ ap (λ p. has_bit bit p set) (omega arith) where
  or_false : (b : Bool) → (b || false) ≡ b
  or_false true = refl
  or_false false = refl
marked-push bit place (x ∷ sets) set =
    ap (λ b. has_bit bit place x || b) (marked-push bit (place + 1) sets set ∙ ap (λ p. is_marked bit (place + 1) sets || has_bit bit p set) (omega arith)) ∙ or_assoc (has_bit bit place x) (is_marked bit (place + 1) sets) (has_bit bit (place + length (x ∷ sets)) set) where
      or_assoc : (a b c : Bool) → (a || (b || c)) ≡ ((a || b) || c)
      or_assoc true b c = refl
      or_assoc false b c = refl

-- the mark of one set more
pub mark_more : (sets : List (List ℕ)) (i : ℕ) (set : List ℕ) (mark more : ℕ) → i < length sets → set ≡ get_or sets i set → IsMark (take i sets) mark → ((bit : ℕ) → bit < 64 → (bit_at more bit == 1) ≡ has_bit bit i set) → IsMark (take (i + 1) sets) (bit_or mark more)
mark_more sets i set mark more lt at so_far this bit below =
    let place : 0 + length (take i sets) ≡ i = omega (arith, length-take-le i sets (omega arith)) in
    bit-or mark more bit ∙ (λ j. so_far bit below j || this bit below j)
    ∙ sym (ap (is_marked bit 0) (take_more sets i set lt ∙ ap (λ s. take i sets ++ s ∷ []) (sym at)) ∙ marked-push bit 0 (take i sets) set ∙ ap (λ p. is_marked bit 0 (take i sets) || has_bit bit p set) place)
