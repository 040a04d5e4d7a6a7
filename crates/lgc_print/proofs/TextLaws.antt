-- Laws of printed text.
use Rattle.std.proofs.Common.{◌≡◌, ◌≢◌, ℕ, zero, suc, ◌+◌, ◌/◌, ◌^◌, ◌<◌, Bool, cond, List, [], ◌∷◌, ◌++◌, length, take, get_or, refl, ap, sym, ◌∙◌, append_assoc, arith}
use Rattle.std.specs.Prelude.{map, ◌==◌, bit_and}
use Rattle.std.specs.List.{flat_map, range_with_len}
use Rattle.std.specs.Int.{bit_at}
use Rattle.std.proofs.lemmas.Bool.{eq-eqb, ne_eqb}
use Rattle.std.proofs.lemmas.Nat.Bits.{shr_and_one}
use Rattle.std.proofs.lemmas.Grind.{common_steps}
use Rattle.std.proofs.lemmas.List.FromFn.{filter_of_map_range_with_len_more}
use Rattle.lgc_values.specs.Values.{values_where, members_of}
use Rattle.lgc_values.specs.Logic.{Logic}
use Rattle.lgc_clauses.specs.Rules.{PlainRule}
use Rattle.lgc_print.specs.Text.{joined, literals_from, literal_text, rules_text, rule_text}

-- the separator before a further piece
abbrev pub between : List ℕ → List (List ℕ) → List ℕ
between separator [] = []
between separator (piece ∷ pieces) = separator

flat_map-append : (separator : List ℕ) (xs ys : List (List ℕ)) → flat_map (λ p. separator ++ p) (xs ++ ys) ≡ flat_map (λ p. separator ++ p) xs ++ flat_map (λ p. separator ++ p) ys
flat_map-append separator [] ys = refl
flat_map-append separator (x ∷ xs) ys = ap (λ t. (separator ++ x) ++ t) (flat_map-append separator xs ys) ∙ sym (append_assoc (separator ++ x) _ _)

pub joined_more : (separator : List ℕ) (pieces : List (List ℕ)) (piece : List ℕ) → joined separator (pieces ++ piece ∷ []) ≡ joined separator pieces ++ (between separator pieces ++ piece)
joined_more separator [] piece = grind (arith, common_steps)
joined_more separator (x ∷ xs) piece = rw (flat_map-append separator xs (piece ∷ [])) (grind (arith, common_steps))

pub between_more : (separator : List ℕ) (pieces : List (List ℕ)) (piece : List ℕ) → between separator (pieces ++ piece ∷ []) ≡ separator
between_more separator [] piece = refl
between_more separator (x ∷ xs) piece = refl

-- ---- the values below one more
where_more : (p : ℕ → Bool) (n : ℕ) → values_where (n + 1) p ≡ values_where n p ++ cond (p n) (n ∷ []) []
where_more p n = rw (map_same 0 (n + 1), map_same 0 n) at (filter_of_map_range_with_len_more p (λ x. x) 0 n n (omega arith)) where
  map_same : (a n : ℕ) → map (λ x. x) (range_with_len a n) ≡ range_with_len a n
  map_same a zero = refl
  map_same a (suc n) = ap (λ t. a ∷ t) (map_same (a + 1) n)

pub members_kept : (mask v : ℕ) → bit_and (mask / 2 ^ v) 1 ≡ 1 → members_of (v + 1) mask ≡ members_of v mask ++ v ∷ []
members_kept mask v is =
    let one : bit_at mask v ≡ 1 = sym (shr_and_one mask v) ∙ is in
    where_more (λ w. bit_at mask w == 1) v ∙ ap (λ b. members_of v mask ++ cond b (v ∷ []) []) (eq-eqb (bit_at mask v) 1 one)

pub members_passed : (mask v : ℕ) → bit_and (mask / 2 ^ v) 1 ≢ 1 → members_of (v + 1) mask ≡ members_of v mask
members_passed mask v other =
    where_more (λ w. bit_at mask w == 1) v ∙ ap (λ b. members_of v mask ++ cond b (v ∷ []) []) (ne_eqb (bit_at mask v) 1 (λ e. other (shr_and_one mask v ∙ e))) ∙ right_nil (members_of v mask) where
      right_nil : (xs : List ℕ) → xs ++ [] ≡ xs
      right_nil xs = grind (arith, common_steps)

-- ---- the literals of one more set
pub literals_kept : (names : List (List ℕ)) (number : ℕ) (sets : List (List ℕ)) (set : List ℕ) → set ≢ [] → literals_from names number (sets ++ set ∷ []) ≡ literals_from names number sets ++ literal_text names (number + length sets) set ∷ []
literals_kept names number [] [] some = absurd (some refl)
literals_kept names number [] (v ∷ set) some = grind (arith, common_steps)
literals_kept names number ([] ∷ sets) set some =
    let n : number + 1 + length sets ≡ number + suc (length sets) = omega arith in
    rw (← n) (literals_kept names (number + 1) sets set some)
literals_kept names number ((v ∷ x) ∷ sets) set some =
    let n : number + 1 + length sets ≡ number + suc (length sets) = omega arith in
    rw (← n) (ap (λ t. literal_text names number (v ∷ x) ∷ t) (literals_kept names (number + 1) sets set some))

pub literals_passed : (names : List (List ℕ)) (number : ℕ) (sets : List (List ℕ)) → literals_from names number (sets ++ [] ∷ []) ≡ literals_from names number sets
literals_passed names number [] = refl
literals_passed names number ([] ∷ sets) = literals_passed names (number + 1) sets
literals_passed names number ((v ∷ x) ∷ sets) = ap (λ t. literal_text names number (v ∷ x) ∷ t) (literals_passed names (number + 1) sets)

pub rules_more : (logic : Logic) (number : ℕ) (rules : List PlainRule) (rule : PlainRule) → rules_text logic number (rules ++ rule ∷ []) ≡ rules_text logic number rules ++ rule_text logic (number + length rules) rule
rules_more logic number [] rule = grind (arith, common_steps)
rules_more logic number (x ∷ rules) rule =
    let n : number + 1 + length rules ≡ number + suc (length rules) = omega arith in
    ap (λ t. rule_text logic number x ++ t) (rules_more logic (number + 1) rules rule ∙ ap (λ m. rules_text logic (number + 1) rules ++ rule_text logic m rule) n)
    ∙ sym (append_assoc (rule_text logic number x) (rules_text logic (number + 1) rules) (rule_text logic (number + suc (length rules)) rule))

-- ---- one more set of a clause
pub set_kept : (names sets : List (List ℕ)) (set : List ℕ) (j : ℕ) → j < length sets → set ≡ get_or sets j set → set ≢ [] → literals_from names 1 (take (j + 1) sets) ≡ literals_from names 1 (take j sets) ++ literal_text names (j + 1) set ∷ []
set_kept names sets set j lt is some =
    let more : take (j + 1) sets ≡ take j sets ++ set ∷ [] = grind (arith, common_steps) in
    let size : 1 + length (take j sets) ≡ j + 1 = grind (arith, common_steps) in
    ap (λ t. literals_from names 1 t) more ∙ literals_kept names 1 (take j sets) set some ∙ ap (λ n. literals_from names 1 (take j sets) ++ literal_text names n set ∷ []) size

pub set_passed : (names sets : List (List ℕ)) (set : List ℕ) (j : ℕ) → j < length sets → set ≡ get_or sets j set → set ≡ [] → literals_from names 1 (take (j + 1) sets) ≡ literals_from names 1 (take j sets)
set_passed names sets set j lt is none =
    let more : take (j + 1) sets ≡ take j sets ++ set ∷ [] = grind (arith, common_steps) in
    ap (λ t. literals_from names 1 t) (more ∙ ap (λ s. take j sets ++ s ∷ []) none) ∙ literals_passed names 1 (take j sets)

-- the parts of a quantifier's clause with a `some` set: that set is the last
pub some_last : (separator : List ℕ) (pieces : List (List ℕ)) (piece : List ℕ) → pieces ≢ [] → joined separator (pieces ++ piece ∷ []) ≡ joined separator pieces ++ (separator ++ piece)
some_last separator [] piece some = absurd (some refl)
some_last separator (x ∷ xs) piece some = joined_more separator (x ∷ xs) piece
