-- The order in which the sets of a clause are asked, and their numbers.
use Rattle.std.proofs.Common.{◌≡◌, ℕ, zero, suc, ◌+◌, ◌-◌, ◌%◌, ◌<◌, ◌≤◌, refl, ◌∙◌, arith, ⊎_elim}
use Rattle.std.specs.Prelude.{◌^◌, List, [], length}
use Rattle.std.proofs.lemmas.Bool.{cases_eq}
use Rattle.std.proofs.lemmas.List.Elements.{All-get_or}
use Rattle.std.proofs.Math.Nat.{mod_self, mod-eq_of_lt}
use Rattle.lgc_clauses.specs.Rules.{Head, operator, quantifier, PlainRule}
use Rattle.lgc_clauses.specs.Irredundance.{clause_at, ComesBefore, set_asked, set_number, IsNumbered}

-- the places of the sets of a quantifier's clause
last_place : (q count place : ℕ) → place + 1 ≡ count → set_asked (quantifier q) count place ≡ 0
last_place q count place e = rw e (mod_self count)

earlier_place : (q count place : ℕ) → place + 1 < count → set_asked (quantifier q) count place ≡ suc place
earlier_place q count place lt = let e : (place + 1) % count ≡ place + 1 = mod-eq_of_lt lt in e ∙ omega arith

-- each set is asked at some place
pub asked_at : (head : Head) (count j : ℕ) → j < count → (p : ℕ) × (p < count) × (set_asked head count p ≡ j)
asked_at (operator op) count j lt = (j, lt, refl)
asked_at (quantifier q) count zero lt = (count - 1, omega arith, last_place q count (count - 1) (omega arith))
asked_at (quantifier q) count (suc j) lt = (j, omega arith, earlier_place q count j (omega arith))

-- a set that comes before the one at a place is asked at an earlier place
pub asked_before : (head : Head) (count place k : ℕ) → place < count → k < count → ComesBefore head k (set_asked head count place) → (p : ℕ) × (p < place) × (set_asked head count p ≡ k)
asked_before (operator op) count place k lt lt' before = (k, before, refl)
asked_before (quantifier q) count place k lt lt' before = ⊎_elim
    (λ (e : place + 1 ≡ count). let pos : 1 ≤ k = rw (last_place q count place e) at before in (k - 1, omega arith, earlier_place q count (k - 1) (omega arith) ∙ omega arith))
    (λ (ne : place + 1 ≡ count → ⊥).
    let both : (1 ≤ k) × (k ≤ place) = rw (earlier_place q count place (omega arith)) at before in
    (k - 1, omega (arith, both.0, both.1), earlier_place q count (k - 1) (omega (arith, both.0)) ∙ omega (arith, both.0)))
    (cases_eq (place + 1) count)

-- ---- numbers

number_below : (head : Head) (count j : ℕ) → j < count → set_number head (count - 1) < 2 ^ 32 → set_number head j < 2 ^ 32
number_below (operator op) count j lt last = omega (arith, last)
number_below (quantifier q) count j lt last = omega (arith, last)

-- each set of a rule whose sets are numbered has a number
pub numbered_below : (rule : PlainRule) (i j : ℕ) → IsNumbered rule → i < length rule.clauses → j < length (clause_at rule.clauses i) → set_number rule.head j < 2 ^ 32
numbered_below rule i j numbered clause part =
    number_below rule.head (length (clause_at rule.clauses i)) j part
    (All-get_or (λ (sets : List (List ℕ)). set_number rule.head (length sets - 1) < 2 ^ 32) rule.clauses i [] clause numbered.sets)
