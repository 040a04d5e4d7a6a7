-- The clause that is false at one row alone.
use Rattle.std.proofs.Common.{◌≡◌, ℕ, zero, suc, ◌+◌, ◌/◌, ◌%◌, ◌^◌, ◌<◌, ◌≤◌, true, false, ◌==◌, ◌&&◌, ◌||◌, not, List, [], ◌∷◌, ◌++◌, length, map, take, refl, ap, sym, ◌∙◌, arith, Some}
use Rattle.std.specs.Prelude.{nat_lt, slice_get}
use Rattle.std.proofs.lemmas.Bool.{or_parts, or_from, both_ways, true_from_ne_false, false_from_ne_true}
use Rattle.std.proofs.lemmas.Bool.Decides.{nat_tests}
use Rattle.std.proofs.lemmas.List.{take_all, take_more, map-append}
use Rattle.std.proofs.lemmas.Option.{slice_get_within, get_or_from_slice_get}
use Rattle.std.proofs.lemmas.Nat.{mod_below}
use Rattle.lgc_values.specs.Values.{has, values_where}
use Rattle.lgc_values.specs.Logic.{arguments_at}
use Rattle.lgc_values.proofs.ValueLaws.{has-values_where, values_where-alike}
use Rattle.lgc_clauses.specs.Rules.{some_in, clause_holds}
use Rattle.lgc_derivation.specs.Parts.{IsWithin}
use Rattle.lgc_op_rules.specs.Operators.{clause_against}
use Rattle.lgc_op_rules.specs.Laws.{clause_holds_within}
use Rattle.lgc_op_rules.proofs.Digits.{length-arguments_at, same_row}

length-map : (f : ℕ → List ℕ) (xs : List ℕ) → length (map f xs) ≡ length xs
length-map f [] = refl
length-map f (x ∷ xs) = ap suc (length-map f xs)

pub length-clause_against : (size k row : ℕ) → length (clause_against size k row) ≡ k
length-clause_against size k row = length-map (λ argument. values_where size (λ v. not (v == argument))) (arguments_at size k row) ∙ length-arguments_at size k row

clause_against_at : (size k row other : ℕ) → clause_holds size (clause_against size k row) other ≡ some_in (clause_against size k row) (arguments_at size k other)
clause_against_at size k row other = ap (λ (n : ℕ). some_in (clause_against size k row) (arguments_at size n other)) (length-clause_against size k row)

-- it is false at the row
not_among : (size argument : ℕ) → has (values_where size (λ v. not (v == argument))) argument ≡ false
not_among size argument = let is : has (values_where size (λ v. not (v == argument))) argument ≡ (nat_lt argument size && not (argument == argument)) = has-values_where size (λ v. not (v == argument)) argument in grind (arith, nat_tests)

none_in : (size : ℕ) (arguments : List ℕ) → some_in (map (λ argument. values_where size (λ v. not (v == argument))) arguments) arguments ≡ false
none_in size [] = refl
none_in size (a ∷ arguments) = or_from (has (values_where size (λ v. not (v == a))) a) (some_in (map (λ argument. values_where size (λ v. not (v == argument))) arguments) arguments) (not_among size a) (none_in size arguments)

pub against_fails : (size k row : ℕ) → clause_holds size (clause_against size k row) row ≡ false
against_fails size k row = clause_against_at size k row row ∙ none_in size (arguments_at size k row)

-- it is true at each other row
all_others : (size argument v : ℕ) → v < size → has (values_where size (λ w. not (w == argument))) v ≡ false → argument ≡ v
all_others size argument v lt out =
    let is : has (values_where size (λ w. not (w == argument))) v ≡ (nat_lt v size && not (v == argument)) = has-values_where size (λ w. not (w == argument)) v in
    grind (arith, nat_tests)

same_arguments : (size k row other : ℕ) → 0 < size → some_in (clause_against size k row) (arguments_at size k other) ≡ false → arguments_at size k row ≡ arguments_at size k other
same_arguments size zero row other some falls = refl
same_arguments size (suc k) row other some falls =
    let mine = row / size ^ k % size in
    let theirs = other / size ^ k % size in
    let parts = or_parts (has (values_where size (λ v. not (v == row / size ^ k % size))) (other / size ^ k % size)) (some_in (clause_against size k row) (arguments_at size k other)) falls in
    let first : row / size ^ k % size ≡ other / size ^ k % size = all_others size mine theirs (mod_below (other / size ^ k) size some) parts.0 in
    let rest : arguments_at size k row ≡ arguments_at size k other = same_arguments size k row other some parts.1 in
    cc

pub against_holds : (size k row other : ℕ) → 0 < size → row < size ^ k → other < size ^ k → (row ≡ other → ⊥) → clause_holds size (clause_against size k row) other ≡ true
against_holds size k row other some lt lt' apart = true_from_ne_false (clause_holds size (clause_against size k row) other) (λ falls.
    apart (same_row size k row other some lt lt' (same_arguments size k row other some (sym (clause_against_at size k row other) ∙ falls))))

-- a clause with smaller sets is false there too
pub smaller_fails : (size k row : ℕ) (sets smaller : List (List ℕ)) → sets ≡ clause_against size k row → IsWithin smaller sets → clause_holds size smaller row ≡ false
smaller_fails size k row sets smaller is within = false_from_ne_true (clause_holds size smaller row) (λ holds.
    both_ways (clause_holds size sets row) (ap (λ (start : List (List ℕ)). clause_holds size start row) is ∙ against_fails size k row) (clause_holds_within size smaller sets row within holds))

-- one set more
pub other_is : (n v : ℕ) (one others : List ℕ) → one ≡ v ∷ [] → others ≡ values_where n (λ w. not (has one w)) → others ≡ values_where n (λ w. not (w == v))
other_is n v one others is is' = is' ∙ values_where-alike n (λ w. not (has one w)) (λ w. not (w == v)) (λ w lt.
    let all : has one w ≡ ((v == w) || false) = ap (λ s. has s w) is in
    grind (arith, nat_tests))

pub one_more : (n : ℕ) (arguments : List ℕ) (j a : ℕ) (sets pushed : List (List ℕ)) (set : List ℕ)
    → sets ≡ map (λ argument. values_where n (λ v. not (v == argument))) (take j arguments)
    → slice_get arguments j ≡ Some a → set ≡ values_where n (λ w. not (w == a)) → pushed ≡ sets ++ set ∷ []
    → pushed ≡ map (λ argument. values_where n (λ v. not (v == argument))) (take (j + 1) arguments)
one_more n arguments j a sets pushed set before at is added =
    let next : take (j + 1) arguments ≡ take j arguments ++ a ∷ [] = take_more arguments j a (slice_get_within arguments j a at) ∙ ap (λ (b : ℕ). take j arguments ++ b ∷ []) (get_or_from_slice_get arguments j a a at) in
    rw (added, next, before, is) (sym (map-append (λ argument. values_where n (λ v. not (v == argument))) (take j arguments) (a ∷ [])))

pub whole : (n k row j : ℕ) (sets : List (List ℕ)) → sets ≡ map (λ argument. values_where n (λ v. not (v == argument))) (take j (arguments_at n k row)) → k ≤ j → sets ≡ clause_against n k row
whole n k row j sets is le = is ∙ ap (map (λ argument. values_where n (λ v. not (v == argument)))) (take_all j (arguments_at n k row) (let count : length (arguments_at n k row) ≡ k = length-arguments_at n k row in omega arith))
