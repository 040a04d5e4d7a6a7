-- The step of the loop over the words of a set of values.
use Rattle.std.proofs.Common.{◌≡◌, ℕ, ◌+◌, ◌*◌, ◌%◌, ◌^◌, ◌<◌, ◌≤◌, Bool, true, false, ◌==◌, ◌||◌, ◌&&◌, List, length, take, get_or, ◌∙◌, arith}
use Rattle.std.specs.Prelude.{nat_lt, bit_or}
use Rattle.std.specs.List.{list_any}
use Rattle.std.proofs.lemmas.Bool.Decides.{nat_tests}
use Rattle.std.proofs.lemmas.List.Folds.{list_any_more}
use Rattle.lgc_values.specs.declared.TheConstants.{MOST_VALUES}
use Rattle.lgc_values.specs.Values.{has, members_of}
use Rattle.lgc_values.proofs.ValueLaws.{values_where-alike, has-values_where, with_law}
use Rattle.lgc_parser.specs.declared.tree.Word.{Word}
use Rattle.lgc_spec.specs.Words.{value_of}
use Rattle.lgc_spec.specs.Values.{values_named}

same_test : (t : Bool) (n v w : ℕ) → w < n → (nat_lt w n && t || (w == v)) ≡ (t || (v == w))
same_test true n v w lt = grind (arith, nat_tests)
same_test false n v w lt = grind (arith, nat_tests)

pub values_named_more : (bytes : List ℕ) (names : List (List ℕ)) (words : List Word) (i : ℕ) (d : Word) (v mask : ℕ) → i < length words → members_of (length names) mask ≡ values_named bytes names (take i words) → v ≡ value_of bytes names (get_or words i d) → v < length names → length names ≤ MOST_VALUES → members_of (length names) (bit_or mask (1 * 2 ^ v % 65536)) ≡ values_named bytes names (take (i + 1) words)
values_named_more bytes names words i d v mask lt is e below few =
    with_law (length names) mask v (values_named bytes names (take i words)) is below few
    ∙ values_where-alike (length names)
    (λ w. has (values_named bytes names (take i words)) w || (w == v))
    (λ w. list_any (λ u. value_of bytes names u == w) (take (i + 1) words))
    (λ w within.
    let had = has-values_where (length names) (λ x. list_any (λ u. value_of bytes names u == x) (take i words)) w in
    let more = list_any_more (λ u. value_of bytes names u == w) words i d lt in
    rw (had, more, ← e) (same_test (list_any (λ u. value_of bytes names u == w) (take i words)) (length names) v w within))
