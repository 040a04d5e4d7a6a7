-- The tests of a claim tell what is found of it.
use Rattle.std.proofs.Common.{◌≡◌, ℕ, Bool, true, false, ◌&&◌, suc, ◌<◌, ◌≤◌, ◌+◌, List, [], ◌∷◌, length, get_or, drop, refl, sym, ap, subst, ◌∙◌}
use mathlib.Core.Logic.{inl, inr}
use Rattle.std.specs.Prelude.{slice_get, Option, Some, None}
use Rattle.std.specs.Bool.{Decides}
use Rattle.std.specs.List.{All, Any, list_all, list_any}
use Rattle.std.proofs.lemmas.Bool.{and_parts, not-true, not_from_false, false_from_ne_true, both_ways, false≢true}
use Rattle.std.proofs.lemmas.Bool.Decides.{Decides-by_and}
use Rattle.std.proofs.lemmas.List.{drop_all, drop_more}
use Rattle.std.proofs.lemmas.Option.{slice_get_within, get_or_from_slice_get}
use Rattle.std.proofs.lemmas.List.Folds.{Any-from_list_any, list_any-from_Any, list_any_none, list_any_at}
use Rattle.lgc_values.specs.Logic.{Logic}
use Rattle.lgc_meaning.specs.declared.query.Query.{Query}
use Rattle.lgc_goals.specs.Goals.{goals_of}
use Rattle.lgc_sequents.specs.Lines.{PlainLine, IsPosition}
use Rattle.lgc_sequents.specs.Rests.{IsPendingBased}
use Rattle.lgc_steps.specs.StepTests.{is_position, first_failing, all_zip}
use Rattle.lgc_steps.proofs.Findings.{Told, asked, nothing_asked, IsApart, apart_nothing, apart_asked}
use Rattle.lgc_steps.proofs.Tests.{Decides-test, Decides-zip, is_position-Decides}
use Rattle.lgc_report.specs.declared.report.Evidence.{Evidence}
use Rattle.lgc_report.specs.declared.report.Evidence.TheVariants.{Proved, Refuted, Unfinished}
use Rattle.lgc_report.specs.Reports.{PlainClaim, answer, holds, number_of}
use Rattle.lgc_check.specs.declared.verdict.Cause.{Cause}
use Rattle.lgc_check.specs.declared.verdict.Cause.TheVariants as cause
use Rattle.lgc_check.specs.Causes.{IsIncluded, found_of_goals, found_of_answer, found_of_evidence, IsSettledBy, IsSettled, found_of_claim}
use Rattle.lgc_check.specs.Marks.{is_marked, AreMarks}
use Rattle.lgc_check.specs.ClaimTests.{is_included_at, goal_tests, is_settled_by, is_settled}
use Rattle.lgc_check.proofs.Faults.{apart_first}

-- ---- cited lines

positions-Decides : (lines : List PlainLine) (cited : List ℕ) → Decides (list_all (is_position lines) cited) (All (IsPosition lines) cited)
positions-Decides lines cited = Decides-by_and (is_position lines) (IsPosition lines) (list_all (is_position lines)) (is_position-Decides lines) refl (λ p ps. refl) cited

goals_told : (n : ℕ) (lines : List PlainLine) (query : Query) (cited : List ℕ) → Told (found_of_goals n lines query cited) (goal_tests n lines query cited)
goals_told n lines query cited =
    asked (list_all (is_position lines) cited) (positions-Decides lines cited)
    (asked (all_zip (is_included_at lines) cited (goals_of n query)) (Decides-zip (is_included_at lines) (IsIncluded lines) (λ position sequent. Decides-test (is_included_at lines position sequent)) cited (goals_of n query)) nothing_asked)

goals_found : (n : ℕ) (lines : List PlainLine) (query : Query) (cited : List ℕ) → found_of_goals n lines query cited (first_failing (goal_tests n lines query cited))
goals_found n lines query cited = (goals_told n lines query cited).is

-- ---- pending lines

module _ (lines : List PlainLine) (marks : List Bool) (are : AreMarks lines marks) where
  unmarked : (position : ℕ) → is_marked marks position ≡ false → IsPendingBased lines position → ⊥
  unmarked position none based = both_ways (is_marked marks position) none ((are position).1 based)

  unmarked_from : (position : ℕ) → (IsPendingBased lines position → ⊥) → is_marked marks position ≡ false
  unmarked_from position settled = false_from_ne_true (is_marked marks position) (λ marked. settled ((are position).0 marked))

  some_marked : (cited : List ℕ) → Any (IsPendingBased lines) cited → list_any (is_marked marks) cited ≡ true
  some_marked cited some = list_any-from_Any (is_marked marks) cited (some.0, some.1, some.2, some.3, (are some.1).1 some.4)

  some_based : (cited : List ℕ) → list_any (is_marked marks) cited ≡ true → Any (IsPendingBased lines) cited
  some_based cited marked = let some = Any-from_list_any (is_marked marks) cited marked in (some.0, some.1, some.2, some.3, (are some.1).0 some.4)

  settled_by-Decides : (evidence : Evidence) → Decides (is_settled_by marks evidence) (IsSettledBy lines evidence)
  settled_by-Decides (Proved cited) = (
    (λ passes i d lt based. both_ways (list_any (is_marked marks) cited) (not-true (list_any (is_marked marks) cited) passes) (list_any_at (is_marked marks) cited i d lt ((are (get_or cited i d)).1 based))),
    (λ settled. not_from_false (list_any (is_marked marks) cited) (list_any_none (is_marked marks) cited (λ i d lt. unmarked_from (get_or cited i d) (settled i d lt)))),
  )
  settled_by-Decides (Refuted entries) = (λ passes. tt, λ settled. refl)
  settled_by-Decides (Unfinished cited) = (some_based cited, some_marked cited)

  pub settled-Decides : (claim : PlainClaim) → Decides (is_settled marks claim) (IsSettled lines claim)
  settled-Decides (answer number query evidence) = settled_by-Decides evidence
  settled-Decides (holds number sequent line) = ((λ passes. unmarked line (not-true (is_marked marks line) passes)), (λ settled. not_from_false (is_marked marks line) (unmarked_from line settled)))

-- ---- the whole claim

-- by the lines that are cited for goals
pub goals_by : (n : ℕ) (logic : Logic) (lines : List PlainLine) (query : Query) (cited items : List ℕ) (found : Option Cause) → logic.size ≡ n → items ≡ cited → found ≡ first_failing (goal_tests n lines query items) → found_of_goals logic.size lines query cited found
goals_by n logic lines query cited items found size same is =
    subst (λ k. found_of_goals k lines query cited found) (sym size) (subst (λ ps. found_of_goals n lines query ps found) same (subst (found_of_goals n lines query items) (sym is) (goals_found n lines query items)))

module _ (logic : Logic) (lines : List PlainLine) (position : ℕ) (claim : PlainClaim) where
  pub pending_found : found_of_evidence logic lines claim None → number_of claim ≡ position → (IsSettled lines claim → ⊥) → found_of_claim logic lines position claim (Some cause.Pending)
  pending_found right numbered unsettled = inr (right, inr (numbered, inl (unsettled, refl)))

  pub nothing_found : found_of_evidence logic lines claim None → number_of claim ≡ position → IsSettled lines claim → found_of_claim logic lines position claim None
  nothing_found right numbered settled = (right, (numbered, (settled, tt)))

-- ---- nothing is found where something is

apart_answer : (logic : Logic) (lines : List PlainLine) (query : Query) (evidence : Evidence) → IsApart (found_of_answer logic lines query evidence)
apart_answer logic lines query (Proved cited) = apart_asked (apart_asked apart_nothing)
apart_answer logic lines query (Refuted entries) = apart_asked apart_nothing
apart_answer logic lines query (Unfinished cited) = apart_asked (apart_asked apart_nothing)

apart_evidence : (logic : Logic) (lines : List PlainLine) (claim : PlainClaim) → IsApart (found_of_evidence logic lines claim)
apart_evidence logic lines (answer number query evidence) = apart_answer logic lines query evidence
apart_evidence logic lines (holds number sequent line) = apart_asked (apart_asked apart_nothing)

pub apart_claim : (logic : Logic) (lines : List PlainLine) (position : ℕ) (claim : PlainClaim) → IsApart (found_of_claim logic lines position claim)
apart_claim logic lines position claim = apart_first (apart_evidence logic lines claim) (apart_asked (apart_asked apart_nothing))

-- ---- one goal after another

module _ {X Y : Type 0} (test : X → Y → Bool) (xs : List X) (ys : List Y) where
  first_of_rest : {Z : Type 0} (zs : List Z) (i : ℕ) (z d : Z) → i < length zs → z ≡ get_or zs i d → drop i zs ≡ z ∷ drop (i + 1) zs
  first_of_rest zs i z d within is = drop_more zs i d within ∙ ap (λ y. y ∷ drop (i + 1) zs) (sym is)

  -- what stands at one place in both lists is tested before the rest
  pub zip_next : (i : ℕ) (x d : X) (y : Y) → i < length xs → x ≡ get_or xs i d → slice_get ys i ≡ Some y → all_zip test (drop i xs) (drop i ys) ≡ (test x y && all_zip test (drop (i + 1) xs) (drop (i + 1) ys))
  zip_next i x d y within is at =
      ap (λ l. all_zip test l (drop i ys)) (first_of_rest xs i x d within is)
      ∙ ap (all_zip test (x ∷ drop (i + 1) xs)) (first_of_rest ys i y y (slice_get_within ys i y at) (sym (get_or_from_slice_get ys i y y at)))

  pub zip_ended : (i : ℕ) → length xs ≤ i → length ys ≤ i → all_zip test (drop i xs) (drop i ys) ≡ true
  zip_ended i no_xs no_ys = ap (λ l. all_zip test l (drop i ys)) (drop_all i xs no_xs) ∙ ap (all_zip test []) (drop_all i ys no_ys)

zip_lengths : {X Y : Type 0} (test : X → Y → Bool) (xs : List X) (ys : List Y) → all_zip test xs ys ≡ true → length xs ≡ length ys
zip_lengths test [] [] passes = refl
zip_lengths test [] (y ∷ ys) passes = absurd (false≢true passes)
zip_lengths test (x ∷ xs) [] passes = absurd (false≢true passes)
zip_lengths test (x ∷ xs) (y ∷ ys) passes = ap suc (zip_lengths test xs ys (and_parts (test x y) (all_zip test xs ys) passes).1)

-- lists of different lengths don't pass
pub zip_uneven : {X Y : Type 0} (test : X → Y → Bool) (xs : List X) (ys : List Y) → (length xs ≡ length ys → ⊥) → false ≡ all_zip test xs ys
zip_uneven test xs ys uneven = sym (false_from_ne_true (all_zip test xs ys) (λ passes. uneven (zip_lengths test xs ys passes)))
