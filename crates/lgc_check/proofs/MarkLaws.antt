-- The lines with marks are those that rest on a pending one.
use Rattle.std.proofs.Common.{◌≡◌, ℕ, zero, suc, ◌+◌, ◌<◌, ◌≤◌, ⊎_elim, Bool, true, false, ◌||◌, List, [], ◌∷◌, ◌++◌, ◌⊎◌, length, map, refl, sym, ap, subst, ◌∙◌, arith}
use mathlib.Core.Logic.{inl, inr}
use Rattle.std.specs.Prelude.{slice_get, Option, Some, None}
use Rattle.std.specs.Bool.{Decides}
use Rattle.std.specs.List.{Any, list_any}
use Rattle.std.proofs.Math.Bool.{or-false}
use Rattle.std.proofs.lemmas.Bool.{cases_lt, false≢true}
use Rattle.std.proofs.lemmas.Bool.Decides.{Decides-at}
use Rattle.std.proofs.lemmas.List.Folds.{Any-from_list_any, list_any-from_Any}
use Rattle.std.proofs.lemmas.Option.{slice_get_within}
use Rattle.lgc_sequents.specs.Lines.{PlainLine, at_position}
use Rattle.lgc_sequents.specs.Rests.{cited_by, RestsOn, on_itself, on_cited, IsPendingBased}
use Rattle.lgc_sequents.specs.declared.line.Cited.{Cited}
use Rattle.lgc_sequents.specs.declared.line.Reason.{Reason}
use Rattle.lgc_sequents.specs.declared.line.Reason.TheVariants.{Axiom, Pending, ByRule, Resolve}
use Rattle.lgc_sequents.proofs.StepLaws.{at_position-append, at_position_within}
use Rattle.lgc_check.specs.Marks.{mark_of, is_marked, gets_mark, AreMarks}
use Rattle.lgc_check.proofs.Faults.{stands_next}

-- ---- marks of cited lines

list_any-of_map : {X Y : Type 0} (p : Y → Bool) (f : X → Y) (xs : List X) → list_any p (map f xs) ≡ list_any (λ x. p (f x)) xs
list_any-of_map p f [] = refl
list_any-of_map p f (x ∷ xs) = ap (λ b. p (f x) || b) (list_any-of_map p f xs)

module _ (marks : List Bool) where
  abbrev SomeMarked : List ℕ → Type 0
  SomeMarked positions = Any (λ position. is_marked marks position ≡ true) positions

  either_marked : (left right : ℕ) → list_any (is_marked marks) (left ∷ right ∷ []) ≡ (is_marked marks left || is_marked marks right)
  either_marked left right = ap (λ b. is_marked marks left || b) (or-false (is_marked marks right))

  -- a line gets a mark where it is pending, or cites a marked line
  marked_by : (reason : Reason) → gets_mark marks reason ≡ true → (reason ≡ Pending) ⊎ SomeMarked (cited_by reason)
  marked_by Axiom is = absurd (false≢true is)
  marked_by Pending is = inl refl
  marked_by (ByRule rule principal premises) is = inr (Any-from_list_any (is_marked marks) (map (λ (c : Cited). c.line) premises) (list_any-of_map (is_marked marks) (λ (c : Cited). c.line) premises ∙ is))
  marked_by (Resolve f left right) is = inr (Any-from_list_any (is_marked marks) (left ∷ right ∷ []) (either_marked left right ∙ is))

  mark_from : (reason : Reason) → SomeMarked (cited_by reason) → gets_mark marks reason ≡ true
  mark_from Axiom some = absurd (omega (arith, some.2))
  mark_from Pending some = refl
  mark_from (ByRule rule principal premises) some = sym (list_any-of_map (is_marked marks) (λ (c : Cited). c.line) premises) ∙ list_any-from_Any (is_marked marks) (map (λ (c : Cited). c.line) premises) some
  mark_from (Resolve f left right) some = sym (either_marked left right) ∙ list_any-from_Any (is_marked marks) (left ∷ right ∷ []) some

  within_by : (k : ℕ) (found : Option Bool) → slice_get marks k ≡ found → mark_of found ≡ true → k < length marks
  within_by k None is marked = absurd (false≢true marked)
  within_by k (Some mark) is marked = slice_get_within marks k mark is

  -- there is no mark behind the last one
  marked_within : (position : ℕ) → is_marked marks position ≡ true → position ≤ length marks
  marked_within zero marked = omega arith
  marked_within (suc k) marked = let within = within_by k (slice_get marks k) refl marked in omega (arith, within)

-- ---- one line after another

slice_get-last : {X : Type 0} (xs : List X) (x : X) → slice_get (xs ++ x ∷ []) (length xs) ≡ Some x
slice_get-last [] x = refl
slice_get-last (y ∷ xs) x = slice_get-last xs x

-- the marks of the first n lines are right
abbrev pub AreMarksTo : List PlainLine → List Bool → ℕ → Type 0
AreMarksTo lines marks n = (position : ℕ) → position ≤ n → Decides (is_marked marks position) (IsPendingBased lines position)

pub no_marks : (lines : List PlainLine) → AreMarksTo lines [] 0
no_marks lines zero low = ((λ marked. absurd (false≢true marked)), (λ based. absurd (nowhere zero based.other based.line based.rests based.stands refl))) where
  nowhere : (position other : ℕ) (last : PlainLine) → RestsOn lines position other → at_position lines other ≡ Some last → position ≡ 0 → ⊥
  nowhere _ _ last (on_itself position) stands is = let here : at_position lines 0 ≡ Some last = ap (at_position lines) (sym is) ∙ stands in cc
  nowhere _ _ last (on_cited position earlier other found stands_here cites before rests) stands is = let here : at_position lines 0 ≡ Some found = ap (at_position lines) (sym is) ∙ stands_here in cc
no_marks lines (suc k) low = absurd (omega arith)

module _ (lines : List PlainLine) (marks : List Bool) (n : ℕ) (many : length marks ≡ n) (right : AreMarksTo lines marks n) (line : PlainLine) (is : slice_get lines n ≡ Some line) where
  here : at_position lines (n + 1) ≡ Some line
  here = stands_next lines n line is

  same_line : (position : ℕ) (other : PlainLine) → position ≡ n + 1 → at_position lines position ≡ Some other → line ≡ other
  same_line position other at stands = let both : Some line ≡ Some other = sym here ∙ sym (ap (at_position lines) at) ∙ stands in cc

  based : gets_mark marks line.reason ≡ true → IsPendingBased lines (n + 1)
  based gets = ⊎_elim
      (λ (pending : line.reason ≡ Pending). record { other = n + 1; line = line; rests = on_itself (n + 1); stands = here; pending = pending })
      (λ (some : SomeMarked marks (cited_by line.reason)).
      let earlier = some.1 in
      let low : earlier ≤ n = let within = marked_within marks earlier some.4 in omega (arith, within, many) in
      let below = (right earlier low).0 some.4 in
      record { other = below.other; line = below.line; rests = on_cited (n + 1) earlier below.other line here (some.0, some.2, some.3) (omega (arith, low)) below.rests; stands = below.stands; pending = below.pending })
      (marked_by marks line.reason gets)

  marked : (position other : ℕ) (last : PlainLine) → RestsOn lines position other → at_position lines other ≡ Some last → last.reason ≡ Pending → position ≡ n + 1 → gets_mark marks line.reason ≡ true
  marked _ _ last (on_itself position) stands pending at =
      let same = same_line position last at stands in
      ap (λ (l : PlainLine). gets_mark marks l.reason) same ∙ ap (gets_mark marks) pending
  marked _ _ last (on_cited position earlier other found stands_here cites before rests) stands pending at =
      let same = same_line position found at stands_here in
      let low : earlier ≤ n = omega (arith, before, at) in
      let mark = (right earlier low).1 (record { other = other; line = last; rests = rests; stands = stands; pending = pending }) in
      mark_from marks line.reason (subst (λ (l : PlainLine). SomeMarked marks (cited_by l.reason)) (sym same) (cites.0, earlier, cites.1, cites.2, mark))

  pub one_more_mark : (mark : Bool) (wider : List Bool) → mark ≡ gets_mark marks line.reason → wider ≡ marks ++ mark ∷ [] → AreMarksTo lines wider (n + 1)
  one_more_mark mark wider gets grown position low = subst (λ all. Decides (is_marked all position) (IsPendingBased lines position)) (sym grown) (⊎_elim
      (λ (before : position < n + 1).
      let kept : is_marked (marks ++ mark ∷ []) position ≡ is_marked marks position = ap mark_of (at_position-append marks (mark ∷ []) position (omega (arith, before, many))) in
      Decides-at (is_marked (marks ++ mark ∷ []) position) (is_marked marks position) kept (right position (omega (arith, before))))
      (λ (last : n + 1 ≤ position).
      let at : position ≡ n + 1 = omega (arith, low, last) in
      let read : slice_get (marks ++ mark ∷ []) n ≡ Some mark = ap (slice_get (marks ++ mark ∷ [])) (sym many) ∙ slice_get-last marks mark in
      let new : is_marked (marks ++ mark ∷ []) position ≡ mark = ap (is_marked (marks ++ mark ∷ [])) at ∙ ap mark_of (stands_next (marks ++ mark ∷ []) n mark read) in (
        (λ yes. subst (IsPendingBased lines) (sym at) (based (sym gets ∙ sym new ∙ yes))),
        (λ rests. new ∙ gets ∙ marked position rests.other rests.line rests.rests rests.stands rests.pending at),
      ))
      (cases_lt position (n + 1)))

-- a line stands at a position that rests on a pending one
based_within : (lines : List PlainLine) (position other : ℕ) (last : PlainLine) → RestsOn lines position other → at_position lines other ≡ Some last → position ≤ length lines
based_within lines _ _ last (on_itself position) stands = (at_position_within lines position last stands).1
based_within lines _ _ last (on_cited position earlier other found stands_here cites before rests) stands = (at_position_within lines position found stands_here).1

pub all_marked : (lines : List PlainLine) (marks : List Bool) (n : ℕ) → length marks ≡ n → length lines ≤ n → AreMarksTo lines marks n → AreMarks lines marks
all_marked lines marks n many whole right position = (
  (λ marked. let within = marked_within marks position marked in (right position (omega (arith, within, many))).0 marked),
  (λ rests. let within = based_within lines position rests.other rests.line rests.rests rests.stands in (right position (omega (arith, within, whole))).1 rests),
)
