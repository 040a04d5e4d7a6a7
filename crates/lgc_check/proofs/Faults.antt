-- The first item of which something is found.
use Rattle.std.proofs.Common.{◌≡◌, ℕ, zero, suc, ◌+◌, ◌<◌, ◌≤◌, ⊎_elim, List, length, map, get_or, refl, sym, ap, subst, ◌∙◌, add-one, arith}
use mathlib.Core.Logic.{inl, inr}
use Rattle.std.specs.Prelude.{slice_get, Option, Some, None, option_map}
use Rattle.std.proofs.lemmas.Bool.{cases_lt}
use Rattle.std.proofs.lemmas.Option.{slice_get-map, slice_get_read}
use Rattle.lgc_sequents.specs.Lines.{at_position}
use Rattle.lgc_sequents.proofs.StepLaws.{at_position_within}
use Rattle.lgc_steps.specs.Findings.{Finding, found_first}
use Rattle.lgc_steps.proofs.Findings.{IsApart}
use Rattle.lgc_check.specs.declared.verdict.Cause.{Cause}
use Rattle.lgc_check.specs.Verdicts.{AreRightBefore, AreRight, IsFirstFault}

-- ---- what is found by one account, and else by another

pub first_found : {S T : Type 0} (F : Finding S) (told : S → T) (others : Finding T) (mark : S) → F (Some mark) → found_first F told others (Some (told mark))
first_found F told others mark is = inl (mark, is, refl)

pub next_found : {S T : Type 0} (F : Finding S) (told : S → T) (others : Finding T) (found : Option T) → F None → others found → found_first F told others found
next_found F told others None right later = (right, later)
next_found F told others (Some found) right later = inr (right, later)

-- nothing is found where something is
pub apart_first : {S T : Type 0} {F : Finding S} {told : S → T} {others : Finding T} → IsApart F → IsApart others → IsApart (found_first F told others)
apart_first first later = record { apart = λ found fault right. ⊎_elim (λ here. first.apart here.0 here.1 right.0) (λ behind. later.apart found behind.1 right.1) fault }

-- ---- positions

-- what stands at a place, counted from 0, stands at the position after it
pub stands_next : {X : Type 0} (xs : List X) (i : ℕ) (x : X) → slice_get xs i ≡ Some x → at_position xs (i + 1) ≡ Some x
stands_next xs i x is = ap (at_position xs) (add-one i) ∙ is

pub mapped_stands : {X Y : Type 0} (f : X → Y) (xs : List X) (i : ℕ) (x : X) → i < length xs → x ≡ get_or xs i x → slice_get (map f xs) i ≡ Some (f x)
mapped_stands f xs i x within is = slice_get-map f xs i ∙ ap (option_map f) (slice_get_read xs (length xs) i x refl within is)

-- ---- one item after another

module _ {X : Type 0} (found : ℕ → X → Finding Cause) (items : List X) where
  pub none_before : AreRightBefore found items 1
  none_before zero item first stands = cc
  none_before (suc k) item first stands = absurd (omega arith)

  pub one_more : (i : ℕ) (item : X) → slice_get items i ≡ Some item → found (i + 1) item None → AreRightBefore found items (i + 1) → AreRightBefore found items (i + 1 + 1)
  one_more i item is right before earlier other lt stands = ⊎_elim
      (λ (low : earlier < i + 1). before earlier other low stands)
      (λ (high : i + 1 ≤ earlier).
      let here : earlier ≡ i + 1 = omega (arith, lt, high) in
      let both : Some item ≡ Some other = sym (stands_next items i item is) ∙ sym (ap (at_position items) here) ∙ stands in
      let same : item ≡ other = cc in
      subst (λ k. found k other None) (sym here) (subst (λ x. found (i + 1) x None) same right))
      (cases_lt earlier (i + 1))

  pub all_right : (i : ℕ) → length items ≤ i → AreRightBefore found items (i + 1) → AreRight found items
  all_right i whole before position item stands =
      let within = at_position_within items position item stands in
      before position item (omega (arith, whole, within.1)) stands

  pub first_here : (i : ℕ) (item : X) (cause : Cause) → slice_get items i ≡ Some item → found (i + 1) item (Some cause) → AreRightBefore found items (i + 1) → IsFirstFault found items (i + 1) cause
  first_here i item cause is fault before = record { item = item; stands = stands_next items i item is; fault = fault; before = before }

  -- not both: something is found of an item, and nothing of any
  pub first_or_none : ((position : ℕ) (item : X) → IsApart (found position item)) → (position : ℕ) (cause : Cause) → IsFirstFault found items position cause → AreRight found items → ⊥
  first_or_none apart position cause first right = (apart position first.item).apart cause first.fault (right position first.item first.stands)
