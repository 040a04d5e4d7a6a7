-- Links give one order or one first cycle, and an order gives one table of bounds or one first row without a bound.
use Rattle.std.proofs.Common.{◌≡◌, ℕ, ◌+◌, ◌-◌, ◌^◌, ◌*◌, ◌/◌, ◌%◌, ◌<◌, inl, inr, Bool, true, false, List, length, get_or, Ok, Err, sym, ◌∙◌, arith}
use Rattle.std.proofs.lemmas.List.{same_lists}
use Rattle.std.proofs.lemmas.Grind.{get_or_default_zero}
use Rattle.lgc_orders.specs.Order.{Leads, IsAntisymmetric, IsFirstCycle}
use Rattle.lgc_spec.specs.declared.fault.SpecFault.{SpecFault}
use Rattle.lgc_spec.specs.Orderings.{Orders}
use Rattle.lgc_values.specs.Values.{members_of}
use Rattle.lgc_spec.specs.Bounds.{IsBound, IsSetBound, BoundsGive, SetBoundsGive}
use Rattle.lgc_spec.proofs.OneAnswer.{OneAnswer}
use Rattle.lgc_spec.proofs.OneInTurn.{by_order}

module _ (n : ℕ) (le : ℕ → ℕ → Type 0) where
  -- an order has no cycle
  order_or_cycle : (a b : ℕ) → IsAntisymmetric n le → IsFirstCycle n le a b → ⊥
  order_or_cycle a b order first =
      let cycle = first.cycle in
      let same : a ≡ b = order a b (omega (arith, cycle.apart, cycle.within)) cycle.within cycle.up cycle.down in
      omega (arith, same, cycle.apart)

  -- and links have one first cycle at most
  first_cycle_once : (a b c d : ℕ) → IsFirstCycle n le a b → IsFirstCycle n le c d → (a ≡ c) × (b ≡ d)
  first_cycle_once a b c d one other = by_order a c
      (λ same. by_order b d
      (λ also. (same, also))
      (λ below. absurd (other.first a b (inr (same, below)) one.cycle))
      (λ above. absurd (one.first c d (inr (sym same, above)) other.cycle)))
      (λ below. absurd (other.first a b (inl below) one.cycle))
      (λ above. absurd (one.first c d (inl above) other.cycle))

  -- two values of an order have one bound at most
  bound_once : (lower : Bool) (a b c d : ℕ) → IsAntisymmetric n le → IsBound lower n le a b c → IsBound lower n le a b d → c ≡ d
  bound_once true a b c d order one other = order c d one.within other.within (other.greatest c one.within one.bound) (one.greatest d other.within other.bound)
  bound_once false a b c d order one other = order c d one.within other.within (one.least d other.within other.bound) (other.least c one.within one.bound)

  -- and so does a set
  set_bound_once : (lower : Bool) (set : List ℕ) (c d : ℕ) → IsAntisymmetric n le → IsSetBound lower n le set c → IsSetBound lower n le set d → c ≡ d
  set_bound_once true set c d order one other = order c d one.within other.within (other.greatest c one.within one.bound) (one.greatest d other.within other.bound)
  set_bound_once false set c d order one other = order c d one.within other.within (one.least d other.within other.bound) (other.least c one.within one.bound)

pub orders_once : (names : List (List ℕ)) (name : List ℕ) (at : ℕ) (links : List (ℕ × ℕ)) → OneAnswer (Orders names name at links)
orders_once names name at links (Ok a) (Ok b) h g = let same : a ≡ b = h.0 ∙ sym g.0 in cc
orders_once names name at links (Ok a) (Err e) h (c, d, first, is) = absurd (order_or_cycle (length names) (Leads links) c d h.1 first)
orders_once names name at links (Err f) (Ok b) (c, d, first, is) g = absurd (order_or_cycle (length names) (Leads links) c d g.1 first)
orders_once names name at links (Err f) (Err e) (a, b, one, f_is) (c, d, other, e_is) =
    let pair = first_cycle_once (length names) (Leads links) a b c d one other in
    let same : f ≡ e = f_is ∙ rw (pair.0, pair.1) (sym e_is) in
    cc

module _ (lower : Bool) (names : List (List ℕ)) (at : ℕ) (le : ℕ → ℕ → Type 0) (order : IsAntisymmetric (length names) le) where
  table_once : (table other : List ℕ) → BoundsGive lower names at le (Ok table) → BoundsGive lower names at le (Ok other) → table ≡ other
  table_once table other h g = same_lists table other (h.0 ∙ sym g.0) (λ k d lt.
      let within : k < length names * length names = rw h.0 at lt in
      let there : k < length other = rw (h.0 ∙ sym g.0) at lt in
      rw (get_or_default_zero table k d lt, get_or_default_zero other k d there)
      (bound_once (length names) le lower (k / length names) (k % length names) (get_or table k 0) (get_or other k 0) order (h.1 k within) (g.1 k within)))

  table_or_fault : (table : List ℕ) (fault : SpecFault) → BoundsGive lower names at le (Ok table) → BoundsGive lower names at le (Err fault) → ⊥
  table_or_fault table fault h (row, within, none, before, is) = none (get_or table row 0, h.1 row within)

  fault_once : (f e : SpecFault) → BoundsGive lower names at le (Err f) → BoundsGive lower names at le (Err e) → f ≡ e
  fault_once f e (row, within, none, before, f_is) (other, within', none', before', e_is) = by_order row other
      (λ same. f_is ∙ rw same (sym e_is))
      (λ below. absurd (none (before' row below)))
      (λ above. absurd (none' (before other above)))

  pub bounds_once : OneAnswer (BoundsGive lower names at le)
  bounds_once (Ok table) (Ok other) h g = let same = table_once table other h g in cc
  bounds_once (Ok table) (Err e) h g = absurd (table_or_fault table e h g)
  bounds_once (Err f) (Ok other) h g = absurd (table_or_fault other f g h)
  bounds_once (Err f) (Err e) h g = let same = fault_once f e h g in cc

  set_table_once : (table other : List ℕ) → SetBoundsGive lower names at le (Ok table) → SetBoundsGive lower names at le (Ok other) → table ≡ other
  set_table_once table other h g = same_lists table other (h.1 ∙ sym g.1) (λ k d lt.
      let within : k < 2 ^ length names - 1 = rw h.1 at lt in
      let there : k < length other = rw (h.1 ∙ sym g.1) at lt in
      rw (get_or_default_zero table k d lt, get_or_default_zero other k d there)
      (set_bound_once (length names) le lower (members_of (length names) (k + 1)) (get_or table k 0) (get_or other k 0) order (h.2 k within) (g.2 k within)))

  set_table_or_fault : (table : List ℕ) (fault : SpecFault) → SetBoundsGive lower names at le (Ok table) → SetBoundsGive lower names at le (Err fault) → ⊥
  set_table_or_fault table fault h (row, within, none, before, is) = none (h.0 row within)

  pub set_bounds_once : OneAnswer (SetBoundsGive lower names at le)
  set_bounds_once (Ok table) (Ok other) h g = let same = set_table_once table other h g in cc
  set_bounds_once (Ok table) (Err e) h g = absurd (set_table_or_fault table e h g)
  set_bounds_once (Err f) (Ok other) h g = absurd (set_table_or_fault other f g h)
  set_bounds_once (Err f) (Err e) h g = let same = fault_once f e h g in cc
