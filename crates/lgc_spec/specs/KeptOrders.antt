-- The orders that the reader keeps, and the orderings that they are.
use Rattle.std.specs.Prelude.{◌≡◌, ℕ, List}
use Rattle.std.specs.List.{AllZip}
use Rattle.lgc_orders.specs.Order.{IsOfLinks}
use Rattle.lgc_spec.specs.declared.orderings.NamedOrder.{NamedOrder}
use Rattle.lgc_spec.specs.Words.{text_of}
use Rattle.lgc_spec.specs.Orderings.{Ordered}

-- the order has the name of the ordering, and is that of its links between n values
pub record IsKept (bytes : List ℕ) (n : ℕ) (kept : NamedOrder) (ordered : Ordered) : Type 0 where
  pub named : text_of bytes kept.name ≡ ordered.name
  pub linked : IsOfLinks n ordered.links kept.order

-- the orders are those of the orderings, one by one
abbrev pub AreKept : List ℕ → ℕ → List NamedOrder → List Ordered → Type 0
AreKept bytes n kept orderings = AllZip (IsKept bytes n) kept orderings
