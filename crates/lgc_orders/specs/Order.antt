-- Links between values, the order that they make, and its bounds. The values are the numbers below n.
use Rattle.std.specs.Prelude.{◌≡◌, ℕ, ◌+◌, ◌*◌, ◌<◌, ◌⊎◌, ◌↔◌, Bool, false, List, All, Contains, IsTrue, slice_index_or, length}
use Rattle.lgc_orders.specs.declared.order.OrderFault.{OrderFault}
use Rattle.lgc_orders.specs.declared.order.OrderFault.TheVariants.{Cycle, Memory}

-- links lead from a to b, maybe none where they are the same
pub data Leads (links : List (ℕ × ℕ)) : ℕ → ℕ → Type 0 where
  here : {a : ℕ} → Leads links a a
  along : {a b c : ℕ} → Contains links (a, b) → Leads links b c → Leads links a c

-- both ends of each link are values
abbrev pub LinksValues : ℕ → List (ℕ × ℕ) → Type 0
LinksValues n links = All (λ link. (link.0 < n) × (link.1 < n)) links

-- two values a < b are each below the other
pub record IsCycle (n : ℕ) (le : ℕ → ℕ → Type 0) (a b : ℕ) : Type 0 where
  pub apart : a < b
  pub within : b < n
  pub up : le a b
  pub down : le b a

-- the pair (x, y) comes before the pair (a, b)
abbrev pub IsEarlier : ℕ → ℕ → ℕ → ℕ → Type 0
IsEarlier x y a b = (x < a) ⊎ ((x ≡ a) × (y < b))

-- the cycle (a, b) comes before every other one
pub record IsFirstCycle (n : ℕ) (le : ℕ → ℕ → Type 0) (a b : ℕ) : Type 0 where
  pub cycle : IsCycle n le a b
  pub first : (x y : ℕ) → IsEarlier x y a b → IsCycle n le x y → ⊥

-- only a value itself is both below and above it
abbrev pub IsAntisymmetric : ℕ → (ℕ → ℕ → Type 0) → Type 0
IsAntisymmetric n le = (a b : ℕ) → a < n → b < n → le a b → le b a → a ≡ b

-- a cycle of links is reported by its first pair
abbrev pub IsFaultOf : ℕ → List (ℕ × ℕ) → OrderFault → Type 0
IsFaultOf n links (Cycle a b) = IsFirstCycle n (Leads links) a b
IsFaultOf n links Memory = Unit {0}

-- c is below both a and b
abbrev pub IsLowerBound : (ℕ → ℕ → Type 0) → ℕ → ℕ → ℕ → Type 0
IsLowerBound le a b c = le c a × le c b

-- c is above both a and b
abbrev pub IsUpperBound : (ℕ → ℕ → Type 0) → ℕ → ℕ → ℕ → Type 0
IsUpperBound le a b c = le a c × le b c

-- c is the greatest lower bound of a and b
pub record IsInf (n : ℕ) (le : ℕ → ℕ → Type 0) (a b c : ℕ) : Type 0 where
  pub within : c < n
  pub bound : IsLowerBound le a b c
  pub greatest : (d : ℕ) → d < n → IsLowerBound le a b d → le d c

-- c is the least upper bound of a and b
pub record IsSup (n : ℕ) (le : ℕ → ℕ → Type 0) (a b c : ℕ) : Type 0 where
  pub within : c < n
  pub bound : IsUpperBound le a b c
  pub least : (d : ℕ) → d < n → IsUpperBound le a b d → le c d

-- a relation between the values below its size, as a table: for each value a row, whether it is below or equal to each
pub record Relation : Type 0 where
  pub size : ℕ
  pub table : List Bool

-- the cell in row a and column b of a table of n columns, whose rows stand one after another
abbrev pub cell : List Bool → ℕ → ℕ → ℕ → Bool
cell table n a b = slice_index_or table (a * n + b) false

-- a is below or equal to b
abbrev pub Below : Relation → ℕ → ℕ → Type 0
Below relation a b = IsTrue (cell relation.table relation.size a b)

-- the relation is a partial order of its values
pub record IsOrder (relation : Relation) : Type 0 where
  pub whole : length relation.table ≡ relation.size * relation.size
  pub reflexive : (a : ℕ) → a < relation.size → Below relation a a
  pub antisymmetric : IsAntisymmetric relation.size (Below relation)
  pub transitive : (a b c : ℕ) → a < relation.size → b < relation.size → c < relation.size → Below relation a b → Below relation b c → Below relation a c

-- the relation holds of two of n values exactly where they are equal or a chain of links leads from the one to the other
pub record IsOfLinks (n : ℕ) (links : List (ℕ × ℕ)) (relation : Relation) : Type 0 where
  pub size_is : relation.size ≡ n
  pub leads : (a b : ℕ) → a < n → b < n → Below relation a b ↔ Leads links a b

-- the table has n rows of n cells, and tells where chains of links lead
pub record TellsLinks (n : ℕ) (links : List (ℕ × ℕ)) (table : List Bool) : Type 0 where
  pub whole : length table ≡ n * n
  pub leads : (a b : ℕ) → a < n → b < n → IsTrue (cell table n a b) ↔ Leads links a b
