-- Relations that agree have the same bounds.
use Rattle.std.proofs.Common.{ℕ, ◌<◌, ◌↔◌, List, Option, Some, None, MatchOption, subst, sym}
use Rattle.lgc_orders.specs.Order.{Leads, IsInf, IsSup, Relation, Below, IsOfLinks}

-- two relations agree on the values below n
abbrev pub Agree : ℕ → (ℕ → ℕ → Type 0) → (ℕ → ℕ → Type 0) → Type 0
Agree n le le' = (a b : ℕ) → a < n → b < n → le a b ↔ le' a b

pub Agree-turned : (n : ℕ) (le le' : ℕ → ℕ → Type 0) → Agree n le le' → Agree n le' le
Agree-turned n le le' same = λ a b la lb. ((same a b la lb).1, (same a b la lb).0)

module _ (n : ℕ) (le le' : ℕ → ℕ → Type 0) (same : Agree n le le') where
  pub IsInf-alike : (a b c : ℕ) → a < n → b < n → IsInf n le a b c → IsInf n le' a b c
  IsInf-alike a b c la lb inf = record {
    within = inf.within;
    bound = ((same c a inf.within la).0 inf.bound.0, (same c b inf.within lb).0 inf.bound.1);
    greatest = λ d ld bound. (same d c ld inf.within).0 (inf.greatest d ld ((same d a ld la).1 bound.0, (same d b ld lb).1 bound.1));
  }

  pub IsSup-alike : (a b c : ℕ) → a < n → b < n → IsSup n le a b c → IsSup n le' a b c
  IsSup-alike a b c la lb sup = record {
    within = sup.within;
    bound = ((same a c la sup.within).0 sup.bound.0, (same b c lb sup.within).0 sup.bound.1);
    least = λ d ld bound. (same c d sup.within ld).0 (sup.least d ld ((same a d la ld).1 bound.0, (same b d lb ld).1 bound.1));
  }

module _ (n : ℕ) (links : List (ℕ × ℕ)) (relation : Relation) (tells : IsOfLinks n links relation) (a b : ℕ) (la : a < n) (lb : b < n) where
  -- the greatest lower bound in an order of links is that of the links
  pub inf_of_links : (found : Option ℕ) → MatchOption found ((c : ℕ) → IsInf relation.size (Below relation) a b c → ⊥) (IsInf relation.size (Below relation) a b)
      → MatchOption found ((c : ℕ) → IsInf n (Leads links) a b c → ⊥) (IsInf n (Leads links) a b)
  inf_of_links None none = λ c inf. none c (subst (λ m. IsInf m (Below relation) a b c) (sym tells.size_is) (IsInf-alike n (Leads links) (Below relation) (Agree-turned n (Below relation) (Leads links) tells.leads) a b c la lb inf))
  inf_of_links (Some c) inf = IsInf-alike n (Below relation) (Leads links) tells.leads a b c la lb (subst (λ m. IsInf m (Below relation) a b c) tells.size_is inf)

  -- and so is the least upper bound
  pub sup_of_links : (found : Option ℕ) → MatchOption found ((c : ℕ) → IsSup relation.size (Below relation) a b c → ⊥) (IsSup relation.size (Below relation) a b)
      → MatchOption found ((c : ℕ) → IsSup n (Leads links) a b c → ⊥) (IsSup n (Leads links) a b)
  sup_of_links None none = λ c sup. none c (subst (λ m. IsSup m (Below relation) a b c) (sym tells.size_is) (IsSup-alike n (Leads links) (Below relation) (Agree-turned n (Below relation) (Leads links) tells.leads) a b c la lb sup))
  sup_of_links (Some c) sup = IsSup-alike n (Below relation) (Leads links) tells.leads a b c la lb (subst (λ m. IsSup m (Below relation) a b c) tells.size_is sup)
