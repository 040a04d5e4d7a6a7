-- Where chains of links lead.
use Rattle.std.proofs.Common.{◌≡◌, ℕ, ◌⊎◌, inl, inr, List, [], ◌∷◌, ◌++◌, ap, subst, sym, arith}
use Rattle.std.specs.List.{Contains}
use Rattle.std.proofs.lemmas.List.Elements.{Contains-append_left, Contains-push, Contains-push_cases}
use Rattle.lgc_orders.specs.Order.{Leads, here, along}

-- without links a value leads to itself alone
pub same_from_none : {a b : ℕ} → Leads [] a b → a ≡ b
same_from_none {a} here = λ i. a
same_from_none (along at rest) = absurd (omega (arith, at.1))

-- two chains make one
pub Leads-joined : {links : List (ℕ × ℕ)} {a b c : ℕ} → Leads links a b → Leads links b c → Leads links a c
Leads-joined here next = next
Leads-joined (along at rest) next = along at (Leads-joined rest next)

-- a further link takes no chain away
pub Leads-more : {links : List (ℕ × ℕ)} {a b : ℕ} (added : ℕ × ℕ) → Leads links a b → Leads (links ++ added ∷ []) a b
Leads-more added here = here
Leads-more {links} added (along at rest) = along (Contains-append_left links (added ∷ []) _ at) (Leads-more added rest)

-- a chain to the lower end of a further link goes on from its upper end
pub Leads-over : (links : List (ℕ × ℕ)) (low high : ℕ) {a b : ℕ} → Leads links a low → Leads links high b → Leads (links ++ (low, high) ∷ []) a b
Leads-over links low high to from =
    Leads-joined (Leads-more (low, high) to) (along (Contains-push links (low, high)) (Leads-more (low, high) from))

module _ (links : List (ℕ × ℕ)) (low high : ℕ) where
  -- a chain that avoids the further link, or leads over it
  abbrev Split : ℕ → ℕ → Type 0
  Split a b = Leads links a b ⊎ (Leads links a low × Leads links high b)

  -- an old link before such a chain
  old_first : {a x b : ℕ} → Contains links (a, x) → Split x b → Split a b
  old_first at (inl rest) = inl (along at rest)
  old_first at (inr rest) = inr (along at rest.0, rest.1)

  -- the further link before such a chain
  added_first : {b : ℕ} → Split high b → Split low b
  added_first (inl rest) = inr (here, rest)
  added_first (inr rest) = inr (here, rest.1)

  first_link : {a x b : ℕ} → Contains links (a, x) ⊎ (◌≡◌ {A = ℕ × ℕ} (low, high) (a, x)) → Split x b → Split a b
  first_link (inl old) rest = old_first old rest
  first_link {a} {x} {b} (inr same) rest =
      subst (λ v. Split v b) (ap (λ p. p.0) same) (added_first (subst (λ v. Split v b) (sym (ap (λ p. p.1) same)) rest))

  -- a chain either avoids the further link or leads over it
  pub Leads-split : {a b : ℕ} → Leads (links ++ (low, high) ∷ []) a b → Leads links a b ⊎ (Leads links a low × Leads links high b)
  Leads-split here = inl here
  Leads-split (along at rest) = first_link (Contains-push_cases links (low, high) _ at) (Leads-split rest)

  -- a link between values that a chain joins already adds nothing
  pub Leads-known : {a b : ℕ} → Leads links low high → Leads (links ++ (low, high) ∷ []) a b → Leads links a b
  Leads-known {a} {b} known chain = kept (Leads-split chain) where
    kept : Split a b → Leads links a b
    kept (inl old) = old
    kept (inr over) = Leads-joined over.0 (Leads-joined known over.1)
