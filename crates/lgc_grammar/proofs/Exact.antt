-- What reading has to answer is one answer: the grammar alone says which. So a function that answers as `Answers` asks
-- is the reader's, whatever way it goes.
use Rattle.std.proofs.lemmas.List.{append_cancel_right}
use Rattle.std.proofs.Common.{◌≡◌, ℕ, Bool, List, [], ◌∷◌, ◌++◌, Result, Ok, Err, refl, sym, ap, subst, ◌∙◌, append_assoc, append-nil, inl, inr, ◌⊎◌}
use Rattle.lgc_grammar.specs.Grammar.{Grammar, Language, Why, Unexpected, Breaks, IsFront, StopsAt, Answers}
use Rattle.lgc_grammar.specs.Reading.{Reader, whole}
use Rattle.lgc_grammar.proofs.Readers.{Reads, Start, whole_complete, whole_broken, whole_answers}

-- of two fronts of the same tokens one goes further by a token at least, or both are the same
pub order_of : {T : Type 0} (f g r s : List T) → f ++ r ≡ g ++ s → ((t : T) × (m : List T) × (g ≡ f ++ t ∷ m) × (r ≡ t ∷ m ++ s)) ⊎ (((t : T) × (m : List T) × (f ≡ g ++ t ∷ m) × (s ≡ t ∷ m ++ r)) ⊎ (r ≡ s))
order_of [] [] r s e = inr (inr e)
order_of [] (t ∷ g) r s e = inl (t, g, refl, e)
order_of (t ∷ f) [] r s e = inr (inl (t, f, refl, sym e))
order_of {T} (t ∷ f) (u ∷ g) r s e = by (order_of f g r s cc)
  where
    same : t ≡ u
    same = cc

    by : ((v : T) × (m : List T) × (g ≡ f ++ v ∷ m) × (r ≡ v ∷ m ++ s)) ⊎ (((v : T) × (m : List T) × (f ≡ g ++ v ∷ m) × (s ≡ v ∷ m ++ r)) ⊎ (r ≡ s)) → ((v : T) × (m : List T) × ((u ∷ g) ≡ (t ∷ f) ++ v ∷ m) × (r ≡ v ∷ m ++ s)) ⊎ (((v : T) × (m : List T) × ((t ∷ f) ≡ (u ∷ g) ++ v ∷ m) × (s ≡ v ∷ m ++ r)) ⊎ (r ≡ s))
    by (inl (v, m, h, k)) = inl (v, m, rw (same, h) refl, k)
    by (inr (inl (v, m, h, k))) = inr (inl (v, m, rw (same, h) refl, k))
    by (inr (inr h)) = inr (inr h)

module _ {T A : Type 0} (L : Grammar T A) {P : Language T} where
  -- no phrase begins with a front and the next token, so no front goes further
  no_further : (ts r s front : List T) (x : StopsAt L P ts r Unexpected) → IsFront P front → (t : T) (m : List T) → front ≡ x.front ++ t ∷ m → r ≡ t ∷ m ++ s → ⊥
  no_further ts r s front x (more, h) t m goes next =
      let way : P ((x.front ++ t ∷ []) ++ (m ++ more)) = subst P (ap (λ (f : List T). f ++ more) goes ∙ simp append_assoc) h in
      by r next x (m ++ more, way)
    where
      by : (r : List T) → r ≡ t ∷ m ++ s → (x : StopsAt L P ts r Unexpected) → ((more : List T) × P ((x.front ++ t ∷ []) ++ more)) → ⊥
      by [] e x way = cc
      by (u ∷ rest) e x way = let same : t ≡ u = cc in x.reason.1 (way.0, subst (λ (v : T). P ((x.front ++ v ∷ []) ++ way.0)) same way.1)

  -- a token is unexpected at one place
  pub stops_once : (ts r s : List T) → StopsAt L P ts r Unexpected → StopsAt L P ts s Unexpected → r ≡ s
  stops_once ts r s x y = by (order_of x.front y.front r s (sym x.split ∙ y.split))
    where
      by : ((t : T) × (m : List T) × (y.front ≡ x.front ++ t ∷ m) × (r ≡ t ∷ m ++ s)) ⊎ (((t : T) × (m : List T) × (x.front ≡ y.front ++ t ∷ m) × (s ≡ t ∷ m ++ r)) ⊎ (r ≡ s)) → r ≡ s
      by (inl (t, m, h, k)) = absurd (no_further ts r s y.front x y.reason.0 t m h k)
      by (inr (inl (t, m, h, k))) = absurd (no_further ts s r x.front y x.reason.0 t m h k)
      by (inr (inr h)) = h

  -- and not in a phrase
  pub stops_in_none : (ts r : List T) → StopsAt L P ts r Unexpected → P ts → ⊥
  stops_in_none ts [] x h = x.reason.1 (subst P (x.split ∙ append-nil x.front) h)
  stops_in_none ts (t ∷ r) x h = x.reason.1 (r, subst P (x.split ∙ sym (append_assoc x.front (t ∷ []) r)) h)

  -- where a token is unexpected none breaks a rule: none before it does, and a phrase goes on with one that does
  stops_for_one : (ts r s : List T) (n : ℕ) → StopsAt L P ts r Unexpected → StopsAt L P ts s (Breaks n) → ⊥
  stops_for_one ts r [] n x y = y.reason.1
  stops_for_one ts r (t ∷ s) n x y = by (order_of x.front (y.front ++ t ∷ []) r s (sym x.split ∙ y.split ∙ sym (append_assoc y.front (t ∷ []) s)))
    where
      by : ((u : T) × (m : List T) × (y.front ++ t ∷ [] ≡ x.front ++ u ∷ m) × (r ≡ u ∷ m ++ s)) ⊎ (((u : T) × (m : List T) × (x.front ≡ (y.front ++ t ∷ []) ++ u ∷ m) × (s ≡ u ∷ m ++ r)) ⊎ (r ≡ s)) → ⊥
      by (inl (u, m, h, k)) = no_further ts r s (y.front ++ t ∷ []) x y.reason.0 u m h k
      by (inr (inl (u, m, h, k))) = x.reason.2 n (y.front ++ t ∷ []) (u ∷ m) h y.reason.1
      by (inr (inr h)) =
          let both : x.front ++ s ≡ (y.front ++ t ∷ []) ++ s = ap (λ (u : List T). x.front ++ u) (sym h) ∙ sym x.split ∙ y.split ∙ sym (append_assoc y.front (t ∷ []) s) in
          x.reason.2 n (y.front ++ t ∷ []) [] (append_cancel_right x.front (y.front ++ t ∷ []) s both ∙ sym (append-nil (y.front ++ t ∷ []))) y.reason.1

-- the reader gives each right answer, so there is one
pub whole_exact : {T A : Type 0} {p : Reader T A} {L : Grammar T A} {P : Language T} {start : Start T} {go : T → Bool} → Reads p L P start go → (ts : List T) (answer : Result A (List T × Why)) → Answers L P ts answer → whole p ts ≡ answer
whole_exact reads ts (Ok a) h = whole_complete reads a ts h
whole_exact reads ts (Err ([], Breaks n)) h = absurd h.reason.1
whole_exact {T} {A} {p} reads ts (Err (t ∷ rest, Breaks n)) h = ap (whole p) h.split ∙ whole_broken reads n h.front t rest h.reason.1
whole_exact {T} {A} {p} {L} {P} reads ts (Err (rest, Unexpected)) h = by (whole p ts) (whole_answers reads ts)
  where
    by : (r : Result A (List T × Why)) → Answers L P ts r → r ≡ Err (rest, Unexpected)
    by (Ok a) g = absurd (stops_in_none L ts rest h (reads.is_plain a ts g))
    by (Err (other, Unexpected)) g = rw (stops_once L ts other rest g h) refl
    by (Err (other, Breaks n)) g = absurd (stops_for_one L ts rest other n h g)
