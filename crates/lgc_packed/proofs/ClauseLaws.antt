-- Clauses at arguments, set by set, and what a sequent has besides one.
use Rattle.std.proofs.Common.{◌≡◌, ℕ, zero, suc, ◌+◌, ◌<◌, ◌≤◌, Bool, true, false, ◌==◌, ◌||◌, ◌&&◌, not, List, [], ◌∷◌, ◌++◌, length, get_or, slice_get, Some, take, drop, add-one, refl, sym, ◌∙◌, ap, arith}
use Rattle.std.specs.List.{zip}
use Rattle.std.proofs.lemmas.List.{drop_more, drop_all}
use Rattle.std.proofs.lemmas.Option.{slice_get_read}
use Rattle.std.proofs.lemmas.Bool.{eqb-true, eq-eqb, ne_eqb, lt-ltb, true≢false}
use Rattle.lgc_values.specs.Values.{has, values_where}
use Rattle.lgc_values.proofs.ValueLaws.{has-values_where}
use Rattle.lgc_packed.specs.Packed.{marks, marks_besides, added, added_all}
use Rattle.lgc_packed.proofs.Marks.{marks-added}

-- ---- the pairs from a place on
zip-empty : (xs : List ℕ) → zip {K = ℕ} {X = List ℕ} xs [] ≡ []
zip-empty [] = refl
zip-empty (x ∷ xs) = refl

module _ (arguments : List ℕ) (sets : List (List ℕ)) (i : ℕ) where
  zip-cons : (s : List ℕ) → i < length arguments → i < length sets → s ≡ get_or sets i s → zip (drop i arguments) (drop i sets) ≡ (get_or arguments i 0, s) ∷ zip (drop (i + 1) arguments) (drop (i + 1) sets)
  zip-cons s l m is = (λ j. zip (drop_more arguments i 0 l j) ((drop_more sets i s m ∙ ap (λ x. x ∷ drop (i + 1) sets) (sym is)) j))

  zip-none : (xs : List ℕ) (ys : List (List ℕ)) → ys ≡ [] → zip xs ys ≡ []
  zip-none xs ys e = ap (zip xs) e ∙ zip-empty xs

  zip-past : length sets ≤ i → zip (drop i arguments) (drop i sets) ≡ zip (drop (i + 1) arguments) (drop (i + 1) sets)
  zip-past l = zip-none (drop i arguments) (drop i sets) (drop_all i sets l) ∙ sym (zip-none (drop (i + 1) arguments) (drop (i + 1) sets) (drop_all (i + 1) sets (omega (arith, l))))

-- ---- adding a clause
module _ (n : ℕ) (arguments : List ℕ) (sets : List (List ℕ)) (i : ℕ) where
  pub clause_more : (s : List ℕ) (before after : List (ℕ × List ℕ)) → i < length arguments → i < length sets → s ≡ get_or sets i s → after ≡ added n (get_or arguments i 0) s before
      → added_all n (zip (drop i arguments) (drop i sets)) before ≡ added_all n (zip (drop (i + 1) arguments) (drop (i + 1) sets)) after
  clause_more s before after l m is e = ap (λ items. added_all n items before) (zip-cons arguments sets i s l m is) ∙ ap (added_all n (zip (drop (i + 1) arguments) (drop (i + 1) sets))) (sym e)

  pub clause_past : (before after : List (ℕ × List ℕ)) → length sets ≤ i → after ≡ before → added_all n (zip (drop i arguments) (drop i sets)) before ≡ added_all n (zip (drop (i + 1) arguments) (drop (i + 1) sets)) after
  clause_past before after l e = (λ j. added_all n (zip-past arguments sets i l j) (sym e j))

-- ---- the values that no set of a clause has
taken_away : (n : ℕ) (left s others after : List ℕ) (w : ℕ) → w < n → others ≡ values_where n (λ v. not (has s v)) → after ≡ values_where n (λ v. has left v && has others v) → has after w ≡ (has left w && not (has s w))
taken_away n left s others after w l e f =
    ap (λ ws. has ws w) f ∙ has-values_where n (λ v. has left v && has others v) w ∙ ap (λ b. b && (has left w && has others w)) (lt-ltb w n l)
    ∙ ap (λ b. has left w && b) (ap (λ ws. has ws w) e ∙ has-values_where n (λ v. not (has s v)) w ∙ ap (λ b. b && not (has s w)) (lt-ltb w n l))

module _ (n : ℕ) (arguments : List ℕ) (sets : List (List ℕ)) (i k : ℕ) where
  -- the set at the place stands on the formula
  pub besides_more : (s left others after : List ℕ) (w : ℕ) → w < n → i < length arguments → i < length sets → s ≡ get_or sets i s → get_or arguments i 0 ≡ k → others ≡ values_where n (λ v. not (has s v)) → after ≡ values_where n (λ v. has left v && has others v)
      → (has after w && not (marks (zip (drop (i + 1) arguments) (drop (i + 1) sets)) k w)) ≡ (has left w && not (marks (zip (drop i arguments) (drop i sets)) k w))
  besides_more s left others after w lt l m is same e f =
      ap (λ b. b && not (marks (zip (drop (i + 1) arguments) (drop (i + 1) sets)) k w)) (taken_away n left s others after w lt e f)
      ∙ both (has left w) (has s w) (marks (zip (drop (i + 1) arguments) (drop (i + 1) sets)) k w) (get_or arguments i 0 == k) (eq-eqb (get_or arguments i 0) k same)
      ∙ ap (λ items. has left w && not (marks items k w)) (sym (zip-cons arguments sets i s l m is))
    where
      both : (a b c t : Bool) → t ≡ true → ((a && not b) && not c) ≡ (a && not ((t && b) || c))
      both true true c true h = refl
      both true false c true h = refl
      both false b c true h = refl
      both a b c false h = absurd (true≢false (sym h))

  -- it stands on another one
  pub besides_other : (left after : List ℕ) (w : ℕ) → i < length arguments → i < length sets → (get_or arguments i 0 ≡ k → ⊥) → after ≡ left → (has after w && not (marks (zip (drop (i + 1) arguments) (drop (i + 1) sets)) k w)) ≡ (has left w && not (marks (zip (drop i arguments) (drop i sets)) k w))
  besides_other left after w l m other e =
      ap (λ s. has s w && not (marks (zip (drop (i + 1) arguments) (drop (i + 1) sets)) k w)) e
      ∙ ap (λ b. has left w && not b) (both (has (get_or sets i []) w) (marks (zip (drop (i + 1) arguments) (drop (i + 1) sets)) k w) (get_or arguments i 0 == k) (ne_eqb (get_or arguments i 0) k other))
      ∙ ap (λ items. has left w && not (marks items k w)) (sym (zip-cons arguments sets i (get_or sets i []) l m (itself sets i m)))
    where
      both : (b c t : Bool) → t ≡ false → c ≡ ((t && b) || c)
      both b c true h = absurd (true≢false h)
      both b c false h = refl

      itself : (xs : List (List ℕ)) (i : ℕ) → i < length xs → get_or xs i [] ≡ get_or xs i (get_or xs i [])
      itself [] i l = absurd (omega (arith, l))
      itself (x ∷ xs) zero l = refl
      itself (x ∷ xs) (suc i) l = itself xs i (omega (arith, l))

  pub besides_past : (left after : List ℕ) (w : ℕ) → length sets ≤ i → after ≡ left → (has after w && not (marks (zip (drop (i + 1) arguments) (drop (i + 1) sets)) k w)) ≡ (has left w && not (marks (zip (drop i arguments) (drop i sets)) k w))
  besides_past left after w l e = (λ j. has (e j) w && not (marks (sym (zip-past arguments sets i l) j) k w))

-- ---- what is kept
module _ {X : Type 0} where
  take_suc : (xs : List X) (i : ℕ) (d : X) → slice_get xs i ≡ Some d → take (suc i) xs ≡ take i xs ++ d ∷ []
  take_suc [] i d here = cc
  take_suc (x ∷ xs) zero d here = let same : x ≡ d = cc in ap (λ z. z ∷ []) same
  take_suc (x ∷ xs) (suc i) d here = ap (λ l. x ∷ l) (take_suc xs i d here)

  pub take_more : (xs : List X) (i : ℕ) (d : X) → slice_get xs i ≡ Some d → take (i + 1) xs ≡ take i xs ++ d ∷ []
  take_more xs i d here = rw add-one (take_suc xs i d here)

marks-push : (xs : List (ℕ × List ℕ)) (d : ℕ × List ℕ) (k w : ℕ) → marks (xs ++ d ∷ []) k w ≡ (marks xs k w || ((d.0 == k) && has d.1 w))
marks-push [] d k w = plain ((d.0 == k) && has d.1 w)
  where
    plain : (b : Bool) → (b || false) ≡ b
    plain true = refl
    plain false = refl
marks-push (x ∷ xs) d k w = ap (λ b. ((x.0 == k) && has x.1 w) || b) (marks-push xs d k w) ∙ turn ((x.0 == k) && has x.1 w) (marks xs k w) ((d.0 == k) && has d.1 w)
  where
    turn : (a b c : Bool) → (a || (b || c)) ≡ ((a || b) || c)
    turn true b c = refl
    turn false b c = refl

pub marks-take : (xs : List (ℕ × List ℕ)) (i : ℕ) (d : ℕ × List ℕ) (k w : ℕ) → i < length xs → d ≡ get_or xs i d → marks (take (i + 1) xs) k w ≡ (marks (take i xs) k w || ((d.0 == k) && has d.1 w))
marks-take xs i d k w l is = ap (λ ys. marks ys k w) (take_more xs i d (slice_get_read xs (length xs) i d refl l is)) ∙ marks-push (take i xs) d k w

-- one pair more
pub kept_more : (n : ℕ) (items xs old mid new : List (ℕ × List ℕ)) (i : ℕ) (d : ℕ × List ℕ) (left : List ℕ) (k w : ℕ) → w < n → i < length xs → d ≡ get_or xs i d → ((v : ℕ) → v < n → has left v ≡ (has d.1 v && not (marks items d.0 v)))
    → new ≡ added n d.0 left mid → marks mid k w ≡ (marks old k w || marks_besides (take i xs) items k w) → marks new k w ≡ (marks old k w || marks_besides (take (i + 1) xs) items k w)
kept_more n items xs old mid new i d left k w lt l is left_is made so_far =
    ap (λ ys. marks ys k w) made ∙ marks-added n d.0 left k w lt mid ∙ ap (λ b. b || ((d.0 == k) && has left w)) so_far
    ∙ by (d.0 == k) refl
    ∙ ap (λ b. marks old k w || (b && not (marks items k w))) (sym (marks-take xs i d k w l is))
  where
    here : (o t h m : Bool) → ((o || (t && not m)) || (h && not m)) ≡ (o || ((t || h) && not m))
    here true t h m = refl
    here false true true true = refl
    here false true true false = refl
    here false true false true = refl
    here false true false false = refl
    here false false h m = refl

    elsewhere : (o t m : Bool) → ((o || (t && not m)) || false) ≡ (o || ((t || false) && not m))
    elsewhere true t m = refl
    elsewhere false true true = refl
    elsewhere false true false = refl
    elsewhere false false m = refl

    by : (t : Bool) → (d.0 == k) ≡ t → ((marks old k w || marks_besides (take i xs) items k w) || (t && has left w)) ≡ (marks old k w || ((marks (take i xs) k w || (t && has d.1 w)) && not (marks items k w)))
    by true e =
        let same : has left w ≡ (has d.1 w && not (marks items k w)) = left_is w lt ∙ ap (λ j. has d.1 w && not (marks items j w)) (eqb-true d.0 k e) in
        ap (λ b. (marks old k w || marks_besides (take i xs) items k w) || b) same ∙ here (marks old k w) (marks (take i xs) k w) (has d.1 w) (marks items k w)
    by false e = elsewhere (marks old k w) (marks (take i xs) k w) (marks items k w)
