-- Reading a phrase by its first token, which has to pass a test and may break a rule.
use Rattle.std.proofs.Common.{◌≡◌, ℕ, Bool, true, false, List, [], ◌∷◌, ◌++◌, Option, Some, None, Ok, Err, refl, sym, ap, subst, ◌∙◌, inl, inr, ◌⊎◌}
use Rattle.lgc_grammar.specs.Grammar.{Grammar, Language, Why, Unexpected, Breaks, IsFront}
use Rattle.lgc_grammar.specs.Reading.{Reader, next_is}
use Rattle.lgc_grammar.proofs.BrokenRules.{Only}
use Rattle.lgc_grammar.proofs.Readers.{Reads, Took, Stuck, StopsIn, Must, IsViable, IsReadOrBreaks, SameNext, next_alike, next_stays, begins, either_way, stuck_at}
use Rattle.lgc_report_reader.specs.Starting.{MayStart, Starting, PlainStarting, starting_at}

module _ {T A : Type 0} (test : T → Bool) (fault : T → Option ℕ) {p : Reader T A} {L : Grammar T A} {P : Language T} {first go : T → Bool} (reads : Reads p L P (Must first) go)
    -- a token that breaks a rule begins a phrase
    (each_broken : (t : T) (n : ℕ) → test t ≡ true → fault t ≡ Some n → IsFront P (t ∷ []))
    (some_start : (front : List T) × PlainStarting test P front) where
  -- ---- what the first token tells

  may_goes : (ts : List T) → MayStart test fault ts → starting_at test fault p ts ≡ p ts
  may_goes [] h = absurd h
  may_goes (t ∷ ts) (h, none) = rw (h, none) refl

  off_stops : (ts : List T) → next_is test ts ≡ false → starting_at test fault p ts ≡ Err (ts, Unexpected)
  off_stops [] h = refl
  off_stops (t ∷ ts) h = rw h refl

  broken_stops : (t : T) (rest : List T) (n : ℕ) → test t ≡ true → fault t ≡ Some n → starting_at test fault p (t ∷ rest) ≡ Err (t ∷ rest, Breaks n)
  broken_stops t rest n h b = rw (h, b) refl

  -- the first token breaks a rule
  abbrev BreaksFirst : List T → Type 0
  BreaksFirst ts = (t : T) × (rest : List T) × (n : ℕ) × (ts ≡ t ∷ rest) × (test t ≡ true) × (fault t ≡ Some n)

  look : (ts : List T) → MayStart test fault ts ⊎ ((next_is test ts ≡ false) ⊎ BreaksFirst ts)
  look [] = inr (inl refl)
  look (t ∷ ts) = by (either_way (test t))
    where
      judged : test t ≡ true → (f : Option ℕ) → fault t ≡ f → MayStart test fault (t ∷ ts) ⊎ ((test t ≡ false) ⊎ BreaksFirst (t ∷ ts))
      judged h None e = inl (h, e)
      judged h (Some n) e = inr (inr (t, ts, n, refl, h, e))

      by : (test t ≡ true) ⊎ (test t ≡ false) → MayStart test fault (t ∷ ts) ⊎ ((test t ≡ false) ⊎ BreaksFirst (t ∷ ts))
      by (inl h) = judged h (fault t) refl
      by (inr h) = inr (inl h)

  -- ---- the first token is the same in front and behind

  may_same : (front rest other : List T) → SameNext rest other → MayStart test fault (front ++ rest) → MayStart test fault (front ++ other)
  may_same (t ∷ front) rest other look h = h
  may_same [] [] [] look h = h
  may_same [] [] (u ∷ other) look h = absurd look
  may_same [] (t ∷ rest) [] look h = absurd look
  may_same [] (t ∷ rest) (u ∷ other) look h = subst (λ (x : T). (test x ≡ true) × (fault x ≡ None)) look h

  may_front : (front rest : List T) → next_is first front ≡ true → MayStart test fault (front ++ rest) → MayStart test fault front
  may_front [] rest some h = absurd cc
  may_front (t ∷ front) rest some h = h

  may_more : (front rest : List T) → MayStart test fault front → MayStart test fault (front ++ rest)
  may_more [] rest h = absurd h
  may_more (t ∷ front) rest h = h

  is_start : (ts : List T) → MayStart test fault ts → next_is test ts ≡ true
  is_start [] h = absurd h
  is_start (t ∷ ts) h = h.0

  same_itself : (ts : List T) → SameNext ts ts
  same_itself [] = tt
  same_itself (t ∷ ts) = refl

  -- ---- fronts of phrases

  front_start : (front rest : List T) → MayStart test fault (front ++ rest) → IsFront P front → IsFront (PlainStarting test P) front
  front_start [] rest h g = some_start
  front_start (t ∷ front) rest h (more, g) = (more, (h.0, g))

  each_start : (t : T) (n : ℕ) → test t ≡ true → fault t ≡ Some n → IsFront (PlainStarting test P) (t ∷ [])
  each_start t n h b = let (more, g) = each_broken t n h b in (more, (h, g))

  -- ---- reading

  starting_took : (ts : List T) (a : A) (rest : List T) → starting_at test fault p ts ≡ Ok (a, rest) → Took (starting_at test fault p) (Starting test fault L) ts a rest
  starting_took ts a rest e = by (look ts)
    where
      by : MayStart test fault ts ⊎ ((next_is test ts ≡ false) ⊎ BreaksFirst ts) → Took (starting_at test fault p) (Starting test fault L) ts a rest
      by (inl may) =
          let k = reads.took ts a rest (sym (may_goes ts may) ∙ e) in
          let whole : MayStart test fault (k.front ++ rest) = subst (MayStart test fault) k.split may in
          record {
            front = k.front;
            split = k.split;
            phrase = (may_front k.front rest (begins reads k.front (reads.is_plain a k.front k.phrase)) whole, k.phrase);
            near = λ other alike. may_goes (k.front ++ other) (may_same k.front rest other alike whole) ∙ k.near other alike;
          }
      by (inr (inl h)) = absurd (let f = sym (off_stops ts h) ∙ e in cc)
      by (inr (inr (t, us, n, split, h, b))) = absurd (let f = sym (broken_stops t us n h b) ∙ ap (starting_at test fault p) (sym split) ∙ e in cc)

  viable_start : (front rest : List T) (why : Why) → MayStart test fault (front ++ rest) → IsViable L P why front rest → IsViable (Starting test fault L) (PlainStarting test P) why front rest
  viable_start front rest Unexpected may h = front_start front rest may h
  viable_start front [] (Breaks n) may h = absurd h
  viable_start front (u ∷ rest) (Breaks n) may h = inr (may_same front (u ∷ rest) (u ∷ []) refl may, h)

  starting_stuck : (ts rest : List T) (why : Why) → starting_at test fault p ts ≡ Err (rest, why) → Stuck (starting_at test fault p) (Starting test fault L) (PlainStarting test P) ts rest why
  starting_stuck ts rest why e = by (look ts)
    where
      off_here : next_is test ts ≡ false → Stuck (starting_at test fault p) (Starting test fault L) (PlainStarting test P) ts ts Unexpected
      off_here h = record { front = []; split = refl; viable = some_start; near = λ other alike. off_stops other (sym (next_alike test [] ts other alike) ∙ h) }

      near_broken : (t : T) (us other : List T) (n : ℕ) → test t ≡ true → fault t ≡ Some n → SameNext (t ∷ us) other → starting_at test fault p other ≡ Err (other, Breaks n)
      near_broken t us [] n h b alike = absurd alike
      near_broken t us (u ∷ other) n h b alike = broken_stops u other n (subst (λ (x : T). test x ≡ true) alike h) (subst (λ (x : T). fault x ≡ Some n) alike b)

      broken_here : (t : T) (us : List T) (n : ℕ) → test t ≡ true → fault t ≡ Some n → Stuck (starting_at test fault p) (Starting test fault L) (PlainStarting test P) (t ∷ us) (t ∷ us) (Breaks n)
      broken_here t us n h b = record { front = []; split = refl; viable = inl (t, h, b, refl); near = λ other alike. near_broken t us other n h b alike }

      by : MayStart test fault ts ⊎ ((next_is test ts ≡ false) ⊎ BreaksFirst ts) → Stuck (starting_at test fault p) (Starting test fault L) (PlainStarting test P) ts rest why
      by (inl may) =
          let k = reads.stuck ts rest why (sym (may_goes ts may) ∙ e) in
          let whole : MayStart test fault (k.front ++ rest) = subst (MayStart test fault) k.split may in
          record {
            front = k.front;
            split = k.split;
            viable = viable_start k.front rest why whole k.viable;
            near = λ other alike. may_goes (k.front ++ other) (may_same k.front rest other alike whole) ∙ k.near other alike;
          }
      by (inr (inl h)) = stuck_at ts (off_here h) (sym (off_stops ts h) ∙ e)
      by (inr (inr (t, us, n, split, h, b))) =
          let here = stuck_at (t ∷ us) (broken_here t us n h b) (sym (broken_stops t us n h b) ∙ ap (starting_at test fault p) (sym split) ∙ e) in
          subst (λ (x : List T). Stuck (starting_at test fault p) (Starting test fault L) (PlainStarting test P) x rest why) (sym split) here

  starting_broken : (n : ℕ) (ts : List T) → Starting test fault L (Err n) ts → StopsIn (starting_at test fault p) (PlainStarting test P) n ts
  starting_broken n ts (inl (t, h, b, split)) = record { front = []; last = t; split = split; stops = λ rest. broken_stops t rest n h b; goes_on = subst (IsFront (PlainStarting test P)) (sym split) (each_start t n h b) }
  starting_broken n ts (inr (may, h)) =
      let s = reads.broken n ts h in
      let whole : MayStart test fault (s.front ++ s.last ∷ []) = subst (MayStart test fault) s.split may in
      let (more, g) = s.goes_on in
      record {
        front = s.front;
        last = s.last;
        split = s.split;
        stops = λ rest. may_goes (s.front ++ s.last ∷ rest) (may_same s.front (s.last ∷ []) (s.last ∷ rest) refl whole) ∙ s.stops rest;
        goes_on = (more, (next_stays test ts more (is_start ts may), g));
      }

  starting_plain : (front rest : List T) → PlainStarting test P front → next_is go rest ≡ false → IsReadOrBreaks rest (starting_at test fault p (front ++ rest))
  starting_plain front rest (is, h) ends = by (look (front ++ rest))
    where
      by : MayStart test fault (front ++ rest) ⊎ ((next_is test (front ++ rest) ≡ false) ⊎ BreaksFirst (front ++ rest)) → IsReadOrBreaks rest (starting_at test fault p (front ++ rest))
      by (inl may) = rw (may_goes (front ++ rest) may) (reads.plain front rest h ends)
      by (inr (inl off)) = absurd (let on = next_stays test front rest is in cc)
      by (inr (inr (t, us, n, split, passes, b))) = rw (split, broken_stops t us n passes b) tt

  pub starting_reads : Reads (starting_at test fault p) (Starting test fault L) (PlainStarting test P) (Must test) go
  starting_reads = record {
    took = starting_took;
    stuck = starting_stuck;
    complete = λ a front rest h ends. may_goes (front ++ rest) (may_more front rest h.0) ∙ reads.complete a front rest h.1 ends;
    broken = starting_broken;
    plain = starting_plain;
    is_plain = λ a ts h. (is_start ts h.0, reads.is_plain a ts h.1);
    starts = off_stops;
    some = reads.some;
    example = some_start;
  }

-- the rules that can be broken
pub only_starting : {T A : Type 0} {Q : ℕ → Type 0} (test : T → Bool) (fault : T → Option ℕ) {L : Grammar T A} → ((t : T) (n : ℕ) → fault t ≡ Some n → Q n) → Only Q L → Only Q (Starting test fault L)
only_starting {T} {A} {Q} test fault {L} told g = record { only = by }
  where
    by : (n : ℕ) (ts : List T) → Starting test fault L (Err n) ts → Q n
    by n ts (inl (t, h, b, split)) = told t n b
    by n ts (inr (may, h)) = g.only n ts h
