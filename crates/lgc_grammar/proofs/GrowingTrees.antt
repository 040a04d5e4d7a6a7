-- Repetitions in which each phrase makes the tree so far grow. As in a repetition with a list of trees, one more phrase is
-- read as long as the next token begins one. The fuel of `growing_at` shows in this file alone.
use Rattle.std.proofs.Common.{◌≡◌, ℕ, zero, suc, ◌<◌, ◌≤◌, Bool, true, false, List, [], ◌∷◌, ◌++◌, length, Result, Ok, Err, refl, sym, ap, subst, ◌∙◌, append_assoc, append-nil, arith, inl, inr, ◌⊎◌}
use Rattle.std.specs.Prelude.{◌||◌}
use Rattle.lgc_grammar.specs.Grammar.{Grammar, Language, Why, Unexpected, Breaks, IsFront, Growing, ended, broken, grown, PlainMany, none, more}
use Rattle.lgc_grammar.specs.Reading.{Reader, next_is, growing_within, growing_at}
use Rattle.lgc_grammar.proofs.Readers.{Reads, Took, Stuck, Must, May, next_or, SameNext, IsReadOrBreaks, ok, err, ok_rest, ok_tree, next_alike, next_stays, next_apart, same_behind, viable_in, front_in, StopsIn, first_of, stops_here, stops_behind, begins, either_way}
use Rattle.lgc_grammar.proofs.Repetitions.{Shrinks, reads_shrink}

-- ---- the laws of growing_at

module _ {T A : Type 0} (first : T → Bool) (p : A → Reader T A) where
  pub growing_ends : (a : A) (ts : List T) → next_is first ts ≡ false → growing_at first p a ts ≡ Ok (a, ts)
  unfolding growing_at
  growing_ends a [] h = refl
  growing_ends a (t ∷ ts) h = rw h refl

  pub growing_fails : (a : A) (ts : List T) (e : List T × Why) → next_is first ts ≡ true → p a ts ≡ Err e → growing_at first p a ts ≡ Err e
  unfolding growing_at
  growing_fails a [] e h f = absurd cc
  growing_fails a (t ∷ ts) e h f = rw (h, f) refl

  module _ (shrinks : (a : A) → Shrinks first (p a)) where
    less_of : (a : A) (ts : List T) (b : A) (rest : List T) → next_is first ts ≡ true → p a ts ≡ Ok (b, rest) → length rest < length ts
    less_of a ts b rest h e = let s : Shrinks first (p a) = shrinks a in s.less ts b rest h e

    -- any bound that is large enough gives the same
    enough : (n m : ℕ) (a : A) (ts : List T) → length ts ≤ n → length ts ≤ m → growing_within n first p a ts ≡ growing_within m first p a ts
    enough zero zero a ts le lf = refl
    enough zero (suc m) a [] le lf = refl
    enough (suc n) zero a [] le lf = refl
    enough zero (suc m) a (t ∷ ts) le lf = absurd (omega arith)
    enough (suc n) zero a (t ∷ ts) le lf = absurd (omega arith)
    enough (suc n) (suc m) a ts le lf = by (λ b r below. enough n m b r (omega arith) (omega arith)) (either_way (next_is first ts))
      where
        by : ((b : A) (r : List T) → length r < length ts → growing_within n first p b r ≡ growing_within m first p b r) → (next_is first ts ≡ true) ⊎ (next_is first ts ≡ false) → growing_within (suc n) first p a ts ≡ growing_within (suc m) first p a ts
        by again (inr h) = rw h refl
        by again (inl h) = at (p a ts) refl
          where
            at : (r : Result (A × List T) (List T × Why)) → p a ts ≡ r → growing_within (suc n) first p a ts ≡ growing_within (suc m) first p a ts
            at (Err e) f = rw (h, f) refl
            at (Ok x) f = rw (h, f, again x.0 x.1 (less_of a ts x.0 x.1 h f)) refl

    pub growing_goes : (a : A) (ts : List T) (b : A) (rest : List T) → next_is first ts ≡ true → p a ts ≡ Ok (b, rest) → growing_at first p a ts ≡ growing_at first p b rest
    unfolding growing_at
    growing_goes a [] b rest h e = absurd cc
    growing_goes a (t ∷ ts) b rest h e =
        let less : length rest < length (t ∷ ts) = less_of a (t ∷ ts) b rest h e in
        rw (h, e) (enough (length ts) (length rest) b rest (omega arith) (omega arith))

-- ---- it reads its grammar

-- the phrases of each step begin with a token that passes `first`, and their plain language doesn't depend on the tree so far
module _ {T A : Type 0} {first : T → Bool} {p : A → Reader T A} {L : A → Grammar T A} {P : Language T} {go : T → Bool} (reads : (a : A) → Reads (p a) (L a) P (Must first) go) where
  pub shrinks : (a : A) → Shrinks first (p a)
  shrinks a = reads_shrink (reads a)

  took_none : (a : A) (ts : List T) (c : A) (rest : List T) → next_is first ts ≡ false → ok {A = A × List T} {E = List T × Why} (a, ts) ≡ Ok (c, rest) → Took (growing_at first p a) (Growing L a) ts c rest
  took_none a ts c rest h e = record {
    front = [];
    split = ok_rest e;
    phrase = subst (λ (x : A). Growing L a (Ok x) []) (ok_tree e) (ended a);
    near = λ other look. growing_ends first p a other (sym (next_alike first [] rest other look) ∙ ap (next_is first) (sym (ok_rest e)) ∙ h) ∙ ap (λ (x : A). ok {A = A × List T} (x, other)) (ok_tree e);
  }

  -- one more, and those behind it
  module _ (a : A) (ts : List T) (b : A) (r : List T) (is : next_is first ts ≡ true) (k : Took (p a) (L a) ts b r) where
    near_one : (front after : List T) → r ≡ front ++ after → (other : List T) → SameNext after other → p a ((k.front ++ front) ++ other) ≡ Ok (b, front ++ other)
    near_one front after split other look =
        let one = k.near (front ++ other) (subst (λ (x : List T). SameNext x (front ++ other)) (sym split) (same_behind front after other look)) in
        rw (append_assoc k.front front other) one

    is_next : (front other : List T) → next_is first ((k.front ++ front) ++ other) ≡ true
    is_next front other = rw (append_assoc k.front front other) (next_stays first k.front (front ++ other) (begins (reads a) k.front ((reads a).is_plain b k.front k.phrase)))

    split_one : (front after : List T) → r ≡ front ++ after → ts ≡ (k.front ++ front) ++ after
    split_one front after split = k.split ∙ ap (λ (x : List T). k.front ++ x) split ∙ sym (append_assoc k.front front after)

    took_one : (c : A) (rest : List T) → Took (growing_at first p b) (Growing L b) r c rest → Took (growing_at first p a) (Growing L a) ts c rest
    took_one c rest m = record {
      front = k.front ++ m.front;
      split = split_one m.front rest m.split;
      phrase = grown a b (Ok c) k.front m.front k.phrase m.phrase;
      near = λ other look. growing_goes first p shrinks a ((k.front ++ m.front) ++ other) b (m.front ++ other) (is_next m.front other) (near_one m.front rest m.split other look) ∙ m.near other look;
    }

    stuck_one : (rest : List T) (why : Why) → Stuck (growing_at first p b) (Growing L b) (PlainMany P) r rest why → Stuck (growing_at first p a) (Growing L a) (PlainMany P) ts rest why
    stuck_one rest why m = record {
      front = k.front ++ m.front;
      split = split_one m.front rest m.split;
      viable = viable_in (Growing L b) (Growing L a) (PlainMany P) (PlainMany P) k.front m.front rest why (λ n w h. grown a b (Err n) k.front w k.phrase h) (λ w h. ([], rw (append-nil w) (more k.front w ((reads a).is_plain b k.front k.phrase) h))) m.viable;
      near = λ other look. growing_goes first p shrinks a ((k.front ++ m.front) ++ other) b (m.front ++ other) (is_next m.front other) (near_one m.front rest m.split other look) ∙ m.near other look;
    }

  stuck_here : (a : A) (ts rest : List T) (why : Why) → next_is first ts ≡ true → Stuck (p a) (L a) P ts rest why → Stuck (growing_at first p a) (Growing L a) (PlainMany P) ts rest why
  stuck_here a ts rest why h k = record {
    front = k.front;
    split = k.split;
    viable = viable_in (L a) (Growing L a) P (PlainMany P) [] k.front rest why (λ n w h. broken a n w h) (λ v g. ([], more v [] g none)) k.viable;
    near = λ other look. growing_fails first p a (k.front ++ other) (other, why) (sym (next_alike first k.front rest other look) ∙ ap (next_is first) (sym k.split) ∙ h) (k.near other look);
  }

  -- with a bound on the number of tokens
  took_within : (n : ℕ) (a : A) (ts : List T) (c : A) (rest : List T) → length ts ≤ n → growing_at first p a ts ≡ Ok (c, rest) → Took (growing_at first p a) (Growing L a) ts c rest
  took_within n a [] c rest le e = took_none a [] c rest refl (sym (growing_ends first p a [] refl) ∙ e)
  took_within zero a (t ∷ ts) c rest le e = absurd (omega arith)
  took_within (suc n) a (t ∷ ts) c rest le e = at (λ b r x y below f. took_within n b r x y below f) (either_way (first t))
    where
      at : ((b : A) (r : List T) (x : A) (y : List T) → length r ≤ n → growing_at first p b r ≡ Ok (x, y) → Took (growing_at first p b) (Growing L b) r x y) → (first t ≡ true) ⊎ (first t ≡ false) → Took (growing_at first p a) (Growing L a) (t ∷ ts) c rest
      at again (inr h) = took_none a (t ∷ ts) c rest h (sym (growing_ends first p a (t ∷ ts) h) ∙ e)
      at again (inl h) = by (p a (t ∷ ts)) refl
        where
          by : (r : Result (A × List T) (List T × Why)) → p a (t ∷ ts) ≡ r → Took (growing_at first p a) (Growing L a) (t ∷ ts) c rest
          by (Err d) f = let g = sym (growing_fails first p a (t ∷ ts) d h f) ∙ e in absurd cc
          by (Ok x) f =
              let less = less_of first p shrinks a (t ∷ ts) x.0 x.1 h f in
              let m = again x.0 x.1 c rest (omega arith) (sym (growing_goes first p shrinks a (t ∷ ts) x.0 x.1 h f) ∙ e) in
              took_one a (t ∷ ts) x.0 x.1 h ((reads a).took (t ∷ ts) x.0 x.1 f) c rest m

  stuck_within : (n : ℕ) (a : A) (ts rest : List T) (why : Why) → length ts ≤ n → growing_at first p a ts ≡ Err (rest, why) → Stuck (growing_at first p a) (Growing L a) (PlainMany P) ts rest why
  stuck_within n a [] rest why le e = let g = sym (growing_ends first p a [] refl) ∙ e in absurd cc
  stuck_within zero a (t ∷ ts) rest why le e = absurd (omega arith)
  stuck_within (suc n) a (t ∷ ts) rest why le e = at (λ b r below f. stuck_within n b r rest why below f) (either_way (first t))
    where
      at : ((b : A) (r : List T) → length r ≤ n → growing_at first p b r ≡ Err (rest, why) → Stuck (growing_at first p b) (Growing L b) (PlainMany P) r rest why) → (first t ≡ true) ⊎ (first t ≡ false) → Stuck (growing_at first p a) (Growing L a) (PlainMany P) (t ∷ ts) rest why
      at again (inr h) = let g = sym (growing_ends first p a (t ∷ ts) h) ∙ e in absurd cc
      at again (inl h) = by (p a (t ∷ ts)) refl
        where
          by : (r : Result (A × List T) (List T × Why)) → p a (t ∷ ts) ≡ r → Stuck (growing_at first p a) (Growing L a) (PlainMany P) (t ∷ ts) rest why
          by (Err d) f =
              let g = sym (growing_fails first p a (t ∷ ts) d h f) ∙ e in
              let same : d ≡ (rest, why) = cc in
              stuck_here a (t ∷ ts) rest why h ((reads a).stuck (t ∷ ts) rest why (f ∙ ap (λ (x : List T × Why). err x) same))
          by (Ok x) f =
              let less = less_of first p shrinks a (t ∷ ts) x.0 x.1 h f in
              stuck_one a (t ∷ ts) x.0 x.1 h ((reads a).took (t ∷ ts) x.0 x.1 f) rest why (again x.0 x.1 (omega arith) (sym (growing_goes first p shrinks a (t ∷ ts) x.0 x.1 h f) ∙ e))

  module _ (apart : (t : T) → first t ≡ true → go t ≡ false) where
    -- what follows a phrase is another, or what follows all of them
    link : A → (w rest : List T) → PlainMany P w → next_is (λ t. first t || go t) rest ≡ false → next_is go (w ++ rest) ≡ false
    link a w rest none ends = (next_or first go rest ends).1
    link a w rest (more v u f g) ends = rw (append_assoc v u rest) (next_apart first go apart (v ++ (u ++ rest)) (next_stays first v (u ++ rest) (begins (reads a) v f)))

    growing_is_plain : (a c : A) (ts : List T) → Growing L a (Ok c) ts → PlainMany P ts
    growing_is_plain a c ts (ended _) = none
    growing_is_plain a c ts (grown _ b _ v w f g) = more v w ((reads a).is_plain b v f) (growing_is_plain b c w g)

    growing_complete : (a c : A) (front rest : List T) → Growing L a (Ok c) front → next_is (λ t. first t || go t) rest ≡ false → growing_at first p a (front ++ rest) ≡ Ok (c, rest)
    growing_complete a c front rest (ended _) ends = growing_ends first p a rest (next_or first go rest ends).0
    growing_complete a c front rest (grown _ b _ v w f g) ends =
        let one : p a (v ++ (w ++ rest)) ≡ Ok (b, w ++ rest) = (reads a).complete b v (w ++ rest) f (link a w rest (growing_is_plain b c w g) ends) in
        rw (append_assoc v w rest) (growing_goes first p shrinks a (v ++ (w ++ rest)) b (w ++ rest) (next_stays first v (w ++ rest) (begins (reads a) v ((reads a).is_plain b v f))) one ∙ growing_complete b c w rest g ends)

    growing_broken : (a : A) (n : ℕ) (ts : List T) → Growing L a (Err n) ts → StopsIn (growing_at first p a) (PlainMany P) n ts
    growing_broken a n ts (broken _ _ v h) =
        let s = (reads a).broken n ts h in
        let (rest_of, g) = s.goes_on in
        let is = first_of s first true rest_of (next_stays first (ts ++ rest_of) [] (begins (reads a) (ts ++ rest_of) g)) in
        stops_here s (λ rest. growing_fails first p a (s.front ++ s.last ∷ rest) (s.last ∷ rest, Breaks n) (is rest) (s.stops rest)) (front_in P (PlainMany P) [] ts (λ v i. ([], more v [] i none)) s.goes_on)
    growing_broken a n ts (grown _ b _ v w f g) =
        let s = growing_broken b n w g in
        let (rest_of, h) = s.goes_on in
        let ends = first_of s go false rest_of (link a (w ++ rest_of) [] h refl) in
        let is : (rest : List T) → next_is first (v ++ (s.front ++ s.last ∷ rest)) ≡ true = λ rest. next_stays first v (s.front ++ s.last ∷ rest) (begins (reads a) v ((reads a).is_plain b v f)) in
        let way : IsFront (PlainMany P) (v ++ w) = front_in (PlainMany P) (PlainMany P) v w (λ u i. ([], rw (append-nil u) (more v u ((reads a).is_plain b v f) i))) s.goes_on in
        let stops = λ (rest : List T). growing_goes first p shrinks a (v ++ (s.front ++ s.last ∷ rest)) b (s.front ++ s.last ∷ rest) (is rest) ((reads a).complete b v (s.front ++ s.last ∷ rest) f (ends rest)) ∙ s.stops rest in
        stops_behind s v stops way

    growing_plain : (a : A) (front rest : List T) → PlainMany P front → next_is (λ t. first t || go t) rest ≡ false → IsReadOrBreaks rest (growing_at first p a (front ++ rest))
    growing_plain a front rest none ends = rw (growing_ends first p a rest (next_or first go rest ends).0) refl
    growing_plain a front rest (more v w f g) ends = rw (append_assoc v w rest) (by (λ b. growing_plain b w rest g ends) (p a (v ++ (w ++ rest))) refl ((reads a).plain v (w ++ rest) f (link a w rest g ends)))
      where
        is : next_is first (v ++ (w ++ rest)) ≡ true
        is = next_stays first v (w ++ rest) (begins (reads a) v f)

        by : ((b : A) → IsReadOrBreaks rest (growing_at first p b (w ++ rest))) → (r : Result (A × List T) (List T × Why)) → p a (v ++ (w ++ rest)) ≡ r → IsReadOrBreaks (w ++ rest) r → IsReadOrBreaks rest (growing_at first p a (v ++ (w ++ rest)))
        by again (Ok x) e same = rw (growing_goes first p shrinks a (v ++ (w ++ rest)) x.0 x.1 is e, same) (again x.0)
        by again (Err (r, Unexpected)) e h = absurd h
        by again (Err (r, Breaks n)) e h = rw (growing_fails first p a (v ++ (w ++ rest)) (r, Breaks n) is e) tt

    pub growing_reads : (a : A) → Reads (growing_at first p a) (Growing L a) (PlainMany P) (May first) (λ t. first t || go t)
    growing_reads a = record {
      took = λ ts c rest e. took_within (length ts) a ts c rest (omega arith) e;
      stuck = λ ts rest why e. stuck_within (length ts) a ts rest why (omega arith) e;
      complete = λ c front rest h ends. growing_complete a c front rest h ends;
      broken = growing_broken a;
      plain = growing_plain a;
      is_plain = growing_is_plain a;
      starts = λ ts h. (a, growing_ends first p a ts h);
      some = a;
      example = ([], none);
    }
