-- A repetition and an optional part, where both begin alike: a reader that takes the next phrase of either, and sees by its tree
-- which of them it was. So it looks at no more than the next token, too. The fuel of `ending_at` shows in this file alone.
use Rattle.std.proofs.Common.{◌≡◌, ℕ, zero, suc, ◌<◌, ◌≤◌, Bool, true, false, List, [], ◌∷◌, ◌++◌, length, Result, Ok, Err, refl, sym, ap, subst, ◌∙◌, append_assoc, append-nil, arith, inl, inr, ◌⊎◌}
use Rattle.std.specs.Prelude.{◌||◌}
use Rattle.std.proofs.lemmas.List.{append_cancel_right}
use Rattle.lgc_grammar.specs.Grammar.{Grammar, Language, Why, Unexpected, Breaks, IsFront, Then, Optional, Growing, ended, broken, grown, PlainThen, PlainEither, PlainOptional, PlainMany, none, more}
use Rattle.lgc_grammar.specs.Reading.{Reader, next_is, Turn, onward, last, ending_within, ending_at}
use Rattle.lgc_grammar.proofs.Readers.{Reads, Took, Stuck, Must, May, next_or, SameNext, IsReadOrBreaks, ok, err, ok_rest, ok_tree, next_alike, next_stays, next_apart, same_behind, viable_in, front_in, StopsIn, first_of, stops_here, stops_behind, took_at, begins, either_way}
use Rattle.lgc_grammar.proofs.Repetitions.{Shrinks, reads_shrink}

-- ---- the laws of ending_at

module _ {T A C : Type 0} (first : T → Bool) (p : A → Reader T (Turn A C)) (finish : A → C) where
  pub ending_ends : (a : A) (ts : List T) → next_is first ts ≡ false → ending_at first p finish a ts ≡ Ok (finish a, ts)
  unfolding ending_at
  ending_ends a [] h = refl
  ending_ends a (t ∷ ts) h = rw h refl

  pub ending_fails : (a : A) (ts : List T) (e : List T × Why) → next_is first ts ≡ true → p a ts ≡ Err e → ending_at first p finish a ts ≡ Err e
  unfolding ending_at
  ending_fails a [] e h f = absurd cc
  ending_fails a (t ∷ ts) e h f = rw (h, f) refl

  pub ending_closes : (a : A) (ts : List T) (c : C) (rest : List T) → next_is first ts ≡ true → p a ts ≡ Ok (last c, rest) → ending_at first p finish a ts ≡ Ok (c, rest)
  unfolding ending_at
  ending_closes a [] c rest h f = absurd cc
  ending_closes a (t ∷ ts) c rest h f = rw (h, f) refl

  module _ (shrinks : (a : A) → Shrinks first (p a)) where
    less_of : (a : A) (ts : List T) (x : Turn A C) (rest : List T) → next_is first ts ≡ true → p a ts ≡ Ok (x, rest) → length rest < length ts
    less_of a ts x rest h e = let s : Shrinks first (p a) = shrinks a in s.less ts x rest h e

    -- any bound that is large enough gives the same
    enough : (n m : ℕ) (a : A) (ts : List T) → length ts ≤ n → length ts ≤ m → ending_within n first p finish a ts ≡ ending_within m first p finish a ts
    enough zero zero a ts le lf = refl
    enough zero (suc m) a [] le lf = refl
    enough (suc n) zero a [] le lf = refl
    enough zero (suc m) a (t ∷ ts) le lf = absurd (omega arith)
    enough (suc n) zero a (t ∷ ts) le lf = absurd (omega arith)
    enough (suc n) (suc m) a ts le lf = by (λ b r below. enough n m b r (omega arith) (omega arith)) (either_way (next_is first ts))
      where
        by : ((b : A) (r : List T) → length r < length ts → ending_within n first p finish b r ≡ ending_within m first p finish b r) → (next_is first ts ≡ true) ⊎ (next_is first ts ≡ false) → ending_within (suc n) first p finish a ts ≡ ending_within (suc m) first p finish a ts
        by again (inr h) = rw h refl
        by again (inl h) = at (p a ts) refl
          where
            at : (r : Result (Turn A C × List T) (List T × Why)) → p a ts ≡ r → ending_within (suc n) first p finish a ts ≡ ending_within (suc m) first p finish a ts
            at (Err e) f = rw (h, f) refl
            at (Ok (last c, r)) f = rw (h, f) refl
            at (Ok (onward b, r)) f = rw (h, f, again b r (less_of a ts (onward b) r h f)) refl

    pub ending_goes : (a : A) (ts : List T) (b : A) (rest : List T) → next_is first ts ≡ true → p a ts ≡ Ok (onward b, rest) → ending_at first p finish a ts ≡ ending_at first p finish b rest
    unfolding ending_at
    ending_goes a [] b rest h e = absurd cc
    ending_goes a (t ∷ ts) b rest h e =
        let less : length rest < length (t ∷ ts) = less_of a (t ∷ ts) (onward b) rest h e in
        rw (h, e) (enough (length ts) (length rest) b rest (omega arith) (omega arith))

-- ---- it reads its grammar

-- the phrase of a turn
abbrev pub Turned : {T A C : Type 0} → Grammar T A → Grammar T C → Grammar T (Turn A C)
Turned L M (Ok (onward a)) ts = L (Ok a) ts
Turned L M (Ok (last c)) ts = M (Ok c) ts
Turned L M (Err n) ts = L (Err n) ts ⊎ M (Err n) ts

abbrev Phrases : {T A C : Type 0} → (A → C) → (A → Grammar T A) → (A → Grammar T C) → A → Grammar T C
Phrases finish L M a = Then (Growing L a) (λ b. Optional (finish b) (M b))

abbrev PlainPhrases : {T : Type 0} → Language T → Language T → Language T
PlainPhrases P Q = PlainThen (PlainMany P) (PlainOptional Q)

-- the phrases of each step begin with a token that passes `first`, and their plain languages don't depend on the tree so far
module _ {T A C : Type 0} {first : T → Bool} {p : A → Reader T (Turn A C)} (finish : A → C) (L : A → Grammar T A) (M : A → Grammar T C) {P Q : Language T} {go : T → Bool} (reads : (a : A) → Reads (p a) (Turned (L a) (M a)) (PlainEither P Q) (Must first) go) (is_onward : (a b : A) (v : List T) → L a (Ok b) v → P v) (is_last : (a : A) (c : C) (v : List T) → M a (Ok c) v → Q v) (differ : (v : List T) → P v → Q v → ⊥) where
  pub turns_shrink : (a : A) → Shrinks first (p a)
  turns_shrink a = reads_shrink (reads a)

  took_none : (a : A) (ts : List T) (c : C) (rest : List T) → next_is first ts ≡ false → ok {A = C × List T} {E = List T × Why} (finish a, ts) ≡ Ok (c, rest) → Took (ending_at first p finish a) (Phrases finish L M a) ts c rest
  took_none a ts c rest h e = record {
    front = [];
    split = ok_rest e;
    phrase = (a, [], [], ended a, inr (sym (ok_tree e), refl), refl);
    near = λ other look. ending_ends first p finish a other (sym (next_alike first [] rest other look) ∙ ap (next_is first) (sym (ok_rest e)) ∙ h) ∙ ap (λ (x : C). ok {A = C × List T} (x, other)) (ok_tree e);
  }

  -- the last
  took_last : (a : A) (ts : List T) (c : C) (rest : List T) → next_is first ts ≡ true → Took (p a) (Turned (L a) (M a)) ts (last c) rest → Took (ending_at first p finish a) (Phrases finish L M a) ts c rest
  took_last a ts c rest h k = record {
    front = k.front;
    split = k.split;
    phrase = (a, [], k.front, ended a, inl k.phrase, refl);
    near = λ other look. ending_closes first p finish a (k.front ++ other) c other (sym (next_alike first k.front rest other look) ∙ ap (next_is first) (sym k.split) ∙ h) (k.near other look);
  }

  plain_behind : (u w : List T) → P u → PlainPhrases P Q w → PlainPhrases P Q (u ++ w)
  plain_behind u w h (v, x, f, g, split) = (u ++ v, x, more u v h f, g, ap (λ (y : List T). u ++ y) split ∙ sym (append_assoc u v x))

  -- one more, and those behind it
  module _ (a : A) (ts : List T) (b : A) (r : List T) (is : next_is first ts ≡ true) (k : Took (p a) (Turned (L a) (M a)) ts (onward b) r) where
    near_one : (front after : List T) → r ≡ front ++ after → (other : List T) → SameNext after other → p a ((k.front ++ front) ++ other) ≡ Ok (onward b, front ++ other)
    near_one front after split other look =
        let one = k.near (front ++ other) (subst (λ (x : List T). SameNext x (front ++ other)) (sym split) (same_behind front after other look)) in
        rw (append_assoc k.front front other) one

    is_next : (front other : List T) → next_is first ((k.front ++ front) ++ other) ≡ true
    is_next front other = rw (append_assoc k.front front other) (next_stays first k.front (front ++ other) (begins (reads a) k.front ((reads a).is_plain (onward b) k.front k.phrase)))

    split_one : (front after : List T) → r ≡ front ++ after → ts ≡ (k.front ++ front) ++ after
    split_one front after split = k.split ∙ ap (λ (x : List T). k.front ++ x) split ∙ sym (append_assoc k.front front after)

    near_more : (front after : List T) → r ≡ front ++ after → (other : List T) → SameNext after other → ending_at first p finish a ((k.front ++ front) ++ other) ≡ ending_at first p finish b (front ++ other)
    near_more front after split other look = ending_goes first p finish turns_shrink a ((k.front ++ front) ++ other) b (front ++ other) (is_next front other) (near_one front after split other look)

    took_one : (c : C) (rest : List T) → Took (ending_at first p finish b) (Phrases finish L M b) r c rest → Took (ending_at first p finish a) (Phrases finish L M a) ts c rest
    took_one c rest m = record {
      front = k.front ++ m.front;
      split = split_one m.front rest m.split;
      phrase = let (d, v, w, f, g, split) = m.phrase in (d, k.front ++ v, w, grown a b (Ok d) k.front v k.phrase f, g, ap (λ (x : List T). k.front ++ x) split ∙ sym (append_assoc k.front v w));
      near = λ other look. near_more m.front rest m.split other look ∙ m.near other look;
    }

    one_more_breaks : (n : ℕ) (w : List T) → Phrases finish L M b (Err n) w → Phrases finish L M a (Err n) (k.front ++ w)
    one_more_breaks n w (inl h) = inl (grown a b (Err n) k.front w k.phrase h)
    one_more_breaks n w (inr (d, v, u, f, g, split)) = inr (d, k.front ++ v, u, grown a b (Ok d) k.front v k.phrase f, g, ap (λ (x : List T). k.front ++ x) split ∙ sym (append_assoc k.front v u))

    stuck_one : (rest : List T) (why : Why) → Stuck (ending_at first p finish b) (Phrases finish L M b) (PlainPhrases P Q) r rest why → Stuck (ending_at first p finish a) (Phrases finish L M a) (PlainPhrases P Q) ts rest why
    stuck_one rest why m = record {
      front = k.front ++ m.front;
      split = split_one m.front rest m.split;
      viable = viable_in (Phrases finish L M b) (Phrases finish L M a) (PlainPhrases P Q) (PlainPhrases P Q) k.front m.front rest why one_more_breaks (λ w h. ([], rw (append-nil w) (plain_behind k.front w (is_onward a b k.front k.phrase) h))) m.viable;
      near = λ other look. near_more m.front rest m.split other look ∙ m.near other look;
    }

  one_plain : (v : List T) → PlainEither P Q v → PlainPhrases P Q v
  one_plain v (inl h) = (v ++ [], [], more v [] h none, inr refl, sym (append-nil (v ++ []) ∙ append-nil v))
  one_plain v (inr h) = ([], v, none, inl h, refl)

  one_breaks : (a : A) (n : ℕ) (w : List T) → Turned (L a) (M a) (Err n) w → Phrases finish L M a (Err n) w
  one_breaks a n w (inl h) = inl (broken a n w h)
  one_breaks a n w (inr h) = inr (a, [], w, ended a, inl h, refl)

  stuck_here : (a : A) (ts rest : List T) (why : Why) → next_is first ts ≡ true → Stuck (p a) (Turned (L a) (M a)) (PlainEither P Q) ts rest why → Stuck (ending_at first p finish a) (Phrases finish L M a) (PlainPhrases P Q) ts rest why
  stuck_here a ts rest why h k = record {
    front = k.front;
    split = k.split;
    viable = viable_in (Turned (L a) (M a)) (Phrases finish L M a) (PlainEither P Q) (PlainPhrases P Q) [] k.front rest why (one_breaks a) (λ v g. ([], rw (append-nil v) (one_plain v g))) k.viable;
    near = λ other look. ending_fails first p finish a (k.front ++ other) (other, why) (sym (next_alike first k.front rest other look) ∙ ap (next_is first) (sym k.split) ∙ h) (k.near other look);
  }

  -- with a bound on the number of tokens
  took_within : (n : ℕ) (a : A) (ts : List T) (c : C) (rest : List T) → length ts ≤ n → ending_at first p finish a ts ≡ Ok (c, rest) → Took (ending_at first p finish a) (Phrases finish L M a) ts c rest
  took_within n a [] c rest le e = took_none a [] c rest refl (sym (ending_ends first p finish a [] refl) ∙ e)
  took_within zero a (t ∷ ts) c rest le e = absurd (omega arith)
  took_within (suc n) a (t ∷ ts) c rest le e = at (λ b r x y below f. took_within n b r x y below f) (either_way (first t))
    where
      at : ((b : A) (r : List T) (x : C) (y : List T) → length r ≤ n → ending_at first p finish b r ≡ Ok (x, y) → Took (ending_at first p finish b) (Phrases finish L M b) r x y) → (first t ≡ true) ⊎ (first t ≡ false) → Took (ending_at first p finish a) (Phrases finish L M a) (t ∷ ts) c rest
      at again (inr h) = took_none a (t ∷ ts) c rest h (sym (ending_ends first p finish a (t ∷ ts) h) ∙ e)
      at again (inl h) = by (p a (t ∷ ts)) refl
        where
          by : (r : Result (Turn A C × List T) (List T × Why)) → p a (t ∷ ts) ≡ r → Took (ending_at first p finish a) (Phrases finish L M a) (t ∷ ts) c rest
          by (Err d) f = let g = sym (ending_fails first p finish a (t ∷ ts) d h f) ∙ e in absurd cc
          by (Ok (last d, r)) f =
              let g = sym (ending_closes first p finish a (t ∷ ts) d r h f) ∙ e in
              took_at (t ∷ ts) (took_last a (t ∷ ts) d r h ((reads a).took (t ∷ ts) (last d) r f)) g
          by (Ok (onward b, r)) f =
              let less = less_of first p finish turns_shrink a (t ∷ ts) (onward b) r h f in
              let m = again b r c rest (omega arith) (sym (ending_goes first p finish turns_shrink a (t ∷ ts) b r h f) ∙ e) in
              took_one a (t ∷ ts) b r h ((reads a).took (t ∷ ts) (onward b) r f) c rest m

  stuck_within : (n : ℕ) (a : A) (ts rest : List T) (why : Why) → length ts ≤ n → ending_at first p finish a ts ≡ Err (rest, why) → Stuck (ending_at first p finish a) (Phrases finish L M a) (PlainPhrases P Q) ts rest why
  stuck_within n a [] rest why le e = let g = sym (ending_ends first p finish a [] refl) ∙ e in absurd cc
  stuck_within zero a (t ∷ ts) rest why le e = absurd (omega arith)
  stuck_within (suc n) a (t ∷ ts) rest why le e = at (λ b r below f. stuck_within n b r rest why below f) (either_way (first t))
    where
      at : ((b : A) (r : List T) → length r ≤ n → ending_at first p finish b r ≡ Err (rest, why) → Stuck (ending_at first p finish b) (Phrases finish L M b) (PlainPhrases P Q) r rest why) → (first t ≡ true) ⊎ (first t ≡ false) → Stuck (ending_at first p finish a) (Phrases finish L M a) (PlainPhrases P Q) (t ∷ ts) rest why
      at again (inr h) = let g = sym (ending_ends first p finish a (t ∷ ts) h) ∙ e in absurd cc
      at again (inl h) = by (p a (t ∷ ts)) refl
        where
          by : (r : Result (Turn A C × List T) (List T × Why)) → p a (t ∷ ts) ≡ r → Stuck (ending_at first p finish a) (Phrases finish L M a) (PlainPhrases P Q) (t ∷ ts) rest why
          by (Err d) f =
              let g = sym (ending_fails first p finish a (t ∷ ts) d h f) ∙ e in
              let same : d ≡ (rest, why) = cc in
              stuck_here a (t ∷ ts) rest why h ((reads a).stuck (t ∷ ts) rest why (f ∙ ap (λ (x : List T × Why). err x) same))
          by (Ok (last d, r)) f = let g = sym (ending_closes first p finish a (t ∷ ts) d r h f) ∙ e in absurd cc
          by (Ok (onward b, r)) f =
              let less = less_of first p finish turns_shrink a (t ∷ ts) (onward b) r h f in
              stuck_one a (t ∷ ts) b r h ((reads a).took (t ∷ ts) (onward b) r f) rest why (again b r (omega arith) (sym (ending_goes first p finish turns_shrink a (t ∷ ts) b r h f) ∙ e))

  begins_onward : A → (v rest : List T) → P v → next_is first (v ++ rest) ≡ true
  begins_onward a v rest h = next_stays first v rest (begins (reads a) v (inl h))

  begins_last : A → (w rest : List T) → Q w → next_is first (w ++ rest) ≡ true
  begins_last a w rest h = next_stays first w rest (begins (reads a) w (inr h))

  module _ (apart : (t : T) → first t ≡ true → go t ≡ false) where
    -- what follows a phrase is another, or the last, or what follows all of them
    link : A → (v w rest : List T) → PlainMany P v → PlainOptional Q w → next_is (λ t. first t || go t) rest ≡ false → next_is go (v ++ (w ++ rest)) ≡ false
    link a v w rest none (inl g) ends = next_apart first go apart (w ++ rest) (begins_last a w rest g)
    link a v w rest none (inr g) ends = rw g (next_or first go rest ends).1
    link a v w rest (more u x f g) h ends = rw (append_assoc u x (w ++ rest)) (next_apart first go apart (u ++ (x ++ (w ++ rest))) (begins_onward a u (x ++ (w ++ rest)) f))

    many_plain : (a b : A) (v : List T) → Growing L a (Ok b) v → PlainMany P v
    many_plain a b v (ended _) = none
    many_plain a b v (grown _ d _ u x f g) = more u x (is_onward a d u f) (many_plain d b x g)

    last_plain : (b : A) (c : C) (w : List T) → Optional (finish b) (M b) (Ok c) w → PlainOptional Q w
    last_plain b c w (inl m) = inl (is_last b c w m)
    last_plain b c w (inr (is, g)) = inr g

    complete_on : (a b : A) (c : C) (v w rest : List T) → Growing L a (Ok b) v → Optional (finish b) (M b) (Ok c) w → next_is (λ t. first t || go t) rest ≡ false → ending_at first p finish a (v ++ (w ++ rest)) ≡ Ok (c, rest)
    complete_on a b c v w rest (ended _) (inl m) ends = ending_closes first p finish a (w ++ rest) c rest (begins_last a w rest (is_last a c w m)) ((reads a).complete (last c) w rest m (next_or first go rest ends).1)
    complete_on a b c v w rest (ended _) (inr (is, g)) ends = rw (g, is) (ending_ends first p finish a rest (next_or first go rest ends).0)
    complete_on a b c v w rest (grown _ d _ u x f g) h ends =
        let one : p a (u ++ (x ++ (w ++ rest))) ≡ Ok (onward d, x ++ (w ++ rest)) = (reads a).complete (onward d) u (x ++ (w ++ rest)) f (link a x w rest (many_plain d b x g) (last_plain b c w h) ends) in
        rw (append_assoc u x (w ++ rest)) (ending_goes first p finish turns_shrink a (u ++ (x ++ (w ++ rest))) d (x ++ (w ++ rest)) (begins_onward a u (x ++ (w ++ rest)) (is_onward a d u f)) one ∙ complete_on d b c x w rest g h ends)

    -- the part of a phrase that was read is the phrase
    same_front : (a : A) (x : Turn A C) (u after r : List T) → p a (u ++ after) ≡ Ok (x, r) → r ≡ after → Turned (L a) (M a) (Ok x) u
    same_front a x u after r e same =
        let k = (reads a).took (u ++ after) x r e in
        let is : u ≡ k.front = append_cancel_right u k.front after (k.split ∙ ap (λ (y : List T). k.front ++ y) same) in
        rw is k.phrase

    plain_on : (a : A) (v w rest : List T) → PlainMany P v → PlainOptional Q w → next_is (λ t. first t || go t) rest ≡ false → IsReadOrBreaks rest (ending_at first p finish a (v ++ (w ++ rest)))
    plain_on a v w rest none (inr g) ends = rw (g, ending_ends first p finish a rest (next_or first go rest ends).0) refl
    plain_on a v w rest none (inl g) ends = by (p a (w ++ rest)) refl ((reads a).plain w rest (inr g) (next_or first go rest ends).1)
      where
        by : (r : Result (Turn A C × List T) (List T × Why)) → p a (w ++ rest) ≡ r → IsReadOrBreaks rest r → IsReadOrBreaks rest (ending_at first p finish a (w ++ rest))
        by (Ok (last c, r)) e same = rw (ending_closes first p finish a (w ++ rest) c r (begins_last a w rest g) e) same
        by (Ok (onward b, r)) e same = absurd (differ w (is_onward a b w (same_front a (onward b) w rest r e same)) g)
        by (Err (r, Unexpected)) e h = absurd h
        by (Err (r, Breaks n)) e h = rw (ending_fails first p finish a (w ++ rest) (r, Breaks n) (begins_last a w rest g) e) tt
    plain_on a v w rest (more u x f g) h ends = rw (append_assoc u x (w ++ rest)) (by (λ b. plain_on b x w rest g h ends) (p a (u ++ (x ++ (w ++ rest)))) refl ((reads a).plain u (x ++ (w ++ rest)) (inl f) (link a x w rest g h ends)))
      where
        is : next_is first (u ++ (x ++ (w ++ rest))) ≡ true
        is = begins_onward a u (x ++ (w ++ rest)) f

        by : ((b : A) → IsReadOrBreaks rest (ending_at first p finish b (x ++ (w ++ rest)))) → (r : Result (Turn A C × List T) (List T × Why)) → p a (u ++ (x ++ (w ++ rest))) ≡ r → IsReadOrBreaks (x ++ (w ++ rest)) r → IsReadOrBreaks rest (ending_at first p finish a (u ++ (x ++ (w ++ rest))))
        by again (Ok (onward b, r)) e same = rw (ending_goes first p finish turns_shrink a (u ++ (x ++ (w ++ rest))) b r is e, same) (again b)
        by again (Ok (last c, r)) e same = absurd (differ u f (is_last a c u (same_front a (last c) u (x ++ (w ++ rest)) r e same)))
        by again (Err (r, Unexpected)) e h = absurd h
        by again (Err (r, Breaks n)) e h = rw (ending_fails first p finish a (u ++ (x ++ (w ++ rest))) (r, Breaks n) is e) tt

    -- a rule is broken in the next phrase
    broken_now : (a : A) (n : ℕ) (w : List T) → Turned (L a) (M a) (Err n) w → StopsIn (ending_at first p finish a) (PlainPhrases P Q) n w
    broken_now a n w h =
        let s = (reads a).broken n w h in
        let (rest_of, g) = s.goes_on in
        let is = first_of s first true rest_of (next_stays first (w ++ rest_of) [] (begins (reads a) (w ++ rest_of) g)) in
        stops_here s (λ rest. ending_fails first p finish a (s.front ++ s.last ∷ rest) (s.last ∷ rest, Breaks n) (is rest) (s.stops rest)) (front_in (PlainEither P Q) (PlainPhrases P Q) [] w (λ v i. ([], rw (append-nil v) (one_plain v i))) s.goes_on)

    -- or behind the next phrase
    broken_behind : (a b : A) (u w : List T) (n : ℕ) → L a (Ok b) u → StopsIn (ending_at first p finish b) (PlainPhrases P Q) n w → StopsIn (ending_at first p finish a) (PlainPhrases P Q) n (u ++ w)
    broken_behind a b u w n f s =
        let (rest_of, (x, y, g, h, split)) = s.goes_on in
        let then_ends : next_is go ((w ++ rest_of) ++ []) ≡ false = rw (split, append_assoc x y []) (link a x y [] g h refl) in
        let ends = first_of s go false rest_of then_ends in
        let is : (rest : List T) → next_is first (u ++ (s.front ++ s.last ∷ rest)) ≡ true = λ rest. begins_onward a u (s.front ++ s.last ∷ rest) (is_onward a b u f) in
        let one : (rest : List T) → p a (u ++ (s.front ++ s.last ∷ rest)) ≡ Ok (onward b, s.front ++ s.last ∷ rest) = λ rest. (reads a).complete (onward b) u (s.front ++ s.last ∷ rest) f (ends rest) in
        let way : IsFront (PlainPhrases P Q) (u ++ w) = front_in (PlainPhrases P Q) (PlainPhrases P Q) u w (λ v i. ([], rw (append-nil v) (plain_behind u v (is_onward a b u f) i))) s.goes_on in
        stops_behind s u (λ rest. ending_goes first p finish turns_shrink a (u ++ (s.front ++ s.last ∷ rest)) b (s.front ++ s.last ∷ rest) (is rest) (one rest) ∙ s.stops rest) way

    growing_broken : (a : A) (n : ℕ) (ts : List T) → Growing L a (Err n) ts → StopsIn (ending_at first p finish a) (PlainPhrases P Q) n ts
    growing_broken a n ts (broken _ _ v h) = broken_now a n ts (inl h)
    growing_broken a n ts (grown _ b _ v w f g) = broken_behind a b v w n f (growing_broken b n w g)

    last_broken : (a b : A) (n : ℕ) (v w : List T) → Growing L a (Ok b) v → M b (Err n) w → StopsIn (ending_at first p finish a) (PlainPhrases P Q) n (v ++ w)
    last_broken a b n v w (ended _) h = broken_now a n w (inr h)
    last_broken a b n v w (grown _ d _ u x f g) h = rw (append_assoc u x w) (broken_behind a d u (x ++ w) n f (last_broken d b n x w g h))

    ending_broken : (a : A) (n : ℕ) (ts : List T) → Phrases finish L M a (Err n) ts → StopsIn (ending_at first p finish a) (PlainPhrases P Q) n ts
    ending_broken a n ts (inl h) = growing_broken a n ts h
    ending_broken a n ts (inr (b, v, w, f, inl h, split)) = rw split (last_broken a b n v w f h)
    ending_broken a n ts (inr (b, v, w, f, inr h, split)) = absurd h

    pub ending_reads : (a : A) → Reads (ending_at first p finish a) (Then (Growing L a) (λ b. Optional (finish b) (M b))) (PlainThen (PlainMany P) (PlainOptional Q)) (May first) (λ t. first t || go t)
    ending_reads a = record {
      took = λ ts c rest e. took_within (length ts) a ts c rest (omega arith) e;
      stuck = λ ts rest why e. stuck_within (length ts) a ts rest why (omega arith) e;
      complete = λ c front rest h ends. let (b, v, w, f, g, split) = h in rw (split, append_assoc v w rest) (complete_on a b c v w rest f g ends);
      broken = ending_broken a;
      plain = λ front rest h ends. let (v, w, f, g, split) = h in rw (split, append_assoc v w rest) (plain_on a v w rest f g ends);
      is_plain = λ c ts h. let (b, v, w, f, g, split) = h in (v, w, many_plain a b v f, last_plain b c w g, split);
      starts = λ ts h. (finish a, ending_ends first p finish a ts h);
      some = finish a;
      example = ([], ([], [], none, inr refl, refl));
    }
