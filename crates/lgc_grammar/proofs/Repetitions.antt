-- Repetitions and lists.
--
-- One more phrase is read as long as the next token begins one. All lists are a phrase and a repetition of what stands
-- between and behind, so they follow from `many_reads`. The one condition is that a phrase isn't led on by a token with
-- which another begins. The fuel of `many_at` shows in this file alone: everything else stands on the laws `many_ends`,
-- `many_fails` and `many_goes`.
use Rattle.std.proofs.Common.{◌≡◌, ℕ, zero, suc, ◌<◌, ◌≤◌, Bool, true, false, List, [], ◌∷◌, ◌++◌, length, Result, Ok, Err, refl, sym, ap, subst, ◌∙◌, append_assoc, append-nil, arith, inl, inr, ◌⊎◌, length-append}
use Rattle.std.specs.Prelude.{◌||◌}
use Rattle.lgc_grammar.specs.Grammar.{Grammar, Language, Phrase, IsFront, Why, Unexpected, Breaks, One, Either, Row, Many, Listed, Behind, Separated, Loosely, PlainOne, PlainThen, PlainEither, PlainMany, none, more, PlainSeparated, PlainLoosely}
use Rattle.lgc_grammar.specs.Reading.{Reader, and_then, next_is, one_at, either_at, many_within, many_at, listed_at, behind_at, separated_at, loosely_at}
use Rattle.lgc_grammar.proofs.Readers.{Reads, ReadsAll, Took, Stuck, Start, Must, May, Follows, next_or, SameNext, IsReadOrBreaks, never, ok, err, ok_rest, ok_tree, and_then_ok, and_then_err, next_alike, next_stays, next_apart, same_behind, viable_in, front_in, StopsIn, first_of, stops_here, stops_behind, begins, either_way, or_right, goes_with, reads_all}
use Rattle.lgc_grammar.proofs.Basic.{map_reads}
use Rattle.lgc_grammar.proofs.Sequences.{then_reads, then_reads_if, start_then}
use Rattle.lgc_grammar.proofs.Choices.{either_reads}

-- p takes a token at least, where the next one passes `first`.
pub record Shrinks {T A : Type 0} (first : T → Bool) (p : Reader T A) : Type 0 where
  pub less : (ts : List T) (a : A) (rest : List T) → next_is first ts ≡ true → p ts ≡ Ok (a, rest) → length rest < length ts

-- ---- the laws of many_at

module _ {T A : Type 0} (first : T → Bool) (p : Reader T A) where
  pub many_ends : (ts : List T) → next_is first ts ≡ false → many_at first p ts ≡ Ok ([], ts)
  unfolding many_at
  many_ends [] h = refl
  many_ends (t ∷ ts) h = rw h refl

  pub many_fails : (ts : List T) (e : List T × Why) → next_is first ts ≡ true → p ts ≡ Err e → many_at first p ts ≡ Err e
  unfolding many_at
  many_fails [] e h f = absurd cc
  many_fails (t ∷ ts) e h f = rw (h, f) refl

module _ {T A : Type 0} {first : T → Bool} {p : Reader T A} (shrinks : Shrinks first p) where
  -- any bound that is large enough gives the same
  enough : (n m : ℕ) (ts : List T) → length ts ≤ n → length ts ≤ m → many_within n first p ts ≡ many_within m first p ts
  enough zero zero ts le lf = refl
  enough zero (suc m) [] le lf = refl
  enough (suc n) zero [] le lf = refl
  enough zero (suc m) (t ∷ ts) le lf = absurd (omega arith)
  enough (suc n) zero (t ∷ ts) le lf = absurd (omega arith)
  enough (suc n) (suc m) ts le lf = by (λ r below. enough n m r (omega arith) (omega arith)) (either_way (next_is first ts))
    where
      by : ((r : List T) → length r < length ts → many_within n first p r ≡ many_within m first p r) → (next_is first ts ≡ true) ⊎ (next_is first ts ≡ false) → many_within (suc n) first p ts ≡ many_within (suc m) first p ts
      by again (inr h) = rw h refl
      by again (inl h) = at (p ts) refl
        where
          at : (r : Result (A × List T) (List T × Why)) → p ts ≡ r → many_within (suc n) first p ts ≡ many_within (suc m) first p ts
          at (Err e) f = rw (h, f) refl
          at (Ok x) f = rw (h, f, again x.1 (shrinks.less ts x.0 x.1 h f)) refl

  pub many_goes : (ts : List T) (a : A) (rest : List T) → next_is first ts ≡ true → p ts ≡ Ok (a, rest) → many_at first p ts ≡ and_then (many_at first p rest) (λ y. Ok (a ∷ y.0, y.1))
  unfolding many_at
  many_goes [] a rest h e = absurd cc
  many_goes (t ∷ ts) a rest h e =
      let less : length rest < length (t ∷ ts) = shrinks.less (t ∷ ts) a rest h e in
      rw (h, e, enough (length ts) (length rest) rest (omega arith) (omega arith)) refl

-- ---- { x }

module _ {T A : Type 0} {first : T → Bool} {p : Reader T A} {L : Grammar T A} {P : Language T} {go : T → Bool} (reads : Reads p L P (Must first) go) where
  -- a phrase has a token
  longer : (a : A) (front rest : List T) → L (Ok a) front → length rest < length (front ++ rest)
  longer a front rest h = by front (begins reads front (reads.is_plain a front h))
    where
      by : (front : List T) → next_is first front ≡ true → length rest < length (front ++ rest)
      by [] g = absurd cc
      by (t ∷ front) g = omega (arith, length-append front rest)

  pub reads_shrink : Shrinks first p
  reads_shrink = record { less = λ ts a rest h e. let k = reads.took ts a rest e in rw k.split (longer a k.front rest k.phrase) }

module _ {T A : Type 0} {first : T → Bool} {p : Reader T A} {L : Grammar T A} {P : Language T} {go : T → Bool} (reads : Reads p L P (Must first) go) where
  goes : (ts : List T) (a : A) (rest : List T) (others : List A) (after : List T) → next_is first ts ≡ true → p ts ≡ Ok (a, rest) → many_at first p rest ≡ Ok (others, after) → many_at first p ts ≡ Ok (a ∷ others, after)
  goes ts a rest others after h e f = many_goes (reads_shrink reads) ts a rest h e ∙ rw f refl

  goes_stuck : (ts : List T) (a : A) (rest : List T) (e : List T × Why) → next_is first ts ≡ true → p ts ≡ Ok (a, rest) → many_at first p rest ≡ Err e → many_at first p ts ≡ Err e
  goes_stuck ts a rest e h f g = many_goes (reads_shrink reads) ts a rest h f ∙ rw g refl

  -- no phrase is next
  took_none : (ts : List T) (others : List A) (rest : List T) → next_is first ts ≡ false → ok {A = List A × List T} {E = List T × Why} ([], ts) ≡ Ok (others, rest) → Took (many_at first p) (Many L) ts others rest
  took_none ts others rest h e = record {
    front = [];
    split = ok_rest e;
    phrase = subst (λ (x : List A). Many L (Ok x) []) (ok_tree e) refl;
    near = λ other look. many_ends first p other (sym (next_alike first [] rest other look) ∙ ap (next_is first) (sym (ok_rest e)) ∙ h) ∙ ap (λ (x : List A). ok {A = List A × List T} (x, other)) (ok_tree e);
  }

  -- one more, and those behind it
  module _ (ts : List T) (a : A) (r : List T) (is : next_is first ts ≡ true) (k : Took p L ts a r) where
    -- what is read behind the one more
    near_one : (front after : List T) → r ≡ front ++ after → (other : List T) → SameNext after other → p ((k.front ++ front) ++ other) ≡ Ok (a, front ++ other)
    near_one front after split other look =
        let one = k.near (front ++ other) (subst (λ (x : List T). SameNext x (front ++ other)) (sym split) (same_behind front after other look)) in
        rw (append_assoc k.front front other) one

    is_next : (front other : List T) → next_is first ((k.front ++ front) ++ other) ≡ true
    is_next front other = rw (append_assoc k.front front other) (next_stays first k.front (front ++ other) (begins reads k.front (reads.is_plain a k.front k.phrase)))

    split_one : (front after : List T) → r ≡ front ++ after → ts ≡ (k.front ++ front) ++ after
    split_one front after split = k.split ∙ ap (λ (x : List T). k.front ++ x) split ∙ sym (append_assoc k.front front after)

    took_one : (others : List A) (rest : List T) → Took (many_at first p) (Many L) r others rest → Took (many_at first p) (Many L) ts (a ∷ others) rest
    took_one others rest m = record {
      front = k.front ++ m.front;
      split = split_one m.front rest m.split;
      phrase = (k.front, m.front, k.phrase, m.phrase, refl);
      near = λ other look. goes ((k.front ++ m.front) ++ other) a (m.front ++ other) others other (is_next m.front other) (near_one m.front rest m.split other look) (m.near other look);
    }

    row_breaks : (n : ℕ) (w : List T) → Many L (Err n) w → Many L (Err n) (k.front ++ w)
    row_breaks n w (before, x, y, f, g, e) = (a ∷ before, k.front ++ x, y, (k.front, x, k.phrase, f, refl), g, ap (λ (u : List T). k.front ++ u) e ∙ sym (append_assoc k.front x y))

    stuck_one : (rest : List T) (why : Why) → Stuck (many_at first p) (Many L) (PlainMany P) r rest why → Stuck (many_at first p) (Many L) (PlainMany P) ts rest why
    stuck_one rest why m = record {
      front = k.front ++ m.front;
      split = split_one m.front rest m.split;
      viable = viable_in (Many L) (Many L) (PlainMany P) (PlainMany P) k.front m.front rest why (λ n w h. row_breaks n w h) (λ w h. ([], rw (append-nil w) (more k.front w (reads.is_plain a k.front k.phrase) h))) m.viable;
      near = λ other look. goes_stuck ((k.front ++ m.front) ++ other) a (m.front ++ other) (other, why) (is_next m.front other) (near_one m.front rest m.split other look) (m.near other look);
    }

  stuck_here : (ts rest : List T) (why : Why) → next_is first ts ≡ true → Stuck p L P ts rest why → Stuck (many_at first p) (Many L) (PlainMany P) ts rest why
  stuck_here ts rest why h k = record {
    front = k.front;
    split = k.split;
    viable = viable_in L (Many L) P (PlainMany P) [] k.front rest why (λ n w h. ([], [], w, refl, h, refl)) (λ v g. ([], more v [] g none)) k.viable;
    near = λ other look. many_fails first p (k.front ++ other) (other, why) (sym (next_alike first k.front rest other look) ∙ ap (next_is first) (sym k.split) ∙ h) (k.near other look);
  }

  -- with a bound on the number of tokens
  took_within : (n : ℕ) (ts : List T) (others : List A) (rest : List T) → length ts ≤ n → many_at first p ts ≡ Ok (others, rest) → Took (many_at first p) (Many L) ts others rest
  took_within n [] others rest le e = took_none [] others rest refl (sym (many_ends first p [] refl) ∙ e)
  took_within zero (t ∷ ts) others rest le e = absurd (omega arith)
  took_within (suc n) (t ∷ ts) others rest le e = at (λ r x y below f. took_within n r x y below f) (either_way (first t))
    where
      at : ((r : List T) (x : List A) (y : List T) → length r ≤ n → many_at first p r ≡ Ok (x, y) → Took (many_at first p) (Many L) r x y) → (first t ≡ true) ⊎ (first t ≡ false) → Took (many_at first p) (Many L) (t ∷ ts) others rest
      at again (inr h) = took_none (t ∷ ts) others rest h (sym (many_ends first p (t ∷ ts) h) ∙ e)
      at again (inl h) = by (p (t ∷ ts)) refl
        where
          by : (r : Result (A × List T) (List T × Why)) → p (t ∷ ts) ≡ r → Took (many_at first p) (Many L) (t ∷ ts) others rest
          by (Err c) f = let g = sym (many_fails first p (t ∷ ts) c h f) ∙ e in absurd cc
          by (Ok x) f =
              let shrinks : Shrinks first p = reads_shrink reads in
              let less = shrinks.less (t ∷ ts) x.0 x.1 h f in
              let s = and_then_ok (many_at first p x.1) (λ y. Ok (x.0 ∷ y.0, y.1)) (others, rest) (sym (many_goes shrinks (t ∷ ts) x.0 x.1 h f) ∙ e) in
              let m = again x.1 s.0.0 s.0.1 (omega arith) s.1 in
              let tree : (x.0 ∷ s.0.0) ≡ others = ok_tree s.2 in
              let same : s.0.1 ≡ rest = ok_rest s.2 in
              subst (λ (o : List A). Took (many_at first p) (Many L) (t ∷ ts) o rest) tree (subst (λ (o : List T). Took (many_at first p) (Many L) (t ∷ ts) (x.0 ∷ s.0.0) o) same (took_one (t ∷ ts) x.0 x.1 h (reads.took (t ∷ ts) x.0 x.1 f) s.0.0 s.0.1 m))

  stuck_within : (n : ℕ) (ts rest : List T) (why : Why) → length ts ≤ n → many_at first p ts ≡ Err (rest, why) → Stuck (many_at first p) (Many L) (PlainMany P) ts rest why
  stuck_within n [] rest why le e = let g = sym (many_ends first p [] refl) ∙ e in absurd cc
  stuck_within zero (t ∷ ts) rest why le e = absurd (omega arith)
  stuck_within (suc n) (t ∷ ts) rest why le e = at (λ r below f. stuck_within n r rest why below f) (either_way (first t))
    where
      at : ((r : List T) → length r ≤ n → many_at first p r ≡ Err (rest, why) → Stuck (many_at first p) (Many L) (PlainMany P) r rest why) → (first t ≡ true) ⊎ (first t ≡ false) → Stuck (many_at first p) (Many L) (PlainMany P) (t ∷ ts) rest why
      at again (inr h) = let g = sym (many_ends first p (t ∷ ts) h) ∙ e in absurd cc
      at again (inl h) = by (p (t ∷ ts)) refl
        where
          by : (r : Result (A × List T) (List T × Why)) → p (t ∷ ts) ≡ r → Stuck (many_at first p) (Many L) (PlainMany P) (t ∷ ts) rest why
          by (Err c) f =
              let g = sym (many_fails first p (t ∷ ts) c h f) ∙ e in
              let same : c ≡ (rest, why) = cc in
              stuck_here (t ∷ ts) rest why h (reads.stuck (t ∷ ts) rest why (f ∙ ap (λ (d : List T × Why). err d) same))
          by (Ok x) f = turn (and_then_err (many_at first p x.1) (λ y. Ok (x.0 ∷ y.0, y.1)) (rest, why) (sym (many_goes (reads_shrink reads) (t ∷ ts) x.0 x.1 h f) ∙ e))
            where
              turn : (many_at first p x.1 ≡ Err (rest, why)) ⊎ ((y : List A × List T) × (many_at first p x.1 ≡ Ok y) × (ok {A = List A × List T} {E = List T × Why} (x.0 ∷ y.0, y.1) ≡ Err (rest, why))) → Stuck (many_at first p) (Many L) (PlainMany P) (t ∷ ts) rest why
              turn (inl g) =
                  let shrinks : Shrinks first p = reads_shrink reads in
                  let less = shrinks.less (t ∷ ts) x.0 x.1 h f in
                  stuck_one (t ∷ ts) x.0 x.1 h (reads.took (t ∷ ts) x.0 x.1 f) rest why (again x.1 (omega arith) g)
              turn (inr (y, g, k)) = absurd cc

  module _ (apart : (t : T) → first t ≡ true → go t ≡ false) where
    -- what follows a phrase is another, or what follows all of them
    link : (w rest : List T) → PlainMany P w → next_is (λ t. first t || go t) rest ≡ false → next_is go (w ++ rest) ≡ false
    link w rest none ends = (next_or first go rest ends).1
    link w rest (more v u f g) ends = rw (append_assoc v u rest) (next_apart first go apart (v ++ (u ++ rest)) (next_stays first v (u ++ rest) (begins reads v f)))

    many_is_plain : (all : List A) (ts : List T) → Many L (Ok all) ts → PlainMany P ts
    many_is_plain [] ts h = rw h none
    many_is_plain (a ∷ others) ts (v, w, f, g, split) = rw split (more v w (reads.is_plain a v f) (many_is_plain others w g))

    many_complete : (all : List A) (front rest : List T) → Many L (Ok all) front → next_is (λ t. first t || go t) rest ≡ false → many_at first p (front ++ rest) ≡ Ok (all, rest)
    many_complete [] front rest h ends = rw h (many_ends first p rest (next_or first go rest ends).0)
    many_complete (a ∷ others) front rest (v, w, f, g, split) ends =
        let one : p (v ++ (w ++ rest)) ≡ Ok (a, w ++ rest) = reads.complete a v (w ++ rest) f (link w rest (many_is_plain others w g) ends) in
        rw (split, append_assoc v w rest) (goes (v ++ (w ++ rest)) a (w ++ rest) others rest (next_stays first v (w ++ rest) (begins reads v (reads.is_plain a v f))) one (many_complete others w rest g ends))

    many_plain : (front rest : List T) → PlainMany P front → next_is (λ t. first t || go t) rest ≡ false → IsReadOrBreaks rest (many_at first p (front ++ rest))
    many_plain front rest none ends = rw (many_ends first p rest (next_or first go rest ends).0) refl
    many_plain front rest (more v w f g) ends = rw (append_assoc v w rest) (by (many_plain w rest g ends) (p (v ++ (w ++ rest))) refl (reads.plain v (w ++ rest) f (link w rest g ends)))
      where
        is : next_is first (v ++ (w ++ rest)) ≡ true
        is = next_stays first v (w ++ rest) (begins reads v f)

        last : (x : A) (r : Result (List A × List T) (List T × Why)) → IsReadOrBreaks rest r → IsReadOrBreaks rest (and_then r (λ y. Ok (x ∷ y.0, y.1)))
        last x (Ok y) h = h
        last x (Err (r, Unexpected)) h = h
        last x (Err (r, Breaks n)) h = tt

        by : IsReadOrBreaks rest (many_at first p (w ++ rest)) → (r : Result (A × List T) (List T × Why)) → p (v ++ (w ++ rest)) ≡ r → IsReadOrBreaks (w ++ rest) r → IsReadOrBreaks rest (many_at first p (v ++ (w ++ rest)))
        by again (Ok x) e same = rw (many_goes (reads_shrink reads) (v ++ (w ++ rest)) x.0 x.1 is e, same) (last x.0 (many_at first p (w ++ rest)) again)
        by again (Err (r, Unexpected)) e h = absurd h
        by again (Err (r, Breaks n)) e h = rw (many_fails first p (v ++ (w ++ rest)) (r, Breaks n) is e) tt

    many_broken : (n : ℕ) (before : List A) (v w : List T) → Row L before v → L (Err n) w → StopsIn (many_at first p) (PlainMany P) n (v ++ w)
    many_broken n [] v w row h =
        let s = reads.broken n w h in
        let (rest_of, g) = s.goes_on in
        let is = first_of s first true rest_of (next_stays first (w ++ rest_of) [] (begins reads (w ++ rest_of) g)) in
        rw row (stops_here s (λ rest. many_fails first p (s.front ++ s.last ∷ rest) (s.last ∷ rest, Breaks n) (is rest) (s.stops rest)) (front_in P (PlainMany P) [] w (λ x i. ([], more x [] i none)) s.goes_on))
    many_broken n (a ∷ before) v w (x, y, f, g, split) h =
        let s = many_broken n before y w g h in
        let (rest_of, i) = s.goes_on in
        let ends = first_of s go false rest_of (link ((y ++ w) ++ rest_of) [] i refl) in
        let is : (rest : List T) → next_is first (x ++ (s.front ++ s.last ∷ rest)) ≡ true = λ rest. next_stays first x (s.front ++ s.last ∷ rest) (begins reads x (reads.is_plain a x f)) in
        let way : IsFront (PlainMany P) (x ++ (y ++ w)) = front_in (PlainMany P) (PlainMany P) x (y ++ w) (λ u j. ([], rw (append-nil u) (more x u (reads.is_plain a x f) j))) s.goes_on in
        let stops = λ (rest : List T). goes_stuck (x ++ (s.front ++ s.last ∷ rest)) a (s.front ++ s.last ∷ rest) (s.last ∷ rest, Breaks n) (is rest) (reads.complete a x (s.front ++ s.last ∷ rest) f (ends rest)) (s.stops rest) in
        rw (split, append_assoc x y w) (stops_behind s x stops way)

    broken_in : (n : ℕ) (ts : List T) → Many L (Err n) ts → StopsIn (many_at first p) (PlainMany P) n ts
    broken_in n ts (before, v, w, row, h, split) = rw split (many_broken n before v w row h)

    pub many_reads : Reads (many_at first p) (Many L) (PlainMany P) (May first) (λ t. first t || go t)
    many_reads = record {
      took = λ ts others rest e. took_within (length ts) ts others rest (omega arith) e;
      stuck = λ ts rest why e. stuck_within (length ts) ts rest why (omega arith) e;
      complete = many_complete;
      broken = broken_in;
      plain = many_plain;
      is_plain = many_is_plain;
      starts = λ ts h. ([], many_ends first p ts h);
      some = [];
      example = ([], none);
    }

-- plain phrases in a row, where each has a tree
many_trees : {T A : Type 0} (L : Grammar T A) {P : Language T} → ((ts : List T) → P ts → Phrase L ts) → (ts : List T) → PlainMany P ts → Phrase (Many L) ts
many_trees L trees ts none = ([], refl)
many_trees L trees ts (more v w f g) = let (a, h) = trees v f in let (others, k) = many_trees L trees w g in (a ∷ others, (v, w, h, k, refl))

pub many_all : {T A : Type 0} {first : T → Bool} {p : Reader T A} {L : Grammar T A} {go : T → Bool} → ReadsAll p L (Must first) go → ((t : T) → first t ≡ true → go t ≡ false) → ReadsAll (many_at first p) (Many L) (May first) (λ t. first t || go t)
many_all {L = L} reads apart = reads_all (many_reads reads apart) (many_trees L (λ ts h. h))

-- ---- x { y }

-- what follows each of them is another, or what follows all
list_ends : {T : Type 0} (first go next : T → Bool) → ((t : T) → first t ≡ true → go t ≡ false) → ((t : T) → next t ≡ false → go t ≡ false) → Follows (May first) (λ t. first t || next t) go
list_ends first go next apart less = (apart, (λ t h. less t (or_right (first t) (next t) h)))

module _ {T A : Type 0} {p q : Reader T A} {L M : Grammar T A} {P Q : Language T} {start : Start T} {first go : T → Bool} where
  pub listed_reads : Reads p L P start go → Reads q M Q (Must first) go → ((t : T) → first t ≡ true → go t ≡ false) → Reads (listed_at p (many_at first q)) (Listed L M) (PlainThen P (PlainMany Q)) (start_then start (May first)) (λ t. first t || go t)
  listed_reads reads others apart = then_reads_if reads (λ a. map_reads (λ (others : List A). a ∷ others) (many_reads others apart)) (list_ends first go go apart (λ t h. h))

listed_trees : {T A : Type 0} (L M : Grammar T A) {P Q : Language T} → ((ts : List T) → P ts → Phrase L ts) → ((ts : List T) → Q ts → Phrase M ts) → (ts : List T) → PlainThen P (PlainMany Q) ts → Phrase (Listed L M) ts
listed_trees L M trees others ts (v, w, f, g, split) = let (a, h) = trees v f in let (rest, k) = many_trees M others w g in (a ∷ rest, (a, v, w, h, (rest, refl, k), split))

-- ---- x { sep x }

behind_trees : {T A : Type 0} (sep : T → Bool) (L : Grammar T A) (ts : List T) → PlainThen (PlainOne sep) (Phrase L) ts → Phrase (Behind sep L) ts
behind_trees sep L ts (v, w, (t, h), (a, g), split) = (a, (t, v, w, h, g, split))

module _ {T A : Type 0} {sep : T → Bool} {p : Reader T A} {L : Grammar T A} {go : T → Bool} where
  behind_reads : {P : Language T} {start : Start T} → Reads (one_at sep) (One sep) (PlainOne sep) (Must sep) never → Reads p L P start go → Reads (behind_at sep p) (Behind sep L) (PlainThen (PlainOne sep) P) (Must sep) go
  behind_reads separator reads = then_reads separator (λ _. reads)

  pub separated_reads : {P : Language T} {first : T → Bool} → Reads (one_at sep) (One sep) (PlainOne sep) (Must sep) never → Reads p L P (Must first) go → ((t : T) → sep t ≡ true → go t ≡ false) → Reads (separated_at sep p) (Separated sep L) (PlainSeparated sep P) (Must first) (λ t. sep t || go t)
  separated_reads separator reads apart = listed_reads reads (behind_reads separator reads) apart

  pub separated_all : {first : T → Bool} → ReadsAll (one_at sep) (One sep) (Must sep) never → ReadsAll p L (Must first) go → ((t : T) → sep t ≡ true → go t ≡ false) → ReadsAll (separated_at sep p) (Separated sep L) (Must first) (λ t. sep t || go t)
  separated_all separator reads apart = reads_all (separated_reads separator reads apart) (listed_trees L (Behind sep L) (λ ts h. h) (behind_trees sep L))

-- ---- x { [ sep ] x }

-- x, behind a separator or not
abbrev pub next_at : {T A : Type 0} → (T → Bool) → Reader T A → Reader T A
next_at sep p = either_at sep (behind_at sep p) p

next_trees : {T A : Type 0} (sep : T → Bool) (L : Grammar T A) (ts : List T) → PlainEither (PlainThen (PlainOne sep) (Phrase L)) (Phrase L) ts → Phrase (Either (Behind sep L) L) ts
next_trees sep L ts (inl (v, w, (t, h), (a, g), split)) = (a, inl (t, v, w, h, g, split))
next_trees sep L ts (inr (a, h)) = (a, inr h)

next_ends : {T : Type 0} (sep first go : T → Bool) → ((t : T) → sep t ≡ true → go t ≡ false) → ((t : T) → first t ≡ true → go t ≡ false) → (t : T) → (sep t || first t) ≡ true → go t ≡ false
next_ends sep first go sep_ends first_ends t h = by (either_way (sep t))
  where
    by : (sep t ≡ true) ⊎ (sep t ≡ false) → go t ≡ false
    by (inl g) = sep_ends t g
    by (inr g) = first_ends t (rw g at h)

module _ {T A : Type 0} {sep first : T → Bool} {p : Reader T A} {L : Grammar T A} {go : T → Bool} where
  next_reads : {P : Language T} → Reads (one_at sep) (One sep) (PlainOne sep) (Must sep) never → Reads p L P (Must first) go → ((t : T) → first t ≡ true → sep t ≡ false) → Reads (next_at sep p) (Either (Behind sep L) L) (PlainEither (PlainThen (PlainOne sep) P) P) (Must (λ t. sep t || first t)) go
  next_reads separator reads apart = goes_with (either_reads (behind_reads separator reads) reads apart) go (λ t h. rw h refl)

  pub loosely_reads : {P : Language T} → Reads (one_at sep) (One sep) (PlainOne sep) (Must sep) never → Reads p L P (Must first) go → ((t : T) → first t ≡ true → sep t ≡ false) → ((t : T) → sep t ≡ true → go t ≡ false) → ((t : T) → first t ≡ true → go t ≡ false) → Reads (loosely_at sep first p) (Loosely sep L) (PlainLoosely sep P) (Must first) (λ t. (sep t || first t) || go t)
  loosely_reads separator reads apart sep_ends first_ends = listed_reads reads (next_reads separator reads apart) (next_ends sep first go sep_ends first_ends)

  pub loosely_all : ReadsAll (one_at sep) (One sep) (Must sep) never → ReadsAll p L (Must first) go → ((t : T) → first t ≡ true → sep t ≡ false) → ((t : T) → sep t ≡ true → go t ≡ false) → ((t : T) → first t ≡ true → go t ≡ false) → ReadsAll (loosely_at sep first p) (Loosely sep L) (Must first) (λ t. (sep t || first t) || go t)
  loosely_all separator reads apart sep_ends first_ends = reads_all (loosely_reads separator reads apart sep_ends first_ends) (listed_trees L (Either (Behind sep L) L) (λ ts h. h) (next_trees sep L))
