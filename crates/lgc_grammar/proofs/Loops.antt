-- The loops of the code. A loop that reads a list keeps one equation: what it has so far, and before it what reading
-- gives from here on, is what reading gives from the start. Each turn keeps it by a lemma of this file.
use Rattle.std.proofs.Common.{◌≡◌, ◌<◌, ◌≤◌, Bool, true, false, cond, List, Option, Some, None, [], ◌∷◌, ◌++◌, length, Result, Ok, Err, refl, sym, ap, ◌∙◌, append_assoc, append-nil, inl, inr, ◌⊎◌, arith, length-append}
use Rattle.std.specs.Prelude.{◌||◌}
use Rattle.lgc_grammar.specs.Grammar.{Grammar, Language, Why}
use Rattle.lgc_grammar.specs.Reading.{Reader, and_then, next_is, skip, many_at, behind_at, more_at, listed_at, more_loosely_at, past}
use Rattle.lgc_grammar.proofs.Readers.{Reads, Start, Must, ok, either_way}
use Rattle.lgc_grammar.proofs.Repetitions.{Shrinks, many_ends, many_fails, many_goes, reads_shrink, next_at}

-- what was read so far, and what is still to come
abbrev pub with_front : {T A : Type 0} → List A → Result (List A × List T) (List T × Why) → Result (List A × List T) (List T × Why)
with_front front r = and_then r (λ y. Ok (front ++ y.0, y.1))

pushed : {T A : Type 0} (front : List A) (a : A) (r : Result (List A × List T) (List T × Why)) → with_front (front ++ a ∷ []) r ≡ with_front front (and_then r (λ y. Ok (a ∷ y.0, y.1)))
pushed {T} {A} front a (Ok y) = ap (λ (x : List A). ok {A = List A × List T} (x, y.1)) (append_assoc front (a ∷ []) y.0)
pushed front a (Err e) = refl

-- ---- { x }

-- before the first turn
pub begins_many : {T A : Type 0} (r : Result (List A × List T) (List T × Why)) → with_front [] r ≡ r
begins_many (Ok y) = refl
begins_many (Err e) = refl

module _ {T A : Type 0} {first : T → Bool} {p : Reader T A} (shrinks : Shrinks first p) (front : List A) (total : Result (List A × List T) (List T × Why)) (ts : List T) where
  -- one more phrase
  takes : (a : A) (rest : List T) → next_is first ts ≡ true → p ts ≡ Ok (a, rest) → with_front front (many_at first p ts) ≡ total → with_front (front ++ a ∷ []) (many_at first p rest) ≡ total
  takes a rest h e so_far = pushed front a (many_at first p rest) ∙ ap (with_front front) (sym (many_goes shrinks ts a rest h e)) ∙ so_far

  -- a phrase begins, and stops
  stops : (e : List T × Why) → next_is first ts ≡ true → p ts ≡ Err e → with_front front (many_at first p ts) ≡ total → total ≡ Err e
  stops e h f so_far = sym so_far ∙ ap (with_front front) (many_fails first p ts e h f)

  -- no phrase begins
  ended : next_is first ts ≡ false → with_front front (many_at first p ts) ≡ total → total ≡ Ok (front, ts)
  ended h so_far = sym so_far ∙ ap (with_front front) (many_ends first p ts h) ∙ ap (λ (x : List A). ok {A = List A × List T} (x, ts)) (append-nil front)

module _ {T A : Type 0} {first : T → Bool} {p : Reader T A} {L : Grammar T A} {P : Language T} {go : T → Bool} (reads : Reads p L P (Must first) go) (front : List A) (total : Result (List A × List T) (List T × Why)) (ts : List T) where
  pub many_takes : (a : A) (rest : List T) → next_is first ts ≡ true → p ts ≡ Ok (a, rest) → with_front front (many_at first p ts) ≡ total → with_front (front ++ a ∷ []) (many_at first p rest) ≡ total
  many_takes = takes (reads_shrink reads) front total ts

  pub many_stops : (e : List T × Why) → next_is first ts ≡ true → p ts ≡ Err e → with_front front (many_at first p ts) ≡ total → total ≡ Err e
  many_stops = stops (reads_shrink reads) front total ts

  pub many_ended : next_is first ts ≡ false → with_front front (many_at first p ts) ≡ total → total ≡ Ok (front, ts)
  many_ended = ended (reads_shrink reads) front total ts

-- ---- x { y }

module _ {T A : Type 0} (p : Reader T A) (q : Reader T (List A)) (ts : List T) where
  -- behind the first phrase
  pub list_begins : (a : A) (rest : List T) → p ts ≡ Ok (a, rest) → with_front (a ∷ []) (q rest) ≡ listed_at p q ts
  list_begins a rest e = rw e refl

  -- the first phrase stops
  pub list_fails : (e : List T × Why) → p ts ≡ Err e → listed_at p q ts ≡ Err e
  list_fails e f = rw f refl

-- ---- { sep x }

pub skip_some : {T : Type 0} (sep : T → Bool) (ts rest : List T) → skip sep ts ≡ Some rest → (t : T) × (sep t ≡ true) × (ts ≡ t ∷ rest)
skip_some sep [] rest e = absurd cc
skip_some {T} sep (t ∷ ts) rest e = by (sep t) refl e
  where
    by : (b : Bool) → sep t ≡ b → cond b (Some ts) None ≡ Some rest → (u : T) × (sep u ≡ true) × ((t ∷ ts) ≡ u ∷ rest)
    by true h f = (t, h, cc)
    by false h f = absurd cc

pub skip_none : {T : Type 0} (sep : T → Bool) (ts : List T) → skip sep ts ≡ None → next_is sep ts ≡ false
skip_none sep [] e = refl
skip_none {T} sep (t ∷ ts) e = by (sep t) refl e
  where
    by : (b : Bool) → sep t ≡ b → cond {A = Option (List T)} b (Some ts) None ≡ None → sep t ≡ false
    by true h f = absurd cc
    by false h f = h

module _ {T A : Type 0} (sep : T → Bool) {p : Reader T A} {L : Grammar T A} {P : Language T} {start : Start T} {go : T → Bool} (reads : Reads p L P start go) where
  grows_not : (ts : List T) (a : A) (rest : List T) → p ts ≡ Ok (a, rest) → length rest ≤ length ts
  grows_not ts a rest e = let k = reads.took ts a rest e in omega (arith, ap length k.split, length-append k.front rest)

  behind : (ts after : List T) → skip sep ts ≡ Some after → behind_at sep p ts ≡ p after
  behind ts after e = let (t, is, split) = skip_some sep ts after e in rw (split, is) refl

  is_next : (ts after : List T) → skip sep ts ≡ Some after → next_is sep ts ≡ true
  is_next ts after e = let (t, is, split) = skip_some sep ts after e in rw split is

  behind_shrinks : Shrinks sep (behind_at sep p)
  behind_shrinks = record { less = less }
    where
      less : (ts : List T) (a : A) (rest : List T) → next_is sep ts ≡ true → behind_at sep p ts ≡ Ok (a, rest) → length rest < length ts
      less [] a rest h e = absurd cc
      less (t ∷ ts) a rest h e = let f = rw h at e in omega (arith, grows_not ts a rest f)

  module _ (front : List A) (total : Result (List A × List T) (List T × Why)) (ts : List T) where
    -- a separator and one more phrase
    pub more_takes : (after : List T) (a : A) (rest : List T) → skip sep ts ≡ Some after → p after ≡ Ok (a, rest) → with_front front (more_at sep p ts) ≡ total → with_front (front ++ a ∷ []) (more_at sep p rest) ≡ total
    more_takes after a rest skips e so_far = takes behind_shrinks front total ts a rest (is_next ts after skips) (behind ts after skips ∙ e) so_far

    -- a separator, and then a phrase that stops
    pub more_stops : (after : List T) (e : List T × Why) → skip sep ts ≡ Some after → p after ≡ Err e → with_front front (more_at sep p ts) ≡ total → total ≡ Err e
    more_stops after e skips f so_far = stops behind_shrinks front total ts e (is_next ts after skips) (behind ts after skips ∙ f) so_far

    -- no separator
    pub more_ended : skip sep ts ≡ None → with_front front (more_at sep p ts) ≡ total → total ≡ Ok (front, ts)
    more_ended none so_far = ended behind_shrinks front total ts (skip_none sep ts none) so_far

-- ---- { [ sep ] x }

module _ {T A : Type 0} (sep first : T → Bool) {p : Reader T A} {L : Grammar T A} {P : Language T} {go : T → Bool} (reads : Reads p L P (Must first) go) where
  behind_past : (ts : List T) → next_at sep p ts ≡ p (past sep ts)
  behind_past [] = refl
  behind_past (t ∷ ts) = by (either_way (sep t))
    where
      by : (sep t ≡ true) ⊎ (sep t ≡ false) → next_at sep p (t ∷ ts) ≡ p (past sep (t ∷ ts))
      by (inl h) = rw h refl
      by (inr h) = rw h refl

  loosely_shrinks : Shrinks (λ t. sep t || first t) (next_at sep p)
  loosely_shrinks = record { less = less }
    where
      less : (ts : List T) (a : A) (rest : List T) → next_is (λ t. sep t || first t) ts ≡ true → next_at sep p ts ≡ Ok (a, rest) → length rest < length ts
      less [] a rest h e = absurd cc
      less (t ∷ ts) a rest h e = by (either_way (sep t))
        where
          by : (sep t ≡ true) ⊎ (sep t ≡ false) → length rest < length (t ∷ ts)
          by (inl g) = let f = rw g at e in omega (arith, grows_not sep reads ts a rest f)
          by (inr g) = let f = rw g at e in let shrinks : Shrinks first p = reads_shrink reads in shrinks.less (t ∷ ts) a rest (rw g at h) f

  module _ (front : List A) (total : Result (List A × List T) (List T × Why)) (ts : List T) where
    -- one more phrase, behind a separator or not
    pub loosely_takes : (a : A) (rest : List T) → next_is (λ t. sep t || first t) ts ≡ true → p (past sep ts) ≡ Ok (a, rest) → with_front front (more_loosely_at sep first p ts) ≡ total → with_front (front ++ a ∷ []) (more_loosely_at sep first p rest) ≡ total
    loosely_takes a rest h e so_far = takes loosely_shrinks front total ts a rest h (behind_past ts ∙ e) so_far

    pub loosely_stops : (e : List T × Why) → next_is (λ t. sep t || first t) ts ≡ true → p (past sep ts) ≡ Err e → with_front front (more_loosely_at sep first p ts) ≡ total → total ≡ Err e
    loosely_stops e h f so_far = stops loosely_shrinks front total ts e h (behind_past ts ∙ f) so_far

    pub loosely_ended : next_is (λ t. sep t || first t) ts ≡ false → with_front front (more_loosely_at sep first p ts) ≡ total → total ≡ Ok (front, ts)
    loosely_ended h so_far = ended loosely_shrinks front total ts h so_far
