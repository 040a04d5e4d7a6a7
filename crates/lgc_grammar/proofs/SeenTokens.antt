-- Readers among tokens that say more: what they do on the tokens as they see them, they do on the tokens.
use Rattle.std.proofs.Common.{◌≡◌, ℕ, ◌-◌, Bool, false, List, [], ◌∷◌, ◌++◌, length, map, Result, Ok, Err, refl, sym, ap, subst, ◌∙◌, length-append, arith}
use Rattle.std.proofs.lemmas.List.{map-append, length-map}
use Rattle.std.proofs.Math.Seq.{drop-append_seam}
use Rattle.lgc_grammar.specs.Grammar.{Grammar, Language, Why, Unexpected, Breaks, IsFront}
use Rattle.lgc_grammar.specs.Reading.{Reader, next_is}
use Rattle.lgc_grammar.specs.Seen.{Seen, PlainSeen, last_of, seen_read, seen_at}
use Rattle.lgc_grammar.proofs.Readers.{Reads, Took, Stuck, StopsIn, Start, Must, May, StartsBy, IsReadOrBreaks, IsViable, SameNext, took_at, stuck_at}

-- what passes a test where it is seen
abbrev pub seen_start : {S T : Type 0} → (S → T) → Start T → Start S
seen_start see (Must first) = Must (λ s. first (see s))
seen_start see (May first) = May (λ s. first (see s))

module _ {S T : Type 0} (see : S → T) where
  next_seen : (test : T → Bool) (ts : List S) → next_is test (map see ts) ≡ next_is (λ s. test (see s)) ts
  next_seen test [] = refl
  next_seen test (s ∷ ts) = refl

  next_same : (rest other : List S) → SameNext rest other → SameNext (map see rest) (map see other)
  next_same [] [] look = look
  next_same [] (s ∷ other) look = absurd look
  next_same (s ∷ rest) [] look = absurd look
  next_same (s ∷ rest) (u ∷ other) look = ap see look

  same_as_itself : (rest : List S) → SameNext rest rest
  same_as_itself [] = tt
  same_as_itself (s ∷ rest) = refl

  last_behind : (front rest : List S) → last_of (map see rest) (front ++ rest) ≡ rest
  last_behind front rest =
      let long : length (front ++ rest) - length (map see rest) ≡ length front = omega (arith, length-append front rest, length-map rest see) in
      rw long (drop-append_seam front rest)

  -- where the tokens as they are seen are cut in two, the tokens are
  split_as : (ts : List S) (f r : List T) → map see ts ≡ f ++ r → (front : List S) × (rest : List S) × (ts ≡ front ++ rest) × (map see front ≡ f) × (map see rest ≡ r)
  split_as ts [] r e = ([], ts, refl, refl, e)
  split_as [] (t ∷ f) r e = absurd cc
  split_as (s ∷ ts) (t ∷ f) r e =
      let (front, rest, split, is_front, is_rest) = split_as ts f r cc in
      let first : see s ≡ t = cc in
      (s ∷ front, rest, ap (λ (u : List S). s ∷ u) split, rw (first, is_front) refl, is_rest)

module _ {S T A : Type 0} (see : S → T) (make : T → S) (made : (t : T) → see (make t) ≡ t) {p : Reader T A} {L : Grammar T A} {P : Language T} {start : Start T} {go : T → Bool} (reads : Reads p L P start go) where
  made_all : (ts : List T) → map see (map make ts) ≡ ts
  made_all [] = refl
  made_all (t ∷ ts) = rw (made t, made_all ts) refl

  goes : (front other : List S) (a : A) → p (map see front ++ map see other) ≡ Ok (a, map see other) → seen_at see p (front ++ other) ≡ Ok (a, other)
  goes front other a e = rw (map-append see front other, e, last_behind see front other) refl

  stops : (front other : List S) (why : Why) → p (map see front ++ map see other) ≡ Err (map see other, why) → seen_at see p (front ++ other) ≡ Err (other, why)
  stops front other why e = rw (map-append see front other, e, last_behind see front other) refl

  front_seen : (front : List S) → IsFront P (map see front) → IsFront (PlainSeen see P) front
  front_seen front (more, h) = (map make more, rw (map-append see front (map make more), made_all more) h)

  seen_took : (ts : List S) (a : A) (rest : List S) → seen_at see p ts ≡ Ok (a, rest) → Took (seen_at see p) (Seen see L) ts a rest
  seen_took ts a rest e = by (p (map see ts)) refl
    where
      by : (r : Result (A × List T) (List T × Why)) → p (map see ts) ≡ r → Took (seen_at see p) (Seen see L) ts a rest
      by (Err d) f = let g : seen_at see p ts ≡ Err (last_of d.0 ts, d.1) = ap (seen_read ts) f in absurd cc
      by (Ok (b, r)) f =
          let k = reads.took (map see ts) b r f in
          let (front, left, split, is_front, is_left) = split_as see ts k.front r k.split in
          let near : (other : List S) → SameNext left other → seen_at see p (front ++ other) ≡ Ok (b, other) =
          λ other look. goes front other b (rw is_front (k.near (map see other) (subst (λ (u : List T). SameNext u (map see other)) is_left (next_same see left other look)))) in
          let here : Took (seen_at see p) (Seen see L) ts b left = record { front = front; split = split; phrase = rw is_front k.phrase; near = near } in
          took_at ts here (sym (near left (same_as_itself see left)) ∙ ap (seen_at see p) (sym split) ∙ e)

  viable_seen : (front rest : List S) (why : Why) → IsViable L P why (map see front) (map see rest) → IsViable (Seen see L) (PlainSeen see P) why front rest
  viable_seen front rest Unexpected h = front_seen front h
  viable_seen front [] (Breaks n) h = h
  viable_seen front (s ∷ rest) (Breaks n) h = rw (map-append see front (s ∷ [])) h

  seen_stuck : (ts rest : List S) (why : Why) → seen_at see p ts ≡ Err (rest, why) → Stuck (seen_at see p) (Seen see L) (PlainSeen see P) ts rest why
  seen_stuck ts rest why e = by (p (map see ts)) refl
    where
      by : (r : Result (A × List T) (List T × Why)) → p (map see ts) ≡ r → Stuck (seen_at see p) (Seen see L) (PlainSeen see P) ts rest why
      by (Ok x) f = let g : seen_at see p ts ≡ Ok (x.0, last_of x.1 ts) = ap (seen_read ts) f in absurd cc
      by (Err (r, w)) f =
          let k = reads.stuck (map see ts) r w f in
          let (front, left, split, is_front, is_left) = split_as see ts k.front r k.split in
          let near : (other : List S) → SameNext left other → seen_at see p (front ++ other) ≡ Err (other, w) =
          λ other look. stops front other w (rw is_front (k.near (map see other) (subst (λ (u : List T). SameNext u (map see other)) is_left (next_same see left other look)))) in
          let viable = viable_seen front left w (rw (is_front, is_left) k.viable) in
          let here : Stuck (seen_at see p) (Seen see L) (PlainSeen see P) ts left w = record { front = front; split = split; viable = viable; near = near } in
          stuck_at ts here (sym (near left (same_as_itself see left)) ∙ ap (seen_at see p) (sym split) ∙ e)

  seen_broken : (n : ℕ) (ts : List S) → Seen see L (Err n) ts → StopsIn (seen_at see p) (PlainSeen see P) n ts
  seen_broken n ts h =
      let s = reads.broken n (map see ts) h in
      let (front, left, split, is_front, is_left) = split_as see ts s.front (s.last ∷ []) s.split in
      by s front left split is_front is_left
    where
      by : (s : StopsIn p P n (map see ts)) (front left : List S) → ts ≡ front ++ left → map see front ≡ s.front → map see left ≡ s.last ∷ [] → StopsIn (seen_at see p) (PlainSeen see P) n ts
      by s front [] split is_front is_left = absurd cc
      by s front (u ∷ (v ∷ left)) split is_front is_left = absurd cc
      by s front (u ∷ []) split is_front is_left =
          let last : see u ≡ s.last = cc in
          record { front = front; last = u; split = split; stops = λ rest. stops front (u ∷ rest) (Breaks n) (rw (is_front, last) (s.stops (map see rest))); goes_on = front_seen ts s.goes_on }

  seen_plain : (front rest : List S) → P (map see front) → next_is (λ s. go (see s)) rest ≡ false → IsReadOrBreaks rest (seen_at see p (front ++ rest))
  seen_plain front rest h ends = rw (map-append see front rest) (by (p (map see front ++ map see rest)) (reads.plain (map see front) (map see rest) h (next_seen see go rest ∙ ends)))
    where
      by : (r : Result (A × List T) (List T × Why)) → IsReadOrBreaks (map see rest) r → IsReadOrBreaks rest (seen_read (front ++ rest) r)
      by (Ok x) left = ap (λ (u : List T). last_of u (front ++ rest)) left ∙ last_behind see front rest
      by (Err (r, Unexpected)) g = absurd g
      by (Err (r, Breaks n)) g = g

  seen_starts : (begin : Start T) → StartsBy p begin → StartsBy (seen_at see p) (seen_start see begin)
  seen_starts (Must first) starts = λ ts h. stops [] ts Unexpected (starts (map see ts) (next_seen see first ts ∙ h))
  seen_starts (May first) starts = λ ts h. let (a, e) = starts (map see ts) (next_seen see first ts ∙ h) in (a, goes [] ts a e)

  pub seen_reads : Reads (seen_at see p) (Seen see L) (PlainSeen see P) (seen_start see start) (λ s. go (see s))
  seen_reads = record {
    took = seen_took;
    stuck = seen_stuck;
    complete = λ a front rest h ends. goes front rest a (reads.complete a (map see front) (map see rest) h (next_seen see go rest ∙ ends));
    broken = seen_broken;
    plain = seen_plain;
    is_plain = λ a ts h. reads.is_plain a (map see ts) h;
    starts = seen_starts start reads.starts;
    some = reads.some;
    example = let (front, h) = reads.example in (map make front, rw (made_all front) h);
  }
