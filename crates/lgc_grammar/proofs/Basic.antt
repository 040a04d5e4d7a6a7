-- Readers of one token and of none, and readers with another tree.
--
-- Most lemmas on readers come in two forms. `.._reads` speaks of a plain language beside the grammar; `.._all` is for a
-- grammar where no token breaks a rule, whose plain language is that of its own phrases.
use Rattle.std.proofs.Common.{◌≡◌, Bool, true, false, List, [], ◌∷◌, ◌++◌, Result, Ok, Err, refl, sym, ap, ◌∙◌, inl, inr, ◌⊎◌}
use Rattle.lgc_grammar.specs.Grammar.{Grammar, Language, Why, Unexpected, Breaks, One, Nothing, Mapped, PlainOne, PlainNothing}
use Rattle.lgc_grammar.specs.Reading.{Reader, and_then, next_is, one_at, nothing_at, map_at}
use Rattle.lgc_grammar.proofs.Readers.{Reads, ReadsAll, Took, Stuck, Start, Must, May, StartsBy, IsReadOrBreaks, never, ok, ok_rest, ok_tree, and_then_ok, and_then_err, next_alike, either_way, viable_as, stops_here, took_at, stuck_at, reads_all}

-- ---- one token

module _ {T : Type 0} (test : T → Bool) where
  takes : (t : T) (rest : List T) → test t ≡ true → one_at test (t ∷ rest) ≡ Ok (t, rest)
  takes t rest h = rw h refl

  unexpected : (ts : List T) → next_is test ts ≡ false → one_at test ts ≡ Err (ts, Unexpected)
  unexpected [] h = refl
  unexpected (t ∷ ts) h = rw h refl

  one_took : (ts : List T) (a : T) (rest : List T) → one_at test ts ≡ Ok (a, rest) → Took (one_at test) (One test) ts a rest
  one_took [] a rest e = absurd cc
  one_took (t ∷ ts) a rest e = by (either_way (test t))
    where
      by : (test t ≡ true) ⊎ (test t ≡ false) → Took (one_at test) (One test) (t ∷ ts) a rest
      by (inl h) =
          let here : Took (one_at test) (One test) (t ∷ ts) t ts = record { front = t ∷ []; split = refl; phrase = (h, refl); near = λ other look. takes t other h } in
          took_at (t ∷ ts) here (sym (takes t ts h) ∙ e)
      by (inr h) = let f = sym (unexpected (t ∷ ts) h) ∙ e in absurd cc

  module _ (t : T) (passes : test t ≡ true) where
    one_stuck : (ts rest : List T) (why : Why) → one_at test ts ≡ Err (rest, why) → Stuck (one_at test) (One test) (PlainOne test) ts rest why
    one_stuck ts rest why e = by (either_way (next_is test ts))
      where
        taken : (ts : List T) → next_is test ts ≡ true → one_at test ts ≡ Err (rest, why) → ⊥
        taken [] h f = cc
        taken (u ∷ us) h f = let g = sym (takes u us h) ∙ f in cc

        by : (next_is test ts ≡ true) ⊎ (next_is test ts ≡ false) → Stuck (one_at test) (One test) (PlainOne test) ts rest why
        by (inl h) = absurd (taken ts h e)
        by (inr h) =
            let here : Stuck (one_at test) (One test) (PlainOne test) ts ts Unexpected = record { front = []; split = refl; viable = (t ∷ [], (t, (passes, refl))); near = λ other look. unexpected other (sym (next_alike test [] ts other look) ∙ h) } in
            stuck_at ts here (sym (unexpected ts h) ∙ e)

    -- t is a token that passes
    pub one_reads : Reads (one_at test) (One test) (PlainOne test) (Must test) never
    one_reads = record {
      took = one_took;
      stuck = one_stuck;
      complete = λ a front rest h _. rw (h.1, h.0) refl;
      broken = λ n ts h. absurd h;
      plain = λ front rest h _. let (u, (is, split)) = h in rw (split, is) refl;
      is_plain = λ a ts h. (a, h);
      starts = unexpected;
      some = t;
      example = (t ∷ [], (t, (passes, refl)));
    }

-- ---- no token

pub nothing_reads : {T A : Type 0} (c : A) (go : T → Bool) → Reads (nothing_at c) (Nothing c) PlainNothing (May never) go
nothing_reads {T} {A} c go = record {
  took = λ ts a rest e. let same : ts ≡ rest = ok_rest e in record { front = []; split = same; phrase = (sym (ok_tree e), refl); near = λ other look. ap (λ (b : A). ok (b, other)) (ok_tree e) };
  stuck = λ ts rest why e. absurd cc;
  broken = λ n ts h. absurd h;
  complete = λ a front rest h _. rw (h.0, h.1) refl;
  plain = λ front rest h _. rw h refl;
  is_plain = λ a ts h. h.1;
  starts = λ ts h. (c, refl);
  some = c;
  example = ([], refl);
}

pub nothing_all : {T A : Type 0} (c : A) (go : T → Bool) → ReadsAll {T = T} (nothing_at c) (Nothing c) (May never) go
nothing_all c go = reads_all (nothing_reads c go) (λ ts h. (c, (refl, h)))

-- ---- another tree

map_starts : {T A B : Type 0} (f : A → B) (p : Reader T A) (start : Start T) → StartsBy p start → StartsBy (map_at f p) start
map_starts f p (Must first) starts = λ ts h. rw (starts ts h) refl
map_starts f p (May first) starts = λ ts h. let (a, e) = starts ts h in (f a, rw e refl)

module _ {T A B : Type 0} (f : A → B) {p : Reader T A} where
  module _ {L : Grammar T A} {P : Language T} {start : Start T} {go : T → Bool} (reads : Reads p L P start go) where
    map_ok : (a : A) (ts rest : List T) → p ts ≡ Ok (a, rest) → map_at f p ts ≡ Ok (f a, rest)
    map_ok a ts rest e = rw e refl

    map_took : (ts : List T) (b : B) (rest : List T) → map_at f p ts ≡ Ok (b, rest) → Took (map_at f p) (Mapped f L) ts b rest
    map_took ts b rest e =
        let s = and_then_ok (p ts) (λ x. Ok (f x.0, x.1)) (b, rest) e in
        let x = s.0 in
        let same : x.1 ≡ rest = ok_rest s.2 in
        let tree : f x.0 ≡ b = ok_tree s.2 in
        let k = reads.took ts x.0 rest (s.1 ∙ ap (λ (r : List T). ok {A = A × List T} (x.0, r)) same) in
        record { front = k.front; split = k.split; phrase = (x.0, sym tree, k.phrase); near = λ other look. map_ok x.0 (k.front ++ other) other (k.near other look) ∙ ap (λ (d : B). ok {A = B × List T} (d, other)) tree }

    map_stuck : (ts rest : List T) (why : Why) → map_at f p ts ≡ Err (rest, why) → Stuck (map_at f p) (Mapped f L) P ts rest why
    map_stuck ts rest why e = by (and_then_err (p ts) (λ x. Ok (f x.0, x.1)) (rest, why) e)
      where
        by : (p ts ≡ Err (rest, why)) ⊎ ((x : A × List T) × (p ts ≡ Ok x) × (ok {A = B × List T} {E = List T × Why} (f x.0, x.1) ≡ Err (rest, why))) → Stuck (map_at f p) (Mapped f L) P ts rest why
        by (inl g) = let k = reads.stuck ts rest why g in record { front = k.front; split = k.split; viable = viable_as L (Mapped f L) P P k.front rest why (λ n w h. h) (λ v h. h) k.viable; near = λ other look. rw (k.near other look) refl }
        by (inr (x, took, g)) = absurd cc

    pub map_reads : Reads (map_at f p) (Mapped f L) P start go
    map_reads = record {
      took = map_took;
      stuck = map_stuck;
      complete = λ b front rest h ends. rw h.1 (map_ok h.0 (front ++ rest) rest (reads.complete h.0 front rest h.2 ends));
      broken = λ n ts h. let s = reads.broken n ts h in stops_here s (λ rest. rw (s.stops rest) refl) s.goes_on;
      plain = λ front rest h ends. by rest (p (front ++ rest)) (reads.plain front rest h ends);
      is_plain = λ b ts h. reads.is_plain h.0 ts h.2;
      starts = map_starts f p start reads.starts;
      some = f reads.some;
      example = reads.example;
    }
      where
        by : (rest : List T) (r : Result (A × List T) (List T × Why)) → IsReadOrBreaks rest r → IsReadOrBreaks {A = B} rest (and_then r (λ x. Ok (f x.0, x.1)))
        by rest (Ok x) h = h
        by rest (Err (r, Unexpected)) h = h
        by rest (Err (r, Breaks n)) h = tt

  pub map_all : {L : Grammar T A} {start : Start T} {go : T → Bool} → ReadsAll p L start go → ReadsAll (map_at f p) (Mapped f L) start go
  map_all reads = reads_all (map_reads reads) (λ ts h. (f h.0, (h.0, refl, h.1)))
