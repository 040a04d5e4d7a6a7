-- Tokens that may break one of several rules: what their reader answers, and that it reads them.
use Rattle.std.proofs.Common.{◌≡◌, ℕ, Bool, true, false, List, [], ◌∷◌, ◌++◌, Option, Some, None, Ok, Err, append-nil, refl, sym, ap, ◌∙◌, inl, inr, ◌⊎◌}
use Rattle.lgc_grammar.specs.Grammar.{Why, Unexpected, Breaks, PlainOne, Allowed}
use Rattle.lgc_grammar.specs.Reading.{next_is, allowed_at}
use Rattle.lgc_grammar.proofs.Readers.{Reads, Took, Stuck, Must, IsReadOrBreaks, never, next_alike, either_way, SameNext, took_at, stuck_at}

module _ {T : Type 0} (test : T → Bool) (fault : T → Option ℕ) where
  pub allowed_goes : (t : T) (rest : List T) → test t ≡ true → fault t ≡ None → allowed_at test fault (t ∷ rest) ≡ Ok (t, rest)
  allowed_goes t rest h g = rw (h, g) refl

  pub allowed_breaks : (t : T) (rest : List T) (n : ℕ) → test t ≡ true → fault t ≡ Some n → allowed_at test fault (t ∷ rest) ≡ Err (t ∷ rest, Breaks n)
  allowed_breaks t rest n h g = rw (h, g) refl

  pub allowed_unexpected : (ts : List T) → next_is test ts ≡ false → allowed_at test fault ts ≡ Err (ts, Unexpected)
  allowed_unexpected [] h = refl
  allowed_unexpected (t ∷ rest) h = rw h refl

  allowed_took : (ts : List T) (a : T) (rest : List T) → allowed_at test fault ts ≡ Ok (a, rest) → Took (allowed_at test fault) (Allowed test fault) ts a rest
  allowed_took [] a rest e = absurd cc
  allowed_took (t ∷ ts) a rest e = by (either_way (test t)) (fault t) refl
    where
      by : (test t ≡ true) ⊎ (test t ≡ false) → (f : Option ℕ) → fault t ≡ f → Took (allowed_at test fault) (Allowed test fault) (t ∷ ts) a rest
      by (inr h) g is = let f = sym (allowed_unexpected (t ∷ ts) h) ∙ e in absurd cc
      by (inl h) (Some n) is = let f = sym (allowed_breaks t ts n h is) ∙ e in absurd cc
      by (inl h) None is =
          let here : Took (allowed_at test fault) (Allowed test fault) (t ∷ ts) t ts = record { front = t ∷ []; split = refl; phrase = (h, is, refl); near = λ other look. allowed_goes t other h is } in
          took_at (t ∷ ts) here (sym (allowed_goes t ts h is) ∙ e)

  module _ (t : T) (passes : test t ≡ true) where
    unexpected_here : (ts : List T) → next_is test ts ≡ false → Stuck (allowed_at test fault) (Allowed test fault) (PlainOne test) ts ts Unexpected
    unexpected_here ts h = record { front = []; split = refl; viable = (t ∷ [], (t, (passes, refl))); near = λ other look. allowed_unexpected other (sym (next_alike test [] ts other look) ∙ h) }

    near_broken : (u : T) (ts other : List T) (n : ℕ) → test u ≡ true → fault u ≡ Some n → SameNext (u ∷ ts) other → allowed_at test fault other ≡ Err (other, Breaks n)
    near_broken u ts [] n h g look = absurd look
    near_broken u ts (x ∷ other) n h g look = allowed_breaks x other n (ap test (sym look) ∙ h) (ap fault (sym look) ∙ g)

    allowed_stuck : (ts rest : List T) (why : Why) → allowed_at test fault ts ≡ Err (rest, why) → Stuck (allowed_at test fault) (Allowed test fault) (PlainOne test) ts rest why
    allowed_stuck [] rest why e = stuck_at [] (unexpected_here [] refl) e
    allowed_stuck (u ∷ ts) rest why e = by (either_way (test u)) (fault u) refl
      where
        by : (test u ≡ true) ⊎ (test u ≡ false) → (f : Option ℕ) → fault u ≡ f → Stuck (allowed_at test fault) (Allowed test fault) (PlainOne test) (u ∷ ts) rest why
        by (inr h) g is = stuck_at (u ∷ ts) (unexpected_here (u ∷ ts) h) (sym (allowed_unexpected (u ∷ ts) h) ∙ e)
        by (inl h) (Some n) is =
            let here : Stuck (allowed_at test fault) (Allowed test fault) (PlainOne test) (u ∷ ts) (u ∷ ts) (Breaks n) = record { front = []; split = refl; viable = (u, h, is, refl); near = λ other look. near_broken u ts other n h is look } in
            stuck_at (u ∷ ts) here (sym (allowed_breaks u ts n h is) ∙ e)
        by (inl h) None is = let f = sym (allowed_goes u ts h is) ∙ e in absurd cc

    allowed_plain : (front rest : List T) → PlainOne test front → IsReadOrBreaks rest (allowed_at test fault (front ++ rest))
    allowed_plain front rest (u, (is, split)) = by (fault u) refl
      where
        by : (f : Option ℕ) → fault u ≡ f → IsReadOrBreaks rest (allowed_at test fault (front ++ rest))
        by (Some n) g = rw (split, allowed_breaks u rest n is g) tt
        by None g = rw (split, allowed_goes u rest is g) refl

    -- t is a token that passes the test
    pub allowed_reads : Reads (allowed_at test fault) (Allowed test fault) (PlainOne test) (Must test) never
    allowed_reads = record {
      took = allowed_took;
      stuck = allowed_stuck;
      complete = λ a front rest h _. rw h.2 (allowed_goes a rest h.0 h.1);
      broken = λ n ts h. let (u, passes, breaks, split) = h in record { front = []; last = u; split = split; stops = λ rest. allowed_breaks u rest n passes breaks; goes_on = ([], (u, (passes, rw (append-nil ts) split))) };
      plain = λ front rest h _. allowed_plain front rest h;
      is_plain = λ a ts h. (a, (h.0, h.2));
      starts = allowed_unexpected;
      some = t;
      example = (t ∷ [], (t, (passes, refl)));
    }
