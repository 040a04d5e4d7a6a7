-- Where nothing may begin: each token that would begin a phrase breaks a rule, as at the greatest depth, or behind a phrase that
-- breaks a rule by what follows it. The plain language goes on with such a token.
use Rattle.std.proofs.Common.{◌≡◌, ℕ, Bool, true, false, List, [], ◌∷◌, ◌++◌, Ok, Err, refl, sym, ap, subst, ◌∙◌, inl, inr, ◌⊎◌}
use Rattle.lgc_grammar.specs.Grammar.{Grammar, Language, Why, Unexpected, Breaks, IsFront, Refused, Barred}
use Rattle.lgc_grammar.specs.Reading.{Reader, next_is, refused_at, barred_at}
use Rattle.lgc_grammar.proofs.Readers.{Reads, Stuck, Must, IsReadOrBreaks, err, next_alike, next_stays, either_way, SameNext, begins, same_reads, stuck_at}

-- The phrases of P begin with the tokens that pass `first`, and each of these begins one.
pub record IsFirst {T : Type 0} (P : Language T) (first : T → Bool) : Type 0 where
  pub each : (ts : List T) → P ts → next_is first ts ≡ true
  pub each_token : (t : T) → first t ≡ true → IsFront P (t ∷ [])

-- ---- where no phrase may begin

module _ {T A : Type 0} (some : A) (test : T → Bool) (number : T → ℕ) {P : Language T} (go : T → Bool) (is_first : IsFirst P test) (example : (front : List T) × P front) where
  pub refused_breaks : (t : T) (rest : List T) → test t ≡ true → refused_at {A = A} test number (t ∷ rest) ≡ Err (t ∷ rest, Breaks (number t))
  refused_breaks t rest h = rw h refl

  pub refused_unexpected : (ts : List T) → next_is test ts ≡ false → refused_at {A = A} test number ts ≡ Err (ts, Unexpected)
  refused_unexpected [] h = refl
  refused_unexpected (t ∷ rest) h = rw h refl

  refused_took : (ts : List T) (a : A) (rest : List T) → refused_at test number ts ≡ Ok (a, rest) → ⊥
  refused_took [] a rest e = cc
  refused_took (t ∷ ts) a rest e = by (either_way (test t))
    where
      by : (test t ≡ true) ⊎ (test t ≡ false) → ⊥
      by (inl h) = let f = sym (refused_breaks t ts h) ∙ e in cc
      by (inr h) = let f = sym (refused_unexpected (t ∷ ts) h) ∙ e in cc

  near_refused : (u : T) (ts other : List T) → test u ≡ true → SameNext (u ∷ ts) other → refused_at {A = A} test number other ≡ Err (other, Breaks (number u))
  near_refused u ts [] h look = absurd look
  near_refused u ts (x ∷ other) h look = refused_breaks x other (ap test (sym look) ∙ h) ∙ ap (λ (y : T). err {A = A × List T} {E = List T × Why} (x ∷ other, Breaks (number y))) (sym look)

  refused_stuck : (ts rest : List T) (why : Why) → refused_at {A = A} test number ts ≡ Err (rest, why) → Stuck {A = A} (refused_at test number) (Refused test number) P ts rest why
  refused_stuck ts rest why e = at ts e
    where
      none_here : (us : List T) → next_is test us ≡ false → Stuck {A = A} (refused_at test number) (Refused test number) P us us Unexpected
      none_here us h = record { front = []; split = refl; viable = example; near = λ other look. refused_unexpected other (sym (next_alike test [] us other look) ∙ h) }

      at : (us : List T) → refused_at {A = A} test number us ≡ Err (rest, why) → Stuck {A = A} (refused_at test number) (Refused test number) P us rest why
      at [] f = stuck_at [] (none_here [] refl) f
      at (u ∷ us) f = by (either_way (test u))
        where
          by : (test u ≡ true) ⊎ (test u ≡ false) → Stuck {A = A} (refused_at test number) (Refused test number) P (u ∷ us) rest why
          by (inl h) =
              let here : Stuck {A = A} (refused_at test number) (Refused test number) P (u ∷ us) (u ∷ us) (Breaks (number u)) = record { front = []; split = refl; viable = (u, h, refl, refl); near = λ other look. near_refused u us other h look } in
              stuck_at (u ∷ us) here (sym (refused_breaks u us h) ∙ f)
          by (inr h) = stuck_at (u ∷ us) (none_here (u ∷ us) h) (sym (refused_unexpected (u ∷ us) h) ∙ f)

  refused_plain : (front rest : List T) → P front → IsReadOrBreaks rest (refused_at {A = A} test number (front ++ rest))
  refused_plain front rest h = at (front ++ rest) (next_stays test front rest (is_first.each front h))
    where
      at : (us : List T) → next_is test us ≡ true → IsReadOrBreaks rest (refused_at {A = A} test number us)
      at [] g = absurd cc
      at (u ∷ us) g = rw (refused_breaks u us g) tt

  pub refused_reads : Reads {A = A} (refused_at test number) (Refused test number) P (Must test) go
  refused_reads = record {
    took = λ ts a rest e. absurd (refused_took ts a rest e);
    stuck = refused_stuck;
    complete = λ a front rest h ends. absurd h;
    broken = λ n ts h. let (u, passes, is, split) = h in record { front = []; last = u; split = split; stops = λ rest. refused_breaks u rest passes ∙ ap (λ (k : ℕ). err {A = A × List T} {E = List T × Why} (u ∷ rest, Breaks k)) is; goes_on = subst (IsFront P) (sym split) (is_first.each_token u passes) };
    plain = λ front rest h ends. refused_plain front rest h;
    is_plain = λ a ts h. absurd h;
    starts = refused_unexpected;
    some = some;
    example = example;
  }

-- ---- behind a phrase that breaks a rule

-- each token that passes `first` begins a phrase of P
module _ {T A : Type 0} (bad : Bool) (n : ℕ) {q : Reader T A} {L : Grammar T A} {P : Language T} {first go : T → Bool} (reads : Reads q L P (Must first) go) (each_token : (t : T) → first t ≡ true → IsFront P (t ∷ [])) where
  pub barred_reads : Reads (barred_at bad first n q) (Barred bad first n L) P (Must first) go
  barred_reads = by bad
    where
      by : (b : Bool) → Reads (barred_at b first n q) (Barred b first n L) P (Must first) go
      by true = refused_reads reads.some first (λ _. n) go (record { each = begins reads; each_token = each_token }) reads.example
      by false = same_reads reads (λ r ts h. h) (λ r ts h. h) (λ ts h. h) (λ ts h. h)
