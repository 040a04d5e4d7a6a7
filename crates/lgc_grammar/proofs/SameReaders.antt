-- Readers that answer the same to all tokens, as one with its brackets set in another way: where one reads a grammar, so does the
-- other. The code's functions set them so that each has a name of its own, the grammar so that a rest is one part.
use Rattle.std.proofs.Common.{◌≡◌, ℕ, Bool, true, false, List, [], ◌∷◌, ◌++◌, Result, Ok, Err, refl, sym, subst, ◌∙◌, inl, inr, ◌⊎◌}
use Rattle.std.specs.Prelude.{if◌then◌else◌}
use Rattle.lgc_grammar.specs.Grammar.{Grammar, Language, Why}
use Rattle.lgc_grammar.specs.Reading.{Reader, and_then, next_is, map_at, then_at, either_at, refused_at, barred_at}
use Rattle.lgc_grammar.proofs.Readers.{Reads, Start, Must, May, StartsBy, IsReadOrBreaks, never, either_way, stops_here}

abbrev pub IsSame : {T A : Type 0} → Reader T A → Reader T A → Type 0
IsSame {T} q p = (ts : List T) → q ts ≡ p ts

same_starts : {T A : Type 0} (p q : Reader T A) (start : Start T) → IsSame q p → StartsBy p start → StartsBy q start
same_starts p q (Must first) same starts = λ ts h. same ts ∙ starts ts h
same_starts p q (May first) same starts = λ ts h. let (a, e) = starts ts h in (a, same ts ∙ e)

pub same_reader : {T A : Type 0} {p q : Reader T A} {L : Grammar T A} {P : Language T} {start : Start T} {go : T → Bool} → IsSame q p → Reads p L P start go → Reads q L P start go
same_reader {T} {A} {p} {q} {start = start} same reads = record {
  took = λ ts a rest e. let k = reads.took ts a rest (sym (same ts) ∙ e) in record { front = k.front; split = k.split; phrase = k.phrase; near = λ other look. same (k.front ++ other) ∙ k.near other look };
  stuck = λ ts rest why e. let k = reads.stuck ts rest why (sym (same ts) ∙ e) in record { front = k.front; split = k.split; viable = k.viable; near = λ other look. same (k.front ++ other) ∙ k.near other look };
  complete = λ a front rest h ends. same (front ++ rest) ∙ reads.complete a front rest h ends;
  broken = λ n ts h. let s = reads.broken n ts h in stops_here s (λ rest. same (s.front ++ s.last ∷ rest) ∙ s.stops rest) s.goes_on;
  plain = λ front rest h ends. subst (λ (r : Result (A × List T) (List T × Why)). IsReadOrBreaks rest r) (sym (same (front ++ rest))) (reads.plain front rest h ends);
  is_plain = reads.is_plain;
  starts = same_starts p q start same reads.starts;
  some = reads.some;
  example = reads.example;
}

-- ---- one behind another

module _ {T A B : Type 0} where
  pub then_same : (p : Reader T A) (q r : A → Reader T B) → ((a : A) → IsSame (q a) (r a)) → IsSame (then_at p q) (then_at p r)
  then_same p q r same ts = by (p ts)
    where
      by : (x : Result (A × List T) (List T × Why)) → and_then x (λ y. q y.0 y.1) ≡ and_then x (λ y. r y.0 y.1)
      by (Ok y) = same y.0 y.1
      by (Err e) = refl

  pub then_mapped : {C : Type 0} (f : C → A) (p : Reader T C) (q : A → Reader T B) → IsSame (then_at (map_at f p) q) (then_at p (λ c. q (f c)))
  then_mapped {C} f p q ts = by (p ts)
    where
      by : (x : Result (C × List T) (List T × Why)) → and_then (and_then {B = A × List T} x (λ y. Ok (f y.0, y.1))) (λ y. q y.0 y.1) ≡ and_then x (λ y. q (f y.0) y.1)
      by (Ok y) = refl
      by (Err e) = refl

  pub then_then : {C : Type 0} (p : Reader T C) (q : C → Reader T A) (r : A → Reader T B) → IsSame (then_at (then_at p q) r) (then_at p (λ c. then_at (q c) r))
  then_then {C} p q r ts = by (p ts)
    where
      by : (x : Result (C × List T) (List T × Why)) → and_then (and_then x (λ y. q y.0 y.1)) (λ y. r y.0 y.1) ≡ and_then x (λ y. and_then (q y.0 y.1) (λ z. r z.0 z.1))
      by (Ok y) = refl
      by (Err e) = refl

  refused_then : (test : T → Bool) (number : T → ℕ) (r : A → Reader T B) → IsSame (then_at (refused_at test number) r) (refused_at test number)
  refused_then test number r [] = refl
  refused_then test number r (t ∷ ts) = by (either_way (test t))
    where
      by : (test t ≡ true) ⊎ (test t ≡ false) → then_at (refused_at test number) r (t ∷ ts) ≡ refused_at test number (t ∷ ts)
      by (inl h) = rw h refl
      by (inr h) = rw h refl

  -- behind a choice whose first way is refused
  pub choice_then : (first : T → Bool) (number : T → ℕ) (q : Reader T A) (r : A → Reader T B) → IsSame (then_at (either_at first (refused_at first number) q) r) (either_at first (refused_at first number) (then_at q r))
  choice_then first number q r ts = by (either_way (next_is first ts))
    where
      by : (next_is first ts ≡ true) ⊎ (next_is first ts ≡ false) → then_at (either_at first (refused_at first number) q) r ts ≡ either_at first (refused_at first number) (then_at q r) ts
      by (inl h) = rw h (refused_then first number r ts)
      by (inr h) = rw h refl

  pub barred_then : (bad : Bool) (first : T → Bool) (n : ℕ) (q : Reader T A) (r : A → Reader T B) → IsSame (then_at (barred_at bad first n q) r) (barred_at bad first n (then_at q r))
  barred_then true first n q r ts = refused_then first (λ _. n) r ts
  barred_then false first n q r ts = refl

-- ---- the second of two

module _ {T A : Type 0} where
  pub either_same : (first : T → Bool) (p q r : Reader T A) → IsSame q r → IsSame (either_at first p q) (either_at first p r)
  either_same first p q r same ts = by (next_is first ts)
    where
      by : (b : Bool) → (if b then p ts else q ts) ≡ (if b then p ts else r ts)
      by true = refl
      by false = same ts

  pub barred_same : (bad : Bool) (first : T → Bool) (n : ℕ) (q r : Reader T A) → IsSame q r → IsSame (barred_at bad first n q) (barred_at bad first n r)
  barred_same true first n q r same ts = refl
  barred_same false first n q r same ts = same ts

  -- no token goes the first way
  pub never_first : (p q : Reader T A) → IsSame (either_at never p q) q
  never_first p q [] = refl
  never_first p q (t ∷ ts) = refl
