-- Reading among the tokens of a larger text, word by word: where the parts of a phrase are read before what they don't go on with, so is
-- the phrase.
use Rattle.std.proofs.Common.{◌≡◌, ℕ, Bool, true, false, List, [], ◌∷◌, ◌++◌, Result, Ok, Err, refl, sym, subst, inl, inr, ◌⊎◌, append_assoc, append-nil}
use Rattle.std.specs.Prelude.{◌||◌}
use Rattle.lgc_grammar.specs.Grammar.{Grammar, Language, Why, Unexpected, Breaks, IsFront, Mapped, Then, Either, Barred, Growing, PlainThen, PlainEither, PlainMany, none, more}
use Rattle.lgc_grammar.specs.Reading.{Reader, and_then, next_is, map_at, then_at, either_at, barred_at, growing_at}
use Rattle.lgc_grammar.proofs.Readers.{Reads, Start, Must, May, IsReadOrBreaks, never, either_way, or_right, goes_with, next_apart, next_stays, begins, front_in, front_as}
use Rattle.lgc_grammar.proofs.Basic.{map_reads}
use Rattle.lgc_grammar.proofs.Sequences.{start_then, then_reads_if}
use Rattle.lgc_grammar.proofs.Choices.{either_reads}
use Rattle.lgc_grammar.proofs.RefusedTokens.{refused_reads, barred_reads}
use Rattle.lgc_grammar.proofs.GrowingTrees.{growing_ends, growing_fails, growing_goes, shrinks, growing_reads}
use Rattle.lgc_grammar.proofs.AmongOthers.{Settles}

-- p reads the phrases of L, and each of them before a token with which it doesn't go on.
pub record ReadsAmong {T A : Type 0} (p : Reader T A) (L : Grammar T A) (P : Language T) (start : Start T) (go : T → Bool) : Type 0 where
  pub reads : Reads p L P start go
  pub settles : Settles p P go

module _ {T A : Type 0} {p : Reader T A} {L : Grammar T A} {P : Language T} {start : Start T} {go : T → Bool} (among : ReadsAmong p L P start go) where
  read_before : (front : List T) (t : T) (rest : List T) → P front → (IsFront P (front ++ t ∷ []) → ⊥) → IsReadOrBreaks (t ∷ rest) (p (front ++ t ∷ rest))
  read_before front t rest h ends = by (either_way (go t))
    where
      plain : next_is go (t ∷ rest) ≡ false → IsReadOrBreaks (t ∷ rest) (p (front ++ t ∷ rest))
      plain stops = let reads = among.reads in reads.plain front (t ∷ rest) h stops

      by : (go t ≡ true) ⊎ (go t ≡ false) → IsReadOrBreaks (t ∷ rest) (p (front ++ t ∷ rest))
      by (inl goes) = among.settles front t rest h goes ends
      by (inr stops) = plain stops

  -- more tokens with which a phrase is taken to go on
  pub goes_among : (next : T → Bool) → ((t : T) → next t ≡ false → go t ≡ false) → ReadsAmong p L P start next
  goes_among next less = record { reads = goes_with among.reads next less; settles = λ front t rest h goes ends. read_before front t rest h ends }

-- ---- another tree

pub map_among : {T A B : Type 0} (f : A → B) {p : Reader T A} {L : Grammar T A} {P : Language T} {start : Start T} {go : T → Bool} → ReadsAmong p L P start go → ReadsAmong (map_at f p) (Mapped f L) P start go
map_among {T} {A} {B} f {p} among = record { reads = map_reads f among.reads; settles = λ front t rest h goes ends. by t rest (p (front ++ t ∷ rest)) (among.settles front t rest h goes ends) }
  where
    by : (t : T) (rest : List T) (r : Result (A × List T) (List T × Why)) → IsReadOrBreaks (t ∷ rest) r → IsReadOrBreaks {A = B} (t ∷ rest) (and_then r (λ x. Ok (f x.0, x.1)))
    by t rest (Ok x) read = read
    by t rest (Err (r, Unexpected)) read = read
    by t rest (Err (r, Breaks n)) read = tt

-- ---- behind a phrase that is bad

-- each token that passes `first` begins a phrase of P
pub barred_among : {T A : Type 0} (bad : Bool) (n : ℕ) {q : Reader T A} {L : Grammar T A} {P : Language T} {first go : T → Bool} → ReadsAmong q L P (Must first) go → ((t : T) → first t ≡ true → IsFront P (t ∷ [])) → ReadsAmong (barred_at bad first n q) (Barred bad first n L) P (Must first) go
barred_among {T} {A} bad n {q} {L} {P} {first} {go} among each_token = record { reads = barred_reads bad n among.reads each_token; settles = by bad }
  where
    reads : Reads q L P (Must first) go
    reads = among.reads

    by : (b : Bool) → Settles (barred_at b first n q) P go
    by true front t rest h goes ends =
        let refused = refused_reads reads.some first (λ _. n) never (record { each = begins reads; each_token = each_token }) reads.example in
        refused.plain front (t ∷ rest) h refl
    by false front t rest h goes ends = among.settles front t rest h goes ends

-- ---- one behind another

module _ {T A B : Type 0} {p : Reader T A} {L : Grammar T A} {P : Language T} {start : Start T} {go : T → Bool} (reads : Reads p L P start go) {q : A → Reader T B} {M : A → Grammar T B} {Q : Language T} {then_start : Start T} {next : T → Bool} (behind : (a : A) → ReadsAmong (q a) (M a) Q then_start next) where
  -- where the first part is read before the second, with what is behind both
  sequence_settles : ((v w : List T) (t : T) (rest : List T) → P v → Q w → (IsFront (PlainThen P Q) ((v ++ w) ++ t ∷ []) → ⊥) → IsReadOrBreaks (w ++ t ∷ rest) (p (v ++ (w ++ t ∷ rest)))) → Settles (then_at p q) (PlainThen P Q) next
  sequence_settles first front t rest (v, w, f, g, split) goes ends =
      let over : IsFront (PlainThen P Q) ((v ++ w) ++ t ∷ []) → ⊥ = subst (λ (u : List T). IsFront (PlainThen P Q) (u ++ t ∷ []) → ⊥) split ends in
      rw (split, append_assoc v w (t ∷ rest)) (by v w g over (p (v ++ (w ++ t ∷ rest))) f (first v w t rest f g over))
    where
      by : (v w : List T) → Q w → (IsFront (PlainThen P Q) ((v ++ w) ++ t ∷ []) → ⊥) → (r : Result (A × List T) (List T × Why)) → P v → IsReadOrBreaks (w ++ t ∷ rest) r → IsReadOrBreaks (t ∷ rest) (and_then r (λ x. q x.0 x.1))
      by v w g over (Ok x) f read =
          let second : ReadsAmong (q x.0) (M x.0) Q then_start next = behind x.0 in
          let stands : IsFront Q (w ++ t ∷ []) → IsFront (PlainThen P Q) (v ++ (w ++ t ∷ [])) = front_in Q (PlainThen P Q) v (w ++ t ∷ []) (λ u i. ([], rw (append-nil u) (v, u, f, i, refl))) in
          rw read (second.settles w t rest g goes (λ h. over (subst (IsFront (PlainThen P Q)) (sym (append_assoc v w (t ∷ []))) (stands h))))
      by v w g over (Err (r, Unexpected)) f read = read
      by v w g over (Err (r, Breaks n)) f read = tt

module _ {T A B : Type 0} {p : Reader T A} {L : Grammar T A} {P : Language T} {start : Start T} {q : A → Reader T B} {M : A → Grammar T B} {Q : Language T} {first next : T → Bool} where
  -- what begins the second part has to end a phrase of L
  pub then_among_if : {go : T → Bool} → Reads p L P start go → ((a : A) → ReadsAmong (q a) (M a) Q (Must first) next) → ((t : T) → first t ≡ true → go t ≡ false) → ReadsAmong (then_at p q) (Then L M) (PlainThen P Q) (start_then start (Must first)) next
  then_among_if {go} reads behind apart = record { reads = then_reads_if reads (λ a. (behind a).reads) apart; settles = sequence_settles reads behind (λ v w t rest f g over. reads.plain v (w ++ t ∷ rest) f (next_apart first go apart (w ++ t ∷ rest) (next_stays first w (t ∷ rest) (begins ((behind reads.some).reads) w g)))) }

  -- a first part that never goes on
  pub then_among : Reads p L P start never → ((a : A) → ReadsAmong (q a) (M a) Q (Must first) next) → ReadsAmong (then_at p q) (Then L M) (PlainThen P Q) (start_then start (Must first)) next
  then_among reads behind = then_among_if reads behind (λ t h. refl)

-- ---- x | y

module _ {T A : Type 0} {first : T → Bool} {p q : Reader T A} {L M : Grammar T A} {P Q : Language T} {other go next : T → Bool} where
  -- the second doesn't begin as the first
  pub either_among : ReadsAmong p L P (Must first) go → ReadsAmong q M Q (Must other) next → ((t : T) → other t ≡ true → first t ≡ false) → ReadsAmong (either_at first p q) (Either L M) (PlainEither P Q) (Must (λ t. first t || other t)) (λ t. go t || next t)
  either_among among others apart = record { reads = either_reads among.reads others.reads apart; settles = settles }
    where
      settles : Settles (either_at first p q) (PlainEither P Q) (λ t. go t || next t)
      settles front t rest (inl h) goes ends =
          let is : next_is first (front ++ t ∷ rest) ≡ true = next_stays first front (t ∷ rest) (begins among.reads front h) in
          rw is (read_before among front t rest h (λ f. ends (front_as P (PlainEither P Q) (front ++ t ∷ []) (λ v i. inl i) f)))
      settles front t rest (inr h) goes ends =
          let is : next_is first (front ++ t ∷ rest) ≡ false = next_apart other first apart (front ++ t ∷ rest) (next_stays other front (t ∷ rest) (begins others.reads front h)) in
          rw is (read_before others front t rest h (λ f. ends (front_as Q (PlainEither P Q) (front ++ t ∷ []) (λ v i. inr i) f)))

-- ---- x { y }, where each y goes on from the tree so far, and each token that passes `first` begins one

module _ {T A : Type 0} {first : T → Bool} {p : A → Reader T A} {L : A → Grammar T A} {P : Language T} {go : T → Bool} (among : (a : A) → ReadsAmong (p a) (L a) P (Must first) go) (each_token : (t : T) → first t ≡ true → IsFront P (t ∷ [])) (apart : (t : T) → first t ≡ true → go t ≡ false) where
  each_reads : (a : A) → Reads (p a) (L a) P (Must first) go
  each_reads a = (among a).reads

  -- what begins with such a token or is empty
  begins_many : A → (w : List T) → PlainMany P w → (w ≡ []) ⊎ (next_is first w ≡ true)
  begins_many a w none = inl refl
  begins_many a w (more v u f g) = inr (next_stays first v u (begins (each_reads a) v f))

  one_alone : (v : List T) → P v → PlainMany P v
  one_alone v f = subst (PlainMany P) (append-nil v) (more v [] f none)

  -- a phrase is read before those behind it, with what is behind them all
  module _ {o : Reader T A} {N : Grammar T A} {O : Language T} {start : Start T} (head : ReadsAmong o N O start go) where
    read_first : A → (v w : List T) (t : T) (rest : List T) → O v → PlainMany P w → (w ≡ [] → IsFront O (v ++ t ∷ []) → ⊥) → IsReadOrBreaks (w ++ t ∷ rest) (o (v ++ (w ++ t ∷ rest)))
    read_first a v w t rest f g alone = by (begins_many a w g)
      where
        by : (w ≡ []) ⊎ (next_is first w ≡ true) → IsReadOrBreaks (w ++ t ∷ rest) (o (v ++ (w ++ t ∷ rest)))
        by (inl e) = rw e (read_before head v t rest f (alone e))
        by (inr h) = let reads = head.reads in reads.plain v (w ++ t ∷ rest) f (next_apart first go apart (w ++ t ∷ rest) (next_stays first w (t ∷ rest) h))

  many_settles : (a : A) (front : List T) (t : T) (rest : List T) → PlainMany P front → (IsFront (PlainMany P) (front ++ t ∷ []) → ⊥) → IsReadOrBreaks (t ∷ rest) (growing_at first p a (front ++ t ∷ rest))
  many_settles a front t rest none ends = by (either_way (first t))
    where
      by : (first t ≡ true) ⊎ (first t ≡ false) → IsReadOrBreaks (t ∷ rest) (growing_at first p a (t ∷ rest))
      by (inl h) = absurd (ends (front_as P (PlainMany P) (t ∷ []) one_alone (each_token t h)))
      by (inr h) = rw (growing_ends first p a (t ∷ rest) h) refl
  many_settles a front t rest (more v w f g) ends =
      let further : IsFront (PlainMany P) (w ++ t ∷ []) → IsFront (PlainMany P) (v ++ (w ++ t ∷ [])) = front_in (PlainMany P) (PlainMany P) v (w ++ t ∷ []) (λ u i. ([], rw (append-nil u) (more v u f i))) in
      let over : IsFront (PlainMany P) (w ++ t ∷ []) → ⊥ = λ h. ends (subst (IsFront (PlainMany P)) (sym (append_assoc v w (t ∷ []))) (further h)) in
      let alone : w ≡ [] → IsFront P (v ++ t ∷ []) → ⊥ = λ e h. ends (rw (e, append-nil v) (front_as P (PlainMany P) (v ++ t ∷ []) one_alone h)) in
      rw (append_assoc v w (t ∷ rest)) (by v w f (λ b. many_settles b w t rest g over) (p a (v ++ (w ++ t ∷ rest))) refl (read_first (among a) a v w t rest f g alone))
    where
      by : (v w : List T) → P v → ((b : A) → IsReadOrBreaks (t ∷ rest) (growing_at first p b (w ++ t ∷ rest))) → (r : Result (A × List T) (List T × Why)) → p a (v ++ (w ++ t ∷ rest)) ≡ r → IsReadOrBreaks (w ++ t ∷ rest) r → IsReadOrBreaks (t ∷ rest) (growing_at first p a (v ++ (w ++ t ∷ rest)))
      by v w f again (Ok x) e read = rw (growing_goes first p (shrinks each_reads) a (v ++ (w ++ t ∷ rest)) x.0 x.1 (next_stays first v (w ++ t ∷ rest) (begins (each_reads a) v f)) e, read) (again x.0)
      by v w f again (Err (r, Unexpected)) e read = absurd read
      by v w f again (Err (r, Breaks n)) e read = rw (growing_fails first p a (v ++ (w ++ t ∷ rest)) (r, Breaks n) (next_stays first v (w ++ t ∷ rest) (begins (each_reads a) v f)) e) tt

  more_among : (a : A) → ReadsAmong (growing_at first p a) (Growing L a) (PlainMany P) (May first) (λ t. first t || go t)
  more_among a = record { reads = growing_reads each_reads apart a; settles = λ front t rest h goes ends. many_settles a front t rest h ends }

  pub list_among : {o : Reader T A} {N : Grammar T A} {O : Language T} {head_first : T → Bool} → ReadsAmong o N O (Must head_first) go → ReadsAmong (then_at o (λ a. growing_at first p a)) (Then N (λ a. Growing L a)) (PlainThen O (PlainMany P)) (Must head_first) (λ t. first t || go t)
  list_among {o} {N} {O} {head_first} head = record { reads = then_reads_if reads (λ a. (more_among a).reads) (apart, (λ t h. or_right (first t) (go t) h)); settles = sequence_settles reads more_among read }
    where
      reads : Reads o N O (Must head_first) go
      reads = head.reads

      read : (v w : List T) (t : T) (rest : List T) → O v → PlainMany P w → (IsFront (PlainThen O (PlainMany P)) ((v ++ w) ++ t ∷ []) → ⊥) → IsReadOrBreaks (w ++ t ∷ rest) (o (v ++ (w ++ t ∷ rest)))
      read v w t rest f g over = read_first head reads.some v w t rest f g (λ e h. over (rw (e, append-nil v) (front_as O (PlainThen O (PlainMany P)) (v ++ t ∷ []) (λ u i. (u, [], i, none, sym (append-nil u))) h)))
