-- One of two readers by the next token, and optional parts.
--
-- The next token decides, so nothing is read twice: the first reader where a phrase of the first begins with this token, and
-- else the second. The one condition is that the second, with what may follow it, doesn't begin as the first.
use Rattle.std.proofs.Common.{◌≡◌, ℕ, Bool, true, false, List, [], ◌∷◌, ◌++◌, Ok, Err, refl, sym, ap, ◌∙◌, inl, inr, ◌⊎◌}
use Rattle.std.specs.Prelude.{◌||◌}
use Rattle.lgc_grammar.specs.Grammar.{Grammar, Language, Phrase, Why, Either, Optional, PlainEither, PlainOptional}
use Rattle.lgc_grammar.specs.Reading.{Reader, next_is, either_at, optional_at, nothing_at}
use Rattle.lgc_grammar.proofs.Readers.{Reads, ReadsAll, Took, Stuck, Start, Must, May, StartsBy, Follows, follows, start_either, starts_with, next_or, IsReadOrBreaks, next_alike, next_stays, begins, viable_as, front_as, StopsIn, first_of, stops_here, either_way, or_left, or_right, goes_with, reads_all}
use Rattle.lgc_grammar.proofs.Basic.{nothing_reads}

-- ---- x | y

module _ {T A : Type 0} (first : T → Bool) (p q : Reader T A) where
  goes_first : (ts : List T) → next_is first ts ≡ true → either_at first p q ts ≡ p ts
  goes_first ts h = rw h refl

  goes_second : (ts : List T) → next_is first ts ≡ false → either_at first p q ts ≡ q ts
  goes_second ts h = rw h refl

  either_starts : (other : Start T) → StartsBy q other → StartsBy (either_at first p q) (start_either first other)
  either_starts (Must other) starts = λ ts h. let (g, k) = next_or first other ts h in goes_second ts g ∙ starts ts k
  either_starts (May other) starts = λ ts h. let (g, k) = next_or first other ts h in let (a, e) = starts ts k in (a, goes_second ts g ∙ e)

module _ {T A : Type 0} {first : T → Bool} {p q : Reader T A} {L M : Grammar T A} {P Q : Language T} {other : Start T} {go : T → Bool} (reads : Reads p L P (Must first) go) (others : Reads q M Q other go) (apart : Follows other go first) where
  choice_took : (ts : List T) (a : A) (rest : List T) → either_at first p q ts ≡ Ok (a, rest) → Took (either_at first p q) (Either L M) ts a rest
  choice_took ts a rest e = by (either_way (next_is first ts))
    where
      by : (next_is first ts ≡ true) ⊎ (next_is first ts ≡ false) → Took (either_at first p q) (Either L M) ts a rest
      by (inl h) =
          let k = reads.took ts a rest (sym (goes_first first p q ts h) ∙ e) in
          record { front = k.front; split = k.split; phrase = inl k.phrase; near = λ other look. goes_first first p q (k.front ++ other) (sym (next_alike first k.front rest other look) ∙ ap (next_is first) (sym k.split) ∙ h) ∙ k.near other look }
      by (inr h) =
          let k = others.took ts a rest (sym (goes_second first p q ts h) ∙ e) in
          record { front = k.front; split = k.split; phrase = inr k.phrase; near = λ other look. goes_second first p q (k.front ++ other) (sym (next_alike first k.front rest other look) ∙ ap (next_is first) (sym k.split) ∙ h) ∙ k.near other look }

  choice_stuck : (ts rest : List T) (why : Why) → either_at first p q ts ≡ Err (rest, why) → Stuck (either_at first p q) (Either L M) (PlainEither P Q) ts rest why
  choice_stuck ts rest why e = by (either_way (next_is first ts))
    where
      by : (next_is first ts ≡ true) ⊎ (next_is first ts ≡ false) → Stuck (either_at first p q) (Either L M) (PlainEither P Q) ts rest why
      by (inl h) =
          let k = reads.stuck ts rest why (sym (goes_first first p q ts h) ∙ e) in
          record { front = k.front; split = k.split; viable = viable_as L (Either L M) P (PlainEither P Q) k.front rest why (λ n w h. inl h) (λ v g. inl g) k.viable; near = λ other look. goes_first first p q (k.front ++ other) (sym (next_alike first k.front rest other look) ∙ ap (next_is first) (sym k.split) ∙ h) ∙ k.near other look }
      by (inr h) =
          let k = others.stuck ts rest why (sym (goes_second first p q ts h) ∙ e) in
          record { front = k.front; split = k.split; viable = viable_as M (Either L M) Q (PlainEither P Q) k.front rest why (λ n w h. inr h) (λ v g. inr g) k.viable; near = λ other look. goes_second first p q (k.front ++ other) (sym (next_alike first k.front rest other look) ∙ ap (next_is first) (sym k.split) ∙ h) ∙ k.near other look }

  reads_first : (front rest : List T) → P front → either_at first p q (front ++ rest) ≡ p (front ++ rest)
  reads_first front rest h = goes_first first p q (front ++ rest) (next_stays first front rest (begins reads front h))

  reads_second : (front rest : List T) → Q front → next_is go rest ≡ false → either_at first p q (front ++ rest) ≡ q (front ++ rest)
  reads_second front rest h ends = goes_second first p q (front ++ rest) (follows other others first apart front rest h ends)

  pub choice_reads : Reads (either_at first p q) (Either L M) (PlainEither P Q) (start_either first other) go
  choice_reads = record { took = choice_took; stuck = choice_stuck; complete = complete; broken = broken; plain = plain; is_plain = is_plain; starts = either_starts first p q other others.starts; some = reads.some; example = let (v, h) = reads.example in (v, inl h) }
    where
      broken : (n : ℕ) (ts : List T) → Either L M (Err n) ts → StopsIn (either_at first p q) (PlainEither P Q) n ts
      broken n ts (inl h) =
          let s = reads.broken n ts h in
          let (more, g) = s.goes_on in
          let is = first_of s first true more (next_stays first (ts ++ more) [] (begins reads (ts ++ more) g)) in
          stops_here s (λ rest. goes_first first p q (s.front ++ s.last ∷ rest) (is rest) ∙ s.stops rest) (front_as P (PlainEither P Q) ts (λ v i. inl i) s.goes_on)
      broken n ts (inr h) =
          let s = others.broken n ts h in
          let (more, g) = s.goes_on in
          let is = first_of s first false more (follows other others first apart (ts ++ more) [] g refl) in
          stops_here s (λ rest. goes_second first p q (s.front ++ s.last ∷ rest) (is rest) ∙ s.stops rest) (front_as Q (PlainEither P Q) ts (λ v i. inr i) s.goes_on)

      complete : (a : A) (front rest : List T) → Either L M (Ok a) front → next_is go rest ≡ false → either_at first p q (front ++ rest) ≡ Ok (a, rest)
      complete a front rest (inl h) ends = reads_first front rest (reads.is_plain a front h) ∙ reads.complete a front rest h ends
      complete a front rest (inr h) ends = reads_second front rest (others.is_plain a front h) ends ∙ others.complete a front rest h ends

      plain : (front rest : List T) → PlainEither P Q front → next_is go rest ≡ false → IsReadOrBreaks rest (either_at first p q (front ++ rest))
      plain front rest (inl h) ends = rw (reads_first front rest h) (reads.plain front rest h ends)
      plain front rest (inr h) ends = rw (reads_second front rest h ends) (others.plain front rest h ends)

      is_plain : (a : A) (ts : List T) → Either L M (Ok a) ts → PlainEither P Q ts
      is_plain a ts (inl h) = inl (reads.is_plain a ts h)
      is_plain a ts (inr h) = inr (others.is_plain a ts h)

module _ {T A : Type 0} {first : T → Bool} {p q : Reader T A} {L M : Grammar T A} {other : Start T} {go next : T → Bool} where
  -- the second, with what follows it, doesn't begin as the first
  pub either_reads : {P Q : Language T} → Reads p L P (Must first) go → Reads q M Q other next → Follows other (λ t. go t || next t) first → Reads (either_at first p q) (Either L M) (PlainEither P Q) (start_either first other) (λ t. go t || next t)
  either_reads reads more apart = choice_reads (goes_with reads (λ t. go t || next t) (λ t h. or_left (go t) (next t) h)) (goes_with more (λ t. go t || next t) (λ t h. or_right (go t) (next t) h)) apart

  pub either_all : ReadsAll p L (Must first) go → ReadsAll q M other next → Follows other (λ t. go t || next t) first → ReadsAll (either_at first p q) (Either L M) (start_either first other) (λ t. go t || next t)
  either_all reads more apart = reads_all (either_reads reads more apart) trees
    where
      trees : (ts : List T) → PlainEither (Phrase L) (Phrase M) ts → Phrase (Either L M) ts
      trees ts (inl h) = (h.0, inl h.1)
      trees ts (inr h) = (h.0, inr h.1)

-- ---- [ x ]

module _ {T A : Type 0} {first : T → Bool} (d : A) {p : Reader T A} {L : Grammar T A} {go : T → Bool} where
  pub optional_reads : {P : Language T} → Reads p L P (Must first) go → Reads (optional_at first d p) (Optional d L) (PlainOptional P) (May first) (λ t. first t || go t)
  optional_reads reads = starts_with (choice_reads (goes_with reads (λ t. first t || go t) (λ t h. or_right (first t) (go t) h)) (nothing_reads d (λ t. first t || go t)) ((λ t h. absurd cc), (λ t h. or_left (first t) (go t) h))) (May first) starts
    where
      starts : StartsBy (optional_at first d p) (May first)
      starts ts h = (d, goes_second first p (nothing_at d) ts h)

  pub optional_all : ReadsAll p L (Must first) go → ReadsAll (optional_at first d p) (Optional d L) (May first) (λ t. first t || go t)
  optional_all reads = reads_all (optional_reads reads) trees
    where
      trees : (ts : List T) → PlainOptional (Phrase L) ts → Phrase (Optional d L) ts
      trees ts (inl h) = (h.0, inl h.1)
      trees ts (inr h) = (d, inr (refl, h))
