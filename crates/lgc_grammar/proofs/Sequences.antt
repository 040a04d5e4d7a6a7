-- A reader and behind it another, which may depend on the first one's tree.
--
-- The second looks at the tokens behind the first only, so `near` of both is that of the two in a row. Where the first
-- stops, its front begins a sequence too, since something may stand behind each of its phrases. The one condition is that
-- the first, when it could go on, isn't led on by what begins the second.
use Rattle.std.proofs.Common.{◌≡◌, ℕ, Bool, true, false, List, [], ◌∷◌, ◌++◌, Result, Ok, Err, refl, sym, ap, subst, ◌∙◌, append_assoc, append-nil, inl, inr, ◌⊎◌}
use Rattle.std.proofs.lemmas.List.{append_cancel_right}
use Rattle.lgc_grammar.specs.Grammar.{Grammar, Language, Phrase, IsFront, Why, Unexpected, Breaks, One, Then, Between, PlainOne, PlainThen, PlainBetween}
use Rattle.lgc_grammar.specs.Reading.{Reader, and_then, next_is, one_at, then_at, between_at}
use Rattle.lgc_grammar.proofs.Readers.{Reads, ReadsAll, Took, Stuck, Start, Must, May, StartsBy, Follows, follows, start_either, next_or, SameNext, IsReadOrBreaks, never, and_then_ok, and_then_err, same_behind, viable_in, front_in, StopsIn, first_of, stops_here, stops_behind, one_tree}
use Rattle.lgc_grammar.proofs.Basic.{map_reads, map_all}

-- what a sequence begins with
abbrev pub start_then : {T : Type 0} → Start T → Start T → Start T
start_then (Must first) next = Must first
start_then (May first) next = start_either first next

sequence_starts : {T A B : Type 0} (p : Reader T A) (q : A → Reader T B) (start then_start : Start T) → StartsBy p start → ((a : A) → StartsBy (q a) then_start) → StartsBy (then_at p q) (start_then start then_start)
sequence_starts p q (Must first) next starts others = λ ts h. rw (starts ts h) refl
sequence_starts p q (May first) (Must next) starts others = λ ts h. let (g, k) = next_or first next ts h in let (a, e) = starts ts g in rw e (others a ts k)
sequence_starts p q (May first) (May next) starts others = λ ts h. let (g, k) = next_or first next ts h in let (a, e) = starts ts g in rw e (others a ts k)

-- ---- for any language R of both that has these parts

module _ {T A B : Type 0} {p : Reader T A} {L : Grammar T A} {P : Language T} {start : Start T} {go : T → Bool} {q : A → Reader T B} {M : A → Grammar T B} {Q : A → Language T} {then_start : Start T} {next : T → Bool} (R : Language T)
    (first : Reads p L P start go) (second : (a : A) → Reads (q a) (M a) (Q a) then_start next)
    -- what follows a phrase of L ends it
    (ends_first : Follows then_start next go)
    (opens : (v : List T) → P v → (w : List T) × R (v ++ w))
    (joins : (a : A) (v w : List T) → L (Ok a) v → Q a w → R (v ++ w))
    (parts : (ts : List T) → R ts → (a : A) × (v : List T) × (w : List T) × P v × Q a w × ((b : A) → L (Ok b) v → Q b w) × (ts ≡ v ++ w)) where
  link : (a : A) (w rest : List T) → Q a w → next_is next rest ≡ false → next_is go (w ++ rest) ≡ false
  link a w rest h ends = follows then_start (second a) go ends_first w rest h ends

  both : (a : A) (ts rest : List T) → p ts ≡ Ok (a, rest) → then_at p q ts ≡ q a rest
  both a ts rest e = rw e refl

  -- what the second does behind what the first took
  near_both : (ts : List T) (a : A) (rest : List T) (k : Took p L ts a rest) (front after : List T) → rest ≡ front ++ after → (other : List T) → SameNext after other → then_at p q ((k.front ++ front) ++ other) ≡ q a (front ++ other)
  near_both ts a rest k front after split other look =
      let one = k.near (front ++ other) (subst (λ (r : List T). SameNext r (front ++ other)) (sym split) (same_behind front after other look)) in
      rw (append_assoc k.front front other) (both a (k.front ++ (front ++ other)) (front ++ other) one)

  split_both : (ts : List T) (a : A) (rest : List T) (k : Took p L ts a rest) (front after : List T) → rest ≡ front ++ after → ts ≡ (k.front ++ front) ++ after
  split_both ts a rest k front after split = k.split ∙ ap (λ (r : List T). k.front ++ r) split ∙ sym (append_assoc k.front front after)

  sequence_took : (ts : List T) (b : B) (rest : List T) → then_at p q ts ≡ Ok (b, rest) → Took (then_at p q) (Then L M) ts b rest
  sequence_took ts b rest e =
      let (x, f, g) = and_then_ok (p ts) (λ x. q x.0 x.1) (b, rest) e in
      let k = first.took ts x.0 x.1 f in
      let m = (second x.0).took x.1 b rest g in
      record {
        front = k.front ++ m.front;
        split = split_both ts x.0 x.1 k m.front rest m.split;
        phrase = (x.0, k.front, m.front, k.phrase, m.phrase, refl);
        near = λ other look. near_both ts x.0 x.1 k m.front rest m.split other look ∙ m.near other look;
      }

  sequence_stuck : (ts rest : List T) (why : Why) → then_at p q ts ≡ Err (rest, why) → Stuck (then_at p q) (Then L M) R ts rest why
  sequence_stuck ts rest why e = by (and_then_err (p ts) (λ x. q x.0 x.1) (rest, why) e)
    where
      by : (p ts ≡ Err (rest, why)) ⊎ ((x : A × List T) × (p ts ≡ Ok x) × (q x.0 x.1 ≡ Err (rest, why))) → Stuck (then_at p q) (Then L M) R ts rest why
      by (inl f) =
          let k = first.stuck ts rest why f in
          record { front = k.front; split = k.split; viable = viable_in L (Then L M) P R [] k.front rest why (λ n w h. inl h) opens k.viable; near = λ other look. rw (k.near other look) refl }
      by (inr (x, f, g)) =
          let k = first.took ts x.0 x.1 f in
          let m = (second x.0).stuck x.1 rest why g in
          record {
            front = k.front ++ m.front;
            split = split_both ts x.0 x.1 k m.front rest m.split;
            viable = viable_in (M x.0) (Then L M) (Q x.0) R k.front m.front rest why (λ n w h. inr (x.0, k.front, w, k.phrase, h, refl)) (λ w h. ([], rw (append-nil w) (joins x.0 k.front w k.phrase h))) m.viable;
            near = λ other look. near_both ts x.0 x.1 k m.front rest m.split other look ∙ m.near other look;
          }

  sequence_plain : (front rest : List T) → R front → next_is next rest ≡ false → IsReadOrBreaks rest (then_at p q (front ++ rest))
  sequence_plain front rest h ends =
      let (a, v, w, f, g, fits, split) = parts front h in
      rw (split, append_assoc v w rest) (by v w fits (p (v ++ (w ++ rest))) refl (first.plain v (w ++ rest) f (link a w rest g ends)))
    where
      by : (v w : List T) → ((b : A) → L (Ok b) v → Q b w) → (r : Result (A × List T) (List T × Why)) → p (v ++ (w ++ rest)) ≡ r → IsReadOrBreaks (w ++ rest) r → IsReadOrBreaks rest (and_then r (λ x. q x.0 x.1))
      by v w fits (Ok x) e same =
          let k = first.took (v ++ (w ++ rest)) x.0 x.1 e in
          let v-is : v ≡ k.front = append_cancel_right v k.front (w ++ rest) (k.split ∙ ap (λ (r : List T). k.front ++ r) same) in
          rw same ((second x.0).plain w rest (fits x.0 (subst (λ (u : List T). L (Ok x.0) u) (sym v-is) k.phrase)) ends)
      by v w fits (Err (r, Unexpected)) e h = h
      by v w fits (Err (r, Breaks n)) e h = tt

  sequence_broken : (n : ℕ) (ts : List T) → Then L M (Err n) ts → StopsIn (then_at p q) R n ts
  sequence_broken n ts (inl h) = let s = first.broken n ts h in stops_here s (λ rest. rw (s.stops rest) refl) (front_in P R [] ts opens s.goes_on)
  sequence_broken n ts (inr (a, v, w, f, g, split)) =
      let s = (second a).broken n w g in
      let (more, h) = s.goes_on in
      let one : (rest : List T) → p (v ++ (s.front ++ s.last ∷ rest)) ≡ Ok (a, s.front ++ s.last ∷ rest) = λ rest. first.complete a v (s.front ++ s.last ∷ rest) f (first_of s go false more (link a (w ++ more) [] h refl) rest) in
      let way : IsFront R (v ++ w) = front_in (Q a) R v w (λ u i. ([], rw (append-nil u) (joins a v u f i))) s.goes_on in
      rw split (stops_behind s v (λ rest. both a (v ++ (s.front ++ s.last ∷ rest)) (s.front ++ s.last ∷ rest) (one rest) ∙ s.stops rest) way)

  sequence_reads : Reads (then_at p q) (Then L M) R (start_then start then_start) next
  sequence_reads = record {
    took = sequence_took;
    stuck = sequence_stuck;
    complete = λ b front rest h ends.
        let (a, v, w, f, g, split) = h in
        let one : p (v ++ (w ++ rest)) ≡ Ok (a, w ++ rest) = first.complete a v (w ++ rest) f (link a w rest ((second a).is_plain b w g) ends) in
        rw (split, append_assoc v w rest) (both a (v ++ (w ++ rest)) (w ++ rest) one ∙ (second a).complete b w rest g ends);
    broken = sequence_broken;
    plain = sequence_plain;
    is_plain = λ b ts h. let (a, v, w, f, g, split) = h in rw split (joins a v w f ((second a).is_plain b w g));
    starts = sequence_starts p q start then_start first.starts (λ a. (second a).starts);
    some = (second first.some).some;
    example = let (v, f) = first.example in let (w, r) = opens v f in (v ++ w, r);
  }

-- what follows never ends what never goes on
freely : {T : Type 0} (start : Start T) (next : T → Bool) → Follows start next never
freely (Must first) next = λ t h. refl
freely (May first) next = ((λ t h. refl), (λ t h. refl))

-- ---- with rules: the plain language of the second doesn't depend on the first one's tree

module _ {T A B : Type 0} {p : Reader T A} {L : Grammar T A} {P : Language T} {q : A → Reader T B} {M : A → Grammar T B} {Q : Language T} {start then_start : Start T} {next : T → Bool} where
  -- what follows a phrase of L has to end it
  pub then_reads_if : {go : T → Bool} → Reads p L P start go → ((a : A) → Reads (q a) (M a) Q then_start next) → Follows then_start next go → Reads (then_at p q) (Then L M) (PlainThen P Q) (start_then start then_start) next
  then_reads_if first second ends = sequence_reads (PlainThen P Q) first second ends opens joins parts
    where
      opens : (v : List T) → P v → (w : List T) × PlainThen P Q (v ++ w)
      opens v h = let (w, g) = (second first.some).example in (w, (v, w, h, g, refl))

      joins : (a : A) (v w : List T) → L (Ok a) v → Q w → PlainThen P Q (v ++ w)
      joins a v w f g = (v, w, first.is_plain a v f, g, refl)

      parts : (ts : List T) → PlainThen P Q ts → (a : A) × (v : List T) × (w : List T) × P v × Q w × ((b : A) → L (Ok b) v → Q w) × (ts ≡ v ++ w)
      parts ts (v, w, f, g, split) = (first.some, v, w, f, g, (λ _ _. g), split)

  -- a first part that never goes on
  pub then_reads : Reads p L P start never → ((a : A) → Reads (q a) (M a) Q then_start next) → Reads (then_at p q) (Then L M) (PlainThen P Q) (start_then start then_start) next
  then_reads first second = then_reads_if first second (freely then_start next)

-- ---- where no token breaks a rule

module _ {T A B : Type 0} {p : Reader T A} {L : Grammar T A} {q : A → Reader T B} {M : A → Grammar T B} {start then_start : Start T} {next : T → Bool} where
  pub then_all_if : {go : T → Bool} → ReadsAll p L start go → ((a : A) → ReadsAll (q a) (M a) then_start next) → Follows then_start next go → ReadsAll (then_at p q) (Then L M) (start_then start then_start) next
  then_all_if first second ends = sequence_reads (Phrase (Then L M)) first second ends opens joins parts
    where
      opens : (v : List T) → Phrase L v → (w : List T) × Phrase (Then L M) (v ++ w)
      opens v (a, h) = let (w, (b, g)) = (second a).example in (w, (b, (a, v, w, h, g, refl)))

      joins : (a : A) (v w : List T) → L (Ok a) v → Phrase (M a) w → Phrase (Then L M) (v ++ w)
      joins a v w f (b, g) = (b, (a, v, w, f, g, refl))

      parts : (ts : List T) → Phrase (Then L M) ts → (a : A) × (v : List T) × (w : List T) × Phrase L v × Phrase (M a) w × ((b : A) → L (Ok b) v → Phrase (M b) w) × (ts ≡ v ++ w)
      parts ts (b, (a, v, w, f, g, split)) = (a, v, w, (a, f), (b, g), (λ c h. subst (λ (d : A). Phrase (M d) w) (one_tree first a c v f h) (b, g)), split)

  pub then_all : ReadsAll p L start never → ((a : A) → ReadsAll (q a) (M a) then_start next) → ReadsAll (then_at p q) (Then L M) (start_then start then_start) next
  then_all first second = then_all_if first second (freely then_start next)

-- ---- between brackets

module _ {T A : Type 0} {p : Reader T A} {L : Grammar T A} {opens closes : T → Bool} {start : Start T} {go : T → Bool} where
  pub between_reads : {P : Language T} → Reads (one_at opens) (One opens) (PlainOne opens) (Must opens) never → Reads p L P start go → Reads (one_at closes) (One closes) (PlainOne closes) (Must closes) never → ((t : T) → closes t ≡ true → go t ≡ false) → Reads (between_at opens p closes) (Between opens L closes) (PlainBetween opens P closes) (Must opens) never
  between_reads open_reads reads close_reads apart = then_reads open_reads (λ _. then_reads_if reads (λ a. map_reads (λ _. a) close_reads) apart)

  pub between_all : ReadsAll (one_at opens) (One opens) (Must opens) never → ReadsAll p L start go → ReadsAll (one_at closes) (One closes) (Must closes) never → ((t : T) → closes t ≡ true → go t ≡ false) → ReadsAll (between_at opens p closes) (Between opens L closes) (Must opens) never
  between_all open_reads reads close_reads apart = then_all open_reads (λ _. then_all_if reads (λ a. map_all (λ _. a) close_reads) apart)
