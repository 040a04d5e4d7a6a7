-- Phrases that may not end where their tree is bad. Each of them goes on, so what begins a plain phrase begins one that may end.
use Rattle.std.proofs.Common.{◌≡◌, Bool, true, false, List, [], ◌∷◌, ◌++◌, Result, Ok, Err, refl, sym, ap, subst, ◌∙◌, append_assoc, append-nil, inl, inr, ◌⊎◌}
use Rattle.std.proofs.lemmas.List.{append_cancel_right}
use Rattle.lgc_grammar.specs.Grammar.{Grammar, Language, Why, Unexpected, Breaks, IsFront, Answers}
use Rattle.lgc_grammar.specs.Reading.{Reader, and_then, next_is, whole}
use Rattle.lgc_grammar.specs.Unless.{Unless, PlainUnless, unless_bad, unless_at}
use Rattle.lgc_grammar.proofs.Readers.{Reads, Took, Stuck, Must, IsReadOrBreaks, IsViable, either_way, stops_here, took_at, stuck_at, one_tree, whole_answers, whole_complete}
use Rattle.lgc_grammar.proofs.Exact.{stops_in_none}

module _ {T A : Type 0} (bad : A → Bool) (p : Reader T A) where
  goes : (ts : List T) (a : A) (rest : List T) → p ts ≡ Ok (a, rest) → bad a ≡ false → unless_at bad p ts ≡ Ok (a, rest)
  goes ts a rest e h = rw (e, h) refl

  bars : (ts : List T) (a : A) (rest : List T) → p ts ≡ Ok (a, rest) → bad a ≡ true → unless_at bad p ts ≡ Err (rest, Unexpected)
  bars ts a rest e h = rw (e, h) refl

  fails : (ts : List T) (d : List T × Why) → p ts ≡ Err d → unless_at bad p ts ≡ Err d
  fails ts d e = rw e refl

module _ {T A : Type 0} (bad : A → Bool) {p : Reader T A} {L : Grammar T A} {P : Language T} {first go : T → Bool} (reads : Reads p L P (Must first) go) (opens : (a : A) (ts : List T) → L (Ok a) ts → bad a ≡ true → IsFront (PlainUnless bad L P) ts) where
  -- a plain phrase begins one that may end
  phrase_opens : (ts : List T) → P ts → IsFront (PlainUnless bad L P) ts
  phrase_opens ts h = by (whole p ts) refl (whole_answers reads ts)
    where
      by : (r : Result A (List T × Why)) → whole p ts ≡ r → Answers L P ts r → IsFront (PlainUnless bad L P) ts
      by (Err (rest, Unexpected)) e g = absurd (stops_in_none L ts rest g h)
      by (Err (rest, Breaks n)) e g = ([], rw (append-nil ts) (h, λ a i. let f = sym (whole_complete reads a ts i) ∙ e in absurd cc))
      by (Ok a) e g = at (either_way (bad a))
        where
          at : (bad a ≡ true) ⊎ (bad a ≡ false) → IsFront (PlainUnless bad L P) ts
          at (inl j) = opens a ts g j
          at (inr j) = ([], rw (append-nil ts) (h, λ b i. subst (λ (c : A). bad c ≡ false) (one_tree reads a b ts g i) j))

  front_opens : (front : List T) → IsFront P front → IsFront (PlainUnless bad L P) front
  front_opens front (more, h) =
      let (other, g) = phrase_opens (front ++ more) h in
      (more ++ other, subst (PlainUnless bad L P) (append_assoc front more other) g)

  viable_opens : (front rest : List T) (why : Why) → IsViable L P why front rest → IsViable (Unless bad L) (PlainUnless bad L P) why front rest
  viable_opens front rest Unexpected h = front_opens front h
  viable_opens front [] (Breaks n) h = h
  viable_opens front (t ∷ rest) (Breaks n) h = h

  unless_took : (ts : List T) (a : A) (rest : List T) → unless_at bad p ts ≡ Ok (a, rest) → Took (unless_at bad p) (Unless bad L) ts a rest
  unless_took ts a rest e = by (p ts) refl
    where
      by : (r : Result (A × List T) (List T × Why)) → p ts ≡ r → Took (unless_at bad p) (Unless bad L) ts a rest
      by (Err d) g = let f = sym (fails bad p ts d g) ∙ e in absurd cc
      by (Ok (b, us)) g = at (either_way (bad b))
        where
          at : (bad b ≡ true) ⊎ (bad b ≡ false) → Took (unless_at bad p) (Unless bad L) ts a rest
          at (inl j) = let f = sym (bars bad p ts b us g j) ∙ e in absurd cc
          at (inr j) =
              let k = reads.took ts b us g in
              let here : Took (unless_at bad p) (Unless bad L) ts b us = record { front = k.front; split = k.split; phrase = (j, k.phrase); near = λ other look. goes bad p (k.front ++ other) b other (k.near other look) j } in
              took_at ts here (sym (goes bad p ts b us g j) ∙ e)

  unless_stuck : (ts rest : List T) (why : Why) → unless_at bad p ts ≡ Err (rest, why) → Stuck (unless_at bad p) (Unless bad L) (PlainUnless bad L P) ts rest why
  unless_stuck ts rest why e = by (p ts) refl
    where
      by : (r : Result (A × List T) (List T × Why)) → p ts ≡ r → Stuck (unless_at bad p) (Unless bad L) (PlainUnless bad L P) ts rest why
      by (Err (us, y)) g =
          let k = reads.stuck ts us y g in
          let here : Stuck (unless_at bad p) (Unless bad L) (PlainUnless bad L P) ts us y = record { front = k.front; split = k.split; viable = viable_opens k.front us y k.viable; near = λ other look. fails bad p (k.front ++ other) (other, y) (k.near other look) } in
          stuck_at ts here (sym (fails bad p ts (us, y) g) ∙ e)
      by (Ok (a, us)) g = at (either_way (bad a))
        where
          at : (bad a ≡ true) ⊎ (bad a ≡ false) → Stuck (unless_at bad p) (Unless bad L) (PlainUnless bad L P) ts rest why
          at (inr j) = let f = sym (goes bad p ts a us g j) ∙ e in absurd cc
          at (inl j) =
              let k = reads.took ts a us g in
              let here : Stuck (unless_at bad p) (Unless bad L) (PlainUnless bad L P) ts us Unexpected = record { front = k.front; split = k.split; viable = opens a k.front k.phrase j; near = λ other look. bars bad p (k.front ++ other) a other (k.near other look) j } in
              stuck_at ts here (sym (bars bad p ts a us g j) ∙ e)

  unless_plain : (front rest : List T) → PlainUnless bad L P front → next_is go rest ≡ false → IsReadOrBreaks rest (unless_at bad p (front ++ rest))
  unless_plain front rest (h, not_bad) ends = by (p (front ++ rest)) refl (reads.plain front rest h ends)
    where
      by : (r : Result (A × List T) (List T × Why)) → p (front ++ rest) ≡ r → IsReadOrBreaks rest r → IsReadOrBreaks rest (and_then r (unless_bad bad))
      by (Err (us, Unexpected)) e g = g
      by (Err (us, Breaks n)) e g = g
      by (Ok (a, us)) e g =
          let k = reads.took (front ++ rest) a us e in
          let same : front ≡ k.front = append_cancel_right front k.front rest (k.split ∙ ap (λ (u : List T). k.front ++ u) g) in
          rw (not_bad a (subst (L (Ok a)) (sym same) k.phrase)) g

  pub unless_reads : Reads (unless_at bad p) (Unless bad L) (PlainUnless bad L P) (Must first) go
  unless_reads = record {
    took = unless_took;
    stuck = unless_stuck;
    complete = λ a front rest h ends. goes bad p (front ++ rest) a rest (reads.complete a front rest h.1 ends) h.0;
    broken = λ n ts h. let s = reads.broken n ts h in stops_here s (λ rest. fails bad p (s.front ++ s.last ∷ rest) (s.last ∷ rest, Breaks n) (s.stops rest)) (front_opens ts s.goes_on);
    plain = unless_plain;
    is_plain = λ a ts h. (reads.is_plain a ts h.1, λ b i. subst (λ (c : A). bad c ≡ false) (one_tree reads a b ts h.1 i) h.0);
    starts = λ ts h. fails bad p ts (ts, Unexpected) (reads.starts ts h);
    some = reads.some;
    example = let (v, h) = reads.example in let (more, g) = phrase_opens v h in (v ++ more, g);
  }
