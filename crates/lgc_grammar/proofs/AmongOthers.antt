-- Reading among the tokens of a larger text: the answer is the one that the grammar allows.
use Rattle.std.proofs.Common.{◌≡◌, ℕ, Bool, true, false, List, [], ◌∷◌, ◌++◌, Result, Ok, Err, refl, sym, ap, subst, ◌∙◌, inl, inr, ◌⊎◌, append_assoc}
use Rattle.std.proofs.lemmas.List.{append_cancel_right}
use Rattle.lgc_grammar.specs.Grammar.{Grammar, Language, IsFront, Why, Unexpected, Breaks, StopsAt, Answers}
use Rattle.lgc_grammar.specs.Reading.{Reader, and_then, whole, ended}
use Rattle.lgc_grammar.specs.Among.{EndsBefore, TakesTo, IsUnfinished, AnswersAmong}
use Rattle.lgc_grammar.proofs.Readers.{Reads, Start, IsReadOrBreaks, either_way, err, err_rest, err_why, whole_answers, whole_complete, whole_broken, one_tree, no_way_took}
use Rattle.lgc_grammar.proofs.Exact.{order_of, whole_exact}

-- A phrase that doesn't go on with a token is read before it, also where the test of tokens with which phrases may go on passes it.
abbrev pub Settles : {T A : Type 0} → Reader T A → Language T → (T → Bool) → Type 0
Settles {T} p P go = (front : List T) (t : T) (rest : List T) → P front → go t ≡ true → (IsFront P (front ++ t ∷ []) → ⊥) → IsReadOrBreaks (t ∷ rest) (p (front ++ t ∷ rest))

module _ {T A : Type 0} {p : Reader T A} {L : Grammar T A} {P : Language T} {start : Start T} {go : T → Bool} (reads : Reads p L P start go) (settles : Settles p P go) where
  -- a plain phrase is read before what it doesn't go on with
  plain_before : (front rest : List T) → P front → EndsBefore P front rest → IsReadOrBreaks rest (p (front ++ rest))
  plain_before front [] h ends = reads.plain front [] h refl
  plain_before front (t ∷ rest) h ends = by (either_way (go t))
    where
      by : (go t ≡ true) ⊎ (go t ≡ false) → IsReadOrBreaks (t ∷ rest) (p (front ++ t ∷ rest))
      by (inl goes) = settles front t rest h goes ends
      by (inr stops) = reads.plain front (t ∷ rest) h stops

  -- no token of a phrase breaks a rule, and one behind it that breaks one goes on with it
  no_rule_before : (a : A) (front rest : List T) (n : ℕ) (us : List T) → L (Ok a) front → EndsBefore P front rest → StopsAt L P (front ++ rest) us (Breaks n) → ⊥
  no_rule_before a front rest n [] h ends s = s.reason.1
  no_rule_before a front rest n (u ∷ us) h ends s = by (order_of (s.front ++ u ∷ []) front us rest (append_assoc s.front (u ∷ []) us ∙ sym s.split))
    where
      further : (rest : List T) → EndsBefore P front rest → (t : T) (m : List T) → s.front ++ u ∷ [] ≡ front ++ t ∷ m → rest ≡ t ∷ m ++ us → ⊥
      further [] none t m longer next = absurd cc
      further (v ∷ rest) none t m longer next =
          let same : t ≡ v = cc in
          let (more, way) = s.reason.0 in
          let goes : P ((front ++ t ∷ []) ++ (m ++ more)) = subst P (ap (λ (f : List T). f ++ more) longer ∙ simp append_assoc) way in
          none (m ++ more, subst (λ (x : T). P ((front ++ x ∷ []) ++ (m ++ more))) same goes)

      by : ((t : T) × (m : List T) × (front ≡ (s.front ++ u ∷ []) ++ t ∷ m) × (us ≡ t ∷ m ++ rest)) ⊎ (((t : T) × (m : List T) × (s.front ++ u ∷ [] ≡ front ++ t ∷ m) × (rest ≡ t ∷ m ++ us)) ⊎ (us ≡ rest)) → ⊥
      by (inl (t, m, longer, next)) =
          let told = whole_broken reads n s.front u (t ∷ m) s.reason.1 in
          let read = ap (whole p) (sym (append_assoc s.front (u ∷ []) (t ∷ m))) ∙ ap (whole p) (sym longer) ∙ whole_complete reads a front h in
          let both = sym told ∙ read in
          cc
      by (inr (inl (t, m, longer, next))) = further rest ends t m longer next
      by (inr (inr same)) =
          let all : (s.front ++ u ∷ []) ++ us ≡ front ++ us = append_assoc s.front (u ∷ []) us ∙ sym s.split ∙ ap (λ (x : List T). front ++ x) (sym same) in
          let told = whole_broken reads n s.front u [] s.reason.1 in
          let read = ap (whole p) (append_cancel_right (s.front ++ u ∷ []) front us all) ∙ whole_complete reads a front h in
          let both = sym told ∙ read in
          cc

  -- a phrase is read before what it doesn't go on with
  pub among_complete : (a : A) (front rest : List T) → L (Ok a) front → EndsBefore P front rest → p (front ++ rest) ≡ Ok (a, rest)
  among_complete a front rest h ends = by (p (front ++ rest)) refl (plain_before front rest (reads.is_plain a front h) ends)
    where
      by : (r : Result (A × List T) (List T × Why)) → p (front ++ rest) ≡ r → IsReadOrBreaks rest r → r ≡ Ok (a, rest)
      by (Err (us, Unexpected)) e read = absurd read
      by (Err (us, Breaks n)) e read =
          let answer : Answers L P (front ++ rest) (Err (us, Breaks n)) = subst (Answers L P (front ++ rest)) (ap (λ (r : Result (A × List T) (List T × Why)). and_then r ended) e) (whole_answers reads (front ++ rest)) in
          absurd (no_rule_before a front rest n us h ends answer)
      by (Ok (b, us)) e read =
          let k = reads.took (front ++ rest) b us e in
          let same : front ≡ k.front = append_cancel_right front k.front rest (k.split ∙ ap (λ (u : List T). k.front ++ u) read) in
          let tree : a ≡ b = one_tree reads a b front h (subst (L (Ok b)) (sym same) k.phrase) in
          rw (tree, read) refl

  -- reading answers what the grammar asks for
  pub among_answers : (ts : List T) → AnswersAmong L P ts (p ts)
  among_answers ts = by (p ts) refl
    where
      ends_took : (a : A) (rest : List T) → p ts ≡ Ok (a, rest) → TakesTo L P ts rest a
      ends_took a [] e = let k = reads.took ts a [] e in record { front = k.front; split = k.split; phrase = k.phrase; longest = tt }
      ends_took a (t ∷ rest) e = let k = reads.took ts a (t ∷ rest) e in record { front = k.front; split = k.split; phrase = k.phrase; longest = no_way_took reads ts a t rest k }

      unfinished : (rest : List T) (s : StopsAt L P ts rest Unexpected) → p ts ≡ Err (rest, Unexpected) → P s.front → ⊥
      unfinished [] s e h = s.reason.1 h
      unfinished (t ∷ rest) s e h =
          let read = plain_before s.front (t ∷ rest) h s.reason.1 in
          let stuck : p (s.front ++ t ∷ rest) ≡ Err (t ∷ rest, Unexpected) = ap p (sym s.split) ∙ e in
          rw stuck at read

      stops : (rest : List T) (why : Why) (s : StopsAt L P ts rest why) → p ts ≡ Err (rest, why) → IsUnfinished P why s.front
      stops rest Unexpected s e = unfinished rest s e
      stops rest (Breaks n) s e = tt

      by : (r : Result (A × List T) (List T × Why)) → p ts ≡ r → AnswersAmong L P ts r
      by (Ok (a, rest)) e = ends_took a rest e
      by (Err (rest, why)) e =
          let s : Answers L P ts (Err (rest, why)) = subst (Answers L P ts) (ap (λ (r : Result (A × List T) (List T × Why)). and_then r ended) e) (whole_answers reads ts) in
          (s, stops rest why s e)

  -- and no other answer is right
  pub among_exact : (ts : List T) (answer : Result (A × List T) (List T × Why)) → AnswersAmong L P ts answer → p ts ≡ answer
  among_exact ts (Ok (a, rest)) h = ap p h.split ∙ among_complete a h.front rest h.phrase h.longest
  among_exact ts (Err (rest, why)) (s, unfinished) = by (p ts) refl (whole_exact reads ts (Err (rest, why)) s)
    where
      finished : (b : A) (us left : List T) (w : Why) (stop : StopsAt L P ts left w) → IsUnfinished P w stop.front → TakesTo L P ts us b → left ≡ us → w ≡ Unexpected → ⊥
      finished b us left (Breaks n) stop still k next is = absurd cc
      finished b us left Unexpected stop still k next is =
          let same : k.front ≡ stop.front = append_cancel_right k.front stop.front us (sym k.split ∙ stop.split ∙ ap (λ (u : List T). stop.front ++ u) next) in
          still (subst P same (reads.is_plain b k.front k.phrase))

      behind : (b : A) (us : List T) → p ts ≡ Ok (b, us) → ended (b, us) ≡ Err (rest, why) → ⊥
      behind b [] e g = absurd cc
      behind b (u ∷ us) e g =
          let k : TakesTo L P ts (u ∷ us) b = subst (AnswersAmong L P ts) e (among_answers ts) in
          finished b (u ∷ us) rest why s unfinished k (sym (err_rest g)) (sym (err_why g))

      by : (r : Result (A × List T) (List T × Why)) → p ts ≡ r → whole p ts ≡ Err (rest, why) → r ≡ Err (rest, why)
      by (Err (us, w)) e g =
          let both : err {A = A} (us, w) ≡ Err (rest, why) = sym (ap (λ (r : Result (A × List T) (List T × Why)). and_then r ended) e) ∙ g in
          ap (λ (v : List T). err (v, w)) (err_rest both) ∙ ap (λ (v : Why). err (rest, v)) (err_why both)
      by (Ok (b, us)) e g = absurd (behind b us e (sym (ap (λ (r : Result (A × List T) (List T × Why)). and_then r ended) e) ∙ g))
