-- What reading the phrase at a place tells is what the tokens from there on give, and the one thing that they give.
use Rattle.std.proofs.Common.{◌≡◌, ℕ, Bool, false, ◌+◌, ◌-◌, ◌<◌, ◌≤◌, List, [], ◌∷◌, ◌++◌, length, drop, Result, Ok, Err, refl, sym, ap, subst, inl, inr, ◌⊎◌, ◌∙◌, arith, append-nil, append_assoc, length-append, length-drop}
use Rattle.std.proofs.lemmas.List.{drop-drop, append_cancel_right}
use Rattle.lgc_grammar.specs.Grammar.{Grammar, Language, Why, Unexpected, Breaks, IsFront, StopsAt, Answers}
use Rattle.lgc_grammar.specs.Reading.{Reader, whole, next_is}
use Rattle.lgc_grammar.proofs.Readers.{Reads, Start, Took, Stuck, SameNext, never, ok, err, whole_answers, no_way_took, one_tree}
use Rattle.lgc_grammar.proofs.Exact.{whole_exact, order_of}
use Rattle.lgc_grammar.proofs.BrokenRules.{Only}
use Rattle.lgc_lexer.specs.declared.token.Token.{Token}
use Rattle.lgc_tokens.proofs.Places.{drop_to}
use Rattle.lgc_syntax.specs.declared.fault.InputFault.{InputFault}
use Rattle.lgc_syntax.specs.declared.fault.InputFault.TheVariants as fault
use Rattle.lgc_syntax.specs.declared.fault.TheConstants.{UNEXPECTED}
use Rattle.lgc_inputs.specs.Faults.{IsFaultIn, fault_of}
use Rattle.lgc_inputs.specs.Places.{EndsBefore, BeginsWith, PlaceGives, with_rest, AccountGives, viewed}
use Rattle.lgc_inputs.specs.Told.{IfFault, Holds, IsTree, Tells, told_of}
use Rattle.lgc_inputs.proofs.Texts.{fault_told, fault_number}

never_next : {S : Type 0} (ts : List S) → next_is never ts ≡ false
never_next [] = refl
never_next (t ∷ ts) = refl

module _ {S A : Type 0} (offset : S → ℕ) {p : Reader S A} {L : Grammar S A} {P : Language S} {start : Start S} {go : S → Bool} (reads : Reads p L P start go) (settled : (tree : A) (front rest : List S) → L (Ok tree) front → p (front ++ rest) ≡ Err (rest, Unexpected) → ⊥) where
  -- what is read is a phrase that ends there
  read_ends : (ts rest : List S) (tree : A) → p ts ≡ Ok (tree, rest) → (k : Took p L ts tree rest) × EndsBefore P k.front rest
  read_ends ts rest tree e = let k = reads.took ts tree rest e in (k, ends rest k)
    where
      ends : (rest : List S) (k : Took p L ts tree rest) → EndsBefore P k.front rest
      ends [] k = tt
      ends (t ∷ rest) k = no_way_took reads ts tree t rest k

  pub begins_read : (ts rest : List S) (tree : A) → p ts ≡ Ok (tree, rest) → BeginsWith L P ts tree rest
  begins_read ts rest tree e = let (k, over) = read_ends ts rest tree e in (k.front, k.split, k.phrase, over)

  -- a phrase doesn't end before a token with which it goes on
  goes_further : (front rest : List S) → EndsBefore P front rest → (t : S) (m r : List S) → rest ≡ t ∷ m ++ r → IsFront P (front ++ t ∷ m) → ⊥
  goes_further front rest ends t m r e (more, h) =
      let here : EndsBefore P front (t ∷ m ++ r) = subst (EndsBefore P front) e ends in
      here (m ++ more, subst P (append_assoc front (t ∷ m) more ∙ sym (append_assoc front (t ∷ []) (m ++ more))) h)

  begins_front : (front : List S) → P front → IsFront P front
  begins_front front h = ([], subst P (sym (append-nil front)) h)

  -- reading doesn't stop in a phrase
  stops_in_none : (tree : A) (ts r : List S) (why : Why) (k : Stuck p L P ts r why) (t : S) (m rest : List S) → L (Ok tree) (k.front ++ t ∷ m) → r ≡ t ∷ m ++ rest → ⊥
  stops_in_none tree ts r why k t m rest phrase e =
      let read = rw (append-nil (k.front ++ t ∷ m)) at (reads.complete tree (k.front ++ t ∷ m) [] phrase refl) in
      let alike : SameNext r (t ∷ m) = subst (λ (u : List S). SameNext u (t ∷ m)) (sym e) refl in
      let both = sym read ∙ k.near (t ∷ m) alike in
      cc

  -- a phrase that ends there is read
  pub read_begins : (ts rest : List S) (tree : A) → BeginsWith L P ts tree rest → p ts ≡ Ok (tree, rest)
  read_begins ts rest tree (front, split, phrase, ends) = by (p ts) refl
    where
      Placed : List S → List S → Type 0
      Placed other r = ((t : S) × (m : List S) × (other ≡ front ++ t ∷ m) × (rest ≡ t ∷ m ++ r)) ⊎ (((t : S) × (m : List S) × (front ≡ other ++ t ∷ m) × (r ≡ t ∷ m ++ rest)) ⊎ (rest ≡ r))

      placed : (other r : List S) → ts ≡ other ++ r → Placed other r
      placed other r e = order_of front other rest r (sym split ∙ e)

      same_front : (other r : List S) → ts ≡ other ++ r → rest ≡ r → front ≡ other
      same_front other r e same = append_cancel_right front other r (ap (λ (u : List S). front ++ u) (sym same) ∙ sym split ∙ e)

      took : (other : A) (r : List S) (k : Took p L ts other r) → EndsBefore P k.front r → Placed k.front r → ok {A = A × List S} {E = List S × Why} (other, r) ≡ Ok (tree, rest)
      took other r k over (inl (t, m, h, f)) = absurd (goes_further front rest ends t m r f (subst (IsFront P) h (begins_front k.front (reads.is_plain other k.front k.phrase))))
      took other r k over (inr (inl (t, m, h, f))) = absurd (goes_further k.front r over t m rest f (subst (IsFront P) h (begins_front front (reads.is_plain tree front phrase))))
      took other r k over (inr (inr same)) =
          let alike : tree ≡ other = one_tree reads tree other front phrase (subst (λ (u : List S). L (Ok other) u) (sym (same_front k.front r k.split same)) k.phrase) in
          rw (alike, same) refl

      stuck : (r : List S) (why : Why) → p ts ≡ Err (r, why) → (k : Stuck p L P ts r why) → Placed k.front r → ⊥
      stuck r Unexpected e k (inl (t, m, h, f)) = goes_further front rest ends t m r f (subst (IsFront P) h k.viable)
      stuck [] (Breaks n) e k here = k.viable
      stuck (u ∷ r) (Breaks n) e k (inl (t, m, h, f)) =
          let b = reads.broken n (k.front ++ u ∷ []) k.viable in
          let (more, g) = b.goes_on in
          goes_further front rest ends t m (u ∷ r) f (subst (IsFront P) h (u ∷ more, subst P (append_assoc k.front (u ∷ []) more) g))
      stuck r why e k (inr (inl (t, m, h, f))) = stops_in_none tree ts r why k t m rest (subst (λ (v : List S). L (Ok tree) v) h phrase) f
      stuck r Unexpected e k (inr (inr same)) =
          let whole : ts ≡ front ++ rest = split in
          settled tree front rest phrase (ap p (sym whole) ∙ e ∙ ap (λ (v : List S). err {A = A × List S} {E = List S × Why} (v, Unexpected)) (sym same))
      stuck (u ∷ r) (Breaks n) e k (inr (inr same)) =
          let b = reads.broken n (k.front ++ u ∷ []) k.viable in
          let on : IsFront P (k.front ++ u ∷ []) = b.goes_on in
          goes_further front rest ends u [] r same (subst (λ (v : List S). IsFront P (v ++ u ∷ [])) (sym (same_front k.front (u ∷ r) k.split same)) on)

      by : (answer : Result (A × List S) (List S × Why)) → p ts ≡ answer → answer ≡ Ok (tree, rest)
      by (Ok (other, r)) e = let (k, over) = read_ends ts r other e in took other r k over (placed k.front r k.split)
      by (Err (r, why)) e = let k = reads.stuck ts r why e in absurd (stuck r why e k (placed k.front r k.split))

  module _ (end : ℕ) (ts : List S) where
    -- a fault of tokens that begin with no phrase is the one for which reading stops
    fault_read : (f : InputFault) → IsFaultIn offset L P end ts f → (e : List S × Why) → p ts ≡ Err e → fault_of offset end e ≡ f
    fault_read f h e stops =
        let whole_stops : whole p ts ≡ Err e = rw stops refl in
        let told = fault_told offset (λ tokens. ts) L P (whole p) (whole_answers reads) (whole_exact reads) end ts f h in
        let same = rw whole_stops at told in
        cc

    stops_there : (e : List S × Why) → p ts ≡ Err e → IsFaultIn offset L P end ts (fault_of offset end e)
    stops_there (rest, why) stops =
        let whole_stops : whole p ts ≡ Err (rest, why) = rw stops refl in
        (rest, why, subst (Answers L P ts) whole_stops (whole_answers reads ts), refl)

    begins_with_none : (e : List S × Why) → p ts ≡ Err e → (tree : A) (rest : List S) → BeginsWith L P ts tree rest → ⊥
    begins_with_none e stops tree rest h = let both = sym (read_begins ts rest tree h) ∙ stops in cc

    -- the phrase that is told
    pub told_begins : (tree : A) (rest : List S) → told_of offset end (p ts) ≡ Ok (tree, rest) → BeginsWith L P ts tree rest
    told_begins tree rest told = by (p ts) refl
      where
        by : (r : Result (A × List S) (List S × Why)) → p ts ≡ r → BeginsWith L P ts tree rest
        by (Ok x) e = let same = rw e at told in begins_read ts rest tree (e ∙ cc)
        by (Err d) e = absurd (let same = rw e at told in cc)

    -- the fault that is told
    told_fault : (f : InputFault) → told_of offset end (p ts) ≡ Err f → ((tree : A) (rest : List S) → BeginsWith L P ts tree rest → ⊥) × IsFaultIn offset L P end ts f
    told_fault f told = by (p ts) refl
      where
        by : (r : Result (A × List S) (List S × Why)) → p ts ≡ r → ((tree : A) (rest : List S) → BeginsWith L P ts tree rest → ⊥) × IsFaultIn offset L P end ts f
        by (Ok x) e = absurd (let same = rw e at told in cc)
        by (Err d) e = let same : fault_of offset end d ≡ f = (let is = rw e at told in cc) in (begins_with_none d e, subst (IsFaultIn offset L P end ts) same (stops_there d e))

    told_none : (f : InputFault) → ((tree : A) (rest : List S) → BeginsWith L P ts tree rest → ⊥) → IsFaultIn offset L P end ts f → told_of offset end (p ts) ≡ Err f
    told_none f none h = by (p ts) refl
      where
        by : (r : Result (A × List S) (List S × Why)) → p ts ≡ r → told_of offset end (p ts) ≡ Err f
        by (Ok x) e = absurd (none x.0 x.1 (begins_read ts x.1 x.0 e))
        by (Err d) e = rw (e, fault_read f h d e) refl

  module _ (end : ℕ) (ts : List S) (at : ℕ) where
    pub place_answer : (result : Result (A × ℕ) InputFault) → Tells (λ x. (x.0, drop x.1 ts)) result (told_of offset end (p (drop at ts))) → Holds (PlaceGives offset L P end ts at) result
    place_answer (Ok x) told = told_begins end (drop at ts) x.0 (drop x.1 ts) told
    place_answer (Err fault.Memory) told = tt
    place_answer (Err (fault.Fault number place)) told = told_fault end (drop at ts) (fault.Fault number place) told

    -- what the tokens give is what reading them tells, so it is one
    pub place_once : (told : Result (A × ℕ) InputFault) → PlaceGives offset L P end ts at told → told_of offset end (p (drop at ts)) ≡ with_rest ts told
    place_once (Ok x) h = rw (read_begins (drop at ts) (drop x.1 ts) x.0 h) refl
    place_once (Err f) (none, h) = told_none end (drop at ts) f none h

    pub place_is : (tree : A) (rest : List S) (result : Result (A × ℕ) InputFault) → BeginsWith L P (drop at ts) tree rest → Tells (λ x. (x.0, drop x.1 ts)) result (told_of offset end (p (drop at ts))) → IsTree {A = A × List S} (λ x. (x.0, drop x.1 ts)) result (tree, rest)
    place_is tree rest result h told = by result told
      where
        read : told_of offset end (p (drop at ts)) ≡ Ok (tree, rest)
        read = rw (read_begins (drop at ts) rest tree h) refl

        by : (result : Result (A × ℕ) InputFault) → Tells (λ x. (x.0, drop x.1 ts)) result (told_of offset end (p (drop at ts))) → IsTree {A = A × List S} (λ x. (x.0, drop x.1 ts)) result (tree, rest)
        by (Ok x) told = let same = sym told ∙ read in cc
        by (Err fault.Memory) told = tt
        by (Err (fault.Fault number place)) told = absurd (let same = sym told ∙ read in cc)

    pub place_faults : (Q : ℕ → Type 0) → Only Q L → Q UNEXPECTED → (result : Result (A × ℕ) InputFault) → Holds (PlaceGives offset L P end ts at) result → IfFault result Q
    place_faults Q numbers unexpected (Ok x) h = tt
    place_faults Q numbers unexpected (Err fault.Memory) h = tt
    place_faults Q numbers unexpected (Err (fault.Fault number place)) h = fault_number offset Q L P end (drop at ts) number place numbers unexpected h.1

-- ---- phrases with which no token goes on

pub settled_never : {S A : Type 0} {p : Reader S A} {L : Grammar S A} {P : Language S} {start : Start S} → Reads p L P start never → (tree : A) (front rest : List S) → L (Ok tree) front → p (front ++ rest) ≡ Err (rest, Unexpected) → ⊥
settled_never reads tree front rest h stops = let both = sym (reads.complete tree front rest h (never_next rest)) ∙ stops in cc

-- a phrase that stands there is read
pub place_complete : {S A : Type 0} (offset : S → ℕ) {p : Reader S A} {L : Grammar S A} {P : Language S} {start : Start S} → Reads p L P start never → (end : ℕ) (ts : List S) (at : ℕ) (tree : A) (front rest : List S) (result : Result (A × ℕ) InputFault) → drop at ts ≡ front ++ rest → L (Ok tree) front → Tells (λ x. (x.0, drop x.1 ts)) result (told_of offset end (p (drop at ts))) → IsTree {A = A × List S} (λ x. (x.0, drop x.1 ts)) result (tree, rest)
place_complete offset {p} reads end ts at tree front rest result split h told =
    place_is offset reads (settled_never reads) end ts at tree rest result (begins_read offset reads (settled_never reads) (drop at ts) rest tree (ap p split ∙ reads.complete tree front rest h (never_next rest))) told

-- ---- by any account of what reading answers

-- `Answers` is what reading has to answer, and p gives it and nothing else.
module _ {S A X : Type 0} (offset : S → ℕ) (Answers : List S → Result (A × List S) (List S × Why) → Type 0) (p : Reader S A) (gives : (ts : List S) → Answers ts (p ts)) (exact : (ts : List S) (answer : Result (A × List S) (List S × Why)) → Answers ts answer → p ts ≡ answer) (end : ℕ) (view : X → A × List S) (ts : List S) where
  told_ok : (x : X) → told_of offset end (p ts) ≡ Ok (view x) → Answers ts (Ok (view x))
  told_ok x told = by (p ts) refl
    where
      by : (r : Result (A × List S) (List S × Why)) → p ts ≡ r → Answers ts (Ok (view x))
      by (Ok y) e = let same : y ≡ view x = (let is = rw e at told in cc) in subst (λ (z : A × List S). Answers ts (Ok z)) same (subst (Answers ts) e (gives ts))
      by (Err d) e = absurd (let same = rw e at told in cc)

  told_err : (f : InputFault) → told_of offset end (p ts) ≡ Err f → AccountGives offset Answers end view ts (Err f)
  told_err f told = by (p ts) refl
    where
      by : (r : Result (A × List S) (List S × Why)) → p ts ≡ r → AccountGives offset Answers end view ts (Err f)
      by (Ok y) e = absurd (let same = rw e at told in cc)
      by (Err d) e = let same : f ≡ fault_of offset end d = (let is = rw e at told in cc) in (d, subst (Answers ts) e (gives ts), same)

  pub account_answer : (result : Result X InputFault) → Tells view result (told_of offset end (p ts)) → Holds (AccountGives offset Answers end view ts) result
  account_answer (Ok x) told = told_ok x told
  account_answer (Err fault.Memory) told = tt
  account_answer (Err (fault.Fault number place)) told = told_err (fault.Fault number place) told

  pub account_once : (told : Result X InputFault) → AccountGives offset Answers end view ts told → told_of offset end (p ts) ≡ viewed view told
  account_once (Ok x) h = rw (exact ts (Ok (view x)) h) refl
  account_once (Err f) (e, h, is) = rw (exact ts (Err e) h, is) refl

  pub account_is : (tree : A) (rest : List S) (result : Result X InputFault) → p ts ≡ Ok (tree, rest) → Tells view result (told_of offset end (p ts)) → IsTree view result (tree, rest)
  account_is tree rest (Ok x) e told = let read : told_of offset end (p ts) ≡ Ok (tree, rest) = rw e refl in let same = sym told ∙ read in cc
  account_is tree rest (Err fault.Memory) e told = tt
  account_is tree rest (Err (fault.Fault number place)) e told = absurd (let same = rw e at told in cc)

-- ---- by how many tokens are left

-- what is left behind a phrase are the last tokens
abbrev pub Splits : {S A : Type 0} → Reader S A → Type 0
Splits {S} {A} p = (ts rest : List S) (tree : A) → p ts ≡ Ok (tree, rest) → (front : List S) × (ts ≡ front ++ rest)

pub reads_split : {S A : Type 0} {p : Reader S A} {L : Grammar S A} {P : Language S} {start : Start S} {go : S → Bool} → Reads p L P start go → Splits p
reads_split reads ts rest tree e = let k = reads.took ts tree rest e in (k.front, k.split)

-- tokens seen one by one
module _ {S A : Type 0} (offset : S → ℕ) (see : List Token → List S) (seen_long : (ts : List Token) → length (see ts) ≡ length ts) (seen_drop : (ts : List Token) (i : ℕ) → see (drop i ts) ≡ drop i (see ts)) (p : Reader S A) (splits : Splits p) (end : ℕ) where
  -- the tokens that are left behind a phrase, by how many they are
  pub told_left : (ts rest : List Token) (tree : A) → p (see ts) ≡ Ok (tree, see rest) → told_of offset end (p (see ts)) ≡ Ok (tree, drop (length ts - length rest) (see ts))
  told_left ts rest tree e =
      let (front, split) = splits (see ts) (see rest) tree e in
      let behind : drop (length ts - length rest) (see ts) ≡ see rest = rw (seen_long ts, seen_long rest) at (drop_to (see ts) front (see rest) split) in
      rw (behind, e) refl

  module _ (tokens back : List Token) (at : ℕ) (within : at ≤ length tokens) (is : back ≡ drop at tokens) where
    seen_back : see back ≡ drop at (see tokens)
    seen_back = ap see is ∙ seen_drop tokens at

    pub same_back : told_of offset end (p (see back)) ≡ told_of offset end (p (drop at (see tokens)))
    same_back = ap (λ (u : List S). told_of offset end (p u)) seen_back

    -- the same from a place on
    left_from : (count left : ℕ) → count ≡ length tokens - at → left ≤ count → drop (count - left) (drop at (see tokens)) ≡ drop (length tokens - left) (see tokens)
    left_from count left is less =
        let sum : at + (count - left) ≡ length tokens - left = omega arith in
        rw (drop-drop (count - left) at (see tokens), sum) refl

    pub told_moved : (tree : A) (left : ℕ) → left ≤ length back → told_of offset end (p (see back)) ≡ Ok (tree, drop (length back - left) (see back)) → told_of offset end (p (drop at (see tokens))) ≡ Ok (tree, drop (length tokens - left) (see tokens))
    told_moved tree left less told =
        let count : length back ≡ length tokens - at = omega (arith, ap length is, length-drop at tokens) in
        let behind : drop (length back - left) (see back) ≡ drop (length tokens - left) (see tokens) = ap (drop (length back - left)) seen_back ∙ left_from (length back) left count less in
        sym same_back ∙ told ∙ ap (λ (d : List S). ok {A = A × List S} {E = InputFault} (tree, d)) behind

-- the same fault
pub fault_moved : {Y : Type 0} (f : InputFault) (told also : Result Y InputFault) → told ≡ also → Tells (λ (y : Y). y) (Err f) told → Tells (λ (y : Y). y) (Err f) also
fault_moved fault.Memory told also same h = tt
fault_moved (fault.Fault number place) told also same h = sym same ∙ h
