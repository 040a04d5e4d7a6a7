-- What it is that a reader reads a grammar, and what follows for whole lists of tokens.
--
-- Reading goes from the left and never back. That this is enough rests on one property, `near`: a reader that took a
-- phrase, or stopped, would have done the same on any other tokens that agree with these up to and with the next one.
-- So where it stops before a token, no list of tokens that agrees so far and goes on with this token can be a phrase:
-- the reader would have to read it whole, and it stops there too. No grammar needs a reasoning about continuations of
-- its own.
use Rattle.std.proofs.Common.{◌≡◌, ℕ, Bool, true, false, List, [], ◌∷◌, ◌++◌, Result, Ok, Err, refl, sym, ap, subst, ◌∙◌, append_assoc, append-nil, inl, inr, ◌⊎◌, length, arith, length-append}
use Rattle.std.specs.Prelude.{◌||◌}
use Rattle.lgc_grammar.specs.Grammar.{Grammar, Language, Phrase, Why, Unexpected, Breaks, IsFront, HasNoWay, Reason, KeepsRules, Answers, AnswersAll, NextBreaks}
use Rattle.lgc_grammar.specs.Reading.{Reader, and_then, next_is, ended, whole}

-- ---- the definition

-- Both lists are at their end, or begin with the same token: to a reader that looks at one token they are alike.
abbrev pub SameNext : {T : Type 0} → List T → List T → Type 0
SameNext [] [] = Unit {0}
SameNext [] (t ∷ us) = ⊥
SameNext (t ∷ ts) [] = ⊥
SameNext (t ∷ ts) (u ∷ us) = t ≡ u

-- p takes a phrase, and looks at no more than the token behind it.
pub record Took {T A : Type 0} (p : Reader T A) (L : Grammar T A) (ts : List T) (a : A) (rest : List T) : Type 0 where
  pub front : List T
  pub split : ts ≡ front ++ rest
  pub phrase : L (Ok a) front
  pub near : (other : List T) → SameNext rest other → p (front ++ other) ≡ Ok (a, other)

-- The tokens before begin a phrase, or the grammar says which rule the next one breaks.
abbrev pub IsViable : {T A : Type 0} → Grammar T A → Language T → Why → List T → List T → Type 0
IsViable L P Unexpected front rest = IsFront P front
IsViable L P (Breaks n) front rest = NextBreaks L n front rest

-- p stops before a token, and looks no further.
pub record Stuck {T A : Type 0} (p : Reader T A) (L : Grammar T A) (P : Language T) (ts rest : List T) (why : Why) : Type 0 where
  pub front : List T
  pub split : ts ≡ front ++ rest
  pub viable : IsViable L P why front rest
  pub near : (other : List T) → SameNext rest other → p (front ++ other) ≡ Err (other, why)

-- p stops before the last of these tokens, which breaks the rule n, whatever is behind it. The plain language goes on with them.
pub record StopsIn {T A : Type 0} (p : Reader T A) (P : Language T) (n : ℕ) (ts : List T) : Type 0 where
  pub front : List T
  pub last : T
  pub split : ts ≡ front ++ last ∷ []
  pub stops : (rest : List T) → p (front ++ last ∷ rest) ≡ Err (last ∷ rest, Breaks n)
  pub goes_on : IsFront P ts

-- All but these tokens was read, or a rule was broken; no token was unexpected.
abbrev pub IsReadOrBreaks : {T A : Type 0} → List T → Result (A × List T) (List T × Why) → Type 0
IsReadOrBreaks rest (Ok x) = x.1 ≡ rest
IsReadOrBreaks rest (Err (r, Unexpected)) = ⊥
IsReadOrBreaks rest (Err (r, Breaks n)) = Unit {0}

-- The tokens with which phrases begin: each has a first token, which passes the test, or it may have none at all.
pub data Start (T : Type 0) : Type 0 where
  Must : (T → Bool) → Start T
  May : (T → Bool) → Start T

-- Unless the next token is one with which a phrase begins, p takes nothing.
abbrev pub StartsBy : {T A : Type 0} → Reader T A → Start T → Type 0
StartsBy {T} p (Must first) = (ts : List T) → next_is first ts ≡ false → p ts ≡ Err (ts, Unexpected)
StartsBy {T} {A} p (May first) = (ts : List T) → next_is first ts ≡ false → (a : A) × (p ts ≡ Ok (a, ts))

-- p reads the phrases of L, whose plain language is P. They begin as `start` says. A phrase could go on with a token that
-- passes `go`, so it is read to its end only where no such token is next.
pub record Reads {T A : Type 0} (p : Reader T A) (L : Grammar T A) (P : Language T) (start : Start T) (go : T → Bool) : Type 0 where
  -- what is taken is a phrase, and what stops it can't be helped
  pub took : (ts : List T) (a : A) (rest : List T) → p ts ≡ Ok (a, rest) → Took p L ts a rest
  pub stuck : (ts rest : List T) (why : Why) → p ts ≡ Err (rest, why) → Stuck p L P ts rest why
  -- each phrase is read
  pub complete : (a : A) (front rest : List T) → L (Ok a) front → next_is go rest ≡ false → p (front ++ rest) ≡ Ok (a, rest)
  -- where the grammar says that a token breaks a rule, p stops before it and tells the rule
  pub broken : (n : ℕ) (ts : List T) → L (Err n) ts → StopsIn p P n ts
  -- each plain phrase is read up to a token that breaks a rule
  pub plain : (front rest : List T) → P front → next_is go rest ≡ false → IsReadOrBreaks rest (p (front ++ rest))
  pub is_plain : (a : A) (ts : List T) → L (Ok a) ts → P ts
  pub starts : StartsBy p start
  -- there is some tree, and some plain phrase
  pub some : A
  pub example : (front : List T) × P front

-- p reads the phrases of L, where no token breaks a rule.
abbrev pub ReadsAll : {T A : Type 0} → Reader T A → Grammar T A → Start T → (T → Bool) → Type 0
ReadsAll p L start go = Reads p L (Phrase L) start go

-- no token
abbrev pub never : {T : Type 0} → T → Bool
never t = false

-- What begins as `start` says and is followed by no token of `go` begins with no token of `before`.
abbrev pub Follows : {T : Type 0} → Start T → (T → Bool) → (T → Bool) → Type 0
Follows {T} (Must first) go before = (t : T) → first t ≡ true → before t ≡ false
Follows {T} (May first) go before = ((t : T) → first t ≡ true → before t ≡ false) × ((t : T) → go t ≡ false → before t ≡ false)

-- what one of two begins with, where the first begins with a token that passes `first`
abbrev pub start_either : {T : Type 0} → (T → Bool) → Start T → Start T
start_either first (Must other) = Must (λ t. first t || other t)
start_either first (May other) = May (λ t. first t || other t)

-- ---- tools

abbrev pub ok : {A E : Type 0} → A → Result A E
ok x = Ok x

abbrev pub err : {A E : Type 0} → E → Result A E
err x = Err x

pub and_then_ok : {A B E : Type 0} (r : Result A E) (f : A → Result B E) (y : B) → and_then r f ≡ Ok y → (x : A) × (r ≡ Ok x) × (f x ≡ Ok y)
and_then_ok (Ok x) f y e = (x, refl, e)
and_then_ok (Err d) f y e = absurd cc

pub and_then_err : {A B E : Type 0} (r : Result A E) (f : A → Result B E) (d : E) → and_then r f ≡ Err d → (r ≡ Err d) ⊎ ((x : A) × (r ≡ Ok x) × (f x ≡ Err d))
and_then_err (Ok x) f d e = inr (x, refl, e)
and_then_err (Err c) f d e = inl cc

pub ok_rest : {A B E : Type 0} {a b : A} {x y : B} → ok {A = A × B} {E = E} (a, x) ≡ Ok (b, y) → x ≡ y
ok_rest {A} {B} {E} {a} {b} {x} {y} e =
    let pair : ◌≡◌ {A = A × B} (a, x) (b, y) = cc in
    ap (λ (q : A × B). q.1) pair

pub ok_tree : {A B E : Type 0} {a b : A} {x y : B} → ok {A = A × B} {E = E} (a, x) ≡ Ok (b, y) → a ≡ b
ok_tree {A} {B} {E} {a} {b} {x} {y} e =
    let pair : ◌≡◌ {A = A × B} (a, x) (b, y) = cc in
    ap (λ (q : A × B). q.0) pair

pub err_rest : {A B : Type 0} {x y : B} {v w : Why} → err {A = A} {E = B × Why} (x, v) ≡ Err (y, w) → x ≡ y
err_rest {A} {B} {x} {y} {v} {w} e =
    let pair : ◌≡◌ {A = B × Why} (x, v) (y, w) = cc in
    ap (λ (q : B × Why). q.0) pair

pub err_why : {A B : Type 0} {x y : B} {v w : Why} → err {A = A} {E = B × Why} (x, v) ≡ Err (y, w) → v ≡ w
err_why {A} {B} {x} {y} {v} {w} e =
    let pair : ◌≡◌ {A = B × Why} (x, v) (y, w) = cc in
    ap (λ (q : B × Why). q.1) pair

-- one test of the next token, on lists that a reader can't tell apart
pub next_alike : {T : Type 0} (test : T → Bool) (front rest other : List T) → SameNext rest other → next_is test (front ++ rest) ≡ next_is test (front ++ other)
next_alike test [] [] [] look = refl
next_alike test [] [] (u ∷ other) look = absurd look
next_alike test [] (t ∷ rest) [] look = absurd look
next_alike test [] (t ∷ rest) (u ∷ other) look = ap test look
next_alike test (t ∷ front) rest other look = refl

-- one test of the first token, on lists that agree up to a token
first_alike : {T : Type 0} (test : T → Bool) (g : List T) (t : T) (more rest : List T) → next_is test (((g ++ t ∷ []) ++ more) ++ []) ≡ next_is test (g ++ t ∷ rest)
first_alike test [] t more rest = refl
first_alike test (u ∷ g) t more rest = refl

pub same_behind : {T : Type 0} (w rest other : List T) → SameNext rest other → SameNext (w ++ rest) (w ++ other)
same_behind [] rest other look = look
same_behind (t ∷ w) rest other look = refl

-- a token that is next stays so
pub next_stays : {T : Type 0} (test : T → Bool) (ts rest : List T) → next_is test ts ≡ true → next_is test (ts ++ rest) ≡ true
next_stays test [] rest h = absurd cc
next_stays test (t ∷ ts) rest h = h

-- no token passes one test that doesn't pass the other
pub next_less : {T : Type 0} (go more : T → Bool) → ((t : T) → more t ≡ false → go t ≡ false) → (ts : List T) → next_is more ts ≡ false → next_is go ts ≡ false
next_less go more less [] h = refl
next_less go more less (t ∷ ts) h = less t h

-- a token that passes one test doesn't pass the other
pub next_apart : {T : Type 0} (first go : T → Bool) → ((t : T) → first t ≡ true → go t ≡ false) → (ts : List T) → next_is first ts ≡ true → next_is go ts ≡ false
next_apart first go apart [] h = refl
next_apart first go apart (t ∷ ts) h = apart t h

pub or_left : (a b : Bool) → (a || b) ≡ false → a ≡ false
or_left true b e = e
or_left false b e = refl

pub or_right : (a b : Bool) → (a || b) ≡ false → b ≡ false
or_right true b e = absurd cc
or_right false b e = e

pub next_or : {T : Type 0} (f g : T → Bool) (ts : List T) → next_is (λ t. f t || g t) ts ≡ false → (next_is f ts ≡ false) × (next_is g ts ≡ false)
next_or f g [] h = (refl, refl)
next_or f g (t ∷ ts) h = (or_left (f t) (g t) h, or_right (f t) (g t) h)

pub either_way : (b : Bool) → (b ≡ true) ⊎ (b ≡ false)
either_way true = inl refl
either_way false = inr refl

-- what begins a phrase of P begins one of Q, where each phrase of P stands in one of Q behind `pre`
pub front_in : {T : Type 0} (P Q : Language T) (pre front : List T) → ((v : List T) → P v → (w : List T) × Q (pre ++ (v ++ w))) → IsFront P front → IsFront Q (pre ++ front)
front_in P Q pre front stands (more, h) =
    let (w, g) = stands (front ++ more) h in
    let same : pre ++ ((front ++ more) ++ w) ≡ (pre ++ front) ++ (more ++ w) = simp append_assoc in
    (more ++ w, subst Q same g)

-- the same where each phrase of P is one of Q
pub front_as : {T : Type 0} (P Q : Language T) (front : List T) → ((v : List T) → P v → Q v) → IsFront P front → IsFront Q front
front_as P Q front is (more, h) = (more, is (front ++ more) h)

-- and what the first grammar says of broken rules, the second says behind `pre`
pub viable_in : {T A B : Type 0} (L : Grammar T A) (M : Grammar T B) (P Q : Language T) (pre front rest : List T) (why : Why) → ((n : ℕ) (w : List T) → L (Err n) w → M (Err n) (pre ++ w)) → ((v : List T) → P v → (w : List T) × Q (pre ++ (v ++ w))) → IsViable L P why front rest → IsViable M Q why (pre ++ front) rest
viable_in L M P Q pre front rest Unexpected breaks stands h = front_in P Q pre front stands h
viable_in L M P Q pre front [] (Breaks n) breaks stands h = absurd h
viable_in L M P Q pre front (t ∷ rest) (Breaks n) breaks stands h = rw (append_assoc pre front (t ∷ [])) (breaks n (front ++ t ∷ []) h)

pub viable_as : {T A B : Type 0} (L : Grammar T A) (M : Grammar T B) (P Q : Language T) (front rest : List T) (why : Why) → ((n : ℕ) (w : List T) → L (Err n) w → M (Err n) w) → ((v : List T) → P v → Q v) → IsViable L P why front rest → IsViable M Q why front rest
viable_as L M P Q front rest why breaks is = viable_in L M P Q [] front rest why breaks (λ v h. ([], rw (append-nil v) (is v h)))

-- lists that end in one token each
last_same : {T : Type 0} (f g : List T) (t u : T) → f ++ t ∷ [] ≡ g ++ u ∷ [] → (f ≡ g) × (t ≡ u)
last_same [] [] t u e = (refl, cc)
last_same [] (x ∷ []) t u e = absurd cc
last_same [] (x ∷ (y ∷ g)) t u e = absurd cc
last_same (x ∷ []) [] t u e = absurd cc
last_same (x ∷ (y ∷ f)) [] t u e = absurd cc
last_same (x ∷ f) (y ∷ g) t u e = let below = last_same f g t u cc in let head : x ≡ y = cc in (rw (head, below.0) refl, below.1)

-- ---- tokens that break rules

module _ {T A : Type 0} {p : Reader T A} {P : Language T} {n : ℕ} {ts : List T} (s : StopsIn p P n ts) where
  -- what a phrase that goes on with these tokens begins with, any tokens that begin with them do
  pub first_of : (test : T → Bool) (b : Bool) (more : List T) → next_is test ((ts ++ more) ++ []) ≡ b → (rest : List T) → next_is test (s.front ++ s.last ∷ rest) ≡ b
  first_of test b more h rest = sym (first_alike test s.front s.last more rest) ∙ subst (λ (u : List T). next_is test ((u ++ more) ++ []) ≡ b) s.split h

  -- another reader that stops there
  pub stops_here : {B : Type 0} {q : Reader T B} {Q : Language T} → ((rest : List T) → q (s.front ++ s.last ∷ rest) ≡ Err (s.last ∷ rest, Breaks n)) → IsFront Q ts → StopsIn q Q n ts
  stops_here stops goes_on = record { front = s.front; last = s.last; split = s.split; stops = stops; goes_on = goes_on }

  -- another reader that stops there, behind a phrase
  pub stops_behind : {B : Type 0} {q : Reader T B} {Q : Language T} (v : List T) → ((rest : List T) → q (v ++ (s.front ++ s.last ∷ rest)) ≡ Err (s.last ∷ rest, Breaks n)) → IsFront Q (v ++ ts) → StopsIn q Q n (v ++ ts)
  stops_behind v stops goes_on = record {
    front = v ++ s.front;
    last = s.last;
    split = ap (λ (u : List T). v ++ u) s.split ∙ sym (append_assoc v s.front (s.last ∷ []));
    stops = λ rest. rw (append_assoc v s.front (s.last ∷ rest)) (stops rest);
    goes_on = goes_on;
  }

-- ---- one account of what was taken or stopped, at other names

pub took_at : {T A : Type 0} {p : Reader T A} {L : Grammar T A} (ts : List T) {a b : A} {r rest : List T} → Took p L ts a r → ok {A = A × List T} {E = List T × Why} (a, r) ≡ Ok (b, rest) → Took p L ts b rest
took_at {T} {A} {p} {L} ts {a} {b} {r} {rest} k e = subst (λ (x : A). Took p L ts x rest) (ok_tree e) (subst (λ (x : List T). Took p L ts a x) (ok_rest e) k)

pub stuck_at : {T A : Type 0} {p : Reader T A} {L : Grammar T A} {P : Language T} (ts : List T) {r rest : List T} {w why : Why} → Stuck p L P ts r w → err {A = A × List T} {E = List T × Why} (r, w) ≡ Err (rest, why) → Stuck p L P ts rest why
stuck_at {T} {A} {p} {L} {P} ts {r} {rest} {w} {why} k e = subst (λ (x : Why). Stuck p L P ts rest x) (err_why e) (subst (λ (x : List T). Stuck p L P ts x w) (err_rest e) k)

-- ---- all of the tokens

module _ {T A : Type 0} {p : Reader T A} {L : Grammar T A} {P : Language T} {start : Start T} {go : T → Bool} (reads : Reads p L P start go) where
  -- a phrase is read whole, so it has no other tree
  pub whole_complete : (a : A) (ts : List T) → L (Ok a) ts → whole p ts ≡ Ok a
  whole_complete a ts h =
      let one : p ts ≡ Ok (a, []) = rw (append-nil ts) at (reads.complete a ts [] h refl) in
      rw one refl

  pub one_tree : (a b : A) (ts : List T) → L (Ok a) ts → L (Ok b) ts → a ≡ b
  one_tree a b ts h g = let e = sym (reads.complete a ts [] h refl) ∙ reads.complete b ts [] g refl in ok_tree e

  -- no plain phrase has an unexpected token
  stops_none : (ts rest : List T) → P ts → p ts ≡ Err (rest, Unexpected) → ⊥
  stops_none ts rest h e = let one = rw (append-nil ts) at (reads.plain ts [] h refl) in rw e at one

  stops_all : (ts : List T) (a : A) (t : T) (rest : List T) → P ts → p ts ≡ Ok (a, t ∷ rest) → ⊥
  stops_all ts a t rest h e =
      let one = rw (append-nil ts) at (reads.plain ts [] h refl) in
      let none : (t ∷ rest) ≡ [] = rw e at one in
      cc

  no_way_stuck : (ts rest : List T) → (s : Stuck p L P ts rest Unexpected) → HasNoWay P s.front rest
  no_way_stuck ts [] s = λ h. stops_none (s.front ++ []) [] (rw (append-nil s.front) h) (s.near [] tt)
  no_way_stuck ts (t ∷ rest) s = λ (more, h).
      let same : (s.front ++ t ∷ []) ++ more ≡ s.front ++ t ∷ more = append_assoc s.front (t ∷ []) more in
      stops_none (s.front ++ t ∷ more) (t ∷ more) (subst P same h) (s.near (t ∷ more) refl)

  pub no_way_took : (ts : List T) (b : A) (t : T) (rest : List T) → (k : Took p L ts b (t ∷ rest)) → HasNoWay P k.front (t ∷ rest)
  no_way_took ts b t rest k = λ (more, h).
      let same : (k.front ++ t ∷ []) ++ more ≡ k.front ++ t ∷ more = append_assoc k.front (t ∷ []) more in
      stops_all (k.front ++ t ∷ more) b t more (subst P same h) (k.near (t ∷ more) refl)

  -- where no rule is told, none is broken in what was read
  keeps : (ts front rest : List T) → ts ≡ front ++ rest → ((n : ℕ) (us : List T) → p ts ≡ Err (us, Breaks n) → ⊥) → KeepsRules L front
  keeps ts front rest split untold n v w parts h =
      let s = reads.broken n v h in
      let same : ts ≡ s.front ++ s.last ∷ (w ++ rest) = split ∙ ap (λ (u : List T). u ++ rest) parts ∙ ap (λ (u : List T). (u ++ w) ++ rest) s.split ∙ simp append_assoc in
      untold n (s.last ∷ (w ++ rest)) (ap p same ∙ s.stops (w ++ rest))

  -- reading all of the tokens answers what the grammar asks for
  pub whole_answers : (ts : List T) → Answers L P ts (whole p ts)
  whole_answers ts = by (p ts) refl
    where
      reason : (rest : List T) (why : Why) (s : Stuck p L P ts rest why) → p ts ≡ Err (rest, why) → Reason L P why s.front rest
      reason rest Unexpected s e = (s.viable, no_way_stuck ts rest s, keeps ts s.front rest s.split (λ n us f. let why = err_why (sym e ∙ f) in cc))
      reason [] (Breaks n) s e = absurd s.viable
      reason (t ∷ rest) (Breaks n) s e = let b = reads.broken n (s.front ++ t ∷ []) s.viable in (b.goes_on, s.viable)

      by : (r : Result (A × List T) (List T × Why)) → p ts ≡ r → Answers L P ts (and_then r ended)
      by (Err (rest, why)) e = let s = reads.stuck ts rest why e in record { front = s.front; split = s.split; reason = reason rest why s e }
      by (Ok (a, [])) e = let k = reads.took ts a [] e in rw (k.split, append-nil k.front) k.phrase
      by (Ok (a, t ∷ rest)) e =
          let k = reads.took ts a (t ∷ rest) e in
          record { front = k.front; split = k.split; reason = (([], rw (append-nil k.front) (reads.is_plain a k.front k.phrase)), no_way_took ts a t rest k, keeps ts k.front (t ∷ rest) k.split (λ n us f. let both = sym e ∙ f in cc)) }

  stops_at_same : (n : ℕ) (rest f g : List T) (t u : T) → f ≡ g → t ≡ u → p (g ++ u ∷ rest) ≡ Err (u ∷ rest, Breaks n) → p (f ++ t ∷ rest) ≡ Err (t ∷ rest, Breaks n)
  stops_at_same n rest f g t u e d h = rw (e, d) h

  -- a rule that the grammar says is broken is told, at this token
  pub whole_broken : (n : ℕ) (front : List T) (t : T) (rest : List T) → L (Err n) (front ++ t ∷ []) → whole p (front ++ t ∷ rest) ≡ Err (t ∷ rest, Breaks n)
  whole_broken n front t rest h =
      let s = reads.broken n (front ++ t ∷ []) h in
      let same : (front ≡ s.front) × (t ≡ s.last) = last_same front s.front t s.last s.split in
      let e : p (front ++ t ∷ rest) ≡ Err (t ∷ rest, Breaks n) = stops_at_same n rest front s.front t s.last same.0 same.1 (s.stops rest) in
      rw e refl

-- a phrase that must begin with a token that passes does
pub begins : {T A : Type 0} {p : Reader T A} {L : Grammar T A} {P : Language T} {first go : T → Bool} → Reads p L P (Must first) go → (ts : List T) → P ts → next_is first ts ≡ true
begins {T} {A} {p} {L} {P} {first} reads ts h = by (next_is first ts) refl
  where
    by : (b : Bool) → next_is first ts ≡ b → b ≡ true
    by true e = refl
    by false e = absurd (stops_none reads ts ts h (reads.starts ts e))

-- no token of `before` is next where a phrase begins
pub follows : {T A : Type 0} {p : Reader T A} {L : Grammar T A} {P : Language T} {go : T → Bool} (start : Start T) → Reads p L P start go → (before : T → Bool) → Follows start go before → (w rest : List T) → P w → next_is go rest ≡ false → next_is before (w ++ rest) ≡ false
follows (Must first) reads before apart w rest h ends = next_apart first before apart (w ++ rest) (next_stays first w rest (begins reads w h))
follows {go = go} (May first) reads before (apart, less) [] rest h ends = next_less before go less rest ends
follows {T} {A} {p} (May first) reads before (apart, less) (t ∷ w) rest h ends = by (either_way (first t))
  where
    none : (u : List T) → (t ∷ w) ++ u ≡ u → ⊥
    none u e = omega (arith, ap length e, length-append w u)

    by : (first t ≡ true) ⊎ (first t ≡ false) → before t ≡ false
    by (inl g) = apart t g
    by (inr g) =
        let (a, taken) = reads.starts ((t ∷ w) ++ rest) g in
        let read : IsReadOrBreaks rest (p ((t ∷ w) ++ rest)) = reads.plain (t ∷ w) rest h ends in
        absurd (none rest (rw taken at read))

-- ---- the same reader, said in another way

module _ {T A : Type 0} {p : Reader T A} {L : Grammar T A} {P : Language T} {start : Start T} {go : T → Bool} (reads : Reads p L P start go) where
  -- another wording of the grammar and of its plain language
  pub same_reads : {M : Grammar T A} {Q : Language T} → ((r : Result A ℕ) (ts : List T) → L r ts → M r ts) → ((r : Result A ℕ) (ts : List T) → M r ts → L r ts) → ((ts : List T) → P ts → Q ts) → ((ts : List T) → Q ts → P ts) → Reads p M Q start go
  same_reads {M} {Q} to from to_plain from_plain = record {
    took = λ ts a rest e. let k = reads.took ts a rest e in record { front = k.front; split = k.split; phrase = to (Ok a) k.front k.phrase; near = k.near };
    stuck = λ ts rest why e.
        let k = reads.stuck ts rest why e in
        record { front = k.front; split = k.split; viable = viable_as L M P Q k.front rest why (λ n w h. to (Err n) w h) to_plain k.viable; near = k.near };
    complete = λ a front rest h ends. reads.complete a front rest (from (Ok a) front h) ends;
    broken = λ n ts h. let s = reads.broken n ts (from (Err n) ts h) in record { front = s.front; last = s.last; split = s.split; stops = s.stops; goes_on = front_as P Q ts to_plain s.goes_on };
    plain = λ front rest h ends. reads.plain front rest (from_plain front h) ends;
    is_plain = λ a ts h. to_plain ts (reads.is_plain a ts (from (Ok a) ts h));
    starts = reads.starts;
    some = reads.some;
    example = let (v, h) = reads.example in (v, to_plain v h);
  }

  -- a grammar whose plain phrases all have a tree
  pub reads_all : ((ts : List T) → P ts → Phrase L ts) → ReadsAll p L start go
  reads_all trees = same_reads (λ r ts h. h) (λ r ts h. h) trees (λ ts h. reads.is_plain h.0 ts h.1)

  -- another account of the tokens with which its phrases begin
  pub starts_with : (other : Start T) → StartsBy p other → Reads p L P other go
  starts_with other starts = record {
    took = reads.took;
    stuck = reads.stuck;
    complete = reads.complete;
    broken = reads.broken;
    plain = reads.plain;
    is_plain = reads.is_plain;
    starts = starts;
    some = reads.some;
    example = reads.example;
  }

  -- more tokens with which a phrase is taken to go on
  pub goes_with : (more : T → Bool) → ((t : T) → more t ≡ false → go t ≡ false) → Reads p L P start more
  goes_with more less = record {
    took = reads.took;
    stuck = reads.stuck;
    complete = λ a front rest h ends. reads.complete a front rest h (next_less go more less rest ends);
    broken = reads.broken;
    plain = λ front rest h ends. reads.plain front rest h (next_less go more less rest ends);
    is_plain = reads.is_plain;
    starts = reads.starts;
    some = reads.some;
    example = reads.example;
  }

-- more tokens with which a phrase is taken to begin
pub must_start : {T A : Type 0} {p : Reader T A} {L : Grammar T A} {P : Language T} {first go : T → Bool} → Reads p L P (Must first) go → (more : T → Bool) → ((t : T) → more t ≡ false → first t ≡ false) → Reads p L P (Must more) go
must_start {first = first} reads more less = starts_with reads (Must more) (λ ts h. reads.starts ts (next_less first more less ts h))

-- ---- where no token breaks a rule

module _ {T A : Type 0} {p : Reader T A} {L : Grammar T A} {start : Start T} {go : T → Bool} (reads : ReadsAll p L start go) where
  -- another wording of the grammar
  pub same_all : {M : Grammar T A} → ((r : Result A ℕ) (ts : List T) → L r ts → M r ts) → ((r : Result A ℕ) (ts : List T) → M r ts → L r ts) → ReadsAll p M start go
  same_all to from = same_reads reads to from (λ ts h. (h.0, to (Ok h.0) ts h.1)) (λ ts h. (h.0, from (Ok h.0) ts h.1))

  -- since a phrase would go on with it, and that is read
  pub no_rules : (n : ℕ) (ts : List T) → L (Err n) ts → ⊥
  no_rules n ts h =
      let s = reads.broken n ts h in
      let (more, (a, g)) = s.goes_on in
      let same : (ts ++ more) ++ [] ≡ s.front ++ s.last ∷ more = append-nil (ts ++ more) ∙ ap (λ (u : List T). u ++ more) s.split ∙ append_assoc s.front (s.last ∷ []) more in
      let read : p ((ts ++ more) ++ []) ≡ Ok (a, []) = reads.complete a (ts ++ more) [] g refl in
      let both = sym read ∙ ap p same ∙ s.stops more in
      cc

  pub whole_answers_all : (ts : List T) → AnswersAll L ts (whole p ts)
  whole_answers_all ts = by (whole p ts) (whole_answers reads ts)
    where
      broken : (front rest : List T) (n : ℕ) → NextBreaks L n front rest → ⊥
      broken front [] n h = h
      broken front (t ∷ rest) n h = no_rules n (front ++ t ∷ []) h

      by : (r : Result A (List T × Why)) → Answers L (Phrase L) ts r → AnswersAll L ts r
      by (Ok a) h = h
      by (Err (rest, Unexpected)) h = (refl, h)
      by (Err (rest, Breaks n)) h = absurd (broken h.front rest n h.reason.1)
