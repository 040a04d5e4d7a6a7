-- Readers: functions that read a phrase from the left of a list of tokens.
--
-- A reader answers the tree of a phrase and the tokens behind it, or the tokens from the first one that can't stand
-- there, with the reason. It looks at one token at most beyond what it takes. Each word of EBNF in `Grammar` has its
-- reader here, so that the reader of a grammar is written beside it, line by line. The code is proved to be these
-- functions, and these functions are proved to answer what their grammars ask for.
use Rattle.std.specs.Prelude.{ℕ, zero, suc, Bool, false, ◌||◌, List, [], ◌∷◌, length, Option, Some, None, Result, Ok, Err, if◌then◌else◌}
use Rattle.lgc_grammar.specs.Grammar.{Why, Unexpected, Breaks}

abbrev pub Reader : Type 0 → Type 0 → Type 0
Reader T A = List T → Result (A × List T) (List T × Why)

-- An error is passed on, and what was read goes to the next step.
abbrev pub and_then : {A B E : Type 0} → Result A E → (A → Result B E) → Result B E
and_then (Ok x) next = next x
and_then (Err e) next = Err e

-- There is a next token, and it passes the test.
abbrev pub next_is : {T : Type 0} → (T → Bool) → List T → Bool
next_is test [] = false
next_is test (t ∷ _) = test t

-- The tokens behind the next one, where that passes the test.
abbrev pub skip : {T : Type 0} → (T → Bool) → List T → Option (List T)
skip test [] = None
skip test (t ∷ rest) = if test t then Some rest else None

-- The tokens without a next one that passes the test.
abbrev pub past : {T : Type 0} → (T → Bool) → List T → List T
past test [] = []
past test (t ∷ rest) = if test t then rest else t ∷ rest

-- ---- the words of EBNF

-- One token that passes the test.
abbrev pub one_at : {T : Type 0} → (T → Bool) → Reader T T
one_at test [] = Err ([], Unexpected)
one_at test (t ∷ rest) = if test t then Ok (t, rest) else Err (t ∷ rest, Unexpected)

-- No token.
abbrev pub nothing_at : {T A : Type 0} → A → Reader T A
nothing_at c ts = Ok (c, ts)

-- What p reads, with another tree.
abbrev pub map_at : {T A B : Type 0} → (A → B) → Reader T A → Reader T B
map_at f p ts = and_then (p ts) (λ x. Ok (f x.0, x.1))

-- What p reads, and then what q reads, which may depend on the first tree.
abbrev pub then_at : {T A B : Type 0} → Reader T A → (A → Reader T B) → Reader T B
then_at p q ts = and_then (p ts) (λ x. q x.0 x.1)

-- The lines of a `do` block.
infixl 10 ◌>>=◌
abbrev pub ◌>>=◌ : {T A B : Type 0} → Reader T A → (A → Reader T B) → Reader T B
p >>= q = then_at p q

infixl 10 ◌>>◌
abbrev pub ◌>>◌ : {T A B : Type 0} → Reader T A → Reader T B → Reader T B
p >> q = then_at p (λ _. q)

-- x | y: p where the next token passes the test, and else q.
abbrev pub either_at : {T A : Type 0} → (T → Bool) → Reader T A → Reader T A → Reader T A
either_at first p q ts = if next_is first ts then p ts else q ts

-- [ x ]: p where the next token passes the test, and else nothing, with the tree d.
abbrev pub optional_at : {T A : Type 0} → (T → Bool) → A → Reader T A → Reader T A
optional_at first d p = either_at first p (nothing_at d)

-- At most n phrases.
abbrev pub many_within : {T A : Type 0} → ℕ → (T → Bool) → Reader T A → Reader T (List A)
many_within zero first p ts = Ok ([], ts)
many_within (suc n) first p ts =
    if next_is first ts
    then and_then (p ts) (λ x. and_then (many_within n first p x.1) (λ y. Ok (x.0 ∷ y.0, y.1)))
    else Ok ([], ts)

-- { x }: one more phrase as long as the next token passes the test. Each has a token, so there are no more than tokens.
unfoldable pub many_at : {T A : Type 0} → (T → Bool) → Reader T A → Reader T (List A)
many_at first p ts = many_within (length ts) first p ts

-- x { y }, with q for { y }
abbrev pub listed_at : {T A : Type 0} → Reader T A → Reader T (List A) → Reader T (List A)
listed_at p q = then_at p (λ a. map_at (λ others. a ∷ others) q)

-- sep x
abbrev pub behind_at : {T A : Type 0} → (T → Bool) → Reader T A → Reader T A
behind_at sep p = then_at (one_at sep) (λ _. p)

-- { sep x }
abbrev pub more_at : {T A : Type 0} → (T → Bool) → Reader T A → Reader T (List A)
more_at sep p = many_at sep (behind_at sep p)

-- x { sep x }
abbrev pub separated_at : {T A : Type 0} → (T → Bool) → Reader T A → Reader T (List A)
separated_at sep p = listed_at p (more_at sep p)

-- { [ sep ] x }, where x begins with a token that passes `first`
abbrev pub more_loosely_at : {T A : Type 0} → (T → Bool) → (T → Bool) → Reader T A → Reader T (List A)
more_loosely_at sep first p = many_at (λ t. sep t || first t) (either_at sep (behind_at sep p) p)

-- x { [ sep ] x }
abbrev pub loosely_at : {T A : Type 0} → (T → Bool) → (T → Bool) → Reader T A → Reader T (List A)
loosely_at sep first p = listed_at p (more_loosely_at sep first p)

-- open x close
abbrev pub between_at : {T A : Type 0} → (T → Bool) → Reader T A → (T → Bool) → Reader T A
between_at opens p closes = then_at (one_at opens) (λ _. then_at p (λ a. map_at (λ _. a) (one_at closes)))

-- At most n phrases.
abbrev pub growing_within : {T A : Type 0} → ℕ → (T → Bool) → (A → Reader T A) → A → Reader T A
growing_within zero first p a ts = Ok (a, ts)
growing_within (suc n) first p a ts = if next_is first ts then and_then (p a ts) (λ x. growing_within n first p x.0 x.1) else Ok (a, ts)

-- { x }, where each x goes on from the tree so far: one more phrase as long as the next token passes the test. Each has a
-- token, so there are no more than tokens.
unfoldable pub growing_at : {T A : Type 0} → (T → Bool) → (A → Reader T A) → A → Reader T A
growing_at first p a ts = growing_within (length ts) first p a ts

-- ---- { x } [ y ], where y begins as each x does

-- What was read: an x, with the tree so far, or the y, with the last tree.
pub data Turn (A C : Type 0) : Type 0 where
  onward : A → Turn A C
  last : C → Turn A C

-- What is read behind the turn.
abbrev pub behind_turn : {T A C : Type 0} → (A → Reader T C) → Turn A C → Reader T C
behind_turn p (onward a) ts = p a ts
behind_turn p (last c) ts = Ok (c, ts)

-- At most n phrases. Where the y isn't there the last tree is `finish` of the tree so far.
abbrev pub ending_within : {T A C : Type 0} → ℕ → (T → Bool) → (A → Reader T (Turn A C)) → (A → C) → A → Reader T C
ending_within zero first p finish a ts = Ok (finish a, ts)
ending_within (suc n) first p finish a ts =
    if next_is first ts then and_then (p a ts) (λ x. behind_turn (ending_within n first p finish) x.0 x.1)
    else Ok (finish a, ts)

-- One more phrase as long as the next token passes the test, up to the y. Each has a token, so there are no more than tokens.
unfoldable pub ending_at : {T A C : Type 0} → (T → Bool) → (A → Reader T (Turn A C)) → (A → C) → A → Reader T C
ending_at first p finish a ts = ending_within (length ts) first p finish a ts

-- ---- tokens that break rules

-- This token, or the rule that it breaks.
abbrev pub judged : {T : Type 0} → Option ℕ → T → Reader T T
judged None t rest = Ok (t, rest)
judged (Some n) t rest = Err (t ∷ rest, Breaks n)

-- One token that passes the test, where it breaks no rule.
abbrev pub allowed_at : {T : Type 0} → (T → Bool) → (T → Option ℕ) → Reader T T
allowed_at test fault [] = Err ([], Unexpected)
allowed_at test fault (t ∷ rest) = if test t then judged (fault t) t rest else Err (t ∷ rest, Unexpected)

-- A next token that passes the test breaks the rule with its number.
abbrev pub refused_at : {T A : Type 0} → (T → Bool) → (T → ℕ) → Reader T A
refused_at test number [] = Err ([], Unexpected)
refused_at test number (t ∷ rest) = if test t then Err (t ∷ rest, Breaks (number t)) else Err (t ∷ rest, Unexpected)

-- Where what was read is bad, this shows at the next token: it breaks the rule n where q could begin with it.
abbrev pub barred_at : {T A : Type 0} → Bool → (T → Bool) → ℕ → Reader T A → Reader T A
barred_at bad first n q ts = if bad then refused_at first (λ _. n) ts else q ts

-- ---- all of the tokens

-- No token may be left.
abbrev pub ended : {T A : Type 0} → A × List T → Result A (List T × Why)
ended (a, []) = Ok a
ended (a, t ∷ rest) = Err (t ∷ rest, Unexpected)

-- The tree of all of the tokens.
abbrev pub whole : {T A : Type 0} → Reader T A → List T → Result A (List T × Why)
whole p ts = and_then (p ts) ended
