-- Grammars as relations on lists of tokens, and what reading them has to answer.
--
-- A grammar is a relation. `L (Ok a) ts` says that the tokens ts are a phrase of L, and that a is its tree; `L (Err n) ts` says
-- that the last of the tokens ts breaks the rule with the number n. A grammar that an EBNF defines line by line is written line
-- by line with the words of this file. A sequence is a `do` block, with one line for each part; a later line may speak of the tree
-- of an earlier one.
--
-- Rules are what the EBNF doesn't say: a name is one of the logic, an operator takes as many arguments as it has. Beside a
-- grammar with rules stands its plain language `P ts`, the phrases of the EBNF alone, without trees and whether or not they keep
-- the rules. Where no token breaks a rule the plain language is `Phrase L`, and nobody has to speak of it.
use Rattle.std.specs.Prelude.{◌≡◌, ℕ, Bool, true, false, List, [], ◌∷◌, ◌++◌, ◌⊎◌, Option, Some, None, Result, Ok, Err}

abbrev pub Grammar : Type 0 → Type 0 → Type 1
Grammar T A = Result A ℕ → List T → Type 0

abbrev pub Language : Type 0 → Type 1
Language T = List T → Type 0

-- The tokens are a phrase, whatever its tree is.
abbrev pub Phrase : {T A : Type 0} → Grammar T A → Language T
Phrase {T} {A} L ts = (a : A) × L (Ok a) ts

-- ---- what stands where it can

-- Some phrase begins with these tokens: they have a continuation.
abbrev pub IsFront : {T : Type 0} → Language T → Language T
IsFront {T} P front = (more : List T) × P (front ++ more)

-- Some phrase begins with `front` and the next token: this token may stand here.
abbrev pub GoesOn : {T : Type 0} → Language T → List T → Language T
GoesOn P front [] = ⊥
GoesOn P front (t ∷ _) = IsFront P (front ++ t ∷ [])

-- No phrase begins with `front` and the next token. Where no token is next, `front` is no phrase.
abbrev pub HasNoWay : {T : Type 0} → Language T → List T → Language T
HasNoWay P front [] = P front → ⊥
HasNoWay P front (t ∷ _) = IsFront P (front ++ t ∷ []) → ⊥

-- The grammar says that the next token breaks the rule n behind `front`.
abbrev pub NextBreaks : {T A : Type 0} → Grammar T A → ℕ → List T → Language T
NextBreaks L n front [] = ⊥
NextBreaks L n front (t ∷ _) = L (Err n) (front ++ t ∷ [])

-- Why reading stops before a token: no continuation is in the grammar, or the token breaks the rule with this number.
pub data Why : Type 0 where
  Unexpected : Why
  Breaks : ℕ → Why

-- None of these tokens breaks a rule.
abbrev pub KeepsRules : {T A : Type 0} → Grammar T A → Language T
KeepsRules {T} L front = (n : ℕ) (v w : List T) → front ≡ v ++ w → L (Err n) v → ⊥

-- What each of the two says of the tokens before and the tokens after: some phrase of the plain language begins with those
-- before, which break no rule, and none goes on with the next token; or one goes on with it, and by the grammar it breaks the
-- rule n.
abbrev pub Reason : {T A : Type 0} → Grammar T A → Language T → Why → List T → Language T
Reason L P Unexpected front rest = IsFront P front × HasNoWay P front rest × KeepsRules L front
Reason L P (Breaks n) front rest = GoesOn P front rest × NextBreaks L n front rest

-- Reading the tokens `ts` stops before `rest` for this reason. Where `rest` is empty the end comes too early.
pub record StopsAt {T A : Type 0} (L : Grammar T A) (P : Language T) (ts rest : List T) (why : Why) : Type 0 where
  pub front : List T
  pub split : ts ≡ front ++ rest
  pub reason : Reason L P why front rest

-- What reading all of the tokens has to answer: their tree where they are a phrase that keeps the rules, and else the
-- tokens from the first one with which there is no continuation, or which breaks a rule.
abbrev pub Answers : {T A : Type 0} → Grammar T A → Language T → List T → Result A (List T × Why) → Type 0
Answers L P ts (Ok a) = L (Ok a) ts
Answers L P ts (Err e) = StopsAt L P ts e.0 e.1

-- The same where no token breaks a rule.
abbrev pub AnswersAll : {T A : Type 0} → Grammar T A → List T → Result A (List T × Why) → Type 0
AnswersAll L ts (Ok a) = L (Ok a) ts
AnswersAll L ts (Err e) = (e.1 ≡ Unexpected) × StopsAt L (Phrase L) ts e.0 Unexpected

-- ---- the words of EBNF

-- One token that passes the test. It is the tree.
abbrev pub One : {T : Type 0} → (T → Bool) → Grammar T T
One test (Ok t) ts = (test t ≡ true) × (ts ≡ t ∷ [])
One test (Err n) ts = ⊥

-- No token. The tree is c.
abbrev pub Nothing : {T A : Type 0} → A → Grammar T A
Nothing c (Ok a) ts = (a ≡ c) × (ts ≡ [])
Nothing c (Err n) ts = ⊥

-- A phrase of L with another tree.
abbrev pub Mapped : {T A B : Type 0} → (A → B) → Grammar T A → Grammar T B
Mapped {T} {A} f L (Ok b) ts = (a : A) × (b ≡ f a) × L (Ok a) ts
Mapped f L (Err n) ts = L (Err n) ts

-- A phrase of L with the tree a, and behind it one of M a, whose tree is that of both. A rule is broken in the first part, or
-- behind a phrase of the first part in the second.
abbrev pub Then : {T A B : Type 0} → Grammar T A → (A → Grammar T B) → Grammar T B
Then {T} {A} L M (Ok b) ts = (a : A) × (v : List T) × (w : List T) × L (Ok a) v × M a (Ok b) w × (ts ≡ v ++ w)
Then {T} {A} L M (Err n) ts = L (Err n) ts ⊎ ((a : A) × (v : List T) × (w : List T) × L (Ok a) v × M a (Err n) w × (ts ≡ v ++ w))

-- The lines of a `do` block.
infixl 10 ◌>>=◌
abbrev pub ◌>>=◌ : {T A B : Type 0} → Grammar T A → (A → Grammar T B) → Grammar T B
L >>= M = Then L M

infixl 10 ◌>>◌
abbrev pub ◌>>◌ : {T A B : Type 0} → Grammar T A → Grammar T B → Grammar T B
L >> M = Then L (λ _. M)

-- x | y
abbrev pub Either : {T A : Type 0} → Grammar T A → Grammar T A → Grammar T A
Either L M r ts = L r ts ⊎ M r ts

-- [ x ], with the tree d where it isn't there
abbrev pub Optional : {T A : Type 0} → A → Grammar T A → Grammar T A
Optional d L = Either L (Nothing d)

-- Phrases in a row, with the list of their trees.
abbrev pub Row : {T A : Type 0} → Grammar T A → List A → Language T
Row L [] ts = ts ≡ []
Row {T} L (a ∷ others) ts = (v : List T) × (w : List T) × L (Ok a) v × Row L others w × (ts ≡ v ++ w)

-- { x }, with the list of the trees. A rule is broken in the x behind those that are read.
abbrev pub Many : {T A : Type 0} → Grammar T A → Grammar T (List A)
Many L (Ok all) ts = Row L all ts
Many {T} {A} L (Err n) ts = (before : List A) × (v : List T) × (w : List T) × Row L before v × L (Err n) w × (ts ≡ v ++ w)

-- x { y }, with the list of the trees
abbrev pub Listed : {T A : Type 0} → Grammar T A → Grammar T A → Grammar T (List A)
Listed L M = Then L (λ a. Mapped (λ others. a ∷ others) (Many M))

-- sep x
abbrev pub Behind : {T A : Type 0} → (T → Bool) → Grammar T A → Grammar T A
Behind sep L = Then (One sep) (λ _. L)

-- x { sep x }
abbrev pub Separated : {T A : Type 0} → (T → Bool) → Grammar T A → Grammar T (List A)
Separated sep L = Listed L (Behind sep L)

-- x { [ sep ] x }
abbrev pub Loosely : {T A : Type 0} → (T → Bool) → Grammar T A → Grammar T (List A)
Loosely sep L = Listed L (Either (Behind sep L) L)

-- open x close
abbrev pub Between : {T A : Type 0} → (T → Bool) → Grammar T A → (T → Bool) → Grammar T A
Between opens L closes = Then (One opens) (λ _. Then L (λ a. Mapped (λ _. a) (One closes)))

-- { x }, where each x goes on from the tree so far: behind the tree a each phrase of `L a` is one step, and its tree takes the
-- place of a. The last one is the tree. A rule is broken in some step.
pub data Growing {T A : Type 0} (L : A → Grammar T A) : A → Result A ℕ → List T → Type 0 where
  ended : (a : A) → Growing L a (Ok a) []
  broken : (a : A) (n : ℕ) (v : List T) → L a (Err n) v → Growing L a (Err n) v
  grown : (a b : A) (r : Result A ℕ) (v w : List T) → L a (Ok b) v → Growing L b r w → Growing L a r (v ++ w)

-- ---- tokens that break rules

-- The number n, where the rule is broken.
abbrev pub fault_if : Bool → ℕ → Option ℕ
fault_if true n = Some n
fault_if false n = None

-- One token that passes the test and breaks no rule. It is the tree. `fault` says which rule a token breaks.
abbrev pub Allowed : {T : Type 0} → (T → Bool) → (T → Option ℕ) → Grammar T T
Allowed test fault (Ok t) ts = (test t ≡ true) × (fault t ≡ None) × (ts ≡ t ∷ [])
Allowed {T} test fault (Err n) ts = (t : T) × (test t ≡ true) × (fault t ≡ Some n) × (ts ≡ t ∷ [])

-- No phrase: each token that passes the test breaks the rule with its number.
abbrev pub Refused : {T A : Type 0} → (T → Bool) → (T → ℕ) → Grammar T A
Refused test number (Ok a) ts = ⊥
Refused {T} test number (Err n) ts = (t : T) × (test t ≡ true) × (number t ≡ n) × (ts ≡ t ∷ [])

-- A phrase of L. Where what stands before it is bad, a token that passes `first` breaks the rule n instead.
abbrev pub Barred : {T A : Type 0} → Bool → (T → Bool) → ℕ → Grammar T A → Grammar T A
Barred true first n L = Refused first (λ _. n)
Barred false first n L = L

-- ---- the same for plain languages

-- One token that passes the test.
abbrev pub PlainOne : {T : Type 0} → (T → Bool) → Language T
PlainOne test = Phrase (One test)

-- No token.
abbrev pub PlainNothing : {T : Type 0} → Language T
PlainNothing ts = ts ≡ []

-- x y
abbrev pub PlainThen : {T : Type 0} → Language T → Language T → Language T
PlainThen {T} P Q ts = (v : List T) × (w : List T) × P v × Q w × (ts ≡ v ++ w)

-- x | y
abbrev pub PlainEither : {T : Type 0} → Language T → Language T → Language T
PlainEither P Q ts = P ts ⊎ Q ts

-- [ x ]
abbrev pub PlainOptional : {T : Type 0} → Language T → Language T
PlainOptional P = PlainEither P PlainNothing

-- { x }
pub data PlainMany {T : Type 0} (P : Language T) : List T → Type 0 where
  none : PlainMany P []
  more : (v w : List T) → P v → PlainMany P w → PlainMany P (v ++ w)

-- x { sep x }
abbrev pub PlainSeparated : {T : Type 0} → (T → Bool) → Language T → Language T
PlainSeparated sep P = PlainThen P (PlainMany (PlainThen (PlainOne sep) P))

-- x { [ sep ] x }
abbrev pub PlainLoosely : {T : Type 0} → (T → Bool) → Language T → Language T
PlainLoosely sep P = PlainThen P (PlainMany (PlainEither (PlainThen (PlainOne sep) P) P))

-- open x close
abbrev pub PlainBetween : {T : Type 0} → (T → Bool) → Language T → (T → Bool) → Language T
PlainBetween opens P closes = PlainThen (PlainOne opens) (PlainThen P (PlainOne closes))
