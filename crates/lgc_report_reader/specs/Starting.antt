-- A phrase whose first token passes a test and breaks no rule.
use Rattle.std.specs.Prelude.{◌≡◌, ◌⊎◌, ℕ, Bool, true, [], ◌∷◌, Option, Some, None, Ok, Err, if◌then◌else◌}
use Rattle.lgc_grammar.specs.Grammar.{Grammar, Language, Unexpected, Breaks}
use Rattle.lgc_grammar.specs.Reading.{Reader, next_is}

-- The first token passes the test and breaks no rule.
abbrev pub MayStart : {T : Type 0} → (T → Bool) → (T → Option ℕ) → Language T
MayStart test fault [] = ⊥
MayStart test fault (t ∷ _) = (test t ≡ true) × (fault t ≡ None)

-- A phrase of L that begins so. Another token that passes the test breaks its rule alone.
abbrev pub Starting : {T A : Type 0} → (T → Bool) → (T → Option ℕ) → Grammar T A → Grammar T A
Starting test fault L (Ok a) ts = MayStart test fault ts × L (Ok a) ts
Starting {T} test fault L (Err n) ts = ((t : T) × (test t ≡ true) × (fault t ≡ Some n) × (ts ≡ t ∷ [])) ⊎ (MayStart test fault ts × L (Err n) ts)

-- A phrase of P whose first token passes the test.
abbrev pub PlainStarting : {T : Type 0} → (T → Bool) → Language T → Language T
PlainStarting test P ts = (next_is test ts ≡ true) × P ts

-- What p reads, where the first token breaks no rule.
abbrev pub unless_broken : {T A : Type 0} → Option ℕ → Reader T A → Reader T A
unless_broken None p ts = p ts
unless_broken (Some n) p ts = Err (ts, Breaks n)

-- What p reads from a first token that passes the test.
abbrev pub starting_at : {T A : Type 0} → (T → Bool) → (T → Option ℕ) → Reader T A → Reader T A
starting_at test fault p [] = Err ([], Unexpected)
starting_at test fault p (t ∷ rest) = if test t then unless_broken (fault t) p (t ∷ rest) else Err (t ∷ rest, Unexpected)
