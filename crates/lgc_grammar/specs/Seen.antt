-- A grammar among tokens that say more than it asks for: it sees each of them by a function.
use Rattle.std.specs.Prelude.{◌-◌, List, length, map, drop, Result, Ok, Err}
use Rattle.lgc_grammar.specs.Grammar.{Grammar, Language, Why}
use Rattle.lgc_grammar.specs.Reading.{Reader}

-- Tokens that are seen as a phrase of L.
abbrev pub Seen : {S T A : Type 0} → (S → T) → Grammar T A → Grammar S A
Seen see L r ts = L r (map see ts)

-- Tokens that are seen as a plain phrase.
abbrev pub PlainSeen : {S T : Type 0} → (S → T) → Language T → Language S
PlainSeen see P ts = P (map see ts)

-- as many of the tokens at their end as are left
abbrev pub last_of : {S T : Type 0} → List T → List S → List S
last_of left ts = drop (length ts - length left) ts

-- what was read of the tokens, with what is left of them
abbrev pub seen_read : {S T A : Type 0} → List S → Result (A × List T) (List T × Why) → Result (A × List S) (List S × Why)
seen_read ts (Ok x) = Ok (x.0, last_of x.1 ts)
seen_read ts (Err e) = Err (last_of e.0 ts, e.1)

-- What p reads of the tokens as it sees them.
abbrev pub seen_at : {S T A : Type 0} → (S → T) → Reader T A → Reader S A
seen_at see p ts = seen_read ts (p (map see ts))
