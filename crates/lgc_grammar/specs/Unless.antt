-- Phrases that may not end where their tree is bad: what stands behind such a phrase, or that nothing does, is unexpected.
use Rattle.std.specs.Prelude.{◌≡◌, Bool, false, List, Result, Ok, Err, if◌then◌else◌}
use Rattle.lgc_grammar.specs.Grammar.{Grammar, Language, Why, Unexpected}
use Rattle.lgc_grammar.specs.Reading.{Reader, and_then}

-- A phrase of L whose tree isn't bad. A rule is broken as in L.
abbrev pub Unless : {T A : Type 0} → (A → Bool) → Grammar T A → Grammar T A
Unless bad L (Ok a) ts = (bad a ≡ false) × L (Ok a) ts
Unless bad L (Err n) ts = L (Err n) ts

-- A plain phrase without those of L whose trees are bad.
abbrev pub PlainUnless : {T A : Type 0} → (A → Bool) → Grammar T A → Language T → Language T
PlainUnless {T} {A} bad L P ts = P ts × ((a : A) → L (Ok a) ts → bad a ≡ false)

-- What was read, where its tree isn't bad.
abbrev pub unless_bad : {T A : Type 0} → (A → Bool) → A × List T → Result (A × List T) (List T × Why)
unless_bad bad (a, rest) = if bad a then Err (rest, Unexpected) else Ok (a, rest)

-- What p reads, where its tree isn't bad.
abbrev pub unless_at : {T A : Type 0} → (A → Bool) → Reader T A → Reader T A
unless_at bad p ts = and_then (p ts) (unless_bad bad)
