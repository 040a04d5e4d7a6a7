-- What reading has to answer among the tokens of a larger text, where others may stand behind a phrase.
use Rattle.std.specs.Prelude.{◌≡◌, List, [], ◌∷◌, ◌++◌, Result, Ok, Err}
use Rattle.lgc_grammar.specs.Grammar.{Grammar, Language, IsFront, Why, Unexpected, Breaks, StopsAt}

-- No phrase goes on with the next token.
abbrev pub EndsBefore : {T : Type 0} → Language T → List T → Language T
EndsBefore P front [] = Unit {0}
EndsBefore P front (t ∷ _) = IsFront P (front ++ t ∷ []) → ⊥

-- The tokens before `rest` are the longest phrase with which these tokens begin, and a is its tree.
pub record TakesTo {T A : Type 0} (L : Grammar T A) (P : Language T) (ts rest : List T) (a : A) : Type 0 where
  pub front : List T
  pub split : ts ≡ front ++ rest
  pub phrase : L (Ok a) front
  pub longest : EndsBefore P front rest

-- Where a token is unexpected those before it are no phrase.
abbrev pub IsUnfinished : {T : Type 0} → Language T → Why → Language T
IsUnfinished P Unexpected front = P front → ⊥
IsUnfinished P (Breaks n) front = Unit {0}

-- What reading answers: the longest phrase with which the tokens begin, and the tokens behind it. Else the tokens from the first one
-- with which there is no continuation, or which breaks a rule, where those before it are no phrase.
abbrev pub AnswersAmong : {T A : Type 0} → Grammar T A → Language T → List T → Result (A × List T) (List T × Why) → Type 0
AnswersAmong L P ts (Ok x) = TakesTo L P ts x.1 x.0
AnswersAmong L P ts (Err e) = (stop : StopsAt L P ts e.0 e.1) × IsUnfinished P e.1 stop.front
