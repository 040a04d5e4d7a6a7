-- Single tokens: a token of each class, and that no token passes two tests of different classes.
use Rattle.std.proofs.Common.{◌≡◌, ℕ, Bool, true, false, List, [], Option, Some, refl, ap, ◌∙◌}
use Rattle.std.specs.Prelude.{codes, not, ◌&&◌}
use Rattle.lgc_grammar.specs.Grammar.{One, Allowed, PlainOne}
use Rattle.lgc_grammar.specs.Reading.{one_at, allowed_at}
use Rattle.lgc_grammar.proofs.Readers.{Reads, ReadsAll, Must, never}
use Rattle.lgc_grammar.proofs.Basic.{one_reads}
use Rattle.lgc_grammar.proofs.AllowedTokens.{allowed_reads}
use Rattle.lgc_grammar.proofs.Classes.{IsTable, entry, all_pass, apart}
use Rattle.lgc_lexer.specs.declared.token.Kind.{Kind}
use Rattle.lgc_lexer.specs.declared.token.Kind.TheVariants as kind
use Rattle.lgc_tokens.specs.declared.class.Class.{Class}
use Rattle.lgc_tokens.specs.declared.class.Class.TheVariants.{LogicWord, ValuesWord, DesignatedWord, OrderingWord, OperatorWord, QuantifierWord, MappingWord, TableWord, InducedWord, InfWord, SupWord, RuleWord, AtWord, AllWord, SomeWord, EntailWord, MixedWord, EquationWord, QuasiWord, ReportWord, LineWord, ByWord, AxiomWord, PendingWord, OnWord, FromWord, ResolveWord, ClaimWord, ProvedWord, RefutedWord, UnfinishedWord, HoldsWord, EndWord, Lower, Upper, Zero, CaretZero, Number, LongNumber, Digits, Mixed, Quoted, Text, Less, Caret, Turnstile, Equals, Hash, Symbol, OpenRound, CloseRound, OpenBrace, CloseBrace, OpenSquare, CloseSquare, Comma, Dot, Colon, Semicolon, Slash, Punct}
use Rattle.lgc_tokens.specs.declared.terminal.Terminal.{Terminal}
use Rattle.lgc_tokens.specs.declared.terminal.Terminal.TheVariants as terminal
use Rattle.lgc_tokens.specs.Numbers.{number_in, long_number_in}
use Rattle.lgc_tokens.specs.Spelled.{Spelled}
use Rattle.lgc_tokens.specs.Classes.{classes, place, same, class_of, class_of_word, class_of_punct, passes, is, is_a}

pub table : IsTable classes
table = record { place = place; holds = holds }
  where
    holds : (c : Class) → entry classes (place c) ≡ Some c
    holds LogicWord = refl
    holds c = refl

-- a token whose class passes f doesn't pass g
pub off : (f g : Class → Bool) → all_pass (λ c. not (f c && g c)) classes ≡ true → (t : Spelled) → f (class_of t) ≡ true → g (class_of t) ≡ false
off = apart table class_of

abbrev spelt : Kind → List ℕ → Spelled
spelt k text = record { token = record { kind = k; start = 0; end = 0 }; text = text; before_caret = false }

-- a token of each class
abbrev token : Class → Spelled
token LogicWord = spelt kind.Lower (codes "logic")
token ValuesWord = spelt kind.Lower (codes "truth_values")
token DesignatedWord = spelt kind.Lower (codes "designated_truth_values")
token OrderingWord = spelt kind.Lower (codes "ordering")
token OperatorWord = spelt kind.Lower (codes "operator")
token QuantifierWord = spelt kind.Lower (codes "quantifier")
token MappingWord = spelt kind.Lower (codes "mapping")
token TableWord = spelt kind.Lower (codes "table")
token InducedWord = spelt kind.Lower (codes "induced_by")
token InfWord = spelt kind.Lower (codes "inf")
token SupWord = spelt kind.Lower (codes "sup")
token RuleWord = spelt kind.Lower (codes "rule")
token AtWord = spelt kind.Lower (codes "at")
token AllWord = spelt kind.Lower (codes "all")
token SomeWord = spelt kind.Lower (codes "some")
token EntailWord = spelt kind.Lower (codes "entail")
token MixedWord = spelt kind.Lower (codes "mixed")
token EquationWord = spelt kind.Lower (codes "equation")
token QuasiWord = spelt kind.Lower (codes "quasi")
token ReportWord = spelt kind.Lower (codes "report")
token LineWord = spelt kind.Lower (codes "line")
token ByWord = spelt kind.Lower (codes "by")
token AxiomWord = spelt kind.Lower (codes "axiom")
token PendingWord = spelt kind.Lower (codes "pending")
token OnWord = spelt kind.Lower (codes "on")
token FromWord = spelt kind.Lower (codes "from")
token ResolveWord = spelt kind.Lower (codes "resolve")
token ClaimWord = spelt kind.Lower (codes "claim")
token ProvedWord = spelt kind.Lower (codes "proved")
token RefutedWord = spelt kind.Lower (codes "refuted")
token UnfinishedWord = spelt kind.Lower (codes "unfinished")
token HoldsWord = spelt kind.Lower (codes "holds")
token EndWord = spelt kind.Lower (codes "end")
token Lower = spelt kind.Lower (codes "x")
token Upper = spelt kind.Upper (codes "X")
token Zero = spelt kind.Digits (codes "0")
token CaretZero = record (spelt kind.Digits (codes "0")) { before_caret = true }
token Number = spelt kind.Digits (codes "1")
token LongNumber = spelt kind.Digits (codes "4294967296")
token Digits = spelt kind.Digits (codes "00")
token Mixed = spelt kind.Digits (codes "1x")
token Quoted = spelt kind.Quoted (codes "x")
token Text = spelt kind.Text []
token Less = spelt kind.Symbol (codes "<")
token Caret = spelt kind.Symbol (codes "^")
token Turnstile = spelt kind.Symbol (codes "|-")
token Equals = spelt kind.Symbol (codes "=")
token Hash = spelt kind.Symbol (codes "#")
token Symbol = spelt kind.Symbol (codes "+")
token OpenRound = spelt kind.Punct (codes "(")
token CloseRound = spelt kind.Punct (codes ")")
token OpenBrace = spelt kind.Punct (codes "{")
token CloseBrace = spelt kind.Punct (codes "}")
token OpenSquare = spelt kind.Punct (codes "[")
token CloseSquare = spelt kind.Punct (codes "]")
token Comma = spelt kind.Punct (codes ",")
token Dot = spelt kind.Punct (codes ".")
token Colon = spelt kind.Punct (codes ":")
token Semicolon = spelt kind.Punct (codes ";")
token Slash = spelt kind.Punct (codes "/")
token Punct = spelt kind.Punct (codes "-")

is_of_class : (c : Class) → class_of (token c) ≡ c
unfolding class_of class_of_word class_of_punct number_in long_number_in
is_of_class LogicWord = refl
is_of_class c = refl

-- a class of each terminal
abbrev sample : Terminal → Class
sample (terminal.Only c) = c
sample terminal.LogicName = Text
sample terminal.DigitsAlone = Number
sample terminal.Number = Number
sample terminal.LongNumber = Number
sample terminal.Argument = Number
sample terminal.Zero = Zero
sample terminal.Bound = InfWord
sample terminal.QuantifierClause = AllWord
sample terminal.BracketedStart = OpenBrace
sample terminal.StatementStart = LogicWord
sample terminal.QueryStart = EntailWord
sample _ = Lower

sample_passes : (t : Terminal) → passes t (sample t) ≡ true
sample_passes (terminal.Only c) = by c
  where
    by : (c : Class) → same c c ≡ true
    by LogicWord = refl
    by c = refl
sample_passes terminal.Name = refl
sample_passes t = refl

-- a token of each terminal
abbrev pub example : Terminal → Spelled
example t = token (sample t)

pub example_passes : (t : Terminal) → is_a t (example t) ≡ true
example_passes t = ap (passes t) (is_of_class (sample t)) ∙ sample_passes t

-- one token of a terminal
pub one_of : (t : Terminal) → ReadsAll (one_at (is_a t)) (One (is_a t)) (Must (is_a t)) never
one_of t = one_reads (is_a t) (example t) (example_passes t)

-- one token of a class
pub one : (c : Class) → ReadsAll (one_at (is c)) (One (is c)) (Must (is c)) never
one c = one_of (terminal.Only c)

-- one token of a terminal that may break a rule
pub allowed : (t : Terminal) (fault : Spelled → Option ℕ) → Reads (allowed_at (is_a t) fault) (Allowed (is_a t) fault) (PlainOne (is_a t)) (Must (is_a t)) never
allowed t fault = allowed_reads (is_a t) fault (example t) (example_passes t)
