-- What a token is to the grammars.
use Rattle.std.specs.Prelude.{codes, ◌≡◌, ℕ, Bool, true, false, not, ◌&&◌, ◌||◌, ◌==◌, List, [], ◌∷◌, Option, Some, None, is_some, if◌then◌else◌}
use Rattle.std.specs.Str.{bytes_eq}
use Rattle.std.specs.List.{list_all}
use Rattle.std.specs.Char.{is_ascii_digit}
use Rattle.lgc_lexer.specs.declared.token.Kind.{Kind}
use Rattle.lgc_lexer.specs.declared.token.Kind.TheVariants as kind
use Rattle.lgc_tokens.specs.declared.class.Class.{Class}
use Rattle.lgc_tokens.specs.declared.class.Class.TheVariants.{LogicWord, ValuesWord, DesignatedWord, OrderingWord, OperatorWord, QuantifierWord, MappingWord, TableWord, InducedWord, InfWord, SupWord, RuleWord, AtWord, AllWord, SomeWord, EntailWord, MixedWord, EquationWord, QuasiWord, ReportWord, LineWord, ByWord, AxiomWord, PendingWord, OnWord, FromWord, ResolveWord, ClaimWord, ProvedWord, RefutedWord, UnfinishedWord, HoldsWord, EndWord, Lower, Upper, Zero, CaretZero, Number, LongNumber, Digits, Mixed, Quoted, Text, Less, Caret, Turnstile, Equals, Hash, Symbol, OpenRound, CloseRound, OpenBrace, CloseBrace, OpenSquare, CloseSquare, Comma, Dot, Colon, Semicolon, Slash, Punct}
use Rattle.lgc_tokens.specs.declared.terminal.Terminal.{Terminal}
use Rattle.lgc_tokens.specs.declared.terminal.Terminal.TheVariants as terminal
use Rattle.lgc_tokens.specs.Numbers.{number_in, long_number_in}
use Rattle.lgc_tokens.specs.Spelled.{Spelled}

-- all classes
abbrev pub classes : List Class
classes = LogicWord ∷ ValuesWord ∷ DesignatedWord ∷ OrderingWord ∷ OperatorWord ∷ QuantifierWord ∷ MappingWord ∷ TableWord ∷ InducedWord ∷ InfWord ∷ SupWord ∷ RuleWord ∷ AtWord ∷ AllWord ∷ SomeWord ∷ EntailWord ∷ MixedWord ∷ EquationWord ∷ QuasiWord ∷ ReportWord ∷ LineWord ∷ ByWord ∷ AxiomWord ∷ PendingWord ∷ OnWord ∷ FromWord ∷ ResolveWord ∷ ClaimWord ∷ ProvedWord ∷ RefutedWord ∷ UnfinishedWord ∷ HoldsWord ∷ EndWord ∷ Lower ∷ Upper ∷ Zero ∷ CaretZero ∷ Number ∷ LongNumber ∷ Digits ∷ Mixed ∷ Quoted ∷ Text ∷ Less ∷ Caret ∷ Turnstile ∷ Equals ∷ Hash ∷ Symbol ∷ OpenRound ∷ CloseRound ∷ OpenBrace ∷ CloseBrace ∷ OpenSquare ∷ CloseSquare ∷ Comma ∷ Dot ∷ Colon ∷ Semicolon ∷ Slash ∷ Punct ∷ []

-- the place of a class among them
abbrev pub place : Class → ℕ
place LogicWord = 0
place ValuesWord = 1
place DesignatedWord = 2
place OrderingWord = 3
place OperatorWord = 4
place QuantifierWord = 5
place MappingWord = 6
place TableWord = 7
place InducedWord = 8
place InfWord = 9
place SupWord = 10
place RuleWord = 11
place AtWord = 12
place AllWord = 13
place SomeWord = 14
place EntailWord = 15
place MixedWord = 16
place EquationWord = 17
place QuasiWord = 18
place ReportWord = 19
place LineWord = 20
place ByWord = 21
place AxiomWord = 22
place PendingWord = 23
place OnWord = 24
place FromWord = 25
place ResolveWord = 26
place ClaimWord = 27
place ProvedWord = 28
place RefutedWord = 29
place UnfinishedWord = 30
place HoldsWord = 31
place EndWord = 32
place Lower = 33
place Upper = 34
place Zero = 35
place CaretZero = 36
place Number = 37
place LongNumber = 38
place Digits = 39
place Mixed = 40
place Quoted = 41
place Text = 42
place Less = 43
place Caret = 44
place Turnstile = 45
place Equals = 46
place Hash = 47
place Symbol = 48
place OpenRound = 49
place CloseRound = 50
place OpenBrace = 51
place CloseBrace = 52
place OpenSquare = 53
place CloseSquare = 54
place Comma = 55
place Dot = 56
place Colon = 57
place Semicolon = 58
place Slash = 59
place Punct = 60

abbrev pub same : Class → Class → Bool
same c d = place c == place d

-- a Lower: a keyword or another one
unfoldable pub class_of_word : List ℕ → Class
class_of_word text =
    if bytes_eq text (codes "logic") then LogicWord
    else (if bytes_eq text (codes "truth_values") then ValuesWord
    else (if bytes_eq text (codes "designated_truth_values") then DesignatedWord
    else (if bytes_eq text (codes "ordering") then OrderingWord
    else (if bytes_eq text (codes "operator") then OperatorWord
    else (if bytes_eq text (codes "quantifier") then QuantifierWord
    else (if bytes_eq text (codes "mapping") then MappingWord
    else (if bytes_eq text (codes "table") then TableWord
    else (if bytes_eq text (codes "induced_by") then InducedWord
    else (if bytes_eq text (codes "inf") then InfWord
    else (if bytes_eq text (codes "sup") then SupWord
    else (if bytes_eq text (codes "rule") then RuleWord
    else (if bytes_eq text (codes "at") then AtWord
    else (if bytes_eq text (codes "all") then AllWord
    else (if bytes_eq text (codes "some") then SomeWord
    else (if bytes_eq text (codes "entail") then EntailWord
    else (if bytes_eq text (codes "mixed") then MixedWord
    else (if bytes_eq text (codes "equation") then EquationWord
    else (if bytes_eq text (codes "quasi") then QuasiWord
    else (if bytes_eq text (codes "report") then ReportWord
    else (if bytes_eq text (codes "line") then LineWord
    else (if bytes_eq text (codes "by") then ByWord
    else (if bytes_eq text (codes "axiom") then AxiomWord
    else (if bytes_eq text (codes "pending") then PendingWord
    else (if bytes_eq text (codes "on") then OnWord
    else (if bytes_eq text (codes "from") then FromWord
    else (if bytes_eq text (codes "resolve") then ResolveWord
    else (if bytes_eq text (codes "claim") then ClaimWord
    else (if bytes_eq text (codes "proved") then ProvedWord
    else (if bytes_eq text (codes "refuted") then RefutedWord
    else (if bytes_eq text (codes "unfinished") then UnfinishedWord
    else (if bytes_eq text (codes "holds") then HoldsWord
    else (if bytes_eq text (codes "end") then EndWord
    else Lower))))))))))))))))))))))))))))))))

-- a number: 0 without or with a Symbol ^ behind it, or another one
abbrev pub class_of_number : ℕ → Bool → Class
class_of_number n before_caret = if n == 0 then (if before_caret then CaretZero else Zero) else Number

-- a Digits: with a number, with a long number, of other digits alone, or none of these
abbrev pub class_of_numeral : Option ℕ → List ℕ → Bool → Class
class_of_numeral (Some n) text before_caret = class_of_number n before_caret
class_of_numeral None text before_caret = if is_some (long_number_in text) then LongNumber else (if list_all is_ascii_digit text then Digits else Mixed)

-- a Digits
abbrev pub class_of_digits : List ℕ → Bool → Class
class_of_digits text before_caret = class_of_numeral (number_in text) text before_caret

abbrev pub class_of_symbol : List ℕ → Class
class_of_symbol text =
    if bytes_eq text (codes "<") then Less
    else (if bytes_eq text (codes "^") then Caret
    else (if bytes_eq text (codes "|-") then Turnstile
    else (if bytes_eq text (codes "=") then Equals
    else (if bytes_eq text (codes "#") then Hash
    else Symbol))))

unfoldable pub class_of_punct : List ℕ → Class
class_of_punct text =
    if bytes_eq text (codes "(") then OpenRound
    else (if bytes_eq text (codes ")") then CloseRound
    else (if bytes_eq text (codes "{") then OpenBrace
    else (if bytes_eq text (codes "}") then CloseBrace
    else (if bytes_eq text (codes "[") then OpenSquare
    else (if bytes_eq text (codes "]") then CloseSquare
    else (if bytes_eq text (codes ",") then Comma
    else (if bytes_eq text (codes ".") then Dot
    else (if bytes_eq text (codes ":") then Colon
    else (if bytes_eq text (codes ";") then Semicolon
    else (if bytes_eq text (codes "/") then Slash
    else Punct))))))))))

abbrev pub class_in : Kind → List ℕ → Bool → Class
class_in kind.Lower text before_caret = class_of_word text
class_in kind.Upper text before_caret = Upper
class_in kind.Digits text before_caret = class_of_digits text before_caret
class_in kind.Quoted text before_caret = Quoted
class_in kind.Text text before_caret = Text
class_in kind.Symbol text before_caret = class_of_symbol text
class_in kind.Punct text before_caret = class_of_punct text

-- the class of a token, by its kind, its content and what is behind it
unfoldable pub class_of : Spelled → Class
class_of t = class_in t.token.kind t.text t.before_caret

-- ---- sets of classes

-- a Lower: a keyword or another one
abbrev pub is_lower : Class → Bool
is_lower LogicWord = true
is_lower ValuesWord = true
is_lower DesignatedWord = true
is_lower OrderingWord = true
is_lower OperatorWord = true
is_lower QuantifierWord = true
is_lower MappingWord = true
is_lower TableWord = true
is_lower InducedWord = true
is_lower InfWord = true
is_lower SupWord = true
is_lower RuleWord = true
is_lower AtWord = true
is_lower AllWord = true
is_lower SomeWord = true
is_lower EntailWord = true
is_lower MixedWord = true
is_lower EquationWord = true
is_lower QuasiWord = true
is_lower ReportWord = true
is_lower LineWord = true
is_lower ByWord = true
is_lower AxiomWord = true
is_lower PendingWord = true
is_lower OnWord = true
is_lower FromWord = true
is_lower ResolveWord = true
is_lower ClaimWord = true
is_lower ProvedWord = true
is_lower RefutedWord = true
is_lower UnfinishedWord = true
is_lower HoldsWord = true
is_lower EndWord = true
is_lower Lower = true
is_lower _ = false

-- Lower | Quoted
abbrev pub names : Class → Bool
names c = is_lower c || same Quoted c

-- Lower | Quoted | Symbol
abbrev pub names_or_symbols : Class → Bool
names_or_symbols c = names c || (same Less c || (same Caret c || (same Turnstile c || (same Equals c || (same Hash c || same Symbol c)))))

-- a number with which a clause's first literal begins: a 0 has a Symbol ^ behind it
abbrev pub arguments : Class → Bool
arguments c = same CaretZero c || same Number c

-- a number
abbrev pub numbers : Class → Bool
numbers c = same Zero c || arguments c

-- the number of a line or of a let
abbrev pub long_numbers : Class → Bool
long_numbers c = numbers c || same LongNumber c

-- the number 0
abbrev pub zeros : Class → Bool
zeros c = same Zero c || same CaretZero c

-- a Digits of digits alone
abbrev pub digits_alone : Class → Bool
digits_alone c = long_numbers c || same Digits c

-- Lower | Upper | Digits | Quoted | Symbol
abbrev pub values : Class → Bool
values c = names_or_symbols c || (same Upper c || (digits_alone c || same Mixed c))

-- the same other than the Symbol <
abbrev pub order_values : Class → Bool
order_values c = values c && not (same Less c)

-- Text | Lower | Upper | Quoted
abbrev pub logic_names : Class → Bool
logic_names c = same Text c || (is_lower c || (same Upper c || same Quoted c))

-- "inf" | "sup"
abbrev pub bounds : Class → Bool
bounds c = same InfWord c || same SupWord c

-- "0" | "all" | "some"
abbrev pub quantifier_clauses : Class → Bool
quantifier_clauses c = zeros c || (same AllWord c || same SomeWord c)

-- ---- what begins what in specifications

abbrev pub begins_node : Class → Bool
begins_node c = order_values c || same OpenBrace c

abbrev pub begins_bracketed : Class → Bool
begins_bracketed c = same OpenBrace c || same OpenSquare c

abbrev pub begins_row : Class → Bool
begins_row c = same OpenRound c || values c

-- a cell, or the comma before it
abbrev pub begins_cell : Class → Bool
begins_cell c = same Comma c || values c

abbrev pub begins_statement : Class → Bool
begins_statement c = same LogicWord c || (same ValuesWord c || (same DesignatedWord c || (same OrderingWord c || (same OperatorWord c || same QuantifierWord c))))

-- ---- what begins what in formulas and queries

-- a term
abbrev pub begins_term : Class → Bool
begins_term c = same Upper c || is_lower c

abbrev pub begins_query : Class → Bool
begins_query c = same EntailWord c || (same MixedWord c || (same EquationWord c || same QuasiWord c))

-- ---- tests of tokens

-- the classes of a terminal
abbrev pub passes : Terminal → Class → Bool
passes (terminal.Only c) d = same c d
passes terminal.Word d = is_lower d
passes terminal.Name d = names d
passes terminal.NameOrSymbol d = names_or_symbols d
passes terminal.Value d = values d
passes terminal.OrderValue d = order_values d
passes terminal.LogicName d = logic_names d
passes terminal.DigitsAlone d = digits_alone d
passes terminal.Number d = numbers d
passes terminal.LongNumber d = long_numbers d
passes terminal.Argument d = arguments d
passes terminal.Zero d = zeros d
passes terminal.Bound d = bounds d
passes terminal.QuantifierClause d = quantifier_clauses d
passes terminal.NodeStart d = begins_node d
passes terminal.BracketedStart d = begins_bracketed d
passes terminal.RowStart d = begins_row d
passes terminal.CellStart d = begins_cell d
passes terminal.StatementStart d = begins_statement d
passes terminal.TermStart d = begins_term d
passes terminal.QueryStart d = begins_query d

-- the token is one of the terminal
abbrev pub is_a : Terminal → Spelled → Bool
is_a t x = passes t (class_of x)

abbrev pub is : Class → Spelled → Bool
is c x = same c (class_of x)

-- a Lower
abbrev pub is_word : Spelled → Bool
is_word x = is_lower (class_of x)

abbrev pub is_name : Spelled → Bool
is_name x = names (class_of x)

abbrev pub is_name_or_symbol : Spelled → Bool
is_name_or_symbol x = names_or_symbols (class_of x)

abbrev pub is_value : Spelled → Bool
is_value x = values (class_of x)

abbrev pub is_order_value : Spelled → Bool
is_order_value x = order_values (class_of x)

abbrev pub is_logic_name : Spelled → Bool
is_logic_name x = logic_names (class_of x)

abbrev pub is_digits_alone : Spelled → Bool
is_digits_alone x = digits_alone (class_of x)

abbrev pub is_number : Spelled → Bool
is_number x = numbers (class_of x)

abbrev pub is_long_number : Spelled → Bool
is_long_number x = long_numbers (class_of x)

abbrev pub is_argument : Spelled → Bool
is_argument x = arguments (class_of x)

abbrev pub is_zero : Spelled → Bool
is_zero x = zeros (class_of x)

abbrev pub is_bound : Spelled → Bool
is_bound x = bounds (class_of x)

-- what a clause of a quantifier begins with
abbrev pub starts_quantifier_clause : Spelled → Bool
starts_quantifier_clause x = quantifier_clauses (class_of x)

abbrev pub starts_node : Spelled → Bool
starts_node x = begins_node (class_of x)

abbrev pub starts_bracketed : Spelled → Bool
starts_bracketed x = begins_bracketed (class_of x)

abbrev pub starts_row : Spelled → Bool
starts_row x = begins_row (class_of x)

abbrev pub starts_cell : Spelled → Bool
starts_cell x = begins_cell (class_of x)

abbrev pub starts_statement : Spelled → Bool
starts_statement x = begins_statement (class_of x)

abbrev pub starts_term : Spelled → Bool
starts_term x = begins_term (class_of x)

abbrev pub starts_query : Spelled → Bool
starts_query x = begins_query (class_of x)

-- only numbers are of the terminal
abbrev pub AsksForNumber : Terminal → Type 0
AsksForNumber terminal.Number = Unit {0}
AsksForNumber terminal.Argument = Unit {0}
AsksForNumber _ = ⊥

-- ---- what a token's kind tells

-- the kind of the tokens of a class
abbrev pub kind_of : Class → Kind
kind_of Upper = kind.Upper
kind_of Zero = kind.Digits
kind_of CaretZero = kind.Digits
kind_of Number = kind.Digits
kind_of LongNumber = kind.Digits
kind_of Digits = kind.Digits
kind_of Mixed = kind.Digits
kind_of Quoted = kind.Quoted
kind_of Text = kind.Text
kind_of Less = kind.Symbol
kind_of Caret = kind.Symbol
kind_of Turnstile = kind.Symbol
kind_of Equals = kind.Symbol
kind_of Hash = kind.Symbol
kind_of Symbol = kind.Symbol
kind_of OpenRound = kind.Punct
kind_of CloseRound = kind.Punct
kind_of OpenBrace = kind.Punct
kind_of CloseBrace = kind.Punct
kind_of OpenSquare = kind.Punct
kind_of CloseSquare = kind.Punct
kind_of Comma = kind.Punct
kind_of Dot = kind.Punct
kind_of Colon = kind.Punct
kind_of Semicolon = kind.Punct
kind_of Slash = kind.Punct
kind_of Punct = kind.Punct
kind_of _ = kind.Lower

-- the place of a kind among all
abbrev pub kind_place : Kind → ℕ
kind_place kind.Lower = 0
kind_place kind.Upper = 1
kind_place kind.Digits = 2
kind_place kind.Quoted = 3
kind_place kind.Text = 4
kind_place kind.Symbol = 5
kind_place kind.Punct = 6

abbrev pub same_kind : Kind → Kind → Bool
same_kind k l = kind_place k == kind_place l

-- whether a token of the kind is of the terminal, where the kind alone tells
abbrev pub told_by_kind : Terminal → Kind → Option Bool
told_by_kind (terminal.Only c) k = if same_kind (kind_of c) k then None else Some false
told_by_kind terminal.Word k = Some (same_kind kind.Lower k)
told_by_kind terminal.Name k = Some (same_kind kind.Lower k || same_kind kind.Quoted k)
told_by_kind terminal.TermStart k = Some (same_kind kind.Upper k || same_kind kind.Lower k)
told_by_kind _ k = None

-- whether a token of the kind is of the terminal is answered so, whatever it says
abbrev pub IsOfEach : Terminal → Kind → Bool → Type 0
IsOfEach t k answer = (x : Spelled) → x.token.kind ≡ k → is_a t x ≡ answer
