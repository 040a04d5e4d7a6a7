-- The plain language of rule files: the same lines, without trees, and whether or not their names and numbers are right. It
-- doesn't depend on the logic. A token that breaks a rule is one with which this language goes on.
use Rattle.lgc_grammar.specs.Grammar.{Language, PlainOne, PlainNothing, PlainThen, PlainEither, PlainOptional, PlainMany}
use Rattle.lgc_tokens.specs.declared.class.Class.TheVariants.{RuleWord, AtWord, OperatorWord, QuantifierWord, AllWord, SomeWord, Zero, Caret, OpenBrace, CloseBrace, OpenSquare, CloseSquare, Comma, Dot, Colon, Semicolon, Slash}
use Rattle.lgc_tokens.specs.declared.class.Class.{Class}
use Rattle.lgc_tokens.specs.Spelled.{Spelled}
use Rattle.lgc_tokens.specs.Classes.{is, is_name, is_number, is_argument, is_zero, is_value}
use Rattle.std.specs.Prelude.{Bool}

-- a token of the class, and then a phrase
infixr 10 ◌then◌
abbrev pub ◌then◌ : Class → Language Spelled → Language Spelled
c then P = PlainThen (PlainOne (is c)) P

-- "," value
abbrev pub PlainNextValue : Language Spelled
PlainNextValue = Comma then PlainThen (PlainOne is_value) PlainNothing

-- set = "{" value { "," value } "}"
abbrev pub PlainSet : Language Spelled
PlainSet = OpenBrace then PlainThen (PlainOne is_value) (PlainThen (PlainMany PlainNextValue) (CloseBrace then PlainNothing))

-- literal = number Symbol "^" set
abbrev pub PlainLiteral : (Spelled → Bool) → Language Spelled
PlainLiteral test = PlainThen (PlainOne test) (Caret then PlainThen PlainSet PlainNothing)

-- literal { "," literal }, where a 0 has a Symbol ^ behind it
abbrev pub PlainLiterals : Language Spelled
PlainLiterals = PlainThen (PlainLiteral is_argument) (PlainMany (Comma then PlainLiteral is_number))

-- clause = "0" | literal { "," literal }
abbrev pub PlainClause : Language Spelled
PlainClause = PlainEither (PlainOne (is Zero)) PlainLiterals

-- "," "all" set
abbrev pub PlainNextAll : Language Spelled
PlainNextAll = Comma then AllWord then PlainSet

-- "," "some" set
abbrev pub PlainLastSome : Language Spelled
PlainLastSome = Comma then SomeWord then PlainSet

-- { "," "all" set } [ "," "some" set ]
abbrev pub PlainMoreSets : Language Spelled
PlainMoreSets = PlainThen (PlainMany PlainNextAll) (PlainOptional PlainLastSome)

-- clause = "0" | "all" set { "," "all" set } [ "," "some" set ] | "some" set
abbrev pub PlainQuantifierClause : Language Spelled
PlainQuantifierClause =
    PlainEither (PlainOne is_zero)
    (PlainEither (PlainThen (AllWord then PlainSet) PlainMoreSets) (SomeWord then PlainSet))

-- [ clause { ";" clause } ]
abbrev pub PlainClauses : Language Spelled → Language Spelled
PlainClauses P = PlainOptional (PlainThen P (PlainMany (Semicolon then P)))

-- head = "operator" name "/" number
abbrev pub PlainOperatorHead : Language Spelled
PlainOperatorHead = OperatorWord then PlainThen (PlainOne is_name) (Slash then PlainThen (PlainOne is_number) PlainNothing)

-- head = "quantifier" name
abbrev pub PlainQuantifierHead : Language Spelled
PlainQuantifierHead = QuantifierWord then PlainOne is_name

-- body = "at" set ":" "[" [ clause { ";" clause } ] "]" "."
abbrev pub PlainBody : Language Spelled → Language Spelled
PlainBody P =
    AtWord then PlainThen PlainSet (Colon then OpenSquare then PlainThen (PlainClauses P)
    (CloseSquare then Dot then PlainNothing))

-- rule = "rule" number ":" ( "operator" name "/" number body | "quantifier" name body )
abbrev pub PlainRule : Language Spelled
PlainRule =
    RuleWord then PlainThen (PlainOne is_number) (Colon then PlainThen
    (PlainEither (PlainThen PlainOperatorHead (PlainBody PlainClause)) (PlainThen PlainQuantifierHead (PlainBody PlainQuantifierClause)))
    PlainNothing)

-- rules = { rule }
abbrev pub PlainRules : Language Spelled
PlainRules = PlainMany PlainRule
