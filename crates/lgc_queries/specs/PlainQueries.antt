-- The plain language of queries: the same lines, without trees, and whether or not they keep the rules.
use Rattle.std.specs.Prelude.{Bool, false}
use Rattle.lgc_grammar.specs.Grammar.{Language, PlainOne, PlainNothing, PlainThen, PlainEither, PlainOptional, PlainMany}
use Rattle.lgc_grammar.specs.Seen.{PlainSeen}
use Rattle.lgc_tokens.specs.declared.class.Class.{Class}
use Rattle.lgc_tokens.specs.declared.class.Class.TheVariants.{EntailWord, MixedWord, EquationWord, QuasiWord, Turnstile, Equals, OpenBrace, CloseBrace, Comma, Dot, Colon}
use Rattle.lgc_tokens.specs.Spelled.{Spelled}
use Rattle.lgc_tokens.specs.Classes as tokens
use Rattle.lgc_formulas.specs.Named.{Named, is}
use Rattle.lgc_formulas.specs.PlainFormulas.{PlainFormula, PlainFormulaList}

-- ---- sets of truth values

-- "," value
abbrev pub PlainNextValue : Language Spelled
PlainNextValue = PlainThen (PlainOne (tokens.is Comma)) (PlainOne tokens.is_value)

-- value { "," value }
abbrev pub PlainSomeValues : Language Spelled
PlainSomeValues = PlainThen (PlainOne tokens.is_value) (PlainMany PlainNextValue)

-- qset = "{" [ value { "," value } ] "}"
abbrev pub PlainValueSet : Language Spelled
PlainValueSet = PlainThen (PlainOne (tokens.is OpenBrace)) (PlainThen (PlainOptional PlainSomeValues) (PlainThen (PlainOne (tokens.is CloseBrace)) PlainNothing))

-- the same among tokens as the logic knows them
abbrev pub PlainNamedSet : Language Named
PlainNamedSet = PlainSeen (λ (t : Named). t.spelled) PlainValueSet

-- ---- queries

-- a token of the class, and then a phrase
infixr 10 ◌then◌
abbrev pub ◌then◌ : Class → Language Named → Language Named
c then P = PlainThen (PlainOne (is c)) P

-- [ x ] turnstile
abbrev pub PlainPremises : Language Named → Language Named
PlainPremises P = PlainThen (PlainOptional P) (Turnstile then PlainNothing)

-- `numbered` where formulas have numbers
module _ (numbered : Bool) where
  -- equation = formula "=" formula
  abbrev pub PlainEquation : Language Named
  PlainEquation = PlainThen (PlainFormula numbered) (Equals then PlainFormula numbered)

  -- equation { "," equation }
  abbrev pub PlainEquationList : Language Named
  PlainEquationList = PlainThen PlainEquation (PlainMany (Comma then PlainEquation))

  -- "entail" [ formula { "," formula } ] turnstile formula
  abbrev pub PlainEntail : Language Named
  PlainEntail = EntailWord then PlainThen (PlainPremises (PlainFormulaList numbered)) (PlainFormula numbered)

  -- "mixed" qset "," qset ":" [ formula { "," formula } ] turnstile formula { "," formula }
  abbrev pub PlainMixed : Language Named
  PlainMixed =
      MixedWord then PlainThen PlainNamedSet (Comma then PlainThen PlainNamedSet (Colon then
      PlainThen (PlainPremises (PlainFormulaList numbered)) (PlainFormulaList numbered)))

  -- "equation" equation
  abbrev pub PlainEquationQuery : Language Named
  PlainEquationQuery = EquationWord then PlainEquation

  -- "quasi" [ equation { "," equation } ] turnstile equation
  abbrev pub PlainQuasi : Language Named
  PlainQuasi = QuasiWord then PlainThen (PlainPremises PlainEquationList) PlainEquation

  -- query
  abbrev pub PlainQuery : Language Named
  PlainQuery = PlainEither PlainEntail (PlainEither PlainMixed (PlainEither PlainEquationQuery PlainQuasi))

-- queries = { query "." }
abbrev pub PlainQueries : Language Named
PlainQueries = PlainMany (PlainThen (PlainQuery false) (Dot then PlainNothing))
