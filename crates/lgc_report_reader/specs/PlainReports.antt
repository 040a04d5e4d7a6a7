-- The plain language of reports: the same lines, without trees, and whether or not they keep the rules.
use Rattle.lgc_grammar.specs.Grammar.{Language, PlainOne, PlainNothing, PlainThen, PlainEither, PlainOptional, PlainMany}
use Rattle.lgc_grammar.specs.Seen.{PlainSeen}
use Rattle.lgc_tokens.specs.declared.class.Class.{Class}
use Rattle.lgc_tokens.specs.declared.class.Class.TheVariants.{RuleWord, AtWord, ReportWord, LineWord, ByWord, AxiomWord, PendingWord, OnWord, FromWord, ResolveWord, ClaimWord, ProvedWord, RefutedWord, UnfinishedWord, HoldsWord, EndWord, Caret, OpenBrace, CloseBrace, OpenSquare, CloseSquare, Comma, Dot, Colon}
use Rattle.lgc_tokens.specs.Classes as tokens
use Rattle.lgc_formulas.specs.Setting.{Setting, numbered}
use Rattle.lgc_formulas.specs.PlainTerms.{PlainTerm}
use Rattle.lgc_formulas.specs.PlainFormulas.{PlainFormula}
use Rattle.lgc_queries.specs.PlainQueries.{PlainQuery}
use Rattle.lgc_rules.specs.PlainGrammar.{PlainSet, PlainRule}
use Rattle.lgc_report_reader.specs.Reported.{Reported, spelled_of, is, is_number, is_position, is_version, is_predicate, starts_query, starts_sequent}
use Rattle.lgc_report_reader.specs.Starting.{PlainStarting}

-- a token of the class, and then a phrase
infixr 10 ◌then◌
abbrev pub ◌then◌ : Class → Language Reported → Language Reported
c then P = PlainThen (PlainOne (is c)) P

-- a token of the class, and a point
abbrev pub PlainEnd : Class → Language Reported
PlainEnd c = c then Dot then PlainNothing

-- ---- terms and cited lines

-- term
abbrev pub PlainTermHere : Language Reported
PlainTermHere = PlainSeen spelled_of PlainTerm

-- "[" term { "," term } "]"
abbrev pub PlainTermsHere : Language Reported
PlainTermsHere = OpenSquare then PlainThen PlainTermHere (PlainThen (PlainMany (Comma then PlainTermHere)) (CloseSquare then PlainNothing))

-- cited = number [ "[" term { "," term } "]" ]
abbrev pub PlainCited : Language Reported
PlainCited = PlainThen (PlainOne is_position) (PlainOptional PlainTermsHere)

-- "from" cited { "," cited }
abbrev pub PlainPremises : Language Reported
PlainPremises = FromWord then PlainThen PlainCited (PlainMany (Comma then PlainCited))

-- number { "," number }
abbrev pub PlainPositions : Language Reported
PlainPositions = PlainThen (PlainOne is_position) (PlainMany (Comma then PlainOne is_position))

module _ (s : Setting) where
  -- ---- sequents

  -- formula
  abbrev pub PlainFormulaHere : Language Reported
  PlainFormulaHere = PlainSeen (λ (t : Reported). t.named) (PlainFormula (numbered s))

  -- set
  abbrev pub PlainSetHere : Language Reported
  PlainSetHere = PlainSeen spelled_of PlainSet

  -- item = formula Symbol "^" set
  abbrev pub PlainItem : Language Reported
  PlainItem = PlainThen PlainFormulaHere (Caret then PlainSetHere)

  -- sequent = item { "," item }
  abbrev pub PlainItems : Language Reported
  PlainItems = PlainThen PlainItem (PlainMany (Comma then PlainItem))

  -- ---- lines

  -- [ "from" cited { "," cited } ] "."
  abbrev pub PlainBehindPrincipal : Language Reported
  PlainBehindPrincipal = PlainThen (PlainOptional PlainPremises) (Dot then PlainNothing)

  -- "rule" number "on" formula [ "from" cited { "," cited } ] "."
  abbrev pub PlainRuleReason : Language Reported
  PlainRuleReason = RuleWord then PlainThen (PlainOne is_number) (OnWord then PlainThen PlainFormulaHere PlainBehindPrincipal)

  -- "from" number "," number "."
  abbrev pub PlainBehindResolved : Language Reported
  PlainBehindResolved = FromWord then PlainThen (PlainOne is_position) (Comma then PlainThen (PlainOne is_position) (Dot then PlainNothing))

  -- "resolve" "on" formula "from" number "," number "."
  abbrev pub PlainResolveReason : Language Reported
  PlainResolveReason = ResolveWord then OnWord then PlainThen PlainFormulaHere PlainBehindResolved

  -- reason "."
  abbrev pub PlainReason : Language Reported
  PlainReason = PlainEither (PlainEnd AxiomWord) (PlainEither (PlainEnd PendingWord) (PlainEither PlainRuleReason PlainResolveReason))

  -- line = "line" number ":" sequent "by" reason "."
  abbrev pub PlainLineHere : Language Reported
  PlainLineHere = LineWord then PlainThen (PlainOne is_position) (Colon then PlainThen PlainItems (ByWord then PlainReason))

  -- ---- claims

  -- entry = atom ":" value
  abbrev pub PlainEntry : Language Reported
  PlainEntry = PlainThen (PlainStarting is_predicate PlainFormulaHere) (Colon then PlainSeen spelled_of (PlainOne tokens.is_value))

  -- entry { "," entry }
  abbrev pub PlainEntries : Language Reported
  PlainEntries = PlainThen PlainEntry (PlainMany (Comma then PlainEntry))

  -- "proved" or "unfinished", and "by" number { "," number } "."
  abbrev pub PlainByPositions : Class → Language Reported
  PlainByPositions word = word then ByWord then PlainThen PlainPositions (Dot then PlainNothing)

  -- "refuted" "at" "{" [ entry { "," entry } ] "}" "."
  abbrev pub PlainAtValuation : Language Reported
  PlainAtValuation = RefutedWord then AtWord then OpenBrace then PlainThen (PlainOptional PlainEntries) (PlainEnd CloseBrace)

  abbrev pub PlainEvidence : Language Reported
  PlainEvidence = PlainEither (PlainByPositions ProvedWord) (PlainEither (PlainByPositions UnfinishedWord) PlainAtValuation)

  -- a query and its evidence
  abbrev pub PlainAnswer : Language Reported
  PlainAnswer = PlainThen (PlainStarting starts_query (PlainSeen (λ (t : Reported). t.named) (PlainQuery (numbered s)))) PlainEvidence

  -- sequent "holds" "by" number "."
  abbrev pub PlainHolds : Language Reported
  PlainHolds = PlainThen (PlainStarting (starts_sequent s) PlainItems) (HoldsWord then ByWord then PlainThen (PlainOne is_position) (Dot then PlainNothing))

  -- claim
  abbrev pub PlainClaimHere : Language Reported
  PlainClaimHere = ClaimWord then PlainThen (PlainOne is_number) (Colon then PlainEither PlainAnswer PlainHolds)

  -- ---- reports

  -- rule
  abbrev pub PlainRuleHere : Language Reported
  PlainRuleHere = PlainSeen spelled_of PlainRule

  -- report = "report" "1" "." { rule } { line } { claim } "end" "."
  abbrev pub PlainReportHere : Language Reported
  PlainReportHere =
      ReportWord then PlainThen (PlainOne is_version) (Dot then
      PlainThen (PlainMany PlainRuleHere) (PlainThen (PlainMany PlainLineHere) (PlainThen (PlainMany PlainClaimHere) (PlainEnd EndWord))))
