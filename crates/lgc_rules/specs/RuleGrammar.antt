-- The grammar of rule files for a logic of n truth values, line by line. It says which trees the phrases have that keep every
-- rule, and which rule the last token breaks where one is broken.
--
-- A rule file is read against a logic: an operator is one of the logic and has its arity, a quantifier is one of the logic, a
-- value is a truth value, the numbers of a clause's arguments rise, and the k-th rule has the number k. Each of these rules has
-- its number, which stands beside the tokens that can break it. No token can break two of them.
use Rattle.std.specs.Prelude.{ℕ, ◌+◌, ◌-◌, Bool, List, [], ◌∷◌, ◌++◌, length}
use Rattle.lgc_grammar.specs.Grammar.{Grammar, One, fault_if, Allowed, Nothing, Mapped, ◌>>=◌, ◌>>◌, Either, Optional, Growing}
use Rattle.lgc_syntax.specs.declared.fault.TheConstants.{UNKNOWN_NAME, WRONG_ARITY, UNKNOWN_VALUE, BAD_ARGUMENT, MISNUMBERED}
use Rattle.lgc_values.specs.Logic.{Logic, operator_at}
use Rattle.lgc_clauses.specs.declared.rule.Rule.{Rule}
use Rattle.lgc_clauses.specs.declared.rule.Numbered.{Numbered}
use Rattle.lgc_clauses.specs.declared.rule.Rule.TheVariants as rule
use Rattle.lgc_tokens.specs.declared.class.Class.TheVariants.{RuleWord, AtWord, OperatorWord, QuantifierWord, AllWord, SomeWord, Zero, Caret, OpenBrace, CloseBrace, OpenSquare, CloseSquare, Comma, Dot, Colon, Semicolon, Slash}
use Rattle.lgc_tokens.specs.declared.class.Class.{Class}
use Rattle.lgc_tokens.specs.Spelled.{Spelled}
use Rattle.lgc_tokens.specs.Classes.{is, is_name, is_number, is_argument, is_zero, is_value}
use Rattle.lgc_rules.specs.Names.{value_of, operator_of, quantifier_of, number, names_no_value, names_no_operator, names_no_quantifier, is_outside, with_value, padded}

-- ---- trees of rules

abbrev pub operator_rule : (n : ℕ) → ℕ → List ℕ → List (List (List ℕ)) → Rule n
operator_rule n op sign clauses = rule.Operator (record { op = op; sign = sign; clauses = clauses })

abbrev pub quantifier_rule : (n : ℕ) → ℕ → List ℕ → List (List (List ℕ)) → Rule n
quantifier_rule n quant sign clauses = rule.Quantifier (record { quant = quant; sign = sign; clauses = clauses })

-- ---- numbers

-- a number from `least` to `most`; another one breaks the rule `fault`
abbrev pub NumberFrom : ℕ → ℕ → ℕ → (Spelled → Bool) → Grammar Spelled ℕ
NumberFrom least most fault test = Mapped number (Allowed test (λ t. fault_if (is_outside least most t) fault))

-- ---- sets

-- value = Lower | Upper | Digits | Quoted | Symbol, the name of a truth value
abbrev pub Value : Logic → Grammar Spelled ℕ
Value logic = Mapped (value_of logic) (Allowed is_value (λ t. fault_if (names_no_value logic t) UNKNOWN_VALUE))

-- "," value, which is added to a set
abbrev pub NextValue : ℕ → Logic → List ℕ → Grammar Spelled (List ℕ)
NextValue n logic set = do
  One (is Comma)
  value ← Value logic
  Nothing (with_value n set value)

-- set = "{" value { "," value } "}"
abbrev pub Set : ℕ → Logic → Grammar Spelled (List ℕ)
Set n logic = do
  One (is OpenBrace)
  value ← Value logic
  set ← Growing (NextValue n logic) (value ∷ [])
  One (is CloseBrace)
  Nothing set

-- ---- clauses of an operator, each with a set for each argument

-- literal = number Symbol "^" set, for an argument behind those that have their sets, which are these
abbrev pub Literal : ℕ → Logic → ℕ → (Spelled → Bool) → List (List ℕ) → Grammar Spelled (List (List ℕ))
Literal n logic arity test sets = do
  argument ← NumberFrom (length sets + 1) arity BAD_ARGUMENT test
  One (is Caret)
  set ← Set n logic
  Nothing (padded (argument - 1) sets ++ set ∷ [])

-- "," literal
abbrev pub NextLiteral : ℕ → Logic → ℕ → List (List ℕ) → Grammar Spelled (List (List ℕ))
NextLiteral n logic arity sets = do
  One (is Comma)
  Literal n logic arity is_number sets

-- literal { "," literal }, where arguments that aren't written have the empty set
abbrev pub Literals : ℕ → Logic → ℕ → Grammar Spelled (List (List ℕ))
Literals n logic arity = Mapped (padded arity) (do
  sets ← Literal n logic arity is_argument []
  Growing (NextLiteral n logic arity) sets)

-- "0", which no Symbol ^ is behind
abbrev pub EmptyClause : ℕ → Grammar Spelled (List (List ℕ))
EmptyClause arity = Mapped (λ _. padded arity []) (One (is Zero))

-- clause = "0" | literal { "," literal }
abbrev pub Clause : ℕ → Logic → ℕ → Grammar Spelled (List (List ℕ))
Clause n logic arity = Either (EmptyClause arity) (Literals n logic arity)

-- ---- clauses of a quantifier, each with its `some` set and then its `all` sets

-- "all" set, or "some" set
abbrev pub SetBehind : Class → ℕ → Logic → Grammar Spelled (List ℕ)
SetBehind word n logic = do
  One (is word)
  Set n logic

-- "," "all" set, behind the `all` sets before it
abbrev pub NextAll : ℕ → Logic → List (List ℕ) → Grammar Spelled (List (List ℕ))
NextAll n logic all = do
  One (is Comma)
  Mapped (λ set. all ++ set ∷ []) (SetBehind AllWord n logic)

-- "," "some" set, behind the `all` sets
abbrev pub LastSome : ℕ → Logic → List (List ℕ) → Grammar Spelled (List (List ℕ))
LastSome n logic all = do
  One (is Comma)
  Mapped (λ some. some ∷ all) (SetBehind SomeWord n logic)

-- { "," "all" set } [ "," "some" set ], behind `all` sets; a `some` set that isn't written is empty
abbrev pub MoreSets : ℕ → Logic → List (List ℕ) → Grammar Spelled (List (List ℕ))
MoreSets n logic before = do
  all ← Growing (NextAll n logic) before
  Optional ([] ∷ all) (LastSome n logic all)

-- "all" set { "," "all" set } [ "," "some" set ]
abbrev pub AllSets : ℕ → Logic → Grammar Spelled (List (List ℕ))
AllSets n logic = do
  set ← SetBehind AllWord n logic
  MoreSets n logic (set ∷ [])

-- "some" set
abbrev pub SomeAlone : ℕ → Logic → Grammar Spelled (List (List ℕ))
SomeAlone n logic = Mapped (λ some. some ∷ []) (SetBehind SomeWord n logic)

-- "0", whatever is behind it
abbrev pub NoSets : Grammar Spelled (List (List ℕ))
NoSets = Mapped (λ _. [] ∷ []) (One is_zero)

-- clause = "0" | "all" set { "," "all" set } [ "," "some" set ] | "some" set
abbrev pub QuantifierClause : ℕ → Logic → Grammar Spelled (List (List ℕ))
QuantifierClause n logic = Either NoSets (Either (AllSets n logic) (SomeAlone n logic))

-- ---- lists of clauses, of one grammar

-- ";" clause, behind the clauses before it
abbrev pub NextClause : Grammar Spelled (List (List ℕ)) → List (List (List ℕ)) → Grammar Spelled (List (List (List ℕ)))
NextClause L clauses = do
  One (is Semicolon)
  Mapped (λ clause. clauses ++ clause ∷ []) L

-- [ clause { ";" clause } ]
abbrev pub Clauses : Grammar Spelled (List (List ℕ)) → Grammar Spelled (List (List (List ℕ)))
Clauses L = Optional [] (do
  clause ← L
  Growing (NextClause L) (clause ∷ []))

-- ---- rules

-- "operator" name "/" number, the name of an operator and its arity
abbrev pub OperatorHead : Logic → Grammar Spelled ℕ
OperatorHead logic = do
  One (is OperatorWord)
  op ← Mapped (operator_of logic) (Allowed is_name (λ t. fault_if (names_no_operator logic t) UNKNOWN_NAME))
  One (is Slash)
  NumberFrom (operator_at logic op).arity (operator_at logic op).arity WRONG_ARITY is_number
  Nothing op

-- "quantifier" name, the name of a quantifier
abbrev pub QuantifierHead : Logic → Grammar Spelled ℕ
QuantifierHead logic = do
  One (is QuantifierWord)
  Mapped (quantifier_of logic) (Allowed is_name (λ t. fault_if (names_no_quantifier logic t) UNKNOWN_NAME))

-- body = "at" set ":" "[" [ clause { ";" clause } ] "]" "."
abbrev pub Body : (n : ℕ) → Logic → Grammar Spelled (List (List ℕ)) → (List ℕ → List (List (List ℕ)) → Rule n) → Grammar Spelled (Rule n)
Body n logic L rule_of = do
  One (is AtWord)
  sign ← Set n logic
  One (is Colon)
  One (is OpenSquare)
  clauses ← Clauses L
  One (is CloseSquare)
  One (is Dot)
  Nothing (rule_of sign clauses)

-- "operator" name "/" number body, with clauses of the operator
abbrev pub OfOperator : (n : ℕ) → Logic → Grammar Spelled (Rule n)
OfOperator n logic = do
  op ← OperatorHead logic
  Body n logic (Clause n logic (operator_at logic op).arity) (operator_rule n op)

-- "quantifier" name body, with clauses of a quantifier
abbrev pub OfQuantifier : (n : ℕ) → Logic → Grammar Spelled (Rule n)
OfQuantifier n logic = do
  quant ← QuantifierHead logic
  Body n logic (QuantifierClause n logic) (quantifier_rule n quant)

-- rule = "rule" number ":" ( "operator" name "/" number body | "quantifier" name body ), with a number from `least` to `most`
abbrev pub OneRule : (n : ℕ) → Logic → ℕ → ℕ → Grammar Spelled (Numbered n)
OneRule n logic least most = do
  One (is RuleWord)
  number ← NumberFrom least most MISNUMBERED is_number
  One (is Colon)
  rule ← Either (OfOperator n logic) (OfQuantifier n logic)
  Nothing (record { number = number; rule = rule })

-- the next rule, whose number is its place, behind the rules before it
abbrev pub NextRule : (n : ℕ) → Logic → List (Rule n) → Grammar Spelled (List (Rule n))
NextRule n logic rules = Mapped (λ next. rules ++ next.rule ∷ []) (OneRule n logic (length rules + 1) (length rules + 1))

-- rules = { rule }
abbrev pub Rules : (n : ℕ) → Logic → Grammar Spelled (List (Rule n))
Rules n logic = Growing (NextRule n logic) []
