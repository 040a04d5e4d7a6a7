-- The grammar of queries, line by line. It says which trees the phrases have that keep every rule, and which rule the last token breaks
-- where one is broken.
--
-- A query is read against a setting, as formulas are, and the nodes that are left ride through all of its formulas. Where a formula is
-- bare, the name of an operator with arguments alone, it is barred by each token that may follow it at its place. What may follow a
-- query depends on the text that it stands in, so whoever reads on behind a query bars it where its last formula is bare.
use Rattle.std.specs.Prelude.{ℕ, Bool, false, List, [], ◌∷◌, ◌++◌, None}
use Rattle.lgc_grammar.specs.Grammar.{Grammar, One, fault_if, Allowed, Barred, Nothing, Mapped, ◌>>=◌, ◌>>◌, Either, Optional, Growing}
use Rattle.lgc_grammar.specs.Seen.{Seen}
use Rattle.lgc_values.specs.Values.{mask_of}
use Rattle.lgc_values.specs.Logic.{Logic}
use Rattle.lgc_syntax.specs.declared.fault.TheConstants.{WRONG_ARITY, UNKNOWN_VALUE, TOO_MANY_GOALS}
use Rattle.lgc_syntax.specs.declared.formula.Formula.{Formula}
use Rattle.lgc_meaning.specs.declared.query.Pair.{Pair}
use Rattle.lgc_meaning.specs.declared.query.Query.{Query}
use Rattle.lgc_meaning.specs.declared.query.Query.TheVariants.{Mixed, Equation, Quasi}
use Rattle.lgc_tokens.specs.declared.class.Class.{Class}
use Rattle.lgc_tokens.specs.declared.class.Class.TheVariants.{EntailWord, MixedWord, EquationWord, QuasiWord, Turnstile, Equals, OpenBrace, CloseBrace, Comma, Dot, Colon}
use Rattle.lgc_tokens.specs.Spelled.{Spelled}
use Rattle.lgc_tokens.specs.Classes as tokens
use Rattle.lgc_formulas.specs.declared.formula.Formulas.{Formulas}
use Rattle.lgc_formulas.specs.declared.formula.Read.{Read}
use Rattle.lgc_formulas.specs.declared.formula.TheConstants.{MOST_NODES}
use Rattle.lgc_formulas.specs.Named.{Named, is}
use Rattle.lgc_formulas.specs.Setting.{Setting, setting_with}
use Rattle.lgc_formulas.specs.FormulaGrammar.{OneFormula, FormulaList}
use Rattle.lgc_queries.specs.declared.read.EquationRead.{EquationRead}
use Rattle.lgc_queries.specs.declared.read.Equations.{Equations}
use Rattle.lgc_queries.specs.declared.read.QueryRead.{QueryRead}
use Rattle.lgc_queries.specs.Values.{value_of, names_no_value, with_value}
use Rattle.lgc_queries.specs.Goals.{has_too_many_goals}

-- ---- sets of truth values, as rising lists

-- value = Lower | Upper | Digits | Quoted | Symbol, the name of a truth value
abbrev pub Value : Logic → Grammar Spelled ℕ
Value logic = Mapped (value_of logic) (Allowed tokens.is_value (λ t. fault_if (names_no_value logic t) UNKNOWN_VALUE))

-- value, which is added to a set
abbrev pub AddedValue : Logic → List ℕ → Grammar Spelled (List ℕ)
AddedValue logic set = Mapped (with_value logic set) (Value logic)

-- "," value
abbrev pub NextValue : Logic → List ℕ → Grammar Spelled (List ℕ)
NextValue logic set = do
  One (tokens.is Comma)
  AddedValue logic set

-- value { "," value }
abbrev pub SomeValues : Logic → Grammar Spelled (List ℕ)
SomeValues logic = do
  set ← AddedValue logic []
  Growing (NextValue logic) set

-- qset = "{" [ value { "," value } ] "}"
abbrev pub ValueSet : Logic → Grammar Spelled (List ℕ)
ValueSet logic = do
  One (tokens.is OpenBrace)
  set ← Optional [] (SomeValues logic)
  One (tokens.is CloseBrace)
  Nothing set

-- the same among tokens as the logic knows them
abbrev pub NamedSet : Logic → Grammar Named (List ℕ)
NamedSet logic = Seen (λ t. t.spelled) (ValueSet logic)

-- ---- trees of queries

-- no formulas, before a turnstile
abbrev pub no_formulas : ℕ → Formulas
no_formulas many = record { list = []; nodes_left = many; is_bare = false }

-- no equations, before a turnstile
abbrev pub no_equations : ℕ → Equations
no_equations many = record { list = []; nodes_left = many; is_bare = false }

-- a left side and a right side
abbrev pub equated : Formula → Read → EquationRead
equated left right = record { pair = record { left = left; right = right.formula }; nodes_left = right.nodes_left; is_bare = right.is_bare }

-- an equation behind others
abbrev pub with_equation : List Pair → EquationRead → Equations
with_equation before x = record { list = before ++ x.pair ∷ []; nodes_left = x.nodes_left; is_bare = x.is_bare }

-- an entailment: one conclusion takes a designated value where all premises do
abbrev pub entailment : Logic → List Formula → Read → QueryRead
entailment logic premises x = record { query = Mixed (mask_of logic.designated) (mask_of logic.designated) premises (x.formula ∷ []); is_bare = x.is_bare }

-- a mixed entailment from one set to another
abbrev pub mixed_entailment : List ℕ → List ℕ → List Formula → Formulas → QueryRead
mixed_entailment given wanted premises conclusions = record { query = Mixed (mask_of given) (mask_of wanted) premises conclusions.list; is_bare = conclusions.is_bare }

-- an equation alone
abbrev pub equation : EquationRead → QueryRead
equation x = record { query = Equation x.pair; is_bare = x.is_bare }

-- a quasi-equation
abbrev pub quasi_equation : List Pair → EquationRead → QueryRead
quasi_equation premises x = record { query = Quasi premises x.pair; is_bare = x.is_bare }

-- ---- premises and equations, where `many` nodes are left

-- a token of the class behind a formula, which it bars where that is bare
abbrev pub SignBehind : Bool → Class → Grammar Named Named
SignBehind bare c = Barred bare (is c) WRONG_ARITY (One (is c))

module _ (s : Setting) where
  -- [ formula { "," formula } ] turnstile
  abbrev pub Premises : ℕ → Grammar Named Formulas
  Premises many = do
    premises ← Optional (no_formulas many) (FormulaList (OneFormula s) many)
    SignBehind premises.is_bare Turnstile
    Nothing premises

  -- equation = formula "=" formula
  abbrev pub EquationPhrase : ℕ → Grammar Named EquationRead
  EquationPhrase many = do
    left ← OneFormula s many
    SignBehind left.is_bare Equals
    Mapped (equated left.formula) (OneFormula s left.nodes_left)

  -- "," equation, behind these
  abbrev pub CommaEquation : Equations → Grammar Named Equations
  CommaEquation before = do
    SignBehind before.is_bare Comma
    Mapped (with_equation before.list) (EquationPhrase before.nodes_left)

  -- equation { "," equation }
  abbrev pub EquationList : ℕ → Grammar Named Equations
  EquationList many = do
    first ← Mapped (with_equation []) (EquationPhrase many)
    Growing CommaEquation first

  -- [ equation { "," equation } ] turnstile
  abbrev pub EquationPremises : ℕ → Grammar Named Equations
  EquationPremises many = do
    premises ← Optional (no_equations many) (EquationList many)
    SignBehind premises.is_bare Turnstile
    Nothing premises

  -- ---- the four kinds of queries

  -- "entail" [ formula { "," formula } ] turnstile formula
  abbrev pub EntailQuery : ℕ → Grammar Named QueryRead
  EntailQuery many = do
    One (is EntailWord)
    premises ← Premises many
    Mapped (entailment s.logic premises.list) (OneFormula s premises.nodes_left)

  -- "mixed" qset "," qset ":" [ formula { "," formula } ] turnstile formula { "," formula }
  abbrev pub MixedQuery : ℕ → Grammar Named QueryRead
  MixedQuery many = do
    One (is MixedWord)
    given ← NamedSet s.logic
    One (is Comma)
    wanted ← NamedSet s.logic
    One (is Colon)
    premises ← Premises many
    Mapped (mixed_entailment given wanted premises.list) (FormulaList (OneFormula s) premises.nodes_left)

  -- "equation" equation
  abbrev pub EquationQuery : ℕ → Grammar Named QueryRead
  EquationQuery many = do
    One (is EquationWord)
    Mapped equation (EquationPhrase many)

  -- "quasi" [ equation { "," equation } ] turnstile equation
  abbrev pub QuasiQuery : ℕ → Grammar Named QueryRead
  QuasiQuery many = do
    One (is QuasiWord)
    premises ← EquationPremises many
    Mapped (quasi_equation premises.list) (EquationPhrase premises.nodes_left)

-- ---- queries

-- query = "entail" [ formula { "," formula } ] turnstile formula
--       | "mixed" qset "," qset ":" [ formula { "," formula } ] turnstile formula { "," formula }
--       | "equation" equation
--       | "quasi" [ equation { "," equation } ] turnstile equation,
-- where `many` nodes are left; its last formula may be bare
abbrev pub OneQuery : Setting → ℕ → Grammar Named QueryRead
OneQuery s many =
    Either (EntailQuery s many)
    (Either (MixedQuery s many)
    (Either (EquationQuery s many)
    (QuasiQuery s many)))

-- A query, and behind it a phrase of M, which begins with a token that passes `follows`. Where the last formula is bare, such a token
-- breaks the rule of the number of arguments, and else, where the query has too many goals, that of their number.
abbrev pub QueryBefore : {A : Type 0} → Setting → ℕ → (Named → Bool) → (Query → Grammar Named A) → Grammar Named A
QueryBefore s many follows M = do
  x ← OneQuery s many
  Barred x.is_bare follows WRONG_ARITY (Barred (has_too_many_goals s.logic.size x.query) follows TOO_MANY_GOALS (M x.query))

-- ---- query files

-- what the formulas of a query file are read against: quantifiers may not stand, and no formula has a number
abbrev pub file_setting : Logic → Setting
file_setting logic = setting_with logic false None

-- ".", which ends a query behind these
abbrev pub QueryEnd : List Query → Query → Grammar Named (List Query)
QueryEnd queries query = do
  One (is Dot)
  Nothing (queries ++ query ∷ [])

-- query ".", behind these
abbrev pub NextQuery : Logic → List Query → Grammar Named (List Query)
NextQuery logic queries = QueryBefore (file_setting logic) MOST_NODES (is Dot) (QueryEnd queries)

-- queries = { query "." }
abbrev pub Queries : Logic → Grammar Named (List Query)
Queries logic = Growing (NextQuery logic) []
