-- The readers of queries, line by line as their grammar.
use Rattle.std.specs.Prelude.{ℕ, Bool, true, List, [], ◌∷◌, ◌++◌}
use Rattle.lgc_grammar.specs.Grammar.{fault_if}
use Rattle.lgc_grammar.specs.Reading.{Reader, one_at, allowed_at, barred_at, nothing_at, map_at, ◌>>=◌, ◌>>◌, either_at, optional_at, growing_at}
use Rattle.lgc_grammar.specs.Seen.{seen_at}
use Rattle.lgc_values.specs.Logic.{Logic}
use Rattle.lgc_syntax.specs.declared.fault.TheConstants.{WRONG_ARITY, UNKNOWN_VALUE, TOO_MANY_GOALS}
use Rattle.lgc_meaning.specs.declared.query.Query.{Query}
use Rattle.lgc_tokens.specs.declared.class.Class.{Class}
use Rattle.lgc_tokens.specs.declared.class.Class.TheVariants.{EntailWord, MixedWord, EquationWord, QuasiWord, Turnstile, Equals, OpenBrace, CloseBrace, Comma, Dot, Colon}
use Rattle.lgc_tokens.specs.Spelled.{Spelled}
use Rattle.lgc_tokens.specs.Classes as tokens
use Rattle.lgc_formulas.specs.declared.formula.Formulas.{Formulas}
use Rattle.lgc_formulas.specs.declared.formula.TheConstants.{MOST_NODES}
use Rattle.lgc_formulas.specs.Named.{Named, is, starts_formula}
use Rattle.lgc_formulas.specs.Setting.{Setting, numbered}
use Rattle.lgc_formulas.specs.FormulaReading.{one_formula_at, formula_list_at}
use Rattle.lgc_queries.specs.declared.read.EquationRead.{EquationRead}
use Rattle.lgc_queries.specs.declared.read.Equations.{Equations}
use Rattle.lgc_queries.specs.declared.read.QueryRead.{QueryRead}
use Rattle.lgc_queries.specs.Values.{value_of, names_no_value, with_value}
use Rattle.lgc_queries.specs.Goals.{has_too_many_goals}
use Rattle.lgc_queries.specs.QueryGrammar.{no_formulas, no_equations, equated, with_equation, entailment, mixed_entailment, equation, quasi_equation, file_setting}

-- ---- sets of truth values

unfoldable pub value_at : Logic → Reader Spelled ℕ
value_at logic ts = map_at (value_of logic) (allowed_at tokens.is_value (λ t. fault_if (names_no_value logic t) UNKNOWN_VALUE)) ts

-- a value that is added to a set
unfoldable pub added_value_at : Logic → List ℕ → Reader Spelled (List ℕ)
added_value_at logic set ts = map_at (with_value logic set) (value_at logic) ts

unfoldable pub next_value_at : Logic → List ℕ → Reader Spelled (List ℕ)
next_value_at logic set = do
  one_at (tokens.is Comma)
  added_value_at logic set

-- values behind those of a set
unfoldable pub more_values_at : Logic → List ℕ → Reader Spelled (List ℕ)
more_values_at logic set ts = growing_at (tokens.is Comma) (next_value_at logic) set ts

-- one value or more
unfoldable pub some_values_at : Logic → Reader Spelled (List ℕ)
some_values_at logic = do
  set ← added_value_at logic []
  more_values_at logic set

unfoldable pub value_set_at : Logic → Reader Spelled (List ℕ)
value_set_at logic = do
  one_at (tokens.is OpenBrace)
  set ← optional_at tokens.is_value [] (some_values_at logic)
  one_at (tokens.is CloseBrace)
  nothing_at set

-- the same among tokens as the logic knows them
unfoldable pub named_set_at : Logic → Reader Named (List ℕ)
named_set_at logic ts = seen_at (λ t. t.spelled) (value_set_at logic) ts

-- ---- premises and equations, where `many` nodes are left

-- a token of the class behind a formula, which it bars where that is bare
unfoldable pub sign_behind_at : Bool → Class → Reader Named Named
sign_behind_at bare c ts = barred_at bare (is c) WRONG_ARITY (one_at (is c)) ts

module _ (s : Setting) where
  unfoldable pub premises_at : ℕ → Reader Named Formulas
  premises_at many = do
    premises ← optional_at (starts_formula (numbered s)) (no_formulas many) (formula_list_at (one_formula_at s) many)
    sign_behind_at premises.is_bare Turnstile
    nothing_at premises

  unfoldable pub equation_at : ℕ → Reader Named EquationRead
  equation_at many = do
    left ← one_formula_at s many
    sign_behind_at left.is_bare Equals
    map_at (equated left.formula) (one_formula_at s left.nodes_left)

  unfoldable pub comma_equation_at : Equations → Reader Named Equations
  comma_equation_at before = do
    sign_behind_at before.is_bare Comma
    map_at (with_equation before.list) (equation_at before.nodes_left)

  -- equations behind these
  unfoldable pub more_equations_at : Equations → Reader Named Equations
  more_equations_at before ts = growing_at (is Comma) comma_equation_at before ts

  unfoldable pub equation_list_at : ℕ → Reader Named Equations
  equation_list_at many = do
    first ← map_at (with_equation []) (equation_at many)
    more_equations_at first

  unfoldable pub equation_premises_at : ℕ → Reader Named Equations
  equation_premises_at many = do
    premises ← optional_at (starts_formula (numbered s)) (no_equations many) (equation_list_at many)
    sign_behind_at premises.is_bare Turnstile
    nothing_at premises

  -- ---- the four kinds of queries

  unfoldable pub entail_query_at : ℕ → Reader Named QueryRead
  entail_query_at many = do
    one_at (is EntailWord)
    premises ← premises_at many
    map_at (entailment s.logic premises.list) (one_formula_at s premises.nodes_left)

  unfoldable pub mixed_query_at : ℕ → Reader Named QueryRead
  mixed_query_at many = do
    one_at (is MixedWord)
    given ← named_set_at s.logic
    one_at (is Comma)
    wanted ← named_set_at s.logic
    one_at (is Colon)
    premises ← premises_at many
    map_at (mixed_entailment given wanted premises.list) (formula_list_at (one_formula_at s) premises.nodes_left)

  unfoldable pub equation_query_at : ℕ → Reader Named QueryRead
  equation_query_at many = do
    one_at (is EquationWord)
    map_at equation (equation_at many)

  unfoldable pub quasi_query_at : ℕ → Reader Named QueryRead
  quasi_query_at many = do
    one_at (is QuasiWord)
    premises ← equation_premises_at many
    map_at (quasi_equation premises.list) (equation_at premises.nodes_left)

-- ---- queries

-- a query where `many` nodes are left, whose last formula may be bare
unfoldable pub one_query_at : Setting → ℕ → Reader Named QueryRead
one_query_at s many ts =
    either_at (is EntailWord) (entail_query_at s many)
    (either_at (is MixedWord) (mixed_query_at s many)
    (either_at (is EquationWord) (equation_query_at s many)
    (quasi_query_at s many))) ts

-- what is read behind a query, where a token that passes `follows` has to be next
unfoldable pub behind_query_at : {A : Type 0} → ℕ → (Named → Bool) → (Query → Reader Named A) → QueryRead → Reader Named A
behind_query_at n follows q x ts = barred_at x.is_bare follows WRONG_ARITY (barred_at (has_too_many_goals n x.query) follows TOO_MANY_GOALS (q x.query)) ts

-- a query, and what q reads behind it
unfoldable pub query_before_at : {A : Type 0} → Setting → ℕ → (Named → Bool) → (Query → Reader Named A) → Reader Named A
query_before_at s many follows q = do
  x ← one_query_at s many
  behind_query_at s.logic.size follows q x

-- a query in a larger text of which nothing is known: any token could go on behind it
unfoldable pub query_here_at : Setting → ℕ → Reader Named Query
query_here_at s many = do
  x ← one_query_at s many
  barred_at x.is_bare (λ _. true) WRONG_ARITY (nothing_at x.query)

-- ---- query files

unfoldable pub query_end_at : List Query → Query → Reader Named (List Query)
query_end_at queries query = do
  one_at (is Dot)
  nothing_at (queries ++ query ∷ [])

unfoldable pub next_query_at : Logic → List Query → Reader Named (List Query)
next_query_at logic queries ts = query_before_at (file_setting logic) MOST_NODES (is Dot) (query_end_at queries) ts

unfoldable pub queries_at : Logic → Reader Named (List Query)
queries_at logic ts = growing_at (λ t. tokens.starts_query t.spelled) (next_query_at logic) [] ts
