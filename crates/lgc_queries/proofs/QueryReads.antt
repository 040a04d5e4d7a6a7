-- The readers of queries read their grammar.
use Rattle.std.proofs.Common.{◌≡◌, ℕ, Bool, true, false, List, [], ◌∷◌, ◌++◌, refl}
use Rattle.std.specs.Prelude.{◌||◌}
use Rattle.lgc_grammar.specs.Grammar.{Grammar, Language, fault_if, Growing, PlainOne, PlainNothing, PlainThen, PlainMany, IsFront}
use Rattle.lgc_grammar.specs.Reading.{Reader}
use Rattle.lgc_grammar.proofs.Readers.{Reads, Must, May, never, or_right}
use Rattle.lgc_grammar.proofs.Basic.{map_reads, nothing_reads}
use Rattle.lgc_grammar.proofs.Sequences.{then_reads, then_reads_if}
use Rattle.lgc_grammar.proofs.Choices.{optional_reads}
use Rattle.lgc_grammar.proofs.RefusedTokens.{barred_reads}
use Rattle.lgc_grammar.proofs.GrowingTrees.{growing_reads}
use Rattle.lgc_grammar.proofs.SeenTokens.{seen_reads}
use Rattle.lgc_values.specs.Logic.{Logic}
use Rattle.lgc_syntax.specs.declared.fault.TheConstants.{WRONG_ARITY, UNKNOWN_VALUE, TOO_MANY_GOALS}
use Rattle.lgc_meaning.specs.declared.query.Query.{Query}
use Rattle.lgc_tokens.specs.declared.class.Class.{Class}
use Rattle.lgc_tokens.specs.declared.class.Class.TheVariants.{EntailWord, MixedWord, EquationWord, QuasiWord, Turnstile, Equals, Hash, OpenRound, OpenBrace, CloseBrace, Comma, Dot, Colon}
use Rattle.lgc_tokens.specs.declared.terminal.Terminal.TheVariants as terminal
use Rattle.lgc_tokens.specs.Classes as tokens
use Rattle.lgc_tokens.specs.Classes.{same, values}
use Rattle.lgc_tokens.proofs.Tables as tables
use Rattle.lgc_formulas.specs.declared.formula.Formulas.{Formulas}
use Rattle.lgc_formulas.specs.declared.role.Role.TheVariants.{Neither}
use Rattle.lgc_formulas.specs.declared.formula.TheConstants.{MOST_DEPTH, MOST_NODES}
use Rattle.lgc_formulas.specs.Named.{Named, begins_operator, quantifiers, predicates, is, starts_formula}
use Rattle.lgc_formulas.specs.Setting.{Setting, numbered}
use Rattle.lgc_formulas.specs.FormulaGrammar.{with_formula, OneFormula, CommaFormula, FormulaList}
use Rattle.lgc_formulas.specs.PlainFormulas.{PlainFormula, PlainCommaFormula, PlainFormulaList}
use Rattle.lgc_formulas.specs.FormulaReading.{one_formula_at, comma_formula_at, more_formulas_at, formula_list_at}
use Rattle.lgc_formulas.proofs.Tables.{off, off_class, with_role, operator_token, one}
use Rattle.lgc_formulas.proofs.FormulaReads.{a_formula, one_formula_reads}
use Rattle.lgc_formulas.proofs.FormulasSettle.{formulas_settle}
use Rattle.lgc_formulas.proofs.FormulaLists.{goes_on}
use Rattle.lgc_queries.specs.declared.read.Equations.{Equations}
use Rattle.lgc_queries.specs.Values.{value_of, names_no_value, with_value}
use Rattle.lgc_queries.specs.Goals.{has_too_many_goals}
use Rattle.lgc_queries.specs.QueryGrammar.{no_formulas, no_equations, equated, with_equation, entailment, mixed_entailment, equation, quasi_equation, Value, AddedValue, NextValue, SomeValues, ValueSet, NamedSet, SignBehind, Premises, EquationPhrase, CommaEquation, EquationList, EquationPremises, EntailQuery, MixedQuery, EquationQuery, QuasiQuery, OneQuery, QueryBefore, file_setting, QueryEnd, NextQuery, Queries}
use Rattle.lgc_queries.specs.PlainQueries.{PlainNextValue, PlainSomeValues, PlainValueSet, PlainNamedSet, PlainPremises, PlainEquation, PlainEquationList, PlainEntail, PlainMixed, PlainEquationQuery, PlainQuasi, PlainQuery, PlainQueries, ◌then◌}
use Rattle.lgc_queries.specs.QueryReading.{value_at, added_value_at, next_value_at, more_values_at, some_values_at, value_set_at, named_set_at, sign_behind_at, premises_at, equation_at, comma_equation_at, more_equations_at, equation_list_at, equation_premises_at, entail_query_at, mixed_query_at, equation_query_at, quasi_query_at, one_query_at, behind_query_at, query_before_at, query_end_at, next_query_at, queries_at}
use Rattle.lgc_queries.proofs.AmongWords.{ReadsAmong, goes_among, map_among, barred_among, then_among_if, then_among, either_among, list_among}

-- ---- sets of truth values

module _ (logic : Logic) where
  value_reads : Reads (value_at logic) (Value logic) (PlainOne tokens.is_value) (Must tokens.is_value) never
  unfolding value_at
  value_reads = map_reads (value_of logic) (tables.allowed terminal.Value (λ t. fault_if (names_no_value logic t) UNKNOWN_VALUE))

  added_value_reads : (set : List ℕ) → Reads (added_value_at logic set) (AddedValue logic set) (PlainOne tokens.is_value) (Must tokens.is_value) never
  unfolding added_value_at
  added_value_reads set = map_reads (with_value logic set) value_reads

  pub next_value_reads : (set : List ℕ) → Reads (next_value_at logic set) (NextValue logic set) PlainNextValue (Must (tokens.is Comma)) never
  unfolding next_value_at
  next_value_reads set = then_reads (tables.one Comma) (λ _. added_value_reads set)

  some_values_read : Reads (some_values_at logic) (SomeValues logic) PlainSomeValues (Must tokens.is_value) (λ t. tokens.is Comma t || never t)
  unfolding some_values_at more_values_at
  some_values_read = then_reads (added_value_reads []) (λ set. growing_reads next_value_reads (λ t h. refl) set)

  pub value_set_reads : Reads (value_set_at logic) (ValueSet logic) PlainValueSet (Must (tokens.is OpenBrace)) never
  unfolding value_set_at
  value_set_reads =
      then_reads (tables.one OpenBrace) (λ _.
      then_reads_if (optional_reads [] some_values_read) (λ set.
      then_reads (tables.one CloseBrace) (λ _.
      nothing_reads set never))
      (tables.off (same CloseBrace) (λ c. values c || (same Comma c || false)) refl))

  named_set_reads : Reads (named_set_at logic) (NamedSet logic) PlainNamedSet (Must (is OpenBrace)) never
  unfolding named_set_at
  named_set_reads = seen_reads (λ t. t.spelled) (with_role Neither) (λ t. refl) value_set_reads

-- ---- premises and equations

sign_behind_reads : (bare : Bool) (c : Class) → Reads (sign_behind_at bare c) (SignBehind bare c) (PlainOne (is c)) (Must (is c)) never
unfolding sign_behind_at
sign_behind_reads bare c = barred_reads bare WRONG_ARITY (one c) (λ t h. ([], (t, (h, refl))))

-- a turnstile neither begins nor follows the formulas of a list
off_premises : (b : Bool) (t : Named) → is Turnstile t ≡ true → (starts_formula b t || goes_on t) ≡ false
off_premises true = off (λ _ c. same Turnstile c) (λ r c. (begins_operator r c || (quantifiers r c || (same Hash c || predicates r c))) || (same Comma c || same OpenRound c)) (λ op. refl) (λ quant. refl) refl
off_premises false = off (λ _ c. same Turnstile c) (λ r c. (begins_operator r c || (quantifiers r c || predicates r c)) || (same Comma c || same OpenRound c)) (λ op. refl) (λ quant. refl) refl

pub one_formula_among : (s : Setting) (many : ℕ) → ReadsAmong (one_formula_at s many) (OneFormula s many) (PlainFormula (numbered s)) (Must (starts_formula (numbered s))) (is OpenRound)
unfolding one_formula_at
one_formula_among s many = record { reads = one_formula_reads s many; settles = formulas_settle s MOST_DEPTH [] many }

module _ (s : Setting) where
  -- ---- formulas in a row

  comma_begins : (t : Named) → is Comma t ≡ true → IsFront (PlainCommaFormula (numbered s)) (t ∷ [])
  comma_begins t h = (operator_token ∷ [], (t ∷ [], operator_token ∷ [], (t, (h, refl)), a_formula (numbered s), refl))

  comma_formula_among : (before : Formulas) → ReadsAmong (comma_formula_at (one_formula_at s) before) (CommaFormula (OneFormula s) before) (PlainCommaFormula (numbered s)) (Must (is Comma)) (is OpenRound)
  unfolding comma_formula_at
  comma_formula_among before = barred_among before.is_bare WRONG_ARITY (then_among (one Comma) (λ _. map_among (with_formula before.list) (one_formula_among s before.nodes_left))) comma_begins

  formula_list_among : (many : ℕ) → ReadsAmong (formula_list_at (one_formula_at s) many) (FormulaList (OneFormula s) many) (PlainFormulaList (numbered s)) (Must (starts_formula (numbered s))) goes_on
  unfolding formula_list_at more_formulas_at
  formula_list_among many = list_among comma_formula_among comma_begins (off_class (same Comma) (same OpenRound) refl) (map_among (with_formula []) (one_formula_among s many))

  abbrev begins_premises : Named → Bool
  begins_premises t = starts_formula (numbered s) t || is Turnstile t

  pub premises_read : (many : ℕ) → Reads (premises_at s many) (Premises s many) (PlainPremises (PlainFormulaList (numbered s))) (Must begins_premises) never
  unfolding premises_at
  premises_read many =
      then_reads_if (optional_reads (no_formulas many) ((formula_list_among many).reads)) (λ premises.
      then_reads (sign_behind_reads premises.is_bare Turnstile) (λ _.
      nothing_reads premises never))
      (off_premises (numbered s))

  -- ---- equations

  pub equation_among : (many : ℕ) → ReadsAmong (equation_at s many) (EquationPhrase s many) (PlainEquation (numbered s)) (Must (starts_formula (numbered s))) (is OpenRound)
  unfolding equation_at
  equation_among many =
      then_among_if (one_formula_reads s many) (λ left.
      then_among (sign_behind_reads left.is_bare Equals) (λ _.
      map_among (equated left.formula) (one_formula_among s left.nodes_left)))
      (off_class (same Equals) (same OpenRound) refl)

  equation_reads : (many : ℕ) → Reads (equation_at s many) (EquationPhrase s many) (PlainEquation (numbered s)) (Must (starts_formula (numbered s))) (is OpenRound)
  equation_reads many = (equation_among many).reads

  pub comma_equation_reads : (before : Equations) → Reads (comma_equation_at s before) (CommaEquation s before) (Comma then PlainEquation (numbered s)) (Must (is Comma)) (is OpenRound)
  unfolding comma_equation_at
  comma_equation_reads before =
      then_reads (sign_behind_reads before.is_bare Comma) (λ _.
      map_reads (with_equation before.list) (equation_reads before.nodes_left))

  more_equations_read : (before : Equations) → Reads (more_equations_at s before) (Growing (CommaEquation s) before) (PlainMany (Comma then PlainEquation (numbered s))) (May (is Comma)) goes_on
  unfolding more_equations_at
  more_equations_read before = growing_reads comma_equation_reads (off_class (same Comma) (same OpenRound) refl) before

  equation_list_reads : (many : ℕ) → Reads (equation_list_at s many) (EquationList s many) (PlainEquationList (numbered s)) (Must (starts_formula (numbered s))) goes_on
  unfolding equation_list_at
  equation_list_reads many =
      then_reads_if (map_reads (with_equation []) (equation_reads many)) (λ first.
      more_equations_read first)
      ((off_class (same Comma) (same OpenRound) refl), (λ t h. or_right (is Comma t) (is OpenRound t) h))

  pub equation_premises_read : (many : ℕ) → Reads (equation_premises_at s many) (EquationPremises s many) (PlainPremises (PlainEquationList (numbered s))) (Must begins_premises) never
  unfolding equation_premises_at
  equation_premises_read many =
      then_reads_if (optional_reads (no_equations many) (equation_list_reads many)) (λ premises.
      then_reads (sign_behind_reads premises.is_bare Turnstile) (λ _.
      nothing_reads premises never))
      (off_premises (numbered s))

  -- ---- the four kinds of queries

  entail_query_among : (many : ℕ) → ReadsAmong (entail_query_at s many) (EntailQuery s many) (PlainEntail (numbered s)) (Must (is EntailWord)) (is OpenRound)
  unfolding entail_query_at
  entail_query_among many =
      then_among (one EntailWord) (λ _.
      then_among (premises_read many) (λ premises.
      map_among (entailment s.logic premises.list) (one_formula_among s premises.nodes_left)))

  mixed_query_among : (many : ℕ) → ReadsAmong (mixed_query_at s many) (MixedQuery s many) (PlainMixed (numbered s)) (Must (is MixedWord)) goes_on
  unfolding mixed_query_at
  mixed_query_among many =
      then_among (one MixedWord) (λ _.
      then_among (named_set_reads s.logic) (λ given.
      then_among (one Comma) (λ _.
      then_among (named_set_reads s.logic) (λ wanted.
      then_among (one Colon) (λ _.
      then_among (premises_read many) (λ premises.
      map_among (mixed_entailment given wanted premises.list) (formula_list_among premises.nodes_left)))))))

  equation_query_among : (many : ℕ) → ReadsAmong (equation_query_at s many) (EquationQuery s many) (PlainEquationQuery (numbered s)) (Must (is EquationWord)) (is OpenRound)
  unfolding equation_query_at
  equation_query_among many = then_among (one EquationWord) (λ _. map_among equation (equation_among many))

  quasi_query_among : (many : ℕ) → ReadsAmong (quasi_query_at s many) (QuasiQuery s many) (PlainQuasi (numbered s)) (Must (is QuasiWord)) (is OpenRound)
  unfolding quasi_query_at
  quasi_query_among many =
      then_among (one QuasiWord) (λ _.
      then_among (equation_premises_read many) (λ premises.
      map_among (quasi_equation premises.list) (equation_among premises.nodes_left)))

-- ---- queries

-- a test of a token as one of its class
abbrev starts_query : Named → Bool
starts_query t = tokens.starts_query t.spelled

-- what goes on no list goes on no query
ends_query : (t : Named) → goes_on t ≡ false → (is OpenRound t || (goes_on t || (is OpenRound t || is OpenRound t))) ≡ false
ends_query t h = by (is Comma t) (is OpenRound t) h
  where
    by : (comma bracket : Bool) → (comma || bracket) ≡ false → (bracket || ((comma || bracket) || (bracket || bracket))) ≡ false
    by false false e = refl
    by false true e = absurd cc
    by true bracket e = absurd cc

pub one_query_among : (s : Setting) (many : ℕ) → ReadsAmong (one_query_at s many) (OneQuery s many) (PlainQuery (numbered s)) (Must starts_query) goes_on
unfolding one_query_at
one_query_among s many =
    goes_among
    (either_among (entail_query_among s many)
    (either_among (mixed_query_among s many)
    (either_among (equation_query_among s many) (quasi_query_among s many)
    (off_class (same QuasiWord) (same EquationWord) refl))
    (off_class (λ c. same EquationWord c || same QuasiWord c) (same MixedWord) refl))
    (off_class (λ c. same MixedWord c || (same EquationWord c || same QuasiWord c)) (same EntailWord) refl))
    goes_on ends_query

pub one_query_reads : (s : Setting) (many : ℕ) → Reads (one_query_at s many) (OneQuery s many) (PlainQuery (numbered s)) (Must starts_query) goes_on
one_query_reads s many = (one_query_among s many).reads

-- What is read behind a query, where it begins with tokens that can't go on a query: each of them begins a plain phrase.
pub query_before_reads : {A : Type 0} (s : Setting) (many : ℕ) (follows : Named → Bool) {q : Query → Reader Named A} {M : Query → Grammar Named A} {Q : Language Named} {next : Named → Bool} → ((query : Query) → Reads (q query) (M query) Q (Must follows) next) → ((t : Named) → follows t ≡ true → IsFront Q (t ∷ [])) → ((t : Named) → follows t ≡ true → goes_on t ≡ false) → Reads (query_before_at s many follows q) (QueryBefore s many follows M) (PlainThen (PlainQuery (numbered s)) Q) (Must starts_query) next
unfolding query_before_at behind_query_at
query_before_reads s many follows behind each_token ends =
    then_reads_if (one_query_reads s many) (λ x.
    barred_reads x.is_bare WRONG_ARITY (barred_reads (has_too_many_goals s.logic.size x.query) TOO_MANY_GOALS (behind x.query) each_token) each_token)
    ends

-- ---- query files

query_end_reads : (queries : List Query) (query : Query) → Reads (query_end_at queries query) (QueryEnd queries query) (Dot then PlainNothing) (Must (is Dot)) never
unfolding query_end_at
query_end_reads queries query = then_reads (one Dot) (λ _. nothing_reads (queries ++ query ∷ []) never)

pub next_query_reads : (logic : Logic) (queries : List Query) → Reads (next_query_at logic queries) (NextQuery logic queries) (PlainThen (PlainQuery false) (Dot then PlainNothing)) (Must starts_query) never
unfolding next_query_at
next_query_reads logic queries =
    query_before_reads (file_setting logic) MOST_NODES (is Dot) (query_end_reads queries)
    (λ t h. ([], (t ∷ [], [], (t, (h, refl)), refl, refl)))
    (off_class (same Dot) (λ c. same Comma c || same OpenRound c) refl)

pub queries_read : (logic : Logic) → Reads (queries_at logic) (Queries logic) PlainQueries (May starts_query) (λ t. starts_query t || never t)
unfolding queries_at
queries_read logic = growing_reads (next_query_reads logic) (λ t h. refl) []
