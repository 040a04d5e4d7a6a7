-- Which rules the tokens of queries can break.
use Rattle.std.proofs.Common.{ℕ, Bool, List, [], inl, inr, arith}
use Rattle.lgc_grammar.specs.Grammar.{Grammar}
use Rattle.lgc_grammar.proofs.BrokenRules.{Only, only_one, only_nothing, only_allowed, only_barred, only_seen, only_mapped, only_then, only_either, only_growing}
use Rattle.lgc_values.specs.Logic.{Logic}
use Rattle.lgc_syntax.specs.declared.fault.TheConstants.{WRONG_ARITY, UNKNOWN_VALUE, TOO_MANY_GOALS}
use Rattle.lgc_meaning.specs.declared.query.Query.{Query}
use Rattle.lgc_tokens.specs.declared.class.Class.{Class}
use Rattle.lgc_tokens.specs.declared.class.Class.TheVariants.{Turnstile, Equals, Comma, Dot}
use Rattle.lgc_tokens.specs.Classes as tokens
use Rattle.lgc_formulas.specs.declared.formula.TheConstants.{MOST_DEPTH, MOST_NODES}
use Rattle.lgc_formulas.specs.Named.{Named, is}
use Rattle.lgc_formulas.specs.Setting.{Setting, numbered}
use Rattle.lgc_formulas.specs.Faults.{IsFormulaFault}
use Rattle.lgc_formulas.specs.FormulaGrammar.{with_formula, OneFormula, FormulaList}
use Rattle.lgc_formulas.proofs.FaultNumbers.{formula_only}
use Rattle.lgc_queries.specs.Values.{value_of, names_no_value, with_value}
use Rattle.lgc_queries.specs.Goals.{has_too_many_goals}
use Rattle.lgc_queries.specs.QueryGrammar.{no_formulas, no_equations, equated, with_equation, entailment, mixed_entailment, equation, quasi_equation, AddedValue, ValueSet, NamedSet, SignBehind, Premises, EquationPhrase, EquationList, EquationPremises, EntailQuery, MixedQuery, EquationQuery, QuasiQuery, OneQuery, QueryBefore, file_setting, Queries}
use Rattle.lgc_queries.specs.QueryFile.{IsFileFault}
use Rattle.lgc_queries.specs.QueryPlace.{IsPlaceFault}

-- a property that follows
pub wider : {T A : Type 0} {Q R : ℕ → Type 0} {L : Grammar T A} → ((n : ℕ) → Q n → R n) → Only Q L → Only R L
wider follows g = record { only = λ n ts h. follows n (g.only n ts h) }

-- ---- of a property of the numbers of formulas

module _ {Q : ℕ → Type 0} (of_value : Q UNKNOWN_VALUE) (of_arity : Q WRONG_ARITY) where
  module _ (logic : Logic) where
    added_value_only : (set : List ℕ) → Only Q (AddedValue logic set)
    added_value_only set = only_mapped (with_value logic set) (only_mapped (value_of logic) (only_allowed tokens.is_value (names_no_value logic) UNKNOWN_VALUE of_value))

    value_set_only : Only Q (ValueSet logic)
    value_set_only =
        only_then (only_one _) (λ _.
        only_then
        (only_either
        (only_then (added_value_only []) (λ set. only_growing set (λ before. only_then (only_one _) (λ _. added_value_only before))))
        (only_nothing []))
        (λ set. only_then (only_one _) (λ _. only_nothing set)))

    named_set_only : Only Q (NamedSet logic)
    named_set_only = only_seen (λ (t : Named). t.spelled) value_set_only

  sign_behind_only : (bare : Bool) (c : Class) → Only Q (SignBehind bare c)
  sign_behind_only bare c = only_barred bare (is c) WRONG_ARITY of_arity (only_one (is c))

  module _ (s : Setting) (of_formula : (n : ℕ) → IsFormulaFault s n → Q n) where
    each : (many : ℕ) → Only Q (OneFormula s many)
    each many = wider of_formula (formula_only s MOST_DEPTH [] many)

    formula_list_only : (many : ℕ) → Only Q (FormulaList (OneFormula s) many)
    formula_list_only many =
        only_then (only_mapped (with_formula []) (each many)) (λ first.
        only_growing first (λ before. only_barred before.is_bare (is Comma) WRONG_ARITY of_arity (only_then (only_one _) (λ _. only_mapped (with_formula before.list) (each before.nodes_left)))))

    premises_only : (many : ℕ) → Only Q (Premises s many)
    premises_only many =
        only_then (only_either (formula_list_only many) (only_nothing (no_formulas many))) (λ premises.
        only_then (sign_behind_only premises.is_bare Turnstile) (λ _. only_nothing premises))

    equation_only : (many : ℕ) → Only Q (EquationPhrase s many)
    equation_only many =
        only_then (each many) (λ left.
        only_then (sign_behind_only left.is_bare Equals) (λ _. only_mapped (equated left.formula) (each left.nodes_left)))

    equation_list_only : (many : ℕ) → Only Q (EquationList s many)
    equation_list_only many =
        only_then (only_mapped (with_equation []) (equation_only many)) (λ first.
        only_growing first (λ before. only_then (sign_behind_only before.is_bare Comma) (λ _. only_mapped (with_equation before.list) (equation_only before.nodes_left))))

    equation_premises_only : (many : ℕ) → Only Q (EquationPremises s many)
    equation_premises_only many =
        only_then (only_either (equation_list_only many) (only_nothing (no_equations many))) (λ premises.
        only_then (sign_behind_only premises.is_bare Turnstile) (λ _. only_nothing premises))

    entail_query_only : (many : ℕ) → Only Q (EntailQuery s many)
    entail_query_only many =
        only_then (only_one _) (λ _.
        only_then (premises_only many) (λ premises. only_mapped (entailment s.logic premises.list) (each premises.nodes_left)))

    mixed_query_only : (many : ℕ) → Only Q (MixedQuery s many)
    mixed_query_only many =
        only_then (only_one _) (λ _.
        only_then (named_set_only s.logic) (λ given.
        only_then (only_one _) (λ _.
        only_then (named_set_only s.logic) (λ wanted.
        only_then (only_one _) (λ _.
        only_then (premises_only many) (λ premises. only_mapped (mixed_entailment given wanted premises.list) (formula_list_only premises.nodes_left)))))))

    equation_query_only : (many : ℕ) → Only Q (EquationQuery s many)
    equation_query_only many = only_then (only_one _) (λ _. only_mapped equation (equation_only many))

    quasi_query_only : (many : ℕ) → Only Q (QuasiQuery s many)
    quasi_query_only many =
        only_then (only_one _) (λ _.
        only_then (equation_premises_only many) (λ premises. only_mapped (quasi_equation premises.list) (equation_only premises.nodes_left)))

    query_only : (many : ℕ) → Only Q (OneQuery s many)
    query_only many =
        only_either (entail_query_only many)
        (only_either (mixed_query_only many)
        (only_either (equation_query_only many)
        (quasi_query_only many)))

    pub query_before_only : {A : Type 0} (many : ℕ) (follows : Named → Bool) {M : Query → Grammar Named A} → Q TOO_MANY_GOALS → ((query : Query) → Only Q (M query)) → Only Q (QueryBefore s many follows M)
    query_before_only many follows of_goals behind =
        only_then (query_only many) (λ x.
        only_barred x.is_bare follows WRONG_ARITY of_arity (only_barred (has_too_many_goals s.logic.size x.query) follows TOO_MANY_GOALS of_goals (behind x.query)))

-- ---- their numbers

-- a query among tokens: 5 to 10, 13 where quantifiers may not stand, and 15 where formulas have numbers
pub place_only : (s : Setting) (many : ℕ) → Only (IsPlaceFault s) (OneQuery s many)
place_only s many = query_only (inl (omega arith, omega arith)) (inl (omega arith, omega arith)) s by many
  where
    by : (n : ℕ) → IsFormulaFault s n → IsPlaceFault s n
    by n (inl (low, high)) = inl (omega arith, omega arith)
    by n (inr h) = inr h

-- a query file: 5 to 10, 13 and 14
pub file_only : (logic : Logic) → Only IsFileFault (Queries logic)
file_only logic =
    only_growing [] (λ queries.
    query_before_only (inl (omega arith, omega arith)) (inl (omega arith, omega arith)) (file_setting logic) by MOST_NODES (is Dot) (inr (omega arith, omega arith)) (λ query.
    only_then (only_one _) (λ _. only_nothing _)))
  where
    by : (n : ℕ) → IsFormulaFault (file_setting logic) n → IsFileFault n
    by n (inl (low, high)) = inl (omega arith, omega arith)
    by n (inr (inl (is, none))) = inr (omega arith, omega arith)
    by n (inr (inr (is, numbered))) = absurd cc
