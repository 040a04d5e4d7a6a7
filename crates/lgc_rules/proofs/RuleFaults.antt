-- The numbers of the rules that a token of a rule file can break: 5, 6 and 10 to 12. What is true of the numbers that a part can have is so
-- of those that it has.
use Rattle.std.proofs.Common.{ℕ, ◌+◌, ◌-◌, Bool, List, [], ◌∷◌, ◌++◌, length, inl, inr, arith}
use Rattle.lgc_grammar.specs.Grammar.{Grammar}
use Rattle.lgc_grammar.proofs.BrokenRules.{Only, only_one, only_nothing, only_allowed, only_mapped, only_then, only_either, only_growing}
use Rattle.lgc_values.specs.Logic.{Logic, operator_at}
use Rattle.lgc_clauses.specs.declared.rule.Rule.{Rule}
use Rattle.lgc_syntax.specs.declared.fault.TheConstants.{UNKNOWN_NAME, WRONG_ARITY, UNKNOWN_VALUE, BAD_ARGUMENT, MISNUMBERED}
use Rattle.lgc_clauses.specs.declared.rule.Numbered.{Numbered}
use Rattle.lgc_tokens.specs.declared.class.Class.TheVariants.{AllWord, SomeWord}
use Rattle.lgc_tokens.specs.declared.class.Class.{Class}
use Rattle.lgc_tokens.specs.Spelled.{Spelled}
use Rattle.lgc_tokens.specs.Classes.{is_name, is_number, is_argument, is_value}
use Rattle.lgc_rules.specs.Names.{value_of, operator_of, quantifier_of, number, names_no_value, names_no_operator, names_no_quantifier, is_outside, with_value, padded}
use Rattle.lgc_rules.specs.RuleGrammar.{NumberFrom, Value, NextValue, Set, Literal, Clause, SetBehind, NextAll, LastSome, MoreSets, QuantifierClause, Clauses, OperatorHead, QuantifierHead, Body, OfOperator, OfQuantifier, OneRule, Rules, operator_rule, quantifier_rule}
use Rattle.lgc_rules.specs.RuleFile.{IsRuleFault}

-- a number outside of its range breaks one rule
number_only : {Q : ℕ → Type 0} (least most fault : ℕ) (test : Spelled → Bool) → Q fault → Only Q (NumberFrom least most fault test)
number_only least most fault test has = only_mapped number (only_allowed test (is_outside least most) fault has)

abbrev numbered : {n : ℕ} → ℕ → Rule n → Numbered n
numbered k rule = record { number = k; rule = rule }

-- ---- of a property of the numbers

module _ {Q : ℕ → Type 0} (of_name : Q UNKNOWN_NAME) (of_arity : Q WRONG_ARITY) (of_value : Q UNKNOWN_VALUE) (of_argument : Q BAD_ARGUMENT) (n : ℕ) (logic : Logic) where
  pub value_only : Only Q (Value logic)
  value_only = only_mapped (value_of logic) (only_allowed is_value (names_no_value logic) UNKNOWN_VALUE of_value)

  next_value_only : (set : List ℕ) → Only Q (NextValue n logic set)
  next_value_only set = only_then (only_one _) (λ _. only_then value_only (λ value. only_nothing (with_value n set value)))

  pub set_only : Only Q (Set n logic)
  set_only =
      only_then (only_one _) (λ _.
      only_then value_only (λ value.
      only_then (only_growing (value ∷ []) next_value_only) (λ set.
      only_then (only_one _) (λ _. only_nothing set))))

  -- ---- clauses

  literal_only : (arity : ℕ) (test : Spelled → Bool) (sets : List (List ℕ)) → Only Q (Literal n logic arity test sets)
  literal_only arity test sets =
      only_then (number_only (length sets + 1) arity BAD_ARGUMENT test of_argument) (λ argument.
      only_then (only_one _) (λ _.
      only_then set_only (λ set. only_nothing (padded (argument - 1) sets ++ set ∷ []))))

  clause_only : (arity : ℕ) → Only Q (Clause n logic arity)
  clause_only arity =
      only_either (only_mapped (λ _. padded arity []) (only_one _))
      (only_mapped (padded arity)
      (only_then (literal_only arity is_argument []) (λ first.
      only_growing first (λ sets. only_then (only_one _) (λ _. literal_only arity is_number sets)))))

  behind_only : (word : Class) → Only Q (SetBehind word n logic)
  behind_only word = only_then (only_one _) (λ _. set_only)

  next_all_only : (all : List (List ℕ)) → Only Q (NextAll n logic all)
  next_all_only all = only_then (only_one _) (λ _. only_mapped (λ set. all ++ set ∷ []) (behind_only AllWord))

  last_some_only : (all : List (List ℕ)) → Only Q (LastSome n logic all)
  last_some_only all = only_then (only_one _) (λ _. only_mapped (λ some. some ∷ all) (behind_only SomeWord))

  more_sets_only : (before : List (List ℕ)) → Only Q (MoreSets n logic before)
  more_sets_only before = only_then (only_growing before next_all_only) (λ all. only_either (last_some_only all) (only_nothing ([] ∷ all)))

  quantifier_clause_only : Only Q (QuantifierClause n logic)
  quantifier_clause_only =
      only_either (only_mapped (λ _. [] ∷ []) (only_one _))
      (only_either (only_then (behind_only AllWord) (λ set. more_sets_only (set ∷ [])))
      (only_mapped (λ some. some ∷ []) (behind_only SomeWord)))

  clauses_only : (L : Grammar Spelled (List (List ℕ))) → Only Q L → Only Q (Clauses L)
  clauses_only L each =
      only_either (only_then each (λ first. only_growing (first ∷ []) (λ clauses. only_then (only_one _) (λ _. only_mapped (λ clause. clauses ++ clause ∷ []) each))))
      (only_nothing [])

  -- ---- rules

  operator_head_only : Only Q (OperatorHead logic)
  operator_head_only =
      only_then (only_one _) (λ _.
      only_then (only_mapped (operator_of logic) (only_allowed is_name (names_no_operator logic) UNKNOWN_NAME of_name)) (λ op.
      only_then (only_one _) (λ _.
      only_then (number_only (operator_at logic op).arity (operator_at logic op).arity WRONG_ARITY is_number of_arity) (λ _. only_nothing op))))

  quantifier_head_only : Only Q (QuantifierHead logic)
  quantifier_head_only =
      only_then (only_one _) (λ _.
      only_mapped (quantifier_of logic) (only_allowed is_name (names_no_quantifier logic) UNKNOWN_NAME of_name))

  body_only : (L : Grammar Spelled (List (List ℕ))) (rule_of : List ℕ → List (List (List ℕ)) → Rule n) → Only Q L → Only Q (Body n logic L rule_of)
  body_only L rule_of each =
      only_then (only_one _) (λ _.
      only_then set_only (λ sign.
      only_then (only_one _) (λ _.
      only_then (only_one _) (λ _.
      only_then (clauses_only L each) (λ clauses.
      only_then (only_one _) (λ _.
      only_then (only_one _) (λ _. only_nothing (rule_of sign clauses))))))))

  operator_only : Only Q (OfOperator n logic)
  operator_only = only_then operator_head_only (λ op. body_only (Clause n logic (operator_at logic op).arity) (operator_rule n op) (clause_only (operator_at logic op).arity))

  quantifier_only : Only Q (OfQuantifier n logic)
  quantifier_only = only_then quantifier_head_only (λ quant. body_only (QuantifierClause n logic) (quantifier_rule n quant) quantifier_clause_only)

  -- a rule, by what its own number can break
  pub one_rule_only : (least most : ℕ) → Only Q (NumberFrom least most MISNUMBERED is_number) → Only Q (OneRule n logic least most)
  one_rule_only least most of_number =
      only_then (only_one _) (λ _.
      only_then of_number (λ k.
      only_then (only_one _) (λ _.
      only_then (only_either operator_only quantifier_only) (λ rule. only_nothing (numbered k rule)))))

-- ---- the numbers

pub rule_only : (n : ℕ) (logic : Logic) (least most : ℕ) → Only IsRuleFault (OneRule n logic least most)
rule_only n logic least most =
    one_rule_only (inl (omega arith, omega arith)) (inl (omega arith, omega arith)) (inr (omega arith, omega arith)) (inr (omega arith, omega arith)) n logic least most
    (number_only least most MISNUMBERED is_number (inr (omega arith, omega arith)))

pub rules_only : (n : ℕ) (logic : Logic) → Only IsRuleFault (Rules n logic)
rules_only n logic = only_growing [] (λ rules. only_mapped (λ (next : Numbered n). rules ++ next.rule ∷ []) (rule_only n logic (length rules + 1) (length rules + 1)))
