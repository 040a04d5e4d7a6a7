-- The readers of rule files, line by line as their grammar.
use Rattle.std.specs.Prelude.{ℕ, ◌+◌, ◌-◌, Bool, List, [], ◌∷◌, ◌++◌, length, Option, Some, None}
use Rattle.lgc_grammar.specs.Grammar.{fault_if}
use Rattle.lgc_grammar.specs.Reading.{Reader, one_at, allowed_at, nothing_at, map_at, ◌>>=◌, ◌>>◌, either_at, optional_at, growing_at, Turn, onward, last, ending_at}
use Rattle.lgc_values.specs.Logic.{Logic, operator_at}
use Rattle.lgc_clauses.specs.declared.rule.Rule.{Rule}
use Rattle.lgc_clauses.specs.declared.rule.Numbered.{Numbered}
use Rattle.lgc_syntax.specs.declared.fault.TheConstants.{UNKNOWN_NAME, WRONG_ARITY, UNKNOWN_VALUE, BAD_ARGUMENT, MISNUMBERED}
use Rattle.lgc_tokens.specs.declared.class.Class.TheVariants.{RuleWord, AtWord, OperatorWord, QuantifierWord, AllWord, SomeWord, Zero, Caret, OpenBrace, CloseBrace, OpenSquare, CloseSquare, Comma, Dot, Colon, Semicolon, Slash}
use Rattle.lgc_tokens.specs.declared.class.Class.{Class}
use Rattle.lgc_tokens.specs.declared.terminal.Terminal.{Terminal}
use Rattle.lgc_tokens.specs.declared.terminal.Terminal.TheVariants as terminal
use Rattle.lgc_tokens.specs.Spelled.{Spelled}
use Rattle.lgc_tokens.specs.Classes.{is, is_a, is_name, is_number, is_zero, is_value, starts_quantifier_clause}
use Rattle.lgc_rules.specs.RuleGrammar.{operator_rule, quantifier_rule}
use Rattle.lgc_rules.specs.Names.{value_of, operator_of, quantifier_of, number, names_no_value, names_no_operator, names_no_quantifier, is_outside, with_value, padded}

-- a number from `least` to `most`; another one breaks the rule `fault`
unfoldable pub number_at : ℕ → ℕ → ℕ → Terminal → Reader Spelled ℕ
number_at least most fault test ts = map_at number (allowed_at (is_a test) (λ t. fault_if (is_outside least most t) fault)) ts

-- ---- sets

unfoldable pub value_at : Logic → Reader Spelled ℕ
value_at logic ts = map_at (value_of logic) (allowed_at is_value (λ t. fault_if (names_no_value logic t) UNKNOWN_VALUE)) ts

abbrev pub next_value_at : ℕ → Logic → List ℕ → Reader Spelled (List ℕ)
next_value_at n logic set = do
  one_at (is Comma)
  value ← value_at logic
  nothing_at (with_value n set value)

-- values behind those of a set
unfoldable pub more_values_at : ℕ → Logic → List ℕ → Reader Spelled (List ℕ)
more_values_at n logic set ts = growing_at (is Comma) (next_value_at n logic) set ts

unfoldable pub set_at : ℕ → Logic → Reader Spelled (List ℕ)
set_at n logic = do
  one_at (is OpenBrace)
  value ← value_at logic
  set ← more_values_at n logic (value ∷ [])
  one_at (is CloseBrace)
  nothing_at set

-- ---- clauses of an operator

unfoldable pub literal_at : ℕ → Logic → ℕ → Terminal → List (List ℕ) → Reader Spelled (List (List ℕ))
literal_at n logic arity test sets = do
  argument ← number_at (length sets + 1) arity BAD_ARGUMENT test
  one_at (is Caret)
  set ← set_at n logic
  nothing_at (padded (argument - 1) sets ++ set ∷ [])

abbrev pub next_literal_at : ℕ → Logic → ℕ → List (List ℕ) → Reader Spelled (List (List ℕ))
next_literal_at n logic arity sets = do
  one_at (is Comma)
  literal_at n logic arity terminal.Number sets

-- literals behind those that gave these sets
unfoldable pub more_literals_at : ℕ → Logic → ℕ → List (List ℕ) → Reader Spelled (List (List ℕ))
more_literals_at n logic arity sets ts = growing_at (is Comma) (next_literal_at n logic arity) sets ts

unfoldable pub literals_at : ℕ → Logic → ℕ → Reader Spelled (List (List ℕ))
literals_at n logic arity ts = map_at (padded arity) (do
  sets ← literal_at n logic arity terminal.Argument []
  more_literals_at n logic arity sets) ts

unfoldable pub empty_clause_at : ℕ → Reader Spelled (List (List ℕ))
empty_clause_at arity ts = map_at (λ _. padded arity []) (one_at (is Zero)) ts

unfoldable pub clause_at : ℕ → Logic → ℕ → Reader Spelled (List (List ℕ))
clause_at n logic arity ts = either_at (is Zero) (empty_clause_at arity) (literals_at n logic arity) ts

-- ---- clauses of a quantifier

unfoldable pub set_behind_at : Class → ℕ → Logic → Reader Spelled (List ℕ)
set_behind_at word n logic = do
  one_at (is word)
  set_at n logic

-- a turn to these `all` sets, or to the last one, a `some` set
abbrev pub turn_of : List (List ℕ) → Option (List ℕ) → Turn (List (List ℕ)) (List (List ℕ))
turn_of all None = onward all
turn_of all (Some some) = last (some ∷ all)

-- one more set, which is an `all` set or the last one
abbrev pub next_set_at : ℕ → Logic → List (List ℕ) → Reader Spelled (Turn (List (List ℕ)) (List (List ℕ)))
next_set_at n logic all = do
  one_at (is Comma)
  either_at (is AllWord) (map_at (λ set. onward (all ++ set ∷ [])) (set_behind_at AllWord n logic))
      (map_at (λ some. last (some ∷ all)) (set_behind_at SomeWord n logic))

-- sets behind these `all` sets
unfoldable pub more_sets_at : ℕ → Logic → List (List ℕ) → Reader Spelled (List (List ℕ))
more_sets_at n logic all ts = ending_at (is Comma) (next_set_at n logic) (λ sets. [] ∷ sets) all ts

unfoldable pub all_sets_at : ℕ → Logic → Reader Spelled (List (List ℕ))
all_sets_at n logic = do
  set ← set_behind_at AllWord n logic
  more_sets_at n logic (set ∷ [])

unfoldable pub some_alone_at : ℕ → Logic → Reader Spelled (List (List ℕ))
some_alone_at n logic ts = map_at (λ some. some ∷ []) (set_behind_at SomeWord n logic) ts

unfoldable pub no_sets_at : Reader Spelled (List (List ℕ))
no_sets_at ts = map_at (λ _. [] ∷ []) (one_at is_zero) ts

unfoldable pub quantifier_clause_at : ℕ → Logic → Reader Spelled (List (List ℕ))
quantifier_clause_at n logic ts =
    either_at is_zero no_sets_at (either_at (is AllWord) (all_sets_at n logic) (some_alone_at n logic)) ts

-- ---- lists of clauses, of one reader

abbrev pub next_clause_at : Reader Spelled (List (List ℕ)) → List (List (List ℕ)) → Reader Spelled (List (List (List ℕ)))
next_clause_at p clauses = do
  one_at (is Semicolon)
  map_at (λ clause. clauses ++ clause ∷ []) p

-- clauses behind these
unfoldable pub more_clauses_at : Reader Spelled (List (List ℕ)) → List (List (List ℕ)) → Reader Spelled (List (List (List ℕ)))
more_clauses_at p clauses ts = growing_at (is Semicolon) (next_clause_at p) clauses ts

-- one clause or more
unfoldable pub some_clauses_at : Reader Spelled (List (List ℕ)) → Reader Spelled (List (List (List ℕ)))
some_clauses_at p = do
  clause ← p
  more_clauses_at p (clause ∷ [])

-- clauses that begin with a token that passes `first`, or none
unfoldable pub clauses_at : (Spelled → Bool) → Reader Spelled (List (List ℕ)) → Reader Spelled (List (List (List ℕ)))
clauses_at first p ts = optional_at first [] (some_clauses_at p) ts

-- ---- rules

unfoldable pub operator_name_at : Logic → Reader Spelled ℕ
operator_name_at logic ts = map_at (operator_of logic) (allowed_at is_name (λ t. fault_if (names_no_operator logic t) UNKNOWN_NAME)) ts

unfoldable pub operator_head_at : Logic → Reader Spelled ℕ
operator_head_at logic = do
  one_at (is OperatorWord)
  op ← operator_name_at logic
  one_at (is Slash)
  number_at (operator_at logic op).arity (operator_at logic op).arity WRONG_ARITY terminal.Number
  nothing_at op

unfoldable pub quantifier_name_at : Logic → Reader Spelled ℕ
quantifier_name_at logic ts = map_at (quantifier_of logic) (allowed_at is_name (λ t. fault_if (names_no_quantifier logic t) UNKNOWN_NAME)) ts

unfoldable pub quantifier_head_at : Logic → Reader Spelled ℕ
quantifier_head_at logic = do
  one_at (is QuantifierWord)
  quantifier_name_at logic

abbrev pub body_at : (n : ℕ) → Logic → (Spelled → Bool) → Reader Spelled (List (List ℕ)) → (List ℕ → List (List (List ℕ)) → Rule n) → Reader Spelled (Rule n)
body_at n logic first p rule_of = do
  one_at (is AtWord)
  sign ← set_at n logic
  one_at (is Colon)
  one_at (is OpenSquare)
  clauses ← clauses_at first p
  one_at (is CloseSquare)
  one_at (is Dot)
  nothing_at (rule_of sign clauses)

unfoldable pub of_operator_at : (n : ℕ) → Logic → Reader Spelled (Rule n)
of_operator_at n logic = do
  op ← operator_head_at logic
  body_at n logic is_number (clause_at n logic (operator_at logic op).arity) (operator_rule n op)

unfoldable pub of_quantifier_at : (n : ℕ) → Logic → Reader Spelled (Rule n)
of_quantifier_at n logic = do
  quant ← quantifier_head_at logic
  body_at n logic starts_quantifier_clause (quantifier_clause_at n logic) (quantifier_rule n quant)

unfoldable pub of_symbol_at : (n : ℕ) → Logic → Reader Spelled (Rule n)
of_symbol_at n logic ts = either_at (is OperatorWord) (of_operator_at n logic) (of_quantifier_at n logic) ts

unfoldable pub rule_at : (n : ℕ) → Logic → ℕ → ℕ → Reader Spelled (Numbered n)
rule_at n logic least most = do
  one_at (is RuleWord)
  number ← number_at least most MISNUMBERED terminal.Number
  one_at (is Colon)
  rule ← of_symbol_at n logic
  nothing_at (record { number = number; rule = rule })

abbrev pub next_rule_at : (n : ℕ) → Logic → List (Rule n) → Reader Spelled (List (Rule n))
next_rule_at n logic rules = map_at (λ next. rules ++ next.rule ∷ []) (rule_at n logic (length rules + 1) (length rules + 1))

unfoldable pub rules_at : (n : ℕ) → Logic → Reader Spelled (List (Rule n))
rules_at n logic ts = growing_at (is RuleWord) (next_rule_at n logic) [] ts
