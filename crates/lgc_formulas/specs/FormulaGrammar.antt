-- The grammar of formulas, line by line. It says which trees the phrases have that keep every rule, and which rule the last token
-- breaks where one is broken.
--
-- A formula is read against a setting: the logic, whether quantifiers may stand, and the formulas that a # and a number stand for. It
-- is read with the names that quantifiers around it bind, the innermost first, and with two limits: how many nodes are left on the way
-- down, and how many in all.
--
-- The name of an operator with arguments alone is a phrase, whose tree is bare. What is read behind it is barred: the rule of the
-- number of arguments is broken by each token that could go on there.
use Rattle.std.specs.Prelude.{ℕ, zero, suc, ◌-◌, ◌||◌, Bool, true, false, List, [], ◌∷◌, ◌++◌, Option, Some, None}
use Rattle.lgc_grammar.specs.Grammar.{Grammar, One, Allowed, Refused, Barred, Nothing, Mapped, ◌>>=◌, ◌>>◌, Either, Optional, Growing}
use Rattle.lgc_grammar.specs.Seen.{Seen}
use Rattle.lgc_grammar.specs.Unless.{Unless}
use Rattle.lgc_values.specs.Logic.{operator_at}
use Rattle.lgc_syntax.specs.declared.fault.TheConstants.{WRONG_ARITY}
use Rattle.lgc_syntax.specs.declared.formula.Formula.{Formula, Atom, Op, Quant}
use Rattle.lgc_syntax.specs.Sizes.{nodes}
use Rattle.lgc_tokens.specs.declared.class.Class.TheVariants.{Upper, OpenRound, CloseRound, Comma}
use Rattle.lgc_formulas.specs.declared.formula.Read.{Read}
use Rattle.lgc_formulas.specs.declared.formula.Formulas.{Formulas}
use Rattle.lgc_formulas.specs.declared.formula.TheConstants.{MOST_DEPTH}
use Rattle.lgc_formulas.specs.Named.{Named, text_of, operator_of, quantifier_of, is, is_number, is_quantifier, is_predicate, is_hash, starts_operator, starts_formula}
use Rattle.lgc_formulas.specs.Setting.{Setting, numbered}
use Rattle.lgc_formulas.specs.Faults.{formula_fault, depth_fault, let_of, number_fault}
use Rattle.lgc_formulas.specs.TermGrammar.{Terms, TermPhrase}

-- ---- trees of formulas

-- a formula, and how many nodes are left behind it
abbrev pub as_whole : Formula → ℕ → Read
as_whole f many = record { formula = f; nodes_left = many; is_bare = false }

-- the name of an operator alone, which wants arguments
abbrev pub as_bare : ℕ → ℕ → Read
as_bare op many = record { formula = Op op []; nodes_left = many; is_bare = true }

-- a formula behind others
abbrev pub with_formula : List Formula → Read → Formulas
with_formula before x = record { list = before ++ x.formula ∷ []; nodes_left = x.nodes_left; is_bare = x.is_bare }

-- the formula that a number stands for, and how many nodes are left behind it; a number that stands for none breaks a rule
abbrev pub numbered_formula : Option Formula → ℕ → Read
numbered_formula None many = as_whole (Op 0 []) many
numbered_formula (Some f) many = as_whole f (many - nodes f)

-- ---- operators, of one grammar of formulas, which is told how many nodes are left

-- what follows a formula among arguments
abbrev pub ends_argument : Named → Bool
ends_argument t = is Comma t || is CloseRound t

module _ (L : ℕ → Grammar Named Read) where
  -- { "," formula } ")", with k formulas behind these. There are too many where a comma follows the last, and too few where the
  -- bracket follows another.
  abbrev pub MoreOperands : ℕ → Formulas → Grammar Named (List Formula × ℕ)
  MoreOperands zero before r ts =
      Barred before.is_bare ends_argument WRONG_ARITY
      (Either (Refused (is Comma) (λ _. WRONG_ARITY)) (Mapped (λ _. (before.list, before.nodes_left)) (One (is CloseRound)))) r ts
  MoreOperands (suc k) before r ts =
      Barred before.is_bare ends_argument WRONG_ARITY
      (Either (Refused (is CloseRound) (λ _. WRONG_ARITY)) (do
        One (is Comma)
        x ← L before.nodes_left
        MoreOperands k (with_formula before.list x))) r ts

  -- "(" formula { "," formula } ")", with k formulas behind the first
  abbrev pub Operands : ℕ → ℕ → Grammar Named (List Formula × ℕ)
  Operands k many = do
    One (is OpenRound)
    x ← L many
    MoreOperands k (with_formula [] x)

  -- [ "(" formula { "," formula } ")" ], behind an operator of this arity
  abbrev pub BehindOperator : ℕ → ℕ → ℕ → Grammar Named Read
  BehindOperator zero op many = Optional (as_whole (Op op []) many) (Refused (is OpenRound) (λ _. WRONG_ARITY))
  BehindOperator (suc k) op many = Optional (as_bare op many) (Mapped (λ x. as_whole (Op op x.0) x.1) (Operands k many))

  -- operator [ "(" formula { "," formula } ")" ]
  abbrev pub OperatorFormula : Setting → (Named → Option ℕ) → ℕ → Grammar Named Read
  OperatorFormula s fault many = do
    head ← Allowed starts_operator fault
    BehindOperator (operator_at s.logic (operator_of head.role)).arity (operator_of head.role) many

-- ---- quantifiers, of one grammar of formulas, which is told the names in scope, too

-- ")", behind the body of a quantifier
abbrev pub CloseQuantifier : ℕ → Read → Grammar Named Read
CloseQuantifier quant body = Barred body.is_bare (is CloseRound) WRONG_ARITY (do
  One (is CloseRound)
  Nothing (as_whole (Quant quant body.formula) body.nodes_left))

-- quantifier "(" Upper "," formula ")"
abbrev pub QuantifierFormula : (List (List ℕ) → ℕ → Grammar Named Read) → (Named → Option ℕ) → List (List ℕ) → ℕ → Grammar Named Read
QuantifierFormula L fault names many = do
  head ← Allowed is_quantifier fault
  One (is OpenRound)
  name ← One (is Upper)
  One (is Comma)
  body ← L (text_of name ∷ names) many
  CloseQuantifier (quantifier_of head.role) body

-- ---- formulas

-- "#" number
abbrev pub NumberedFormula : Setting → (Named → Option ℕ) → ℕ → Grammar Named Read
NumberedFormula s fault many = do
  Allowed (is_hash (numbered s)) fault
  number ← Allowed is_number (number_fault s)
  Nothing (numbered_formula (let_of s number) many)

-- Lower [ "(" term { "," term } ")" ]
abbrev pub AtomFormula : Bool → List (List ℕ) → ℕ → (Named → Option ℕ) → ℕ → Grammar Named Read
AtomFormula limited names deep fault many = do
  head ← Allowed is_predicate fault
  terms ← Seen (λ t. t.spelled) (Terms (TermPhrase limited names deep) many)
  Nothing (as_whole (Atom (text_of head) terms.0) terms.1)

-- formula = operator [ "(" formula { "," formula } ")" ]
--         | quantifier "(" Upper "," formula ")"
--         | "#" number
--         | Lower [ "(" term { "," term } ")" ],
-- with names in scope, where `deep` nodes are left on the way down and `many` in all
abbrev pub FormulaPhrase : Setting → ℕ → List (List ℕ) → ℕ → Grammar Named Read
FormulaPhrase s zero names many r ts = Refused (starts_formula (numbered s)) (depth_fault (formula_fault s 0 many)) r ts
FormulaPhrase s (suc deep) names many r ts =
    Either (OperatorFormula (FormulaPhrase s deep names) s (formula_fault s (suc deep) many) (many - 1))
    (Either (QuantifierFormula (FormulaPhrase s deep) (formula_fault s (suc deep) many) names (many - 1))
    (Either (NumberedFormula s (formula_fault s (suc deep) many) many)
    (AtomFormula (numbered s) names deep (formula_fault s (suc deep) many) (many - 1)))) r ts

-- a formula with no quantifier around it, which may be bare
abbrev pub OneFormula : Setting → ℕ → Grammar Named Read
OneFormula s many = FormulaPhrase s MOST_DEPTH [] many

-- a formula that is a whole text: its end comes too early behind a bare name
abbrev pub WholeFormula : Setting → ℕ → Grammar Named Read
WholeFormula s many = Unless (λ x. x.is_bare) (OneFormula s many)

-- ---- lists of formulas, of one grammar of formulas. Whoever reads on behind a list bars it where its last formula is bare.

module _ (L : ℕ → Grammar Named Read) where
  -- "," formula, behind these
  abbrev pub CommaFormula : Formulas → Grammar Named Formulas
  CommaFormula before = Barred before.is_bare (is Comma) WRONG_ARITY (do
    One (is Comma)
    Mapped (with_formula before.list) (L before.nodes_left))

  -- formula { "," formula }
  abbrev pub FormulaList : ℕ → Grammar Named Formulas
  FormulaList many = do
    first ← Mapped (with_formula []) (L many)
    Growing CommaFormula first
