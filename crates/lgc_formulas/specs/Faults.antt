-- Which rule the first token of a term or of a formula breaks, and which a number behind a # does.
--
-- Where a token breaks several rules, the least of their numbers is told.
use Rattle.std.specs.Prelude.{◌≡◌, ◌≤◌, ◌⊎◌, ℕ, ◌==◌, ◌||◌, ◌&&◌, nat_lt, not, Bool, true, false, List, [], ◌∷◌, length, Option, Some, None, is_some, is_none, unwrap_or, if◌then◌else◌}
use Rattle.lgc_grammar.specs.Grammar.{fault_if}
use Rattle.lgc_syntax.specs.declared.fault.TheConstants.{UNKNOWN_NAME, RESERVED_NAME, TOO_DEEP, TOO_LARGE, NOT_PROPOSITIONAL, UNKNOWN_NUMBER}
use Rattle.lgc_syntax.specs.declared.formula.Formula.{Formula}
use Rattle.lgc_syntax.specs.Sizes.{depth, nodes, has_quantifier}
use Rattle.lgc_tokens.specs.declared.class.Class.TheVariants.{Upper, Hash}
use Rattle.lgc_tokens.specs.Numbers.{long_number_in}
use Rattle.lgc_tokens.specs.Spelled.{Spelled}
use Rattle.lgc_tokens.specs.Classes.{is}
use Rattle.lgc_formulas.specs.declared.formula.TheConstants.{LONGEST_NAME}
use Rattle.lgc_formulas.specs.Named.{Named, text_of, is_predicate, is_quantifier, is_unknown}
use Rattle.lgc_formulas.specs.Scopes.{bound_in, is_reserved}
use Rattle.lgc_formulas.specs.Setting.{Setting, numbered, let_at}

-- the number of the first rule that is broken
abbrev pub first_broken : List (Bool × ℕ) → Option ℕ
first_broken [] = None
first_broken (rule ∷ rules) = if rule.0 then Some rule.1 else first_broken rules

-- The rule that a token breaks where no node is left on the way down: it is too deep, unless it breaks a rule with a smaller number.
abbrev pub depth_fault : {T : Type 0} → (T → Option ℕ) → T → ℕ
depth_fault fault t = unwrap_or (fault t) TOO_DEEP

-- the name is longer than names may be, where they have a limit
abbrev pub is_too_long : Bool → List ℕ → Bool
is_too_long limited text = limited && nat_lt LONGEST_NAME (length text)

-- ---- terms

-- the numbers of the rules that a token of a term can break
abbrev pub IsTermFault : ℕ → Type 0
IsTermFault number = (RESERVED_NAME ≤ number) × (number ≤ TOO_LARGE)

-- a variable that a quantifier around it binds
abbrev pub is_bound : List (List ℕ) → Spelled → Bool
is_bound names t = is Upper t && is_some (bound_in names t.text)

-- another variable
abbrev pub is_free : List (List ℕ) → Spelled → Bool
is_free names t = is Upper t && is_none (bound_in names t.text)

-- The first token of a term, where `names` are in scope, `deep` nodes are left on the way down and `many` in all: a free variable
-- isn't named as those of quantifiers are written, and there is room for a node; a bound variable may have any name.
abbrev pub term_fault : Bool → List (List ℕ) → ℕ → ℕ → Spelled → Option ℕ
term_fault limited names deep many t = first_broken (
    (is_free names t && is_reserved t.text, RESERVED_NAME)
    ∷ (deep == 0, TOO_DEEP)
    ∷ (many == 0 || (not (is_bound names t) && is_too_long limited t.text), TOO_LARGE)
    ∷ [])

-- ---- formulas

-- the numbers of the rules that a token of a formula can break
abbrev pub IsFormulaFault : Setting → ℕ → Type 0
IsFormulaFault s number =
    ((UNKNOWN_NAME ≤ number) × (number ≤ TOO_LARGE))
    ⊎ (((number ≡ NOT_PROPOSITIONAL) × (s.quantified ≡ false)) ⊎ ((number ≡ UNKNOWN_NUMBER) × (numbered s ≡ true)))

-- the formula that a # stands for
abbrev pub stands_for : Setting → Named → Option Formula
stands_for s t = if is Hash t.spelled then let_at s t.number_behind else None

-- the depth that a first token shows: that of the formula that it stands for, or of one node
abbrev pub depth_shown : Option Formula → ℕ
depth_shown None = 1
depth_shown (Some f) = depth f

-- the nodes that a first token shows
abbrev pub nodes_shown : Option Formula → ℕ
nodes_shown None = 1
nodes_shown (Some f) = nodes f

-- the formula that a first token stands for has a quantifier
abbrev pub quantifier_shown : Option Formula → Bool
quantifier_shown None = false
quantifier_shown (Some f) = has_quantifier f

-- The first token of a formula, where `deep` nodes are left on the way down and `many` in all: a Quoted is a name of the logic, there
-- is room for what the token shows, and quantifiers stand only where they may.
abbrev pub formula_fault : Setting → ℕ → ℕ → Named → Option ℕ
formula_fault s deep many t = first_broken (
    (is_unknown t, UNKNOWN_NAME)
    ∷ (nat_lt deep (depth_shown (stands_for s t)), TOO_DEEP)
    ∷ (nat_lt many (nodes_shown (stands_for s t)) || (is_predicate t && is_too_long (numbered s) (text_of t)), TOO_LARGE)
    ∷ ((is_quantifier t || quantifier_shown (stands_for s t)) && not s.quantified, NOT_PROPOSITIONAL)
    ∷ [])

-- the formula that a token stands for by the number that it writes
abbrev pub let_of : Setting → Named → Option Formula
let_of s t = let_at s (long_number_in (text_of t))

-- The number behind a # is that of a formula.
abbrev pub number_fault : Setting → Named → Option ℕ
number_fault s t = fault_if (is_none (let_of s t)) UNKNOWN_NUMBER
