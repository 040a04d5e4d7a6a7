-- Tokens as a logic knows them.
use Rattle.std.specs.Prelude.{ℕ, Bool, false, ◌||◌, ◌&&◌, List, [], ◌∷◌, Option, Some, None, if◌then◌else◌}
use Rattle.lgc_lexer.specs.declared.token.Token.{Token}
use Rattle.lgc_lexer.specs.Spans.{content_of}
use Rattle.lgc_values.specs.Logic.{Logic, operator_named, quantifier_named}
use Rattle.lgc_tokens.specs.declared.class.Class.{Class}
use Rattle.lgc_tokens.specs.declared.class.Class.TheVariants.{Quoted, Hash}
use Rattle.lgc_tokens.specs.Numbers.{long_number_in}
use Rattle.lgc_tokens.specs.Spelled.{Spelled, spelled}
use Rattle.lgc_tokens.specs.Classes.{same, is_lower, names, class_of, is_long_number}
use Rattle.lgc_formulas.specs.declared.role.Role.{Role}
use Rattle.lgc_formulas.specs.declared.role.Role.TheVariants.{Operator, Quantifier, Neither}

-- ---- tokens

-- A token, what the logic has under its content, of whatever kind it is, and the number that the token behind it writes. A grammar
-- asks a token for these, since a text that goes on in another way has other bytes. The number counts behind a #, which stands for a
-- formula: its depth and its nodes are those of the formula with this number.
pub record Named : Type 0 where
  pub spelled : Spelled
  pub role : Role
  pub number_behind : Option ℕ

-- the operator, or else the quantifier
abbrev pub role_among : Option ℕ → Option ℕ → Role
role_among (Some op) quant = Operator op
role_among None (Some quant) = Quantifier quant
role_among None None = Neither

-- what the logic has under a name
abbrev pub role_of : Logic → List ℕ → Role
role_of logic text = role_among (operator_named logic text) (quantifier_named logic text)

-- the number that a token writes, where it is a number
abbrev pub number_written : Spelled → Option ℕ
number_written t = if is_long_number t then long_number_in t.text else None

-- the number that the first token writes
abbrev pub number_first : List ℕ → List Token → Option ℕ
number_first bytes [] = None
number_first bytes (t ∷ rest) = number_written (spelled bytes t rest)

-- a token before others
abbrev pub named : Logic → List ℕ → Token → List Token → Named
named logic bytes t rest = record { spelled = spelled bytes t rest; role = role_of logic (content_of bytes t); number_behind = number_first bytes rest }

abbrev pub named_all : Logic → List ℕ → List Token → List Named
named_all logic bytes [] = []
named_all logic bytes (t ∷ rest) = named logic bytes t rest ∷ named_all logic bytes rest

-- what the token says
abbrev pub text_of : Named → List ℕ
text_of t = t.spelled.text

-- the operator that has this role
abbrev pub operator_of : Role → ℕ
operator_of (Operator op) = op
operator_of _ = 0

-- the quantifier that has this role
abbrev pub quantifier_of : Role → ℕ
quantifier_of (Quantifier quant) = quant
quantifier_of _ = 0

-- ---- sets of roles and classes

-- the name of an operator
abbrev pub operators : Role → Class → Bool
operators (Operator _) c = names c
operators _ c = false

-- the name of a quantifier
abbrev pub quantifiers : Role → Class → Bool
quantifiers (Quantifier _) c = names c
quantifiers _ c = false

-- a Lower that is neither's name
abbrev pub predicates : Role → Class → Bool
predicates Neither c = is_lower c
predicates _ c = false

-- a Quoted that is neither's name
abbrev pub unknown_names : Role → Class → Bool
unknown_names Neither c = same Quoted c
unknown_names _ c = false

-- what stands where an operator can: its name, or a Quoted that is no name
abbrev pub begins_operator : Role → Class → Bool
begins_operator r c = operators r c || unknown_names r c

-- ---- tests of tokens

abbrev pub is : Class → Named → Bool
is c t = same c (class_of t.spelled)

-- the number of a formula
abbrev pub is_number : Named → Bool
is_number t = is_long_number t.spelled

abbrev pub is_quantifier : Named → Bool
is_quantifier t = quantifiers t.role (class_of t.spelled)

abbrev pub is_predicate : Named → Bool
is_predicate t = predicates t.role (class_of t.spelled)

abbrev pub is_unknown : Named → Bool
is_unknown t = unknown_names t.role (class_of t.spelled)

abbrev pub starts_operator : Named → Bool
starts_operator t = begins_operator t.role (class_of t.spelled)

-- a #, where formulas have numbers
abbrev pub is_hash : Bool → Named → Bool
is_hash numbered t = numbered && is Hash t

-- what a formula begins with
abbrev pub starts_formula : Bool → Named → Bool
starts_formula numbered t = starts_operator t || (is_quantifier t || (is_hash numbered t || is_predicate t))
