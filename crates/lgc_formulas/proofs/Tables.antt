-- Single tokens as a logic knows them: a token of each class, and that no token passes two tests.
use Rattle.std.proofs.Common.{◌≡◌, ℕ, Bool, true, false, Option, None, refl}
use Rattle.std.specs.Prelude.{not, ◌&&◌}
use Rattle.lgc_grammar.specs.Grammar.{One, Allowed, PlainOne}
use Rattle.lgc_grammar.specs.Reading.{one_at, allowed_at}
use Rattle.lgc_grammar.proofs.Readers.{Reads, Must, never}
use Rattle.lgc_grammar.proofs.Basic.{one_reads}
use Rattle.lgc_grammar.proofs.AllowedTokens.{allowed_reads}
use Rattle.lgc_grammar.proofs.Classes.{all_pass, apart}
use Rattle.lgc_tokens.specs.declared.class.Class.{Class}
use Rattle.lgc_tokens.specs.declared.terminal.Terminal.TheVariants as terminal
use Rattle.lgc_tokens.specs.Spelled.{Spelled}
use Rattle.lgc_tokens.specs.Classes.{classes, class_of}
use Rattle.lgc_tokens.proofs.Tables.{table, example, example_passes}
use Rattle.lgc_formulas.specs.declared.role.Role.{Role}
use Rattle.lgc_formulas.specs.declared.role.Role.TheVariants.{Operator, Quantifier, Neither}
use Rattle.lgc_formulas.specs.Named.{Named, is, is_number, is_quantifier, is_predicate, starts_operator}

-- a token of the class doesn't pass g where it passes f, whatever its role is
pub off : (f g : Role → Class → Bool) → ((op : ℕ) → all_pass (λ c. not (f (Operator op) c && g (Operator op) c)) classes ≡ true) → ((quant : ℕ) → all_pass (λ c. not (f (Quantifier quant) c && g (Quantifier quant) c)) classes ≡ true) → all_pass (λ c. not (f Neither c && g Neither c)) classes ≡ true → (t : Named) → f t.role (class_of t.spelled) ≡ true → g t.role (class_of t.spelled) ≡ false
off f g at_operators at_quantifiers at_others t = by t.role
  where
    by : (r : Role) → f r (class_of t.spelled) ≡ true → g r (class_of t.spelled) ≡ false
    by (Operator op) = apart table class_of (f (Operator op)) (g (Operator op)) (at_operators op) t.spelled
    by (Quantifier quant) = apart table class_of (f (Quantifier quant)) (g (Quantifier quant)) (at_quantifiers quant) t.spelled
    by Neither = apart table class_of (f Neither) (g Neither) at_others t.spelled

-- the same of tests of classes
pub off_class : (f g : Class → Bool) → all_pass (λ c. not (f c && g c)) classes ≡ true → (t : Named) → f (class_of t.spelled) ≡ true → g (class_of t.spelled) ≡ false
off_class f g h t = apart table class_of f g h t.spelled

-- a token with a role
abbrev pub with_role : Role → Spelled → Named
with_role role t = record { spelled = t; role = role; number_behind = None }

-- a token of each class, which no logic knows
abbrev pub token : Class → Named
token c = with_role Neither (example (terminal.Only c))

pub token_is : (c : Class) → is c (token c) ≡ true
token_is c = example_passes (terminal.Only c)

-- the names of an operator, of a quantifier and of a predicate, and a number
abbrev pub operator_token : Named
operator_token = with_role (Operator 0) (example terminal.Name)

abbrev pub quantifier_token : Named
quantifier_token = with_role (Quantifier 0) (example terminal.Name)

abbrev pub predicate_token : Named
predicate_token = with_role Neither (example terminal.Word)

abbrev pub number_token : Named
number_token = with_role Neither (example terminal.LongNumber)

pub operator_is : starts_operator operator_token ≡ true
operator_is = rw (example_passes terminal.Name) refl

pub quantifier_is : is_quantifier quantifier_token ≡ true
quantifier_is = example_passes terminal.Name

pub predicate_is : is_predicate predicate_token ≡ true
predicate_is = example_passes terminal.Word

pub number_is : is_number number_token ≡ true
number_is = example_passes terminal.LongNumber

-- one token of a class
pub one : (c : Class) → Reads (one_at (is c)) (One (is c)) (PlainOne (is c)) (Must (is c)) never
one c = one_reads (is c) (token c) (token_is c)

-- one token of a class that may break a rule
pub allowed : (c : Class) (fault : Named → Option ℕ) → Reads (allowed_at (is c) fault) (Allowed (is c) fault) (PlainOne (is c)) (Must (is c)) never
allowed c fault = allowed_reads (is c) fault (token c) (token_is c)
