-- From the steps of the reader to what they tell together.
use Rattle.std.proofs.Common.{◌≡◌, ℕ, ◌<◌, ◌≤◌, ◌^◌, List, length, Result, Ok, Err, refl}
use Rattle.std.proofs.lemmas.Bool.{le-ltb}
use Rattle.lgc_values.specs.Values.{members_of, mask_of}
use Rattle.lgc_values.proofs.ValueLaws.{mask_law}
use Rattle.lgc_values.specs.declared.matrix.Operator as lgc
use Rattle.lgc_values.specs.declared.matrix.Quantifier as lgcq
use Rattle.lgc_lexer.specs.declared.token.Token.{Token}
use Rattle.lgc_parser.specs.declared.tree.Statement.{Statement}
use Rattle.lgc_parser.specs.SpecGrammar as grammar
use Rattle.lgc_spec.specs.declared.spec.Spec.{Spec}
use Rattle.lgc_spec.specs.declared.fault.SpecFault.{SpecFault}
use Rattle.lgc_spec.specs.declared.fault.SpecFault.TheVariants.{Fault, Memory}
use Rattle.lgc_spec.specs.declared.reading.TheConstants.{LONGEST_FILE}
use Rattle.lgc_spec.specs.Faults.{Answers, Follows, Then}
use Rattle.lgc_spec.specs.Statements.{first_some, name_in}
use Rattle.lgc_spec.specs.Stands.{TreeGives}
use Rattle.lgc_spec.specs.Texts.{tokens_given, Parses}
use Rattle.lgc_spec.specs.Orderings.{Ordered, OrderingsGive}
use Rattle.lgc_spec.specs.Operators.{OperatorsGive}
use Rattle.lgc_spec.specs.Quantifiers.{QuantifiersGive}
use Rattle.lgc_spec.specs.Specification.{values_given, logic_name, StatementsGive, BytesGive}

-- ---- the statements

-- the steps behind the values are shown the names
module _ (bytes : List ℕ) (statements : List Statement) (names shown : List (List ℕ)) (set : List ℕ) (values : values_given bytes statements ≡ Ok (names, set)) (same : shown ≡ names) where
  given : values_given bytes statements ≡ Ok (shown, set)
  given = rw same values

  pub orders_fail : (f : SpecFault) → Answers (OrderingsGive bytes shown statements) (Err f) → Answers (StatementsGive bytes statements) (Err f)
  orders_fail Memory h = tt
  orders_fail (Fault number offset kept) h = rw given (Err (Fault number offset kept), h, refl)

  module _ (ordered : List Ordered) (orders : OrderingsGive bytes shown statements (Ok ordered)) where
    pub operators_fail : (f : SpecFault) → Answers (OperatorsGive bytes shown ordered statements) (Err f) → Answers (StatementsGive bytes statements) (Err f)
    operators_fail Memory h = tt
    operators_fail (Fault number offset kept) h = rw given (Ok ordered, orders, (Err (Fault number offset kept), h, refl))

    module _ (operators listed : List lgc.Operator) (told : OperatorsGive bytes shown ordered statements (Ok operators)) (as_told : listed ≡ operators) where
      pub quantifiers_fail : (f : SpecFault) → Answers (QuantifiersGive bytes shown ordered listed statements) (Err f) → Answers (StatementsGive bytes statements) (Err f)
      quantifiers_fail Memory h = tt
      quantifiers_fail (Fault number offset kept) h = rw given (Ok ordered, orders, (Ok operators, told, (Err (Fault number offset kept), rw as_told at h, refl)))

      pub logic_told : (quantifiers : List lgcq.Quantifier) (mask : ℕ) (name : List ℕ) → QuantifiersGive bytes shown ordered listed statements (Ok quantifiers) → members_of (length names) mask ≡ set → mask < 2 ^ length names → name ≡ logic_name bytes (first_some name_in statements) → StatementsGive bytes statements (Ok (record { name = name; values = names; designated = mask; operators = operators; quantifiers = quantifiers }))
      logic_told quantifiers mask name h members below named =
          let mask_is : mask_of set ≡ mask = mask_law (length names) mask set members below in
          rw given (Ok ordered, orders, (Ok operators, told, (Ok quantifiers, rw as_told at h, rw (named, mask_is, same) refl)))

-- ---- the bytes

abbrev Told : List ℕ → Result (List Token) SpecFault → Result Spec SpecFault → Type 0
Told bytes tokens = Follows tokens (λ ts. Then (Parses grammar.Spec 0 bytes ts) (StatementsGive bytes))

stops : (bytes : List ℕ) (tokens : Result (List Token) SpecFault) (f : SpecFault) → Follows tokens (Parses grammar.Spec 0 bytes) (Err f) → Told bytes tokens (Err f)
stops bytes (Ok tokens) f h = (Err f, h, refl)
stops bytes (Err g) f h = let same : f ≡ g = cc in rw same refl

goes_on : (bytes : List ℕ) (tokens : Result (List Token) SpecFault) (statements : List Statement) (told : Result Spec SpecFault) → Follows tokens (Parses grammar.Spec 0 bytes) (Ok statements) → StatementsGive bytes statements told → Told bytes tokens told
goes_on bytes (Ok tokens) statements told h s = (Ok statements, h, s)
goes_on bytes (Err g) statements told h s = absurd cc

short : (bytes : List ℕ) (told : Result Spec SpecFault) → length bytes ≤ LONGEST_FILE → Told bytes (tokens_given 0 bytes) told → BytesGive bytes told
short bytes told e h = rw (le-ltb LONGEST_FILE (length bytes) e) h

pub tree_fails : (bytes : List ℕ) (f : SpecFault) → length bytes ≤ LONGEST_FILE → Answers (TreeGives bytes) (Err f) → Answers (BytesGive bytes) (Err f)
tree_fails bytes Memory e h = tt
tree_fails bytes (Fault number offset kept) e h = short bytes (Err (Fault number offset kept)) e (stops bytes (tokens_given 0 bytes) (Fault number offset kept) h)

pub tree_told : (bytes : List ℕ) (statements : List Statement) (result : Result Spec SpecFault) → length bytes ≤ LONGEST_FILE → TreeGives bytes (Ok statements) → Answers (StatementsGive bytes statements) result → Answers (BytesGive bytes) result
tree_told bytes statements (Err Memory) e h s = tt
tree_told bytes statements (Ok logic) e h s = short bytes (Ok logic) e (goes_on bytes (tokens_given 0 bytes) statements (Ok logic) h s)
tree_told bytes statements (Err (Fault number offset kept)) e h s = short bytes (Err (Fault number offset kept)) e (goes_on bytes (tokens_given 0 bytes) statements (Err (Fault number offset kept)) h s)
