-- Quantifiers.
use Rattle.std.specs.Prelude.{◌≡◌, ℕ, nat_le, List, ◌++◌, map, filter_map, length, Option, Some, None, Result, Ok, if◌then◌else◌}
use Rattle.std.specs.Option.{option_or}
use Rattle.lgc_values.specs.declared.matrix.Operator.{Operator}
use Rattle.lgc_values.specs.declared.matrix.Quantifier as lgc
use Rattle.lgc_parser.specs.declared.tree.Word.{Word}
use Rattle.lgc_parser.specs.declared.tree.QuantBody.{QuantBody}
use Rattle.lgc_parser.specs.declared.tree.QuantBody.TheVariants.{Mapping, Induced, Bound}
use Rattle.lgc_parser.specs.declared.tree.Statement.{Statement}
use Rattle.lgc_parser.specs.declared.tree.Statement.TheVariants.{Quantifier}
use Rattle.lgc_spec.specs.declared.fault.SpecFault.{SpecFault}
use Rattle.lgc_spec.specs.declared.fault.TheConstants.{TOO_MANY_SYMBOLS}
use Rattle.lgc_spec.specs.declared.quantifiers.TheConstants.{MOST_QUANTIFIERS}
use Rattle.lgc_spec.specs.Faults.{fault_at, unless, Follows, Then}
use Rattle.lgc_spec.specs.InOrder.{InTurn}
use Rattle.lgc_spec.specs.Words.{text_of}
use Rattle.lgc_spec.specs.Orderings.{Ordered, name_again}
use Rattle.lgc_spec.specs.Distributions.{distribution_given}
use Rattle.lgc_spec.specs.Inductions.{induced_given}
use Rattle.lgc_spec.specs.Bounds.{SetBoundGives}

-- the name and the body of a quantifier
abbrev pub quantifier_in : Statement → Option (Word × QuantBody)
quantifier_in (Quantifier name body) = Some (name, body)
quantifier_in _ = None

-- as many quantifiers stand before it as a file may have: at its name
abbrev pub one_quantifier_too_many : List (List ℕ) → Word → Option SpecFault
one_quantifier_too_many earlier name = if nat_le MOST_QUANTIFIERS (length earlier) then Some (fault_at TOO_MANY_SYMBOLS name.at) else None

-- the faults of a name: there are too many quantifiers, or it is that of an operator or of an earlier quantifier
abbrev pub symbol_fault : List ℕ → List (List ℕ) → List (List ℕ) → Word → Option SpecFault
symbol_fault bytes taken earlier name = option_or (one_quantifier_too_many earlier name) (name_again bytes (taken ++ earlier) name)

-- what a body gives: the quantifier's table
abbrev pub BodyGives : List ℕ → List (List ℕ) → List Ordered → List Operator → QuantBody → Result (List ℕ) SpecFault → Type 0
BodyGives bytes names orderings operators (Mapping rows close) told = told ≡ distribution_given bytes names rows close
BodyGives bytes names orderings operators (Induced operator arity) told = told ≡ induced_given bytes names operators operator arity
BodyGives bytes names orderings operators (Bound at lower ordering) told = SetBoundGives bytes names orderings at lower ordering told

-- what a quantifier gives, behind those before it
abbrev pub QuantifierGives : List ℕ → List (List ℕ) → List Ordered → List Operator → List (Word × QuantBody) → Word × QuantBody → Result lgc.Quantifier SpecFault → Type 0
QuantifierGives bytes names orderings operators before quantifier =
    Follows (unless (symbol_fault bytes (map (λ o. o.name) operators) (map (λ q. text_of bytes q.0) before) quantifier.0) (Ok quantifier.1))
    (λ body. Then (BodyGives bytes names orderings operators body)
    (λ table told. told ≡ Ok (record { name = text_of bytes quantifier.0; table = table })))

-- the quantifiers of a file
abbrev pub QuantifiersGive : List ℕ → List (List ℕ) → List Ordered → List Operator → List Statement → Result (List lgc.Quantifier) SpecFault → Type 0
QuantifiersGive bytes names orderings operators statements = InTurn (QuantifierGives bytes names orderings operators) (filter_map quantifier_in statements)
