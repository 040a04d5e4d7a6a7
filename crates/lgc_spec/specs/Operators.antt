-- Operators.
use Rattle.std.specs.Prelude.{◌≡◌, ℕ, ◌^◌, ◌&&◌, nat_le, List, map, filter_map, length, Option, Some, None, Result, Ok, if◌then◌else◌}
use Rattle.std.specs.Option.{option_or}
use Rattle.lgc_values.specs.declared.TheConstants.{MOST_ARGUMENTS, MOST_ROWS}
use Rattle.lgc_values.specs.declared.matrix.Operator as lgc
use Rattle.lgc_tokens.specs.Numbers.{number_of}
use Rattle.lgc_parser.specs.declared.tree.Word.{Word}
use Rattle.lgc_parser.specs.declared.tree.OpBody.{OpBody}
use Rattle.lgc_parser.specs.declared.tree.OpBody.TheVariants.{Mapping, Table, Bound}
use Rattle.lgc_parser.specs.declared.tree.Statement.{Statement}
use Rattle.lgc_parser.specs.declared.tree.Statement.TheVariants.{Operator}
use Rattle.lgc_spec.specs.declared.fault.SpecFault.{SpecFault}
use Rattle.lgc_spec.specs.declared.fault.TheConstants.{TOO_MANY_SYMBOLS, ARITY_TOO_LARGE}
use Rattle.lgc_spec.specs.declared.operators.TheConstants.{MOST_OPERATORS}
use Rattle.lgc_spec.specs.Faults.{fault_at, unless, Follows, Then}
use Rattle.lgc_spec.specs.InOrder.{InTurn}
use Rattle.lgc_spec.specs.Words.{text_of}
use Rattle.lgc_spec.specs.Orderings.{Ordered, name_again}
use Rattle.lgc_spec.specs.Mappings.{mapping_given}
use Rattle.lgc_spec.specs.Tables.{table_given}
use Rattle.lgc_spec.specs.Bounds.{BoundGives}

-- the name, the arity and the body of an operator
abbrev pub operator_in : Statement → Option (Word × Word × OpBody)
operator_in (Operator name arity body) = Some (name, arity, body)
operator_in _ = None

-- as many operators stand before it as a file may have: at its name
abbrev pub one_too_many : List (List ℕ) → Word → Option SpecFault
one_too_many earlier name = if nat_le MOST_OPERATORS (length earlier) then Some (fault_at TOO_MANY_SYMBOLS name.at) else None

-- there are too many arguments, or too many rows for n values: at the arity
abbrev pub too_wide : ℕ → ℕ → Word → Option SpecFault
too_wide n arity word = if nat_le arity MOST_ARGUMENTS && nat_le (n ^ arity) MOST_ROWS then None else Some (fault_at ARITY_TOO_LARGE word.at)

-- what a body gives: the operator's table
abbrev pub BodyGives : List ℕ → List (List ℕ) → List Ordered → ℕ → OpBody → Result (List ℕ) SpecFault → Type 0
BodyGives bytes names orderings arity (Mapping rows close) told = told ≡ mapping_given bytes names arity rows close
BodyGives bytes names orderings arity (Table at cells) told = told ≡ table_given bytes names arity at cells
BodyGives bytes names orderings arity (Bound at lower ordering) told = BoundGives bytes names orderings arity at lower ordering told

-- the faults of a name behind those of earlier operators
abbrev pub name_fault : List ℕ → List (List ℕ) → Word → Option SpecFault
name_fault bytes earlier name = option_or (one_too_many earlier name) (name_again bytes earlier name)

-- the arity that a word writes
abbrev pub arity_given : List ℕ → ℕ → Word → Result ℕ SpecFault
arity_given bytes n word = let arity = number_of (text_of bytes word) in unless (too_wide n arity word) (Ok arity)

-- an operator's arity, behind the faults of its name
abbrev pub head_given : List ℕ → ℕ → List (List ℕ) → Word → Word → Result ℕ SpecFault
head_given bytes n earlier name word = unless (name_fault bytes earlier name) (arity_given bytes n word)

-- what an operator gives, behind those before it
abbrev pub OperatorGives : List ℕ → List (List ℕ) → List Ordered → List (Word × Word × OpBody) → Word × Word × OpBody → Result lgc.Operator SpecFault → Type 0
OperatorGives bytes names orderings before operator =
    Follows (head_given bytes (length names) (map (λ o. text_of bytes o.0) before) operator.0 operator.1)
    (λ arity. Then (BodyGives bytes names orderings arity operator.2)
    (λ table told. told ≡ Ok (record { name = text_of bytes operator.0; arity = arity; table = table })))

-- the operators of a file
abbrev pub OperatorsGive : List ℕ → List (List ℕ) → List Ordered → List Statement → Result (List lgc.Operator) SpecFault → Type 0
OperatorsGive bytes names orderings statements = InTurn (OperatorGives bytes names orderings) (filter_map operator_in statements)
