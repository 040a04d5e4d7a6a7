-- Quantifiers that an operator induces.
use Rattle.std.specs.Prelude.{ℕ, ◌^◌, ◌==◌, ◌&&◌, Bool, true, not, List, [], ◌∷◌, find, length, Option, Some, None, option_map, Result, Ok, Err, if◌then◌else◌}
use Rattle.std.specs.Option.{option_or}
use Rattle.std.specs.Str.{bytes_eq}
use Rattle.std.specs.List.{range_with_len}
use Rattle.lgc_values.specs.Logic.{arguments_at}
use Rattle.lgc_values.specs.declared.matrix.Operator.{Operator}
use Rattle.lgc_tokens.specs.Numbers.{number_of}
use Rattle.lgc_parser.specs.declared.tree.Word.{Word}
use Rattle.lgc_spec.specs.declared.fault.Law.{Law}
use Rattle.lgc_spec.specs.declared.fault.Law.TheVariants.{Idempotent, Commutative, Associative}
use Rattle.lgc_spec.specs.declared.fault.Kept.TheVariants.{Broken}
use Rattle.lgc_spec.specs.declared.fault.SpecFault.{SpecFault}
use Rattle.lgc_spec.specs.declared.fault.SpecFault.TheVariants.{Fault}
use Rattle.lgc_spec.specs.declared.fault.TheConstants.{UNKNOWN_OPERATOR, NOT_SEMILATTICE}
use Rattle.lgc_spec.specs.Faults.{fault_at, unless, ◌>>=◌}
use Rattle.lgc_spec.specs.Words.{text_of, names_of}
use Rattle.lgc_spec.specs.Sets.{table_over}
use Rattle.lgc_spec.specs.Folds.{applied, folded}

-- the operator with two arguments that the words name, which are a name and an arity; else at the name
abbrev pub inducing : List ℕ → List Operator → Word → Word → Option Operator
inducing bytes operators name arity =
    if number_of (text_of bytes arity) == 2 then find (λ o. bytes_eq o.name (text_of bytes name) && (o.arity == 2)) operators else None

abbrev pub operator_found : Word → Option Operator → Result Operator SpecFault
operator_found name None = Err (fault_at UNKNOWN_OPERATOR name.at)
operator_found name (Some operator) = Ok operator

-- ---- the laws

-- how many values a law speaks of
abbrev pub width : Law → ℕ
width Idempotent = 1
width Commutative = 2
width Associative = 3

-- whether the law holds of these values
abbrev pub holds : Law → (ℕ → ℕ → ℕ) → List ℕ → Bool
holds Idempotent op (a ∷ []) = op a a == a
holds Commutative op (a ∷ b ∷ []) = op a b == op b a
holds Associative op (a ∷ b ∷ c ∷ []) = op (op a b) c == op a (op b c)
holds _ op _ = true

-- the index of the least values, in the order of tuples, of which the law doesn't hold
abbrev pub first_broken : Law → ℕ → (ℕ → ℕ → ℕ) → Option ℕ
first_broken law n op = find (λ index. not (holds law op (arguments_at n (width law) index))) (range_with_len 0 (n ^ width law))

-- a law that fails, at the operator's name
abbrev pub broken : List (List ℕ) → (ℕ → ℕ → ℕ) → ℕ → Law → Option SpecFault
broken names op at law =
    option_map (λ index. Fault NOT_SEMILATTICE at (Broken law (names_of names (arguments_at (length names) (width law) index))))
    (first_broken law (length names) op)

-- the first law that fails
abbrev pub not_semilattice : List (List ℕ) → (ℕ → ℕ → ℕ) → ℕ → Option SpecFault
not_semilattice names op at =
    option_or (broken names op at Idempotent) (option_or (broken names op at Commutative) (broken names op at Associative))

-- ---- the table

-- the fold of the operator over the members of each set
abbrev pub semilattice_given : List (List ℕ) → (ℕ → ℕ → ℕ) → ℕ → Result (List ℕ) SpecFault
semilattice_given names op at = unless (not_semilattice names op at) (Ok (table_over (length names) (folded op)))

abbrev pub induced_given : List ℕ → List (List ℕ) → List Operator → Word → Word → Result (List ℕ) SpecFault
induced_given bytes names operators name arity =
    operator_found name (inducing bytes operators name arity) >>= (λ o. semilattice_given names (applied (length names) o.table) name.at)
