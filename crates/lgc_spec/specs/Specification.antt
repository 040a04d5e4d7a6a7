-- The logic of bytes, or their first fault, which is that of the first step at which there is one.
use Rattle.std.specs.Prelude.{◌≡◌, ℕ, nat_lt, List, [], length, Option, Some, None, Result, Ok, if◌then◌else◌}
use Rattle.lgc_values.specs.Values.{mask_of}
use Rattle.lgc_parser.specs.declared.tree.Word.{Word}
use Rattle.lgc_parser.specs.declared.tree.Statement.{Statement}
use Rattle.lgc_parser.specs.SpecGrammar as grammar
use Rattle.lgc_spec.specs.declared.spec.Spec.{Spec}
use Rattle.lgc_spec.specs.declared.fault.SpecFault.{SpecFault}
use Rattle.lgc_spec.specs.declared.fault.TheConstants.{FILE_TOO_LONG}
use Rattle.lgc_spec.specs.declared.reading.TheConstants.{LONGEST_FILE}
use Rattle.lgc_spec.specs.Faults.{fault_at, unless, ◌>>=◌, Follows, Then}
use Rattle.lgc_spec.specs.Words.{text_of}
use Rattle.lgc_spec.specs.Statements.{first_second, first_some, needed, name_in, values_in, designated_in}
use Rattle.lgc_spec.specs.Values.{names_given, designated_given}
use Rattle.lgc_spec.specs.Texts.{tokens_given, Parses}
use Rattle.lgc_spec.specs.Orderings.{OrderingsGive}
use Rattle.lgc_spec.specs.Operators.{OperatorsGive}
use Rattle.lgc_spec.specs.Quantifiers.{QuantifiersGive}

-- the file is too long, at the limit
abbrev pub too_long : List ℕ → Option SpecFault
too_long bytes = if nat_lt LONGEST_FILE (length bytes) then Some (fault_at FILE_TOO_LONG LONGEST_FILE) else None

-- the names of the truth values and the designated values: no statement comes twice, both statements are there, and both
-- are right
abbrev pub values_given : List ℕ → List Statement → Result (List (List ℕ) × List ℕ) SpecFault
values_given bytes statements = unless (first_second statements) (do
  values ← needed (length bytes) (first_some values_in statements)
  designated ← needed (length bytes) (first_some designated_in statements)
  names ← names_given bytes values.0 values.1
  set ← designated_given bytes names designated
  Ok (names, set))

-- the name of the logic, which is empty where none is told
abbrev pub logic_name : List ℕ → Option Word → List ℕ
logic_name bytes None = []
logic_name bytes (Some word) = text_of bytes word

-- what the statements of a file give
abbrev pub StatementsGive : List ℕ → List Statement → Result Spec SpecFault → Type 0
StatementsGive bytes statements =
    Follows (values_given bytes statements) (λ values.
    Then (OrderingsGive bytes values.0 statements) (λ orderings.
    Then (OperatorsGive bytes values.0 orderings statements) (λ operators.
    Then (QuantifiersGive bytes values.0 orderings operators statements) (λ quantifiers told.
    told ≡ Ok (record { name = logic_name bytes (first_some name_in statements); values = values.0; designated = mask_of values.1; operators = operators; quantifiers = quantifiers })))))

-- what the bytes of a file give, by steps: the length, the tokens, the grammar, and then the statements
abbrev pub BytesGive : List ℕ → Result Spec SpecFault → Type 0
BytesGive bytes =
    Follows (unless (too_long bytes) (tokens_given 0 bytes)) (λ tokens.
    Then (Parses grammar.Spec 0 bytes tokens) (StatementsGive bytes))
