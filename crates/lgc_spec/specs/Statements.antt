-- The statements that come once.
use Rattle.std.specs.Prelude.{ℕ, Bool, true, false, List, [], ◌∷◌, Option, Some, None, Result, Ok, Err, if◌then◌else◌}
use Rattle.std.specs.Option.{option_or}
use Rattle.std.specs.List.{list_any}
use Rattle.lgc_parser.specs.declared.tree.Word.{Word}
use Rattle.lgc_parser.specs.declared.tree.Statement.{Statement}
use Rattle.lgc_parser.specs.declared.tree.Statement.TheVariants.{Logic, Values, Designated}
use Rattle.lgc_spec.specs.declared.fault.SpecFault.{SpecFault}
use Rattle.lgc_spec.specs.declared.fault.TheConstants.{DUPLICATE_STATEMENT, MISSING_STATEMENT}
use Rattle.lgc_spec.specs.Faults.{fault_at}
use Rattle.lgc_spec.specs.InOrder.{first_fault}

-- whether there is at most one statement of this kind
abbrev pub is_single : Statement → Bool
is_single (Logic _ _) = true
is_single (Values _ _) = true
is_single (Designated _ _) = true
is_single s = false

-- whether two statements are of one kind, of which there is at most one
abbrev pub same_kind : Statement → Statement → Bool
same_kind (Logic _ _) (Logic _ _) = true
same_kind (Values _ _) (Values _ _) = true
same_kind (Designated _ _) (Designated _ _) = true
same_kind s t = false

-- the offset of the keyword of a statement that comes at most once
abbrev pub keyword_of : Statement → ℕ
keyword_of (Logic at _) = at
keyword_of (Values at _) = at
keyword_of (Designated at _) = at
keyword_of _ = 0

-- whether a statement of its kind stands before it
abbrev pub comes_again : List Statement → Statement → Bool
comes_again before s = list_any (same_kind s) before

-- a second statement of a kind that comes at most once is a fault, at its word
abbrev pub second_fault : List Statement → Statement → Option SpecFault
second_fault before s = if comes_again before s then Some (fault_at DUPLICATE_STATEMENT (keyword_of s)) else None

-- the first such
abbrev pub first_second : List Statement → Option SpecFault
first_second statements = first_fault second_fault statements

-- what the first statement gives that gives something
abbrev pub first_some : {X Y : Type 0} → (X → Option Y) → List X → Option Y
first_some part [] = None
first_some part (x ∷ xs) = option_or (part x) (first_some part xs)

abbrev pub name_in : Statement → Option Word
name_in (Logic _ name) = Some name
name_in _ = None

abbrev pub values_in : Statement → Option (ℕ × List Word)
values_in (Values at values) = Some (at, values)
values_in _ = None

abbrev pub designated_in : Statement → Option (List Word)
designated_in (Designated _ values) = Some values
designated_in _ = None

-- what a needed statement gives, and its want at the end of the file
abbrev pub needed : {X : Type 0} → ℕ → Option X → Result X SpecFault
needed end None = Err (fault_at MISSING_STATEMENT end)
needed end (Some part) = Ok part
