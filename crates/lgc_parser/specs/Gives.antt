-- What the parsers have to answer.
use Rattle.std.specs.Prelude.{◌≡◌, ◌≤◌, ℕ, List, length, Result, Ok, Err}
use Rattle.lgc_grammar.specs.Reading.{Reader}
use Rattle.lgc_grammar.specs.Grammar.{Why, Unexpected}
use Rattle.lgc_parser.specs.declared.fault.SyntaxFault.{SyntaxFault}
use Rattle.lgc_parser.specs.declared.fault.SyntaxFault.TheVariants as fault
use Rattle.lgc_tokens.specs.Spelled.{Spelled, place}

-- What a parser returned, as an answer of reading with this property. A fault's offset is that of the first token that was
-- left, or that of the end. Nothing is said where memory ran out.
abbrev pub Says : {X Y : Type 0} → (Result Y (List Spelled × Why) → Type 0) → ℕ → (X → Y) → Result X SyntaxFault → Type 0
Says P end view (Ok x) = P (Ok (view x))
Says P end view (Err fault.Memory) = Unit {0}
Says P end view (Err (fault.Unexpected offset)) = (rest : List Spelled) × P (Err (rest, Unexpected)) × (offset ≡ place end rest)

-- it is this tree, unless memory ran out
abbrev pub IsTree : {X A : Type 0} → (X → A) → Result X SyntaxFault → A → Type 0
IsTree view (Ok x) a = view x ≡ a
IsTree view (Err fault.Memory) a = Unit {0}
IsTree view (Err (fault.Unexpected offset)) a = ⊥

-- reading leaves no more tokens than there were
abbrev pub Shortens : {A : Type 0} → Reader Spelled A → Type 0
Shortens {A} p = (ts rest : List Spelled) (a : A) → p ts ≡ Ok (a, rest) → length rest ≤ length ts
