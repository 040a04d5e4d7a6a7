-- Words of the tree: what they say, and which value they name.
use Rattle.std.specs.Prelude.{ℕ, ◌≤◌, Bool, not, List, [], map, find, position, Option, Some, None, unwrap_or, option_map, slice_range, slice_index_or, if◌then◌else◌}
use Rattle.std.specs.Str.{bytes_eq}
use Rattle.std.specs.List.{list_any}
use Rattle.lgc_values.specs.Logic.{IsPlainName}
use Rattle.lgc_parser.specs.declared.tree.Word.{Word}
use Rattle.lgc_spec.specs.declared.fault.SpecFault.{SpecFault}
use Rattle.lgc_spec.specs.declared.fault.TheConstants.{UNKNOWN_VALUE}
use Rattle.lgc_spec.specs.Faults.{fault_at}
use Rattle.lgc_spec.specs.InOrder.{first_fault}

-- the word lies in bytes, of which there are len
abbrev pub LiesIn : ℕ → Word → Type 0
LiesIn len w = (w.start ≤ w.end) × (w.end ≤ len)

-- what a word says
abbrev pub text_of : List ℕ → Word → List ℕ
text_of bytes w = slice_range bytes w.start w.end

-- the word says a plain name
abbrev pub SaysPlainName : List ℕ → Word → Type 0
SaysPlainName bytes w = IsPlainName (text_of bytes w)

-- whether the text is one of the names
abbrev pub is_among : List (List ℕ) → List ℕ → Bool
is_among names text = list_any (λ name. bytes_eq name text) names

-- whether one of the words says this text
abbrev pub is_said : List ℕ → List Word → List ℕ → Bool
is_said bytes words text = list_any (λ w. bytes_eq (text_of bytes w) text) words

-- a word that says what a word before it says is a fault with this number, at its token
abbrev pub says_again : ℕ → List ℕ → List Word → Word → Option SpecFault
says_again number bytes before w = if is_said bytes before (text_of bytes w) then Some (fault_at number w.at) else None

-- the first word that says what a word before it says
abbrev pub first_repeat : ℕ → List ℕ → List Word → Option SpecFault
first_repeat number bytes words =
    first_fault (says_again number bytes) words

-- the first word that names no value
abbrev pub unknown_word : List ℕ → List (List ℕ) → List Word → Option Word
unknown_word bytes names words = find (λ w. not (is_among names (text_of bytes w))) words

-- a fault, at its token
abbrev pub first_unknown : List ℕ → List (List ℕ) → List Word → Option SpecFault
first_unknown bytes names words = option_map (λ w. fault_at UNKNOWN_VALUE w.at) (unknown_word bytes names words)

-- the value that a word names: the place of its text among the names of the values
abbrev pub value_of : List ℕ → List (List ℕ) → Word → ℕ
value_of bytes names w = unwrap_or (position (λ name. bytes_eq name (text_of bytes w)) names) 0

-- the names of values
abbrev pub names_of : List (List ℕ) → List ℕ → List (List ℕ)
names_of names values = map (λ v. slice_index_or names v []) values
