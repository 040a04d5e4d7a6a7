-- What the functions that read the text of an ordering have to answer.
use Rattle.std.specs.Prelude.{◌≤◌, ℕ, List, Result, Ok, Err}
use Rattle.lgc_parser.specs.declared.tree.Word.{Word}
use Rattle.lgc_parser.specs.OrderGrammar.{Order}
use Rattle.lgc_spec.specs.declared.fault.SpecFault.{SpecFault}
use Rattle.lgc_spec.specs.declared.fault.SpecFault.TheVariants.{Fault, Memory}
use Rattle.lgc_spec.specs.Faults.{Follows, Then}
use Rattle.lgc_spec.specs.Words.{LiesIn, text_of}
use Rattle.lgc_spec.specs.Texts.{tokens_given, Parses}
use Rattle.lgc_spec.specs.Orderings.{Ordered, ChainsGive}

-- the word lies in a text of this length, and so does the place of its token
abbrev pub StandsIn : ℕ → Word → Type 0
StandsIn len w = LiesIn len w × (w.at ≤ len)

-- the chains of a text, whose first byte stands at `start`
abbrev pub TextHas : ℕ → List ℕ → Result (List (List (List Word))) SpecFault → Type 0
TextHas start text = Follows (tokens_given start text) (Parses Order start text)

-- what the text of an ordering gives
abbrev pub TextGives : List ℕ → List (List ℕ) → Word → Word → Result Ordered SpecFault → Type 0
TextGives bytes names name text =
    Follows (tokens_given text.start (text_of bytes text)) (λ tokens. Then (Parses Order text.start (text_of bytes text) tokens) (ChainsGive bytes names name text))

-- A function answers something that is kept of what is said, or the fault that is said, or memory ran out.
abbrev pub Reads : {X Y : Type 0} → (X → Y → Type 0) → (Result Y SpecFault → Type 0) → Result X SpecFault → Type 0
Reads {X} {Y} Keeps says (Ok x) = (y : Y) × Keeps x y × says (Ok y)
Reads {X} {Y} Keeps says (Err Memory) = Unit {0}
Reads {X} {Y} Keeps says (Err (Fault number offset kept)) = says (Err (Fault number offset kept))
