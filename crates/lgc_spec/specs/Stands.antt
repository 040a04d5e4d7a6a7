-- Answers that stand for what the definition speaks of.
use Rattle.std.specs.Prelude.{ℕ, List, Result, Ok, Err}
use Rattle.lgc_parser.specs.declared.tree.Statement.{Statement}
use Rattle.lgc_parser.specs.SpecGrammar as grammar
use Rattle.lgc_spec.specs.declared.fault.SpecFault.{SpecFault}
use Rattle.lgc_spec.specs.declared.fault.SpecFault.TheVariants.{Fault, Memory}
use Rattle.lgc_spec.specs.Faults.{Follows}
use Rattle.lgc_spec.specs.Texts.{tokens_given, Parses}

-- a function answers what stands for a part that is said, or memory ran out
abbrev pub AnswersFor : {X Y : Type 0} → (X → Y → Type 0) → (Result Y SpecFault → Type 0) → Result X SpecFault → Type 0
AnswersFor stands says (Err Memory) = Unit {0}
AnswersFor {X} {Y} stands says (Ok x) = (part : Y) × stands x part × says (Ok part)
AnswersFor stands says (Err (Fault number offset kept)) = says (Err (Fault number offset kept))

-- the statements of the bytes of a file: the tokens, and then the grammar
abbrev pub TreeGives : List ℕ → Result (List Statement) SpecFault → Type 0
TreeGives bytes = Follows (tokens_given 0 bytes) (Parses grammar.Spec 0 bytes)
