-- The words of the command line.
use Rattle.std.specs.Prelude.{ℕ, ◌&&◌, Bool, false, not, List, [], ◌∷◌, Option, Some, None, codes, nat_eq, if◌then◌else◌}
use Rattle.std.specs.Cmp.Lexicographic.{pointwise}
use Rattle.lgc_top.specs.declared.command.Format.{Format}
use Rattle.lgc_top.specs.declared.command.Format.TheVariants.{Text, Latex}

pub data Command : Type 0 where
  -- print the calculus of the specification in the file of this name, in this format
  Calculus : Format → List ℕ → Command
  -- tell for each rule of the second file whether it is right for the logic of the first
  Verify : List ℕ → List ℕ → Command
  -- answer each query of the second file, for the logic of the first
  Prove : List ℕ → List ℕ → Command
  -- tell whether the report in the second file is valid for the logic of the first
  Check : List ℕ → List ℕ → Command
  -- tell the signed clauses of the queries of the second file, for the logic of the first
  Clauses : List ℕ → List ℕ → Command
  -- show each goal of the queries of the second file by a closed tableau, for the logic of the first
  Tableaux : List ℕ → List ℕ → Command

-- the name of the file of the specification
abbrev pub spec_of : Command → List ℕ
spec_of (Calculus format spec) = spec
spec_of (Verify spec rules) = spec
spec_of (Prove spec queries) = spec
spec_of (Check spec report) = spec
spec_of (Clauses spec queries) = spec
spec_of (Tableaux spec queries) = spec

-- the name of the second file
abbrev pub input_of : Command → Option (List ℕ)
input_of (Calculus format spec) = None
input_of (Verify spec rules) = Some rules
input_of (Prove spec queries) = Some queries
input_of (Check spec report) = Some report
input_of (Clauses spec queries) = Some queries
input_of (Tableaux spec queries) = Some queries

-- nonempty, and not beginning with `-`
abbrev pub is_file_name : List ℕ → Bool
is_file_name [] = false
is_file_name (b ∷ rest) = not (pointwise nat_eq (b ∷ []) (codes "-"))

-- the command of a word and one file, and the format in which it prints
abbrev pub command_on : Format → List ℕ → List ℕ → Option Command
command_on format word spec = if pointwise nat_eq word (codes "calculus") && is_file_name spec then Some (Calculus format spec) else None

-- the command of a word and two names
abbrev pub command_named : List ℕ → List ℕ → List ℕ → Option Command
command_named word spec input =
    if pointwise nat_eq word (codes "verify") then Some (Verify spec input)
    else (if pointwise nat_eq word (codes "prove") then Some (Prove spec input)
    else (if pointwise nat_eq word (codes "check") then Some (Check spec input)
    else (if pointwise nat_eq word (codes "clauses") then Some (Clauses spec input)
    else (if pointwise nat_eq word (codes "tableau") then Some (Tableaux spec input)
    else None))))

-- the same where both are names of files
abbrev pub command_on_both : List ℕ → List ℕ → List ℕ → Option Command
command_on_both word spec input = if is_file_name spec && is_file_name input then command_named word spec input else None

-- the command of three words, of which the second may be `--latex`
abbrev pub command_of_three : List ℕ → List ℕ → List ℕ → Option Command
command_of_three word second third = if pointwise nat_eq second (codes "--latex") then command_on Latex word third else command_on_both word second third

-- the command of a list of words, and None where they are no command
abbrev pub command_of : List (List ℕ) → Option Command
command_of (word ∷ spec ∷ []) = command_on Text word spec
command_of (word ∷ second ∷ third ∷ []) = command_of_three word second third
command_of words = None
