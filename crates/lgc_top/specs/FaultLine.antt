-- The lines of faults.
use Rattle.std.specs.Prelude.{ℕ, List, [], ◌++◌, map, codes}
use Rattle.std.specs.Fmt.{decimal}
use Rattle.lgc_spec.specs.declared.fault.Law.{Law}
use Rattle.lgc_spec.specs.declared.fault.Law.TheVariants.{Idempotent, Commutative, Associative}
use Rattle.lgc_spec.specs.declared.fault.Kept.{Kept}
use Rattle.lgc_spec.specs.declared.fault.Kept.TheVariants.{Nothing, Values, Broken, Set}
use Rattle.lgc_print.specs.Text.{joined, value_text}

-- `f,t`
abbrev pub names_text : List (List ℕ) → List ℕ
names_text names = joined (codes ",") (map value_text names)

-- `(f,t)`
abbrev pub row_text : List (List ℕ) → List ℕ
row_text names = codes "(" ++ names_text names ++ codes ")"

abbrev pub law_text : Law → List ℕ
law_text Idempotent = codes "idempotent"
law_text Commutative = codes "commutative"
law_text Associative = codes "associative"

-- nothing, or a colon and the row, the law with the row at which it fails, or the set
abbrev pub kept_text : Kept → List ℕ
kept_text Nothing = []
kept_text (Values names) = codes ": " ++ row_text names
kept_text (Broken law names) = codes ": " ++ law_text law ++ codes " " ++ row_text names
kept_text (Set names) = codes ": {" ++ names_text names ++ codes "}"

-- `spec fault 15 at 72: (t)` and a line feed
unfoldable pub fault_line : ℕ → ℕ → Kept → List ℕ
fault_line number offset kept = codes "spec fault " ++ decimal number ++ codes " at " ++ decimal offset ++ kept_text kept ++ codes "\n"

-- `input fault 4 at 10` and a line feed
unfoldable pub input_line : ℕ → ℕ → List ℕ
input_line number offset = codes "input fault " ++ decimal number ++ codes " at " ++ decimal offset ++ codes "\n"

-- `read fault: q.txt` and a line feed
abbrev pub read_line : List ℕ → List ℕ
read_line file = codes "read fault: " ++ file ++ codes "\n"
