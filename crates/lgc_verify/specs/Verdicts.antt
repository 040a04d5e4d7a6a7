-- Verdicts on rules, and the lines that tell them.
use Rattle.std.specs.Prelude.{◌≡◌, ℕ, ◌+◌, Bool, true, false, List, [], ◌∷◌, ◌++◌, map, codes, slice_index_or}
use Rattle.std.specs.Fmt.{decimal}
use Rattle.lgc_values.specs.Logic.{Logic, operator_at, arguments_at}
use Rattle.lgc_values.specs.Values.{set_of_row}
use Rattle.lgc_clauses.specs.Rules.{Head, operator, quantifier, PlainRule}
use Rattle.lgc_clauses.specs.Exactness.{IsExact, IsFirstDifference}
use Rattle.lgc_clauses.specs.Irredundance.{IsIrredundant, IsFirstDroppable}
use Rattle.lgc_clauses.specs.declared.irredundance.Part.{Part}
use Rattle.lgc_clauses.specs.declared.irredundance.Part.TheVariants as part
use Rattle.lgc_clauses.specs.declared.irredundance.Droppable.{Droppable}
use Rattle.lgc_clauses.specs.declared.irredundance.Droppable.TheVariants.{Clause, Value}
use Rattle.lgc_print.specs.Text.{joined, value_text, set_text}
use Rattle.lgc_verify.specs.declared.verdict.Verdict.{Verdict}
use Rattle.lgc_verify.specs.declared.verdict.Verdict.TheVariants.{Differs, Superfluous, Right}

-- what each verdict says of a rule
abbrev pub IsVerdict : Logic → PlainRule → Verdict → Type 0
IsVerdict logic rule (Differs row) = IsFirstDifference logic rule row
IsVerdict logic rule (Superfluous part) = IsExact logic rule × IsFirstDroppable logic rule part
IsVerdict logic rule Right = IsExact logic rule × IsIrredundant logic rule

-- the rule is exact and irredundant
pub record IsRight (logic : Logic) (rule : PlainRule) : Type 0 where
  pub exact : IsExact logic rule
  pub irredundant : IsIrredundant logic rule

abbrev pub is_right : Verdict → Bool
is_right Right = true
is_right verdict = false

-- ---- lines

-- `f,u`
abbrev pub values_text : List (List ℕ) → List ℕ → List ℕ
values_text names values = joined (codes ",") (map (λ v. value_text (slice_index_or names v [])) values)

-- `(f,u)`, the arguments of an operator's row, or `{f,u}`, the set in a quantifier's row; the row is given by its index
abbrev pub row_text : Logic → Head → ℕ → List ℕ
row_text logic (operator op) row = codes "(" ++ values_text logic.names (arguments_at logic.size (operator_at logic op).arity row) ++ codes ")"
row_text logic (quantifier q) row = set_text logic.names (set_of_row logic.size row)

-- `argument 1`, `all 1` or `some`
abbrev pub place_text : Part → List ℕ
place_text (part.Argument i) = codes "argument " ++ decimal i
place_text (part.All i) = codes "all " ++ decimal i
place_text part.Some = codes "some"

-- `clause 2`
abbrev pub clause_label : ℕ → List ℕ
clause_label j = codes "clause " ++ decimal j

-- `clause 2`, or `value f of argument 1 in clause 2`
abbrev pub part_text : List (List ℕ) → Droppable → List ℕ
part_text names (Clause j) = clause_label j
part_text names (Value j part v) = codes "value " ++ value_text (slice_index_or names v []) ++ codes " of " ++ place_text part ++ codes " in " ++ clause_label j

abbrev pub verdict_text : Logic → PlainRule → Verdict → List ℕ
verdict_text logic rule (Differs row) = codes "differs at " ++ row_text logic rule.head row
verdict_text logic rule (Superfluous part) = part_text logic.names part ++ codes " is superfluous"
verdict_text logic rule Right = codes "right"

-- `rule 4: right.` and a line feed
unfoldable pub line_text : Logic → ℕ → PlainRule → Verdict → List ℕ
line_text logic number rule verdict = codes "rule " ++ decimal number ++ codes ": " ++ verdict_text logic rule verdict ++ codes ".\n"

-- the line tells the verdict on the rule, which has this number
pub record IsLine (logic : Logic) (number : ℕ) (rule : PlainRule) (line : List ℕ) : Type 0 where
  pub verdict : Verdict
  pub judged : IsVerdict logic rule verdict
  pub told : line ≡ line_text logic number rule verdict

-- a line on each rule, in their order; the first rule has this number
abbrev pub AreLines : Logic → ℕ → List PlainRule → List ℕ → Type 0
AreLines logic number [] text = text ≡ []
AreLines logic number (rule ∷ rules) text = (line : List ℕ) × (rest : List ℕ) × IsLine logic number rule line × AreLines logic (number + 1) rules rest × (text ≡ line ++ rest)

-- a line on each rule, numbered from 1
abbrev pub IsText : Logic → List PlainRule → List ℕ → Type 0
IsText logic rules text = AreLines logic 1 rules text
