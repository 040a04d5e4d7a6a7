-- The printed form of reports: one spelling.
use Rattle.std.specs.Prelude.{ℕ, List, [], ◌∷◌, ◌++◌, map, codes, slice_index_or}
use Rattle.std.specs.List.{flat_map}
use Rattle.std.specs.Fmt.{decimal}
use Rattle.lgc_values.specs.Logic.{Logic}
use Rattle.lgc_syntax.specs.declared.formula.Term.{Term}
use Rattle.lgc_syntax.specs.declared.formula.Formula.{Formula}
use Rattle.lgc_print.specs.Text.{joined, set_text, value_text, rule_text}
use Rattle.lgc_print.specs.FormulaText.{term_text, formula_text}
use Rattle.lgc_queries.specs.QueryText.{query_text}
use Rattle.lgc_sequents.specs.Signed.{SignedFormula}
use Rattle.lgc_sequents.specs.Lines.{PlainLine}
use Rattle.lgc_sequents.specs.declared.line.Cited.{Cited}
use Rattle.lgc_sequents.specs.declared.line.Reason.{Reason}
use Rattle.lgc_sequents.specs.declared.line.Reason.TheVariants.{Axiom, Pending, ByRule, Resolve}
use Rattle.lgc_report.specs.declared.report.Evidence.{Evidence}
use Rattle.lgc_report.specs.declared.report.Evidence.TheVariants.{Proved, Refuted, Unfinished}
use Rattle.lgc_report.specs.Reports.{PlainNumbered, PlainClaim, answer, holds, number_of, PlainReport}

-- ---- sequents

-- `p^{f,u}`
unfoldable pub item_text : Logic → SignedFormula → List ℕ
item_text logic item = formula_text logic item.formula ++ codes "^" ++ set_text logic.names item.sign

-- `p^{f,u}, q^{t}`
unfoldable pub sequent_text : Logic → List SignedFormula → List ℕ
sequent_text logic items = joined (codes ", ") (map (item_text logic) items)

-- ---- lines

-- `[Y,c]`, and nothing where there are no terms
abbrev pub terms_text : List Term → List ℕ
terms_text [] = []
terms_text (t ∷ terms) = codes "[" ++ joined (codes ",") (map (λ u. term_text u 0) (t ∷ terms)) ++ codes "]"

-- `1[Y,c]`
unfoldable pub cited_text : Cited → List ℕ
cited_text cited = decimal cited.line ++ terms_text cited.terms

-- ` from 1, 2`, and nothing where no line is cited
abbrev pub premises_text : List Cited → List ℕ
premises_text [] = []
premises_text (cited ∷ premises) = codes " from " ++ joined (codes ", ") (map cited_text (cited ∷ premises))

-- `axiom`, `pending`, `rule 3 on imp(p,q) from 1, 2` and `resolve on p from 1, 2`
abbrev pub reason_text : Logic → Reason → List ℕ
reason_text logic Axiom = codes "axiom"
reason_text logic Pending = codes "pending"
reason_text logic (ByRule rule principal premises) = codes "rule " ++ decimal rule ++ codes " on " ++ formula_text logic principal ++ premises_text premises
reason_text logic (Resolve f left right) = codes "resolve on " ++ formula_text logic f ++ codes " from " ++ decimal left ++ codes ", " ++ decimal right

-- `line 4: imp(p,q)^{t}, q^{f} by resolve on p from 1, 2.` and a line feed
unfoldable pub line_text : Logic → PlainLine → List ℕ
line_text logic line = codes "line " ++ decimal line.number ++ codes ": " ++ sequent_text logic line.sequent ++ codes " by " ++ reason_text logic line.reason ++ codes ".\n"

-- ---- claims

-- `1, 2`
abbrev pub positions_text : List ℕ → List ℕ
positions_text positions = joined (codes ", ") (map decimal positions)

-- `p: u`
unfoldable pub entry_text : Logic → (Formula × ℕ) → List ℕ
entry_text logic entry = formula_text logic entry.0 ++ codes ": " ++ value_text (slice_index_or logic.names entry.1 [])

-- ` proved by 1, 2`, ` refuted at {p: u, q: f}` and ` unfinished by 3`
abbrev pub evidence_text : Logic → Evidence → List ℕ
evidence_text logic (Proved cited) = codes " proved by " ++ positions_text cited
evidence_text logic (Refuted entries) = codes " refuted at {" ++ joined (codes ", ") (map (entry_text logic) entries) ++ codes "}"
evidence_text logic (Unfinished cited) = codes " unfinished by " ++ positions_text cited

-- what is claimed: a query with its evidence, or a sequent with its line, as `p(c)^{f,u,t} holds by 1`
abbrev pub claimed_text : Logic → PlainClaim → List ℕ
claimed_text logic (answer number query evidence) = query_text logic query ++ evidence_text logic evidence
claimed_text logic (holds number sequent line) = sequent_text logic sequent ++ codes " holds by " ++ decimal line

-- `claim 2: entail |- p refuted at {p: f}.` and a line feed
unfoldable pub claim_text : Logic → PlainClaim → List ℕ
claim_text logic claim = codes "claim " ++ decimal (number_of claim) ++ codes ": " ++ claimed_text logic claim ++ codes ".\n"

-- ---- reports

-- a rule with its number, as in the text of a calculus
abbrev pub numbered_text : Logic → PlainNumbered → List ℕ
numbered_text logic numbered = rule_text logic numbered.number numbered.rule

-- the head, the rules, the lines, the claims and the end, each on a line of its own
abbrev pub report_text : Logic → PlainReport → List ℕ
report_text logic report =
    codes "report 1.\n" ++ flat_map (numbered_text logic) report.rules ++ flat_map (line_text logic) report.lines ++ flat_map (claim_text logic) report.claims ++ codes "end.\n"
