-- Laws of the text of reports, and what is true of the parts of a report.
use Rattle.std.proofs.Common.{◌≡◌, ◌≢◌, ℕ, List, [], ◌∷◌, ◌++◌, ◌<◌, map, refl, ap, append_assoc, ◌∙◌}
use Rattle.std.specs.Prelude.{codes}
use Rattle.std.specs.List.{All, flat_map}
use Rattle.std.proofs.lemmas.List.Elements.{All-nil, All-cons, All-head, All-tail, All-weaker}
use Rattle.lgc_values.specs.Logic.{Logic}
use Rattle.lgc_syntax.specs.declared.formula.Term.{Term}
use Rattle.lgc_syntax.specs.declared.formula.Formula.{Formula}
use Rattle.lgc_syntax.specs.Fits as syntax
use Rattle.lgc_clauses.specs.Rules.{Fits}
use Rattle.lgc_clauses.specs.Kinds.{plain_rule}
use Rattle.lgc_clauses.specs.declared.rule.Numbered.{Numbered}
use Rattle.lgc_meaning.proofs.Parts.{All-left, All-right, All-flat_map}
use Rattle.lgc_print.specs.Text.{joined}
use Rattle.lgc_print.specs.FormulaText.{term_text}
use Rattle.lgc_sequents.specs.Lines.{PlainLine, formulas_of, named_by}
use Rattle.lgc_sequents.specs.declared.line.Cited.{Cited}
use Rattle.lgc_report.specs.Reports.{PlainReport, plain_numbered, formulas_of_claim, formulas_of_report, FitsRule}
use Rattle.lgc_report.specs.ReportText.{terms_text, cited_text, premises_text, positions_text}

-- ---- texts that are there where something is

pub some_terms : (terms : List Term) → terms ≢ [] → terms_text terms ≡ codes "[" ++ joined (codes ",") (map (λ t. term_text t 0) terms) ++ codes "]"
some_terms [] some = absurd (some refl)
some_terms (t ∷ terms) some = refl

pub no_terms : (terms : List Term) → terms ≡ [] → terms_text terms ≡ []
no_terms [] none = refl
no_terms (t ∷ terms) none = cc

pub some_premises : (premises : List Cited) → premises ≢ [] → premises_text premises ≡ codes " from " ++ joined (codes ", ") (map cited_text premises)
some_premises [] some = absurd (some refl)
some_premises (cited ∷ premises) some = refl

pub no_premises : (premises : List Cited) → premises ≡ [] → premises_text premises ≡ []
no_premises [] none = refl
no_premises (cited ∷ premises) none = cc

-- lines are cited behind a word
pub cited_behind : (word before with_word after listed cited : List ℕ) → with_word ≡ before ++ word → listed ≡ cited → after ≡ with_word ++ positions_text listed → after ≡ before ++ (word ++ positions_text cited)
cited_behind word before with_word after listed cited put same put_positions =
    put_positions ∙ ap (λ listed. with_word ++ positions_text listed) same ∙ ap (λ text. text ++ positions_text cited) put ∙ append_assoc before word (positions_text cited)

-- ---- what is true of each

pub All-of_map : {X Y : Type 0} (P : Y → Type 0) (f : X → Y) (xs : List X) → All P (map f xs) → All (λ x. P (f x)) xs
All-of_map P f [] all = All-nil (λ x. P (f x))
All-of_map P f (x ∷ xs) all = All-cons (λ x. P (f x)) x xs (All-head P (f x) (map f xs) all) (All-of_map P f xs (All-tail P (f x) (map f xs) all))

-- what is true of each formula of a line is true of those of its sequent, and of the one that its reason names
pub formulas_of_sequent : (P : Formula → Type 0) (line : PlainLine) → All P (formulas_of line) → All (λ item. P item.formula) line.sequent
formulas_of_sequent P line all = All-of_map P (λ item. item.formula) line.sequent (All-left P (map (λ item. item.formula) line.sequent) (named_by line.reason) all)

pub formulas_of_reason : (P : Formula → Type 0) (line : PlainLine) → All P (formulas_of line) → All P (named_by line.reason)
formulas_of_reason P line all = All-right P (map (λ item. item.formula) line.sequent) (named_by line.reason) all

-- what is true of each formula of a report is true of those of each line, and of each claim
pub formulas_of_lines : (P : Formula → Type 0) (report : PlainReport) → All P (formulas_of_report report) → All (λ line. All P (formulas_of line)) report.lines
formulas_of_lines P report all = All-flat_map P formulas_of report.lines (All-left P (flat_map formulas_of report.lines) (flat_map formulas_of_claim report.claims) all)

pub formulas_of_claims : (P : Formula → Type 0) (report : PlainReport) → All P (formulas_of_report report) → All (λ claim. All P (formulas_of_claim claim)) report.claims
formulas_of_claims P report all = All-flat_map P formulas_of_claim report.claims (All-right P (flat_map formulas_of report.lines) (flat_map formulas_of_claim report.claims) all)

-- a valuation of the logic has truth values
pub values_below : (logic : Logic) (entries : List (Formula × ℕ)) → All (λ entry. syntax.Fits logic entry.0 × (entry.1 < logic.size)) entries → All (λ entry. entry.1 < logic.size) entries
values_below logic entries fit = All-weaker (λ entry. syntax.Fits logic entry.0 × (entry.1 < logic.size)) (λ entry. entry.1 < logic.size) (λ entry fits. fits.1) entries fit

-- each rule of a report of the logic fits
pub rules_fit : {n : ℕ} (logic : Logic) (rules : List (Numbered n)) → All (λ numbered. FitsRule logic numbered.rule) (map plain_numbered rules) → All (λ numbered. Fits logic (plain_rule numbered.rule)) rules
rules_fit logic rules all =
    All-weaker (λ numbered. FitsRule logic (plain_rule numbered.rule)) (λ numbered. Fits logic (plain_rule numbered.rule)) (λ numbered rule. rule.fits) rules (All-of_map (λ numbered. FitsRule logic numbered.rule) plain_numbered rules all)
