-- The printed form of tableaux: one spelling.
use Rattle.std.specs.Prelude.{ℕ, ◌+◌, Bool, true, false, List, [], ◌∷◌, ◌++◌, map, filter, codes}
use Rattle.std.specs.List.{flat_map}
use Rattle.std.specs.Fmt.{decimal}
use Rattle.lgc_values.specs.Logic.{Logic}
use Rattle.lgc_syntax.specs.declared.formula.Formula.{Formula}
use Rattle.lgc_sequents.specs.Signed.{SignedFormula}
use Rattle.lgc_print.specs.Text.{joined, set_text}
use Rattle.lgc_print.specs.FormulaText.{formula_text}
use Rattle.lgc_report.specs.ReportText.{sequent_text, entry_text}
use Rattle.lgc_tableau.specs.declared.tableau.Tableau.{fold-Tableau}
use Rattle.lgc_tableau.specs.declared.tableau.Tableau.TheOpen.{Tableau-F, Case-F}
use Rattle.lgc_tableau.specs.declared.tableau.Tableau.TheOpen as tableau
use Rattle.lgc_tableau.specs.ClosedTableaux.{PlainTableau, PlainCase}

-- ---- the formulas of a tableau

abbrev pub formulas_layer : Tableau-F SignedFormula (List Formula) (List Formula) → List Formula
formulas_layer (tableau.Closed by) = by ∷ []
formulas_layer (tableau.Split on cases) = on.formula ∷ flat_map (λ formulas. formulas) cases

abbrev pub case_formulas_layer : Case-F SignedFormula (List Formula) (List Formula) → List Formula
case_formulas_layer case = map (λ item. item.formula) case.added ++ case.below

-- the formulas that a tableau names: those by which it is closed, those that are split, and those that the cases add
unfoldable pub formulas_of : PlainTableau → List Formula
formulas_of = fold-Tableau SignedFormula (List Formula) (List Formula) formulas_layer case_formulas_layer

-- those of a case and of the tableau below
abbrev pub formulas_in : PlainCase → List Formula
formulas_in case = map (λ item. item.formula) case.added ++ formulas_of case.below

-- ---- lines

-- the formulas of a goal or of a case with their signs, as `p^{t}, q^{f}`, and `nothing` where there are none
abbrev pub items_text : Logic → List SignedFormula → List ℕ
items_text logic [] = codes "nothing"
items_text logic (item ∷ items) = sequent_text logic (item ∷ items)

-- `closed by p` and a line feed
unfoldable pub closed_text : Logic → Formula → List ℕ
closed_text logic by = codes "closed by " ++ formula_text logic by ++ codes "\n"

-- `split imp(p,q) at {f,u}` and a line feed
unfoldable pub split_text : Logic → SignedFormula → List ℕ
split_text logic on = codes "split " ++ formula_text logic on.formula ++ codes " at " ++ set_text logic.names on.sign ++ codes "\n"

abbrev pub has_members : List ℕ → Bool
has_members [] = false
has_members (v ∷ values) = true

-- the items that hold for some value
abbrev pub with_values : List SignedFormula → List SignedFormula
with_values items = filter (λ item. has_members item.sign) items

-- `  case 2: p^{t}, q^{f}` and a line feed, behind the blanks before the split. An argument without values isn't named.
unfoldable pub case_text : Logic → List ℕ → ℕ → List SignedFormula → List ℕ
case_text logic blanks number added = blanks ++ codes "  case " ++ decimal number ++ codes ": " ++ items_text logic (with_values added) ++ codes "\n"

-- the values of atoms, as `{p: u, q: f}`
abbrev pub entries_text : Logic → List (Formula × ℕ) → List ℕ
entries_text logic entries = codes "{" ++ joined (codes ", ") (map (entry_text logic) entries) ++ codes "}"

-- ---- tableaux

-- the cases of a split behind these blanks, of which the first has this number
abbrev pub numbered_from : ℕ → List (ℕ → List ℕ → List ℕ) → List ℕ → List ℕ
numbered_from number [] blanks = []
numbered_from number (case ∷ cases) blanks = case number blanks ++ numbered_from (number + 1) cases blanks

abbrev pub node_layer : Logic → Tableau-F SignedFormula (List ℕ → List ℕ) (ℕ → List ℕ → List ℕ) → List ℕ → List ℕ
node_layer logic (tableau.Closed by) blanks = blanks ++ closed_text logic by
node_layer logic (tableau.Split on cases) blanks = blanks ++ split_text logic on ++ numbered_from 1 cases blanks

abbrev pub case_layer : Logic → Case-F SignedFormula (List ℕ → List ℕ) (ℕ → List ℕ → List ℕ) → ℕ → List ℕ → List ℕ
case_layer logic case number blanks = case_text logic blanks number case.added ++ case.below (blanks ++ codes "    ")

-- A node behind these blanks, and all below it. The node below a case stands behind four blanks more.
unfoldable pub node_text : Logic → PlainTableau → List ℕ → List ℕ
node_text logic = fold-Tableau SignedFormula (List ℕ → List ℕ) (ℕ → List ℕ → List ℕ) (node_layer logic) (case_layer logic)

-- A tableau on lines of its own. Its first node stands behind two blanks, and so one at depth d behind `4 * d - 2`.
abbrev pub tableau_text : Logic → PlainTableau → List ℕ
tableau_text logic t = node_text logic t (codes "  ")
