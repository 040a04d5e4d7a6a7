-- Words of private calls: cases with the nodes below them, and formulas that aren't too deep.
use Rattle.std.specs.Prelude.{ℕ, ◌+◌, ◌<◌, ◌^◌, List, [], ◌∷◌, ◌++◌, All, codes}
use Rattle.lgc_values.specs.Logic.{Logic}
use Rattle.lgc_syntax.specs.Sizes.{depth}
use Rattle.lgc_tableau.specs.ClosedTableaux.{PlainTableau, PlainCase}
use Rattle.lgc_tableau_text.specs.TableauText.{formulas_of, formulas_in, case_text, node_text}

-- cases of a split behind these blanks, of which the first has this number
abbrev pub cases_text : Logic → List ℕ → ℕ → List PlainCase → List ℕ
cases_text logic blanks number [] = []
cases_text logic blanks number (case ∷ cases) = case_text logic blanks number case.added ++ node_text logic case.below (blanks ++ codes "    ") ++ cases_text logic blanks (number + 1) cases

-- the formulas of a tableau, of a case and of cases can be put
unfoldable pub IsShallow : PlainTableau → Type 0
IsShallow t = All (λ f. depth f < 2 ^ 32) (formulas_of t)

unfoldable pub IsShallowCase : PlainCase → Type 0
IsShallowCase case = All (λ f. depth f < 2 ^ 32) (formulas_in case)

unfoldable pub AreShallow : List PlainCase → Type 0
AreShallow cases = All IsShallowCase cases
