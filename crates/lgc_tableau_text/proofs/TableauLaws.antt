-- The text and the formulas of each kind of tableau.
use Rattle.std.proofs.Common.{◌≡◌, ◌≢◌, ℕ, suc, ◌+◌, ◌<◌, ◌^◌, true, false, cond, List, [], ◌∷◌, ◌++◌, map, length, take, get_or, refl, sym, ◌∙◌, ap, subst, append-nil, append_assoc, arith}
use Rattle.std.specs.Prelude.{codes, ◌==◌}
use Rattle.std.specs.List.{flat_map, All}
use Rattle.std.proofs.lemmas.List.{take_more, length-take-le, map-append}
use Rattle.std.proofs.lemmas.List.Elements.{All-head, All-tail, filter_more}
use Rattle.lgc_values.specs.Logic.{Logic}
use Rattle.lgc_syntax.specs.declared.formula.Formula.{Formula}
use Rattle.lgc_syntax.specs.Sizes.{depth}
use Rattle.lgc_sequents.specs.Signed.{SignedFormula}
use Rattle.lgc_meaning.proofs.Parts.{All-left, All-right, All-flat_map}
use Rattle.lgc_report.proofs.ReportLaws.{All-of_map}
use Rattle.lgc_print.specs.Text.{joined}
use Rattle.lgc_print.proofs.TextLaws.{between}
use Rattle.lgc_report.specs.ReportText.{item_text, sequent_text}
use Rattle.lgc_tableau.specs.declared.tableau.Tableau.{Closed, Split, fold-Tableau, fold-roll-Tableau}
use Rattle.lgc_tableau.specs.declared.tableau.Case.{fold-Case, fold-roll-Case}
use Rattle.lgc_tableau.specs.declared.tableau.Tableau.TheVariants.{rolls-Closed, rolls-Split}
use Rattle.lgc_tableau.specs.declared.tableau.Tableau.TheOpen as tableau
use Rattle.lgc_tableau.specs.ClosedTableaux.{PlainTableau, PlainCase}
use Rattle.lgc_tableau_text.specs.TableauText.{formulas_layer, case_formulas_layer, formulas_of, formulas_in, items_text, has_members, with_values, closed_text, split_text, case_text, numbered_from, node_layer, case_layer, node_text}
use Rattle.lgc_tableau_text.specs.Work.{cases_text, IsShallow, IsShallowCase, AreShallow}

-- ---- items

pub items_none : (logic : Logic) (items : List SignedFormula) → length items ≡ 0 → items_text logic items ≡ codes "nothing"
items_none logic [] none = refl
items_none logic (x ∷ items) none = absurd (omega arith)

pub items_some : (logic : Logic) (items : List SignedFormula) → length items ≢ 0 → items_text logic items ≡ sequent_text logic items
items_some logic [] some = absurd (some refl)
items_some logic (x ∷ items) some = refl

-- ---- the items of a case

members : (set : List ℕ) → set ≢ [] → has_members set ≡ true
members [] some = absurd (some refl)
members (v ∷ values) some = refl

more_of : (added : List SignedFormula) (i : ℕ) (item : SignedFormula) → i < length added → item ≡ get_or added i item → with_values (take (i + 1) added) ≡ with_values (take i added) ++ cond (has_members item.sign) (item ∷ []) []
more_of added i item lt is =
    filter_more (λ (x : SignedFormula). has_members x.sign) added i item lt ∙ ap (λ (x : SignedFormula). with_values (take i added) ++ cond (has_members x.sign) (x ∷ []) []) (sym is)

-- an item with values is named behind those before
item_kept : (added : List SignedFormula) (i : ℕ) (item : SignedFormula) → i < length added → item ≡ get_or added i item → item.sign ≢ [] → with_values (take (i + 1) added) ≡ with_values (take i added) ++ item ∷ []
item_kept added i item lt is some = more_of added i item lt is ∙ ap (λ b. with_values (take i added) ++ cond b (item ∷ []) []) (members item.sign some)

-- one without isn't
item_passed : (added : List SignedFormula) (i : ℕ) (item : SignedFormula) → i < length added → item ≡ get_or added i item → item.sign ≡ [] → with_values (take (i + 1) added) ≡ with_values (take i added)
item_passed added i item lt is none = more_of added i item lt is ∙ ap (λ set. with_values (take i added) ++ cond (has_members set) (item ∷ []) []) none ∙ append-nil (with_values (take i added))

pub texts_kept : (logic : Logic) (added : List SignedFormula) (i : ℕ) (item : SignedFormula) → i < length added → item ≡ get_or added i item → item.sign ≢ [] → map (item_text logic) (with_values (take (i + 1) added)) ≡ map (item_text logic) (with_values (take i added)) ++ item_text logic item ∷ []
texts_kept logic added i item lt is some = ap (map (item_text logic)) (item_kept added i item lt is some) ∙ map-append (item_text logic) (with_values (take i added)) (item ∷ [])

pub texts_passed : (logic : Logic) (added : List SignedFormula) (i : ℕ) (item : SignedFormula) → i < length added → item ≡ get_or added i item → item.sign ≡ [] → map (item_text logic) (with_values (take (i + 1) added)) ≡ map (item_text logic) (with_values (take i added))
texts_passed logic added i item lt is none = ap (map (item_text logic)) (item_passed added i item lt is none)

-- where a comma follows, something is named
pub items_by_commas : (logic : Logic) (items : List SignedFormula) (separator : List ℕ) → separator ≡ between (codes ", ") (map (item_text logic) items) → (length separator == 0) ≡ false → items_text logic items ≡ joined (codes ", ") (map (item_text logic) items)
unfolding sequent_text
items_by_commas logic [] separator is some = let none : (length separator == 0) ≡ true = ap (λ (s : List ℕ). length s == 0) is in absurd cc
items_by_commas logic (x ∷ items) separator is some = refl

-- ---- the text

module _ (A B : Type 0) (step : tableau.Tableau-F SignedFormula A B → A) (case_step : tableau.Case-F SignedFormula A B → B) where
  fold-Closed : (by : Formula) → fold-Tableau SignedFormula A B step case_step (Closed by) ≡ step (tableau.Closed by)
  fold-Closed by = ap (fold-Tableau SignedFormula A B step case_step) (sym (rolls-Closed by)) ∙ fold-roll-Tableau SignedFormula A B step case_step (tableau.Closed by)

  fold-Split : (on : SignedFormula) (cases : List PlainCase) → fold-Tableau SignedFormula A B step case_step (Split on cases) ≡ step (tableau.Split on (map (fold-Case SignedFormula A B step case_step) cases))
  fold-Split on cases = ap (fold-Tableau SignedFormula A B step case_step) (sym (rolls-Split on cases)) ∙ fold-roll-Tableau SignedFormula A B step case_step (tableau.Split on cases)

  fold-case : (case : PlainCase) → fold-Case SignedFormula A B step case_step case ≡ case_step (record { added = case.added; below = fold-Tableau SignedFormula A B step case_step case.below })
  fold-case case = fold-roll-Case SignedFormula A B step case_step (record { added = case.added; below = case.below })

pub node-Closed : (logic : Logic) (by : Formula) (blanks : List ℕ) → node_text logic (Closed by) blanks ≡ blanks ++ closed_text logic by
unfolding node_text
node-Closed logic by blanks = ap (λ g. g blanks) (fold-Closed (List ℕ → List ℕ) (ℕ → List ℕ → List ℕ) (node_layer logic) (case_layer logic) by)

texts_of_cases : (logic : Logic) (cases : List PlainCase) (number : ℕ) (blanks : List ℕ)
    → numbered_from number (map (fold-Case SignedFormula (List ℕ → List ℕ) (ℕ → List ℕ → List ℕ) (node_layer logic) (case_layer logic)) cases) blanks ≡ cases_text logic blanks number cases
unfolding node_text
texts_of_cases logic [] number blanks = refl
texts_of_cases logic (case ∷ cases) number blanks =
    ap (λ g. g number blanks ++ numbered_from (number + 1) (map (fold-Case SignedFormula (List ℕ → List ℕ) (ℕ → List ℕ → List ℕ) (node_layer logic) (case_layer logic)) cases) blanks) (fold-case (List ℕ → List ℕ) (ℕ → List ℕ → List ℕ) (node_layer logic) (case_layer logic) case)
    ∙ ap (λ t. case_text logic blanks number case.added ++ node_text logic case.below (blanks ++ codes "    ") ++ t) (texts_of_cases logic cases (number + 1) blanks)

pub node-Split : (logic : Logic) (on : SignedFormula) (cases : List PlainCase) (blanks : List ℕ) → node_text logic (Split on cases) blanks ≡ blanks ++ split_text logic on ++ cases_text logic blanks 1 cases
unfolding node_text
node-Split logic on cases blanks =
    ap (λ g. g blanks) (fold-Split (List ℕ → List ℕ) (ℕ → List ℕ → List ℕ) (node_layer logic) (case_layer logic) on cases) ∙ ap (λ t. blanks ++ split_text logic on ++ t) (texts_of_cases logic cases 1 blanks)

-- one case more
pub cases_more : (logic : Logic) (blanks : List ℕ) (number : ℕ) (cases : List PlainCase) (case : PlainCase) → cases_text logic blanks number (cases ++ case ∷ []) ≡ cases_text logic blanks number cases ++ (case_text logic blanks (number + length cases) case.added ++ node_text logic case.below (blanks ++ codes "    "))
cases_more logic blanks number [] case =
    append-nil (case_text logic blanks number case.added ++ node_text logic case.below (blanks ++ codes "    ")) ∙ ap (λ k. case_text logic blanks k case.added ++ node_text logic case.below (blanks ++ codes "    ")) none_more where
      none_more : number ≡ number + 0
      none_more = omega arith
cases_more logic blanks number (x ∷ cases) case =
    let n : number + 1 + length cases ≡ number + suc (length cases) = omega arith in
    let first = case_text logic blanks number x.added ++ node_text logic x.below (blanks ++ codes "    ") in
    let rest = cases_text logic blanks (number + 1) cases in
    let last : ℕ → List ℕ = λ k. case_text logic blanks k case.added ++ node_text logic case.below (blanks ++ codes "    ") in
    ap (λ t. first ++ t) (cases_more logic blanks (number + 1) cases case ∙ ap (λ k. rest ++ last k) n) ∙ sym (append_assoc first rest (last (number + suc (length cases))))

-- ---- what is put

-- the case at a place, with the node below it
pub case_put : (logic : Logic) (blanks below : List ℕ) (cases : List PlainCase) (j : ℕ) (case : PlainCase) (added : List SignedFormula) (node : PlainTableau) (start before middle after : List ℕ) → j < length cases → case ≡ get_or cases j case → added ≡ case.added → node ≡ case.below → below ≡ blanks ++ codes "    "
    → before ≡ start ++ cases_text logic blanks 1 (take j cases) → middle ≡ before ++ case_text logic blanks (j + 1) added → after ≡ middle ++ node_text logic node below → after ≡ start ++ cases_text logic blanks 1 (take (j + 1) cases)
case_put logic blanks below cases j case added node start before middle after lt is added_is node_is deeper so_far line nodes =
    let one : take (j + 1) cases ≡ take j cases ++ case ∷ [] = take_more cases j case lt ∙ ap (λ c. take j cases ++ c ∷ []) (sym is) in
    let counted : 1 + length (take j cases) ≡ j + 1 = omega (arith, length-take-le j cases (omega (arith, lt))) in
    let a = case_text logic blanks (j + 1) case.added in
    let b = node_text logic case.below (blanks ++ codes "    ") in
    let texts = cases_text logic blanks 1 (take j cases) in
    nodes ∙ ap (λ t. middle ++ node_text logic t below) node_is ∙ ap (λ s. middle ++ node_text logic case.below s) deeper
    ∙ ap (λ s. s ++ b) (line ∙ ap (λ items. before ++ case_text logic blanks (j + 1) items) added_is ∙ ap (λ s. s ++ a) so_far) ∙ append_assoc (start ++ texts) a b ∙ append_assoc start texts (a ++ b)
    ∙ ap (λ s. start ++ s) (ap (λ k. texts ++ (case_text logic blanks k case.added ++ b)) (sym counted) ∙ sym (cases_more logic blanks 1 (take j cases) case) ∙ ap (cases_text logic blanks 1) (sym one))

-- a node that is closed
pub closed_put : (logic : Logic) (t : PlainTableau) (by : Formula) (blanks start middle after : List ℕ) → t ≡ Closed by → middle ≡ start ++ blanks → after ≡ middle ++ closed_text logic by → after ≡ start ++ node_text logic t blanks
closed_put logic t by blanks start middle after is behind line =
    line ∙ ap (λ s. s ++ closed_text logic by) behind ∙ append_assoc start blanks (closed_text logic by) ∙ ap (λ s. start ++ s) (sym (ap (λ u. node_text logic u blanks) is ∙ node-Closed logic by blanks))

-- a node that is split, with its cases
pub split_put : (logic : Logic) (t : PlainTableau) (on : SignedFormula) (cases given : List PlainCase) (blanks start middle line after : List ℕ) → t ≡ Split on cases → given ≡ cases → middle ≡ start ++ blanks → line ≡ middle ++ split_text logic on → after ≡ line ++ cases_text logic blanks 1 given → after ≡ start ++ node_text logic t blanks
split_put logic t on cases given blanks start middle line after is same behind split rest =
    let texts = cases_text logic blanks 1 cases in
    rest ∙ ap (λ cs. line ++ cases_text logic blanks 1 cs) same ∙ ap (λ s. s ++ texts) (split ∙ ap (λ s. s ++ split_text logic on) behind ∙ append_assoc start blanks (split_text logic on))
    ∙ append_assoc start (blanks ++ split_text logic on) texts ∙ ap (λ s. start ++ s) (sym (ap (λ u. node_text logic u blanks) is ∙ node-Split logic on cases blanks))

-- ---- the formulas

pub formulas-Closed : (by : Formula) → formulas_of (Closed by) ≡ by ∷ []
unfolding formulas_of
formulas-Closed by = fold-Closed (List Formula) (List Formula) formulas_layer case_formulas_layer by

formulas_of_cases : (cases : List PlainCase) → flat_map (λ formulas. formulas) (map (fold-Case SignedFormula (List Formula) (List Formula) formulas_layer case_formulas_layer) cases) ≡ flat_map formulas_in cases
unfolding formulas_of
formulas_of_cases [] = refl
formulas_of_cases (case ∷ cases) =
    ap (λ fs. fs ++ flat_map (λ formulas. formulas) (map (fold-Case SignedFormula (List Formula) (List Formula) formulas_layer case_formulas_layer) cases)) (fold-case (List Formula) (List Formula) formulas_layer case_formulas_layer case)
    ∙ ap (λ fs. formulas_in case ++ fs) (formulas_of_cases cases)

pub formulas-Split : (on : SignedFormula) (cases : List PlainCase) → formulas_of (Split on cases) ≡ on.formula ∷ flat_map formulas_in cases
unfolding formulas_of
formulas-Split on cases = fold-Split (List Formula) (List Formula) formulas_layer case_formulas_layer on cases ∙ ap (λ fs. on.formula ∷ fs) (formulas_of_cases cases)

-- ---- formulas that aren't too deep

pub shallow_by : (t : PlainTableau) (by : Formula) → t ≡ Closed by → IsShallow t → depth by < 2 ^ 32
unfolding IsShallow
shallow_by t by is shallow = All-head (λ f. depth f < 2 ^ 32) by [] (subst (All (λ f. depth f < 2 ^ 32)) (ap formulas_of is ∙ formulas-Closed by) shallow)

pub shallow_on : (t : PlainTableau) (on : SignedFormula) (cases : List PlainCase) → t ≡ Split on cases → IsShallow t → depth on.formula < 2 ^ 32
unfolding IsShallow
shallow_on t on cases is shallow = All-head (λ f. depth f < 2 ^ 32) on.formula (flat_map formulas_in cases) (subst (All (λ f. depth f < 2 ^ 32)) (ap formulas_of is ∙ formulas-Split on cases) shallow)

pub shallow_cases : (t : PlainTableau) (on : SignedFormula) (cases : List PlainCase) → t ≡ Split on cases → IsShallow t → AreShallow cases
unfolding IsShallow IsShallowCase AreShallow
shallow_cases t on cases is shallow =
    All-flat_map (λ f. depth f < 2 ^ 32) formulas_in cases (All-tail (λ f. depth f < 2 ^ 32) on.formula (flat_map formulas_in cases) (subst (All (λ f. depth f < 2 ^ 32)) (ap formulas_of is ∙ formulas-Split on cases) shallow))

pub shallow_case : (cases : List PlainCase) (j : ℕ) (case : PlainCase) → j < length cases → case ≡ get_or cases j case → AreShallow cases → IsShallowCase case
unfolding AreShallow
shallow_case cases j case lt is shallow = subst IsShallowCase (sym is) (shallow j case lt)

pub shallow_added : (case : PlainCase) (added : List SignedFormula) → added ≡ case.added → IsShallowCase case → All (λ item. depth item.formula < 2 ^ 32) added
unfolding IsShallowCase
shallow_added case added is shallow =
    subst (All (λ (item : SignedFormula). depth item.formula < 2 ^ 32)) (sym is)
    (All-of_map (λ f. depth f < 2 ^ 32) (λ (item : SignedFormula). item.formula) case.added (All-left (λ f. depth f < 2 ^ 32) (map (λ item. item.formula) case.added) (formulas_of case.below) shallow))

pub shallow_below : (case : PlainCase) (below : PlainTableau) → below ≡ case.below → IsShallowCase case → IsShallow below
unfolding IsShallow IsShallowCase
shallow_below case below is shallow = subst (λ (t : PlainTableau). All (λ f. depth f < 2 ^ 32) (formulas_of t)) (sym is) (All-right (λ f. depth f < 2 ^ 32) (map (λ item. item.formula) case.added) (formulas_of case.below) shallow)

pub shallow_root : (t : PlainTableau) → All (λ f. depth f < 2 ^ 32) (formulas_of t) → IsShallow t
unfolding IsShallow
shallow_root t all = all
