-- The formula that is split next, and what is made below it.
use Rattle.std.proofs.Common.{◌≡◌, ◌≢◌, ℕ, ◌+◌, ◌*◌, ◌<◌, Bool, false, List, [], ◌++◌, length, get_or, set, slice_get, Some, ap, sym, ◌∙◌, subst, arith}
use Rattle.std.specs.List.{All}
use Rattle.std.proofs.lemmas.Option.{slice_get_within}
use Rattle.lgc_values.specs.Logic.{Logic, IsLogic}
use Rattle.lgc_clauses.specs.Rules.{OperatorRule}
use Rattle.lgc_syntax.specs.declared.formula.Formula.{Formula, Op}
use Rattle.lgc_syntax.specs.Fits.{Fits}
use Rattle.lgc_calculus.specs.RuleBook.{IsRightBook}
use Rattle.lgc_numbering.specs.declared.node.Node.{Node}
use Rattle.lgc_numbering.specs.Numbering.{IsNumbering, AreNodesOf}
use Rattle.lgc_lemmas.specs.Steps.{IsGrown}
use Rattle.lgc_tableau.specs.declared.tableau.Tableau.{Split}
use Rattle.lgc_tableau.specs.ClosedTableaux.{PlainTableau, PlainCase}
use Rattle.lgc_tableau_build.specs.Numbers.{AreSigns, IsNoneFull, IsFree}
use Rattle.lgc_tableau_build.specs.Building.{AreLeft, IsBranch, IsOpened, IsExpanded, IsMade, AreMade, left_count}
use Rattle.lgc_tableau_build.proofs.NumberLaws.{rest_left, left_count-set}
use Rattle.lgc_tableau_build.proofs.ClosingLaws.{signs_at, skipped, skip_made, branches, split_made}

pub opened_at : (logic : Logic) (n : ℕ) → logic.size ≡ n → (formulas : List Formula) (nodes : List Node) → AreNodesOf formulas nodes → (left : List Bool) → AreLeft formulas left → (branch : List (ℕ × List ℕ)) (signs : List (List ℕ)) → length signs ≡ length formulas → AreSigns n branch signs
    → (read : List Bool) → read ≡ left → (k : ℕ) → IsFree nodes read k → (sign : List ℕ) → sign ≡ get_or signs k sign → (rest : List Bool) → rest ≡ set read k false → IsOpened logic formulas left branch k sign rest
opened_at logic n size formulas nodes are left are_left branch signs count are_signs read same k free sign at rest is =
    let own : IsFree nodes left k = subst (λ l. IsFree nodes l k) same free in
    record {
      nodes = nodes;
      are = are;
      free = own;
      signed = signs_at logic n size formulas nodes are left are_left branch signs (count ∙ sym are.count) are_signs k own.is sign at;
      is = is ∙ ap (λ l. set l k false) same;
    }

module _ (logic : Logic) (formulas : List Formula) (numbering : IsNumbering formulas) (left : List Bool) (are_left : AreLeft formulas left) (branch : List (ℕ × List ℕ)) (k : ℕ) (sign : List ℕ) (rest : List Bool) (opened : IsOpened logic formulas left branch k sign rest) where
  pub opened_left : AreLeft formulas rest
  opened_left = subst (AreLeft formulas) (sym opened.is) (rest_left formulas numbering opened.nodes opened.are left are_left k opened.free)

  pub opened_compound : (op : ℕ) × (args : List Formula) × (slice_get formulas k ≡ Some (Op op args))
  opened_compound = are_left.compounds k opened.free.is

  pub opened_number : k < length formulas
  opened_number = slice_get_within formulas k (Op opened_compound.0 opened_compound.1) opened_compound.2

  pub opened_falls : 2 * left_count rest + 2 < 2 * left_count left + 1
  opened_falls =
      let fewer : left_count rest + 1 ≡ left_count left = ap (λ l. left_count l + 1) opened.is ∙ left_count-set left k opened.free.is in
      omega (arith, fewer)

  module _ (is : IsLogic logic) (fit : All (Fits logic) formulas) (is_branch : IsBranch logic formulas left branch) where
    pub opened_skipped : sign ≡ [] → IsBranch logic formulas rest branch
    opened_skipped none = subst (λ l. IsBranch logic formulas l branch) (sym opened.is) (skipped logic is formulas numbering fit opened.nodes opened.are left are_left branch is_branch k opened.free sign opened.signed none)

    pub opened_skip_made : (below : List Bool) → below ≡ rest → (pairs : List (ℕ × List ℕ)) → pairs ≡ branch → (rules : List OperatorRule) (t : PlainTableau) → IsMade logic rules formulas below pairs t → IsMade logic rules formulas left branch t
    opened_skip_made below is_below pairs are_pairs rules t made =
        skip_made logic is formulas numbering fit opened.nodes opened.are left are_left branch is_branch k opened.free sign opened.signed rules t
        (subst (λ l. IsMade logic rules formulas l branch t) (is_below ∙ opened.is) (subst (λ b. IsMade logic rules formulas below b t) are_pairs made))

    module _ (rules : List OperatorRule) (right : IsRightBook logic rules) (additions : List (List (ℕ × List ℕ))) (expanded : IsExpanded rules formulas k sign additions) where
      pub opened_branches : All (λ added. IsBranch logic formulas rest (branch ++ added)) additions
      opened_branches = subst (λ l. All (λ added. IsBranch logic formulas l (branch ++ added)) additions) (sym opened.is)
          (branches logic is formulas numbering fit opened.nodes opened.are left are_left branch is_branch k opened.free sign opened.signed rules right additions expanded)

      pub opened_made : (new : List OperatorRule) → IsGrown OperatorRule rules new → sign ≢ [] → IsNoneFull logic.size branch → (g : Formula) → slice_get formulas k ≡ Some g → (cases : List PlainCase)
          → AreMade logic new formulas rest branch additions cases → IsMade logic new formulas left branch (Split (record { formula = g; sign = sign }) cases)
      opened_made new grown some none g at cases made =
          split_made logic is formulas numbering fit opened.nodes opened.are left are_left branch is_branch k opened.free sign opened.signed rules right additions expanded new grown some none g at cases
          (subst (λ l. AreMade logic new formulas l branch additions cases) opened.is made)
