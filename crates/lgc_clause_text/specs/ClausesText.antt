-- The text of the signed clauses of queries.
use Rattle.std.specs.Prelude.{◌≡◌, ℕ, true, List, [], ◌∷◌, ◌++◌, map, All, AllPairs, codes}
use Rattle.std.specs.Fmt.{decimal}
use Rattle.lgc_values.specs.Logic.{Logic}
use Rattle.lgc_clauses.specs.Rules.{OperatorRule}
use Rattle.lgc_sequents.specs.Signed.{SignedFormula}
use Rattle.lgc_print.specs.Text.{joined, set_text}
use Rattle.lgc_print.specs.FormulaText.{formula_text}
use Rattle.lgc_report.specs.ReportText.{sequent_text}
use Rattle.lgc_meaning.specs.declared.query.Query.{Query}
use Rattle.lgc_calculus.specs.RuleBook.{IsRightBook}
use Rattle.lgc_translate.specs.Covering.{covers}
use Rattle.lgc_translate.specs.SignedClauses.{AreLeastClauses, IsClauseOver, AreApart, IsClauseSet}
use Rattle.lgc_clause_text.specs.Items.{GoalItem, items_of_queries}

-- ---- lines

-- `p^{f}, q^{u,t}`, and `0` for the clause without atoms
abbrev pub clause_text : Logic → List SignedFormula → List ℕ
clause_text logic [] = codes "0"
clause_text logic (item ∷ items) = sequent_text logic (item ∷ items)

-- `[p^{f}, q^{u,t}; p^{f,u}, q^{t}]`
unfoldable pub clauses_text : Logic → List (List SignedFormula) → List ℕ
clauses_text logic clauses = codes "[" ++ joined (codes "; ") (map (clause_text logic) clauses) ++ codes "]"

-- `goal 1.1 item 2`
unfoldable pub place_text : ℕ → ℕ → ℕ → List ℕ
place_text query goal item = codes "goal " ++ decimal query ++ codes "." ++ decimal goal ++ codes " item " ++ decimal item

-- `goal 1.1 item 2: imp(p,q) at {t}: [p^{f}, q^{u,t}; p^{f,u}, q^{t}].` and a line feed
unfoldable pub line_text : Logic → GoalItem → List (List SignedFormula) → List ℕ
line_text logic item clauses = place_text item.query item.goal item.item ++ codes ": " ++ formula_text logic item.formula ++ codes " at " ++ set_text logic.names item.sign ++ codes ": " ++ clauses_text logic clauses ++ codes ".\n"

-- ---- the clauses of an item

-- The rules cover the item's formula at its sign, and the clauses are the least ones to which they lead, in some order. They are a clause set of the
-- formula at the sign, of atoms of the formula, and none subsumes another one.
pub record AreClausesOf (logic : Logic) (rules : List OperatorRule) (item : GoalItem) (clauses : List (List SignedFormula)) : Type 0 where
  pub covered : covers logic.size rules item.formula item.sign ≡ true
  pub least : AreLeastClauses logic.size rules item.formula item.sign clauses
  pub truth : IsClauseSet logic item.formula item.sign clauses
  pub formed : All (IsClauseOver logic.size item.formula) clauses
  pub apart : AllPairs AreApart clauses

-- ---- the text

-- there is a line for each item, in order, with its clauses
abbrev pub AreLines : Logic → List OperatorRule → List GoalItem → List ℕ → Type 0
AreLines logic rules [] text = text ≡ []
AreLines logic rules (item ∷ items) text = (clauses : List (List SignedFormula)) × (rest : List ℕ) × AreClausesOf logic rules item clauses × (text ≡ line_text logic item clauses ++ rest) × AreLines logic rules items rest

-- The text has the clauses of each item of each goal of the queries, by the rules of one right book for all of it.
pub record IsClausesText (logic : Logic) (queries : List Query) (text : List ℕ) : Type 0 where
  pub rules : List OperatorRule
  pub right : IsRightBook logic rules
  pub lines : AreLines logic rules (items_of_queries logic 1 queries) text
