-- Lines put one after another, by rules that are kept.
use Rattle.std.proofs.Common.{◌≡◌, ℕ, ◌+◌, ◌<◌, List, [], ◌∷◌, ◌++◌, length, get_or, take, refl, ap, sym, ◌∙◌, subst, arith, append_assoc}
use Rattle.std.proofs.lemmas.List.{append-nil, take_more, length-take-le}
use Rattle.lgc_values.specs.Logic.{Logic}
use Rattle.lgc_clauses.specs.Rules.{OperatorRule}
use Rattle.lgc_sequents.specs.Signed.{SignedFormula}
use Rattle.lgc_meaning.specs.declared.query.Query.{Query}
use Rattle.lgc_goals.specs.Goals.{complement, goals_of}
use Rattle.lgc_translate.proofs.GrowthLaws.{covers_kept, least_kept}
use Rattle.lgc_clause_text.specs.Items.{GoalItem, items_of_goal, items_of_goals, items_of_queries}
use Rattle.lgc_clause_text.specs.ClausesText.{line_text, AreClausesOf, AreLines}
use Rattle.lgc_clause_text.specs.Put.{ArePut}

-- ---- one after another

lines_further : (logic : Logic) (rules : List OperatorRule) (items others : List GoalItem) (text more : List ℕ) → AreLines logic rules items text → AreLines logic rules others more → AreLines logic rules (items ++ others) (text ++ more)
lines_further logic rules [] others text more are rest = subst (AreLines logic rules others) (sym (ap (λ t. t ++ more) are)) rest
lines_further logic rules (item ∷ items) others text more are rest =
    (are.0, are.1 ++ more, are.2, ap (λ t. t ++ more) are.3 ∙ append_assoc (line_text logic item are.0) are.1 more, lines_further logic rules items others are.1 more are.4 rest)

-- with further rules
lines_kept : (logic : Logic) (old new : List OperatorRule) (items : List GoalItem) (text : List ℕ) → take (length old) new ≡ old → AreLines logic old items text → AreLines logic new items text
lines_kept logic old new [] text kept are = are
lines_kept logic old new (item ∷ items) text kept are =
    let of = are.2 in (
      are.0,
      are.1,
      record {
        covered = covers_kept logic.size old new kept item.formula item.sign of.covered;
        least = least_kept logic.size old new kept item.formula item.sign are.0 of.covered of.least;
        truth = of.truth;
        formed = of.formed;
        apart = of.apart;
      },
      are.3,
      lines_kept logic old new items are.1 kept are.4,
    )

pub none_put : (logic : Logic) (rules : List OperatorRule) (text : List ℕ) → ArePut logic rules [] text text
none_put logic rules text = record { text = []; put = sym (append-nil text); lines = refl }

pub put_further : (logic : Logic) (old new : List OperatorRule) (items others all : List GoalItem) (first mid last : List ℕ) → take (length old) new ≡ old → all ≡ items ++ others → ArePut logic old items first mid → ArePut logic new others mid last → ArePut logic new all first last
put_further logic old new items others all first mid last kept is put more = record {
  text = put.text ++ more.text;
  put = more.put ∙ ap (λ t. t ++ more.text) put.put ∙ append_assoc first put.text more.text;
  lines = subst (λ l. AreLines logic new l (put.text ++ more.text)) (sym is) (lines_further logic new items others put.text more.text (lines_kept logic old new items put.text kept put.lines) more.lines);
}

-- the line of an item
pub one_put : (logic : Logic) (rules : List OperatorRule) (item : GoalItem) (clauses : List (List SignedFormula)) (old new : List ℕ) → AreClausesOf logic rules item clauses → new ≡ old ++ line_text logic item clauses → ArePut logic rules (item ∷ []) old new
one_put logic rules item clauses old new are is = record { text = line_text logic item clauses; put = is; lines = (clauses, [], are, sym (append-nil (line_text logic item clauses)), refl) }

-- ---- one more item, goal and query

push_item : (logic : Logic) (query goal number : ℕ) (items : List SignedFormula) (x : SignedFormula)
    → items_of_goal logic query goal number (items ++ x ∷ []) ≡ items_of_goal logic query goal number items ++ record { query = query; goal = goal; item = number + length items; formula = x.formula; sign = complement logic.size x.sign } ∷ []
push_item logic query goal number [] x = ap (λ (k : ℕ). record { query = query; goal = goal; item = k; formula = x.formula; sign = complement logic.size x.sign } ∷ []) (omega arith)
push_item logic query goal number (y ∷ items) x =
    ap (λ l. record { query = query; goal = goal; item = number; formula = y.formula; sign = complement logic.size y.sign } ∷ l)
    (push_item logic query goal (number + 1) items x ∙ ap (λ (k : ℕ). items_of_goal logic query goal (number + 1) items ++ record { query = query; goal = goal; item = k; formula = x.formula; sign = complement logic.size x.sign } ∷ []) (omega arith))

push_goal : (logic : Logic) (query number : ℕ) (goals : List (List SignedFormula)) (x : List SignedFormula) → items_of_goals logic query number (goals ++ x ∷ []) ≡ items_of_goals logic query number goals ++ items_of_goal logic query (number + length goals) 1 x
push_goal logic query number [] x = append-nil (items_of_goal logic query number 1 x) ∙ ap (λ (k : ℕ). items_of_goal logic query k 1 x) (omega arith)
push_goal logic query number (y ∷ goals) x =
    ap (λ l. items_of_goal logic query number 1 y ++ l) (push_goal logic query (number + 1) goals x ∙ ap (λ (k : ℕ). items_of_goals logic query (number + 1) goals ++ items_of_goal logic query k 1 x) (omega arith))
    ∙ sym (append_assoc (items_of_goal logic query number 1 y) (items_of_goals logic query (number + 1) goals) (items_of_goal logic query (number + length (y ∷ goals)) 1 x))

push_query : (logic : Logic) (number : ℕ) (queries : List Query) (x : Query) → items_of_queries logic number (queries ++ x ∷ []) ≡ items_of_queries logic number queries ++ items_of_goals logic (number + length queries) 1 (goals_of logic.size x)
push_query logic number [] x = append-nil (items_of_goals logic number 1 (goals_of logic.size x)) ∙ ap (λ (k : ℕ). items_of_goals logic k 1 (goals_of logic.size x)) (omega arith)
push_query logic number (y ∷ queries) x =
    ap (λ l. items_of_goals logic number 1 (goals_of logic.size y) ++ l) (push_query logic (number + 1) queries x ∙ ap (λ (k : ℕ). items_of_queries logic (number + 1) queries ++ items_of_goals logic k 1 (goals_of logic.size x)) (omega arith))
    ∙ sym (append_assoc (items_of_goals logic number 1 (goals_of logic.size y)) (items_of_queries logic (number + 1) queries) (items_of_goals logic (number + length (y ∷ queries)) 1 (goals_of logic.size x)))

taken : {X : Type 0} (xs : List X) (i : ℕ) (x : X) → i < length xs → x ≡ get_or xs i x → take (i + 1) xs ≡ take i xs ++ x ∷ []
taken xs i x lt at = take_more xs i x lt ∙ ap (λ y. take i xs ++ y ∷ []) (sym at)

count : {X : Type 0} (xs : List X) (i : ℕ) → i < length xs → 1 + length (take i xs) ≡ i + 1
count xs i lt = omega (arith, length-take-le i xs (omega arith))

pub item_more : (logic : Logic) (query goal : ℕ) (items : List SignedFormula) (i : ℕ) (x : SignedFormula) → i < length items → x ≡ get_or items i x
    → items_of_goal logic query goal 1 (take (i + 1) items) ≡ items_of_goal logic query goal 1 (take i items) ++ record { query = query; goal = goal; item = i + 1; formula = x.formula; sign = complement logic.size x.sign } ∷ []
item_more logic query goal items i x lt at =
    ap (items_of_goal logic query goal 1) (taken items i x lt at) ∙ push_item logic query goal 1 (take i items) x
    ∙ ap (λ (k : ℕ). items_of_goal logic query goal 1 (take i items) ++ record { query = query; goal = goal; item = k; formula = x.formula; sign = complement logic.size x.sign } ∷ []) (count items i lt)

pub goal_more : (logic : Logic) (query : ℕ) (goals : List (List SignedFormula)) (i : ℕ) (x : List SignedFormula) → i < length goals → x ≡ get_or goals i x → items_of_goals logic query 1 (take (i + 1) goals) ≡ items_of_goals logic query 1 (take i goals) ++ items_of_goal logic query (i + 1) 1 x
goal_more logic query goals i x lt at =
    ap (items_of_goals logic query 1) (taken goals i x lt at) ∙ push_goal logic query 1 (take i goals) x ∙ ap (λ (k : ℕ). items_of_goals logic query 1 (take i goals) ++ items_of_goal logic query k 1 x) (count goals i lt)

pub query_more : (logic : Logic) (queries : List Query) (i : ℕ) (x : Query) → i < length queries → x ≡ get_or queries i x → items_of_queries logic 1 (take (i + 1) queries) ≡ items_of_queries logic 1 (take i queries) ++ items_of_goals logic (i + 1) 1 (goals_of logic.size x)
query_more logic queries i x lt at =
    ap (items_of_queries logic 1) (taken queries i x lt at) ∙ push_query logic 1 (take i queries) x ∙ ap (λ (k : ℕ). items_of_queries logic 1 (take i queries) ++ items_of_goals logic k 1 (goals_of logic.size x)) (count queries i lt)
