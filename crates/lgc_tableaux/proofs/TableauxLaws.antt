-- The text of one goal more and of one query more, by rules that grow.
use Rattle.std.proofs.Common.{◌≡◌, ℕ, suc, ◌+◌, ◌<◌, ◌≤◌, ◌^◌, ◌&&◌, Bool, true, false, List, [], ◌∷◌, ◌++◌, take, length, map, get_or, slice_get, Some, refl, sym, ◌∙◌, ap, subst, append-nil, append_assoc, arith}
use Rattle.std.specs.List.{All, AllZip, Contains, list_all}
use Rattle.std.proofs.lemmas.List.{take_all, take_more, length-take-le, length-map, get_or-map}
use Rattle.std.proofs.lemmas.List.Elements.{All-weaker}
use Rattle.std.proofs.lemmas.Option.{slice_get_within, get_or_from_slice_get}
use Rattle.lgc_values.specs.Logic.{Logic}
use Rattle.lgc_clauses.specs.Rules.{OperatorRule}
use Rattle.lgc_syntax.specs.declared.formula.Formula.{Formula}
use Rattle.lgc_syntax.specs.Fits.{Fits}
use Rattle.lgc_syntax.specs.Sizes.{depth}
use Rattle.lgc_sequents.specs.Signed.{SignedFormula}
use Rattle.lgc_sequents.proofs.StepLaws.{AllZip-weaker}
use Rattle.lgc_meaning.specs.declared.query.Query.{Query}
use Rattle.lgc_goals.specs.Goals.{goals_of}
use Rattle.lgc_goals.proofs.GoalFormulas.{all_of_goal_at}
use Rattle.lgc_queries.specs.Asked.{IsAsked}
use Rattle.lgc_lemmas.specs.Steps.{IsGrown}
use Rattle.lgc_tableau_text.specs.TableauText.{formulas_of}
use Rattle.lgc_tableau_text.proofs.PartLaws.{Part, part_shallow, own_parts, parts}
use Rattle.lgc_tableau_build.specs.declared.built.Built.{Built}
use Rattle.lgc_tableau_build.specs.declared.built.Built.TheVariants.{Closed, Unclosed}
use Rattle.lgc_tableau_build.specs.Built.{IsBuilt}
use Rattle.lgc_tableau_build.proofs.ClosingLaws.{orderly_grown}
use Rattle.lgc_tableaux.specs.TableauxText.{goal_text, built_text, goals_text, queries_text, AreBuilt}
use Rattle.lgc_tableaux.specs.Work.{is_closed, IsShallow, IsGoalPut, AreGoalsPut, AreQueriesPut}

-- ---- rules that grow

module _ (n : ℕ) (logic : Logic) (old new : List OperatorRule) (grown : IsGrown OperatorRule old new) where
  built_grown : (goal : List SignedFormula) (built : Built n) → IsBuilt logic old goal built → IsBuilt logic new goal built
  built_grown goal (Closed t) is = (record { closed = is.0.closed; orderly = orderly_grown logic old new grown goal goal [] t is.0.orderly }, is.1)
  built_grown goal (Unclosed entries) is = is

  all_grown : (goals : List (List SignedFormula)) (built : List (Built n)) → AllZip (IsBuilt logic old) goals built → AllZip (IsBuilt logic new) goals built
  all_grown goals built = AllZip-weaker (IsBuilt logic old) (IsBuilt logic new) built_grown goals built

  queries_grown : (queries : List Query) (built : List (List (Built n))) → AllZip (AreBuilt logic old) queries built → AllZip (AreBuilt logic new) queries built
  queries_grown queries built = AllZip-weaker (AreBuilt logic old) (AreBuilt logic new) (λ query own. all_grown (goals_of logic.size query) own) queries built

-- ---- one more

all_more : {X : Type 0} (p : X → Bool) (xs : List X) (x : X) → list_all p (xs ++ x ∷ []) ≡ (list_all p xs && p x)
all_more p [] x = and_true (p x) where
  and_true : (b : Bool) → (b && true) ≡ b
  and_true true = refl
  and_true false = refl
all_more p (y ∷ xs) x = ap (λ b. p y && b) (all_more p xs x) ∙ and_assoc (p y) (list_all p xs) (p x) where
  and_assoc : (a b c : Bool) → (a && (b && c)) ≡ ((a && b) && c)
  and_assoc true b c = refl
  and_assoc false b c = refl

none_more : (k : ℕ) → k ≡ k + 0
none_more k = omega arith

one_on : (k m : ℕ) → k + 1 + m ≡ k + suc m
one_on k m = omega arith

zip_push : {X Y : Type 0} (R : X → Y → Type 0) (xs : List X) (ys : List Y) (x : X) (y : Y) → AllZip R xs ys → R x y → AllZip R (xs ++ x ∷ []) (ys ++ y ∷ [])
zip_push R [] [] x y all one = (one, tt)
zip_push R [] (b ∷ ys) x y all one = absurd all
zip_push R (a ∷ xs) [] x y all one = absurd all
zip_push R (a ∷ xs) (b ∷ ys) x y all one = (all.0, zip_push R xs ys x y all.1 one)

module _ (n : ℕ) (logic : Logic) (rules : List OperatorRule) where
  goals_more : (query number : ℕ) (goals : List (List SignedFormula)) (built : List (Built n)) (goal : List SignedFormula) (one : Built n) → AllZip (IsBuilt logic rules) goals built
      → goals_text logic query number (goals ++ goal ∷ []) (built ++ one ∷ []) ≡ goals_text logic query number goals built ++ (goal_text logic query (number + length goals) goal ++ built_text logic one)
  goals_more query number [] [] goal one right =
      append-nil (goal_text logic query number goal ++ built_text logic one) ∙ ap (λ k. goal_text logic query k goal ++ built_text logic one) (none_more number)
  goals_more query number [] (b ∷ built) goal one right = absurd right
  goals_more query number (g ∷ goals) [] goal one right = absurd right
  goals_more query number (g ∷ goals) (b ∷ built) goal one right =
      let first = goal_text logic query number g ++ built_text logic b in
      let rest = goals_text logic query (number + 1) goals built in
      let last : ℕ → List ℕ = λ k. goal_text logic query k goal ++ built_text logic one in
      ap (λ t. first ++ t) (goals_more query (number + 1) goals built goal one right.1 ∙ ap (λ k. rest ++ last k) (one_on number (length goals))) ∙ sym (append_assoc first rest (last (number + suc (length goals))))

  queries_more : (number : ℕ) (queries : List Query) (built : List (List (Built n))) (query : Query) (own : List (Built n)) → AllZip (AreBuilt logic rules) queries built
      → queries_text logic number (queries ++ query ∷ []) (built ++ own ∷ []) ≡ queries_text logic number queries built ++ goals_text logic (number + length queries) 1 (goals_of logic.size query) own
  queries_more number [] [] query own right =
      append-nil (goals_text logic number 1 (goals_of logic.size query) own) ∙ ap (λ k. goals_text logic k 1 (goals_of logic.size query) own) (none_more number)
  queries_more number [] (b ∷ built) query own right = absurd right
  queries_more number (q ∷ queries) [] query own right = absurd right
  queries_more number (q ∷ queries) (b ∷ built) query own right =
      ap (λ t. goals_text logic number 1 (goals_of logic.size q) b ++ t) (queries_more (number + 1) queries built query own right.1 ∙ ap (λ k. queries_text logic (number + 1) queries built ++ goals_text logic k 1 (goals_of logic.size query) own) (one_on number (length queries)))
      ∙ sym (append_assoc (goals_text logic number 1 (goals_of logic.size q) b) (queries_text logic (number + 1) queries built) (goals_text logic (number + suc (length queries)) 1 (goals_of logic.size query) own))

-- ---- the goals of a query

taken_more : {X : Type 0} (xs : List X) (i : ℕ) (x : X) → slice_get xs i ≡ Some x → take (i + 1) xs ≡ take i xs ++ x ∷ []
taken_more xs i x is = take_more xs i x (slice_get_within xs i x is) ∙ ap (λ y. take i xs ++ y ∷ []) (get_or_from_slice_get xs i x x is)

taken_count : {X : Type 0} (xs : List X) (i : ℕ) (x : X) → slice_get xs i ≡ Some x → length (take i xs) ≡ i
taken_count xs i x is = length-take-le i xs (let lt = slice_get_within xs i x is in omega arith)

module _ (n : ℕ) (logic : Logic) (number : ℕ) where
  pub no_goals : (rules : List OperatorRule) (query : Query) (before : List ℕ) → AreGoalsPut n logic rules number (take 0 (goals_of logic.size query)) true before before
  no_goals rules query before = record { built = []; right = tt; printed = sym (append-nil before); told = refl }

  pub one_goal_more : (old new : List OperatorRule) (query : Query) (place : ℕ) (so_far here all : Bool) (before mid after : List ℕ) → IsGrown OperatorRule old new → AreGoalsPut n logic old number (take place (goals_of logic.size query)) so_far before mid → IsGoalPut n logic new number query place here mid after
      → all ≡ (so_far && here) → AreGoalsPut n logic new number (take (place + 1) (goals_of logic.size query)) all before after
  one_goal_more old new query place so_far here all before mid after grown goals goal both =
      let xs : List (List SignedFormula) = goals_of logic.size query in
      let kept : AllZip (IsBuilt logic new) (take place xs) goals.built = all_grown n logic old new grown (take place xs) goals.built goals.right in
      let more : take (place + 1) xs ≡ take place xs ++ goal.goal ∷ [] = taken_more xs place goal.goal goal.is in
      let counted : 1 + length (take place xs) ≡ place + 1 = omega (arith, taken_count xs place goal.goal goal.is) in
      let text : List ℕ = goals_text logic number 1 (take place xs) goals.built in
      record {
        built = goals.built ++ goal.built ∷ [];
        right = subst (λ (gs : List (List SignedFormula)). AllZip (IsBuilt logic new) gs (goals.built ++ goal.built ∷ [])) (sym more) (zip_push (IsBuilt logic new) (take place xs) goals.built goal.goal goal.built kept goal.right);
        printed = goal.printed ∙ ap (λ t. t ++ (goal_text logic number (place + 1) goal.goal ++ built_text logic goal.built)) goals.printed
            ∙ append_assoc before text (goal_text logic number (place + 1) goal.goal ++ built_text logic goal.built)
            ∙ ap (λ t. before ++ t) (ap (λ k. text ++ (goal_text logic number k goal.goal ++ built_text logic goal.built)) (sym counted)
            ∙ sym (goals_more n logic new number 1 (take place xs) goals.built goal.goal goal.built kept)
            ∙ ap (λ gs. goals_text logic number 1 gs (goals.built ++ goal.built ∷ [])) (sym more));
        told = both ∙ ap (λ b. b && here) goals.told ∙ ap (λ b. list_all is_closed goals.built && b) goal.told ∙ sym (all_more is_closed goals.built goal.built);
      }

  pub all_goals : (rules : List OperatorRule) (query : Query) (place : ℕ) (closed : Bool) (before after : List ℕ) → length (goals_of logic.size query) ≤ place → AreGoalsPut n logic rules number (take place (goals_of logic.size query)) closed before after → AreGoalsPut n logic rules number (goals_of logic.size query) closed before after
  all_goals rules query place closed before after end goals = subst (λ gs. AreGoalsPut n logic rules number gs closed before after) (take_all place (goals_of logic.size query) end) goals

-- ---- queries

module _ (n : ℕ) (logic : Logic) where
  pub one_query_more : (old new : List OperatorRule) (queries : List Query) (i : ℕ) (query : Query) (so_far here all : Bool) (before after : List ℕ) → i < length queries → query ≡ get_or queries i query → IsGrown OperatorRule old new → AreQueriesPut n logic old (take i queries) so_far before
      → AreGoalsPut n logic new (i + 1) (goals_of logic.size query) here before after → all ≡ (so_far && here) → AreQueriesPut n logic new (take (i + 1) queries) all after
  one_query_more old new queries i query so_far here all before after lt is grown put goals both =
      let kept : AllZip (AreBuilt logic new) (take i queries) put.built = queries_grown n logic old new grown (take i queries) put.built put.right in
      let more : take (i + 1) queries ≡ take i queries ++ query ∷ [] = take_more queries i query lt ∙ ap (λ q. take i queries ++ q ∷ []) (sym is) in
      let counted : 1 + length (take i queries) ≡ i + 1 = omega (arith, length-take-le i queries (omega (arith, lt))) in
      record {
        built = put.built ++ goals.built ∷ [];
        right = subst (λ (qs : List Query). AllZip (AreBuilt logic new) qs (put.built ++ goals.built ∷ [])) (sym more) (zip_push (AreBuilt logic new) (take i queries) put.built query goals.built kept goals.right);
        printed = goals.printed ∙ ap (λ t. t ++ goals_text logic (i + 1) 1 (goals_of logic.size query) goals.built) put.printed
            ∙ ap (λ k. queries_text logic 1 (take i queries) put.built ++ goals_text logic k 1 (goals_of logic.size query) goals.built) (sym counted)
            ∙ sym (queries_more n logic new 1 (take i queries) put.built query goals.built kept)
            ∙ ap (λ qs. queries_text logic 1 qs (put.built ++ goals.built ∷ [])) (sym more);
        told = both ∙ ap (λ b. b && here) put.told ∙ ap (λ b. list_all (list_all is_closed) put.built && b) goals.told ∙ sym (all_more (list_all is_closed) put.built goals.built);
      }

  pub all_queries : (rules : List OperatorRule) (queries : List Query) (i : ℕ) (closed : Bool) (text : List ℕ) → length queries ≤ i → AreQueriesPut n logic rules (take i queries) closed text → AreQueriesPut n logic rules queries closed text
  all_queries rules queries i closed text end put = subst (λ qs. AreQueriesPut n logic rules qs closed text) (take_all i queries end) put

-- ---- one goal

pub goal_put : (n : ℕ) (logic : Logic) (rules : List OperatorRule) (number : ℕ) (query : Query) (place : ℕ) (closed : Bool) (before middle after : List ℕ) (goal items : List SignedFormula) (built : Built n) → slice_get (goals_of logic.size query) place ≡ Some goal → IsBuilt logic rules goal built → items ≡ goal
    → middle ≡ before ++ goal_text logic number (place + 1) items → after ≡ middle ++ built_text logic built → closed ≡ is_closed built → IsGoalPut n logic rules number query place closed before after
goal_put n logic rules number query place closed before middle after goal items built is right same heading rest told = record {
  goal = goal;
  is = is;
  built = built;
  right = right;
  printed = rest ∙ ap (λ t. t ++ built_text logic built) (heading ∙ ap (λ g. before ++ goal_text logic number (place + 1) g) same) ∙ append_assoc before (goal_text logic number (place + 1) goal) (built_text logic built);
  told = told;
}

-- the formulas of the goals of a query that is asked aren't deep
pub goal_shallow : (logic : Logic) (query : Query) (place : ℕ) (goal : List SignedFormula) → IsAsked logic query → slice_get (goals_of logic.size query) place ≡ Some goal → All (λ item. depth item.formula < 2 ^ 32) goal
goal_shallow logic query place goal asked is =
    all_of_goal_at (λ f. depth f < 2 ^ 32) logic.size query place goal is (λ i f within. omega (arith, asked.writable.query_for.shallow i f within))

-- ---- what is built isn't deep

module _ (n : ℕ) (logic : Logic) (rules : List OperatorRule) (goal : List SignedFormula) where
  listed_at : (entries : List (Formula × ℕ)) (i : ℕ) (d : Formula × ℕ) → i < length entries → Contains (map (λ entry. entry.0) entries) (get_or entries i d).0
  listed_at entries i d lt = (i, omega (arith, lt, length-map entries (λ (entry : Formula × ℕ). entry.0)), get_or-map (λ (entry : Formula × ℕ). entry.0) entries i d (get_or entries i d).0 lt)

  pub built_shallow : (built : Built n) → logic.size ≡ n → All (λ item. depth item.formula < 2 ^ 32) goal → IsBuilt logic rules goal built → IsShallow built
  built_shallow (Closed t) size shallow is =
      All-weaker (Part goal) (λ f. depth f < 2 ^ 32) (λ f part. part_shallow goal (2 ^ 32) shallow f part) (formulas_of t) (parts goal logic rules goal [] t is.0.orderly is.0.closed (own_parts goal))
  built_shallow (Unclosed entries) size shallow is = (
    λ i d lt. let entry : Formula × ℕ = get_or entries i d in part_shallow goal (2 ^ 32) shallow entry.0 ((is.atoms entry.0 (is.once.atoms i d lt)).0 (listed_at entries i d lt)),
    subst (λ (k : ℕ). All (λ entry. entry.1 < k) entries) size (All-weaker (λ (entry : Formula × ℕ). Fits logic entry.0 × (entry.1 < logic.size)) (λ (entry : Formula × ℕ). entry.1 < logic.size) (λ entry fits. fits.1) entries is.counterexample.fit),
  )
