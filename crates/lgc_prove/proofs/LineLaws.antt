-- Lines that are appended for the goals of a query.
use Rattle.std.proofs.Common.{◌≡◌, ℕ, List, [], ◌∷◌, ◌++◌, length, map, take, get_or, slice_get, Some, refl, sym, ◌∙◌, ap, subst, arith}
use Rattle.std.specs.List.{All, Any}
use Rattle.std.proofs.lemmas.List.{append-nil, append_assoc, map-append, take_at, get_or_default}
use Rattle.std.proofs.lemmas.List.Elements.{All-nil, All-append, All-weaker}
use Rattle.lgc_values.specs.Logic.{Logic}
use Rattle.lgc_clauses.specs.Rules.{PlainRule, OperatorRule, of_operator}
use Rattle.lgc_calculus.specs.RuleBook.{IsRightBook}
use Rattle.lgc_syntax.specs.declared.formula.Formula.{Formula}
use Rattle.lgc_syntax.specs.Subformulas.{IsSubformula}
use Rattle.lgc_meaning.specs.declared.query.Query.{Query}
use Rattle.lgc_meaning.specs.Queries as queries
use Rattle.lgc_meaning.proofs.Parts.{All-left}
use Rattle.lgc_goals.specs.Goals.{goals_of}
use Rattle.lgc_sequents.specs.Signed.{SignedFormula}
use Rattle.lgc_sequents.specs.Lines.{PlainLine, formulas_of}
use Rattle.lgc_sequents.specs.Steps.{AreSteps}
use Rattle.lgc_sequents.proofs.StepLaws.{steps_by_more_rules, steps-append}
use Rattle.lgc_lemmas.specs.Steps.{IsGrown}
use Rattle.lgc_decision.specs.Decided.{AreSubformulasOf}
use Rattle.lgc_proofs.specs.Reasons.{IsPlainReason}
use Rattle.lgc_proofs.specs.Found.{AreAppended}
use Rattle.lgc_prove.specs.Answers.{IsPartOf}
use Rattle.lgc_prove.specs.Work.{AreLinesBy, AreAppendedFor}
use Rattle.lgc_goals.proofs.GoalFormulas.{all_of_goal_at}

-- what is true of each is true of some that has a property
pub some_of_all : {X : Type 0} (P Q : X → Type 0) (xs : List X) → All P xs → Any Q xs → (x : X) × P x × Q x
some_of_all P Q xs all some = (some.1, subst P some.3 (all some.0 some.1 some.2), some.4)

-- ---- steps

steps_before : (n : ℕ) (rules : List PlainRule) (before lines more : List PlainLine) → AreSteps n rules before (lines ++ more) → AreSteps n rules before lines
steps_before n rules before [] more are = tt
steps_before n rules before (line ∷ lines) more are = (are.0, steps_before n rules (before ++ line ∷ []) lines more are.1)

steps_with_more_rules : (n : ℕ) (old new : List OperatorRule) (lines : List PlainLine) → IsGrown OperatorRule old new → AreSteps n (map of_operator old) [] lines → AreSteps n (map of_operator new) [] lines
steps_with_more_rules n old new lines grown are =
    subst (λ rules. AreSteps n rules [] lines) (sym (ap (map of_operator) grown.is ∙ map-append of_operator old grown.more))
    (steps_by_more_rules n (map of_operator old) (map of_operator grown.more) [] lines are)

-- ---- lines by rules

-- they are so where lines are appended for a goal
pub lines_appended : (logic : Logic) (goal : List SignedFormula) (rules more_rules : List OperatorRule) (old new : List PlainLine) → AreLinesBy logic rules old → IsGrown OperatorRule rules more_rules → IsRightBook logic more_rules → AreAppended logic more_rules goal old new → AreLinesBy logic more_rules new
lines_appended logic goal rules more_rules old new by grown right appended = record {
  right = right;
  steps = subst (AreSteps logic.size (map of_operator more_rules) []) (sym appended.is)
      (steps-append logic.size (map of_operator more_rules) [] old appended.more (steps_with_more_rules logic.size rules more_rules old grown by.steps) appended.steps);
  plain = subst (λ (lines : List PlainLine). All (λ (line : PlainLine). IsPlainReason line.reason) lines) (sym appended.is) (All-append (λ (line : PlainLine). IsPlainReason line.reason) old appended.more by.plain appended.plain);
}

-- and where those that were appended for a query are taken away
pub lines_before : (logic : Logic) (query : Query) (rules : List OperatorRule) (old new : List PlainLine) → AreLinesBy logic rules new → AreAppendedFor query old new → AreLinesBy logic rules old
lines_before logic query rules old new by appended =
    let P : PlainLine → Type 0 = λ line. IsPlainReason line.reason in
    record {
      right = by.right;
      steps = steps_before logic.size (map of_operator rules) [] old appended.more (subst (AreSteps logic.size (map of_operator rules) []) appended.is by.steps);
      plain = All-left P old appended.more (subst (All P) appended.is by.plain);
    }

-- ---- lines for a query

parts_of_query : (query : Query) → All (λ g. (f : Formula) → IsSubformula f g → IsPartOf (query ∷ []) f) (queries.formulas_of query)
parts_of_query query i d lt = λ f part.
    let g = get_or (queries.formulas_of query) i d in
    (0, query, omega arith, refl, (i, g, lt, get_or_default (queries.formulas_of query) i g d lt, part))

-- lines that are appended for a goal of a query are appended for the query
pub appended_for_goal : (logic : Logic) (query : Query) (place : ℕ) (goal : List SignedFormula) (rules : List OperatorRule) (old new : List PlainLine) → slice_get (goals_of logic.size query) place ≡ Some goal → AreAppended logic rules goal old new → AreAppendedFor query old new
appended_for_goal logic query place goal rules old new is appended =
    let P : Formula → Type 0 = λ g. (f : Formula) → IsSubformula f g → IsPartOf (query ∷ []) f in
    let all = all_of_goal_at P logic.size query place goal is (parts_of_query query) in
    let part : (f : Formula) → Any (λ (item : SignedFormula). IsSubformula f item.formula) goal → IsPartOf (query ∷ []) f = λ f some.
    let found = some_of_all (λ (item : SignedFormula). P item.formula) (λ (item : SignedFormula). IsSubformula f item.formula) goal all some in
    found.1 f found.2 in
    record {
      more = appended.more;
      is = appended.is;
      parts = All-weaker (λ (line : PlainLine). AreSubformulasOf goal (formulas_of line)) (λ (line : PlainLine). All (IsPartOf (query ∷ [])) (formulas_of line))
          (λ line. All-weaker (λ f. Any (λ (item : SignedFormula). IsSubformula f item.formula) goal) (IsPartOf (query ∷ [])) part (formulas_of line))
          appended.more appended.parts;
    }

pub none_appended : (query : Query) (lines : List PlainLine) → AreAppendedFor query lines lines
none_appended query lines = record { more = []; is = sym (append-nil lines); parts = All-nil (λ (line : PlainLine). All (IsPartOf (query ∷ [])) (formulas_of line)) }

pub more_appended : (query : Query) (old mid new : List PlainLine) → AreAppendedFor query old mid → AreAppendedFor query mid new → AreAppendedFor query old new
more_appended query old mid new first next = record {
  more = first.more ++ next.more;
  is = next.is ∙ ap (λ lines. lines ++ next.more) first.is ∙ append_assoc old first.more next.more;
  parts = All-append (λ (line : PlainLine). All (IsPartOf (query ∷ [])) (formulas_of line)) first.more next.more first.parts next.parts;
}

-- the lines before are left where so many are kept
pub appended_taken : (query : Query) (old new left : List PlainLine) (count : ℕ) → AreAppendedFor query old new → count ≡ length old → left ≡ take count new → left ≡ old
appended_taken query old new left count appended counted taken = taken ∙ ap (take count) appended.is ∙ take_at old appended.more count (sym counted)
