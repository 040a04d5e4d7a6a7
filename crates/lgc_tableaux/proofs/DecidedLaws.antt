-- All goals are closed exactly where every valuation satisfies every query.
use Rattle.std.proofs.Common.{◌≡◌, ℕ, ◌<◌, ◌&&◌, Bool, true, List, [], ◌∷◌, refl, sym, ◌∙◌, subst, arith, IsTrue}
use Rattle.std.specs.Prelude.{◌↔◌}
use Rattle.std.specs.List.{All, AllZip, list_all}
use Rattle.std.proofs.lemmas.Bool.{and_parts, both_ways}
use Rattle.std.proofs.lemmas.List.Elements.{All-nil, All-cons, All-head, All-tail, All-weaker}
use Rattle.lgc_values.specs.Logic.{Logic, IsLogic}
use Rattle.lgc_clauses.specs.Rules.{OperatorRule}
use Rattle.lgc_calculus.specs.RuleBook.{IsRightBook}
use Rattle.lgc_syntax.specs.declared.formula.Formula.{Formula}
use Rattle.lgc_syntax.specs.Fits.{Fits}
use Rattle.lgc_syntax.specs.Values.{listed, value, IsValuation}
use Rattle.lgc_sequents.specs.Signed.{SignedFormula}
use Rattle.lgc_sequents.specs.Sequents.{is_true_at}
use Rattle.lgc_meaning.specs.declared.query.Query.{Query}
use Rattle.lgc_meaning.proofs.Rows.{listed-below}
use Rattle.lgc_goals.specs.Goals.{goals_of}
use Rattle.lgc_goals.proofs.Truth.{agree_under_valuations}
use Rattle.lgc_meaning.specs.Satisfied.{IsSatisfiedEverywhere}
use Rattle.lgc_tableau_build.specs.declared.built.Built.{Built}
use Rattle.lgc_tableau_build.specs.declared.built.Built.TheVariants.{Closed, Unclosed}
use Rattle.lgc_tableau_build.specs.Built.{IsBuilt, IsValuationAgainst}
use Rattle.lgc_tableaux.specs.TableauxText.{AreBuilt, IsTableauxText}
use Rattle.lgc_tableaux.specs.Work.{is_closed, AreQueriesPut}

module _ (n : ℕ) (logic : Logic) (is : IsLogic logic) (rules : List OperatorRule) where
  -- a valuation against a goal
  against : (goal : List SignedFormula) (entries : List (Formula × ℕ)) → IsValuationAgainst logic goal entries → IsValuation logic (listed entries)
  against goal entries counter atom =
      listed-below logic.size entries atom (omega (arith, is.sized.low)) (All-weaker (λ (entry : Formula × ℕ). Fits logic entry.0 × (entry.1 < logic.size)) (λ (entry : Formula × ℕ). entry.1 < logic.size) (λ entry fits. fits.1) entries counter.counterexample.fit)

  closed_true : (goals : List (List SignedFormula)) (built : List (Built n)) → AllZip (IsBuilt logic rules) goals built → list_all is_closed built ≡ true → (v : Formula → ℕ) → IsValuation logic v → list_all (is_true_at (value logic v)) goals ≡ true
  closed_true [] [] right closed v valuation = refl
  closed_true [] (b ∷ built) right closed v valuation = absurd right
  closed_true (goal ∷ goals) [] right closed v valuation = absurd right
  closed_true (goal ∷ goals) (Closed t ∷ built) right closed v valuation = λ i. right.0.1 v valuation i && closed_true goals built right.1 closed v valuation i
  closed_true (goal ∷ goals) (Unclosed entries ∷ built) right closed v valuation = absurd cc

  true_closed : (goals : List (List SignedFormula)) (built : List (Built n)) → AllZip (IsBuilt logic rules) goals built → ((v : Formula → ℕ) → IsValuation logic v → list_all (is_true_at (value logic v)) goals ≡ true) → list_all is_closed built ≡ true
  true_closed [] [] right all = refl
  true_closed [] (b ∷ built) right all = absurd right
  true_closed (goal ∷ goals) [] right all = absurd right
  true_closed (goal ∷ goals) (Closed t ∷ built) right all = true_closed goals built right.1 (λ v valuation. (and_parts (is_true_at (value logic v) goal) (list_all (is_true_at (value logic v)) goals) (all v valuation)).1)
  true_closed (goal ∷ goals) (Unclosed entries ∷ built) right all =
      let v : Formula → ℕ = listed entries in
      let holds : is_true_at (value logic v) goal ≡ true = (and_parts (is_true_at (value logic v) goal) (list_all (is_true_at (value logic v)) goals) (all v (against goal entries right.0))).0 in
      absurd (both_ways (is_true_at (value logic v) goal) right.0.counterexample.fails holds)

  satisfied : (query : Query) (built : List (Built n)) → AreBuilt logic rules query built → list_all is_closed built ≡ true → IsSatisfiedEverywhere logic query
  satisfied query built right closed v valuation = agree_under_valuations logic is logic.size refl query (goals_of logic.size query) refl v valuation ∙ closed_true (goals_of logic.size query) built right closed v valuation

  closed_where_satisfied : (query : Query) (built : List (Built n)) → AreBuilt logic rules query built → IsSatisfiedEverywhere logic query → list_all is_closed built ≡ true
  closed_where_satisfied query built right everywhere =
      true_closed (goals_of logic.size query) built right (λ v valuation. sym (agree_under_valuations logic is logic.size refl query (goals_of logic.size query) refl v valuation) ∙ everywhere v valuation)

  all_satisfied : (queries : List Query) (built : List (List (Built n))) → AllZip (AreBuilt logic rules) queries built → list_all (list_all is_closed) built ≡ true → All (IsSatisfiedEverywhere logic) queries
  all_satisfied [] [] right closed = All-nil (IsSatisfiedEverywhere logic)
  all_satisfied [] (b ∷ built) right closed = absurd right
  all_satisfied (q ∷ queries) [] right closed = absurd right
  all_satisfied (q ∷ queries) (b ∷ built) right closed =
      let each = and_parts (list_all is_closed b) (list_all (list_all is_closed) built) closed in
      All-cons (IsSatisfiedEverywhere logic) q queries (satisfied q b right.0 each.0) (all_satisfied queries built right.1 each.1)

  all_closed : (queries : List Query) (built : List (List (Built n))) → AllZip (AreBuilt logic rules) queries built → All (IsSatisfiedEverywhere logic) queries → list_all (list_all is_closed) built ≡ true
  all_closed [] [] right everywhere = refl
  all_closed [] (b ∷ built) right everywhere = absurd right
  all_closed (q ∷ queries) [] right everywhere = absurd right
  all_closed (q ∷ queries) (b ∷ built) right everywhere =
      λ i. closed_where_satisfied q b right.0 (All-head (IsSatisfiedEverywhere logic) q queries everywhere) i && all_closed queries built right.1 (All-tail (IsSatisfiedEverywhere logic) q queries everywhere) i

  pub decided : (queries : List Query) (built : List (List (Built n))) (closed : Bool) → AllZip (AreBuilt logic rules) queries built → closed ≡ list_all (list_all is_closed) built → IsTrue closed ↔ All (IsSatisfiedEverywhere logic) queries
  decided queries built closed right told = (λ here. all_satisfied queries built right (sym told ∙ here), λ everywhere. told ∙ all_closed queries built right everywhere)

-- what is put is the text
pub is_text : (n : ℕ) (logic : Logic) → IsLogic logic → logic.size ≡ n → (rules : List OperatorRule) (queries : List Query) (closed : Bool) (text : List ℕ) → IsRightBook logic rules → AreQueriesPut n logic rules queries closed text → IsTableauxText logic queries closed text
is_text n logic is size rules queries closed text right put =
    let own : AreQueriesPut logic.size logic rules queries closed text = subst (λ (k : ℕ). AreQueriesPut k logic rules queries closed text) (sym size) put in
    record { rules = rules; right = right; built = own.built; each = own.right; printed = own.printed; decided = decided logic.size logic is rules queries own.built closed own.right own.told }
