-- The evidence for a query: lines that prove its goals, or values of its atoms by which a goal is false.
use Rattle.std.proofs.Common.{◌≡◌, ℕ, ◌+◌, ◌<◌, ◌≤◌, Bool, true, false, ◌||◌, ◌&&◌, List, [], ◌∷◌, ◌++◌, take, get_or, slice_get, Some, refl, sym, ◌∙◌, ap, subst, arith}
use Rattle.std.specs.List.{All, AllZip, list_any, list_all, flat_map}
use Rattle.std.proofs.lemmas.Bool.{both_ways}
use Rattle.std.proofs.lemmas.List.{take_all, take_more}
use Rattle.std.proofs.lemmas.List.Elements.{All-map, All-weaker, All-head, All-tail}
use Rattle.std.proofs.lemmas.List.Folds.{list_all_at}
use Rattle.std.proofs.lemmas.Option.{slice_get_within, get_or_from_slice_get}
use Rattle.lgc_values.specs.Values.{has}
use Rattle.lgc_values.specs.Logic.{Logic, IsLogic}
use Rattle.lgc_syntax.specs.declared.formula.Formula.{Formula}
use Rattle.lgc_syntax.specs.Fits as syntax
use Rattle.lgc_syntax.specs.Sizes.{has_quantifier}
use Rattle.lgc_syntax.specs.Values.{listed, value, IsValuation}
use Rattle.lgc_meaning.specs.declared.query.Query.{Query}
use Rattle.lgc_meaning.specs.Valuations.{atom_places, each_once}
use Rattle.lgc_meaning.specs.Queries.{formulas_of, satisfies, FitsQuery, IsPropositional}
use Rattle.lgc_meaning.proofs.Rows.{listed-below}
use Rattle.lgc_goals.specs.Goals.{goals_of, goal_count}
use Rattle.lgc_goals.proofs.Truth.{agree_under_valuations, length-goals_of}
use Rattle.lgc_goals.proofs.TruthValues.{HasValues-value}
use Rattle.lgc_sequents.specs.Signed.{SignedFormula}
use Rattle.lgc_sequents.specs.Sequents.{IsSequent, is_included, is_true_at}
use Rattle.lgc_sequents.specs.Lines.{PlainLine, IsPosition, sequent_at}
use Rattle.lgc_sequents.specs.Rests.{IsPendingBased}
use Rattle.lgc_sequents.specs.declared.line.Reason.TheVariants.{Pending}
use Rattle.lgc_sequents.proofs.StepLaws.{AllZip-weaker, IsPosition-append, sequent_at-append}
use Rattle.lgc_sequents.proofs.RestLaws.{none_pending}
use Rattle.lgc_report.specs.declared.report.Evidence.{Evidence}
use Rattle.lgc_report.specs.declared.report.Evidence.TheVariants.{Proved, Refuted, Unfinished}
use Rattle.lgc_report.specs.Valid.{IsIncludedAt, IsEvidence}
use Rattle.lgc_sequents.specs.Everywhere.{IsCounterexample}
use Rattle.lgc_proofs.specs.Reasons.{IsPlainReason}
use Rattle.lgc_proofs.specs.Found.{IsProvedAt}
use Rattle.lgc_proofs.proofs.LineSteps.{included_in_any_order}
use Rattle.lgc_prove.specs.Answers.{Decides}
use Rattle.lgc_prove.specs.Work.{Proves, IsAnsweredBy, AreAppendedFor, atoms_with_values}
use Rattle.lgc_goals.proofs.GoalFormulas.{all_of_goal_at}
use Rattle.lgc_meaning.proofs.AtomLaws.{atoms_fit, same_values}
use Rattle.lgc_prove.proofs.AtomLaws.{lists_atoms}

-- ---- lists

any_each : {X : Type 0} (p q : X → Bool) (xs : List X) → All (λ x. p x ≡ q x) xs → list_any p xs ≡ list_any q xs
any_each p q [] same = refl
any_each p q (x ∷ xs) same = λ i. All-head (λ x. p x ≡ q x) x xs same i || any_each p q xs (All-tail (λ x. p x ≡ q x) x xs same) i

pub zip_push : {X Y : Type 0} (R : X → Y → Type 0) (xs : List X) (ys : List Y) (x : X) (y : Y) → AllZip R xs ys → R x y → AllZip R (xs ++ x ∷ []) (ys ++ y ∷ [])
zip_push R [] [] x y all one = (one, tt)
zip_push R [] (b ∷ ys) x y all one = absurd all
zip_push R (a ∷ xs) [] x y all one = absurd all
zip_push R (a ∷ xs) (b ∷ ys) x y all one = (all.0, zip_push R xs ys x y all.1 one)

-- ---- goals that are proved

proves_goal : (logic : Logic) (lines : List PlainLine) (position : ℕ) (goal : List SignedFormula) → IsSequent logic.size goal → IsProvedAt logic lines goal position → Proves logic lines position goal
proves_goal logic lines position goal is proved = record {
  line = record { stands = proved.line.stands; included = included_in_any_order logic.size (sequent_at lines position) goal is proved.line.same };
  holds = proved.holds;
}

-- the lines that cited positions have stay where lines are appended
included_kept : (old more : List PlainLine) (position : ℕ) (goal : List SignedFormula) → IsIncludedAt old position goal → IsIncludedAt (old ++ more) position goal
included_kept old more position goal is = record {
  stands = IsPosition-append old more position is.stands;
  included = ap (λ items. is_included items goal) (sequent_at-append old more position is.stands) ∙ is.included;
}

proves_kept : (logic : Logic) (query : Query) (old new : List PlainLine) (position : ℕ) (goal : List SignedFormula) → AreAppendedFor query old new → Proves logic old position goal → Proves logic new position goal
proves_kept logic query old new position goal appended proves = record {
  line = subst (λ lines. IsIncludedAt lines position goal) (sym appended.is) (included_kept old appended.more position goal proves.line);
  holds = proves.holds;
}

-- one goal more is proved
pub one_more_proved : (logic : Logic) (query : Query) (old new : List PlainLine) (cited wider : List ℕ) (place position : ℕ) (goal : List SignedFormula) → AreAppendedFor query old new → slice_get (goals_of logic.size query) place ≡ Some goal → IsSequent logic.size goal → IsProvedAt logic new goal position → wider ≡ cited ++ position ∷ []
    → AllZip (Proves logic old) cited (take place (goals_of logic.size query)) → AllZip (Proves logic new) wider (take (place + 1) (goals_of logic.size query))
one_more_proved logic query old new cited wider place position goal appended is sequent proved made all =
    let goals = goals_of logic.size query in
    let grown : take (place + 1) goals ≡ take place goals ++ goal ∷ [] = take_more goals place goal (slice_get_within goals place goal is) ∙ ap (λ g. take place goals ++ g ∷ []) (get_or_from_slice_get goals place goal goal is) in
    subst (λ positions. AllZip (Proves logic new) positions (take (place + 1) goals)) (sym made)
    (subst (AllZip (Proves logic new) (cited ++ position ∷ [])) (sym grown)
    (zip_push (Proves logic new) cited (take place goals) position goal
    (AllZip-weaker (Proves logic old) (Proves logic new) (λ p g. proves_kept logic query old new p g appended) cited (take place goals) all)
    (proves_goal logic new position goal sequent proved)))

all_true : (logic : Logic) (lines : List PlainLine) (v : Formula → ℕ) → IsValuation logic v → (cited : List ℕ) (goals : List (List SignedFormula)) → AllZip (Proves logic lines) cited goals → list_all (is_true_at (value logic v)) goals ≡ true
all_true logic lines v valuation [] [] all = refl
all_true logic lines v valuation [] (goal ∷ goals) all = absurd all
all_true logic lines v valuation (p ∷ cited) [] all = absurd all
all_true logic lines v valuation (p ∷ cited) (goal ∷ goals) all = λ i. all.0.holds v valuation i && all_true logic lines v valuation cited goals all.1 i

not_pending : (line : PlainLine) → IsPlainReason line.reason → line.reason ≡ Pending → ⊥
not_pending line plain is = subst IsPlainReason is plain

settled : (lines : List PlainLine) (position : ℕ) → All (λ line. IsPlainReason line.reason) lines → IsPendingBased lines position → ⊥
settled lines position plain = none_pending lines position (All-weaker (λ (line : PlainLine). IsPlainReason line.reason) (λ (line : PlainLine). line.reason ≡ Pending → ⊥) not_pending lines plain)

-- where all are proved, the query is satisfied everywhere
pub proved_answers : (logic : Logic) (is : IsLogic logic) (query : Query) (lines : List PlainLine) (cited : List ℕ) (count : ℕ) → All (λ line. IsPlainReason line.reason) lines → goal_count logic.size query ≤ count → AllZip (Proves logic lines) cited (take count (goals_of logic.size query))
    → IsAnsweredBy logic lines query (Proved cited)
proved_answers logic is query lines cited count plain counted all =
    let goals = goals_of logic.size query in
    let each : AllZip (Proves logic lines) cited goals = subst (AllZip (Proves logic lines) cited) (take_all count goals (omega (arith, counted, length-goals_of logic.size query))) all in
    record {
      known = tt;
      follows = record { goals = AllZip-weaker (Proves logic lines) (IsIncludedAt lines) (λ p g proves. proves.line) cited goals each; settled = λ i d lt. settled lines (get_or cited i d) plain };
      decides = λ v valuation. agree_under_valuations logic is logic.size refl query goals refl v valuation ∙ all_true logic lines v valuation cited goals each;
    }

-- ---- a goal that is refuted

module _ (logic : Logic) (is : IsLogic logic) (query : Query) where
  valuation_of : (entries : List (Formula × ℕ)) → All (λ entry. entry.1 < logic.size) entries → IsValuation logic (listed entries)
  valuation_of entries below atom = listed-below logic.size entries atom (omega (arith, is.sized.low)) below

  -- the query isn't satisfied where one of its goals is false
  unsatisfied : (v : Formula → ℕ) (place : ℕ) (goal : List SignedFormula) → IsValuation logic v → slice_get (goals_of logic.size query) place ≡ Some goal → is_true_at (value logic v) goal ≡ false → satisfies logic.size (value logic v) query ≡ false
  unsatisfied v place goal valuation at fails =
      let goals = goals_of logic.size query in
      agree_under_valuations logic is logic.size refl query goals refl v valuation
      ∙ list_all_at (is_true_at (value logic v)) goals place goal (slice_get_within goals place goal at) (ap (is_true_at (value logic v)) (get_or_from_slice_get goals place goal goal at) ∙ fails)

  values_below : (goal : List SignedFormula) (entries : List (Formula × ℕ)) → IsCounterexample logic goal entries → All (λ entry. entry.1 < logic.size) entries
  values_below goal entries counter = All-weaker (λ (entry : Formula × ℕ). syntax.Fits logic entry.0 × (entry.1 < logic.size)) (λ (entry : Formula × ℕ). entry.1 < logic.size) (λ entry fits. fits.1) entries counter.fit

  atoms_fit_with_values : (entries : List (Formula × ℕ)) → FitsQuery logic query → IsPropositional query → All (λ entry. entry.1 < logic.size) entries
      → All (λ entry. syntax.Fits logic entry.0 × (entry.1 < logic.size)) (atoms_with_values logic (listed entries) query)
  atoms_fit_with_values entries fits propositional below =
      let v = listed entries in
      let atoms = each_once (flat_map atom_places (formulas_of query)) in
      All-map (λ (entry : Formula × ℕ). syntax.Fits logic entry.0 × (entry.1 < logic.size)) (λ (atom : Formula). (atom, value logic v atom)) atoms
      (All-weaker (λ atom. syntax.Fits logic atom × (has_quantifier atom ≡ false)) (λ atom. syntax.Fits logic atom × (value logic v atom < logic.size))
      (λ atom fit. (fit.0, HasValues-value logic is v (valuation_of entries below) atom)) atoms (atoms_fit logic (formulas_of query) fits.formulas propositional))

  -- the values of the query's atoms refute it
  pub refuted_answers : (lines : List PlainLine) (place : ℕ) (goal : List SignedFormula) (entries told : List (Formula × ℕ)) → FitsQuery logic query → IsPropositional query → slice_get (goals_of logic.size query) place ≡ Some goal → IsCounterexample logic goal entries
      → told ≡ atoms_with_values logic (listed entries) query → IsAnsweredBy logic lines query (Refuted told)
  refuted_answers lines place goal entries told fits propositional at counter made =
      let v = listed entries in
      let w = atoms_with_values logic v query in
      let fit = atoms_fit_with_values entries fits propositional (values_below goal entries counter) in
      let below = All-weaker (λ (entry : Formula × ℕ). syntax.Fits logic entry.0 × (entry.1 < logic.size)) (λ (entry : Formula × ℕ). entry.1 < logic.size) (λ entry fits. fits.1) w fit in
      let same = all_of_goal_at (λ f. value logic (listed w) f ≡ value logic v f) logic.size query place goal at (same_values logic v (formulas_of query)) in
      let fails : is_true_at (value logic (listed w)) goal ≡ false =
      any_each (λ (item : SignedFormula). has item.sign (value logic (listed w) item.formula)) (λ (item : SignedFormula). has item.sign (value logic v item.formula)) goal
      (All-weaker (λ (item : SignedFormula). value logic (listed w) item.formula ≡ value logic v item.formula) (λ (item : SignedFormula). has item.sign (value logic (listed w) item.formula) ≡ has item.sign (value logic v item.formula)) (λ item e. ap (has item.sign) e) goal same)
      ∙ counter.fails in
      let refutes = unsatisfied (listed w) place goal (valuation_of w below) at fails in
      subst (λ (entries : List (Formula × ℕ)). IsAnsweredBy logic lines query (Refuted entries)) (sym made) (record {
        known = fit;
        follows = record { propositional = propositional; atoms = lists_atoms logic v query; refutes = refutes };
        decides = λ everywhere. both_ways (satisfies logic.size (value logic (listed w)) query) refutes (everywhere (listed w) (valuation_of w below));
      })

-- ---- other lines

-- the evidence follows from other lines that have the same sequents at the positions, where none is pending
pub evidence_over : (logic : Logic) (query : Query) (old new : List PlainLine) → ((position : ℕ) → IsPosition old position → IsPosition new position × (sequent_at new position ≡ sequent_at old position)) → All (λ line. IsPlainReason line.reason) new
    → (evidence : Evidence) → Decides logic query evidence → IsEvidence logic old query evidence → IsEvidence logic new query evidence
evidence_over logic query old new same plain (Proved cited) decides follows = record {
  goals = AllZip-weaker (IsIncludedAt old) (IsIncludedAt new)
      (λ position goal is. let there = same position is.stands in record { stands = there.0; included = ap (λ items. is_included items goal) there.1 ∙ is.included })
      cited (goals_of logic.size query) follows.goals;
  settled = λ i d lt. settled new (get_or cited i d) plain;
}
evidence_over logic query old new same plain (Refuted entries) decides follows = follows
evidence_over logic query old new same plain (Unfinished cited) decides follows = absurd decides
