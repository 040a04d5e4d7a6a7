-- Where the lines hold in a structure, the claims that follow from them do.
use Rattle.std.proofs.Common.{◌≡◌, ℕ, true, List, [], ◌∷◌, refl, ◌∙◌}
use Rattle.std.specs.List.{All, AllZip, list_all}
use Rattle.std.proofs.lemmas.Bool.{and_from}
use Rattle.std.proofs.lemmas.List.Elements.{All-head, All-tail}
use Rattle.lgc_values.specs.Logic.{Logic, IsLogic}
use Rattle.lgc_syntax.specs.Structures.{Structure, IsStructure, IsAssignment, value_in}
use Rattle.lgc_meaning.specs.declared.query.Query.{Query}
use Rattle.lgc_goals.specs.Goals.{goals_of}
use Rattle.lgc_goals.proofs.Truth.{agree_in_structures}
use Rattle.lgc_sequents.specs.Signed.{SignedFormula}
use Rattle.lgc_sequents.specs.Sequents.{is_true_at}
use Rattle.lgc_sequents.specs.Lines.{PlainLine, sequent_at}
use Rattle.lgc_sequents.specs.Rests.{IsPendingBased}
use Rattle.lgc_sequents.proofs.Laws.{is_true_at-included}
use Rattle.lgc_report.specs.Valid.{IsIncludedAt, IsProof}
use Rattle.lgc_soundness.specs.Soundness.{HoldsIn, IsSatisfiedIn}
use Rattle.lgc_soundness.proofs.LinesHold.{LinesHold, sequent_holds}

module _ (logic : Logic) (M : Structure) (lines : List PlainLine) (hold : LinesHold logic M lines) where
  -- a sequent that includes a line holds, unless the line rests on a pending one
  pub included_holds : (position : ℕ) (sequent : List SignedFormula) → IsIncludedAt lines position sequent → (IsPendingBased lines position → ⊥) → HoldsIn logic M sequent
  included_holds position sequent is settled s assignment =
      is_true_at-included (λ f. value_in logic M s f []) (sequent_at lines position) sequent is.included (sequent_holds logic M lines position hold is.stands settled s assignment)

  -- so do sequents that include lines, one each
  all_included_true : (cited : List ℕ) (sequents : List (List SignedFormula)) → AllZip (IsIncludedAt lines) cited sequents → All (λ position. IsPendingBased lines position → ⊥) cited → (s : List ℕ → ℕ) → IsAssignment M s
      → list_all (is_true_at (λ f. value_in logic M s f [])) sequents ≡ true
  all_included_true [] [] each settled s assignment = refl
  all_included_true [] (sequent ∷ sequents) each settled s assignment = absurd each
  all_included_true (position ∷ cited) [] each settled s assignment = absurd each
  all_included_true (position ∷ cited) (sequent ∷ sequents) each settled s assignment =
      and_from (is_true_at (λ f. value_in logic M s f []) sequent) (list_all (is_true_at (λ f. value_in logic M s f [])) sequents)
      (included_holds position sequent each.0 (All-head (λ p. IsPendingBased lines p → ⊥) position cited settled) s assignment)
      (all_included_true cited sequents each.1 (All-tail (λ p. IsPendingBased lines p → ⊥) position cited settled) s assignment)

  -- a query is satisfied that is proved by lines: each of its goals holds
  pub proved_is_satisfied : IsLogic logic → IsStructure logic M → (query : Query) (cited : List ℕ) → IsProof logic.size lines query cited → IsSatisfiedIn logic M query
  proved_is_satisfied is structure query cited proof s assignment =
      agree_in_structures logic is logic.size refl query (goals_of logic.size query) refl M s structure
      ∙ all_included_true cited (goals_of logic.size query) proof.goals proof.settled s assignment
