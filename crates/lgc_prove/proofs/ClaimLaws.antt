-- One query more is answered.
use Rattle.std.proofs.Common.{◌≡◌, ℕ, ◌+◌, List, [], ◌∷◌, ◌++◌, length, map, refl, sym, ◌∙◌, ap, subst, arith}
use Rattle.std.specs.List.{All, AllZip, Any, range_with_len}
use Rattle.std.proofs.lemmas.List.{map-id, map_push, length_push, length-append, length-map, get_or_append_left}
use Rattle.std.proofs.lemmas.List.Elements.{All-nil, All-cons, All-head, All-tail, All-push, All-append, All-weaker}
use Rattle.std.proofs.lemmas.List.Quantifiers.{Any-push}
use Rattle.std.proofs.lemmas.List.FromFn.{map-range_with_len_more}
use Rattle.lgc_values.specs.Logic.{Logic}
use Rattle.lgc_clauses.specs.Rules.{OperatorRule}
use Rattle.lgc_syntax.specs.declared.formula.Formula.{Formula}
use Rattle.lgc_syntax.specs.Subformulas.{IsSubformula}
use Rattle.lgc_meaning.specs.declared.query.Query.{Query}
use Rattle.lgc_meaning.specs.Queries as queries
use Rattle.lgc_sequents.specs.Lines.{PlainLine, IsPosition, sequent_at, formulas_of}
use Rattle.lgc_sequents.proofs.StepLaws.{IsPosition-append, sequent_at-append}
use Rattle.lgc_report.specs.declared.report.Evidence.{Evidence}
use Rattle.lgc_report.specs.Reports.{PlainClaim, answer, holds, number_of, FitsClaim}
use Rattle.lgc_report.specs.Valid.{IsValidClaim, ArePositions}
use Rattle.lgc_proofs.specs.Reasons.{IsPlainReason}
use Rattle.lgc_queries.specs.Asked.{IsAsked}
use Rattle.lgc_prove.specs.Answers.{Decides, IsAnswerTo, IsPartOf}
use Rattle.lgc_prove.specs.Work.{IsAnsweredBy, AreLinesBy, AreAppendedFor, AreAnswers}
use Rattle.lgc_prove.proofs.LineLaws.{some_of_all}
use Rattle.lgc_prove.proofs.EvidenceLaws.{zip_push, evidence_over}

-- ---- parts

part_of_more : (asked : List Query) (query : Query) (f : Formula) → IsPartOf asked f → IsPartOf (asked ++ query ∷ []) f
part_of_more asked query f part = (part.0, part.1, omega (arith, part.2, length-append asked (query ∷ [])), get_or_append_left asked (query ∷ []) part.1 part.0 part.2 ∙ part.3, part.4)

part_of_last : (asked : List Query) (query : Query) (f : Formula) → IsPartOf (query ∷ []) f → IsPartOf (asked ++ query ∷ []) f
part_of_last asked query f part =
    let Has : Query → Type 0 = λ q. Any (λ g. IsSubformula f g) (queries.formulas_of q) in
    let Is : Query → Type 0 = λ q. q ≡ query in
    let found = some_of_all Is Has (query ∷ []) (All-cons Is query [] refl (All-nil Is)) part in
    Any-push Has asked query (subst Has found.1 found.2)

-- ---- claims

-- the claims that answer queries follow from other lines that have the same sequents at the positions, where none is pending
pub claims_over : (logic : Logic) (old new : List PlainLine) → ((position : ℕ) → IsPosition old position → IsPosition new position × (sequent_at new position ≡ sequent_at old position)) → All (λ line. IsPlainReason line.reason) new
    → (asked : List Query) (claims : List PlainClaim) → AllZip (IsAnswerTo logic) asked claims → All (IsValidClaim logic old) claims → All (IsValidClaim logic new) claims
claims_over logic old new same plain [] [] answers follow = All-nil (IsValidClaim logic new)
claims_over logic old new same plain [] (claim ∷ claims) answers follow = absurd answers
claims_over logic old new same plain (query ∷ asked) [] answers follow = absurd answers
claims_over logic old new same plain (query ∷ asked) (answer number q evidence ∷ claims) answers follow =
    All-cons (IsValidClaim logic new) (answer number q evidence) claims
    (evidence_over logic q old new same plain evidence (subst (λ x. Decides logic x evidence) (sym answers.0.0) answers.0.1) (All-head (IsValidClaim logic old) (answer number q evidence) claims follow))
    (claims_over logic old new same plain asked claims answers.1 (All-tail (IsValidClaim logic old) (answer number q evidence) claims follow))
claims_over logic old new same plain (query ∷ asked) (holds number sequent line ∷ claims) answers follow = absurd answers.0

positions_more : (numbers : List ℕ) (number : ℕ) → ArePositions numbers → number ≡ length numbers + 1 → ArePositions (numbers ++ number ∷ [])
positions_more numbers number are next =
    let more = map-range_with_len_more (λ (k : ℕ). k) 1 (length numbers) number (omega (arith, next)) in
    ap (λ ks. ks ++ number ∷ []) (are ∙ sym (map-id (range_with_len 1 (length numbers)))) ∙ sym more ∙ map-id (range_with_len 1 (length numbers + 1)) ∙ ap (range_with_len 1) (sym (length_push numbers number))

-- one is answered behind others
pub one_more_answer : (logic : Logic) (rules more_rules : List OperatorRule) (asked : List Query) (query : Query) (old new : List PlainLine) (claims wider : List PlainClaim) (number : ℕ) (evidence : Evidence)
    → AreAnswers logic rules asked old claims → IsAsked logic query → AreLinesBy logic more_rules new → AreAppendedFor query old new → IsAnsweredBy logic new query evidence → number ≡ length claims + 1 → wider ≡ claims ++ answer number query evidence ∷ []
    → AreAnswers logic more_rules (asked ++ query ∷ []) new wider
one_more_answer logic rules more_rules asked query old new claims wider number evidence are is by appended answered next made =
    let claim = answer number query evidence in
    let Grown : PlainLine → Type 0 = λ line. All (IsPartOf (asked ++ query ∷ [])) (formulas_of line) in
    let same : (position : ℕ) → IsPosition old position → IsPosition new position × (sequent_at new position ≡ sequent_at old position) = λ position stands.
    subst (λ lines. IsPosition lines position × (sequent_at lines position ≡ sequent_at old position)) (sym appended.is) (IsPosition-append old appended.more position stands, sequent_at-append old appended.more position stands) in
    subst (AreAnswers logic more_rules (asked ++ query ∷ []) new) (sym made) (record {
      lines_by = by;
      parts = subst (All Grown) (sym appended.is) (All-append Grown old appended.more
          (All-weaker (λ (line : PlainLine). All (IsPartOf asked) (formulas_of line)) Grown (λ line. All-weaker (IsPartOf asked) (IsPartOf (asked ++ query ∷ [])) (part_of_more asked query) (formulas_of line)) old are.parts)
          (All-weaker (λ (line : PlainLine). All (IsPartOf (query ∷ [])) (formulas_of line)) Grown (λ line. All-weaker (IsPartOf (query ∷ [])) (IsPartOf (asked ++ query ∷ [])) (part_of_last asked query) (formulas_of line)) appended.more appended.parts));
      numbers = subst ArePositions (sym (map_push number_of claims claim)) (positions_more (map number_of claims) number are.numbers (next ∙ ap (λ k. k + 1) (sym (length-map claims number_of))));
      fit = All-push (FitsClaim logic) claims claim are.fit (record { asked = is.writable.query_for.fits; few = is.few; known = answered.known });
      follow = All-push (IsValidClaim logic new) claims claim (claims_over logic old new same by.plain asked claims are.answers are.follow) answered.follows;
      answers = zip_push (IsAnswerTo logic) asked claims query claim are.answers (refl, answered.decides);
    })
