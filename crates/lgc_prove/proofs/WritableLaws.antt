-- A report that answers queries can be written and read back.
use Rattle.std.proofs.Common.{◌≡◌, ◌≢◌, ◌≤◌, ◌+◌, ◌&&◌, ℕ, Bool, true, false, List, [], ◌∷◌, ◌++◌, map, length, get_or, refl, sym, ap, subst, ◌∙◌, arith}
use Rattle.std.specs.Prelude.{◌↔◌, All, IsTrue}
use Rattle.std.specs.Bool.{MatchBool}
use Rattle.std.specs.List.{AllZip, list_all, list_any}
use Rattle.std.proofs.lemmas.Bool.{and_parts, true≢false}
use Rattle.std.proofs.lemmas.List.Elements.{All-cons, All-head, All-tail, All-nil, All-weaker, All-map}
use Rattle.std.proofs.lemmas.List.Folds.{list_any_at}
use Rattle.std.proofs.lemmas.Slice.Zip.{AllZip-long}
use Rattle.lgc_values.specs.Values.{IsSize, has}
use Rattle.lgc_values.specs.Logic.{Logic}
use Rattle.lgc_clauses.specs.Rules.{Head, operator, quantifier, PlainRule}
use Rattle.lgc_syntax.specs.declared.formula.Formula.{Formula}
use Rattle.lgc_syntax.specs.declared.formula.Formula.TheVariants.{outs-Atom, outs-Op}
use Rattle.lgc_syntax.specs.Equality.{same_formula}
use Rattle.lgc_syntax.specs.Sizes.{has_quantifier}
use Rattle.lgc_syntax.proofs.EqualityLaws.{same_formula-Decides}
use Rattle.lgc_syntax.proofs.Induction.{formula_induction}
use Rattle.lgc_syntax.proofs.SizeLaws.{has_quantifier-Quant}
use Rattle.lgc_meaning.specs.declared.query.Query.{Query}
use Rattle.lgc_meaning.specs.declared.query.Query.TheVariants.{Mixed, Equation, Quasi}
use Rattle.lgc_meaning.specs.Queries.{formulas_of}
use Rattle.lgc_goals.specs.Goals.{goal_count, goals_of}
use Rattle.lgc_goals.proofs.Truth.{length-goals_of}
use Rattle.lgc_values.proofs.Digits.{power_positive}
use Rattle.lgc_formulas.specs.declared.formula.TheConstants.{MOST_NODES}
use Rattle.lgc_formulas.specs.FormulaTexts.{text_setting}
use Rattle.lgc_formulas.specs.Writable.{IsWritableTerm}
use Rattle.lgc_query_trip.proofs.Subformulas.{query_subformula_writable}
use Rattle.lgc_sequents.specs.Signed.{SignedFormula}
use Rattle.lgc_sequents.specs.Sequents.{sign_in}
use Rattle.lgc_sequents.specs.Lines as lines
use Rattle.lgc_sequents.specs.Lines.{PlainLine}
use Rattle.lgc_sequents.specs.Steps.{compound_layer, is_compound_of, term_count, IsPremise, Premise, premise_at, IsReasonFor, AreSteps}
use Rattle.lgc_sequents.specs.declared.line.Cited.{Cited}
use Rattle.lgc_sequents.specs.declared.line.Reason.{Reason}
use Rattle.lgc_sequents.specs.declared.line.Reason.TheVariants.{Axiom, Pending, ByRule, Resolve}
use Rattle.lgc_sequents.proofs.RestLaws.{All-at_position}
use Rattle.lgc_report.specs.declared.report.Evidence.{Evidence}
use Rattle.lgc_report.specs.declared.report.Evidence.TheVariants.{Proved, Refuted, Unfinished}
use Rattle.lgc_report.specs.Reports.{PlainNumbered, PlainClaim, answer, holds, PlainReport, FitsRule}
use Rattle.lgc_report.specs.Valid.{IsIncludedAt, CitesGoals, IsEvidence, IsValidClaim}
use Rattle.lgc_report.specs.Writable.{IsReadable, IsWritableLine, IsWritableEvidence, IsWritableClaim, IsWritableReport}
use Rattle.lgc_proofs.specs.Reasons.{IsPlainReason}
use Rattle.lgc_meaning.specs.Satisfied.{IsSatisfiedEverywhere}
use Rattle.lgc_queries.specs.Asked.{IsAsked}
use Rattle.lgc_prove.specs.Answers.{IsAnswerTo, IsPartOf, AnswersQueries}
use Rattle.lgc_prove.specs.AnswerText.{is_proved}
use Rattle.lgc_prove.proofs.Parts.{atom_is_part, part_readable, part_propositional}

-- ---- steps by rules of operators alone

-- the compound of a quantifier has a quantifier
quantified_compound : (q : ℕ) (f : Formula) → is_compound_of (quantifier q) f ≡ true → has_quantifier f ≡ true
unfolding is_compound_of
quantified_compound q = formula_induction (λ f. is_compound_of (quantifier q) f ≡ true → has_quantifier f ≡ true)
    (λ p args is. absurd (true≢false (sym is ∙ ap (compound_layer (quantifier q)) (outs-Atom p args))))
    (λ o args each is. absurd (true≢false (sym is ∙ ap (compound_layer (quantifier q)) (outs-Op o args))))
    (λ r body more is. has_quantifier-Quant r body)

no_terms : (head : Head) (sets : List (List ℕ)) (premise : Premise) → ((q : ℕ) → head ≡ quantifier q → ⊥) → length premise.terms ≡ term_count head sets → premise.terms ≡ []
no_terms (operator op) sets premise not_quantifier count = none premise.terms count where
  none : {X : Type 0} (xs : List X) → length xs ≡ 0 → xs ≡ []
  none [] long = refl
  none (x ∷ xs) long = absurd cc
no_terms (quantifier q) sets premise not_quantifier count = absurd (not_quantifier q refl)

cited_no_terms : (head : Head) (principal : Formula) (conclusion : List SignedFormula) (before : List PlainLine) → ((q : ℕ) → head ≡ quantifier q → ⊥) → (clauses : List (List (List ℕ))) (premises : List Cited) → AllZip (IsPremise head principal conclusion) clauses (map (premise_at before) premises)
    → All (λ cited. cited.terms ≡ []) premises
cited_no_terms head principal conclusion before never [] [] each = All-nil (λ (cited : Cited). cited.terms ≡ [])
cited_no_terms head principal conclusion before never [] (cited ∷ premises) each = absurd each
cited_no_terms head principal conclusion before never (sets ∷ clauses) [] each = absurd each
cited_no_terms head principal conclusion before never (sets ∷ clauses) (cited ∷ premises) each =
    All-cons (λ (c : Cited). c.terms ≡ []) cited premises (no_terms head sets (premise_at before cited) never each.0.terms) (cited_no_terms head principal conclusion before never clauses premises each.1)

All-last : {X : Type 0} (P : X → Type 0) (xs : List X) (x : X) → All P (xs ++ x ∷ []) → P x
All-last P [] x all = All-head P x [] all
All-last P (y ∷ xs) x all = All-last P xs x (All-tail P y (xs ++ x ∷ []) all)

-- a sign with members lies in that of a formula of the sequent
some_items : (principal : Formula) (sign : List ℕ) (conclusion : List SignedFormula) → sign ≢ [] → list_all (has (sign_in conclusion principal)) sign ≡ true → conclusion ≢ []
some_items principal [] conclusion some signed none = some refl
some_items principal (v ∷ sign) conclusion some signed none =
    let here = and_parts (has (sign_in conclusion principal) v) (list_all (has (sign_in conclusion principal)) sign) signed in
    true≢false (sym here.0 ∙ ap (λ (items : List SignedFormula). has (sign_in items principal) v) none)

-- ---- lines

module _ (logic : Logic) (asked : List Query) (are : All (IsAsked logic) asked) (rules : List PlainRule) (fit : All (FitsRule logic) rules) where
  terms_readable : (cited : List Cited) → All (λ c. c.terms ≡ []) cited → All (λ c. All (IsWritableTerm false MOST_NODES) c.terms) cited
  terms_readable cited all = All-weaker (λ (c : Cited). c.terms ≡ []) (λ c. All (IsWritableTerm false MOST_NODES) c.terms) (λ c none. subst (All (IsWritableTerm false MOST_NODES)) (sym none) (All-nil (IsWritableTerm false MOST_NODES))) cited all

  reason_writable : (n : ℕ) (before : List PlainLine) (number : ℕ) (sequent : List SignedFormula) (reason : Reason) → IsReasonFor n rules before sequent reason → IsPlainReason reason → All (IsPartOf asked) (lines.formulas_of (record { number = number; sequent = sequent; reason = reason }))
      → IsWritableLine logic (record { number = number; sequent = sequent; reason = reason })
  reason_writable n before number [] Axiom step plain parts = absurd (true≢false (sym step))
  reason_writable n before number (x ∷ sequent) Axiom step plain parts = record {
    some = λ e. absurd cc;
    formulas = All-weaker (IsPartOf asked) (IsReadable logic) (part_readable logic asked are) (lines.formulas_of (record { number = number; sequent = x ∷ sequent; reason = Axiom })) parts;
    terms = All-nil (λ (c : Cited). All (IsWritableTerm false MOST_NODES) c.terms);
  }
  reason_writable n before number sequent Pending step plain parts = absurd plain
  reason_writable n before number sequent (ByRule rule principal premises) step plain parts = record {
    some = some_items principal step.rule.sign sequent (All-at_position (FitsRule logic) rules rule step.rule fit step.stands).signed step.step.signed;
    formulas = All-weaker (IsPartOf asked) (IsReadable logic) (part_readable logic asked are) (lines.formulas_of (record { number = number; sequent = sequent; reason = ByRule rule principal premises })) parts;
    terms = terms_readable premises (cited_no_terms step.rule.head principal sequent before never step.rule.clauses premises step.step.each);
  } where
    plain_principal : has_quantifier principal ≡ false
    plain_principal = part_propositional logic asked are principal (All-last (IsPartOf asked) (map (λ item. item.formula) sequent) principal parts)

    never : (q : ℕ) → step.rule.head ≡ quantifier q → ⊥
    never q is = true≢false (sym (quantified_compound q principal (ap (λ h. is_compound_of h principal) (sym is) ∙ step.step.compound)) ∙ plain_principal)
  reason_writable n before number sequent (Resolve f left right) step plain parts = absurd plain

  lines_writable : (n : ℕ) (before derived : List PlainLine) → AreSteps n rules before derived → All (λ line. IsPlainReason line.reason) derived → All (λ line. All (IsPartOf asked) (lines.formulas_of line)) derived → All (IsWritableLine logic) derived
  lines_writable n before [] steps plain parts = All-nil (IsWritableLine logic)
  lines_writable n before (line ∷ more) steps plain parts =
      All-cons (IsWritableLine logic) line more
      (reason_writable n before line.number line.sequent line.reason steps.0 (All-head (λ l. IsPlainReason l.reason) line more plain) (All-head (λ l. All (IsPartOf asked) (lines.formulas_of l)) line more parts))
      (lines_writable n (before ++ line ∷ []) more steps.1 (All-tail (λ l. IsPlainReason l.reason) line more plain) (All-tail (λ l. All (IsPartOf asked) (lines.formulas_of l)) line more parts))

-- ---- claims

-- a query has a goal
goals_positive : (n : ℕ) (query : Query) → 2 ≤ n → 1 ≤ goal_count n query
goals_positive n (Mixed given wanted premises conclusions) low = omega arith
goals_positive n (Equation pair) low = omega (arith, low)
goals_positive n (Quasi premises conclusion) low = omega (arith, power_positive n (length premises + 1) low)

-- so lines are cited for it
some_cited : (n : ℕ) (lines : List PlainLine) (query : Query) (cited : List ℕ) → 2 ≤ n → CitesGoals n lines query cited → cited ≢ []
some_cited n lines query cited low goals none =
    omega (arith, goals_positive n query low, length-goals_of n query, AllZip-long (IsIncludedAt lines) cited (goals_of n query) goals, ap length none)

module _ (logic : Logic) (size : IsSize logic.size) (lines : List PlainLine) where
  evidence_writable : (query : Query) → IsAsked logic query → (evidence : Evidence) → IsEvidence logic lines query evidence → IsWritableEvidence logic evidence
  evidence_writable query is (Proved cited) proof = some_cited logic.size lines query cited size.low proof.goals
  evidence_writable query is (Unfinished cited) proof = some_cited logic.size lines query cited size.low proof.goals
  evidence_writable query is (Refuted entries) refutation = λ i d lt.
      let atom : Formula = (get_or entries i d).0 in
      let here : list_any (λ entry. same_formula atom entry.0) entries ≡ true = list_any_at (λ (entry : Formula × ℕ). same_formula atom entry.0) entries i d lt ((same_formula-Decides atom atom).1 refl) in
      let part = atom_is_part query atom (sym (refutation.atoms.each atom) ∙ here) in
      query_subformula_writable (text_setting logic) MOST_NODES query atom part.1 is.writable is.propositional (part.0, part.2, part.3) part.4

  claims_writable : (asked : List Query) → All (IsAsked logic) asked → (claims : List PlainClaim) → AllZip (IsAnswerTo logic) asked claims → All (IsValidClaim logic lines) claims → All (IsWritableClaim logic) claims
  claims_writable [] are [] answers valid = All-nil (IsWritableClaim logic)
  claims_writable [] are (claim ∷ claims) answers valid = absurd answers
  claims_writable (query ∷ asked) are [] answers valid = absurd answers
  claims_writable (query ∷ asked) are (claim ∷ claims) answers valid =
      All-cons (IsWritableClaim logic) claim claims
      (one claim answers.0 (All-head (IsValidClaim logic lines) claim claims valid))
      (claims_writable asked (All-tail (IsAsked logic) query asked are) claims answers.1 (All-tail (IsValidClaim logic lines) claim claims valid))
    where
      one : (claim : PlainClaim) → IsAnswerTo logic query claim → IsValidClaim logic lines claim → IsWritableClaim logic claim
      one (answer number query_there evidence) (same, decides) evident =
          let is : IsAsked logic query_there = subst (IsAsked logic) (sym same) (All-head (IsAsked logic) query asked are) in
          (is.writable, evidence_writable query_there is evidence evident)
      one (holds number sequent line) answers evident = absurd answers

-- ---- reports

pub answers_writable : (logic : Logic) (asked : List Query) (report : PlainReport) → IsSize logic.size → All (IsAsked logic) asked → AnswersQueries logic asked report → IsWritableReport logic report
answers_writable logic asked report size are answers = record {
  fits = answers.fits;
  lines = lines_writable logic asked are (map (λ numbered. numbered.rule) report.rules) (All-map (FitsRule logic) (λ (numbered : PlainNumbered). numbered.rule) report.rules answers.fits.rules) logic.size [] report.lines answers.valid.steps answers.plain answers.parts;
  claims = claims_writable logic size report.lines asked are report.claims answers.claims answers.valid.claims;
}

-- ---- whether all are proved

claim_decided : (logic : Logic) (query : Query) (claim : PlainClaim) (b : Bool) → is_proved claim ≡ b → IsAnswerTo logic query claim → MatchBool b (IsSatisfiedEverywhere logic query) (IsSatisfiedEverywhere logic query → ⊥)
claim_decided logic query (answer number asked (Proved cited)) true is (same, decides) = decides
claim_decided logic query (answer number asked (Proved cited)) false is (same, decides) = absurd (true≢false is)
claim_decided logic query (answer number asked (Refuted entries)) true is (same, decides) = absurd (true≢false (sym is))
claim_decided logic query (answer number asked (Refuted entries)) false is (same, decides) = decides
claim_decided logic query (answer number asked (Unfinished cited)) b is (same, decides) = absurd decides
claim_decided logic query (holds number sequent line) b is answers = absurd answers

-- with one query more
more_decided : (logic : Logic) (query : Query) (asked : List Query) (claims : List PlainClaim) (b : Bool) → MatchBool b (IsSatisfiedEverywhere logic query) (IsSatisfiedEverywhere logic query → ⊥)
    → IsTrue (list_all is_proved claims) ↔ All (IsSatisfiedEverywhere logic) asked → IsTrue (b && list_all is_proved claims) ↔ All (IsSatisfiedEverywhere logic) (query ∷ asked)
more_decided logic query asked claims true sound rest = (
  (λ all. All-cons (IsSatisfiedEverywhere logic) query asked sound (rest.0 all)),
  (λ each. rest.1 (All-tail (IsSatisfiedEverywhere logic) query asked each)),
)
more_decided logic query asked claims false fails rest = ((λ no. absurd (true≢false (sym no))), (λ each. absurd (fails (All-head (IsSatisfiedEverywhere logic) query asked each))))

pub all_decided : (logic : Logic) (asked : List Query) (claims : List PlainClaim) → AllZip (IsAnswerTo logic) asked claims → IsTrue (list_all is_proved claims) ↔ All (IsSatisfiedEverywhere logic) asked
all_decided logic [] [] answers = ((λ _. All-nil (IsSatisfiedEverywhere logic)), (λ _. refl))
all_decided logic [] (claim ∷ claims) answers = absurd answers
all_decided logic (query ∷ asked) [] answers = absurd answers
all_decided logic (query ∷ asked) (claim ∷ claims) answers =
    more_decided logic query asked claims (is_proved claim) (claim_decided logic query claim (is_proved claim) refl answers.0) (all_decided logic asked claims answers.1)
