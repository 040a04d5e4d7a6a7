-- The formulas of a report that can be written are shallow.
use Rattle.std.proofs.Common.{◌<◌, ◌^◌, ℕ, List, [], ◌∷◌, map, arith}
use Rattle.std.specs.Prelude.{All}
use Rattle.std.specs.List.{flat_map}
use Rattle.std.proofs.lemmas.List.Elements.{All-append, All-head, All-tail, All-nil, All-weaker, All-map}
use Rattle.lgc_values.specs.Logic.{Logic}
use Rattle.lgc_syntax.specs.declared.formula.Formula.{Formula}
use Rattle.lgc_syntax.specs.Sizes.{depth}
use Rattle.lgc_meaning.specs.Queries.{formulas_of}
use Rattle.lgc_formulas.specs.declared.formula.TheConstants.{MOST_NODES}
use Rattle.lgc_formulas.specs.FormulaTexts.{text_setting}
use Rattle.lgc_sequents.specs.Signed.{SignedFormula}
use Rattle.lgc_sequents.specs.Lines as lines
use Rattle.lgc_query_trip.proofs.Subformulas.{formulas_writable}
use Rattle.lgc_report.specs.declared.report.Evidence.TheVariants.{Proved, Refuted, Unfinished}
use Rattle.lgc_report.specs.Reports.{PlainClaim, answer, holds, PlainReport, formulas_of_claim, formulas_of_report}
use Rattle.lgc_report.specs.Writable.{IsReadable, IsWritableLine, IsWritableClaim, IsWritableReport}

readable_shallow : (logic : Logic) (fs : List Formula) → All (IsReadable logic) fs → All (λ f. depth f < 2 ^ 32) fs
readable_shallow logic fs all = All-weaker (IsReadable logic) (λ f. depth f < 2 ^ 32) (λ f readable. omega (arith, readable.shallow)) fs all

claim_readable : (logic : Logic) (claim : PlainClaim) → IsWritableClaim logic claim → All (IsReadable logic) (formulas_of_claim claim)
claim_readable logic (answer number query (Proved cited)) (query_is, evidence) = All-append (IsReadable logic) (formulas_of query) [] (formulas_writable (text_setting logic) MOST_NODES query query_is) (All-nil (IsReadable logic))
claim_readable logic (answer number query (Unfinished cited)) (query_is, evidence) = All-append (IsReadable logic) (formulas_of query) [] (formulas_writable (text_setting logic) MOST_NODES query query_is) (All-nil (IsReadable logic))
claim_readable logic (answer number query (Refuted entries)) (query_is, evidence) =
    All-append (IsReadable logic) (formulas_of query) (map (λ entry. entry.0) entries) (formulas_writable (text_setting logic) MOST_NODES query query_is) (All-map (IsReadable logic) (λ (entry : Formula × ℕ). entry.0) entries evidence)
claim_readable logic (holds number sequent line) (some, all) = All-map (IsReadable logic) (λ (item : SignedFormula). item.formula) sequent all

each_readable : {X : Type 0} (logic : Logic) (P : X → Type 0) (formulas : X → List Formula) → ((x : X) → P x → All (IsReadable logic) (formulas x)) → (xs : List X) → All P xs → All (IsReadable logic) (flat_map formulas xs)
each_readable logic P formulas each [] all = All-nil (IsReadable logic)
each_readable logic P formulas each (x ∷ xs) all = All-append (IsReadable logic) (formulas x) (flat_map formulas xs) (each x (All-head P x xs all)) (each_readable logic P formulas each xs (All-tail P x xs all))

pub writable_shallow : (logic : Logic) (report : PlainReport) → IsWritableReport logic report → All (λ f. depth f < 2 ^ 32) (formulas_of_report report)
writable_shallow logic report writable =
    readable_shallow logic (formulas_of_report report)
    (All-append (IsReadable logic) (flat_map lines.formulas_of report.lines) (flat_map formulas_of_claim report.claims)
    (each_readable logic (IsWritableLine logic) lines.formulas_of (λ line is. is.formulas) report.lines writable.lines)
    (each_readable logic (IsWritableClaim logic) formulas_of_claim (claim_readable logic) report.claims writable.claims))
