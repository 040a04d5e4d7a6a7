-- Claims are printed: positions, valuations, evidence, queries with their evidence, and sequents with their lines.
use Rattle.std.proofs.Common.{◌≡◌, ◌≢◌, ℕ, ◌<◌, Bool, true, false, List, [], ◌∷◌, ◌++◌, length, map, None, Ok, refl, sym, ap, subst, append_assoc}
use Rattle.std.specs.Prelude.{All, codes, slice_index_or}
use Rattle.std.specs.Fmt.{decimal}
use Rattle.std.proofs.lemmas.Bool.{le-ltb}
use Rattle.std.proofs.lemmas.List.Elements.{All-head, All-tail}
use Rattle.lgc_grammar.specs.Grammar.{Grammar, One, Barred, Mapped, Nothing, Then, Either, Optional}
use Rattle.lgc_grammar.specs.Seen.{Seen}
use Rattle.lgc_values.specs.Logic.{Logic, IsLogic}
use Rattle.lgc_syntax.specs.declared.fault.TheConstants.{TOO_MANY_GOALS}
use Rattle.lgc_syntax.specs.declared.formula.Formula.{Formula}
use Rattle.lgc_meaning.specs.declared.query.Query.{Query}
use Rattle.lgc_meaning.specs.Valuations.{is_atom}
use Rattle.lgc_goals.specs.declared.TheConstants.{MOST_GOALS}
use Rattle.lgc_goals.specs.Goals.{goal_count}
use Rattle.lgc_sequents.specs.Signed.{SignedFormula}
use Rattle.lgc_sequents.specs.Sequents.{IsSequent}
use Rattle.lgc_tokens.specs.declared.class.Class.{Class}
use Rattle.lgc_tokens.specs.declared.class.Class.TheVariants.{AtWord, ByWord, ClaimWord, ProvedWord, RefutedWord, UnfinishedWord, HoldsWord, OpenBrace, CloseBrace, Comma, Dot, Colon}
use Rattle.lgc_print.specs.Text.{joined, value_text}
use Rattle.lgc_print.specs.FormulaText.{formula_text}
use Rattle.lgc_formulas.specs.declared.formula.Read.{Read}
use Rattle.lgc_formulas.specs.declared.formula.TheConstants.{MOST_NODES}
use Rattle.lgc_formulas.specs.Named.{Named}
use Rattle.lgc_formulas.specs.Setting.{Setting}
use Rattle.lgc_formulas.specs.FormulaTexts.{text_setting}
use Rattle.lgc_queries.specs.Goals.{has_too_many_goals}
use Rattle.lgc_queries.specs.QueryGrammar.{OneQuery}
use Rattle.lgc_queries.specs.QueryPlace.{whole_query}
use Rattle.lgc_queries.specs.QueryText.{query_text}
use Rattle.lgc_queries.specs.WritableQueries.{IsWritableQuery}
use Rattle.lgc_rules.specs.RuleGrammar.{Value}
use Rattle.lgc_report.specs.declared.report.Evidence.{Evidence}
use Rattle.lgc_report.specs.declared.report.Evidence.TheVariants.{Proved, Refuted, Unfinished}
use Rattle.lgc_report.specs.declared.report.Claim.{Claim}
use Rattle.lgc_report.specs.declared.report.Claim.TheVariants.{Answer, Holds}
use Rattle.lgc_report.specs.Reports.{FitsEvidence, FitsAnswer, FitsClaim, plain_claim}
use Rattle.lgc_report.specs.ReportText.{sequent_text, positions_text, entry_text, evidence_text, claim_text}
use Rattle.lgc_report.specs.Writable.{IsReadable, IsWritableEvidence, IsWritableClaim}
use Rattle.lgc_report_reader.specs.Reported.{Reported, spelled_of, is, is_predicate, starts_query, starts_sequent, entry_fault}
use Rattle.lgc_report_reader.specs.ReportGrammar.{answer_of, holds_of, NumberHere, Position, NextPosition, Positions, ends_query, FormulaHere, Items, Entry, NextEntry, Entries, ByPositions, AtValuation, EvidenceHere, BehindQuery, AnswerHere, HoldsHere, ClaimHere}
use Rattle.lgc_formula_trip.proofs.Cuts.{Anything, EndsWord}
use Rattle.lgc_query_trip.proofs.ValueTexts.{value_written}
use Rattle.lgc_query_trip.proofs.QueryTexts.{one_query_written}
use Rattle.lgc_report_trip.specs.WellFormed.{IsNumber, IsLong, IsWellFormedEvidence, IsWellFormedClaim}
use Rattle.lgc_report_trip.proofs.Ahead.{ahead}
use Rattle.lgc_report_trip.proofs.Printed.{EndsSign, IsSign, Printed, printed_then, printed_starting, printed_sign, printed_nothing, printed_mapped, printed_left, printed_right, printed_text, printed_named, printed_spelled}
use Rattle.lgc_report_trip.proofs.Endings.{ends_holds}
use Rattle.lgc_report_trip.proofs.Keywords.{at_word, by_word, claim_word, spaced_proved, spaced_unfinished, spaced_refuted, spaced_holds, spaced_comma, spaced_colon, open_brace, close_brace}
use Rattle.lgc_report_trip.proofs.Numbers.{position_printed, number_printed}
use Rattle.lgc_report_trip.proofs.RowTexts.{list_printed, each_is, IsNew, each_new}
use Rattle.lgc_report_trip.proofs.SequentTexts.{whole, formula_printed, sequent_printed}
use Rattle.lgc_report_trip.proofs.LineTexts.{end_printed}
use Rattle.lgc_report_trip.proofs.Beginnings.{ahead_says, sequent_begins, claim_begins, colon_next, entry_begins}

-- ---- positions

module _ (s : Setting) where
  next_position_printed : (before : List ℕ) (position : ℕ) → IsLong position → Printed s EndsWord (NextPosition before) (before ++ position ∷ []) (codes ", " ++ decimal position)
  next_position_printed before position long =
      printed_sign s EndsWord (is Comma) (Mapped (λ x. before ++ x ∷ []) Position) (before ++ position ∷ []) (codes ", ") (decimal position) spaced_comma
      (printed_mapped s EndsWord (λ x. before ++ x ∷ []) Position position (before ++ position ∷ []) (decimal position) refl (position_printed s position long))

  positions_printed : (positions : List ℕ) → positions ≢ [] → All IsLong positions → Printed s EndsWord Positions positions (positions_text positions)
  positions_printed [] some long = absurd (some refl)
  positions_printed (position ∷ positions) some long =
      list_printed s EndsWord (codes ", ") decimal NextPosition (λ _ x. IsLong x) next_position_printed (λ rest. refl) (Mapped (λ x. x ∷ []) Position) position positions
      (printed_mapped s EndsWord (λ x. x ∷ []) Position position (position ∷ []) (decimal position) refl (position_printed s position (All-head IsLong position positions long)))
      (each_is IsLong (position ∷ []) positions (All-tail IsLong position positions long))

-- the atom of an entry
abbrev atom_of : (Formula × ℕ) → Formula
atom_of entry = entry.0

regroup_four : (a b c d : List ℕ) → a ++ (b ++ (c ++ d)) ≡ ((a ++ b) ++ c) ++ d
regroup_four a b c d = simp append_assoc

regroup_five : (a b c d e : List ℕ) → a ++ (b ++ (c ++ (d ++ e))) ≡ (((a ++ b) ++ c) ++ d) ++ e
regroup_five a b c d e = simp append_assoc

module _ (n : ℕ) (logic : Logic) (is_logic : IsLogic logic) (size : length logic.names ≡ n) where
  abbrev s : Setting
  s = text_setting logic

  -- ---- valuations

  -- an entry, whose atom isn't listed before
  abbrev IsEntry : (Formula × ℕ) → Type 0
  IsEntry entry = (is_atom entry.0 ≡ true) × (IsReadable logic entry.0 × (entry.1 < logic.size))

  abbrev value_of : ℕ → List ℕ
  value_of v = value_text (slice_index_or logic.names v [])

  value_printed : (v : ℕ) → v < logic.size → Printed s EndsWord (Seen spelled_of (Value logic)) v (value_of v)
  value_printed v lt = printed_spelled s EndsWord (Value logic) v (value_of v) (value_written logic is_logic v lt)

  entry_printed : (before : List (Formula × ℕ)) (entry : Formula × ℕ) → IsNew atom_of before entry × IsEntry entry → Printed s EndsWord (Entry n s before) (before ++ entry ∷ []) (entry_text logic entry)
  unfolding entry_text
  entry_printed before entry (new, is_entry) =
      let f : Formula = entry.0 in
      let entries : List (Formula × ℕ) = before ++ entry ∷ [] in
      let formula : List ℕ = formula_text logic f in
      let value : List ℕ = value_of entry.1 in
      let Behind : Read → Grammar Reported (List (Formula × ℕ)) = λ atom. Then (One (is Colon)) (λ _. Mapped (λ v. before ++ (atom.formula, v) ∷ []) (Seen spelled_of (Value logic))) in
      let begins : (front back behind : List Named) → FormulaHere n s (Ok (whole n logic is_logic size f)) (ahead s front (back ++ behind)) → Behind (whole n logic is_logic size f) (Ok entries) (ahead s back behind) → _ = λ front back behind h g.
      let (c, v, w, (colon, one), others, split) = g in
      entry_begins n logic before f (whole n logic is_logic size f).nodes_left front back behind is_entry.0 new h (colon_next s c back behind v w colon one split) in
      printed_text s EndsWord (Entry n s before) entries (formula ++ (codes ": " ++ value)) (entry_text logic entry) (sym (append_assoc formula (codes ": ") value))
      (printed_starting s EndsWord EndsWord is_predicate (entry_fault before) (FormulaHere n s) Behind (whole n logic is_logic size f) entries formula (codes ": " ++ value) (λ rest g. refl) begins (formula_printed n logic is_logic size f is_entry.1.0)
      (printed_sign s EndsWord (is Colon) (Mapped (λ v. before ++ (f, v) ∷ []) (Seen spelled_of (Value logic))) entries (codes ": ") value spaced_colon
      (printed_mapped s EndsWord (λ v. before ++ (f, v) ∷ []) (Seen spelled_of (Value logic)) entry.1 entries value refl (value_printed entry.1 is_entry.1.1))))

  next_entry_printed : (before : List (Formula × ℕ)) (entry : Formula × ℕ) → IsNew atom_of before entry × IsEntry entry → Printed s EndsWord (NextEntry n s before) (before ++ entry ∷ []) (codes ", " ++ entry_text logic entry)
  next_entry_printed before entry is_entry = printed_sign s EndsWord (is Comma) (Entry n s before) (before ++ entry ∷ []) (codes ", ") (entry_text logic entry) spaced_comma (entry_printed before entry is_entry)

  entries_printed : (entries : List (Formula × ℕ)) → IsWritableEvidence logic (Refuted entries) → FitsEvidence logic (Refuted entries) → IsWellFormedEvidence (Refuted entries) → Printed s EndsWord (Optional [] (Entries n s)) entries (joined (codes ", ") (map (entry_text logic) entries))
  entries_printed [] readable fits formed = printed_right s EndsWord (Entries n s) (Nothing []) [] [] (printed_nothing s EndsWord [] [] refl)
  entries_printed (x ∷ xs) readable fits formed =
      let all : All IsEntry (x ∷ xs) = λ k d lt. (formed.atoms k d lt, (readable k d lt, (fits k d lt).1)) in
      printed_left s EndsWord (Entries n s) (Nothing []) (x ∷ xs) (joined (codes ", ") (map (entry_text logic) (x ∷ xs)))
      (list_printed s EndsWord (codes ", ") (entry_text logic) (NextEntry n s) (λ before entry. IsNew atom_of before entry × IsEntry entry) next_entry_printed (λ rest. refl) (Entry n s []) x xs
      (entry_printed [] x (refl, All-head IsEntry x xs all))
      (each_new atom_of IsEntry (x ∷ []) xs formed.distinct (All-tail IsEntry x xs all)))

  -- ---- evidence, up to the point behind it

  by_positions_printed : (word : Class) (evidence : List ℕ → Evidence) (opening : List ℕ) (cited : List ℕ) → IsSign Anything (is word) opening → cited ≢ [] → All IsLong cited → Printed s Anything (ByPositions n s word evidence) (evidence cited) (opening ++ (codes "by " ++ (positions_text cited ++ codes ".\n")))
  by_positions_printed word evidence opening cited sign some long =
      let Found : Grammar Reported Evidence = Then Positions (λ found. Then (One (is Dot)) (λ _. Nothing (evidence found))) in
      printed_sign s Anything (is word) (Then (One (is ByWord)) (λ _. Found)) (evidence cited) opening (codes "by " ++ (positions_text cited ++ codes ".\n")) sign
      (printed_sign s Anything (is ByWord) Found (evidence cited) (codes "by ") (positions_text cited ++ codes ".\n") by_word
      (printed_then s EndsWord Anything Positions (λ found. Then (One (is Dot)) (λ _. Nothing (evidence found))) cited (evidence cited) (positions_text cited) (codes ".\n") (λ rest g. refl) (positions_printed s cited some long) (end_printed s (evidence cited))))

  at_valuation_printed : (entries : List (Formula × ℕ)) → IsWritableEvidence logic (Refuted entries) → FitsEvidence logic (Refuted entries) → IsWellFormedEvidence (Refuted entries) → Printed s Anything (AtValuation n s) (Refuted entries) (evidence_text logic (Refuted entries) ++ codes ".\n")
  at_valuation_printed entries readable fits formed =
      let inside : List ℕ = joined (codes ", ") (map (entry_text logic) entries) in
      let closed : List ℕ = codes "}" ++ codes ".\n" in
      let evidence : Evidence = Refuted entries in
      let Closed : List (Formula × ℕ) → Grammar Reported Evidence = λ found. Then (One (is CloseBrace)) (λ _. Then (One (is Dot)) (λ _. Nothing (Refuted found))) in
      let Opened : Grammar Reported Evidence = Then (Optional [] (Entries n s)) Closed in
      printed_text s Anything (AtValuation n s) evidence (codes " refuted at {" ++ (inside ++ closed)) (evidence_text logic evidence ++ codes ".\n") (ap (λ t. codes " refuted at {" ++ t) (sym (append_assoc inside (codes "}") (codes ".\n"))))
      (printed_sign s Anything (is RefutedWord) (Then (One (is AtWord)) (λ _. Then (One (is OpenBrace)) (λ _. Opened))) evidence (codes " refuted ") (codes "at {" ++ (inside ++ closed)) spaced_refuted
      (printed_sign s Anything (is AtWord) (Then (One (is OpenBrace)) (λ _. Opened)) evidence (codes "at ") (codes "{" ++ (inside ++ closed)) at_word
      (printed_sign s Anything (is OpenBrace) Opened evidence (codes "{") (inside ++ closed) open_brace
      (printed_then s EndsWord Anything (Optional [] (Entries n s)) Closed entries evidence inside closed (λ rest g. refl) (entries_printed entries readable fits formed)
      (printed_sign s Anything (is CloseBrace) (Then (One (is Dot)) (λ _. Nothing evidence)) evidence (codes "}") (codes ".\n") close_brace (end_printed s evidence))))))

  abbrev OthersHere : Grammar Reported Evidence
  OthersHere = Either (ByPositions n s UnfinishedWord Unfinished) (AtValuation n s)

  evidence_printed : (evidence : Evidence) → IsWritableEvidence logic evidence → FitsEvidence logic evidence → IsWellFormedEvidence evidence → Printed s Anything (EvidenceHere n s) evidence (evidence_text logic evidence ++ codes ".\n")
  evidence_printed (Proved cited) some fits formed =
      printed_left s Anything (ByPositions n s ProvedWord Proved) OthersHere (Proved cited) (evidence_text logic (Proved cited) ++ codes ".\n")
      (by_positions_printed ProvedWord Proved (codes " proved ") cited spaced_proved some formed)
  evidence_printed (Unfinished cited) some fits formed =
      printed_right s Anything (ByPositions n s ProvedWord Proved) OthersHere (Unfinished cited) (evidence_text logic (Unfinished cited) ++ codes ".\n")
      (printed_left s Anything (ByPositions n s UnfinishedWord Unfinished) (AtValuation n s) (Unfinished cited) (evidence_text logic (Unfinished cited) ++ codes ".\n")
      (by_positions_printed UnfinishedWord Unfinished (codes " unfinished ") cited spaced_unfinished some formed))
  evidence_printed (Refuted entries) readable fits formed =
      printed_right s Anything (ByPositions n s ProvedWord Proved) OthersHere (Refuted entries) (evidence_text logic (Refuted entries) ++ codes ".\n")
      (printed_right s Anything (ByPositions n s UnfinishedWord Unfinished) (AtValuation n s) (Refuted entries) (evidence_text logic (Refuted entries) ++ codes ".\n")
      (at_valuation_printed entries readable fits formed))

  evidence_ends : (evidence : Evidence) (rest : List ℕ) → EndsWord ((evidence_text logic evidence ++ codes ".\n") ++ rest)
  evidence_ends (Proved cited) rest = refl
  evidence_ends (Refuted entries) rest = refl
  evidence_ends (Unfinished cited) rest = refl

  -- ---- claims

  answer_printed : (number : ℕ) (query : Query) (evidence : Evidence) → IsWritableQuery s MOST_NODES query → IsWritableEvidence logic evidence → FitsAnswer logic query evidence → IsWellFormedEvidence evidence → Printed s Anything (AnswerHere n s number) (Answer number query evidence) ((query_text logic query ++ evidence_text logic evidence) ++ codes ".\n")
  answer_printed number query evidence writable evidence_is fits formed =
      let claim : Claim n = Answer number query evidence in
      let asked : List ℕ = query_text logic query in
      let behind : List ℕ = evidence_text logic evidence ++ codes ".\n" in
      let enough : has_too_many_goals logic.size query ≡ false = le-ltb MOST_GOALS (goal_count logic.size query) fits.few in
      printed_text s Anything (AnswerHere n s number) claim (asked ++ behind) ((asked ++ evidence_text logic evidence) ++ codes ".\n") (sym (append_assoc asked (evidence_text logic evidence) (codes ".\n")))
      (printed_starting s EndsWord Anything starts_query (λ _. None) (Seen (λ t. t.named) (OneQuery s MOST_NODES)) (BehindQuery n s number) (whole_query query) claim asked behind (λ rest g. evidence_ends evidence rest)
      (λ front back others h g. claim_begins logic (whole_query query) front (back ++ others) h)
      (printed_named s EndsWord (OneQuery s MOST_NODES) (whole_query query) asked (one_query_written s MOST_NODES query is_logic writable))
      (subst (λ (b : Bool). Printed s Anything (Barred b ends_query TOO_MANY_GOALS (Mapped (answer_of n number query) (EvidenceHere n s))) claim behind) (sym enough)
      (printed_mapped s Anything (answer_of n number query) (EvidenceHere n s) evidence claim behind refl (evidence_printed evidence evidence_is fits.known formed))))

  holds_printed : (number : ℕ) (sequent : List SignedFormula) (line : ℕ) → sequent ≢ [] → All (λ item. IsReadable logic item.formula) sequent → IsSequent n sequent → IsLong line → Printed s Anything (HoldsHere n s number) (Holds number sequent line) ((sequent_text logic sequent ++ codes " holds by " ++ decimal line) ++ codes ".\n")
  holds_printed number sequent line some readable formed long =
      let claim : Claim n = Holds number sequent line in
      let items : List ℕ = sequent_text logic sequent in
      let behind : List ℕ = codes " holds by " ++ (decimal line ++ codes ".\n") in
      let Behind : List SignedFormula → Grammar Reported (Claim n) = λ found. Then (One (is HoldsWord)) (λ _. Then (One (is ByWord)) (λ _. Then Position (λ position. Then (One (is Dot)) (λ _. Nothing (holds_of n number found position))))) in
      printed_text s Anything (HoldsHere n s number) claim (items ++ behind) ((items ++ codes " holds by " ++ decimal line) ++ codes ".\n") (regroup_four items (codes " holds by ") (decimal line) (codes ".\n"))
      (printed_starting s EndsSign Anything (starts_sequent s) (λ _. None) (Items n s) Behind sequent claim items behind (λ rest g. ends_holds _)
      (λ front back others h g. sequent_begins n logic sequent (ahead s front (back ++ others)) (ahead_says s front (back ++ others)) h)
      (sequent_printed n logic is_logic size sequent some readable formed)
      (printed_sign s Anything (is HoldsWord) (Then (One (is ByWord)) (λ _. Then Position (λ position. Then (One (is Dot)) (λ _. Nothing (holds_of n number sequent position))))) claim (codes " holds ") (codes "by " ++ (decimal line ++ codes ".\n")) spaced_holds
      (printed_sign s Anything (is ByWord) (Then Position (λ position. Then (One (is Dot)) (λ _. Nothing (holds_of n number sequent position)))) claim (codes "by ") (decimal line ++ codes ".\n") by_word
      (printed_then s EndsWord Anything Position (λ position. Then (One (is Dot)) (λ _. Nothing (holds_of n number sequent position))) line claim (decimal line) (codes ".\n") (λ rest g. refl) (position_printed s line long) (end_printed s claim)))))

  -- a claim with its number
  numbered_printed : (number : ℕ) (claim : Claim n) (claimed : List ℕ) → IsNumber number → Printed s Anything (Either (AnswerHere n s number) (HoldsHere n s number)) claim (claimed ++ codes ".\n") → Printed s Anything (ClaimHere n s) claim (codes "claim " ++ decimal number ++ codes ": " ++ claimed ++ codes ".\n")
  numbered_printed number claim claimed small printed =
      let Kinds : ℕ → Grammar Reported (Claim n) = λ k. Then (One (is Colon)) (λ _. Either (AnswerHere n s k) (HoldsHere n s k)) in
      printed_text s Anything (ClaimHere n s) claim (codes "claim " ++ (decimal number ++ (codes ": " ++ (claimed ++ codes ".\n")))) (codes "claim " ++ decimal number ++ codes ": " ++ claimed ++ codes ".\n") (regroup_five (codes "claim ") (decimal number) (codes ": ") claimed (codes ".\n"))
      (printed_sign s Anything (is ClaimWord) (Then NumberHere Kinds) claim (codes "claim ") (decimal number ++ (codes ": " ++ (claimed ++ codes ".\n"))) claim_word
      (printed_then s EndsWord Anything NumberHere Kinds number claim (decimal number) (codes ": " ++ (claimed ++ codes ".\n")) (λ rest g. refl) (number_printed s number small)
      (printed_sign s Anything (is Colon) (Either (AnswerHere n s number) (HoldsHere n s number)) claim (codes ": ") (claimed ++ codes ".\n") spaced_colon printed)))

  pub claim_printed : (claim : Claim n) → IsWritableClaim logic (plain_claim claim) → FitsClaim logic (plain_claim claim) → IsWellFormedClaim n (plain_claim claim) → Printed s Anything (ClaimHere n s) claim (claim_text logic (plain_claim claim))
  unfolding claim_text
  claim_printed (Answer number query evidence) writable fits formed =
      let claimed : List ℕ = query_text logic query ++ evidence_text logic evidence in
      numbered_printed number (Answer number query evidence) claimed formed.0
      (printed_left s Anything (AnswerHere n s number) (HoldsHere n s number) (Answer number query evidence) (claimed ++ codes ".\n") (answer_printed number query evidence writable.0 writable.1 fits formed.1))
  claim_printed (Holds number sequent line) writable fits formed =
      let claimed : List ℕ = sequent_text logic sequent ++ codes " holds by " ++ decimal line in
      numbered_printed number (Holds number sequent line) claimed formed.0
      (printed_right s Anything (AnswerHere n s number) (HoldsHere n s number) (Holds number sequent line) (claimed ++ codes ".\n") (holds_printed number sequent line writable.0 writable.1 formed.1.0 formed.1.1))
