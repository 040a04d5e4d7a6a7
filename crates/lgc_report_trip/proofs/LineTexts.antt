-- Lines are printed: cited lines with their terms, reasons, and the lines themselves.
use Rattle.std.proofs.Common.{◌≡◌, ℕ, ◌-◌, false, List, [], ◌∷◌, ◌++◌, length, map, refl, append_assoc}
use Rattle.std.specs.Prelude.{All, codes}
use Rattle.std.specs.Fmt.{decimal}
use Rattle.std.proofs.lemmas.List.Elements.{All-head, All-tail}
use Rattle.lgc_grammar.specs.Grammar.{Grammar, One, Mapped, Nothing, Then, Either, Optional, Growing}
use Rattle.lgc_values.specs.Logic.{Logic, IsLogic}
use Rattle.lgc_syntax.specs.declared.formula.Term.{Term}
use Rattle.lgc_syntax.specs.declared.formula.Formula.{Formula}
use Rattle.lgc_syntax.specs.Sizes.{term_nodes}
use Rattle.lgc_sequents.specs.Signed.{SignedFormula}
use Rattle.lgc_sequents.specs.Lines.{PlainLine, named_by, premises_of}
use Rattle.lgc_sequents.specs.declared.line.Cited.{Cited}
use Rattle.lgc_sequents.specs.declared.line.Reason.{Reason}
use Rattle.lgc_sequents.specs.declared.line.Reason.TheVariants.{Axiom, Pending, ByRule, Resolve}
use Rattle.lgc_tokens.specs.declared.class.Class.TheVariants.{RuleWord, LineWord, ByWord, AxiomWord, PendingWord, OnWord, FromWord, ResolveWord, OpenSquare, CloseSquare, Comma, Dot, Colon}
use Rattle.lgc_print.specs.Text.{joined}
use Rattle.lgc_print.specs.FormulaText.{term_text, formula_text}
use Rattle.lgc_formulas.specs.declared.formula.TheConstants.{MOST_NODES}
use Rattle.lgc_formulas.specs.Setting.{Setting}
use Rattle.lgc_formulas.specs.TermGrammar.{OneTerm}
use Rattle.lgc_formulas.specs.FormulaTexts.{LoneTerm, text_setting}
use Rattle.lgc_formulas.specs.Writable.{IsWritableTerm}
use Rattle.lgc_report.specs.ReportText.{sequent_text, terms_text, cited_text, premises_text, reason_text, line_text}
use Rattle.lgc_report.specs.Writable.{IsReadable, IsWritableLine}
use Rattle.lgc_report.proofs.ReportLaws.{formulas_of_sequent, formulas_of_reason}
use Rattle.lgc_report_reader.specs.Reported.{Reported, is}
use Rattle.lgc_report_reader.specs.ReportGrammar.{cited_line, line_of, NumberHere, Position, TermHere, NextTerm, TermsHere, CitedLine, NextCited, Premises, FormulaHere, Items, WordReason, BehindPrincipal, RuleReason, BehindResolved, ResolveReason, ReasonHere, LineHere}
use Rattle.lgc_formula_trip.proofs.Cuts.{Anything, EndsWord}
use Rattle.lgc_formula_trip.proofs.Written.{written_mapped}
use Rattle.lgc_formula_trip.proofs.Tokens.{SpelledAs}
use Rattle.lgc_formula_trip.proofs.WholeTexts.{one_term_written}
use Rattle.lgc_report_trip.specs.WellFormed.{IsNumber, IsLong, IsWellFormedReason, IsWellFormedLine}
use Rattle.lgc_report_trip.proofs.Printed.{EndsSign, Printed, printed_then, printed_first, printed_sign, printed_nothing, printed_mapped, printed_left, printed_right, printed_text, printed_spelled}
use Rattle.lgc_report_trip.proofs.Endings.{ends_by}
use Rattle.lgc_report_trip.proofs.Keywords.{rule_word, line_word, resolve_word, on_word, axiom_word, pending_word, spaced_by, spaced_on, spaced_from, comma, spaced_comma, spaced_colon, ending_dot, open_square, close_square}
use Rattle.lgc_report_trip.proofs.Numbers.{position_printed, number_printed}
use Rattle.lgc_report_trip.proofs.RowTexts.{list_printed, list_closed, each_is}
use Rattle.lgc_report_trip.proofs.SequentTexts.{whole, formula_printed, sequent_printed}

abbrev IsTerm : Term → Type 0
IsTerm t = IsWritableTerm false MOST_NODES t

abbrev IsCited : Cited → Type 0
IsCited cited = IsLong cited.line × All IsTerm cited.terms

-- ---- what ends with a point

pub end_printed : {A : Type 0} (s : Setting) (a : A) → Printed s Anything (Then (One (is Dot)) (λ _. Nothing a)) a (codes ".\n")
end_printed s a = printed_sign s Anything (is Dot) (Nothing a) a (codes ".\n") [] ending_dot (printed_nothing s Anything a a refl)

-- ---- terms and cited lines

module _ (s : Setting) where
  term_printed : (t : Term) → IsTerm t → Printed s EndsWord TermHere t (term_text t 0)
  term_printed t w = printed_spelled s EndsWord LoneTerm t (term_text t 0) (written_mapped SpelledAs EndsWord (λ x. x.0) (OneTerm MOST_NODES) (t, MOST_NODES - term_nodes t) t (term_text t 0) refl (one_term_written MOST_NODES t w))

  next_term_printed : (before : List Term) (t : Term) → IsTerm t → Printed s EndsWord (NextTerm before) (before ++ t ∷ []) (codes "," ++ term_text t 0)
  next_term_printed before t w =
      printed_sign s EndsWord (is Comma) (Mapped (λ u. before ++ u ∷ []) TermHere) (before ++ t ∷ []) (codes ",") (term_text t 0) comma
      (printed_mapped s EndsWord (λ u. before ++ u ∷ []) TermHere t (before ++ t ∷ []) (term_text t 0) refl (term_printed t w))

  abbrev Closing : List Term → Grammar Reported (List Term)
  Closing terms = Then (One (is CloseSquare)) (λ _. Nothing terms)

  terms_printed : (terms : List Term) → All IsTerm terms → Printed s EndsWord (Optional [] TermsHere) terms (terms_text terms)
  terms_printed [] all = printed_right s EndsWord TermsHere (Nothing []) [] [] (printed_nothing s EndsWord [] [] refl)
  terms_printed (t ∷ terms) all =
      let First : Grammar Reported (List Term) = Mapped (λ term. term ∷ []) TermHere in
      printed_left s EndsWord TermsHere (Nothing []) (t ∷ terms) (terms_text (t ∷ terms))
      (printed_sign s EndsWord (is OpenSquare) (Then First (λ first. Then (Growing NextTerm first) Closing)) (t ∷ terms) (codes "[") (joined (codes ",") (map (λ u. term_text u 0) (t ∷ terms)) ++ codes "]") open_square
      (list_closed s EndsWord (codes ",") (λ u. term_text u 0) NextTerm (λ _ u. IsTerm u) next_term_printed (λ rest. refl) EndsWord First Closing (t ∷ terms) t terms (codes "]") (λ rest g. refl)
      (printed_mapped s EndsWord (λ term. term ∷ []) TermHere t (t ∷ []) (term_text t 0) refl (term_printed t (All-head IsTerm t terms all)))
      (each_is IsTerm (t ∷ []) terms (All-tail IsTerm t terms all))
      (printed_sign s EndsWord (is CloseSquare) (Nothing (t ∷ terms)) (t ∷ terms) (codes "]") [] close_square (printed_nothing s EndsWord (t ∷ terms) (t ∷ terms) refl))))

  terms_end : (terms : List Term) (rest : List ℕ) → EndsWord rest → EndsWord (terms_text terms ++ rest)
  terms_end [] rest ends = ends
  terms_end (t ∷ terms) rest ends = refl

  cited_printed : (cited : Cited) → IsCited cited → Printed s EndsWord CitedLine cited (cited_text cited)
  unfolding cited_text
  cited_printed cited (long, terms) =
      printed_then s EndsWord EndsWord Position (λ position. Mapped (cited_line position) (Optional [] TermsHere)) cited.line cited (decimal cited.line) (terms_text cited.terms) (terms_end cited.terms) (position_printed s cited.line long)
      (printed_mapped s EndsWord (cited_line cited.line) (Optional [] TermsHere) cited.terms cited (terms_text cited.terms) refl (terms_printed cited.terms terms))

  next_cited_printed : (before : List Cited) (cited : Cited) → IsCited cited → Printed s EndsWord (NextCited before) (before ++ cited ∷ []) (codes ", " ++ cited_text cited)
  next_cited_printed before cited w =
      printed_sign s EndsWord (is Comma) (Mapped (λ x. before ++ x ∷ []) CitedLine) (before ++ cited ∷ []) (codes ", ") (cited_text cited) spaced_comma
      (printed_mapped s EndsWord (λ x. before ++ x ∷ []) CitedLine cited (before ++ cited ∷ []) (cited_text cited) refl (cited_printed cited w))

  premises_printed : (premises : List Cited) → All IsCited premises → Printed s EndsWord (Optional [] Premises) premises (premises_text premises)
  premises_printed [] all = printed_right s EndsWord Premises (Nothing []) [] [] (printed_nothing s EndsWord [] [] refl)
  premises_printed (cited ∷ premises) all =
      let First : Grammar Reported (List Cited) = Mapped (λ x. x ∷ []) CitedLine in
      printed_left s EndsWord Premises (Nothing []) (cited ∷ premises) (premises_text (cited ∷ premises))
      (printed_sign s EndsWord (is FromWord) (Then First (λ first. Growing NextCited first)) (cited ∷ premises) (codes " from ") (joined (codes ", ") (map cited_text (cited ∷ premises))) spaced_from
      (list_printed s EndsWord (codes ", ") cited_text NextCited (λ _ x. IsCited x) next_cited_printed (λ rest. refl) First cited premises
      (printed_mapped s EndsWord (λ x. x ∷ []) CitedLine cited (cited ∷ []) (cited_text cited) refl (cited_printed cited (All-head IsCited cited premises all)))
      (each_is IsCited (cited ∷ []) premises (All-tail IsCited cited premises all))))

  premises_end : (premises : List Cited) (rest : List ℕ) → EndsWord ((premises_text premises ++ codes ".\n") ++ rest)
  premises_end [] rest = refl
  premises_end (cited ∷ premises) rest = refl

-- ---- reasons, up to the point behind them

regroup_six : (a b c d e f : List ℕ) → a ++ (b ++ (c ++ (d ++ (e ++ f)))) ≡ ((((a ++ b) ++ c) ++ d) ++ e) ++ f
regroup_six a b c d e f = simp append_assoc

regroup_seven : (a b c d e f g : List ℕ) → a ++ (b ++ (c ++ (d ++ (e ++ (f ++ g))))) ≡ (((((a ++ b) ++ c) ++ d) ++ e) ++ f) ++ g
regroup_seven a b c d e f g = simp append_assoc

module _ (n : ℕ) (logic : Logic) (is_logic : IsLogic logic) (size : length logic.names ≡ n) where
  abbrev s : Setting
  s = text_setting logic

  rule_reason_printed : (rule : ℕ) (principal : Formula) (premises : List Cited) → IsNumber rule → IsReadable logic principal → All IsCited premises → Printed s Anything (RuleReason n s) (ByRule rule principal premises) (reason_text logic (ByRule rule principal premises) ++ codes ".\n")
  rule_reason_printed rule principal premises small readable cited =
      let reason : Reason = ByRule rule principal premises in
      let formula : List ℕ = formula_text logic principal in
      let from : List ℕ = premises_text premises in
      printed_text s Anything (RuleReason n s) reason (codes "rule " ++ (decimal rule ++ (codes " on " ++ (formula ++ (from ++ codes ".\n"))))) (reason_text logic reason ++ codes ".\n") (regroup_six (codes "rule ") (decimal rule) (codes " on ") formula from (codes ".\n"))
      (printed_sign s Anything (is RuleWord) (Then NumberHere (λ k. Then (One (is OnWord)) (λ _. Then (FormulaHere n s) (BehindPrincipal n s k)))) reason (codes "rule ") (decimal rule ++ (codes " on " ++ (formula ++ (from ++ codes ".\n")))) rule_word
      (printed_then s EndsWord Anything NumberHere (λ k. Then (One (is OnWord)) (λ _. Then (FormulaHere n s) (BehindPrincipal n s k))) rule reason (decimal rule) (codes " on " ++ (formula ++ (from ++ codes ".\n"))) (λ rest g. refl) (number_printed s rule small)
      (printed_sign s Anything (is OnWord) (Then (FormulaHere n s) (BehindPrincipal n s rule)) reason (codes " on ") (formula ++ (from ++ codes ".\n")) spaced_on
      (printed_then s EndsWord Anything (FormulaHere n s) (BehindPrincipal n s rule) (whole n logic is_logic size principal) reason formula (from ++ codes ".\n") (λ rest g. premises_end s premises rest) (formula_printed n logic is_logic size principal readable)
      (printed_then s EndsWord Anything (Optional [] Premises) (λ found. Then (One (is Dot)) (λ _. Nothing (ByRule rule principal found))) premises reason from (codes ".\n") (λ rest g. refl) (premises_printed s premises cited) (end_printed s reason))))))

  resolve_reason_printed : (f : Formula) (left right : ℕ) → IsReadable logic f → IsLong left → IsLong right → Printed s Anything (ResolveReason n s) (Resolve f left right) (reason_text logic (Resolve f left right) ++ codes ".\n")
  resolve_reason_printed f left right readable long_left long_right =
      let reason : Reason = Resolve f left right in
      let formula : List ℕ = formula_text logic f in
      printed_text s Anything (ResolveReason n s) reason (codes "resolve on " ++ (formula ++ (codes " from " ++ (decimal left ++ (codes ", " ++ (decimal right ++ codes ".\n")))))) (reason_text logic reason ++ codes ".\n") (regroup_seven (codes "resolve on ") formula (codes " from ") (decimal left) (codes ", ") (decimal right) (codes ".\n"))
      (printed_sign s Anything (is ResolveWord) (Then (One (is OnWord)) (λ _. Then (FormulaHere n s) (BehindResolved n s))) reason (codes "resolve ") (codes "on " ++ (formula ++ (codes " from " ++ (decimal left ++ (codes ", " ++ (decimal right ++ codes ".\n")))))) resolve_word
      (printed_sign s Anything (is OnWord) (Then (FormulaHere n s) (BehindResolved n s)) reason (codes "on ") (formula ++ (codes " from " ++ (decimal left ++ (codes ", " ++ (decimal right ++ codes ".\n"))))) on_word
      (printed_then s EndsWord Anything (FormulaHere n s) (BehindResolved n s) (whole n logic is_logic size f) reason formula (codes " from " ++ (decimal left ++ (codes ", " ++ (decimal right ++ codes ".\n")))) (λ rest g. refl) (formula_printed n logic is_logic size f readable)
      (printed_sign s Anything (is FromWord) (Then Position (λ l. Then (One (is Comma)) (λ _. Then Position (λ r. Then (One (is Dot)) (λ _. Nothing (Resolve f l r)))))) reason (codes " from ") (decimal left ++ (codes ", " ++ (decimal right ++ codes ".\n"))) spaced_from
      (printed_then s EndsWord Anything Position (λ l. Then (One (is Comma)) (λ _. Then Position (λ r. Then (One (is Dot)) (λ _. Nothing (Resolve f l r))))) left reason (decimal left) (codes ", " ++ (decimal right ++ codes ".\n")) (λ rest g. refl) (position_printed s left long_left)
      (printed_sign s Anything (is Comma) (Then Position (λ r. Then (One (is Dot)) (λ _. Nothing (Resolve f left r)))) reason (codes ", ") (decimal right ++ codes ".\n") spaced_comma
      (printed_then s EndsWord Anything Position (λ r. Then (One (is Dot)) (λ _. Nothing (Resolve f left r))) right reason (decimal right) (codes ".\n") (λ rest g. refl) (position_printed s right long_right) (end_printed s reason))))))))

  abbrev OfRules : Grammar Reported Reason
  OfRules = Either (RuleReason n s) (ResolveReason n s)

  abbrev OfWords : Grammar Reported Reason
  OfWords = Either (WordReason n s PendingWord Pending) OfRules

  reason_printed : (reason : Reason) → IsWellFormedReason reason → All (IsReadable logic) (named_by reason) → All (λ cited. All IsTerm cited.terms) (premises_of reason) → Printed s Anything (ReasonHere n s) reason (reason_text logic reason ++ codes ".\n")
  reason_printed Axiom formed readable terms =
      printed_left s Anything (WordReason n s AxiomWord Axiom) OfWords Axiom (codes "axiom" ++ codes ".\n")
      (printed_first s EndsWord Anything (is AxiomWord) (Then (One (is Dot)) (λ _. Nothing Axiom)) Axiom (codes "axiom") (codes ".\n") (λ rest g. refl) axiom_word (end_printed s Axiom))
  reason_printed Pending formed readable terms =
      printed_right s Anything (WordReason n s AxiomWord Axiom) OfWords Pending (codes "pending" ++ codes ".\n")
      (printed_left s Anything (WordReason n s PendingWord Pending) OfRules Pending (codes "pending" ++ codes ".\n")
      (printed_first s EndsWord Anything (is PendingWord) (Then (One (is Dot)) (λ _. Nothing Pending)) Pending (codes "pending") (codes ".\n") (λ rest g. refl) pending_word (end_printed s Pending)))
  reason_printed (ByRule rule principal premises) formed readable terms =
      let reason : Reason = ByRule rule principal premises in
      let text : List ℕ = reason_text logic reason ++ codes ".\n" in
      printed_right s Anything (WordReason n s AxiomWord Axiom) OfWords reason text
      (printed_right s Anything (WordReason n s PendingWord Pending) OfRules reason text
      (printed_left s Anything (RuleReason n s) (ResolveReason n s) reason text
      (rule_reason_printed rule principal premises formed.0 (All-head (IsReadable logic) principal [] readable) (λ k d lt. (formed.1 k d lt, terms k d lt)))))
  reason_printed (Resolve f left right) formed readable terms =
      let reason : Reason = Resolve f left right in
      let text : List ℕ = reason_text logic reason ++ codes ".\n" in
      printed_right s Anything (WordReason n s AxiomWord Axiom) OfWords reason text
      (printed_right s Anything (WordReason n s PendingWord Pending) OfRules reason text
      (printed_right s Anything (RuleReason n s) (ResolveReason n s) reason text
      (resolve_reason_printed f left right (All-head (IsReadable logic) f [] readable) formed.0 formed.1)))

  -- ---- lines

  pub line_printed : (line : PlainLine) → IsWritableLine logic line → IsWellFormedLine n line → Printed s Anything (LineHere n s) line (line_text logic line)
  unfolding line_text
  line_printed line writable formed =
      let items : List ℕ = sequent_text logic line.sequent in
      let reason : List ℕ = reason_text logic line.reason in
      let Reasons : List SignedFormula → Grammar Reported PlainLine = λ found. Then (One (is ByWord)) (λ _. Mapped (line_of line.number found) (ReasonHere n s)) in
      printed_text s Anything (LineHere n s) line (codes "line " ++ (decimal line.number ++ (codes ": " ++ (items ++ (codes " by " ++ (reason ++ codes ".\n")))))) (line_text logic line) (regroup_seven (codes "line ") (decimal line.number) (codes ": ") items (codes " by ") reason (codes ".\n"))
      (printed_sign s Anything (is LineWord) (Then Position (λ k. Then (One (is Colon)) (λ _. Then (Items n s) (λ found. Then (One (is ByWord)) (λ _. Mapped (line_of k found) (ReasonHere n s)))))) line (codes "line ") (decimal line.number ++ (codes ": " ++ (items ++ (codes " by " ++ (reason ++ codes ".\n"))))) line_word
      (printed_then s EndsWord Anything Position (λ k. Then (One (is Colon)) (λ _. Then (Items n s) (λ found. Then (One (is ByWord)) (λ _. Mapped (line_of k found) (ReasonHere n s))))) line.number line (decimal line.number) (codes ": " ++ (items ++ (codes " by " ++ (reason ++ codes ".\n")))) (λ rest g. refl) (position_printed s line.number formed.number)
      (printed_sign s Anything (is Colon) (Then (Items n s) Reasons) line (codes ": ") (items ++ (codes " by " ++ (reason ++ codes ".\n"))) spaced_colon
      (printed_then s EndsSign Anything (Items n s) Reasons line.sequent line items (codes " by " ++ (reason ++ codes ".\n")) (λ rest g. ends_by _) (sequent_printed n logic is_logic size line.sequent writable.some (formulas_of_sequent (IsReadable logic) line writable.formulas) formed.sequent)
      (printed_sign s Anything (is ByWord) (Mapped (line_of line.number line.sequent) (ReasonHere n s)) line (codes " by ") (reason ++ codes ".\n") spaced_by
      (printed_mapped s Anything (line_of line.number line.sequent) (ReasonHere n s) line.reason line (reason ++ codes ".\n") refl
      (reason_printed line.reason formed.reason (formulas_of_reason (IsReadable logic) line writable.formulas) writable.terms)))))))
