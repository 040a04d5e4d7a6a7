-- Reports are printed, and the bytes of a printed report give this report.
use Rattle.std.proofs.Common.{◌≡◌, ℕ, ◌≤◌, List, [], ◌∷◌, ◌++◌, length, map, Ok, refl, sym, ap₂, subst, ◌∙◌, append-nil, append_assoc}
use Rattle.std.specs.Prelude.{All, codes}
use Rattle.std.specs.List.{flat_map}
use Rattle.std.proofs.lemmas.Bool.{le-ltb}
use Rattle.std.proofs.lemmas.List.Folds.{flat_map-map}
use Rattle.lgc_grammar.specs.Grammar.{Grammar, One, Nothing, Then, Growing}
use Rattle.lgc_grammar.specs.Seen.{Seen}
use Rattle.lgc_values.specs.Logic.{Logic, IsLogic}
use Rattle.lgc_clauses.specs.declared.rule.Numbered.{Numbered}
use Rattle.lgc_sequents.specs.Lines.{PlainLine}
use Rattle.lgc_tokens.specs.declared.number.TheConstants.{MOST_NUMBER}
use Rattle.lgc_tokens.specs.declared.class.Class.TheVariants.{ReportWord, EndWord, Dot}
use Rattle.lgc_print.specs.Text.{rule_text}
use Rattle.lgc_formulas.specs.Named.{Named, named_all}
use Rattle.lgc_formulas.specs.Setting.{Setting}
use Rattle.lgc_formulas.specs.FormulaTexts.{text_setting}
use Rattle.lgc_rules.specs.RuleGrammar.{OneRule}
use Rattle.lgc_report.specs.declared.report.Claim.{Claim}
use Rattle.lgc_report.specs.declared.report.Report.{Report}
use Rattle.lgc_report.specs.Reports.{FitsRule, FitsClaim, plain_numbered, plain_claim, plain_report}
use Rattle.lgc_report.specs.ReportText.{line_text, claim_text, numbered_text, report_text}
use Rattle.lgc_report.specs.Writable.{IsWritableLine, IsWritableClaim, IsWritableReport}
use Rattle.lgc_report.proofs.ReportLaws.{All-of_map}
use Rattle.lgc_report_reader.specs.declared.report.TheConstants.{LONGEST_REPORT}
use Rattle.lgc_report_reader.specs.Reported.{Reported, spelled_of, is, is_version}
use Rattle.lgc_report_reader.specs.ReportGrammar.{report_of, NextRule, LineHere, NextLine, ClaimHere, NextClaim, ReportHere}
use Rattle.lgc_report_reader.specs.ReportFile.{ReportGives, IsReportOf}
use Rattle.lgc_round_trip.proofs.Lexing.{Word, Lexes, lex_end, lexes_whole}
use Rattle.lgc_formula_trip.proofs.Cuts.{Anything, EndsWord}
use Rattle.lgc_report_trip.specs.WellFormed.{IsWellFormedRule, IsWellFormedLine, IsWellFormedClaim, IsWellFormed}
use Rattle.lgc_report_trip.specs.ReportReadBack.{IsReadAsReport}
use Rattle.lgc_report_trip.proofs.Ahead.{AreNamed, named_words, reported_ahead}
use Rattle.lgc_report_trip.proofs.Printed.{EndsSign, Printed, printed_then, printed_first, printed_sign, printed_mapped, printed_text}
use Rattle.lgc_report_trip.proofs.Endings.{ends_rule, ends_line, ends_claim, ends_end}
use Rattle.lgc_report_trip.proofs.Keywords.{report_word, end_word, ending_dot, version}
use Rattle.lgc_report_trip.proofs.RowTexts.{row_printed, each_is}
use Rattle.lgc_report_trip.proofs.LineTexts.{end_printed, line_printed}
use Rattle.lgc_report_trip.proofs.ClaimTexts.{claim_printed}
use Rattle.lgc_report_trip.proofs.RuleTexts.{rule_printed}

-- the parts of a report, from the left
regroup : (head rules lines claims end : List ℕ) → head ++ (rules ++ (lines ++ (claims ++ end))) ≡ (((head ++ rules) ++ lines) ++ claims) ++ end
regroup head rules lines claims end = simp append_assoc

module _ (n : ℕ) (logic : Logic) (is_logic : IsLogic logic) (size : length logic.names ≡ n) where
  abbrev s : Setting
  s = text_setting logic

  -- ---- rules, lines and claims in a row

  abbrev of_rule : Numbered n → List ℕ
  of_rule x = numbered_text logic (plain_numbered x)

  abbrev of_claim : Claim n → List ℕ
  of_claim x = claim_text logic (plain_claim x)

  abbrev IsRule : Numbered n → Type 0
  IsRule x = FitsRule logic (plain_numbered x).rule × IsWellFormedRule n (plain_numbered x)

  abbrev IsLine : PlainLine → Type 0
  IsLine line = IsWritableLine logic line × IsWellFormedLine n line

  abbrev IsClaim : Claim n → Type 0
  IsClaim x = IsWritableClaim logic (plain_claim x) × (FitsClaim logic (plain_claim x) × IsWellFormedClaim n (plain_claim x))

  rule_follows : (x : Numbered n) (more rest : List ℕ) → EndsSign ((of_rule x ++ more) ++ rest)
  unfolding rule_text
  rule_follows x more rest = ends_rule _

  next_rule_printed : (before : List (Numbered n)) (x : Numbered n) → IsRule x → Printed s EndsSign (NextRule n s before) (before ++ x ∷ []) (of_rule x)
  next_rule_printed before x is_rule = printed_mapped s EndsSign (λ rule. before ++ rule ∷ []) (Seen spelled_of (OneRule n logic 0 MOST_NUMBER)) x (before ++ x ∷ []) (of_rule x) refl (rule_printed n logic is_logic size x is_rule.0 is_rule.1)

  next_line_printed : (before : List PlainLine) (line : PlainLine) → IsLine line → Printed s Anything (NextLine n s before) (before ++ line ∷ []) (line_text logic line)
  next_line_printed before line is_line = printed_mapped s Anything (λ x. before ++ x ∷ []) (LineHere n s) line (before ++ line ∷ []) (line_text logic line) refl (line_printed n logic is_logic size line is_line.0 is_line.1)

  next_claim_printed : (before : List (Claim n)) (claim : Claim n) → IsClaim claim → Printed s Anything (NextClaim n s before) (before ++ claim ∷ []) (of_claim claim)
  next_claim_printed before claim is_claim = printed_mapped s Anything (λ x. before ++ x ∷ []) (ClaimHere n s) claim (before ++ claim ∷ []) (of_claim claim) refl (claim_printed n logic is_logic size claim is_claim.0 is_claim.1.0 is_claim.1.1)

  -- what is behind the rules
  lines_follow : (lines : List PlainLine) (claims : List (Claim n)) (rest : List ℕ) → EndsSign ((flat_map (line_text logic) lines ++ (flat_map of_claim claims ++ codes "end.\n")) ++ rest)
  unfolding line_text claim_text
  lines_follow [] [] rest = ends_end _
  lines_follow [] (claim ∷ claims) rest = ends_claim _
  lines_follow (line ∷ lines) claims rest = ends_line _

  -- ---- reports

  parts_printed : (report : Report n) → All IsRule report.rules → All IsLine report.lines → All IsClaim report.claims → Printed s Anything (ReportHere n s) report (codes "report 1.\n" ++ (flat_map of_rule report.rules ++ (flat_map (line_text logic) report.lines ++ (flat_map of_claim report.claims ++ codes "end.\n"))))
  parts_printed report rules_are lines_are claims_are =
      let rules : List ℕ = flat_map of_rule report.rules in
      let lines : List ℕ = flat_map (line_text logic) report.lines in
      let claims : List ℕ = flat_map of_claim report.claims in
      let parts : List ℕ = rules ++ (lines ++ (claims ++ codes "end.\n")) in
      let End : List (Numbered n) → List PlainLine → List (Claim n) → Grammar Reported (Report n) = λ r l c. Then (One (is EndWord)) (λ _. Then (One (is Dot)) (λ _. Nothing (report_of n r l c))) in
      let Claims : List (Numbered n) → List PlainLine → Grammar Reported (Report n) = λ r l. Then (Growing (NextClaim n s) []) (λ c. End r l c) in
      let Lines : List (Numbered n) → Grammar Reported (Report n) = λ r. Then (Growing (NextLine n s) []) (λ l. Claims r l) in
      let Rules : Grammar Reported (Report n) = Then (Growing (NextRule n s) []) Lines in
      printed_sign s Anything (is ReportWord) (Then (One is_version) (λ _. Then (One (is Dot)) (λ _. Rules))) report (codes "report ") (codes "1.\n" ++ parts) report_word
      (printed_first s EndsWord Anything is_version (Then (One (is Dot)) (λ _. Rules)) report (codes "1") (codes ".\n" ++ parts) (λ rest g. refl) version
      (printed_sign s Anything (is Dot) Rules report (codes ".\n") parts ending_dot
      (printed_then s EndsSign Anything (Growing (NextRule n s) []) Lines report.rules report rules (lines ++ (claims ++ codes "end.\n")) (λ rest g. lines_follow report.lines report.claims rest)
      (row_printed s EndsSign of_rule (NextRule n s) (λ _ x. IsRule x) next_rule_printed rule_follows [] report.rules (each_is IsRule [] report.rules rules_are))
      (printed_then s Anything Anything (Growing (NextLine n s) []) (λ l. Claims report.rules l) report.lines report lines (claims ++ codes "end.\n") (λ rest g. tt)
      (row_printed s Anything (line_text logic) (NextLine n s) (λ _ x. IsLine x) next_line_printed (λ x more rest. tt) [] report.lines (each_is IsLine [] report.lines lines_are))
      (printed_then s Anything Anything (Growing (NextClaim n s) []) (λ c. End report.rules report.lines c) report.claims report claims (codes "end.\n") (λ rest g. tt)
      (row_printed s Anything of_claim (NextClaim n s) (λ _ x. IsClaim x) next_claim_printed (λ x more rest. tt) [] report.claims (each_is IsClaim [] report.claims claims_are))
      (printed_first s EndsWord Anything (is EndWord) (Then (One (is Dot)) (λ _. Nothing report)) report (codes "end") (codes ".\n") (λ rest g. refl) end_word (end_printed s report)))))))

  pub report_printed : (report : Report n) → IsWritableReport logic (plain_report report) → IsWellFormed n (plain_report report) → Printed s Anything (ReportHere n s) report (report_text logic (plain_report report))
  report_printed report writable formed =
      let rules_fit : All (λ x. FitsRule logic (plain_numbered x).rule) report.rules = All-of_map (λ x. FitsRule logic x.rule) plain_numbered report.rules writable.fits.rules in
      let rules_formed : All (λ x. IsWellFormedRule n (plain_numbered x)) report.rules = All-of_map (IsWellFormedRule n) plain_numbered report.rules formed.rules in
      let claims_are : All (λ x. IsWritableClaim logic (plain_claim x)) report.claims = All-of_map (IsWritableClaim logic) plain_claim report.claims writable.claims in
      let claims_fit : All (λ x. FitsClaim logic (plain_claim x)) report.claims = All-of_map (FitsClaim logic) plain_claim report.claims writable.fits.claims in
      let claims_formed : All (λ x. IsWellFormedClaim n (plain_claim x)) report.claims = All-of_map (IsWellFormedClaim n) plain_claim report.claims formed.claims in
      let lines : List ℕ = flat_map (line_text logic) report.lines in
      printed_text s Anything (ReportHere n s) report (codes "report 1.\n" ++ (flat_map of_rule report.rules ++ (lines ++ (flat_map of_claim report.claims ++ codes "end.\n")))) (report_text logic (plain_report report))
      (ap₂ (λ r c. codes "report 1.\n" ++ (r ++ (lines ++ (c ++ codes "end.\n")))) (sym (flat_map-map (numbered_text logic) plain_numbered report.rules)) (sym (flat_map-map (claim_text logic) plain_claim report.claims))
      ∙ regroup (codes "report 1.\n") (flat_map (numbered_text logic) (map plain_numbered report.rules)) lines (flat_map (claim_text logic) (map plain_claim report.claims)) (codes "end.\n"))
      (parts_printed report (λ k d lt. (rules_fit k d lt, rules_formed k d lt)) (λ k d lt. (writable.lines k d lt, formed.lines k d lt)) (λ k d lt. (claims_are k d lt, (claims_fit k d lt, claims_formed k d lt))))

-- ---- whole texts

-- what is printed with nothing behind it is a text with this tree
pub whole_report : (n : ℕ) (logic : Logic) (report : Report n) (text : List ℕ) → Printed (text_setting logic) Anything (ReportHere n (text_setting logic)) report text → length text ≤ LONGEST_REPORT → IsReportOf n logic text report
whole_report n logic report text p short =
    let s : Setting = text_setting logic in
    let begins = p.prints [] [] tt lex_end in
    let lexes : Lexes text begins.words = subst (λ t. Lexes t begins.words) (append-nil text) (subst (λ (ws : List Word). Lexes (text ++ []) ws) (append-nil begins.words) begins.lexes) in
    let (tokens, cut, seen) = lexes_whole text begins.words lexes in
    let named : List Named = named_all logic text tokens in
    let are : AreNamed logic named begins.words = subst (λ (ws : List Word). AreNamed logic named ws) seen (named_words logic text tokens) in
    record {
      short = short;
      tokens = tokens;
      lexed = cut;
      derived = subst (λ (ts : List Reported). ReportHere n s (Ok report) ts) (sym (reported_ahead s text tokens)) (begins.derives named [] are tt);
    }

-- a text with a tree gives it
gives_report : (n : ℕ) (logic : Logic) (bytes : List ℕ) (report : Report n) → IsReportOf n logic bytes report → ReportGives n logic bytes (Ok report)
gives_report n logic bytes report h = rw (le-ltb LONGEST_REPORT (length bytes) h.short, h.lexed) h.derived

pub report_read_back : (n : ℕ) (logic : Logic) (report : Report n) → IsLogic logic → logic.size ≡ n → IsWritableReport logic (plain_report report) → IsWellFormed n (plain_report report) → IsReadAsReport n logic (report_text logic (plain_report report)) report
report_read_back n logic report is_logic same writable formed short =
    let text : List ℕ = report_text logic (plain_report report) in
    let is_text = whole_report n logic report text (report_printed n logic is_logic (is_logic.named ∙ same) report writable formed) short in
    (is_text, gives_report n logic text report is_text)
