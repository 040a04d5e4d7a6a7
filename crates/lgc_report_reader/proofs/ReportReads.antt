-- The readers of reports read their grammar.
use Rattle.std.proofs.Common.{◌≡◌, ℕ, Bool, true, false, List, [], ◌∷◌, ◌++◌, None, map, refl, sym, inl, inr, ◌⊎◌}
use Rattle.std.specs.Prelude.{◌||◌, ◌&&◌, not}
use Rattle.lgc_grammar.specs.Grammar.{Grammar, Language, One, Nothing, Then, Barred, PlainNothing, PlainOne, PlainThen, PlainEither, none, IsFront}
use Rattle.lgc_grammar.specs.Reading.{Reader, next_is, barred_at}
use Rattle.lgc_grammar.specs.Seen.{Seen, PlainSeen}
use Rattle.lgc_grammar.proofs.Readers.{Reads, Must, never, or_right, either_way, begins, front_as}
use Rattle.lgc_grammar.proofs.Basic.{map_reads, nothing_reads}
use Rattle.lgc_grammar.proofs.Sequences.{then_reads, then_reads_if}
use Rattle.lgc_grammar.proofs.Choices.{either_reads, optional_reads}
use Rattle.lgc_grammar.proofs.RefusedTokens.{barred_reads}
use Rattle.lgc_grammar.proofs.GrowingTrees.{growing_reads}
use Rattle.lgc_grammar.proofs.SeenTokens.{seen_reads}
use Rattle.lgc_syntax.specs.declared.fault.TheConstants.{WRONG_ARITY, TOO_MANY_GOALS}
use Rattle.lgc_syntax.specs.declared.formula.Term.{Term}
use Rattle.lgc_syntax.specs.declared.formula.Formula.{Formula, Op}
use Rattle.lgc_clauses.specs.declared.rule.Numbered.{Numbered}
use Rattle.lgc_sequents.specs.Signed.{SignedFormula}
use Rattle.lgc_sequents.specs.Sequents.{added}
use Rattle.lgc_sequents.specs.Lines.{PlainLine}
use Rattle.lgc_sequents.specs.declared.line.Cited.{Cited}
use Rattle.lgc_sequents.specs.declared.line.Reason.{Reason}
use Rattle.lgc_sequents.specs.declared.line.Reason.TheVariants.{Axiom, Pending, ByRule, Resolve}
use Rattle.lgc_tokens.specs.declared.number.TheConstants.{MOST_NUMBER}
use Rattle.lgc_tokens.specs.declared.class.Class.{Class}
use Rattle.lgc_tokens.specs.declared.class.Class.TheVariants.{RuleWord, AtWord, ReportWord, LineWord, ByWord, AxiomWord, PendingWord, OnWord, FromWord, ResolveWord, ClaimWord, ProvedWord, RefutedWord, UnfinishedWord, HoldsWord, EndWord, Caret, OpenRound, OpenBrace, CloseBrace, OpenSquare, CloseSquare, Comma, Dot, Colon}
use Rattle.lgc_tokens.specs.Classes as tokens
use Rattle.lgc_tokens.specs.Classes.{same}
use Rattle.lgc_formulas.specs.declared.formula.Read.{Read}
use Rattle.lgc_formulas.specs.declared.formula.TheConstants.{MOST_NODES}
use Rattle.lgc_formulas.specs.Named as formulas
use Rattle.lgc_formulas.specs.Named.{Named, predicates}
use Rattle.lgc_formulas.specs.Setting.{Setting, numbered}
use Rattle.lgc_formulas.specs.TermGrammar.{Counted}
use Rattle.lgc_formulas.specs.PlainTerms.{PlainTerm}
use Rattle.lgc_formulas.specs.PlainFormulas.{PlainFormula, operator, no_operands}
use Rattle.lgc_formulas.specs.FormulaTexts.{LoneTerm, lone_term_at}
use Rattle.lgc_formulas.proofs.Tables as named
use Rattle.lgc_formulas.proofs.Tables.{operator_token, operator_is}
use Rattle.lgc_formulas.proofs.TermReads.{or_is, one_term_reads}
use Rattle.lgc_formulas.proofs.FormulaReads.{formula_first, one_formula_reads}
use Rattle.lgc_formulas.proofs.FormulaLists.{goes_on}
use Rattle.lgc_queries.specs.declared.read.QueryRead.{QueryRead}
use Rattle.lgc_queries.specs.Goals.{has_too_many_goals}
use Rattle.lgc_queries.specs.QueryGrammar.{OneQuery}
use Rattle.lgc_queries.specs.PlainQueries.{PlainQuery}
use Rattle.lgc_queries.proofs.QueryReads.{one_query_reads}
use Rattle.lgc_rules.specs.RuleGrammar.{Value}
use Rattle.lgc_rules.proofs.RuleReads.{value_reads, set_reads, rule_reads}
use Rattle.lgc_report.specs.declared.report.Evidence.{Evidence}
use Rattle.lgc_report.specs.declared.report.Evidence.TheVariants.{Proved, Refuted, Unfinished}
use Rattle.lgc_report.specs.declared.report.Claim.{Claim}
use Rattle.lgc_report_reader.specs.Reported.{Reported, spelled_of, number, is, is_number, is_position, is_predicate, starts_formula, starts_query, starts_sequent, entry_fault}
use Rattle.lgc_report_reader.specs.Starting.{PlainStarting}
use Rattle.lgc_report_reader.specs.ReportGrammar.{cited_line, line_of, answer_of, holds_of, report_of, NumberHere, Position, ends_principal, ends_query, TermHere, NextTerm, TermsHere, CitedLine, NextCited, Premises, NextPosition, Positions, FormulaHere, SetHere, SignBehind, Item, NextItem, Items, WordReason, BehindPrincipal, RuleReason, BehindResolved, ResolveReason, ReasonHere, LineHere, EntryAtom, Entry, NextEntry, Entries, ByPositions, AtValuation, EvidenceHere, BehindQuery, AnswerHere, HoldsHere, ClaimHere, NextRule, NextLine, NextClaim, ReportHere}
use Rattle.lgc_report_reader.specs.PlainReports.{◌then◌, PlainEnd, PlainTermHere, PlainTermsHere, PlainCited, PlainPremises, PlainPositions, PlainFormulaHere, PlainSetHere, PlainItem, PlainItems, PlainBehindPrincipal, PlainRuleReason, PlainBehindResolved, PlainResolveReason, PlainReason, PlainLineHere, PlainEntry, PlainEntries, PlainByPositions, PlainAtValuation, PlainEvidence, PlainAnswer, PlainHolds, PlainClaimHere, PlainRuleHere, PlainReportHere}
use Rattle.lgc_report_reader.specs.ReportReading.{number_at, position_at, term_here_at, formula_here_at, set_here_at, value_here_at, query_here_at, rule_here_at, next_term_at, more_terms_at, terms_here_at, cited_at, next_cited_at, more_cited_at, premises_at, next_position_at, more_positions_at, positions_at, ended_at, sign_behind_at, item_at, next_item_at, more_items_at, items_at, word_reason_at, behind_principal_at, rule_reason_at, behind_resolved_at, resolve_reason_at, reason_at, line_at, entry_atom_at, entry_at, next_entry_at, more_entries_at, entries_at, by_positions_at, at_valuation_at, evidence_at, behind_query_at, answer_at, holds_at, claim_at, next_rule_at, rules_at, next_line_at, lines_at, next_claim_at, claims_at, report_at}
use Rattle.lgc_report_reader.proofs.StartingReads.{starting_reads}
use Rattle.lgc_report_reader.proofs.ReportedTokens.{as_reported, with_nothing, token, token_is, off, one, one_number, one_position, one_version, made_named, seen_front}

-- ---- what begins with a token of a class

-- each such token begins a phrase, where one does
begun : (c : Class) (Q : Language Reported) → (front : List Reported) × (c then Q) front → (t : Reported) → is c t ≡ true → IsFront (c then Q) (t ∷ [])
begun c Q (front, (v, w, f, g, split)) t h = (w, (t ∷ [], w, (t, (h, refl)), g, refl))

-- what may be barred by such a token
barred_behind : {A : Type 0} (bad : Bool) (n : ℕ) (c : Class) {q : Reader Reported A} {L : Grammar Reported A} {Q : Language Reported} {go : Reported → Bool} → Reads q L (c then Q) (Must (is c)) go → Reads (barred_at bad (is c) n q) (Barred bad (is c) n L) (c then Q) (Must (is c)) go
barred_behind bad n c {Q = Q} reads = barred_reads bad n reads (begun c Q reads.example)

-- ---- single tokens

number_reads : Reads number_at NumberHere (PlainOne is_number) (Must is_number) never
unfolding number_at
number_reads = map_reads number one_number

position_reads : Reads position_at Position (PlainOne is_position) (Must is_position) never
unfolding position_at
position_reads = map_reads number one_position

ended_reads : {A : Type 0} (tree : A) → Reads (ended_at tree) (Then (One (is Dot)) (λ _. Nothing tree)) (Dot then PlainNothing) (Must (is Dot)) never
unfolding ended_at
ended_reads tree = then_reads (one Dot) (λ _. nothing_reads tree never)

-- ---- terms and cited lines

pub lone_term_reads : Reads lone_term_at LoneTerm PlainTerm (Must tokens.starts_term) (tokens.is OpenRound)
lone_term_reads = map_reads (λ (x : Counted Term). x.0) (one_term_reads MOST_NODES)

term_here_reads : Reads term_here_at TermHere PlainTermHere (Must (λ t. tokens.starts_term t.named.spelled)) (is OpenRound)
unfolding term_here_at
term_here_reads = seen_reads spelled_of with_nothing (λ t. refl) lone_term_reads

pub next_term_reads : (terms : List Term) → Reads (next_term_at terms) (NextTerm terms) (Comma then PlainTermHere) (Must (is Comma)) (is OpenRound)
unfolding next_term_at
next_term_reads terms = then_reads (one Comma) (λ _. map_reads (λ term. terms ++ term ∷ []) term_here_reads)

terms_here_read : Reads terms_here_at TermsHere PlainTermsHere (Must (is OpenSquare)) never
unfolding terms_here_at more_terms_at
terms_here_read =
    then_reads (one OpenSquare) (λ _.
    then_reads_if (map_reads (λ term. term ∷ []) term_here_reads) (λ first.
    then_reads_if (growing_reads next_term_reads (off (same Comma) (same OpenRound) refl) first) (λ terms.
    then_reads (one CloseSquare) (λ _.
    nothing_reads terms never))
    (off (same CloseSquare) (λ c. same Comma c || same OpenRound c) refl))
    (off (λ c. same Comma c || same CloseSquare c) (same OpenRound) refl))

-- what may go on a cited line
abbrev cited_goes_on : Reported → Bool
cited_goes_on t = is OpenSquare t || never t

cited_reads : Reads cited_at CitedLine PlainCited (Must is_position) cited_goes_on
unfolding cited_at
cited_reads = then_reads position_reads (λ position. map_reads (cited_line position) (optional_reads [] terms_here_read))

pub next_cited_reads : (before : List Cited) → Reads (next_cited_at before) (NextCited before) (Comma then PlainCited) (Must (is Comma)) cited_goes_on
unfolding next_cited_at
next_cited_reads before = then_reads (one Comma) (λ _. map_reads (λ cited. before ++ cited ∷ []) cited_reads)

comma_no_square : (t : Reported) → is Comma t ≡ true → cited_goes_on t ≡ false
comma_no_square = off (same Comma) (λ c. same OpenSquare c || false) refl

premises_read : Reads premises_at Premises PlainPremises (Must (is FromWord)) (λ t. is Comma t || cited_goes_on t)
unfolding premises_at more_cited_at
premises_read =
    then_reads (one FromWord) (λ _.
    then_reads_if (map_reads (λ cited. cited ∷ []) cited_reads) (λ first.
    growing_reads next_cited_reads comma_no_square first)
    (comma_no_square, (λ t h. or_right (is Comma t) (cited_goes_on t) h)))

pub next_position_reads : (before : List ℕ) → Reads (next_position_at before) (NextPosition before) (Comma then PlainOne is_position) (Must (is Comma)) never
unfolding next_position_at
next_position_reads before = then_reads (one Comma) (λ _. map_reads (λ position. before ++ position ∷ []) position_reads)

positions_read : Reads positions_at Positions PlainPositions (Must is_position) (λ t. is Comma t || never t)
unfolding positions_at more_positions_at
positions_read =
    then_reads (map_reads (λ position. position ∷ []) position_reads) (λ first.
    growing_reads next_position_reads (λ t h. refl) first)

module _ (n : ℕ) (s : Setting) where
  -- ---- what other grammars have

  pub formula_here_reads : Reads (formula_here_at s) (FormulaHere n s) (PlainFormulaHere s) (Must (starts_formula s)) (is OpenRound)
  unfolding formula_here_at
  formula_here_reads = seen_reads (λ t. t.named) as_reported (λ t. refl) (one_formula_reads s MOST_NODES)

  set_here_reads : Reads (set_here_at n s.logic) (SetHere n s) (PlainSetHere s) (Must (is OpenBrace)) never
  unfolding set_here_at
  set_here_reads = seen_reads spelled_of with_nothing (λ t. refl) (set_reads n s.logic)

  -- ---- sequents

  sign_behind_reads : (items : List SignedFormula) (x : Read) → Reads (sign_behind_at n s items x) (SignBehind n s items x) (Caret then PlainSetHere s) (Must (is Caret)) never
  unfolding sign_behind_at
  sign_behind_reads items x = barred_behind x.is_bare WRONG_ARITY Caret (then_reads (one Caret) (λ _. map_reads (added n items x.formula) set_here_reads))

  item_reads : (items : List SignedFormula) → Reads (item_at n s items) (Item n s items) (PlainItem s) (Must (starts_formula s)) never
  unfolding item_at
  item_reads items = then_reads_if formula_here_reads (λ x. sign_behind_reads items x) (off (same Caret) (same OpenRound) refl)

  pub next_item_reads : (items : List SignedFormula) → Reads (next_item_at n s items) (NextItem n s items) (Comma then PlainItem s) (Must (is Comma)) never
  unfolding next_item_at
  next_item_reads items = then_reads (one Comma) (λ _. item_reads items)

  items_read : Reads (items_at n s) (Items n s) (PlainItems s) (Must (starts_formula s)) (λ t. is Comma t || never t)
  unfolding items_at more_items_at
  items_read = then_reads (item_reads []) (λ first. growing_reads next_item_reads (λ t h. refl) first)

  -- ---- lines

  word_reason_reads : (word : Class) (reason : Reason) → Reads (word_reason_at n s word reason) (WordReason n s word reason) (PlainEnd word) (Must (is word)) never
  unfolding word_reason_at
  word_reason_reads word reason = then_reads (one word) (λ _. ended_reads reason)

  -- either begins what is read behind a principal formula
  principal_front : (t : Reported) → ends_principal t ≡ true → IsFront (PlainBehindPrincipal s) (t ∷ [])
  principal_front t h = by (either_way (is FromWord t))
    where
      point : PlainThen (PlainOne (is Dot)) PlainNothing (token Dot ∷ [])
      point = (token Dot ∷ [], [], (token Dot, (token_is Dot, refl)), refl, refl)

      of_from : is FromWord t ≡ true → (front : List Reported) × PlainPremises front → IsFront (PlainBehindPrincipal s) (t ∷ [])
      of_from from (front, (v, w, f, g, split)) = (w ++ token Dot ∷ [], (t ∷ w, token Dot ∷ [], inl (t ∷ [], w, (t, (from, refl)), g, refl), point, refl))

      by : (is FromWord t ≡ true) ⊎ (is FromWord t ≡ false) → IsFront (PlainBehindPrincipal s) (t ∷ [])
      by (inl from) = of_from from premises_read.example
      by (inr other) = let dot : is Dot t ≡ true = rw other at h in ([], ([], t ∷ [], inr refl, (t ∷ [], [], (t, (dot, refl)), refl, refl), refl))

  behind_principal_reads : (rule : ℕ) (x : Read) → Reads (behind_principal_at n s rule x) (BehindPrincipal n s rule x) (PlainBehindPrincipal s) (Must ends_principal) never
  unfolding behind_principal_at
  behind_principal_reads rule x =
      barred_reads x.is_bare WRONG_ARITY
      (then_reads_if (optional_reads [] premises_read) (λ premises. ended_reads (ByRule rule x.formula premises))
      (off (same Dot) (λ c. same FromWord c || (same Comma c || (same OpenSquare c || false))) refl))
      principal_front

  rule_reason_reads : Reads (rule_reason_at n s) (RuleReason n s) (PlainRuleReason s) (Must (is RuleWord)) never
  unfolding rule_reason_at
  rule_reason_reads =
      then_reads (one RuleWord) (λ _.
      then_reads number_reads (λ rule.
      then_reads (one OnWord) (λ _.
      then_reads_if formula_here_reads (λ x. behind_principal_reads rule x)
      (off (λ c. same FromWord c || same Dot c) (same OpenRound) refl))))

  behind_resolved_reads : (x : Read) → Reads (behind_resolved_at n s x) (BehindResolved n s x) (PlainBehindResolved s) (Must (is FromWord)) never
  unfolding behind_resolved_at
  behind_resolved_reads x =
      barred_behind x.is_bare WRONG_ARITY FromWord
      (then_reads (one FromWord) (λ _.
      then_reads position_reads (λ left.
      then_reads (one Comma) (λ _.
      then_reads position_reads (λ right.
      ended_reads (Resolve x.formula left right))))))

  resolve_reason_reads : Reads (resolve_reason_at n s) (ResolveReason n s) (PlainResolveReason s) (Must (is ResolveWord)) never
  unfolding resolve_reason_at
  resolve_reason_reads =
      then_reads (one ResolveWord) (λ _.
      then_reads (one OnWord) (λ _.
      then_reads_if formula_here_reads (λ x. behind_resolved_reads x)
      (off (same FromWord) (same OpenRound) refl)))

  reason_reads : Reads (reason_at n s) (ReasonHere n s) (PlainReason s) (Must (λ t. is AxiomWord t || (is PendingWord t || (is RuleWord t || is ResolveWord t)))) never
  unfolding reason_at
  reason_reads =
      either_reads (word_reason_reads AxiomWord Axiom)
      (either_reads (word_reason_reads PendingWord Pending)
      (either_reads rule_reason_reads resolve_reason_reads
      (off (same ResolveWord) (same RuleWord) refl))
      (off (λ c. same RuleWord c || same ResolveWord c) (same PendingWord) refl))
      (off (λ c. same PendingWord c || (same RuleWord c || same ResolveWord c)) (same AxiomWord) refl)

  line_reads : Reads (line_at n s) (LineHere n s) (PlainLineHere s) (Must (is LineWord)) never
  unfolding line_at
  line_reads =
      then_reads (one LineWord) (λ _.
      then_reads position_reads (λ position.
      then_reads (one Colon) (λ _.
      then_reads_if items_read (λ items.
      then_reads (one ByWord) (λ _.
      map_reads (line_of position items) reason_reads))
      (off (same ByWord) (λ c. same Comma c || false) refl))))

  -- ---- entries

  -- a formula begins with the name of a predicate
  predicate_starts : (t : Reported) → is_predicate t ≡ true → starts_formula s t ≡ true
  predicate_starts t h = or_is (formulas.starts_operator t.named) _ (or_is (formulas.is_quantifier t.named) _ (or_is (formulas.is_hash (numbered s) t.named) _ h))

  formula_front : (t : Reported) → starts_formula s t ≡ true → IsFront (PlainFormulaHere s) (t ∷ [])
  formula_front t h = let begin = formula_first (numbered s) in seen_front (PlainFormula (numbered s)) t (begin.each_token t.named h)

  atom_example : (front : List Reported) × PlainStarting is_predicate (PlainFormulaHere s) front
  atom_example =
      let t : Reported = as_reported named.predicate_token in
      let (more, h) = formula_front t (predicate_starts t named.predicate_is) in
      (t ∷ more, (named.predicate_is, h))

  entry_atom_reads : (entries : List (Formula × ℕ)) → Reads (entry_atom_at n s entries) (EntryAtom n s entries) (PlainStarting is_predicate (PlainFormulaHere s)) (Must is_predicate) (is OpenRound)
  unfolding entry_atom_at
  entry_atom_reads entries = starting_reads is_predicate (entry_fault entries) formula_here_reads (λ t k h b. formula_front t (predicate_starts t h)) atom_example

  value_here_reads : Reads (value_here_at s.logic) (Seen spelled_of (Value s.logic)) (PlainSeen spelled_of (PlainOne tokens.is_value)) (Must (λ t. tokens.is_value t.named.spelled)) never
  unfolding value_here_at
  value_here_reads = seen_reads spelled_of with_nothing (λ t. refl) (value_reads s.logic)

  entry_reads : (entries : List (Formula × ℕ)) → Reads (entry_at n s entries) (Entry n s entries) (PlainEntry s) (Must is_predicate) never
  unfolding entry_at
  entry_reads entries =
      then_reads_if (entry_atom_reads entries) (λ atom.
      then_reads (one Colon) (λ _.
      map_reads (λ value. entries ++ (atom.formula, value) ∷ []) value_here_reads))
      (off (same Colon) (same OpenRound) refl)

  pub next_entry_reads : (entries : List (Formula × ℕ)) → Reads (next_entry_at n s entries) (NextEntry n s entries) (Comma then PlainEntry s) (Must (is Comma)) never
  unfolding next_entry_at
  next_entry_reads entries = then_reads (one Comma) (λ _. entry_reads entries)

  entries_read : Reads (entries_at n s) (Entries n s) (PlainEntries s) (Must is_predicate) (λ t. is Comma t || never t)
  unfolding entries_at more_entries_at
  entries_read = then_reads (entry_reads []) (λ first. growing_reads next_entry_reads (λ t h. refl) first)

  -- ---- evidence

  by_positions_reads : (word : Class) (evidence : List ℕ → Evidence) → Reads (by_positions_at n s word evidence) (ByPositions n s word evidence) (PlainByPositions s word) (Must (is word)) never
  unfolding by_positions_at
  by_positions_reads word evidence =
      then_reads (one word) (λ _.
      then_reads (one ByWord) (λ _.
      then_reads_if positions_read (λ positions. ended_reads (evidence positions))
      (off (same Dot) (λ c. same Comma c || false) refl)))

  close_no_entry : (t : Reported) → is CloseBrace t ≡ true → (is_predicate t || (is Comma t || never t)) ≡ false
  close_no_entry t = named.off (λ _ c. same CloseBrace c) (λ r c. predicates r c || (same Comma c || false)) (λ op. refl) (λ quant. refl) refl t.named

  at_valuation_reads : Reads (at_valuation_at n s) (AtValuation n s) (PlainAtValuation s) (Must (is RefutedWord)) never
  unfolding at_valuation_at
  at_valuation_reads =
      then_reads (one RefutedWord) (λ _.
      then_reads (one AtWord) (λ _.
      then_reads (one OpenBrace) (λ _.
      then_reads_if (optional_reads [] entries_read) (λ entries.
      then_reads (one CloseBrace) (λ _.
      ended_reads (Refuted entries)))
      close_no_entry)))

  evidence_reads : Reads (evidence_at n s) (EvidenceHere n s) (PlainEvidence s) (Must ends_query) never
  unfolding evidence_at
  evidence_reads =
      either_reads (by_positions_reads ProvedWord Proved)
      (either_reads (by_positions_reads UnfinishedWord Unfinished) at_valuation_reads
      (off (same RefutedWord) (same UnfinishedWord) refl))
      (off (λ c. same UnfinishedWord c || same RefutedWord c) (same ProvedWord) refl)

  -- each of the three words begins evidence
  evidence_front : (t : Reported) → ends_query t ≡ true → IsFront (PlainEvidence s) (t ∷ [])
  evidence_front t h = by (either_way (is ProvedWord t))
    where
      of_other : (is UnfinishedWord t ≡ true) ⊎ (is UnfinishedWord t ≡ false) → (is UnfinishedWord t || is RefutedWord t) ≡ true → IsFront (PlainEither (PlainByPositions s UnfinishedWord) (PlainAtValuation s)) (t ∷ [])
      of_other (inl is_it) k = let reads = by_positions_reads UnfinishedWord Unfinished in front_as (PlainByPositions s UnfinishedWord) (PlainEither (PlainByPositions s UnfinishedWord) (PlainAtValuation s)) (t ∷ []) (λ v i. inl i) (begun UnfinishedWord _ reads.example t is_it)
      of_other (inr isnt) k = front_as (PlainAtValuation s) (PlainEither (PlainByPositions s UnfinishedWord) (PlainAtValuation s)) (t ∷ []) (λ v i. inr i) (begun RefutedWord _ at_valuation_reads.example t (rw isnt at k))

      by : (is ProvedWord t ≡ true) ⊎ (is ProvedWord t ≡ false) → IsFront (PlainEvidence s) (t ∷ [])
      by (inl is_it) = let reads = by_positions_reads ProvedWord Proved in front_as (PlainByPositions s ProvedWord) (PlainEvidence s) (t ∷ []) (λ v i. inl i) (begun ProvedWord _ reads.example t is_it)
      by (inr isnt) = front_as (PlainEither (PlainByPositions s UnfinishedWord) (PlainAtValuation s)) (PlainEvidence s) (t ∷ []) (λ v i. inr i) (of_other (either_way (is UnfinishedWord t)) (rw isnt at h))

  -- ---- claims

  query_here_reads : Reads (query_here_at s) (Seen (λ (t : Reported). t.named) (OneQuery s MOST_NODES)) (PlainSeen (λ (t : Reported). t.named) (PlainQuery (numbered s))) (Must (λ t. tokens.starts_query t.named.spelled)) (λ t. goes_on t.named)
  unfolding query_here_at
  query_here_reads = seen_reads (λ (t : Reported). t.named) as_reported (λ t. refl) (one_query_reads s MOST_NODES)

  behind_query_reads : (k : ℕ) (x : QueryRead) → Reads (behind_query_at n s k x) (BehindQuery n s k x) (PlainEvidence s) (Must ends_query) never
  unfolding behind_query_at
  behind_query_reads k x =
      barred_reads x.is_bare WRONG_ARITY
      (barred_reads (has_too_many_goals s.logic.size x.query) TOO_MANY_GOALS (map_reads (answer_of n k x.query) evidence_reads) evidence_front)
      evidence_front

  and_true : (b : Bool) → b ≡ true → (b && true) ≡ true
  and_true true h = refl
  and_true false h = h

  and_false : (b : Bool) → (b && false) ≡ false
  and_false true = refl
  and_false false = refl

  query_start : (ts : List Named) → next_is (λ t. tokens.starts_query t.spelled) ts ≡ true → next_is starts_query (map as_reported ts) ≡ true
  query_start [] h = absurd cc
  query_start (t ∷ ts) h = and_true (tokens.starts_query t.spelled) h

  query_example : (front : List Reported) × PlainStarting starts_query (PlainSeen (λ (t : Reported). t.named) (PlainQuery (numbered s))) front
  query_example =
      let reads = one_query_reads s MOST_NODES in
      let (front, h) = reads.example in
      (map as_reported front, (query_start front (begins reads front h), rw (made_named front) h))

  answer_reads : (k : ℕ) → Reads (answer_at n s k) (AnswerHere n s k) (PlainAnswer s) (Must starts_query) never
  unfolding answer_at
  answer_reads k =
      then_reads_if (starting_reads starts_query (λ _. None) query_here_reads (λ t m h b. absurd cc) query_example) (λ x.
      behind_query_reads k x)
      (off (λ c. same ProvedWord c || (same UnfinishedWord c || same RefutedWord c)) (λ c. same Comma c || same OpenRound c) refl)

  -- a sequent that begins with the name of an operator
  abbrev name_token : Reported
  name_token = record { named = operator_token; names_formula = true; formula_here = None }

  name_starts : starts_sequent s name_token ≡ true
  name_starts = rw (operator_is, and_false (tokens.starts_query operator_token.spelled)) refl

  sequent_example : (front : List Reported) × PlainStarting (starts_sequent s) (PlainItems s) front
  sequent_example =
      let reads = sign_behind_reads [] (record { formula = Op 0 []; nodes_left = 0; is_bare = false }) in
      let (sign, h) = reads.example in
      (name_token ∷ (sign ++ []), (name_starts, (name_token ∷ sign, [], (name_token ∷ [], sign, operator operator_token [] operator_is no_operands, h, refl), none, refl)))

  holds_reads : (k : ℕ) → Reads (holds_at n s k) (HoldsHere n s k) (PlainHolds s) (Must (starts_sequent s)) never
  unfolding holds_at
  holds_reads k =
      then_reads_if (starting_reads (starts_sequent s) (λ _. None) items_read (λ t m h b. absurd cc) sequent_example) (λ items.
      then_reads (one HoldsWord) (λ _.
      then_reads (one ByWord) (λ _.
      then_reads position_reads (λ position.
      ended_reads (holds_of n k items position)))))
      (off (same HoldsWord) (λ c. same Comma c || false) refl)

  no_query : (t : Reported) → starts_sequent s t ≡ true → starts_query t ≡ false
  no_query t h = by (starts_formula s t) (starts_query t) h
    where
      by : (f q : Bool) → (f && not q) ≡ true → q ≡ false
      by true true e = sym e
      by true false e = refl
      by false q e = absurd cc

  claim_reads : Reads (claim_at n s) (ClaimHere n s) (PlainClaimHere s) (Must (is ClaimWord)) never
  unfolding claim_at
  claim_reads =
      then_reads (one ClaimWord) (λ _.
      then_reads number_reads (λ k.
      then_reads (one Colon) (λ _.
      either_reads (answer_reads k) (holds_reads k) no_query)))

  -- ---- reports

  pub next_rule_reads : (rules : List (Numbered n)) → Reads (next_rule_at n s rules) (NextRule n s rules) (PlainRuleHere s) (Must (is RuleWord)) never
  unfolding next_rule_at rule_here_at
  next_rule_reads rules = map_reads (λ rule. rules ++ rule ∷ []) (seen_reads spelled_of with_nothing (λ t. refl) (rule_reads n s.logic 0 MOST_NUMBER))

  pub next_line_reads : (lines : List PlainLine) → Reads (next_line_at n s lines) (NextLine n s lines) (PlainLineHere s) (Must (is LineWord)) never
  unfolding next_line_at
  next_line_reads lines = map_reads (λ line. lines ++ line ∷ []) line_reads

  pub next_claim_reads : (claims : List (Claim n)) → Reads (next_claim_at n s claims) (NextClaim n s claims) (PlainClaimHere s) (Must (is ClaimWord)) never
  unfolding next_claim_at
  next_claim_reads claims = map_reads (λ claim. claims ++ claim ∷ []) claim_reads

  pub report_reads : Reads (report_at n s) (ReportHere n s) (PlainReportHere s) (Must (is ReportWord)) never
  unfolding report_at rules_at lines_at claims_at
  report_reads =
      then_reads (one ReportWord) (λ _.
      then_reads one_version (λ _.
      then_reads (one Dot) (λ _.
      then_reads_if (growing_reads next_rule_reads (λ t h. refl) []) (λ rules.
      then_reads_if (growing_reads next_line_reads (λ t h. refl) []) (λ lines.
      then_reads_if (growing_reads next_claim_reads (λ t h. refl) []) (λ claims.
      then_reads (one EndWord) (λ _.
      ended_reads (report_of n rules lines claims)))
      (off (same EndWord) (λ c. same ClaimWord c || false) refl))
      (off (λ c. same ClaimWord c || same EndWord c) (λ c. same LineWord c || false) refl))
      (off (λ c. same LineWord c || (same ClaimWord c || same EndWord c)) (λ c. same RuleWord c || false) refl))))
