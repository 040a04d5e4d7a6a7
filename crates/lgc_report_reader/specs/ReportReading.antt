-- The readers of reports, line by line as their grammar.
use Rattle.std.specs.Prelude.{ℕ, List, [], ◌∷◌, ◌++◌, None}
use Rattle.lgc_grammar.specs.Reading.{Reader, one_at, barred_at, nothing_at, map_at, ◌>>=◌, ◌>>◌, either_at, optional_at, growing_at}
use Rattle.lgc_grammar.specs.Seen.{seen_at}
use Rattle.lgc_values.specs.Logic.{Logic}
use Rattle.lgc_syntax.specs.declared.fault.TheConstants.{WRONG_ARITY, TOO_MANY_GOALS}
use Rattle.lgc_syntax.specs.declared.formula.Term.{Term}
use Rattle.lgc_syntax.specs.declared.formula.Formula.{Formula}
use Rattle.lgc_clauses.specs.declared.rule.Numbered.{Numbered}
use Rattle.lgc_sequents.specs.Signed.{SignedFormula}
use Rattle.lgc_sequents.specs.Sequents.{added}
use Rattle.lgc_sequents.specs.Lines.{PlainLine}
use Rattle.lgc_sequents.specs.declared.line.Cited.{Cited}
use Rattle.lgc_sequents.specs.declared.line.Reason.{Reason}
use Rattle.lgc_sequents.specs.declared.line.Reason.TheVariants.{Axiom, Pending, ByRule, Resolve}
use Rattle.lgc_tokens.specs.declared.number.TheConstants.{MOST_NUMBER}
use Rattle.lgc_tokens.specs.declared.class.Class.{Class}
use Rattle.lgc_tokens.specs.declared.class.Class.TheVariants.{RuleWord, AtWord, ReportWord, LineWord, ByWord, AxiomWord, PendingWord, OnWord, FromWord, ResolveWord, ClaimWord, ProvedWord, RefutedWord, UnfinishedWord, HoldsWord, EndWord, Caret, OpenBrace, CloseBrace, OpenSquare, CloseSquare, Comma, Dot, Colon}
use Rattle.lgc_formulas.specs.declared.formula.Read.{Read}
use Rattle.lgc_formulas.specs.declared.formula.TheConstants.{MOST_NODES}
use Rattle.lgc_formulas.specs.Setting.{Setting}
use Rattle.lgc_formulas.specs.FormulaReading.{one_formula_at}
use Rattle.lgc_formulas.specs.FormulaTexts.{lone_term_at}
use Rattle.lgc_queries.specs.declared.read.QueryRead.{QueryRead}
use Rattle.lgc_queries.specs.Goals.{has_too_many_goals}
use Rattle.lgc_queries.specs.QueryReading.{one_query_at}
use Rattle.lgc_rules.specs.RuleReading.{value_at, set_at, rule_at}
use Rattle.lgc_report.specs.declared.report.Evidence.{Evidence}
use Rattle.lgc_report.specs.declared.report.Evidence.TheVariants.{Proved, Refuted, Unfinished}
use Rattle.lgc_report.specs.declared.report.Claim.{Claim}
use Rattle.lgc_report.specs.declared.report.Report.{Report}
use Rattle.lgc_report_reader.specs.Reported.{Reported, spelled_of, number, is, is_number, is_position, is_version, is_predicate, starts_query, starts_sequent, entry_fault}
use Rattle.lgc_report_reader.specs.Starting.{starting_at}
use Rattle.lgc_report_reader.specs.ReportGrammar.{cited_line, line_of, answer_of, holds_of, report_of, ends_principal, ends_query}

-- ---- single tokens

unfoldable pub number_at : Reader Reported ℕ
number_at ts = map_at number (one_at is_number) ts

unfoldable pub position_at : Reader Reported ℕ
position_at ts = map_at number (one_at is_position) ts

-- ---- what other grammars have, among the tokens of reports

unfoldable pub term_here_at : Reader Reported Term
term_here_at ts = seen_at spelled_of lone_term_at ts

unfoldable pub formula_here_at : Setting → Reader Reported Read
formula_here_at s ts = seen_at (λ t. t.named) (one_formula_at s MOST_NODES) ts

unfoldable pub set_here_at : ℕ → Logic → Reader Reported (List ℕ)
set_here_at n logic ts = seen_at spelled_of (set_at n logic) ts

unfoldable pub value_here_at : Logic → Reader Reported ℕ
value_here_at logic ts = seen_at spelled_of (value_at logic) ts

unfoldable pub query_here_at : Setting → Reader Reported QueryRead
query_here_at s ts = seen_at (λ t. t.named) (one_query_at s MOST_NODES) ts

unfoldable pub rule_here_at : (n : ℕ) → Logic → Reader Reported (Numbered n)
rule_here_at n logic ts = seen_at spelled_of (rule_at n logic 0 MOST_NUMBER) ts

-- ---- terms and cited lines

-- a term behind these
unfoldable pub next_term_at : List Term → Reader Reported (List Term)
next_term_at terms = do
  one_at (is Comma)
  map_at (λ term. terms ++ term ∷ []) term_here_at

unfoldable pub more_terms_at : List Term → Reader Reported (List Term)
more_terms_at terms ts = growing_at (is Comma) next_term_at terms ts

unfoldable pub terms_here_at : Reader Reported (List Term)
terms_here_at = do
  one_at (is OpenSquare)
  first ← map_at (λ term. term ∷ []) term_here_at
  terms ← more_terms_at first
  one_at (is CloseSquare)
  nothing_at terms

unfoldable pub cited_at : Reader Reported Cited
cited_at = do
  position ← position_at
  map_at (cited_line position) (optional_at (is OpenSquare) [] terms_here_at)

unfoldable pub next_cited_at : List Cited → Reader Reported (List Cited)
next_cited_at before = do
  one_at (is Comma)
  map_at (λ cited. before ++ cited ∷ []) cited_at

unfoldable pub more_cited_at : List Cited → Reader Reported (List Cited)
more_cited_at before ts = growing_at (is Comma) next_cited_at before ts

unfoldable pub premises_at : Reader Reported (List Cited)
premises_at = do
  one_at (is FromWord)
  first ← map_at (λ cited. cited ∷ []) cited_at
  more_cited_at first

unfoldable pub next_position_at : List ℕ → Reader Reported (List ℕ)
next_position_at before = do
  one_at (is Comma)
  map_at (λ position. before ++ position ∷ []) position_at

unfoldable pub more_positions_at : List ℕ → Reader Reported (List ℕ)
more_positions_at before ts = growing_at (is Comma) next_position_at before ts

unfoldable pub positions_at : Reader Reported (List ℕ)
positions_at = do
  first ← map_at (λ position. position ∷ []) position_at
  more_positions_at first

-- ---- the end of a part

-- a point behind a tree
unfoldable pub ended_at : {A : Type 0} → A → Reader Reported A
ended_at tree = do
  one_at (is Dot)
  nothing_at tree

module _ (n : ℕ) (s : Setting) where
  -- ---- sequents

  -- a sign, which with the formula before it is joined to the items
  unfoldable pub sign_behind_at : List SignedFormula → Read → Reader Reported (List SignedFormula)
  sign_behind_at items x ts = barred_at x.is_bare (is Caret) WRONG_ARITY (do
    one_at (is Caret)
    map_at (added n items x.formula) (set_here_at n s.logic)) ts

  unfoldable pub item_at : List SignedFormula → Reader Reported (List SignedFormula)
  item_at items = do
    x ← formula_here_at s
    sign_behind_at items x

  unfoldable pub next_item_at : List SignedFormula → Reader Reported (List SignedFormula)
  next_item_at items = do
    one_at (is Comma)
    item_at items

  unfoldable pub more_items_at : List SignedFormula → Reader Reported (List SignedFormula)
  more_items_at items ts = growing_at (is Comma) next_item_at items ts

  unfoldable pub items_at : Reader Reported (List SignedFormula)
  items_at = do
    first ← item_at []
    more_items_at first

  -- ---- lines

  unfoldable pub word_reason_at : Class → Reason → Reader Reported Reason
  word_reason_at word reason = do
    one_at (is word)
    ended_at reason

  unfoldable pub behind_principal_at : ℕ → Read → Reader Reported Reason
  behind_principal_at rule x ts = barred_at x.is_bare ends_principal WRONG_ARITY (do
    premises ← optional_at (is FromWord) [] premises_at
    ended_at (ByRule rule x.formula premises)) ts

  unfoldable pub rule_reason_at : Reader Reported Reason
  rule_reason_at = do
    one_at (is RuleWord)
    rule ← number_at
    one_at (is OnWord)
    x ← formula_here_at s
    behind_principal_at rule x

  unfoldable pub behind_resolved_at : Read → Reader Reported Reason
  behind_resolved_at x ts = barred_at x.is_bare (is FromWord) WRONG_ARITY (do
    one_at (is FromWord)
    left ← position_at
    one_at (is Comma)
    right ← position_at
    ended_at (Resolve x.formula left right)) ts

  unfoldable pub resolve_reason_at : Reader Reported Reason
  resolve_reason_at = do
    one_at (is ResolveWord)
    one_at (is OnWord)
    x ← formula_here_at s
    behind_resolved_at x

  unfoldable pub reason_at : Reader Reported Reason
  reason_at ts =
      either_at (is AxiomWord) (word_reason_at AxiomWord Axiom)
      (either_at (is PendingWord) (word_reason_at PendingWord Pending)
      (either_at (is RuleWord) rule_reason_at resolve_reason_at)) ts

  unfoldable pub line_at : Reader Reported PlainLine
  line_at = do
    one_at (is LineWord)
    position ← position_at
    one_at (is Colon)
    items ← items_at
    one_at (is ByWord)
    map_at (line_of position items) reason_at

  -- ---- claims

  unfoldable pub entry_atom_at : List (Formula × ℕ) → Reader Reported Read
  entry_atom_at entries ts = starting_at is_predicate (entry_fault entries) (formula_here_at s) ts

  unfoldable pub entry_at : List (Formula × ℕ) → Reader Reported (List (Formula × ℕ))
  entry_at entries = do
    atom ← entry_atom_at entries
    one_at (is Colon)
    map_at (λ value. entries ++ (atom.formula, value) ∷ []) (value_here_at s.logic)

  unfoldable pub next_entry_at : List (Formula × ℕ) → Reader Reported (List (Formula × ℕ))
  next_entry_at entries = do
    one_at (is Comma)
    entry_at entries

  unfoldable pub more_entries_at : List (Formula × ℕ) → Reader Reported (List (Formula × ℕ))
  more_entries_at entries ts = growing_at (is Comma) next_entry_at entries ts

  unfoldable pub entries_at : Reader Reported (List (Formula × ℕ))
  entries_at = do
    first ← entry_at []
    more_entries_at first

  unfoldable pub by_positions_at : Class → (List ℕ → Evidence) → Reader Reported Evidence
  by_positions_at word evidence = do
    one_at (is word)
    one_at (is ByWord)
    positions ← positions_at
    ended_at (evidence positions)

  unfoldable pub at_valuation_at : Reader Reported Evidence
  at_valuation_at = do
    one_at (is RefutedWord)
    one_at (is AtWord)
    one_at (is OpenBrace)
    entries ← optional_at is_predicate [] entries_at
    one_at (is CloseBrace)
    ended_at (Refuted entries)

  unfoldable pub evidence_at : Reader Reported Evidence
  evidence_at ts =
      either_at (is ProvedWord) (by_positions_at ProvedWord Proved)
      (either_at (is UnfinishedWord) (by_positions_at UnfinishedWord Unfinished) at_valuation_at) ts

  unfoldable pub behind_query_at : ℕ → QueryRead → Reader Reported (Claim n)
  behind_query_at number x ts =
      barred_at x.is_bare ends_query WRONG_ARITY (barred_at (has_too_many_goals s.logic.size x.query) ends_query TOO_MANY_GOALS
      (map_at (answer_of n number x.query) evidence_at)) ts

  unfoldable pub answer_at : ℕ → Reader Reported (Claim n)
  answer_at number = do
    x ← starting_at starts_query (λ _. None) (query_here_at s)
    behind_query_at number x

  unfoldable pub holds_at : ℕ → Reader Reported (Claim n)
  holds_at number = do
    items ← starting_at (starts_sequent s) (λ _. None) items_at
    one_at (is HoldsWord)
    one_at (is ByWord)
    position ← position_at
    ended_at (holds_of n number items position)

  unfoldable pub claim_at : Reader Reported (Claim n)
  claim_at = do
    one_at (is ClaimWord)
    number ← number_at
    one_at (is Colon)
    either_at starts_query (answer_at number) (holds_at number)

  -- ---- reports

  unfoldable pub next_rule_at : List (Numbered n) → Reader Reported (List (Numbered n))
  next_rule_at rules ts = map_at (λ rule. rules ++ rule ∷ []) (rule_here_at n s.logic) ts

  unfoldable pub rules_at : Reader Reported (List (Numbered n))
  rules_at ts = growing_at (is RuleWord) next_rule_at [] ts

  unfoldable pub next_line_at : List PlainLine → Reader Reported (List PlainLine)
  next_line_at lines ts = map_at (λ line. lines ++ line ∷ []) line_at ts

  unfoldable pub lines_at : Reader Reported (List PlainLine)
  lines_at ts = growing_at (is LineWord) next_line_at [] ts

  unfoldable pub next_claim_at : List (Claim n) → Reader Reported (List (Claim n))
  next_claim_at claims ts = map_at (λ claim. claims ++ claim ∷ []) claim_at ts

  unfoldable pub claims_at : Reader Reported (List (Claim n))
  claims_at ts = growing_at (is ClaimWord) next_claim_at [] ts

  unfoldable pub report_at : Reader Reported (Report n)
  report_at = do
    one_at (is ReportWord)
    one_at is_version
    one_at (is Dot)
    rules ← rules_at
    lines ← lines_at
    claims ← claims_at
    one_at (is EndWord)
    ended_at (report_of n rules lines claims)
