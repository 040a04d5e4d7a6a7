-- The numbers of the rules that a token of a report can break: 4 to 11, and 14.
use Rattle.std.proofs.Common.{◌≡◌, ℕ, Bool, true, false, List, [], ◌∷◌, ◌++◌, ◌≤◌, Some, None, Err, refl, subst, inl, inr, arith}
use Rattle.std.proofs.lemmas.Bool.{le-ltb}
use Rattle.lgc_grammar.specs.Grammar.{fault_if}
use Rattle.lgc_grammar.proofs.BrokenRules.{Only, only_one, only_nothing, only_barred, only_seen, only_mapped, only_then, only_either, only_growing}
use Rattle.lgc_values.specs.Logic.{Logic}
use Rattle.lgc_syntax.specs.declared.fault.TheConstants.{UNEXPECTED, UNKNOWN_NAME, WRONG_ARITY, UNKNOWN_VALUE, BAD_ARGUMENT, MISNUMBERED, TOO_MANY_GOALS}
use Rattle.lgc_syntax.specs.declared.formula.Term.{Term}
use Rattle.lgc_syntax.specs.declared.formula.Formula.{Formula}
use Rattle.lgc_clauses.specs.declared.rule.Numbered.{Numbered}
use Rattle.lgc_sequents.specs.Signed.{SignedFormula}
use Rattle.lgc_sequents.specs.Sequents.{added}
use Rattle.lgc_sequents.specs.Lines.{PlainLine}
use Rattle.lgc_sequents.specs.declared.line.Cited.{Cited}
use Rattle.lgc_sequents.specs.declared.line.Reason.{Reason}
use Rattle.lgc_sequents.specs.declared.line.Reason.TheVariants.{Axiom, Pending, ByRule, Resolve}
use Rattle.lgc_tokens.specs.declared.number.TheConstants.{MOST_NUMBER}
use Rattle.lgc_tokens.specs.declared.class.Class.{Class}
use Rattle.lgc_tokens.specs.declared.class.Class.TheVariants.{AxiomWord, PendingWord, FromWord, ProvedWord, UnfinishedWord, Caret}
use Rattle.lgc_tokens.specs.Spelled.{Spelled}
use Rattle.lgc_tokens.specs.Classes.{is_number}
use Rattle.lgc_formulas.specs.declared.formula.TheConstants.{MOST_DEPTH, MOST_NODES}
use Rattle.lgc_formulas.specs.Setting.{Setting}
use Rattle.lgc_formulas.specs.Faults.{IsTermFault, IsFormulaFault}
use Rattle.lgc_formulas.specs.TermGrammar.{Counted}
use Rattle.lgc_formulas.specs.FormulaTexts.{text_setting}
use Rattle.lgc_formulas.proofs.FaultNumbers.{term_only, formula_only}
use Rattle.lgc_queries.specs.Goals.{has_too_many_goals}
use Rattle.lgc_queries.specs.QueryPlace.{IsPlaceFault}
use Rattle.lgc_queries.proofs.QueryFaults.{wider, place_only}
use Rattle.lgc_rules.specs.Names as rules
use Rattle.lgc_rules.specs.RuleGrammar.{NumberFrom}
use Rattle.lgc_rules.proofs.Fitting.{number_small}
use Rattle.lgc_rules.proofs.RuleFaults.{value_only, set_only, one_rule_only}
use Rattle.lgc_report.specs.declared.report.Evidence.{Evidence}
use Rattle.lgc_report.specs.declared.report.Evidence.TheVariants.{Proved, Refuted, Unfinished}
use Rattle.lgc_report.specs.declared.report.Claim.{Claim}
use Rattle.lgc_report_reader.specs.Reported.{Reported, spelled_of, number, is, is_predicate, starts_query, starts_sequent, lists_here, entry_fault}
use Rattle.lgc_report_reader.specs.ReportGrammar.{cited_line, line_of, answer_of, holds_of, report_of, NumberHere, Position, ends_principal, ends_query, TermHere, TermsHere, CitedLine, Premises, Positions, FormulaHere, SetHere, Item, Items, WordReason, RuleReason, ResolveReason, LineHere, Entry, Entries, ByPositions, AtValuation, AnswerHere, HoldsHere, ClaimHere, ReportHere}
use Rattle.lgc_report_reader.specs.ReportFile.{IsReportFault}
use Rattle.lgc_report_reader.proofs.StartingReads.{only_starting}

-- ---- what no token breaks: a rule may have any number

-- a number isn't above the greatest one
inside : (t : Spelled) → is_number t ≡ true → rules.is_outside 0 MOST_NUMBER t ≡ false
inside t h = rw (le-ltb (rules.number t) 0 (omega arith), le-ltb MOST_NUMBER (rules.number t) (number_small t h)) refl

any_number_only : {Q : ℕ → Type 0} → Only Q (NumberFrom 0 MOST_NUMBER MISNUMBERED is_number)
any_number_only {Q} = record { only = by }
  where
    told : (b : Bool) (n : ℕ) → b ≡ false → fault_if b MISNUMBERED ≡ Some n → Q n
    told true n e h = absurd cc
    told false n e h = absurd cc

    by : (n : ℕ) (ts : List Spelled) → NumberFrom 0 MOST_NUMBER MISNUMBERED is_number (Err n) ts → Q n
    by n ts (t, passes, fault, one) = told (rules.is_outside 0 MOST_NUMBER t) n (inside t passes) fault

-- ---- of a property of the numbers

-- the number of the one rule that an entry's first token breaks
entry_number : (Q : ℕ → Type 0) → Q UNEXPECTED → (listed : Bool) (n : ℕ) → fault_if listed UNEXPECTED ≡ Some n → Q n
entry_number Q has true n e = let same : UNEXPECTED ≡ n = cc in subst Q same has
entry_number Q has false n e = absurd cc

module _ {Q : ℕ → Type 0} where
  number_only : Only Q NumberHere
  number_only = only_mapped number (only_one _)

  position_only : Only Q Position
  position_only = only_mapped number (only_one _)

  module _ (of_term : (n : ℕ) → IsTermFault n → Q n) where
    term_here_only : Only Q TermHere
    term_here_only = only_seen spelled_of (only_mapped (λ (x : Counted Term). x.0) (wider of_term (term_only false [] MOST_DEPTH MOST_NODES)))

    terms_here_only : Only Q TermsHere
    terms_here_only =
        only_then (only_one _) (λ _.
        only_then (only_mapped (λ (term : Term). term ∷ []) term_here_only) (λ first.
        only_then (only_growing first (λ terms. only_then (only_one _) (λ _. only_mapped (λ (term : Term). terms ++ term ∷ []) term_here_only))) (λ terms.
        only_then (only_one _) (λ _. only_nothing terms))))

    cited_only : Only Q CitedLine
    cited_only = only_then position_only (λ position. only_mapped (cited_line position) (only_either terms_here_only (only_nothing [])))

    premises_only : Only Q Premises
    premises_only =
        only_then (only_one _) (λ _.
        only_then (only_mapped (λ (cited : Cited). cited ∷ []) cited_only) (λ first.
        only_growing first (λ before. only_then (only_one _) (λ _. only_mapped (λ (cited : Cited). before ++ cited ∷ []) cited_only))))

  positions_only : Only Q Positions
  positions_only =
      only_then (only_mapped (λ (position : ℕ). position ∷ []) position_only) (λ first.
      only_growing first (λ before. only_then (only_one _) (λ _. only_mapped (λ (position : ℕ). before ++ position ∷ []) position_only)))

  module _ (n : ℕ) (s : Setting) (of_listed : Q UNEXPECTED) (of_name : Q UNKNOWN_NAME) (of_arity : Q WRONG_ARITY) (of_value : Q UNKNOWN_VALUE) (of_argument : Q BAD_ARGUMENT) (of_goals : Q TOO_MANY_GOALS) (of_term : (k : ℕ) → IsTermFault k → Q k) (of_formula : (k : ℕ) → IsFormulaFault s k → Q k) (of_query : (k : ℕ) → IsPlaceFault s k → Q k) where
    formula_here_only : Only Q (FormulaHere n s)
    formula_here_only = only_seen (λ (t : Reported). t.named) (wider of_formula (formula_only s MOST_DEPTH [] MOST_NODES))

    set_here_only : Only Q (SetHere n s)
    set_here_only = only_seen spelled_of (set_only of_name of_arity of_value of_argument n s.logic)

    -- ---- lines

    item_only : (items : List SignedFormula) → Only Q (Item n s items)
    item_only items =
        only_then formula_here_only (λ x.
        only_barred x.is_bare (is Caret) WRONG_ARITY of_arity
        (only_then (only_one _) (λ _. only_mapped (added n items x.formula) set_here_only)))

    items_only : Only Q (Items n s)
    items_only = only_then (item_only []) (λ first. only_growing first (λ items. only_then (only_one _) (λ _. item_only items)))

    word_reason_only : (word : Class) (reason : Reason) → Only Q (WordReason n s word reason)
    word_reason_only word reason = only_then (only_one _) (λ _. only_then (only_one _) (λ _. only_nothing reason))

    rule_reason_only : Only Q (RuleReason n s)
    rule_reason_only =
        only_then (only_one _) (λ _.
        only_then number_only (λ rule.
        only_then (only_one _) (λ _.
        only_then formula_here_only (λ x.
        only_barred x.is_bare ends_principal WRONG_ARITY of_arity
        (only_then (only_either (premises_only of_term) (only_nothing [])) (λ premises.
        only_then (only_one _) (λ _. only_nothing (ByRule rule x.formula premises))))))))

    resolve_reason_only : Only Q (ResolveReason n s)
    resolve_reason_only =
        only_then (only_one _) (λ _.
        only_then (only_one _) (λ _.
        only_then formula_here_only (λ x.
        only_barred x.is_bare (is FromWord) WRONG_ARITY of_arity
        (only_then (only_one _) (λ _.
        only_then position_only (λ left.
        only_then (only_one _) (λ _.
        only_then position_only (λ right.
        only_then (only_one _) (λ _. only_nothing (Resolve x.formula left right))))))))))

    line_only : Only Q (LineHere n s)
    line_only =
        only_then (only_one _) (λ _.
        only_then position_only (λ position.
        only_then (only_one _) (λ _.
        only_then items_only (λ items.
        only_then (only_one _) (λ _.
        only_mapped (line_of position items)
        (only_either (word_reason_only AxiomWord Axiom)
        (only_either (word_reason_only PendingWord Pending)
        (only_either rule_reason_only resolve_reason_only))))))))

    -- ---- claims

    entry_only : (entries : List (Formula × ℕ)) → Only Q (Entry n s entries)
    entry_only entries =
        only_then (only_starting is_predicate (entry_fault entries) (λ t k told. entry_number Q of_listed (lists_here entries t.formula_here) k told) formula_here_only) (λ atom.
        only_then (only_one _) (λ _.
        only_mapped (λ (value : ℕ). entries ++ (atom.formula, value) ∷ []) (only_seen spelled_of (value_only of_name of_arity of_value of_argument n s.logic))))

    entries_only : Only Q (Entries n s)
    entries_only = only_then (entry_only []) (λ first. only_growing first (λ entries. only_then (only_one _) (λ _. entry_only entries)))

    by_positions_only : (word : Class) (evidence : List ℕ → Evidence) → Only Q (ByPositions n s word evidence)
    by_positions_only word evidence =
        only_then (only_one _) (λ _.
        only_then (only_one _) (λ _.
        only_then positions_only (λ positions.
        only_then (only_one _) (λ _. only_nothing (evidence positions)))))

    at_valuation_only : Only Q (AtValuation n s)
    at_valuation_only =
        only_then (only_one _) (λ _.
        only_then (only_one _) (λ _.
        only_then (only_one _) (λ _.
        only_then (only_either entries_only (only_nothing [])) (λ entries.
        only_then (only_one _) (λ _.
        only_then (only_one _) (λ _. only_nothing (Refuted entries)))))))

    answer_only : (k : ℕ) → Only Q (AnswerHere n s k)
    answer_only k =
        only_then (only_starting starts_query (λ _. None) (λ t m told. absurd cc) (only_seen (λ (t : Reported). t.named) (wider of_query (place_only s MOST_NODES)))) (λ x.
        only_barred x.is_bare ends_query WRONG_ARITY of_arity
        (only_barred (has_too_many_goals s.logic.size x.query) ends_query TOO_MANY_GOALS of_goals
        (only_mapped (answer_of n k x.query)
        (only_either (by_positions_only ProvedWord Proved)
        (only_either (by_positions_only UnfinishedWord Unfinished) at_valuation_only)))))

    holds_only : (k : ℕ) → Only Q (HoldsHere n s k)
    holds_only k =
        only_then (only_starting (starts_sequent s) (λ _. None) (λ t m told. absurd cc) items_only) (λ items.
        only_then (only_one _) (λ _.
        only_then (only_one _) (λ _.
        only_then position_only (λ position.
        only_then (only_one _) (λ _. only_nothing (holds_of n k items position))))))

    claim_only : Only Q (ClaimHere n s)
    claim_only =
        only_then (only_one _) (λ _.
        only_then number_only (λ k.
        only_then (only_one _) (λ _.
        only_either (answer_only k) (holds_only k))))

    -- ---- reports

    report_parts_only : Only Q (ReportHere n s)
    report_parts_only =
        only_then (only_one _) (λ _.
        only_then (only_one _) (λ _.
        only_then (only_one _) (λ _.
        only_then (only_growing [] (λ rules. only_mapped (λ (rule : Numbered n). rules ++ rule ∷ []) (only_seen spelled_of (one_rule_only of_name of_arity of_value of_argument n s.logic 0 MOST_NUMBER any_number_only)))) (λ rules.
        only_then (only_growing [] (λ lines. only_mapped (λ (line : PlainLine). lines ++ line ∷ []) line_only)) (λ lines.
        only_then (only_growing [] (λ claims. only_mapped (λ (claim : Claim n). claims ++ claim ∷ []) claim_only)) (λ claims.
        only_then (only_one _) (λ _.
        only_then (only_one _) (λ _. only_nothing (report_of n rules lines claims)))))))))

-- ---- their numbers

low : (k : ℕ) → 1 ≤ k → k ≤ 11 → IsReportFault k
low k least most = inl (omega arith, omega arith)

pub report_only : (n : ℕ) (logic : Logic) → Only IsReportFault (ReportHere n (text_setting logic))
report_only n logic =
    report_parts_only n (text_setting logic) (low UNEXPECTED (omega arith) (omega arith)) (low UNKNOWN_NAME (omega arith) (omega arith)) (low WRONG_ARITY (omega arith) (omega arith)) (low UNKNOWN_VALUE (omega arith) (omega arith)) (low BAD_ARGUMENT (omega arith) (omega arith)) (inr refl) of_term of_formula of_query
  where
    of_term : (k : ℕ) → IsTermFault k → IsReportFault k
    of_term k (least, most) = inl (omega arith, omega arith)

    of_formula : (k : ℕ) → IsFormulaFault (text_setting logic) k → IsReportFault k
    of_formula k (inl (least, most)) = inl (omega arith, omega arith)
    of_formula k (inr (inl (is, barred))) = absurd cc
    of_formula k (inr (inr (is, numbered))) = absurd cc

    of_query : (k : ℕ) → IsPlaceFault (text_setting logic) k → IsReportFault k
    of_query k (inl (least, most)) = inl (omega arith, omega arith)
    of_query k (inr (inl (is, barred))) = absurd cc
    of_query k (inr (inr (is, numbered))) = absurd cc
