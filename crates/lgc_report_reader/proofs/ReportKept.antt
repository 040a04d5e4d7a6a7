-- The reports of the grammar are reports for the logic, and they can be written.
use Rattle.std.proofs.Common.{◌≡◌, ◌≢◌, ◌<◌, ◌+◌, ◌^◌, ℕ, Bool, true, false, List, [], ◌∷◌, ◌++◌, length, map, All, Ok, inl, inr, ◌⊎◌, sym, subst, refl, arith, length-append}
use Rattle.std.specs.Prelude.{if◌then◌else◌}
use Rattle.std.specs.List.{AllByRecursion}
use Rattle.std.proofs.lemmas.Bool.{ltb-false}
use Rattle.std.proofs.lemmas.List.{map-append, length-map}
use Rattle.std.proofs.lemmas.List.Elements.{All-nil, All-cons, All-head, All-tail, All-push, All-append, All-map, All-weaker}
use Rattle.lgc_grammar.specs.Grammar.{Grammar, One, Mapped, Then, Barred, Nothing, Optional, Growing}
use Rattle.lgc_values.specs.Logic.{Logic, IsLogic}
use Rattle.lgc_syntax.specs.declared.fault.TheConstants.{WRONG_ARITY, TOO_MANY_GOALS}
use Rattle.lgc_syntax.specs.declared.formula.Term.{Term}
use Rattle.lgc_syntax.specs.declared.formula.Formula.{Formula}
use Rattle.lgc_syntax.specs.Equality.{same_formula}
use Rattle.lgc_syntax.specs.Fits.{Fits}
use Rattle.lgc_syntax.specs.Variables.{has_no_bound}
use Rattle.lgc_clauses.specs.declared.rule.Rule.{Rule}
use Rattle.lgc_clauses.specs.declared.rule.Numbered.{Numbered}
use Rattle.lgc_clauses.specs.Kinds.{plain_rule}
use Rattle.lgc_sequents.specs.Signed.{SignedFormula}
use Rattle.lgc_sequents.specs.Sequents.{union, joined, added}
use Rattle.lgc_sequents.specs.Lines.{PlainLine, FitsLine, named_by, formulas_of, premises_of}
use Rattle.lgc_sequents.specs.declared.line.Cited.{Cited}
use Rattle.lgc_sequents.specs.declared.line.Reason.{Reason}
use Rattle.lgc_sequents.specs.declared.line.Reason.TheVariants.{Axiom, Pending, ByRule, Resolve}
use Rattle.lgc_goals.specs.declared.TheConstants.{MOST_GOALS}
use Rattle.lgc_goals.specs.Goals.{goal_count}
use Rattle.lgc_tokens.specs.declared.number.TheConstants.{MOST_NUMBER}
use Rattle.lgc_tokens.specs.declared.class.Class.{Class}
use Rattle.lgc_tokens.specs.declared.class.Class.TheVariants.{AxiomWord, PendingWord, FromWord, Dot, Comma, Caret, ProvedWord, UnfinishedWord}
use Rattle.lgc_tokens.specs.Spelled.{Spelled}
use Rattle.lgc_formulas.specs.declared.formula.Read.{Read}
use Rattle.lgc_formulas.specs.declared.formula.TheConstants.{MOST_DEPTH, MOST_NODES}
use Rattle.lgc_formulas.specs.Named.{Named}
use Rattle.lgc_formulas.specs.Setting.{Setting}
use Rattle.lgc_formulas.specs.FormulaTexts.{text_setting}
use Rattle.lgc_formulas.specs.Writable.{IsWritableTerm}
use Rattle.lgc_formulas.proofs.FitsAround.{fits_closed}
use Rattle.lgc_formulas.proofs.TermsKept.{TermKept, term_kept}
use Rattle.lgc_formulas.proofs.FormulasKept.{AreKnown, known_front, known_behind, FormulaKept, formula_kept}
use Rattle.lgc_queries.specs.Goals.{has_too_many_goals}
use Rattle.lgc_queries.specs.WritableQueries.{IsWritableQuery}
use Rattle.lgc_queries.proofs.QueriesKept.{growing_keeps, unbarred, query_kept}
use Rattle.lgc_rules.specs.RuleFile.{IsRuleFor}
use Rattle.lgc_rules.specs.RuleGrammar.{OneRule, OfOperator, OfQuantifier}
use Rattle.lgc_rules.proofs.Fitting.{set_some, value_below, rule_fits}
use Rattle.lgc_formula_trip.proofs.WordTokens.{IsFormed, IsFormedIn, each_front, each_behind}
use Rattle.lgc_formula_trip.proofs.ReadNames.{term_readable}
use Rattle.lgc_formula_trip.proofs.ReadFormulas.{LetsReadable, formula_readable}
use Rattle.lgc_query_trip.proofs.ReadQueries.{query_readable}
use Rattle.lgc_report.specs.declared.report.Evidence.{Evidence}
use Rattle.lgc_report.specs.declared.report.Evidence.TheVariants.{Proved, Unfinished}
use Rattle.lgc_report.specs.declared.report.Claim.{Claim}
use Rattle.lgc_report.specs.declared.report.Report.{Report}
use Rattle.lgc_report.specs.Reports.{FitsRule, FitsEvidence, FitsClaim, plain_numbered, plain_claim, plain_report}
use Rattle.lgc_report.specs.Writable.{IsReadable, IsWritableLine, IsWritableEvidence, IsWritableClaim, IsWritableReport}
use Rattle.lgc_report_reader.specs.Reported.{Reported, spelled_of, is, entry_fault}
use Rattle.lgc_report_reader.specs.ReportGrammar.{line_of, answer_of, holds_of, report_of, Position, ends_principal, ends_query, TermHere, NextTerm, TermsHere, CitedLine, NextCited, Premises, NextPosition, Positions, FormulaHere, SetHere, Item, NextItem, Items, WordReason, RuleReason, ResolveReason, ReasonHere, LineHere, Entry, NextEntry, Entries, ByPositions, AtValuation, EvidenceHere, AnswerHere, HoldsHere, ClaimHere, NextRule, NextLine, NextClaim, ReportHere}
use Rattle.lgc_report_reader.proofs.EntryAtoms.{atom_whole}

-- ---- lists

-- a list to which an element is added has one
pushed : {X : Type 0} (xs : List X) (x : X) → xs ++ x ∷ [] ≢ []
pushed [] x e = cc
pushed (y ∷ xs) x e = cc

-- what is true of the formulas of items and of one more is true of those of all
joined_step : (P : Formula → Type 0) (n : ℕ) (item : SignedFormula) (items : List SignedFormula) (f : Formula) (sign : List ℕ) (b : Bool) → P item.formula → All (λ it. P it.formula) items → All (λ it. P it.formula) (joined n items f sign) → All (λ it. P it.formula) (if b then record item { sign = union n item.sign sign } ∷ items else item ∷ joined n items f sign)
joined_step P n item items f sign true first others more = All-cons (λ (it : SignedFormula). P it.formula) (record item { sign = union n item.sign sign }) items first others
joined_step P n item items f sign false first others more = All-cons (λ (it : SignedFormula). P it.formula) item (joined n items f sign) first more

joined_keeps : (P : Formula → Type 0) (n : ℕ) (items : List SignedFormula) (f : Formula) (sign : List ℕ) → All (λ it. P it.formula) items → P f → All (λ it. P it.formula) (joined n items f sign)
joined_keeps P n [] f sign all h = All-cons (λ (it : SignedFormula). P it.formula) (record { formula = f; sign = sign }) [] h (All-nil (λ (it : SignedFormula). P it.formula))
joined_keeps P n (item ∷ items) f sign all h =
    let others = All-tail (λ (it : SignedFormula). P it.formula) item items all in
    joined_step P n item items f sign (same_formula f item.formula) (All-head (λ (it : SignedFormula). P it.formula) item items all) others (joined_keeps P n items f sign others h)

joined_some : (n : ℕ) (items : List SignedFormula) (f : Formula) (sign : List ℕ) → joined n items f sign ≢ []
joined_some n [] f sign e = cc
joined_some n (item ∷ items) f sign e = by (same_formula f item.formula) e
  where
    by : (b : Bool) → (if b then record item { sign = union n item.sign sign } ∷ items else item ∷ joined n items f sign) ≡ [] → ⊥
    by true e = cc
    by false e = cc

-- the items, of which there are some, have formulas of the property
AreItems : (Formula → Type 0) → List SignedFormula → Type 0
AreItems P items = (items ≢ []) × All (λ item. P item.formula) items

added_keeps : (P : Formula → Type 0) (n : ℕ) (items : List SignedFormula) (f : Formula) (sign : List ℕ) → sign ≢ [] → All (λ item. P item.formula) items → P f → AreItems P (added n items f sign)
unfolding AreItems
added_keeps P n items f [] some all h = absurd (some refl)
added_keeps P n items f (v ∷ sign) some all h = (joined_some n items f (v ∷ sign), joined_keeps P n items f (v ∷ sign) all h)

-- ---- tokens of a report

-- What is used of the tokens: the logic knows them, they have the forms of their kinds, and they are few.
pub record Fine (logic : Logic) (ts : List Reported) : Type 0 where
  pub known : AreKnown logic (map (λ (t : Reported). t.named) ts)
  pub formed : AllByRecursion (IsFormedIn logic) (map (λ (t : Reported). t.named) ts)
  pub few : length ts < 2 ^ 32

module _ (logic : Logic) where
  named_append : (v w : List Reported) → map (λ (t : Reported). t.named) (v ++ w) ≡ map (λ (t : Reported). t.named) v ++ map (λ (t : Reported). t.named) w
  named_append v w = map-append (λ (t : Reported). t.named) v w

  fine_front : (v w : List Reported) → Fine logic (v ++ w) → Fine logic v
  fine_front v w fine = record {
    known = known_front logic (map (λ (t : Reported). t.named) v) (map (λ (t : Reported). t.named) w) (subst (AreKnown logic) (named_append v w) fine.known);
    formed = each_front (IsFormedIn logic) (map (λ (t : Reported). t.named) v) (map (λ (t : Reported). t.named) w) (subst (AllByRecursion (IsFormedIn logic)) (named_append v w) fine.formed);
    few = omega (arith, length-append v w, fine.few);
  }

  fine_behind : (v w : List Reported) → Fine logic (v ++ w) → Fine logic w
  fine_behind v w fine = record {
    known = known_behind logic (map (λ (t : Reported). t.named) v) (map (λ (t : Reported). t.named) w) (subst (AreKnown logic) (named_append v w) fine.known);
    formed = each_behind (IsFormedIn logic) (map (λ (t : Reported). t.named) v) (map (λ (t : Reported). t.named) w) (subst (AllByRecursion (IsFormedIn logic)) (named_append v w) fine.formed);
    few = omega (arith, length-append v w, fine.few);
  }

  front : (ts v w : List Reported) → ts ≡ v ++ w → Fine logic ts → Fine logic v
  front ts v w split fine = fine_front v w (subst (Fine logic) split fine)

  behind : (ts v w : List Reported) → ts ≡ v ++ w → Fine logic ts → Fine logic w
  behind ts v w split fine = fine_behind v w (subst (Fine logic) split fine)

  spelled_formed : (ts : List Reported) → AllByRecursion (IsFormedIn logic) (map (λ (t : Reported). t.named) ts) → AllByRecursion IsFormed (map spelled_of ts)
  spelled_formed [] each = tt
  spelled_formed (t ∷ ts) (h, each) = (h.formed, spelled_formed ts each)

  -- what each step keeps, where tokens are fine
  grows : {A : Type 0} (L : A → Grammar Reported A) (Q : A → Type 0) → ((a b : A) (v : List Reported) → Fine logic v → Q a → L a (Ok b) v → Q b) → (a c : A) (ts : List Reported) → Fine logic ts → Q a → Growing L a (Ok c) ts → Q c
  grows L Q step = growing_keeps (Fine logic) fine_front fine_behind L Q step

-- formulas have no numbers
no_lets : (logic : Logic) → LetsReadable (text_setting logic)
no_lets logic number f known = absurd cc

module _ (n : ℕ) (logic : Logic) (is_logic : IsLogic logic) (named : length logic.names ≡ n) where
  abbrev s : Setting
  s = text_setting logic

  -- ---- formulas and terms

  formula_here_kept : (x : Read) (ts : List Reported) → Fine logic ts → FormulaHere n s (Ok x) ts → x.is_bare ≡ false → IsReadable logic x.formula
  formula_here_kept x ts fine h whole =
      let us : List Named = map (λ (t : Reported). t.named) ts in
      let k : FormulaKept s 0 MOST_DEPTH MOST_NODES x = formula_kept s MOST_DEPTH [] MOST_NODES x us fine.known h in
      record { fits = k.fits tt whole; named = formula_readable s (no_lets logic) MOST_DEPTH [] MOST_NODES x us fine.formed h; shallow = k.shallow; small = omega (arith, k.counted) }

  abbrev IsTerm : Term → Type 0
  IsTerm t = IsWritableTerm false MOST_NODES t

  term_here_kept : (t : Term) (ts : List Reported) → Fine logic ts → TermHere (Ok t) ts → IsTerm t
  term_here_kept t ts fine (x, tree, h) =
      let us : List Spelled = map spelled_of ts in
      let k : TermKept 0 MOST_DEPTH MOST_NODES x = term_kept false [] MOST_DEPTH MOST_NODES x us h in
      let good : IsTerm x.0 = record { closed = fits_closed x.0 k.fits; named = term_readable false [] MOST_DEPTH MOST_NODES x us (spelled_formed logic ts fine.formed) h; shallow = k.shallow; small = omega (arith, k.counted) } in
      subst IsTerm (sym tree) good

  next_term_kept : (a b : List Term) (ts : List Reported) → Fine logic ts → All IsTerm a → NextTerm a (Ok b) ts → All IsTerm b
  next_term_kept a b ts fine all (comma, v, w, o, (t, tree, h), split) = subst (All IsTerm) (sym tree) (All-push IsTerm a t all (term_here_kept t w (behind logic ts v w split fine) h))

  terms_here_kept : (terms : List Term) (ts : List Reported) → Fine logic ts → TermsHere (Ok terms) ts → All IsTerm terms
  terms_here_kept terms ts fine (o, v, w, opens, (first, v1, w1, (t, is_first, h), (all, v2, w2, more, (c, v3, w3, closes, (tree, none), s3), s2), s1), split) =
      let inside = behind logic ts v w split fine in
      let one : All IsTerm first = subst (All IsTerm) (sym is_first) (All-cons IsTerm t [] (term_here_kept t v1 (front logic w v1 w1 s1 inside) h) (All-nil IsTerm)) in
      subst (All IsTerm) (sym tree) (grows logic NextTerm (All IsTerm) next_term_kept first all v2 (front logic w1 v2 w2 s2 (behind logic w v1 w1 s1 inside)) one more)

  -- ---- cited lines

  abbrev IsCited : Cited → Type 0
  IsCited cited = All IsTerm cited.terms

  cited_kept : (cited : Cited) (ts : List Reported) → Fine logic ts → CitedLine (Ok cited) ts → IsCited cited
  cited_kept cited ts fine (position, v, w, p, (terms, tree, h), split) = subst IsCited (sym tree) (by h)
    where
      by : Optional [] TermsHere (Ok terms) w → All IsTerm terms
      by (inl some) = terms_here_kept terms w (behind logic ts v w split fine) some
      by (inr (empty, none)) = subst (All IsTerm) (sym empty) (All-nil IsTerm)

  next_cited_kept : (a b : List Cited) (ts : List Reported) → Fine logic ts → All IsCited a → NextCited a (Ok b) ts → All IsCited b
  next_cited_kept a b ts fine all (comma, v, w, o, (c, tree, h), split) = subst (All IsCited) (sym tree) (All-push IsCited a c all (cited_kept c w (behind logic ts v w split fine) h))

  premises_kept : (premises : List Cited) (ts : List Reported) → Fine logic ts → Premises (Ok premises) ts → All IsCited premises
  premises_kept premises ts fine (from, v, w, o, (first, v1, w1, (c, is_first, h), more, s1), split) =
      let inside = behind logic ts v w split fine in
      let one : All IsCited first = subst (All IsCited) (sym is_first) (All-cons IsCited c [] (cited_kept c v1 (front logic w v1 w1 s1 inside) h) (All-nil IsCited)) in
      grows logic NextCited (All IsCited) next_cited_kept first premises w1 (behind logic w v1 w1 s1 inside) one more

  optional_premises_kept : (premises : List Cited) (ts : List Reported) → Fine logic ts → Optional [] Premises (Ok premises) ts → All IsCited premises
  optional_premises_kept premises ts fine (inl some) = premises_kept premises ts fine some
  optional_premises_kept premises ts fine (inr (empty, none)) = subst (All IsCited) (sym empty) (All-nil IsCited)

  next_position_some : (a b : List ℕ) (ts : List Reported) → Fine logic ts → a ≢ [] → NextPosition a (Ok b) ts → b ≢ []
  next_position_some a b ts fine some (comma, v, w, o, (p, tree, h), split) = subst (λ (c : List ℕ). c ≢ []) (sym tree) (pushed a p)

  positions_some : (positions : List ℕ) (ts : List Reported) → Fine logic ts → Positions (Ok positions) ts → positions ≢ []
  positions_some positions ts fine (first, v, w, (p, is_first, h), more, split) =
      grows logic NextPosition (λ (c : List ℕ). c ≢ []) next_position_some first positions w (behind logic ts v w split fine) (subst (λ (c : List ℕ). c ≢ []) (sym is_first) (pushed [] p)) more

  -- ---- sequents

  item_kept : (items new : List SignedFormula) (ts : List Reported) → Fine logic ts → All (λ item. IsReadable logic item.formula) items → Item n s items (Ok new) ts → AreItems (IsReadable logic) new
  item_kept items new ts fine all (x, v, w, f, g, split) =
      let (whole, (caret, v1, w1, o, (sign, tree, set), s1)) = unbarred x.is_bare (is Caret) WRONG_ARITY (Then (One (is Caret)) (λ _. Mapped (added n items x.formula) (SetHere n s))) new w g in
      let readable = formula_here_kept x v (front logic ts v w split fine) f whole in
      subst (AreItems (IsReadable logic)) (sym tree) (added_keeps (IsReadable logic) n items x.formula sign (set_some n logic named sign (map spelled_of w1) set) all readable)

  items_of : (items : List SignedFormula) → AreItems (IsReadable logic) items → All (λ item. IsReadable logic item.formula) items
  unfolding AreItems
  items_of items h = h.1

  some_of : (items : List SignedFormula) → AreItems (IsReadable logic) items → items ≢ []
  unfolding AreItems
  some_of items h = h.0

  next_item_kept : (a b : List SignedFormula) (ts : List Reported) → Fine logic ts → AreItems (IsReadable logic) a → NextItem n s a (Ok b) ts → AreItems (IsReadable logic) b
  next_item_kept a b ts fine h (comma, v, w, o, item, split) = item_kept a b w (behind logic ts v w split fine) (items_of a h) item

  items_kept : (items : List SignedFormula) (ts : List Reported) → Fine logic ts → Items n s (Ok items) ts → AreItems (IsReadable logic) items
  items_kept items ts fine (first, v, w, f, more, split) =
      let one = item_kept [] first v (front logic ts v w split fine) (All-nil (λ (item : SignedFormula). IsReadable logic item.formula)) f in
      grows logic (NextItem n s) (AreItems (IsReadable logic)) next_item_kept first items w (behind logic ts v w split fine) one more

  -- ---- lines

  record ReasonKept (reason : Reason) : Type 0 where
    formulas : All (IsReadable logic) (named_by reason)
    terms : All IsCited (premises_of reason)

  word_kept : (word : Class) (reason other : Reason) (ts : List Reported) → ReasonKept reason → WordReason n s word reason (Ok other) ts → ReasonKept other
  word_kept word reason other ts k (t, v, w, o, (d, v1, w1, dot, (tree, none), s1), split) = subst ReasonKept (sym tree) k

  rule_reason_kept : (reason : Reason) (ts : List Reported) → Fine logic ts → RuleReason n s (Ok reason) ts → ReasonKept reason
  rule_reason_kept reason ts fine (t, v, w, o, (rule, v1, w1, f1, (on, v2, w2, f2, (x, v3, w3, f3, g, s3), s2), s1), split) =
      let at3 = behind logic w1 v2 w2 s2 (behind logic w v1 w1 s1 (behind logic ts v w split fine)) in
      let (whole, (premises, v4, w4, f4, (d, v5, w5, dot, (tree, none), s5), s4)) = unbarred x.is_bare ends_principal WRONG_ARITY (Then (Optional [] Premises) (λ premises. Then (One (is Dot)) (λ _. Nothing (ByRule rule x.formula premises)))) reason w3 g in
      let principal = formula_here_kept x v3 (front logic w2 v3 w3 s3 at3) f3 whole in
      let cited = optional_premises_kept premises v4 (front logic w3 v4 w4 s4 (behind logic w2 v3 w3 s3 at3)) f4 in
      subst ReasonKept (sym tree) (record { formulas = All-cons (IsReadable logic) x.formula [] principal (All-nil (IsReadable logic)); terms = cited })

  resolve_reason_kept : (reason : Reason) (ts : List Reported) → Fine logic ts → ResolveReason n s (Ok reason) ts → ReasonKept reason
  resolve_reason_kept reason ts fine (t, v, w, o, (on, v1, w1, f1, (x, v2, w2, f2, g, s2), s1), split) =
      let at2 = behind logic w v1 w1 s1 (behind logic ts v w split fine) in
      let (whole, (from, v3, w3, f3, (left, v4, w4, f4, (comma, v5, w5, f5, (right, v6, w6, f6, (d, v7, w7, dot, (tree, none), s7), s6), s5), s4), s3)) = unbarred x.is_bare (is FromWord) WRONG_ARITY (Then (One (is FromWord)) (λ _. Then Position (λ left. Then (One (is Comma)) (λ _. Then Position (λ right. Then (One (is Dot)) (λ _. Nothing (Resolve x.formula left right))))))) reason w2 g in
      let on_formula = formula_here_kept x v2 (front logic w1 v2 w2 s2 at2) f2 whole in
      subst ReasonKept (sym tree) (record { formulas = All-cons (IsReadable logic) x.formula [] on_formula (All-nil (IsReadable logic)); terms = All-nil IsCited })

  nothing_named : (reason : Reason) → named_by reason ≡ [] → premises_of reason ≡ [] → ReasonKept reason
  nothing_named reason no_formula no_premise = record { formulas = subst (All (IsReadable logic)) (sym no_formula) (All-nil (IsReadable logic)); terms = subst (All IsCited) (sym no_premise) (All-nil IsCited) }

  reason_kept : (reason : Reason) (ts : List Reported) → Fine logic ts → ReasonHere n s (Ok reason) ts → ReasonKept reason
  reason_kept reason ts fine (inl h) = word_kept AxiomWord Axiom reason ts (nothing_named Axiom refl refl) h
  reason_kept reason ts fine (inr (inl h)) = word_kept PendingWord Pending reason ts (nothing_named Pending refl refl) h
  reason_kept reason ts fine (inr (inr (inl h))) = rule_reason_kept reason ts fine h
  reason_kept reason ts fine (inr (inr (inr h))) = resolve_reason_kept reason ts fine h

  line_kept : (line : PlainLine) (ts : List Reported) → Fine logic ts → LineHere n s (Ok line) ts → IsWritableLine logic line
  line_kept line ts fine (t, v, w, o, (position, v1, w1, f1, (colon, v2, w2, f2, (items, v3, w3, f3, (by_word, v4, w4, f4, (reason, tree, f5), s4), s3), s2), s1), split) =
      let at3 = behind logic w1 v2 w2 s2 (behind logic w v1 w1 s1 (behind logic ts v w split fine)) in
      let sequent = items_kept items v3 (front logic w2 v3 w3 s3 at3) f3 in
      let k = reason_kept reason w4 (behind logic w3 v4 w4 s4 (behind logic w2 v3 w3 s3 at3)) f5 in
      let formulas : All (IsReadable logic) (formulas_of (line_of position items reason)) =
      All-append (IsReadable logic) (map (λ (item : SignedFormula). item.formula) items) (named_by reason) (All-map (IsReadable logic) (λ (item : SignedFormula). item.formula) items (items_of items sequent)) k.formulas in
      let good : IsWritableLine logic (line_of position items reason) = record { some = some_of items sequent; formulas = formulas; terms = k.terms } in
      subst (IsWritableLine logic) (sym tree) good

  -- a line that can be written is one for the logic
  line_fits : (line : PlainLine) → IsWritableLine logic line → FitsLine logic line
  line_fits line k = record {
    formulas = All-weaker (IsReadable logic) (Fits logic) (λ f h. h.fits) (formulas_of line) k.formulas;
    terms = All-weaker IsCited (λ cited. All (λ t. has_no_bound t ≡ true) cited.terms) (λ cited h. All-weaker IsTerm (λ t. has_no_bound t ≡ true) (λ t g. g.closed) cited.terms h) (premises_of line.reason) k.terms;
  }

  -- ---- entries

  abbrev IsEntry : Formula × ℕ → Type 0
  IsEntry entry = IsReadable logic entry.0 × (entry.1 < logic.size)

  entry_kept : (a b : List (Formula × ℕ)) (ts : List Reported) → Fine logic ts → All IsEntry a → Entry n s a (Ok b) ts → All IsEntry b
  entry_kept a b ts fine all (x, v, w, (begins, f), (colon, v1, w1, o, (value, tree, g), s1), split) =
      let below : value < logic.size = subst (λ (k : ℕ). value < k) is_logic.named (value_below logic value (map spelled_of w1) g) in
      let readable = formula_here_kept x v (front logic ts v w split fine) f (atom_whole n s (entry_fault a) x v begins f) in
      subst (All IsEntry) (sym tree) (All-push IsEntry a (x.formula, value) all (readable, below))

  next_entry_kept : (a b : List (Formula × ℕ)) (ts : List Reported) → Fine logic ts → All IsEntry a → NextEntry n s a (Ok b) ts → All IsEntry b
  next_entry_kept a b ts fine all (comma, v, w, o, entry, split) = entry_kept a b w (behind logic ts v w split fine) all entry

  entries_kept : (entries : List (Formula × ℕ)) (ts : List Reported) → Fine logic ts → Entries n s (Ok entries) ts → All IsEntry entries
  entries_kept entries ts fine (first, v, w, f, more, split) =
      let one = entry_kept [] first v (front logic ts v w split fine) (All-nil IsEntry) f in
      grows logic (NextEntry n s) (All IsEntry) next_entry_kept first entries w (behind logic ts v w split fine) one more

  -- ---- evidence

  record EvidenceKept (evidence : Evidence) : Type 0 where
    writable : IsWritableEvidence logic evidence
    fits : FitsEvidence logic evidence

  proved_kept : (evidence : Evidence) (ts : List Reported) → Fine logic ts → ByPositions n s ProvedWord Proved (Ok evidence) ts → EvidenceKept evidence
  proved_kept evidence ts fine (t, v, w, o, (b, v1, w1, o1, (positions, v2, w2, f, (d, v3, w3, dot, (tree, none), s3), s2), s1), split) =
      let some = positions_some positions v2 (front logic w1 v2 w2 s2 (behind logic w v1 w1 s1 (behind logic ts v w split fine))) f in
      subst EvidenceKept (sym tree) (record { writable = some; fits = tt })

  unfinished_kept : (evidence : Evidence) (ts : List Reported) → Fine logic ts → ByPositions n s UnfinishedWord Unfinished (Ok evidence) ts → EvidenceKept evidence
  unfinished_kept evidence ts fine (t, v, w, o, (b, v1, w1, o1, (positions, v2, w2, f, (d, v3, w3, dot, (tree, none), s3), s2), s1), split) =
      let some = positions_some positions v2 (front logic w1 v2 w2 s2 (behind logic w v1 w1 s1 (behind logic ts v w split fine))) f in
      subst EvidenceKept (sym tree) (record { writable = some; fits = tt })

  optional_entries_kept : (entries : List (Formula × ℕ)) (ts : List Reported) → Fine logic ts → Optional [] (Entries n s) (Ok entries) ts → All IsEntry entries
  optional_entries_kept entries ts fine (inl some) = entries_kept entries ts fine some
  optional_entries_kept entries ts fine (inr (empty, none)) = subst (All IsEntry) (sym empty) (All-nil IsEntry)

  refuted_kept : (evidence : Evidence) (ts : List Reported) → Fine logic ts → AtValuation n s (Ok evidence) ts → EvidenceKept evidence
  refuted_kept evidence ts fine (t, v, w, o, (a, v1, w1, o1, (b, v2, w2, o2, (entries, v3, w3, f, (c, v4, w4, o4, (d, v5, w5, dot, (tree, none), s5), s4), s3), s2), s1), split) =
      let at2 = behind logic w1 v2 w2 s2 (behind logic w v1 w1 s1 (behind logic ts v w split fine)) in
      let all = optional_entries_kept entries v3 (front logic w2 v3 w3 s3 at2) f in
      let writable : All (λ entry. IsReadable logic entry.0) entries = All-weaker IsEntry (λ entry. IsReadable logic entry.0) (λ entry h. h.0) entries all in
      let fits : All (λ entry. Fits logic entry.0 × (entry.1 < logic.size)) entries = All-weaker IsEntry (λ entry. Fits logic entry.0 × (entry.1 < logic.size)) (λ entry h. (h.0.fits, h.1)) entries all in
      subst EvidenceKept (sym tree) (record { writable = writable; fits = fits })

  evidence_kept : (evidence : Evidence) (ts : List Reported) → Fine logic ts → EvidenceHere n s (Ok evidence) ts → EvidenceKept evidence
  evidence_kept evidence ts fine (inl h) = proved_kept evidence ts fine h
  evidence_kept evidence ts fine (inr (inl h)) = unfinished_kept evidence ts fine h
  evidence_kept evidence ts fine (inr (inr h)) = refuted_kept evidence ts fine h

  -- ---- claims

  record ClaimKept (claim : Claim n) : Type 0 where
    writable : IsWritableClaim logic (plain_claim claim)
    fits : FitsClaim logic (plain_claim claim)

  answer_kept : (k : ℕ) (claim : Claim n) (ts : List Reported) → Fine logic ts → AnswerHere n s k (Ok claim) ts → ClaimKept claim
  answer_kept k claim ts fine (x, v, w, (begins, f), g, split) =
      let (bare, counted) = unbarred x.is_bare ends_query WRONG_ARITY (Barred (has_too_many_goals logic.size x.query) ends_query TOO_MANY_GOALS (Mapped (answer_of n k x.query) (EvidenceHere n s))) claim w g in
      let (few, (evidence, tree, h)) = unbarred (has_too_many_goals logic.size x.query) ends_query TOO_MANY_GOALS (Mapped (answer_of n k x.query) (EvidenceHere n s)) claim w counted in
      let us : List Named = map (λ (t : Reported). t.named) v in
      let tokens = front logic ts v w split fine in
      let query_for = query_kept s tt is_logic MOST_NODES x us tokens.known f bare in
      let query : IsWritableQuery s MOST_NODES x.query = record { query_for = query_for; named = query_readable s (no_lets logic) MOST_NODES x us tokens.formed f } in
      let e = evidence_kept evidence w (behind logic ts v w split fine) h in
      let good : ClaimKept (answer_of n k x.query evidence) = record {
        writable = (query, e.writable);
        fits = record { asked = query_for.fits; few = ltb-false MOST_GOALS (goal_count logic.size x.query) few; known = e.fits };
      } in
      subst ClaimKept (sym tree) good

  holds_kept : (k : ℕ) (claim : Claim n) (ts : List Reported) → Fine logic ts → HoldsHere n s k (Ok claim) ts → ClaimKept claim
  holds_kept k claim ts fine (items, v, w, (begins, f), (h, v1, w1, o1, (b, v2, w2, o2, (position, v3, w3, f3, (d, v4, w4, dot, (tree, none), s4), s3), s2), s1), split) =
      let sequent = items_kept items v (front logic ts v w split fine) f in
      let all = items_of items sequent in
      let good : ClaimKept (holds_of n k items position) = record {
        writable = (some_of items sequent, all);
        fits = All-weaker (λ (item : SignedFormula). IsReadable logic item.formula) (λ (item : SignedFormula). Fits logic item.formula) (λ item g. g.fits) items all;
      } in
      subst ClaimKept (sym tree) good

  claim_kept : (claim : Claim n) (ts : List Reported) → Fine logic ts → ClaimHere n s (Ok claim) ts → ClaimKept claim
  claim_kept claim ts fine (t, v, w, o, (k, v1, w1, f1, (colon, v2, w2, f2, f3, s2), s1), split) =
      let inside = behind logic w1 v2 w2 s2 (behind logic w v1 w1 s1 (behind logic ts v w split fine)) in
      by inside f3
    where
      by : Fine logic w2 → AnswerHere n s k (Ok claim) w2 ⊎ HoldsHere n s k (Ok claim) w2 → ClaimKept claim
      by inside (inl h) = answer_kept k claim w2 inside h
      by inside (inr h) = holds_kept k claim w2 inside h

  -- ---- rules

  rule_signed : (x : Numbered n) (ts : List Spelled) → OneRule n logic 0 MOST_NUMBER (Ok x) ts → (plain_rule x.rule).sign ≢ []
  rule_signed x ts (t1, v1, w1, o1, (k, v2, w2, f2, (t3, v3, w3, o3, (rule, v4, w4, f4, (tree, none), s4), s3), s2), s1) =
      subst (λ (y : Numbered n). (plain_rule y.rule).sign ≢ []) (sym tree) (by f4)
    where
      by : OfOperator n logic (Ok rule) v4 ⊎ OfQuantifier n logic (Ok rule) v4 → (plain_rule rule).sign ≢ []
      by (inl (op, v, w, f, (t5, v5, w5, o5, (sign, v6, w6, f6, (t7, v7, w7, o7, (t8, v8, w8, o8, (clauses, v9, w9, f9, (ta, va, wa, oa, (tb, vb, wb, ob, (same, empty), sb), sa), s9), s8), s7), s6), s5), s)) = subst (λ (r : Rule n). (plain_rule r).sign ≢ []) (sym same) (set_some n logic named sign v6 f6)
      by (inr (quant, v, w, f, (t5, v5, w5, o5, (sign, v6, w6, f6, (t7, v7, w7, o7, (t8, v8, w8, o8, (clauses, v9, w9, f9, (ta, va, wa, oa, (tb, vb, wb, ob, (same, empty), sb), sa), s9), s8), s7), s6), s5), s)) = subst (λ (r : Rule n). (plain_rule r).sign ≢ []) (sym same) (set_some n logic named sign v6 f6)

  abbrev IsRule : Numbered n → Type 0
  IsRule x = FitsRule logic (plain_rule x.rule)

  next_rule_kept : (a b : List (Numbered n)) (ts : List Reported) → Fine logic ts → All IsRule a → NextRule n s a (Ok b) ts → All IsRule b
  next_rule_kept a b ts fine all (x, tree, h) =
      let us : List Spelled = map spelled_of ts in
      let rule : IsRuleFor n logic x.rule = rule_fits n logic named 0 MOST_NUMBER x us (omega (arith, length-map ts spelled_of, fine.few)) h in
      subst (All IsRule) (sym tree) (All-push IsRule a x all (record { fits = rule.fits; signed = rule_signed x us h }))

  -- ---- reports

  next_line_kept : (a b : List PlainLine) (ts : List Reported) → Fine logic ts → All (IsWritableLine logic) a → NextLine n s a (Ok b) ts → All (IsWritableLine logic) b
  next_line_kept a b ts fine all (x, tree, h) = subst (All (IsWritableLine logic)) (sym tree) (All-push (IsWritableLine logic) a x all (line_kept x ts fine h))

  next_claim_kept : (a b : List (Claim n)) (ts : List Reported) → Fine logic ts → All ClaimKept a → NextClaim n s a (Ok b) ts → All ClaimKept b
  next_claim_kept a b ts fine all (x, tree, h) = subst (All ClaimKept) (sym tree) (All-push ClaimKept a x all (claim_kept x ts fine h))

  pub report_kept : (report : Report n) (ts : List Reported) → Fine logic ts → ReportHere n s (Ok report) ts → IsWritableReport logic (plain_report report)
  report_kept report ts fine (t, v, w, o, (k, v1, w1, o1, (d, v2, w2, o2, (rules, v3, w3, f3, (lines, v4, w4, f4, (claims, v5, w5, f5, (e, v6, w6, o6, (d2, v7, w7, o7, (tree, none), s7), s6), s5), s4), s3), s2), s1), split) =
      let at2 = behind logic w1 v2 w2 s2 (behind logic w v1 w1 s1 (behind logic ts v w split fine)) in
      let at3 = behind logic w2 v3 w3 s3 at2 in
      let at4 = behind logic w3 v4 w4 s4 at3 in
      let all_rules = grows logic (NextRule n s) (All IsRule) next_rule_kept [] rules v3 (front logic w2 v3 w3 s3 at2) (All-nil IsRule) f3 in
      let all_lines = grows logic (NextLine n s) (All (IsWritableLine logic)) next_line_kept [] lines v4 (front logic w3 v4 w4 s4 at3) (All-nil (IsWritableLine logic)) f4 in
      let all_claims = grows logic (NextClaim n s) (All ClaimKept) next_claim_kept [] claims v5 (front logic w4 v5 w5 s5 at4) (All-nil ClaimKept) f5 in
      let good : IsWritableReport logic (plain_report (report_of n rules lines claims)) = record {
        fits = record {
          rules = All-map (λ numbered. FitsRule logic numbered.rule) plain_numbered rules all_rules;
          lines = All-weaker (IsWritableLine logic) (FitsLine logic) line_fits lines all_lines;
          claims = All-map (FitsClaim logic) plain_claim claims (All-weaker ClaimKept (λ claim. FitsClaim logic (plain_claim claim)) (λ claim h. h.fits) claims all_claims);
        };
        lines = all_lines;
        claims = All-map (IsWritableClaim logic) plain_claim claims (All-weaker ClaimKept (λ claim. IsWritableClaim logic (plain_claim claim)) (λ claim h. h.writable) claims all_claims);
      } in
      subst (λ (r : Report n). IsWritableReport logic (plain_report r)) (sym tree) good
