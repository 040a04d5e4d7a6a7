-- What claims and entries begin with: a token says what is behind it, and where a phrase is behind it, it says the right thing.
use Rattle.std.proofs.Common.{◌≡◌, ℕ, zero, suc, ◌-◌, Bool, true, false, List, [], ◌∷◌, ◌++◌, map, Option, Some, None, Ok, refl, sym, ap, subst, ◌∙◌, ◌⊎◌, inl, inr, append_assoc}
use Rattle.std.specs.Prelude.{◌&&◌, ◌||◌, not}
use Rattle.lgc_grammar.specs.Grammar.{Grammar, One, Mapped, Then, Nothing, fault_if}
use Rattle.lgc_grammar.specs.Reading.{next_is}
use Rattle.lgc_grammar.proofs.Readers.{next_stays, begins}
use Rattle.lgc_syntax.specs.declared.fault.TheConstants.{WRONG_ARITY, UNEXPECTED}
use Rattle.lgc_syntax.specs.declared.formula.Formula.{Formula, Op, Quant}
use Rattle.lgc_syntax.proofs.Folds.{fold-Op, fold-Quant}
use Rattle.lgc_meaning.specs.Valuations.{is_atom, is_atom_layer}
use Rattle.lgc_sequents.specs.Signed.{SignedFormula}
use Rattle.lgc_sequents.specs.Sequents.{added}
use Rattle.lgc_tokens.specs.declared.class.Class.{Class}
use Rattle.lgc_tokens.specs.declared.class.Class.TheVariants.{EntailWord, MixedWord, EquationWord, QuasiWord, Turnstile, Hash, Caret, OpenRound, CloseRound, OpenBrace, Colon}
use Rattle.lgc_tokens.specs.Spelled.{Spelled}
use Rattle.lgc_tokens.specs.Classes as tokens
use Rattle.lgc_tokens.specs.Classes.{same, begins_query, class_of}
use Rattle.lgc_values.specs.Logic.{Logic, operator_at}
use Rattle.lgc_formulas.specs.declared.formula.Read.{Read}
use Rattle.lgc_formulas.specs.declared.formula.TheConstants.{MOST_DEPTH, MOST_NODES}
use Rattle.lgc_formulas.specs.Named.{Named, operator_of, quantifier_of, begins_operator, quantifiers, predicates, is, is_predicate, starts_formula}
use Rattle.lgc_formulas.specs.Setting.{Setting, numbered}
use Rattle.lgc_formulas.specs.PlainTerms.{PlainTerms, no_terms, some_terms}
use Rattle.lgc_formulas.specs.PlainFormulas.{PlainFormula, PlainOperands, operator, quantified, hash, atom, no_operands, some_operands}
use Rattle.lgc_formulas.specs.FormulaGrammar.{as_whole, BehindOperator, CloseQuantifier, FormulaPhrase, OneFormula}
use Rattle.lgc_formulas.specs.FormulaReading.{one_formula_at}
use Rattle.lgc_formulas.specs.FormulaTexts.{text_setting}
use Rattle.lgc_formulas.proofs.Tables.{off, off_class}
use Rattle.lgc_formulas.proofs.FormulaReads.{one_formula_reads}
use Rattle.lgc_queries.specs.declared.read.QueryRead.{QueryRead}
use Rattle.lgc_queries.specs.QueryGrammar.{OneQuery}
use Rattle.lgc_queries.proofs.QueriesKept.{unbarred}
use Rattle.lgc_queries.proofs.QueryReads.{value_set_reads, premises_read, equation_among, equation_premises_read}
use Rattle.lgc_report_reader.specs.Reported as reported
use Rattle.lgc_report_reader.specs.Reported.{Reported, follows_name, spelled_of, formula_read, starts_query, starts_sequent, is_listed, lists_here, entry_fault}
use Rattle.lgc_report_reader.specs.Starting.{MayStart}
use Rattle.lgc_report_reader.specs.ReportGrammar.{FormulaHere, SetHere, Items}
use Rattle.lgc_report_trip.proofs.Ahead.{seen, ahead, ahead_named}

-- ---- the second token of a formula

-- A formula's first token begins no query, or a bracket is behind it, or nothing.
abbrev Opens : List Named → Type 0
Opens [] = Unit {0}
Opens (t ∷ []) = Unit {0}
Opens (t ∷ u ∷ _) = (begins_query (class_of t.spelled) ≡ false) ⊎ (is OpenRound u ≡ true)

operands_open : (b : Bool) (t : Named) (ts : List Named) → PlainOperands b ts → Opens (t ∷ ts)
operands_open b t ts no_operands = tt
operands_open b t ts (some_operands o v w opens f g) = inr opens

abbrev FirstOpens : List Spelled → Type 0
FirstOpens [] = Unit {0}
FirstOpens (u ∷ _) = tokens.is OpenRound u ≡ true

first_opens : (us : List Spelled) → PlainTerms us → FirstOpens us
first_opens us no_terms = tt
first_opens us (some_terms o v w opens f g) = opens

terms_open : (t : Named) (ts : List Named) → PlainTerms (map (λ (u : Named). u.spelled) ts) → Opens (t ∷ ts)
terms_open t [] h = tt
terms_open t (u ∷ ts) h = inr (first_opens (u.spelled ∷ map (λ (v : Named). v.spelled) ts) h)

formula_opens : (ts : List Named) → PlainFormula false ts → Opens ts
formula_opens ts (operator t us passes operands) = operands_open false t us operands
formula_opens ts (quantified q o x c v z is_q opens is_x is_c body closes) = inr opens
formula_opens ts (hash h n is_h is_n) = absurd cc
formula_opens ts (atom t us passes terms) = terms_open t us terms

-- ---- what a sequent begins with

-- the tokens say of the tokens behind them what these are
pub record SayNext (ts : List Reported) : Type 0 where
  pub says : (t u : Reported) (more : List Reported) → ts ≡ t ∷ (u ∷ more) → t.names_formula ≡ follows_name (spelled_of u)

pub ahead_says : (s : Setting) (ts behind : List Named) → SayNext (ahead s ts behind)
ahead_says s ts behind = record { says = by ts }
  where
    by : (ts : List Named) (t u : Reported) (more : List Reported) → ahead s ts behind ≡ t ∷ (u ∷ more) → t.names_formula ≡ follows_name (spelled_of u)
    by [] t u more e = absurd cc
    by (a ∷ []) t u more e = absurd cc
    by (a ∷ b ∷ ts) t u more e =
        let first : seen s a (b ∷ (ts ++ behind)) ≡ t = cc in
        let second : seen s b (ts ++ behind) ≡ u = cc in
        sym (ap (λ (x : Reported). x.names_formula) first) ∙ ap (λ (x : Reported). follows_name (spelled_of x)) second

-- it begins as a formula does, and as no query does
starts_both : (formula query name : Bool) → formula ≡ true → (query ≡ false) ⊎ (name ≡ true) → (formula && not (query && not name)) ≡ true
starts_both false query name e h = absurd cc
starts_both true false name e h = refl
starts_both true true true e h = refl
starts_both true true false e (inl h) = absurd cc
starts_both true true false e (inr h) = absurd cc

or_right : (a b : Bool) → b ≡ true → (a || b) ≡ true
or_right true b e = refl
or_right false b e = e

or_left : (a b : Bool) → a ≡ true → (a || b) ≡ true
or_left a b e = rw e refl

module _ (n : ℕ) (logic : Logic) where
  -- a formula of reported tokens, and a caret behind it
  item_begins : (v : List Reported) (c : Reported) (more : List Reported) → SayNext (v ++ c ∷ more) → next_is (starts_formula false) (map (λ (t : Reported). t.named) v) ≡ true → Opens (map (λ (t : Reported). t.named) v) → reported.is Caret c ≡ true → MayStart (starts_sequent (text_setting logic)) (λ _. None) (v ++ c ∷ more)
  item_begins [] c more says start opens caret = absurd cc
  item_begins (t ∷ []) c more says start opens caret =
      let name : t.names_formula ≡ true = says.says t c more refl ∙ or_left (tokens.is Caret (spelled_of c)) (tokens.is OpenRound (spelled_of c)) caret in
      (starts_both (starts_formula false t.named) (tokens.starts_query t.named.spelled) t.names_formula start (inr name), refl)
  item_begins (t ∷ u ∷ v) c more says start opens caret = (starts_both (starts_formula false t.named) (tokens.starts_query t.named.spelled) t.names_formula start (by opens), refl)
    where
      by : (begins_query (class_of t.named.spelled) ≡ false) ⊎ (is OpenRound u.named ≡ true) → (tokens.starts_query t.named.spelled ≡ false) ⊎ (t.names_formula ≡ true)
      by (inl none) = inl none
      by (inr bracket) = inr (says.says t u (v ++ c ∷ more) refl ∙ or_right (tokens.is Caret (spelled_of u)) (tokens.is OpenRound (spelled_of u)) bracket)

  cut_at : (ts v w v1 w1 v2 w2 : List Reported) (c : Reported) → ts ≡ v ++ w → v ≡ v1 ++ w1 → w1 ≡ v2 ++ w2 → v2 ≡ c ∷ [] → ts ≡ v1 ++ c ∷ (w2 ++ w)
  cut_at ts v w v1 w1 v2 w2 c split split1 split2 one = rw (split, split1, split2, one) (append_assoc v1 (c ∷ w2) w)

  pub sequent_begins : (items : List SignedFormula) (ts : List Reported) → SayNext ts → Items n (text_setting logic) (Ok items) ts → MayStart (starts_sequent (text_setting logic)) (λ _. None) ts
  sequent_begins items ts says (first, v, w, (x, v1, w1, f, g, split1), more, split) =
      let (whole, (c, v2, w2, (caret, one), set, split2)) = unbarred x.is_bare (reported.is Caret) WRONG_ARITY (Then (One (reported.is Caret)) (λ _. Mapped (added n [] x.formula) (SetHere n (text_setting logic)))) first w1 g in
      let reads = one_formula_reads (text_setting logic) MOST_NODES in
      let us : List Named = map (λ (t : Reported). t.named) v1 in
      let plain : PlainFormula false us = reads.is_plain x us f in
      let cut : ts ≡ v1 ++ c ∷ (w2 ++ w) = cut_at ts v w v1 w1 v2 w2 c split split1 split2 one in
      subst (λ (rs : List Reported). MayStart (starts_sequent (text_setting logic)) (λ _. None) rs) (sym cut)
      (item_begins v1 c (w2 ++ w) (subst SayNext cut says) (begins reads us plain) (formula_opens us plain) caret)

-- ---- what a query begins with

-- a keyword of a query, and behind it neither a caret nor a bracket
abbrev BeginsQuery : List Named → Type 0
BeginsQuery [] = ⊥
BeginsQuery (t ∷ []) = ⊥
BeginsQuery (t ∷ u ∷ _) = (begins_query (class_of t.spelled) ≡ true) × (follows_name u.spelled ≡ false)

begun : (first : Named → Bool) (t : Named) (ts v w : List Named) → ((u : Named) → first u ≡ true → follows_name u.spelled ≡ false) → begins_query (class_of t.spelled) ≡ true → next_is first w ≡ true → v ≡ t ∷ [] → ts ≡ v ++ w → BeginsQuery ts
begun first t ts v [] apart keyword start one split = absurd cc
begun first t ts v (u ∷ w) apart keyword start one split = rw (split, one) (keyword, apart u start)

-- the keywords
module _ (t : Named) where
  abbrev has_class : Class → Bool
  has_class c = same c (class_of t.spelled)

  abbrev of_equations : Bool
  of_equations = has_class EquationWord || has_class QuasiWord

  of_entail : is EntailWord t ≡ true → begins_query (class_of t.spelled) ≡ true
  of_entail e = or_left (has_class EntailWord) (has_class MixedWord || of_equations) e

  of_mixed : is MixedWord t ≡ true → begins_query (class_of t.spelled) ≡ true
  of_mixed e = or_right (has_class EntailWord) (has_class MixedWord || of_equations) (or_left (has_class MixedWord) of_equations e)

  of_equation : is EquationWord t ≡ true → begins_query (class_of t.spelled) ≡ true
  of_equation e = or_right (has_class EntailWord) (has_class MixedWord || of_equations) (or_right (has_class MixedWord) of_equations (or_left (has_class EquationWord) (has_class QuasiWord) e))

  of_quasi : is QuasiWord t ≡ true → begins_query (class_of t.spelled) ≡ true
  of_quasi e = or_right (has_class EntailWord) (has_class MixedWord || of_equations) (or_right (has_class MixedWord) of_equations (or_right (has_class EquationWord) (has_class QuasiWord) e))

module _ (logic : Logic) where
  abbrev setting : Setting
  setting = text_setting logic

  -- neither premises nor a formula nor a set begin with a caret or a bracket
  off_premises : (t : Named) → (starts_formula false t || is Turnstile t) ≡ true → follows_name t.spelled ≡ false
  off_premises = off (λ r c. (begins_operator r c || (quantifiers r c || predicates r c)) || same Turnstile c) (λ _ c. same Caret c || same OpenRound c) (λ op. refl) (λ quant. refl) refl

  off_formula : (t : Named) → starts_formula false t ≡ true → follows_name t.spelled ≡ false
  off_formula = off (λ r c. begins_operator r c || (quantifiers r c || predicates r c)) (λ _ c. same Caret c || same OpenRound c) (λ op. refl) (λ quant. refl) refl

  off_set : (t : Named) → is OpenBrace t ≡ true → follows_name t.spelled ≡ false
  off_set = off_class (same OpenBrace) (λ c. same Caret c || same OpenRound c) refl

  set_first : (v : List Named) → next_is (tokens.is OpenBrace) (map (λ (t : Named). t.spelled) v) ≡ true → next_is (is OpenBrace) v ≡ true
  set_first [] e = absurd cc
  set_first (t ∷ v) e = e

  query_begins : (q : QueryRead) (ts : List Named) → OneQuery setting MOST_NODES (Ok q) ts → BeginsQuery ts
  query_begins q ts (inl (t, v, w, (keyword, one), (premises, v1, w1, f, g, split1), split)) =
      let reads = premises_read setting MOST_NODES in
      let start = begins reads v1 (reads.is_plain premises v1 f) in
      begun (λ u. starts_formula false u || is Turnstile u) t ts v w off_premises (of_entail t keyword) (rw split1 (next_stays (λ u. starts_formula false u || is Turnstile u) v1 w1 start)) one split
  query_begins q ts (inr (inl (t, v, w, (keyword, one), (set, v1, w1, f, g, split1), split))) =
      let reads = value_set_reads logic in
      let us : List Spelled = map (λ (u : Named). u.spelled) v1 in
      let start = set_first v1 (begins reads us (reads.is_plain set us f)) in
      begun (is OpenBrace) t ts v w off_set (of_mixed t keyword) (rw split1 (next_stays (is OpenBrace) v1 w1 start)) one split
  query_begins q ts (inr (inr (inl (t, v, w, (keyword, one), (x, same_query, f), split)))) =
      let reads = (equation_among setting MOST_NODES).reads in
      begun (starts_formula false) t ts v w off_formula (of_equation t keyword) (begins reads w (reads.is_plain x w f)) one split
  query_begins q ts (inr (inr (inr (t, v, w, (keyword, one), (premises, v1, w1, f, g, split1), split)))) =
      let reads = equation_premises_read setting MOST_NODES in
      let start = begins reads v1 (reads.is_plain premises v1 f) in
      begun (λ u. starts_formula false u || is Turnstile u) t ts v w off_premises (of_quasi t keyword) (rw split1 (next_stays (λ u. starts_formula false u || is Turnstile u) v1 w1 start)) one split

  pub claim_begins : (q : QueryRead) (ts behind : List Named) → OneQuery setting MOST_NODES (Ok q) (map (λ (t : Reported). t.named) (ahead setting ts behind)) → MayStart starts_query (λ _. None) (ahead setting ts behind)
  claim_begins q ts behind h = by ts (query_begins q ts (subst (λ (us : List Named). OneQuery setting MOST_NODES (Ok q) us) (ahead_named setting ts behind) h))
    where
      both : (query name : Bool) → query ≡ true → name ≡ false → (query && not name) ≡ true
      both query name e f = rw (e, f) refl

      by : (ts : List Named) → BeginsQuery ts → MayStart starts_query (λ _. None) (ahead setting ts behind)
      by [] h = absurd h
      by (t ∷ []) h = absurd h
      by (t ∷ u ∷ ts) (keyword, none) = (both (begins_query (class_of t.spelled)) (follows_name u.spelled) keyword none, refl)

-- ---- what an entry begins with

-- an operator's formula is no atom
no_atom_op : (op : ℕ) (args : List Formula) (f : Formula) → f ≡ Op op args → is_atom f ≡ true → ⊥
unfolding is_atom
no_atom_op op args f same atomic = let none : is_atom f ≡ false = ap is_atom same ∙ fold-Op Bool is_atom_layer op args in absurd cc

no_atom_quant : (q : ℕ) (body f : Formula) → f ≡ Quant q body → is_atom f ≡ true → ⊥
unfolding is_atom
no_atom_quant q body f same atomic = let none : is_atom f ≡ false = ap is_atom same ∙ fold-Quant Bool is_atom_layer q body in absurd cc

behind_operator : (L : ℕ → Grammar Named Read) (arity op many : ℕ) (x : Read) (ts : List Named) → BehindOperator L arity op many (Ok x) ts → is_atom x.formula ≡ true → ⊥
behind_operator L zero op many x ts (inl h) atomic = absurd h
behind_operator L zero op many x ts (inr (tree, none)) atomic = no_atom_op op [] x.formula (ap (λ (y : Read). y.formula) tree) atomic
behind_operator L (suc k) op many x ts (inl (args, tree, h)) atomic = no_atom_op op args.0 x.formula (ap (λ (y : Read). y.formula) tree) atomic
behind_operator L (suc k) op many x ts (inr (tree, none)) atomic = no_atom_op op [] x.formula (ap (λ (y : Read). y.formula) tree) atomic

behind_body : (q : ℕ) (body x : Read) (ts : List Named) → CloseQuantifier q body (Ok x) ts → is_atom x.formula ≡ true → ⊥
behind_body q body x ts h atomic =
    let (whole, (c, v, w, one, (tree, none), split)) = unbarred body.is_bare (is CloseRound) WRONG_ARITY (Then (One (is CloseRound)) (λ _. Nothing (as_whole (Quant q body.formula) body.nodes_left))) x ts h in
    no_atom_quant q body.formula x.formula (ap (λ (y : Read). y.formula) tree) atomic

-- an atom begins with the name of its predicate
atom_begins : (s : Setting) (deep : ℕ) (names : List (List ℕ)) (many : ℕ) (x : Read) (ts : List Named) → numbered s ≡ false → is_atom x.formula ≡ true → FormulaPhrase s deep names many (Ok x) ts → next_is is_predicate ts ≡ true
atom_begins s zero names many x ts unnumbered atomic h = absurd h
atom_begins s (suc deep) names many x ts unnumbered atomic (inl (head, v, w, name, behind, split)) =
    absurd (behind_operator (FormulaPhrase s deep names) (operator_at s.logic (operator_of head.role)).arity (operator_of head.role) (many - 1) x w behind atomic)
atom_begins s (suc deep) names many x ts unnumbered atomic (inr (inl (head, v, w, name, (o, v1, w1, f1, (y, v2, w2, f2, (c, v3, w3, f3, (body, v4, w4, f4, close, s4), s3), s2), s1), split))) =
    absurd (behind_body (quantifier_of head.role) body x w4 close atomic)
atom_begins s (suc deep) names many x ts unnumbered atomic (inr (inr (inl (head, v, w, (numbers, none, one), behind, split)))) =
    let none_there : (false && is Hash head) ≡ true = subst (λ (b : Bool). (b && is Hash head) ≡ true) unnumbered numbers in
    absurd cc
atom_begins s (suc deep) names many x ts unnumbered atomic (inr (inr (inr (head, v, w, (name, none, one), behind, split)))) = rw (split, one) name

-- a colon is next
pub colon_next : (s : Setting) (c : Reported) (ts behind : List Named) (v w : List Reported) → reported.is Colon c ≡ true → v ≡ c ∷ [] → ahead s ts behind ≡ v ++ w → next_is (is OpenRound) (ts ++ behind) ≡ false
colon_next s c [] behind v w colon one split = let none : [] ≡ c ∷ w = split ∙ ap (λ (u : List Reported). u ++ w) one in absurd cc
colon_next s c (t ∷ ts) behind v w colon one split =
    let heads : seen s t (ts ++ behind) ∷ ahead s ts behind ≡ c ∷ w = split ∙ ap (λ (u : List Reported). u ++ w) one in
    let first : c ≡ seen s t (ts ++ behind) = cc in
    off_class (same Colon) (same OpenRound) refl t (subst (λ (u : Reported). reported.is Colon u ≡ true) first colon)

module _ (n : ℕ) (logic : Logic) where
  abbrev here : Setting
  here = text_setting logic

  pub entry_begins : (entries : List (Formula × ℕ)) (f : Formula) (left : ℕ) (front back behind : List Named) → is_atom f ≡ true → is_listed entries f ≡ false → FormulaHere n here (Ok (as_whole f left)) (ahead here front (back ++ behind)) → next_is (is OpenRound) (back ++ behind) ≡ false → MayStart reported.is_predicate (entry_fault entries) (ahead here front (back ++ behind))
  entry_begins entries f left front back behind atomic new h next =
      by front (atom_begins here MOST_DEPTH [] MOST_NODES (as_whole f left) front refl atomic phrase) ((one_formula_reads here MOST_NODES).complete (as_whole f left) front (back ++ behind) phrase next)
    where
      phrase : OneFormula here MOST_NODES (Ok (as_whole f left)) front
      phrase = subst (λ (us : List Named). OneFormula here MOST_NODES (Ok (as_whole f left)) us) (ahead_named here front (back ++ behind)) h

      by : (ts : List Named) → next_is is_predicate ts ≡ true → one_formula_at here MOST_NODES (ts ++ (back ++ behind)) ≡ Ok (as_whole f left, back ++ behind) → MayStart reported.is_predicate (entry_fault entries) (ahead here ts (back ++ behind))
      by [] name read = absurd cc
      by (t ∷ ts) name read =
          let told : (seen here t (ts ++ (back ++ behind))).formula_here ≡ Some f = ap formula_read read in
          (name, ap (λ (o : Option Formula). fault_if (lists_here entries o) UNEXPECTED) told ∙ ap (λ (b : Bool). fault_if b UNEXPECTED) new)
