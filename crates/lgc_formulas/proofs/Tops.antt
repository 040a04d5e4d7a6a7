-- From the readers to the grammar: the formula of a text, and formulas and terms among tokens.
use Rattle.std.proofs.Common.{◌≡◌, ℕ, ◌+◌, Bool, ◌<◌, ◌≤◌, false, List, [], ◌∷◌, ◌++◌, length, drop, Result, Ok, Err, IfOk, refl, sym, ap, subst, ◌∙◌, inl, inr, arith}
use Rattle.std.specs.Prelude.{◌^◌}
use Rattle.lgc_grammar.specs.Grammar.{Language, Why, Unexpected, Breaks}
use Rattle.lgc_grammar.specs.Reading.{Reader, and_then, map_at, whole}
use Rattle.lgc_grammar.specs.Among.{EndsBefore, AnswersAmong}
use Rattle.lgc_grammar.proofs.Readers.{Reads, Must, IsReadOrBreaks, ok, whole_answers}
use Rattle.lgc_grammar.proofs.Exact.{whole_exact}
use Rattle.lgc_grammar.proofs.AmongOthers.{Settles, among_answers, among_complete, among_exact}
use Rattle.lgc_grammar.proofs.Basic.{map_reads}
use Rattle.lgc_grammar.proofs.BrokenRules.{Only, only_mapped}
use Rattle.lgc_lexer.specs.declared.token.Token.{Token}
use Rattle.lgc_values.specs.Logic.{Logic}
use Rattle.lgc_syntax.specs.declared.fault.InputFault.{InputFault}
use Rattle.lgc_syntax.specs.declared.fault.InputFault.TheVariants as fault
use Rattle.lgc_syntax.specs.declared.fault.TheConstants.{UNEXPECTED, WRONG_ARITY}
use Rattle.lgc_syntax.specs.declared.formula.Formula.{Formula}
use Rattle.lgc_syntax.specs.declared.formula.Term.{Term}
use Rattle.lgc_syntax.specs.Sizes.{term_nodes, nodes}
use Rattle.lgc_tokens.specs.declared.class.Class.TheVariants.{OpenRound}
use Rattle.lgc_tokens.specs.Spelled.{Spelled, spelled_all, place_of}
use Rattle.lgc_tokens.specs.Classes.{is, starts_term}
use Rattle.lgc_inputs.specs.Faults.{place_in, fault_of}
use Rattle.lgc_inputs.specs.Told.{Holds, IfFault, IsTree, Tells, told_of, place_of_first}
use Rattle.lgc_inputs.specs.Places.{viewed}
use Rattle.lgc_inputs.proofs.Texts.{fault_number, text_once, text_answer, text_is, text_of, text_faults}
use Rattle.lgc_inputs.proofs.Places.{Splits, account_answer, account_once, account_is}
use Rattle.lgc_formulas.specs.declared.formula.Read.{Read}
use Rattle.lgc_formulas.specs.declared.formula.TheConstants.{MOST_DEPTH, MOST_NODES}
use Rattle.lgc_formulas.specs.declared.read.TheConstants.{LONGEST_TEXT}
use Rattle.lgc_formulas.specs.declared.read.Parsed.{Parsed}
use Rattle.lgc_formulas.specs.Named.{Named, named_all, starts_formula}
use Rattle.lgc_formulas.specs.Named as named
use Rattle.lgc_formulas.specs.Setting.{Setting, numbered}
use Rattle.lgc_formulas.specs.Faults.{IsTermFault, IsFormulaFault}
use Rattle.lgc_formulas.specs.TermGrammar.{Counted, OneTerm}
use Rattle.lgc_formulas.specs.PlainTerms.{PlainTerm}
use Rattle.lgc_formulas.specs.TermReading.{one_term_at}
use Rattle.lgc_formulas.specs.FormulaGrammar.{as_whole, OneFormula}
use Rattle.lgc_formulas.specs.PlainFormulas.{PlainFormula}
use Rattle.lgc_formulas.specs.FormulaReading.{formula_here_at}
use Rattle.lgc_formulas.specs.FormulaPlaces.{why_bare, FormulaGives}
use Rattle.lgc_formulas.specs.FormulaTexts.{named_place, text_setting, TextFormula, PlainTextFormula, FormulaTextGives, IsFormulaText, IsTextFault, text_formula_at, formula_text_read, parsed, ParsedGives, IsParsedFault, TermGives, IsTermPlaceFault, LoneTerm, LoneTermGives, lone_term_at}
use Rattle.lgc_formulas.specs.Limits.{LetsFit, IsFormulaFor, IsReadTerm}
use Rattle.lgc_formulas.proofs.FitsAround.{fits_closed}
use Rattle.lgc_formulas.proofs.TermsKept.{TermKept, term_kept}
use Rattle.lgc_formulas.proofs.FormulasKept.{AreKnown, named_known, known_front, FormulaKept, formula_kept}
use Rattle.lgc_formulas.proofs.WholeFormulas.{whole_formula_reads}
use Rattle.lgc_formulas.proofs.TermReads.{one_term_reads}
use Rattle.lgc_formulas.proofs.FaultNumbers.{term_only, formula_only, whole_formula_only}
use Rattle.lgc_formulas.proofs.FormulasSettle.{formula_gives, formula_exact, formula_complete}
use Rattle.lgc_formulas.proofs.TermsSettle.{terms_settle, one_term_answers, one_term_exact, one_term_complete}

-- a stop is told at the place of the first token
pub named_first : (logic : Logic) (bytes : List ℕ) (end : ℕ) (tokens : List Token) → place_in named_place end (named_all logic bytes tokens) ≡ place_of_first end tokens
named_first logic bytes end [] = refl
named_first logic bytes end (t ∷ tokens) = refl

pub spelled_first : (bytes : List ℕ) (end : ℕ) (tokens : List Token) → place_in place_of end (spelled_all bytes tokens) ≡ place_of_first end tokens
spelled_first bytes end [] = refl
spelled_first bytes end (t ∷ tokens) = refl

-- ---- whole texts

module _ (logic : Logic) where
  text_reads : Reads (text_formula_at logic) (TextFormula logic) (PlainTextFormula logic) (Must (starts_formula false)) (named.is OpenRound)
  text_reads = map_reads (λ x. x.formula) (whole_formula_reads (text_setting logic) MOST_NODES)

  text_only : Only IsTextFault (TextFormula logic)
  text_only = record { only = λ n ts h. let k : Only (IsFormulaFault (text_setting logic)) (TextFormula logic) = only_mapped (λ x. x.formula) (whole_formula_only (text_setting logic) MOST_NODES) in narrower n (k.only n ts h) }
    where
      narrower : (n : ℕ) → IsFormulaFault (text_setting logic) n → IsTextFault n
      narrower n (inl (low, high)) = (omega arith, high)
      narrower n (inr (inl (e, never))) = absurd cc
      narrower n (inr (inr (e, never))) = absurd cc

  module _ (bytes : List ℕ) where
    -- what the bytes give is what reading them tells, so it is one
    pub formula_once : (told : Result Formula InputFault) → FormulaTextGives logic bytes told → formula_text_read logic bytes ≡ told
    formula_once = text_once named_place (named_all logic bytes) (TextFormula logic) (PlainTextFormula logic) (whole (text_formula_at logic)) (whole_answers text_reads) (whole_exact text_reads) LONGEST_TEXT bytes

    pub formula_answer : (result : Result Formula InputFault) → Tells (λ formula. formula) result (formula_text_read logic bytes) → Holds (FormulaTextGives logic bytes) result
    formula_answer = text_answer named_place (named_all logic bytes) (TextFormula logic) (PlainTextFormula logic) (whole (text_formula_at logic)) (whole_answers text_reads) (whole_exact text_reads) LONGEST_TEXT bytes

    pub formula_is : (formula : Formula) (result : Result Formula InputFault) → IsFormulaText logic bytes formula → Tells (λ formula. formula) result (formula_text_read logic bytes) → IsTree (λ formula. formula) result formula
    formula_is = text_is named_place (named_all logic bytes) (TextFormula logic) (PlainTextFormula logic) (whole (text_formula_at logic)) (whole_answers text_reads) (whole_exact text_reads) LONGEST_TEXT bytes

    pub formula_faults : length bytes < 2 ^ 32 → (result : Result Formula InputFault) → Holds (FormulaTextGives logic bytes) result → IfFault result IsTextFault
    formula_faults short = text_faults named_place (named_all logic bytes) (TextFormula logic) (PlainTextFormula logic) (whole (text_formula_at logic)) (whole_answers text_reads) (whole_exact text_reads) LONGEST_TEXT bytes IsTextFault text_only (λ long. absurd (omega (arith, long, short))) (omega arith, omega arith) (omega arith, omega arith) (omega arith, omega arith)

    -- it is a formula for the logic, and not too large
    formula_facts : (f : Formula) → FormulaTextGives logic bytes (Ok f) → IsFormulaFor (text_setting logic) f × (nodes f ≤ MOST_NODES)
    formula_facts f gives =
        let text : IsFormulaText logic bytes f = text_of named_place (named_all logic bytes) (TextFormula logic) (PlainTextFormula logic) (whole (text_formula_at logic)) (whole_answers text_reads) (whole_exact text_reads) LONGEST_TEXT bytes f gives in
        by text.tokens text.derived
      where
        by : (tokens : List Token) → TextFormula logic (Ok f) (named_all logic bytes tokens) → IsFormulaFor (text_setting logic) f × (nodes f ≤ MOST_NODES)
        by tokens (x, is, (whole, h)) =
            let k : FormulaKept (text_setting logic) 0 MOST_DEPTH MOST_NODES x = formula_kept (text_setting logic) MOST_DEPTH [] MOST_NODES x (named_all logic bytes tokens) (named_known logic bytes tokens) h in
            subst (λ (g : Formula). IsFormulaFor (text_setting logic) g × (nodes g ≤ MOST_NODES)) (sym is) (record { fits = k.fits tt whole; shallow = k.shallow; propositional = k.plain }, omega (arith, k.counted))

    pub formula_fits : (result : Result Formula InputFault) → Tells (λ formula. formula) result (formula_text_read logic bytes) → IfOk result (λ f. IsFormulaFor (text_setting logic) f)
    formula_fits (Ok f) told = (formula_facts f (formula_answer (Ok f) told)).0
    formula_fits (Err f) told = tt

    pub formula_small : (result : Result Formula InputFault) → Tells (λ formula. formula) result (formula_text_read logic bytes) → IfOk result (λ f. nodes f ≤ MOST_NODES)
    formula_small (Ok f) told = (formula_facts f (formula_answer (Ok f) told)).1
    formula_small (Err f) told = tt

-- ---- formulas at a place

-- where a rule is broken, or a token is unexpected, the number is one of these
unexpected_or : (Q : ℕ → Type 0) (number place : ℕ) (end : ℕ) (rest : List Named) → Q UNEXPECTED → Q WRONG_ARITY → (why : Why) → why ≡ why_bare rest → fault.Fault number place ≡ fault_of named_place end (rest, why) → Q number
unexpected_or Q number place end [] four six why is e = let same : number ≡ UNEXPECTED = (let e2 = rw is at e in cc) in subst Q (sym same) four
unexpected_or Q number place end (t ∷ rest) four six why is e = let same : number ≡ WRONG_ARITY = (let e2 = rw is at e in cc) in subst Q (sym same) six

module _ (s : Setting) (many end : ℕ) where
  -- what is left behind a formula are the last tokens
  pub formula_splits : Splits (formula_here_at s many)
  formula_splits ts rest tree e = let (whole, h) = subst (FormulaGives s many ts) e (formula_gives s many ts) in (h.front, h.split)

  parsed_only : Only (IsParsedFault s) (OneFormula s many)
  parsed_only = record { only = λ n ts h. let k : Only (IsFormulaFault s) (OneFormula s many) = formula_only s MOST_DEPTH [] many in inr (k.only n ts h) }

  module _ (ts : List Named) (at : ℕ) where
    pub parsed_answer : (result : Result Parsed InputFault) → Tells (parsed ts) result (told_of named_place end (formula_here_at s many (drop at ts))) → Holds (ParsedGives s many end ts at) result
    parsed_answer = account_answer named_place (FormulaGives s many) (formula_here_at s many) (formula_gives s many) (formula_exact s many) end (parsed ts) (drop at ts)

    pub parsed_once : (told : Result Parsed InputFault) → ParsedGives s many end ts at told → told_of named_place end (formula_here_at s many (drop at ts)) ≡ viewed (parsed ts) told
    parsed_once = account_once named_place (FormulaGives s many) (formula_here_at s many) (formula_gives s many) (formula_exact s many) end (parsed ts) (drop at ts)

    pub parsed_is : (result : Result Parsed InputFault) → Tells (parsed ts) result (told_of named_place end (formula_here_at s many (drop at ts))) → (read : Read) (front rest : List Named) → drop at ts ≡ front ++ rest → OneFormula s many (Ok read) front → read.is_bare ≡ false → EndsBefore (PlainFormula (numbered s)) front rest → IsTree (parsed ts) result (read, rest)
    parsed_is result told read front rest split h whole ends =
        account_is named_place (FormulaGives s many) (formula_here_at s many) (formula_gives s many) (formula_exact s many) end (parsed ts) (drop at ts) read rest result (ap (formula_here_at s many) split ∙ formula_complete s many read front rest h whole ends) told

    pub parsed_faults : (result : Result Parsed InputFault) → Holds (ParsedGives s many end ts at) result → IfFault result (IsParsedFault s)
    parsed_faults (Ok x) h = tt
    parsed_faults (Err fault.Memory) h = tt
    parsed_faults (Err (fault.Fault number place)) (e, inl (stop, unfinished), is) = fault_number named_place (IsParsedFault s) (OneFormula s many) (PlainFormula (numbered s)) end (drop at ts) number place parsed_only (inl refl) (e.0, e.1, stop, is)
    parsed_faults (Err (fault.Fault number place)) (e, inr (x, bare, takes, why), is) = unexpected_or (IsParsedFault s) number place end e.0 (inl refl) (inr (inl (omega arith, omega arith))) e.1 why is

    -- it is a formula for the logic, and its nodes are counted
    parsed_kept : AreKnown s.logic (drop at ts) → (x : Parsed) → Tells (parsed ts) (Ok x) (told_of named_place end (formula_here_at s many (drop at ts))) → FormulaKept s 0 MOST_DEPTH many (as_whole x.formula x.nodes_left)
    parsed_kept known x told =
        let (whole, h) = parsed_answer (Ok x) told in
        formula_kept s MOST_DEPTH [] many (as_whole x.formula x.nodes_left) h.front (known_front s.logic h.front (drop x.next ts) (subst (AreKnown s.logic) h.split known)) h.phrase

    pub parsed_fits : AreKnown s.logic (drop at ts) → (result : Result Parsed InputFault) → Tells (parsed ts) result (told_of named_place end (formula_here_at s many (drop at ts))) → IfOk result (λ x. LetsFit s → IsFormulaFor s x.formula)
    parsed_fits known (Ok x) told = let k = parsed_kept known x told in λ lets. record { fits = k.fits lets refl; shallow = k.shallow; propositional = k.plain }
    parsed_fits known (Err f) told = tt

    pub parsed_counted : AreKnown s.logic (drop at ts) → (result : Result Parsed InputFault) → Tells (parsed ts) result (told_of named_place end (formula_here_at s many (drop at ts))) → IfOk result (λ x. nodes x.formula + x.nodes_left ≡ many)
    parsed_counted known (Ok x) told = let k = parsed_kept known x told in k.counted
    parsed_counted known (Err f) told = tt

-- ---- terms at a place

-- a term of the grammar, and how many nodes are left behind it
term_facts : (many : ℕ) (x : Counted Term) (ts : List Spelled) → OneTerm many (Ok x) ts → IsReadTerm x.0 × (term_nodes x.0 + x.1 ≡ many)
term_facts many x ts h = let k : TermKept 0 MOST_DEPTH many x = term_kept false [] MOST_DEPTH many x ts h in (record { closed = fits_closed x.0 k.fits; shallow = k.shallow }, k.counted)

module _ (many end : ℕ) where
  term_place_only : Only IsTermPlaceFault (OneTerm many)
  term_place_only = record { only = λ n ts h. let k : Only IsTermFault (OneTerm many) = term_only false [] MOST_DEPTH many in inr (k.only n ts h) }

  module _ {X : Type 0} (view : X → Counted Term × List Spelled) (ts : List Spelled) (at : ℕ) where
    pub term_answer : (result : Result X InputFault) → Tells view result (told_of place_of end (one_term_at many (drop at ts))) → Holds (TermGives view many end ts at) result
    term_answer = account_answer place_of (AnswersAmong (OneTerm many) PlainTerm) (one_term_at many) (one_term_answers many) (one_term_exact many) end view (drop at ts)

    pub term_once : (told : Result X InputFault) → TermGives view many end ts at told → told_of place_of end (one_term_at many (drop at ts)) ≡ viewed view told
    term_once = account_once place_of (AnswersAmong (OneTerm many) PlainTerm) (one_term_at many) (one_term_answers many) (one_term_exact many) end view (drop at ts)

    pub term_is : (result : Result X InputFault) → Tells view result (told_of place_of end (one_term_at many (drop at ts))) → (term : Counted Term) (front rest : List Spelled) → drop at ts ≡ front ++ rest → OneTerm many (Ok term) front → EndsBefore PlainTerm front rest → IsTree view result (term, rest)
    term_is result told term front rest split h ends =
        account_is place_of (AnswersAmong (OneTerm many) PlainTerm) (one_term_at many) (one_term_answers many) (one_term_exact many) end view (drop at ts) term rest result (ap (one_term_at many) split ∙ one_term_complete many term front rest h ends) told

    pub term_faults : (result : Result X InputFault) → Holds (TermGives view many end ts at) result → IfFault result IsTermPlaceFault
    term_faults (Ok x) h = tt
    term_faults (Err fault.Memory) h = tt
    term_faults (Err (fault.Fault number place)) (e, (stop, unfinished), is) = fault_number place_of IsTermPlaceFault (OneTerm many) PlainTerm end (drop at ts) number place term_place_only (inl refl) (e.0, e.1, stop, is)

    -- it has no bound variable, and its nodes are counted
    pub term_fits : (result : Result X InputFault) → Tells view result (told_of place_of end (one_term_at many (drop at ts))) → IfOk result (λ x. IsReadTerm (view x).0.0)
    term_fits (Ok x) told = let h = term_answer (Ok x) told in (term_facts many (view x).0 h.front h.phrase).0
    term_fits (Err f) told = tt

    pub term_counted : (result : Result X InputFault) → Tells view result (told_of place_of end (one_term_at many (drop at ts))) → IfOk result (λ x. term_nodes (view x).0.0 + (view x).0.1 ≡ many)
    term_counted (Ok x) told = let h = term_answer (Ok x) told in (term_facts many (view x).0 h.front h.phrase).1
    term_counted (Err f) told = tt

-- ---- terms with 1,000 nodes

-- another tree changes nothing about where a phrase ends
mapped_settles : {S A B : Type 0} (f : A → B) (p : Reader S A) (P : Language S) (go : S → Bool) → Settles p P go → Settles (map_at f p) P go
mapped_settles {S} {A} f p P go settles front t rest h goes ends = by (p (front ++ t ∷ rest)) (settles front t rest h goes ends)
  where
    by : (r : Result (A × List S) (List S × Why)) → IsReadOrBreaks (t ∷ rest) r → IsReadOrBreaks (t ∷ rest) (and_then r (λ x. ok (f x.0, x.1)))
    by (Ok x) read = read
    by (Err (e, Unexpected)) read = read
    by (Err (e, Breaks n)) read = read

lone_reads : Reads lone_term_at LoneTerm PlainTerm (Must starts_term) (is OpenRound)
lone_reads = map_reads (λ x. x.0) (one_term_reads MOST_NODES)

lone_settles : Settles lone_term_at PlainTerm (is OpenRound)
unfolding one_term_at
lone_settles = mapped_settles (λ x. x.0) (one_term_at MOST_NODES) PlainTerm (is OpenRound) (terms_settle false [] MOST_DEPTH MOST_NODES)

lone_only : Only IsTermPlaceFault LoneTerm
lone_only = only_mapped (λ x. x.0) (term_place_only MOST_NODES 0)

-- the term that was read with the nodes that are left
pub lone_told : (end : ℕ) (ts from : List Spelled) (term : Term) (next left : ℕ) → told_of place_of end (one_term_at MOST_NODES from) ≡ Ok ((term, left), drop next ts) → told_of place_of end (lone_term_at from) ≡ Ok (term, drop next ts)
lone_told end ts from term next left told = by (one_term_at MOST_NODES from) told
  where
    by : (r : Result (Counted Term × List Spelled) (List Spelled × Why)) → told_of place_of end r ≡ Ok ((term, left), drop next ts) → told_of place_of end (and_then r (λ x. ok {A = Term × List Spelled} {E = List Spelled × Why} (x.0.0, x.1))) ≡ Ok (term, drop next ts)
    by (Ok x) e = cc
    by (Err d) e = absurd cc

module _ (end : ℕ) (ts : List Spelled) (at : ℕ) where
  pub lone_answer : (result : Result (Term × ℕ) InputFault) → Tells (λ x. (x.0, drop x.1 ts)) result (told_of place_of end (lone_term_at (drop at ts))) → Holds (LoneTermGives end ts at) result
  lone_answer = account_answer place_of (AnswersAmong LoneTerm PlainTerm) lone_term_at (among_answers lone_reads lone_settles) (among_exact lone_reads lone_settles) end (λ x. (x.0, drop x.1 ts)) (drop at ts)

  pub lone_once : (told : Result (Term × ℕ) InputFault) → LoneTermGives end ts at told → told_of place_of end (lone_term_at (drop at ts)) ≡ viewed (λ x. (x.0, drop x.1 ts)) told
  lone_once = account_once place_of (AnswersAmong LoneTerm PlainTerm) lone_term_at (among_answers lone_reads lone_settles) (among_exact lone_reads lone_settles) end (λ x. (x.0, drop x.1 ts)) (drop at ts)

  pub lone_is : (result : Result (Term × ℕ) InputFault) → Tells (λ x. (x.0, drop x.1 ts)) result (told_of place_of end (lone_term_at (drop at ts))) → (term : Term) (front rest : List Spelled) → drop at ts ≡ front ++ rest → LoneTerm (Ok term) front → EndsBefore PlainTerm front rest → IsTree {A = Term × List Spelled} (λ x. (x.0, drop x.1 ts)) result (term, rest)
  lone_is result told term front rest split h ends =
      account_is place_of (AnswersAmong LoneTerm PlainTerm) lone_term_at (among_answers lone_reads lone_settles) (among_exact lone_reads lone_settles) end (λ x. (x.0, drop x.1 ts)) (drop at ts) term rest result (ap lone_term_at split ∙ among_complete lone_reads lone_settles term front rest h ends) told

  pub lone_faults : (result : Result (Term × ℕ) InputFault) → Holds (LoneTermGives end ts at) result → IfFault result IsTermPlaceFault
  lone_faults (Ok x) h = tt
  lone_faults (Err fault.Memory) h = tt
  lone_faults (Err (fault.Fault number place)) (e, (stop, unfinished), is) = fault_number place_of IsTermPlaceFault LoneTerm PlainTerm end (drop at ts) number place lone_only (inl refl) (e.0, e.1, stop, is)

  -- it has no bound variable, and isn't too large
  lone_facts : (x : Term × ℕ) → LoneTermGives end ts at (Ok x) → IsReadTerm x.0 × (term_nodes x.0 ≤ MOST_NODES)
  lone_facts x h = by h.front h.phrase
    where
      by : (front : List Spelled) → LoneTerm (Ok x.0) front → IsReadTerm x.0 × (term_nodes x.0 ≤ MOST_NODES)
      by front (y, is, phrase) = let (good, counted) = term_facts MOST_NODES y front phrase in subst (λ (t : Term). IsReadTerm t × (term_nodes t ≤ MOST_NODES)) (sym is) (good, omega (arith, counted))

  pub lone_fits : (result : Result (Term × ℕ) InputFault) → Tells (λ x. (x.0, drop x.1 ts)) result (told_of place_of end (lone_term_at (drop at ts))) → IfOk result (λ x. IsReadTerm x.0)
  lone_fits (Ok x) told = (lone_facts x (lone_answer (Ok x) told)).0
  lone_fits (Err f) told = tt

  pub lone_small : (result : Result (Term × ℕ) InputFault) → Tells (λ x. (x.0, drop x.1 ts)) result (told_of place_of end (lone_term_at (drop at ts))) → IfOk result (λ x. term_nodes x.0 ≤ MOST_NODES)
  lone_small (Ok x) told = (lone_facts x (lone_answer (Ok x) told)).1
  lone_small (Err f) told = tt
