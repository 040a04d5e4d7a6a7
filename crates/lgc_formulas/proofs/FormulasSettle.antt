-- Formulas among the tokens of a larger text: one that doesn't go on with a bracket is read before it.
use Rattle.std.proofs.Common.{◌≡◌, ℕ, zero, suc, ◌-◌, Bool, true, false, List, [], ◌∷◌, ◌++◌, map, Option, Some, None, Result, Ok, Err, inl, inr, ◌⊎◌, refl, sym, ap, subst, ◌∙◌}
use Rattle.lgc_grammar.specs.Grammar.{Why, Unexpected, Breaks, IsFront}
use Rattle.lgc_grammar.specs.Reading.{Reader, next_is, judged, allowed_at, refused_at, map_at, and_then}
use Rattle.lgc_grammar.specs.Among.{EndsBefore, AnswersAmong}
use Rattle.lgc_grammar.proofs.Readers.{IsReadOrBreaks, never, either_way, ok}
use Rattle.lgc_grammar.proofs.Basic.{map_reads}
use Rattle.lgc_grammar.proofs.RefusedTokens.{refused_reads}
use Rattle.lgc_grammar.proofs.SeenTokens.{seen_reads}
use Rattle.lgc_grammar.proofs.AmongOthers.{Settles, among_answers, among_complete, among_exact}
use Rattle.lgc_values.specs.Logic.{operator_at}
use Rattle.lgc_syntax.specs.declared.fault.TheConstants.{WRONG_ARITY}
use Rattle.lgc_syntax.specs.declared.formula.Term.{Term}
use Rattle.lgc_syntax.specs.declared.formula.Formula.{Atom, Op}
use Rattle.lgc_tokens.specs.declared.class.Class.TheVariants.{OpenRound, CloseRound}
use Rattle.lgc_tokens.specs.Spelled.{Spelled}
use Rattle.lgc_tokens.specs.declared.terminal.Terminal.TheVariants as terminal
use Rattle.lgc_tokens.specs.Classes as tokens
use Rattle.lgc_tokens.proofs.Tables.{example, example_passes}
use Rattle.lgc_formulas.specs.declared.role.Role.TheVariants.{Neither}
use Rattle.lgc_formulas.specs.declared.formula.Read.{Read}
use Rattle.lgc_formulas.specs.declared.formula.TheConstants.{MOST_DEPTH}
use Rattle.lgc_formulas.specs.Named.{Named, text_of, operator_of, is, is_number, is_hash, is_predicate, is_quantifier, starts_operator, starts_formula}
use Rattle.lgc_formulas.specs.Setting.{Setting, numbered}
use Rattle.lgc_formulas.specs.Faults.{formula_fault, depth_fault, let_of, number_fault}
use Rattle.lgc_formulas.specs.TermGrammar.{Counted}
use Rattle.lgc_formulas.specs.PlainTerms.{PlainTerms, lower, no_terms, some_terms, closed}
use Rattle.lgc_formulas.specs.FormulaGrammar.{as_whole, numbered_formula, OneFormula}
use Rattle.lgc_formulas.specs.PlainFormulas.{PlainFormula, operator, quantified, hash, atom}
use Rattle.lgc_formulas.specs.TermReading.{terms_at}
use Rattle.lgc_formulas.specs.FormulaReading.{operands_at, behind_operator_at, operator_formula_at, numbered_formula_at, atom_terms_at, atom_formula_at, formula_at, one_formula_at, formula_here_at}
use Rattle.lgc_formulas.specs.FormulaPlaces.{why_bare, FormulaGives}
use Rattle.lgc_formulas.proofs.Tables.{with_role, token, token_is, operator_token}
use Rattle.lgc_formulas.proofs.TermReads.{or_is, is_or, SomeWords, from_terms, some_terms_read, term_reads}
use Rattle.lgc_formulas.proofs.TermsSettle.{never_next}
use Rattle.lgc_formulas.proofs.FormulaReads.{InBrackets, open_first, begun, a_formula, from_operands, operands_read, quantifier_formula_reads, quantified_words, to_operands, off_operator, off_quantifier, off_hash, formula_first, formula_reads}

-- what begins with a bracket has one
opened : (b : Bool) (ts : List Named) → InBrackets b ts → (rest : List Named) → next_is (is OpenRound) (ts ++ rest) ≡ true
opened b ts (v, w, (o, (passes, e)), others, split) rest = rw (split, e) passes

-- ---- operators with brackets

module _ (s : Setting) (deep : ℕ) (names : List (List ℕ)) where
  -- what is read behind the name of an operator where a bracket follows
  closed_at : ℕ → ℕ → ℕ → Reader Named Read
  closed_at zero op many = refused_at (is OpenRound) (λ _. WRONG_ARITY)
  closed_at (suc k) op many = map_at (λ x. as_whole (Op op x.0) x.1) (operands_at (formula_at s deep names) k many)

  closed_same : (arity op many : ℕ) (ts : List Named) → next_is (is OpenRound) ts ≡ true → behind_operator_at (formula_at s deep names) arity op many ts ≡ closed_at arity op many ts
  unfolding behind_operator_at closed_at
  closed_same zero op many ts bracket = rw bracket refl
  closed_same (suc k) op many ts bracket = rw bracket refl

  closed_read : (arity op many : ℕ) (ts rest : List Named) → InBrackets (numbered s) ts → IsReadOrBreaks rest (closed_at arity op many (ts ++ rest))
  unfolding closed_at
  closed_read zero op many ts rest h =
      let reads = refused_reads (as_whole (Op op []) many) (is OpenRound) (λ _. WRONG_ARITY) never (open_first (numbered s)) (begun (numbered s) (open_first (numbered s)) (token OpenRound) (token_is OpenRound)) in
      reads.plain ts rest h (never_next rest)
  closed_read (suc k) op many ts rest h =
      let reads = map_reads (λ x. as_whole (Op op x.0) x.1) (operands_read (numbered s) (formula_reads s deep names) k many) in
      reads.plain ts rest h (never_next rest)

  operator_read : (fault : Named → Option ℕ) (many : ℕ) (u : Named) (us rest : List Named) → starts_operator u ≡ true → InBrackets (numbered s) us → IsReadOrBreaks rest (operator_formula_at (formula_at s deep names) s fault many (u ∷ (us ++ rest)))
  unfolding operator_formula_at
  operator_read fault many u us rest passes h = rw passes (by (fault u))
    where
      by : (o : Option ℕ) → IsReadOrBreaks rest (and_then (judged o u (us ++ rest)) (λ x. behind_operator_at (formula_at s deep names) (operator_at s.logic (operator_of x.0.role)).arity (operator_of x.0.role) many x.1))
      by (Some n) = tt
      by None = subst (IsReadOrBreaks rest) (sym (closed_same (operator_at s.logic (operator_of u.role)).arity (operator_of u.role) many (us ++ rest) (opened (numbered s) us h rest))) (closed_read (operator_at s.logic (operator_of u.role)).arity (operator_of u.role) many us rest h)

-- ---- a # and a number

number_read : (s : Setting) (fault : Named → Option ℕ) (many : ℕ) (h n : Named) (rest : List Named) → is_hash (numbered s) h ≡ true → is_number n ≡ true → IsReadOrBreaks rest (numbered_formula_at s fault many (h ∷ (n ∷ rest)))
unfolding numbered_formula_at
number_read s fault many h n rest hashed number = rw hashed (by (fault h))
  where
    at : (o : Option ℕ) → IsReadOrBreaks rest (and_then (judged o n rest) (λ y. ok (numbered_formula (let_of s y.0) many, y.1)))
    at (Some k) = tt
    at None = refl

    by : (o : Option ℕ) → IsReadOrBreaks rest (and_then (judged o h (n ∷ rest)) (λ x. and_then (allowed_at is_number (number_fault s) x.1) (λ y. ok (numbered_formula (let_of s y.0) many, y.1))))
    by (Some k) = tt
    by None = rw number (at (number_fault s n))

-- ---- atoms with brackets

abbrev see : Named → Spelled
see t = t.spelled

seen_opened : (ts rest : List Named) → SomeWords (map see ts) → next_is (tokens.is OpenRound) (map see (ts ++ rest)) ≡ true
seen_opened [] rest (v, w, (o, (passes, e)), others, split) = let none : [] ≡ (o ∷ []) ++ w = split ∙ ap (λ (u : List Spelled). u ++ w) e in absurd cc
seen_opened (t ∷ ts) rest (v, w, (o, (passes, e)), others, split) =
    let all : (see t ∷ map see ts) ≡ (o ∷ []) ++ w = split ∙ ap (λ (u : List Spelled). u ++ w) e in
    let same : see t ≡ o = cc in
    ap (tokens.is OpenRound) same ∙ passes

module _ (limited : Bool) (names : List (List ℕ)) (deep : ℕ) where
  -- the terms in brackets
  some_seen : (many : ℕ) (ts rest : List Named) → SomeWords (map see ts) → IsReadOrBreaks rest (atom_terms_at limited names deep many (ts ++ rest))
  unfolding atom_terms_at terms_at
  some_seen many ts rest h =
      let reads = seen_reads see (with_role Neither) (λ t. refl) (some_terms_read (term_reads limited names deep) many) in
      rw (seen_opened ts rest h) (reads.plain ts rest h (never_next rest))

  atom_read : (fault : Named → Option ℕ) (many : ℕ) (u : Named) (us rest : List Named) → is_predicate u ≡ true → SomeWords (map see us) → IsReadOrBreaks rest (atom_formula_at limited names deep fault many (u ∷ (us ++ rest)))
  unfolding atom_formula_at
  atom_read fault many u us rest passes h = rw passes (by (fault u))
    where
      by : (o : Option ℕ) → IsReadOrBreaks rest (and_then (judged o u (us ++ rest)) (λ x. and_then (atom_terms_at limited names deep many x.1) (λ y. ok (as_whole (Atom (text_of x.0) y.0.0) y.0.1, y.1))))
      by (Some n) = tt
      by None = mapped (atom_terms_at limited names deep many (us ++ rest)) (some_seen many us rest h)
        where
          mapped : (r : Result (Counted (List Term) × List Named) (List Named × Why)) → IsReadOrBreaks rest r → IsReadOrBreaks rest (and_then r (λ y. ok (as_whole (Atom (text_of u) y.0.0) y.0.1, y.1)))
          mapped (Ok y) read = read
          mapped (Err (e, Unexpected)) read = read
          mapped (Err (e, Breaks n)) read = read

-- ---- all formulas

-- what begins with a name and a bracket goes on
bracket_goes : (s : Setting) (u t : Named) → starts_operator u ≡ true → is OpenRound t ≡ true → IsFront (PlainFormula (numbered s)) ((u ∷ []) ++ t ∷ [])
bracket_goes s u t passes bracket = let (v, h) = (open_first (numbered s)).each_token t bracket in (v, operator u (t ∷ v) passes (to_operands (numbered s) (t ∷ v) (inl h)))

terms_go : (s : Setting) (u t : Named) → is_predicate u ≡ true → is OpenRound t ≡ true → IsFront (PlainFormula (numbered s)) ((u ∷ []) ++ t ∷ [])
terms_go s u t passes bracket =
    let word = example terminal.Word in
    let end = example (terminal.Only CloseRound) in
    let inside : PlainTerms (see t ∷ ((word ∷ []) ++ (end ∷ []))) = some_terms (see t) (word ∷ []) (end ∷ []) bracket (lower word [] (example_passes terminal.Word) no_terms) (closed end (example_passes (terminal.Only CloseRound))) in
    (with_role Neither word ∷ (with_role Neither end ∷ []), atom u (t ∷ (with_role Neither word ∷ (with_role Neither end ∷ []))) passes inside)

no_tokens : (us : List Named) → map see us ≡ [] → us ≡ []
no_tokens [] e = refl
no_tokens (u ∷ us) e = absurd cc

pub formulas_settle : (s : Setting) (deep : ℕ) (names : List (List ℕ)) (many : ℕ) → Settles (formula_at s deep names many) (PlainFormula (numbered s)) (is OpenRound)
unfolding formula_at
formulas_settle s zero names many front t rest h bracket ends =
    let reads = refused_reads (as_whole (Op 0 []) 0) (starts_formula (numbered s)) (depth_fault (formula_fault s 0 many)) never (formula_first (numbered s)) (operator_token ∷ [], a_formula (numbered s)) in
    reads.plain front (t ∷ rest) h refl
formulas_settle s (suc deep) names many front t rest (operator u us passes h) bracket ends = by (from_operands (numbered s) us h)
  where
    by : InBrackets (numbered s) us ⊎ (us ≡ []) → IsReadOrBreaks (t ∷ rest) (formula_at s (suc deep) names many (u ∷ (us ++ t ∷ rest)))
    by (inl some) = rw passes (operator_read s deep names (formula_fault s (suc deep) many) (many - 1) u us (t ∷ rest) passes some)
    by (inr e) = absurd (ends (subst (λ (x : List Named). IsFront (PlainFormula (numbered s)) ((u ∷ x) ++ t ∷ [])) (sym e) (bracket_goes s u t passes bracket)))
formulas_settle s (suc deep) names many front t rest (quantified q o x c v z q_is o_is x_is c_is h z_is) bracket ends =
    let reads = quantifier_formula_reads (numbered s) (formula_reads s deep) (formula_fault s (suc deep) many) names (many - 1) in
    rw (off_operator (numbered s) q (is_or _ _ q_is), q_is) (reads.plain (q ∷ (o ∷ (x ∷ (c ∷ (v ++ z ∷ []))))) (t ∷ rest) (quantified_words (numbered s) q o x c v z q_is o_is x_is c_is h z_is) refl)
formulas_settle s (suc deep) names many front t rest (hash h n passes number) bracket ends =
    rw (off_operator (numbered s) h (or_is (is_quantifier h) _ (is_or _ _ passes)), off_quantifier (numbered s) h (is_or _ _ passes), passes) (number_read s (formula_fault s (suc deep) many) many h n (t ∷ rest) passes number)
formulas_settle s (suc deep) names many front t rest (atom u us passes h) bracket ends = by (from_terms (map see us) h)
  where
    by : SomeWords (map see us) ⊎ (map see us ≡ []) → IsReadOrBreaks (t ∷ rest) (formula_at s (suc deep) names many (u ∷ (us ++ t ∷ rest)))
    by (inl some) =
        rw (off_operator (numbered s) u (or_is (is_quantifier u) _ (or_is (is_hash (numbered s) u) _ passes)), off_quantifier (numbered s) u (or_is (is_hash (numbered s) u) _ passes), off_hash (numbered s) u passes)
        (atom_read (numbered s) names deep (formula_fault s (suc deep) many) (many - 1) u us (t ∷ rest) passes some)
    by (inr e) = absurd (ends (subst (λ (x : List Named). IsFront (PlainFormula (numbered s)) ((u ∷ x) ++ t ∷ [])) (sym (no_tokens us e)) (terms_go s u t passes bracket)))

-- ---- what is answered

module _ (s : Setting) (many : ℕ) where
  pub one_formula_answers : (ts : List Named) → AnswersAmong (OneFormula s many) (PlainFormula (numbered s)) ts (one_formula_at s many ts)
  unfolding one_formula_at
  one_formula_answers = among_answers (formula_reads s MOST_DEPTH [] many) (formulas_settle s MOST_DEPTH [] many)

  pub one_formula_complete : (x : Read) (front rest : List Named) → OneFormula s many (Ok x) front → EndsBefore (PlainFormula (numbered s)) front rest → one_formula_at s many (front ++ rest) ≡ Ok (x, rest)
  unfolding one_formula_at
  one_formula_complete = among_complete (formula_reads s MOST_DEPTH [] many) (formulas_settle s MOST_DEPTH [] many)

  pub one_formula_exact : (ts : List Named) (answer : Result (Read × List Named) (List Named × Why)) → AnswersAmong (OneFormula s many) (PlainFormula (numbered s)) ts answer → one_formula_at s many ts ≡ answer
  unfolding one_formula_at
  one_formula_exact = among_exact (formula_reads s MOST_DEPTH [] many) (formulas_settle s MOST_DEPTH [] many)

  -- behind a formula that isn't bare, and behind one that is
  here_whole : (ts rest : List Named) (x : Read) → one_formula_at s many ts ≡ Ok (x, rest) → x.is_bare ≡ false → formula_here_at s many ts ≡ Ok (x, rest)
  unfolding formula_here_at
  here_whole ts rest x e whole = rw (e, whole) refl

  here_bare : (ts rest : List Named) (x : Read) → one_formula_at s many ts ≡ Ok (x, rest) → x.is_bare ≡ true → formula_here_at s many ts ≡ Err (rest, why_bare rest)
  unfolding formula_here_at
  here_bare ts [] x e bare = rw (e, bare) refl
  here_bare ts (t ∷ rest) x e bare = rw (e, bare) refl

  here_stops : (ts : List Named) (d : List Named × Why) → one_formula_at s many ts ≡ Err d → formula_here_at s many ts ≡ Err d
  unfolding formula_here_at
  here_stops ts d e = rw e refl

  pub formula_gives : (ts : List Named) → FormulaGives s many ts (formula_here_at s many ts)
  formula_gives ts = by (one_formula_at s many ts) refl
    where
      answer : (r : Result (Read × List Named) (List Named × Why)) → one_formula_at s many ts ≡ r → AnswersAmong (OneFormula s many) (PlainFormula (numbered s)) ts r
      answer r e = subst (AnswersAmong (OneFormula s many) (PlainFormula (numbered s)) ts) e (one_formula_answers ts)

      by : (r : Result (Read × List Named) (List Named × Why)) → one_formula_at s many ts ≡ r → FormulaGives s many ts (formula_here_at s many ts)
      by (Err d) e = rw (here_stops ts d e) (inl (answer (Err d) e))
      by (Ok (x, rest)) e = at (either_way x.is_bare)
        where
          at : (x.is_bare ≡ true) ⊎ (x.is_bare ≡ false) → FormulaGives s many ts (formula_here_at s many ts)
          at (inl bare) = rw (here_bare ts rest x e bare) (inr (x, bare, answer (Ok (x, rest)) e, refl))
          at (inr whole) = rw (here_whole ts rest x e whole) (whole, answer (Ok (x, rest)) e)

  -- no other answer is right
  pub formula_exact : (ts : List Named) (answer : Result (Read × List Named) (List Named × Why)) → FormulaGives s many ts answer → formula_here_at s many ts ≡ answer
  formula_exact ts (Ok (x, rest)) (whole, h) = here_whole ts rest x (one_formula_exact ts (Ok (x, rest)) h) whole
  formula_exact ts (Err d) (inl h) = here_stops ts d (one_formula_exact ts (Err d) h)
  formula_exact ts (Err (rest, why)) (inr (x, bare, h, is)) = rw is (here_bare ts rest x (one_formula_exact ts (Ok (x, rest)) h) bare)

  -- a formula that isn't bare is read before what it doesn't go on with
  pub formula_complete : (x : Read) (front rest : List Named) → OneFormula s many (Ok x) front → x.is_bare ≡ false → EndsBefore (PlainFormula (numbered s)) front rest → formula_here_at s many (front ++ rest) ≡ Ok (x, rest)
  formula_complete x front rest h whole ends = here_whole (front ++ rest) rest x (one_formula_complete x front rest h ends) whole
