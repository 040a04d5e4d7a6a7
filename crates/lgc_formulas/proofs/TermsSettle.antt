-- Terms among the tokens of a larger text: one that doesn't go on with a bracket is read before it.
use Rattle.std.proofs.Common.{◌≡◌, ℕ, zero, suc, ◌-◌, Bool, true, false, List, [], ◌∷◌, ◌++◌, Option, Some, None, Result, Ok, Err, inl, inr, ◌⊎◌, refl, sym, subst, append-nil}
use Rattle.std.specs.Prelude.{if◌then◌else◌}
use Rattle.lgc_grammar.specs.Grammar.{Why, Unexpected, IsFront}
use Rattle.lgc_grammar.specs.Reading.{Reader, next_is, allowed_at, judged, nothing_at, then_at, and_then}
use Rattle.lgc_grammar.specs.Among.{EndsBefore, AnswersAmong}
use Rattle.lgc_grammar.proofs.Readers.{IsReadOrBreaks, never}
use Rattle.lgc_grammar.proofs.Basic.{nothing_reads}
use Rattle.lgc_grammar.proofs.Sequences.{then_reads}
use Rattle.lgc_grammar.proofs.RefusedTokens.{refused_reads}
use Rattle.lgc_grammar.proofs.AmongOthers.{Settles, among_answers, among_complete, among_exact}
use Rattle.lgc_syntax.specs.declared.formula.Term.{Term, Free, Apply}
use Rattle.lgc_tokens.specs.declared.class.Class.TheVariants.{Upper, OpenRound, CloseRound}
use Rattle.lgc_tokens.specs.declared.terminal.Terminal.TheVariants as terminal
use Rattle.lgc_tokens.specs.Spelled.{Spelled}
use Rattle.lgc_tokens.specs.Classes.{same, is_lower, is, is_word, starts_term}
use Rattle.lgc_tokens.proofs.Tables.{off, allowed, example, example_passes}
use Rattle.lgc_formulas.specs.declared.formula.TheConstants.{MOST_DEPTH}
use Rattle.lgc_formulas.specs.Faults.{term_fault, depth_fault}
use Rattle.lgc_formulas.specs.TermGrammar.{Counted, OneTerm}
use Rattle.lgc_formulas.specs.PlainTerms.{PlainTerm, upper, lower, some_terms, closed}
use Rattle.lgc_formulas.specs.TermReading.{some_terms_at, terms_at, application_at, term_at, one_term_at}
use Rattle.lgc_formulas.proofs.TermReads.{SomeWords, from_terms, some_terms_read, variable_reads, term_first, a_term, term_reads}

pub never_next : {T : Type 0} (ts : List T) → next_is (never {T = T}) ts ≡ false
never_next [] = refl
never_next (t ∷ ts) = refl

-- two readers behind a first token that agree on the tokens behind it
pub behind_first : {T A : Type 0} (test : T → Bool) (fault : T → Option ℕ) (q r : T → Reader T A) (u : T) (ts : List T) → ((v : T) → q v ts ≡ r v ts) → then_at (allowed_at test fault) q (u ∷ ts) ≡ then_at (allowed_at test fault) r (u ∷ ts)
behind_first {T} {A} test fault q r u ts agree = by (test u) (fault u)
  where
    by : (b : Bool) (o : Option ℕ) → and_then (if b then judged o u ts else Err (u ∷ ts, Unexpected)) (λ x. q x.0 x.1) ≡ and_then (if b then judged o u ts else Err (u ∷ ts, Unexpected)) (λ x. r x.0 x.1)
    by true None = agree u
    by true (Some n) = refl
    by false o = refl

-- what begins with a bracket has one
opened : (ts : List Spelled) → SomeWords ts → (rest : List Spelled) → next_is (is OpenRound) (ts ++ rest) ≡ true
opened ts (v, w, (o, (is, e)), others, split) rest = rw (split, e) is

module _ (limited : Bool) (names : List (List ℕ)) (deep many : ℕ) (fault : Spelled → Option ℕ) where
  -- an application with brackets
  closed_read : (u : Spelled) (us rest : List Spelled) → is_word u ≡ true → SomeWords us → IsReadOrBreaks rest (application_at (term_at limited names deep) fault many (u ∷ (us ++ rest)))
  unfolding application_at terms_at
  closed_read u us rest word some =
      let reads = then_reads (allowed terminal.Word fault) (λ head. then_reads (some_terms_read (term_reads limited names deep) many) (λ terms. nothing_reads (Apply head.text terms.0, terms.1) never)) in
      let one = reads.plain (u ∷ us) rest (u ∷ [], us, (u, (word, refl)), (us, [], some, refl, sym (append-nil us)), refl) (never_next rest) in
      let same = behind_first is_word fault (λ head. then_at (terms_at (term_at limited names deep) many) (λ terms. nothing_at (Apply head.text terms.0, terms.1))) (λ head. then_at (some_terms_at (term_at limited names deep) many) (λ terms. nothing_at (Apply head.text terms.0, terms.1))) u (us ++ rest) (λ v. rw (opened us some rest) refl) in
      subst (IsReadOrBreaks rest) (sym same) one

-- a name and a bracket begin a term
name_opens : (u t : Spelled) → is_word u ≡ true → is OpenRound t ≡ true → IsFront PlainTerm ((u ∷ []) ++ t ∷ [])
name_opens u t word opens =
    let (v, h) = a_term in
    let end : Spelled = example (terminal.Only CloseRound) in
    (v ++ end ∷ [], lower u (t ∷ (v ++ end ∷ [])) word (some_terms t v (end ∷ []) opens h (closed end (example_passes (terminal.Only CloseRound)))))

pub terms_settle : (limited : Bool) (names : List (List ℕ)) (deep many : ℕ) → Settles (term_at limited names deep many) PlainTerm (is OpenRound)
unfolding term_at
terms_settle limited names zero many front t rest h opens ends =
    let reads = refused_reads (Free [], 0) starts_term (depth_fault (term_fault limited names 0 many)) never term_first a_term in
    reads.plain front (t ∷ rest) h refl
terms_settle limited names (suc deep) many front t rest (upper u passes) opens ends =
    let reads = variable_reads names (term_fault limited names (suc deep) many) (many - 1) in
    rw passes (reads.plain (u ∷ []) (t ∷ rest) (u, (passes, refl)) refl)
terms_settle limited names (suc deep) many front t rest (lower u us word h) opens ends = by (from_terms us h)
  where
    by : SomeWords us ⊎ (us ≡ []) → IsReadOrBreaks (t ∷ rest) (term_at limited names (suc deep) many (u ∷ (us ++ t ∷ rest)))
    by (inl some) = rw (off is_lower (same Upper) refl u word) (closed_read limited names deep (many - 1) (term_fault limited names (suc deep) many) u us (t ∷ rest) word some)
    by (inr e) = absurd (ends (subst (λ (x : List Spelled). IsFront PlainTerm ((u ∷ x) ++ t ∷ [])) (sym e) (name_opens u t word opens)))

-- ---- what is answered among the tokens of a larger text

pub one_term_answers : (many : ℕ) (ts : List Spelled) → AnswersAmong (OneTerm many) PlainTerm ts (one_term_at many ts)
unfolding one_term_at
one_term_answers many = among_answers (term_reads false [] MOST_DEPTH many) (terms_settle false [] MOST_DEPTH many)

pub one_term_complete : (many : ℕ) (x : Counted Term) (front rest : List Spelled) → OneTerm many (Ok x) front → EndsBefore PlainTerm front rest → one_term_at many (front ++ rest) ≡ Ok (x, rest)
unfolding one_term_at
one_term_complete many = among_complete (term_reads false [] MOST_DEPTH many) (terms_settle false [] MOST_DEPTH many)

pub one_term_exact : (many : ℕ) (ts : List Spelled) (answer : Result (Counted Term × List Spelled) (List Spelled × Why)) → AnswersAmong (OneTerm many) PlainTerm ts answer → one_term_at many ts ≡ answer
unfolding one_term_at
one_term_exact many = among_exact (term_reads false [] MOST_DEPTH many) (terms_settle false [] MOST_DEPTH many)
