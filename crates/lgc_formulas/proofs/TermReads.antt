-- The readers of terms read their grammar.
use Rattle.std.proofs.Common.{◌≡◌, ℕ, zero, suc, ◌-◌, Bool, true, false, List, [], ◌∷◌, ◌++◌, Option, refl, sym, ap, inl, inr, append_assoc, append-nil, ◌∙◌}
use Rattle.std.specs.Prelude.{◌||◌}
use Rattle.lgc_grammar.specs.Grammar.{Grammar, Language, Growing, PlainOne, PlainNothing, PlainThen, PlainEither, PlainOptional, PlainMany, none, more, IsFront}
use Rattle.lgc_grammar.specs.Reading.{Reader, next_is}
use Rattle.lgc_grammar.proofs.Readers.{Reads, Must, May, never, same_reads, goes_with}
use Rattle.lgc_grammar.proofs.Basic.{map_reads, nothing_reads}
use Rattle.lgc_grammar.proofs.Sequences.{then_reads, then_reads_if}
use Rattle.lgc_grammar.proofs.Choices.{either_reads, optional_reads}
use Rattle.lgc_grammar.proofs.RefusedTokens.{IsFirst, refused_reads}
use Rattle.lgc_grammar.proofs.GrowingTrees.{growing_reads}
use Rattle.lgc_syntax.specs.declared.formula.Term.{Term, Free, Apply}
use Rattle.lgc_tokens.specs.declared.class.Class.TheVariants.{Upper, OpenRound, CloseRound, Comma}
use Rattle.lgc_tokens.specs.declared.terminal.Terminal.TheVariants as terminal
use Rattle.lgc_tokens.specs.Spelled.{Spelled}
use Rattle.lgc_tokens.specs.Classes.{same, is_lower, is, is_word, starts_term}
use Rattle.lgc_tokens.proofs.Tables.{off, one, allowed, example, example_passes}
use Rattle.lgc_formulas.specs.Faults.{term_fault, depth_fault}
use Rattle.lgc_formulas.specs.TermGrammar.{Counted, with_term, variable, NextTerm, CommaTerm, SomeTerms, Terms, Application, Variable, TermPhrase, OneTerm}
use Rattle.lgc_formulas.specs.PlainTerms.{PlainTerm, PlainTerms, PlainMoreTerms, upper, lower, no_terms, some_terms, closed, another}
use Rattle.lgc_formulas.specs.TermReading.{next_term_at, comma_term_at, more_terms_at, some_terms_at, terms_at, application_at, variable_at, term_at, one_term_at}

-- ---- the plain language by the words of EBNF

abbrev pub PlainCommaTerm : Language Spelled
PlainCommaTerm = PlainThen (PlainOne (is Comma)) PlainTerm

abbrev pub MoreWords : Language Spelled
MoreWords = PlainThen (PlainMany PlainCommaTerm) (PlainThen (PlainOne (is CloseRound)) PlainNothing)

to_more : (ts v w : List Spelled) → PlainMany PlainCommaTerm v → PlainThen (PlainOne (is CloseRound)) PlainNothing w → ts ≡ v ++ w → PlainMoreTerms ts
to_more ts v w none (x, y, (t, (is, e)), n, s) split = rw (split, s, e, n) (closed t is)
to_more ts v w (more a b (x, y, (t, (is, e)), f, s) g) h split =
    let rest : PlainMoreTerms (b ++ w) = to_more (b ++ w) b w g h refl in
    rw (split, s, e, append_assoc (t ∷ y) b w) (another t y (b ++ w) is f rest)

from_more : (ts : List Spelled) → PlainMoreTerms ts → MoreWords ts
from_more ts (closed t is) = ([], t ∷ [], none, (t ∷ [], [], (t, (is, refl)), refl, refl), refl)
from_more ts (another t v w is f g) =
    let (x, y, many, end, split) = from_more w g in
    ((t ∷ v) ++ x, y, more (t ∷ v) x (t ∷ [], v, (t, (is, refl)), f, refl) many, end, ap (λ (u : List Spelled). t ∷ (v ++ u)) split ∙ sym (append_assoc (t ∷ v) x y))

abbrev pub SomeWords : Language Spelled
SomeWords = PlainThen (PlainOne (is OpenRound)) (PlainThen PlainTerm MoreWords)

abbrev pub TermsWords : Language Spelled
TermsWords = PlainOptional SomeWords

to_terms : (ts : List Spelled) → TermsWords ts → PlainTerms ts
to_terms ts (inr e) = rw e no_terms
to_terms ts (inl (x, y, (o, (is, e)), (v, w, f, (a, b, many, end, g), s), split)) = rw (split, e, s) (some_terms o v w is f (to_more w a b many end g))

pub from_terms : (ts : List Spelled) → PlainTerms ts → TermsWords ts
from_terms ts no_terms = inr refl
from_terms ts (some_terms o v w is f g) = inl (o ∷ [], v ++ w, (o, (is, refl)), (v, w, f, from_more w g, refl), refl)

abbrev TermWords : Language Spelled
TermWords = PlainEither (PlainOne (is Upper)) (PlainThen (PlainOne is_word) (PlainThen PlainTerms PlainNothing))

to_term : (ts : List Spelled) → TermWords ts → PlainTerm ts
to_term ts (inl (t, (is, e))) = rw e (upper t is)
to_term ts (inr (x, y, (t, (is, e)), (v, w, f, n, s), split)) = rw (split, e, s, n, append-nil v) (lower t v is f)

from_term : (ts : List Spelled) → PlainTerm ts → TermWords ts
from_term ts (upper t is) = inl (t, (is, refl))
from_term ts (lower t v is f) = inr (t ∷ [], v, (t, (is, refl)), (v, [], f, refl, sym (append-nil v)), refl)

-- ---- arguments, of one reader of terms

module _ {p : ℕ → Reader Spelled (Counted Term)} {L : ℕ → Grammar Spelled (Counted Term)} (reads : (many : ℕ) → Reads (p many) (L many) PlainTerm (Must starts_term) (is OpenRound)) where
  next_term_reads : (terms : Counted (List Term)) → Reads (next_term_at p terms) (NextTerm L terms) PlainTerm (Must starts_term) (is OpenRound)
  unfolding next_term_at
  next_term_reads terms = map_reads (with_term terms) (reads terms.1)

  pub comma_term_reads : (terms : Counted (List Term)) → Reads (comma_term_at p terms) (CommaTerm L terms) PlainCommaTerm (Must (is Comma)) (is OpenRound)
  unfolding comma_term_at
  comma_term_reads terms = then_reads (one Comma) (λ _. next_term_reads terms)

  more_terms_read : (terms : Counted (List Term)) → Reads (more_terms_at p terms) (Growing (CommaTerm L) terms) (PlainMany PlainCommaTerm) (May (is Comma)) (λ t. is Comma t || is OpenRound t)
  unfolding more_terms_at
  more_terms_read terms = growing_reads comma_term_reads (off (same Comma) (same OpenRound) refl) terms

  pub some_terms_read : (many : ℕ) → Reads (some_terms_at p many) (SomeTerms L many) SomeWords (Must (is OpenRound)) never
  unfolding some_terms_at
  some_terms_read many =
      then_reads (one OpenRound) (λ _.
      then_reads_if (next_term_reads ([], many)) (λ first.
      then_reads_if (more_terms_read first) (λ terms.
      then_reads (one CloseRound) (λ _.
      nothing_reads terms never))
      (off (same CloseRound) (λ c. same Comma c || same OpenRound c) refl))
      (off (λ c. same Comma c || same CloseRound c) (same OpenRound) refl))

  pub terms_read : (many : ℕ) → Reads (terms_at p many) (Terms L many) PlainTerms (May (is OpenRound)) (is OpenRound)
  unfolding terms_at
  terms_read many = same_reads (goes_with (optional_reads ([], many) (some_terms_read many)) (is OpenRound) (λ t h. rw h refl)) (λ r ts h. h) (λ r ts h. h) to_terms from_terms

  application_reads : (fault : Spelled → Option ℕ) (many : ℕ) → Reads (application_at p fault many) (Application L fault many) (PlainThen (PlainOne is_word) (PlainThen PlainTerms PlainNothing)) (Must is_word) (is OpenRound)
  unfolding application_at
  application_reads fault many =
      then_reads (allowed terminal.Word fault) (λ head.
      then_reads_if (terms_read many) (λ terms.
      nothing_reads (Apply head.text terms.0, terms.1) (is OpenRound))
      ((λ t h. absurd cc), (λ t h. h)))

pub variable_reads : (names : List (List ℕ)) (fault : Spelled → Option ℕ) (many : ℕ) → Reads (variable_at names fault many) (Variable names fault many) (PlainOne (is Upper)) (Must (is Upper)) never
unfolding variable_at
variable_reads names fault many = map_reads (λ head. (variable names head.text, many)) (allowed (terminal.Only Upper) fault)

-- ---- terms

-- the sides of a choice
pub or_is : (a b : Bool) → b ≡ true → (a || b) ≡ true
or_is true b e = refl
or_is false b e = e

pub is_or : (a b : Bool) → a ≡ true → (a || b) ≡ true
is_or true b e = refl
is_or false b e = absurd cc

pub term_first : IsFirst PlainTerm starts_term
term_first = record { each = each; each_token = each_token }
  where
    each : (ts : List Spelled) → PlainTerm ts → next_is starts_term ts ≡ true
    each ts (upper t is) = is_or _ _ is
    each ts (lower t v is f) = or_is _ _ is

    each_token : (t : Spelled) → starts_term t ≡ true → IsFront PlainTerm (t ∷ [])
    each_token t h = by (is Upper t) refl h
      where
        by : (b : Bool) → is Upper t ≡ b → (b || is_word t) ≡ true → IsFront PlainTerm (t ∷ [])
        by true e k = ([], upper t e)
        by false e k = ([], lower t [] k no_terms)

pub a_term : (v : List Spelled) × PlainTerm v
a_term = (example terminal.Word ∷ [], lower (example terminal.Word) [] (example_passes terminal.Word) no_terms)

pub term_reads : (limited : Bool) (names : List (List ℕ)) (deep many : ℕ) → Reads (term_at limited names deep many) (TermPhrase limited names deep many) PlainTerm (Must starts_term) (is OpenRound)
unfolding term_at
term_reads limited names zero many = refused_reads (Free [], 0) starts_term (depth_fault (term_fault limited names 0 many)) (is OpenRound) term_first a_term
term_reads limited names (suc deep) many =
    same_reads
    (goes_with (either_reads (variable_reads names (term_fault limited names (suc deep) many) (many - 1)) (application_reads (term_reads limited names deep) (term_fault limited names (suc deep) many) (many - 1)) (off is_lower (same Upper) refl)) (is OpenRound) (λ t h. h))
    (λ r ts h. h) (λ r ts h. h) to_term from_term

pub one_term_reads : (many : ℕ) → Reads (one_term_at many) (OneTerm many) PlainTerm (Must starts_term) (is OpenRound)
unfolding one_term_at
one_term_reads many = term_reads false [] 100 many
