-- The words and signs of queries, with blanks around them: how each is cut, and which test its token passes.
use Rattle.std.proofs.Common.{◌≡◌, ℕ, true, List, [], ◌∷◌, ◌++◌, refl, sym, subst, append_assoc}
use Rattle.std.specs.Prelude.{codes}
use Rattle.lgc_lexer.specs.declared.token.Kind.TheVariants.{Lower, Symbol}
use Rattle.lgc_lexer.specs.Tokens.{piece_of}
use Rattle.lgc_tokens.specs.declared.class.Class.TheVariants.{EntailWord, MixedWord, EquationWord, QuasiWord, Turnstile, Equals, OpenBrace, CloseBrace, Dot, Colon}
use Rattle.lgc_tokens.specs.Spelled.{Spelled}
use Rattle.lgc_tokens.specs.Classes.{same, is, class_of_word, class_of_punct}
use Rattle.lgc_round_trip.proofs.Lexing.{Word, begins_with, Lexes, IsTaken, lex_token}
use Rattle.lgc_round_trip.proofs.Pieces.{lex_space, lex_line_feed, open_brace_taken, close_brace_taken, colon_taken, dot_taken}
use Rattle.lgc_formula_trip.proofs.Cuts.{Lexeme, lexeme, sign, Anything, EndsWord, Cut, cut_sign, cut_comma}
use Rattle.lgc_formula_trip.proofs.Tokens.{SpelledAs, by_class, cut_lower}

-- ---- blanks

pub cut_before_blank : (F : List ℕ → Type 0) (x : List ℕ) (lexemes : List Lexeme) → ((rest : List ℕ) → F (32 ∷ rest)) → Cut F x lexemes → Cut Anything (x ++ 32 ∷ []) lexemes
cut_before_blank F x lexemes follows p = record {
  cuts = λ rest more f l.
      let begins = p.cuts (32 ∷ rest) more (follows rest) (lex_space rest more l) in
      record { words = begins.words; seen = begins.seen; lexes = subst (λ t. Lexes t (begins.words ++ more)) (sym (append_assoc x (32 ∷ []) rest)) begins.lexes };
}

pub cut_behind_blank : (F : List ℕ → Type 0) (x : List ℕ) (lexemes : List Lexeme) → Cut F x lexemes → Cut F (32 ∷ x) lexemes
cut_behind_blank F x lexemes p = record {
  cuts = λ rest more f l. let begins = p.cuts rest more f l in record { words = begins.words; seen = begins.seen; lexes = lex_space (x ++ rest) (begins.words ++ more) begins.lexes };
}

-- ---- words, with a blank behind them

pub cut_entail : Cut Anything (codes "entail ") (lexeme Lower (codes "entail") ∷ [])
cut_entail = cut_before_blank EndsWord (codes "entail") (lexeme Lower (codes "entail") ∷ []) (λ rest. refl) (cut_lower (codes "entail") refl)

pub cut_mixed : Cut Anything (codes "mixed ") (lexeme Lower (codes "mixed") ∷ [])
cut_mixed = cut_before_blank EndsWord (codes "mixed") (lexeme Lower (codes "mixed") ∷ []) (λ rest. refl) (cut_lower (codes "mixed") refl)

pub cut_equation : Cut Anything (codes "equation ") (lexeme Lower (codes "equation") ∷ [])
cut_equation = cut_before_blank EndsWord (codes "equation") (lexeme Lower (codes "equation") ∷ []) (λ rest. refl) (cut_lower (codes "equation") refl)

pub cut_quasi : Cut Anything (codes "quasi ") (lexeme Lower (codes "quasi") ∷ [])
cut_quasi = cut_before_blank EndsWord (codes "quasi") (lexeme Lower (codes "quasi") ∷ []) (λ rest. refl) (cut_lower (codes "quasi") refl)

pub is_entail : (t : Spelled) → SpelledAs t (lexeme Lower (codes "entail")) → is EntailWord t ≡ true
unfolding class_of_word
is_entail t r = by_class (same EntailWord) (lexeme Lower (codes "entail")) (λ flag. refl) t r

pub is_mixed : (t : Spelled) → SpelledAs t (lexeme Lower (codes "mixed")) → is MixedWord t ≡ true
unfolding class_of_word
is_mixed t r = by_class (same MixedWord) (lexeme Lower (codes "mixed")) (λ flag. refl) t r

pub is_equation : (t : Spelled) → SpelledAs t (lexeme Lower (codes "equation")) → is EquationWord t ≡ true
unfolding class_of_word
is_equation t r = by_class (same EquationWord) (lexeme Lower (codes "equation")) (λ flag. refl) t r

pub is_quasi : (t : Spelled) → SpelledAs t (lexeme Lower (codes "quasi")) → is QuasiWord t ≡ true
unfolding class_of_word
is_quasi t r = by_class (same QuasiWord) (lexeme Lower (codes "quasi")) (λ flag. refl) t r

-- ---- symbols, with a blank behind them

turnstile_taken : (rest : List ℕ) → IsTaken 124 (45 ∷ 32 ∷ rest) Symbol 1
unfolding piece_of
turnstile_taken rest = record { gives = λ at after. refl }

equals_taken : (rest : List ℕ) → IsTaken 61 (32 ∷ rest) Symbol 0
unfolding piece_of
equals_taken rest = record { gives = λ at after. refl }

abbrev symbol_word : List ℕ → List Word → Word
symbol_word text more = record { kind = Symbol; text = text; before_caret = begins_with more }

pub cut_turnstile : Cut Anything (codes "|- ") (lexeme Symbol (codes "|-") ∷ [])
cut_turnstile = record {
  cuts = λ rest more f l. record {
    words = symbol_word (codes "|-") more ∷ [];
    seen = refl;
    lexes = lex_token Symbol 124 (45 ∷ []) (codes "|-") (32 ∷ rest) more (begins_with more) (turnstile_taken rest) (record { opening = []; closing = []; split = refl; left = refl; right = refl }) refl (lex_space rest more l);
  };
}

pub cut_spaced_turnstile : Cut Anything (codes " |- ") (lexeme Symbol (codes "|-") ∷ [])
cut_spaced_turnstile = cut_behind_blank Anything (codes "|- ") (lexeme Symbol (codes "|-") ∷ []) cut_turnstile

cut_bare_equals : Cut Anything (codes "= ") (lexeme Symbol (codes "=") ∷ [])
cut_bare_equals = record {
  cuts = λ rest more f l. record {
    words = symbol_word (codes "=") more ∷ [];
    seen = refl;
    lexes = lex_token Symbol 61 [] (codes "=") (32 ∷ rest) more (begins_with more) (equals_taken rest) (record { opening = []; closing = []; split = refl; left = refl; right = refl }) refl (lex_space rest more l);
  };
}

pub cut_equals : Cut Anything (codes " = ") (lexeme Symbol (codes "=") ∷ [])
cut_equals = cut_behind_blank Anything (codes "= ") (lexeme Symbol (codes "=") ∷ []) cut_bare_equals

pub is_turnstile : (t : Spelled) → SpelledAs t (lexeme Symbol (codes "|-")) → is Turnstile t ≡ true
is_turnstile t r = by_class (same Turnstile) (lexeme Symbol (codes "|-")) (λ flag. refl) t r

pub is_equals : (t : Spelled) → SpelledAs t (lexeme Symbol (codes "=")) → is Equals t ≡ true
is_equals t r = by_class (same Equals) (lexeme Symbol (codes "=")) (λ flag. refl) t r

-- ---- other signs

pub cut_open_brace : Cut Anything (codes "{") (sign 123 ∷ [])
cut_open_brace = cut_sign 123 open_brace_taken

pub cut_close_brace : Cut Anything (codes "}") (sign 125 ∷ [])
cut_close_brace = cut_sign 125 close_brace_taken

pub cut_spaced_comma : Cut Anything (codes ", ") (sign 44 ∷ [])
cut_spaced_comma = cut_before_blank Anything (codes ",") (sign 44 ∷ []) (λ rest. tt) cut_comma

pub cut_spaced_colon : Cut Anything (codes ": ") (sign 58 ∷ [])
cut_spaced_colon = cut_before_blank Anything (codes ":") (sign 58 ∷ []) (λ rest. tt) (cut_sign 58 colon_taken)

pub cut_ending_dot : Cut Anything (codes ".\n") (sign 46 ∷ [])
cut_ending_dot = record { cuts = λ rest more f l. (cut_sign 46 dot_taken).cuts (10 ∷ rest) more tt (lex_line_feed rest more l) }

pub is_open_brace : (t : Spelled) → SpelledAs t (sign 123) → is OpenBrace t ≡ true
unfolding class_of_punct
is_open_brace t r = by_class (same OpenBrace) (sign 123) (λ flag. refl) t r

pub is_close_brace : (t : Spelled) → SpelledAs t (sign 125) → is CloseBrace t ≡ true
unfolding class_of_punct
is_close_brace t r = by_class (same CloseBrace) (sign 125) (λ flag. refl) t r

pub is_colon : (t : Spelled) → SpelledAs t (sign 58) → is Colon t ≡ true
unfolding class_of_punct
is_colon t r = by_class (same Colon) (sign 58) (λ flag. refl) t r

pub is_dot : (t : Spelled) → SpelledAs t (sign 46) → is Dot t ≡ true
unfolding class_of_punct
is_dot t r = by_class (same Dot) (sign 46) (λ flag. refl) t r
