-- The tokens of names and signs: how each is cut, and which tests of the grammars it passes.
use Rattle.std.proofs.Common.{◌≡◌, ℕ, ◌^◌, ◌<◌, Bool, true, false, List, [], ◌∷◌, map, refl, ap, subst, ◌∙◌, arith}
use Rattle.std.specs.Prelude.{◌||◌, ◌==◌}
use Rattle.std.specs.List.{list_all}
use Rattle.std.specs.Char.{is_ascii_lowercase, is_ascii_uppercase}
use Rattle.std.proofs.lemmas.Bool.{and_parts, and_from}
use Rattle.std.proofs.lemmas.Bool.Decides.{nat_tests}
use Rattle.lgc_lexer.specs.declared.token.Kind.{Kind}
use Rattle.lgc_lexer.specs.declared.token.Kind.TheVariants as kind
use Rattle.lgc_lexer.specs.declared.token.Token.{Token}
use Rattle.lgc_lexer.specs.Forms.{is_word}
use Rattle.lgc_values.specs.Logic.{Logic, IsPlainName}
use Rattle.lgc_tokens.specs.declared.class.Class.{Class}
use Rattle.lgc_tokens.specs.declared.class.Class.TheVariants.{Upper, Quoted, OpenRound, CloseRound, Comma}
use Rattle.lgc_tokens.specs.Spelled.{Spelled, spelled_all}
use Rattle.lgc_tokens.specs.Classes.{same, is_lower, names, is, is_word as is_lower_token, class_in, class_of, class_of_punct}
use Rattle.lgc_tokens.proofs.LowerWords.{word_is_lower}
use Rattle.lgc_print.specs.Text.{is_lower_word, symbol_text, quoted}
use Rattle.lgc_print.specs.FormulaText.{binder}
use Rattle.lgc_formulas.specs.Named.{Named, named_all, role_of}
use Rattle.lgc_round_trip.proofs.Lexing.{words_in}
use Rattle.lgc_round_trip.proofs.Pieces.{kind_at}
use Rattle.lgc_round_trip.proofs.Decimals.{decimal_is_word}
use Rattle.lgc_round_trip.proofs.Printing.{lower_is_word}
use Rattle.lgc_formulas.specs.Writable.{is_upper_word}
use Rattle.lgc_formula_trip.proofs.Cuts.{Lexeme, lexeme, lexeme_of, sign, Anything, EndsWord, Cut, cut_weaker, cut_word, cut_quoted}
use Rattle.lgc_formula_trip.proofs.Written.{Are}

-- ---- which tokens are of a lexeme

abbrev pub SpelledAs : Spelled → Lexeme → Type 0
SpelledAs t l = (t.token.kind ≡ l.kind) × (t.text ≡ l.text)

-- and have the role of their text
abbrev pub NamedAs : Logic → Named → Lexeme → Type 0
NamedAs logic t l = SpelledAs t.spelled l × (t.role ≡ role_of logic l.text)

pub spelled_are : (bytes : List ℕ) (ts : List Token) → Are SpelledAs (spelled_all bytes ts) (map lexeme_of (words_in bytes ts))
spelled_are bytes [] = tt
spelled_are bytes (t ∷ ts) = ((refl, refl), spelled_are bytes ts)

pub named_are : (logic : Logic) (bytes : List ℕ) (ts : List Token) → Are (NamedAs logic) (named_all logic bytes ts) (map lexeme_of (words_in bytes ts))
named_are logic bytes [] = tt
named_are logic bytes (t ∷ ts) = (((refl, refl), refl), named_are logic bytes ts)

-- ---- classes

pub class_seen : (t : Spelled) (l : Lexeme) → SpelledAs t l → class_of t ≡ class_in l.kind l.text t.before_caret
unfolding class_of
class_seen t l (kind, text) = ap (λ (k : Kind). class_in k t.text t.before_caret) kind ∙ ap (λ (x : List ℕ). class_in l.kind x t.before_caret) text

-- a test that each token of a lexeme passes, by its class
pub by_class : (test : Class → Bool) (l : Lexeme) → ((flag : Bool) → test (class_in l.kind l.text flag) ≡ true) → (t : Spelled) → SpelledAs t l → test (class_of t) ≡ true
by_class test l passes t is = ap test (class_seen t l is) ∙ passes t.before_caret

pub is_open : (t : Spelled) → SpelledAs t (sign 40) → is OpenRound t ≡ true
unfolding class_of_punct
is_open t r = by_class (same OpenRound) (sign 40) (λ flag. refl) t r

pub is_close : (t : Spelled) → SpelledAs t (sign 41) → is CloseRound t ≡ true
unfolding class_of_punct
is_close t r = by_class (same CloseRound) (sign 41) (λ flag. refl) t r

pub is_comma : (t : Spelled) → SpelledAs t (sign 44) → is Comma t ≡ true
unfolding class_of_punct
is_comma t r = by_class (same Comma) (sign 44) (λ flag. refl) t r

pub is_upper : (x : List ℕ) (t : Spelled) → SpelledAs t (lexeme kind.Upper x) → is Upper t ≡ true
is_upper x t r = by_class (same Upper) (lexeme kind.Upper x) (λ flag. refl) t r

pub is_lower_name : (x : List ℕ) (t : Spelled) → SpelledAs t (lexeme kind.Lower x) → is_lower_token t ≡ true
is_lower_name x t r = by_class is_lower (lexeme kind.Lower x) (λ flag. word_is_lower x) t r

-- ---- words

not_lower : (b : ℕ) → (is_ascii_uppercase b || b == 95) ≡ true → is_ascii_lowercase b ≡ false
not_lower b h = grind (arith, nat_tests)

upper_is_word : (b : ℕ) → (is_ascii_uppercase b || b == 95) ≡ true → is_word b ≡ true
upper_is_word b h = grind (arith, nat_tests)

pub cut_upper : (x : List ℕ) → is_upper_word x ≡ true → Cut EndsWord x (lexeme kind.Upper x ∷ [])
cut_upper [] h = absurd cc
cut_upper (b ∷ x) h =
    let (first, others) = and_parts (is_ascii_uppercase b || b == 95) (list_all is_word x) h in
    let of_kind : kind_at b ≡ kind.Upper = rw (not_lower b first, first) refl in
    subst (λ (k : Kind). Cut EndsWord (b ∷ x) (lexeme k (b ∷ x) ∷ [])) of_kind (cut_word (b ∷ x) (λ e. absurd cc) (and_from (is_word b) (list_all is_word x) (upper_is_word b first) others))

pub cut_binder : (k : ℕ) → k < 2 ^ 64 → Cut EndsWord (binder k) (lexeme kind.Upper (binder k) ∷ [])
cut_binder k small = cut_word (binder k) (λ e. absurd cc) (decimal_is_word k small)

pub cut_lower : (x : List ℕ) → is_lower_word x ≡ true → Cut EndsWord x (lexeme kind.Lower x ∷ [])
cut_lower [] h = absurd cc
cut_lower (b ∷ x) h =
    let (first, others) = and_parts (is_ascii_lowercase b) (list_all is_word x) h in
    let of_kind : kind_at b ≡ kind.Lower = rw first refl in
    subst (λ (k : Kind). Cut EndsWord (b ∷ x) (lexeme k (b ∷ x) ∷ [])) of_kind (cut_word (b ∷ x) (λ e. absurd cc) (lower_is_word (b ∷ x) h))

-- ---- the names of operators and quantifiers

-- one token, which says the name
pub record IsSymbol (name : List ℕ) : Type 0 where
  pub lexeme : Lexeme
  pub cut : Cut EndsWord (symbol_text name) (lexeme ∷ [])
  pub says : lexeme.text ≡ name
  pub passes : (t : Spelled) → SpelledAs t lexeme → names (class_of t) ≡ true

pub symbol : (name : List ℕ) → IsPlainName name → IsSymbol name
symbol name named = by (is_lower_word name) refl
  where
    or_left : (u v : Bool) → u ≡ true → (u || v) ≡ true
    or_left u v e = rw e refl

    by : (v : Bool) → is_lower_word name ≡ v → IsSymbol name
    by true e = record {
      lexeme = lexeme kind.Lower name;
      cut = rw e (cut_lower name e);
      says = refl;
      passes = λ t r. or_left (is_lower (class_of t)) (same Quoted (class_of t)) (is_lower_name name t r);
    }
    by false e = record {
      lexeme = lexeme kind.Quoted name;
      cut = rw e (cut_weaker Anything EndsWord (quoted name) (lexeme kind.Quoted name ∷ []) (λ rest f. tt) (cut_quoted name named));
      says = refl;
      passes = by_class names (lexeme kind.Quoted name) (λ flag. refl);
    }
