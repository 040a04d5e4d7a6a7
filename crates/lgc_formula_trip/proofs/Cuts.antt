-- How texts are cut into lexemes, whatever stands before them, where what is behind them lets them end.
use Rattle.std.proofs.Common.{◌≡◌, ◌≢◌, ℕ, true, List, [], ◌∷◌, ◌++◌, refl, sym, ap₂, subst, ◌∙◌, append_assoc}
use Rattle.std.specs.Prelude.{map}
use Rattle.std.specs.List.{list_all}
use Rattle.std.proofs.lemmas.List.{map-append}
use Rattle.lgc_lexer.specs.declared.token.Kind.{Kind}
use Rattle.lgc_lexer.specs.declared.token.Kind.TheVariants.{Quoted, Punct}
use Rattle.lgc_lexer.specs.Forms.{is_word}
use Rattle.lgc_values.specs.Logic.{IsPlainName}
use Rattle.lgc_print.specs.Text.{quoted}
use Rattle.lgc_round_trip.proofs.Lexing.{Word, begins_with, Lexes, IsTaken}
use Rattle.lgc_round_trip.proofs.Pieces.{FailsFirst, kind_of, plain, lex_word, lex_quoted, lex_sign, open_round_taken, close_round_taken, comma_taken}

-- what the grammars of terms and formulas see of a token
pub record Lexeme : Type 0 where
  pub kind : Kind
  pub text : List ℕ

abbrev pub lexeme : Kind → List ℕ → Lexeme
lexeme kind text = record { kind = kind; text = text }

abbrev pub lexeme_of : Word → Lexeme
lexeme_of w = lexeme w.kind w.text

-- a sign of one byte
abbrev pub sign : ℕ → Lexeme
sign b = lexeme Punct (b ∷ [])

-- ---- what is behind a text

-- anything
abbrev pub Anything : List ℕ → Type 0
Anything rest = Unit {0}

-- nothing that goes on a word
abbrev pub EndsWord : List ℕ → Type 0
EndsWord rest = FailsFirst is_word rest

-- ---- cuts

-- the text has tokens of these lexemes, and then those of these words
pub record Begins (text : List ℕ) (lexemes : List Lexeme) (more : List Word) : Type 0 where
  pub words : List Word
  pub seen : map lexeme_of words ≡ lexemes
  pub lexes : Lexes text (words ++ more)

-- Where what is behind the text is as F asks for, the text is cut into these lexemes.
pub record Cut (F : List ℕ → Type 0) (text : List ℕ) (lexemes : List Lexeme) : Type 0 where
  pub cuts : (rest : List ℕ) (more : List Word) → F rest → Lexes rest more → Begins (text ++ rest) lexemes more

pub cut_nothing : (F : List ℕ → Type 0) → Cut F [] []
cut_nothing F = record { cuts = λ rest more f l. record { words = []; seen = refl; lexes = l } }

pub cut_then : (F G : List ℕ → Type 0) (a b : List ℕ) (u v : List Lexeme) → ((rest : List ℕ) → G rest → F (b ++ rest)) → Cut F a u → Cut G b v → Cut G (a ++ b) (u ++ v)
cut_then F G a b u v follows p q = record { cuts = here }
  where
    here : (rest : List ℕ) (more : List Word) → G rest → Lexes rest more → Begins ((a ++ b) ++ rest) (u ++ v) more
    here rest more g l =
        let second = q.cuts rest more g l in
        let first = p.cuts (b ++ rest) (second.words ++ more) (follows rest g) second.lexes in
        record {
          words = first.words ++ second.words;
          seen = map-append lexeme_of first.words second.words ∙ ap₂ (λ (x y : List Lexeme). x ++ y) first.seen second.seen;
          lexes =
              subst (λ t. Lexes t ((first.words ++ second.words) ++ more)) (sym (append_assoc a b rest))
              (subst (λ ws. Lexes (a ++ (b ++ rest)) ws) (sym (append_assoc first.words second.words more)) first.lexes);
        }

pub cut_weaker : (F G : List ℕ → Type 0) (a : List ℕ) (u : List Lexeme) → ((rest : List ℕ) → G rest → F rest) → Cut F a u → Cut G a u
cut_weaker F G a u weaker p = record { cuts = λ rest more g l. p.cuts rest more (weaker rest g) l }

-- ---- single tokens

pub cut_word : (name : List ℕ) → name ≢ [] → list_all is_word name ≡ true → Cut EndsWord name (lexeme (kind_of name) name ∷ [])
cut_word name some all = record { cuts = λ rest more f l. record { words = plain name (begins_with more) ∷ []; seen = refl; lexes = lex_word name rest more (begins_with more) some all f refl l } }

pub cut_quoted : (name : List ℕ) → IsPlainName name → Cut Anything (quoted name) (lexeme Quoted name ∷ [])
cut_quoted name named = record { cuts = λ rest more f l. record { words = record { kind = Quoted; text = name; before_caret = begins_with more } ∷ []; seen = refl; lexes = lex_quoted name rest more (begins_with more) named refl l } }

pub cut_sign : (b : ℕ) → ((rest : List ℕ) → IsTaken b rest Punct 0) → Cut Anything (b ∷ []) (sign b ∷ [])
cut_sign b taken = record { cuts = λ rest more f l. record { words = record { kind = Punct; text = b ∷ []; before_caret = begins_with more } ∷ []; seen = refl; lexes = lex_sign b rest more (begins_with more) (taken rest) refl l } }

pub cut_open : Cut Anything (40 ∷ []) (sign 40 ∷ [])
cut_open = cut_sign 40 open_round_taken

pub cut_close : Cut Anything (41 ∷ []) (sign 41 ∷ [])
cut_close = cut_sign 41 close_round_taken

pub cut_comma : Cut Anything (44 ∷ []) (sign 44 ∷ [])
cut_comma = cut_sign 44 comma_taken
