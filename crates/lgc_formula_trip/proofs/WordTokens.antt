-- The tokens of bytes that the grammars take for a variable or for a Lower are words, and those that a logic knows have the role of their text.
use Rattle.std.proofs.Common.{◌≡◌, ◌+◌, ◌-◌, ℕ, Bool, true, false, cond, List, [], ◌∷◌, ◌++◌, Some, None, Ok, is_some, refl, ap, subst, ◌∙◌, ◌⊎◌, inl, inr, arith}
use Rattle.std.specs.Prelude.{◌==◌, ◌||◌, slice_range}
use Rattle.std.specs.List.{list_all, AllByRecursion}
use Rattle.std.specs.Char.{is_ascii_digit, is_ascii_lowercase, is_ascii_uppercase}
use Rattle.std.proofs.lemmas.Bool.{and_from}
use Rattle.std.proofs.lemmas.List.Sums.{list_all-from_AllPass}
use Rattle.lgc_lexer.specs.declared.token.Kind.{Kind}
use Rattle.lgc_lexer.specs.declared.token.Kind.TheVariants as kind
use Rattle.lgc_lexer.specs.declared.token.Token.{Token}
use Rattle.lgc_lexer.specs.Forms.{is_word, HasForm}
use Rattle.lgc_lexer.specs.Spans.{text_of, content_of}
use Rattle.lgc_lexer.specs.Cuts.{AreNext, HasOnlyGap}
use Rattle.lgc_lexer.specs.Tokens.{tokens_of}
use Rattle.lgc_lexer.proofs.CutLaws.{are_tokens_of}
use Rattle.lgc_values.specs.Logic.{Logic}
use Rattle.lgc_tokens.specs.declared.class.Class.{Class}
use Rattle.lgc_tokens.specs.declared.class.Class.TheVariants.{Upper, Zero, CaretZero, Number, LongNumber, Digits, Mixed}
use Rattle.lgc_tokens.specs.Numbers.{number_in, long_number_in}
use Rattle.lgc_tokens.specs.Spelled.{Spelled, spelled_all}
use Rattle.lgc_tokens.specs.Classes.{same, is_lower, begins_term, is, is_word as is_lower_token, class_in, class_of, class_of_number, class_of_numeral, class_of_digits, class_of_symbol, class_of_punct}
use Rattle.lgc_tokens.proofs.Tables.{off}
use Rattle.lgc_tokens.proofs.LowerWords.{word_is_lower}
use Rattle.lgc_print.specs.Text.{is_lower_word}
use Rattle.lgc_formulas.specs.Named.{Named, named_all, role_of}
use Rattle.lgc_formulas.specs.Writable.{is_upper_word}

-- ---- which kinds a term begins with

choose : (b : Bool) (c d : Class) → begins_term c ≡ false → begins_term d ≡ false → begins_term (cond b c d) ≡ false
choose true c d h g = h
choose false c d h g = g

number_begins_none : (n : ℕ) (caret : Bool) → begins_term (class_of_number n caret) ≡ false
number_begins_none n caret = choose (n == 0) (cond caret CaretZero Zero) Number (choose caret CaretZero Zero refl refl) refl

digits_begin_none : (text : List ℕ) (caret : Bool) → begins_term (class_of_digits text caret) ≡ false
digits_begin_none text caret = by (number_in text)
  where
    by : (n : _) → begins_term (class_of_numeral n text caret) ≡ false
    by (Some n) = number_begins_none n caret
    by None = choose (is_some (long_number_in text)) LongNumber _ refl (choose (list_all is_ascii_digit text) Digits Mixed refl refl)

symbol_begins_none : (text : List ℕ) → begins_term (class_of_symbol text) ≡ false
symbol_begins_none text = grind arith

punct_begins_none : (text : List ℕ) → begins_term (class_of_punct text) ≡ false
unfolding class_of_punct
punct_begins_none text = grind arith

word_kind : (k : Kind) (text : List ℕ) (caret : Bool) → begins_term (class_in k text caret) ≡ true → (k ≡ kind.Lower) ⊎ (k ≡ kind.Upper)
word_kind kind.Lower text caret h = inl refl
word_kind kind.Upper text caret h = inr refl
word_kind kind.Digits text caret h = let none = digits_begin_none text caret in absurd cc
word_kind kind.Quoted text caret h = absurd cc
word_kind kind.Text text caret h = absurd cc
word_kind kind.Symbol text caret h = let none = symbol_begins_none text in absurd cc
word_kind kind.Punct text caret h = let none = punct_begins_none text in absurd cc

or_right : (a b : Bool) → b ≡ true → (a || b) ≡ true
or_right true b e = refl
or_right false b e = e

upper_kind : (t : Spelled) → is Upper t ≡ true → t.token.kind ≡ kind.Upper
unfolding class_of
upper_kind t h = by (word_kind t.token.kind t.text t.before_caret (rw h refl))
  where
    by : (t.token.kind ≡ kind.Lower) ⊎ (t.token.kind ≡ kind.Upper) → t.token.kind ≡ kind.Upper
    by (inl lower) =
        let word : is_lower (class_of t) ≡ true = ap (λ (k : Kind). is_lower (class_in k t.text t.before_caret)) lower ∙ word_is_lower t.text in
        let other : is Upper t ≡ false = off is_lower (same Upper) refl t word in
        absurd cc
    by (inr upper) = upper

lower_kind : (t : Spelled) → is_lower_token t ≡ true → t.token.kind ≡ kind.Lower
unfolding class_of
lower_kind t h = by (word_kind t.token.kind t.text t.before_caret (or_right (is Upper t) (is_lower_token t) h))
  where
    by : (t.token.kind ≡ kind.Lower) ⊎ (t.token.kind ≡ kind.Upper) → t.token.kind ≡ kind.Lower
    by (inl lower) = lower
    by (inr upper) =
        let none : is_lower (class_of t) ≡ false = ap (λ (k : Kind). is_lower (class_in k t.text t.before_caret)) upper in
        absurd cc

-- ---- tokens of bytes

-- A token that the grammars take for a variable or a Lower is such a word.
pub record IsFormed (t : Spelled) : Type 0 where
  pub upper : is Upper t ≡ true → is_upper_word t.text ≡ true
  pub lower : is_lower_token t ≡ true → is_lower_word t.text ≡ true

module _ (bytes : List ℕ) where
  -- what has no quotes is all content
  whole_slice : (a b : ℕ) → slice_range bytes a b ≡ slice_range bytes (a + 0) (b - 0)
  whole_slice a b =
      let left : a ≡ a + 0 = omega arith in
      let right : b ≡ b - 0 = omega arith in
      ap (λ i. slice_range bytes i b) left ∙ ap (λ i. slice_range bytes (a + 0) i) right

  upper_form : (t : Token) → t.kind ≡ kind.Upper → HasForm t.kind (text_of bytes t) → is_upper_word (content_of bytes t) ≡ true
  upper_form t is form = rw is (subst (λ (x : List ℕ). is_upper_word x ≡ true) (whole_slice t.start t.end) (by (text_of bytes t) (subst (λ (k : Kind). HasForm k (text_of bytes t)) is form)))
    where
      by : (text : List ℕ) → HasForm kind.Upper text → is_upper_word text ≡ true
      by [] h = absurd h
      by (b ∷ rest) (first, more) = and_from (is_ascii_uppercase b || b == 95) (list_all is_word rest) first (list_all-from_AllPass is_word rest more)

  lower_form : (t : Token) → t.kind ≡ kind.Lower → HasForm t.kind (text_of bytes t) → is_lower_word (content_of bytes t) ≡ true
  lower_form t is form = rw is (subst (λ (x : List ℕ). is_lower_word x ≡ true) (whole_slice t.start t.end) (by (text_of bytes t) (subst (λ (k : Kind). HasForm k (text_of bytes t)) is form)))
    where
      by : (text : List ℕ) → HasForm kind.Lower text → is_lower_word text ≡ true
      by [] h = absurd h
      by (b ∷ rest) (first, more) = and_from (is_ascii_lowercase b) (list_all is_word rest) first (list_all-from_AllPass is_word rest more)

  formed_from : (from : ℕ) (ts : List Token) → AreNext bytes (HasOnlyGap bytes) from ts → AllByRecursion IsFormed (spelled_all bytes ts)
  formed_from from [] h = tt
  formed_from from (t ∷ ts) (next, others) = (record { upper = λ h. upper_form t (upper_kind _ h) next.form; lower = λ h. lower_form t (lower_kind _ h) next.form }, formed_from t.end ts others)

  pub tokens_formed : (ts : List Token) → tokens_of bytes ≡ Ok ts → AllByRecursion IsFormed (spelled_all bytes ts)
  tokens_formed ts e = formed_from 0 ts (are_tokens_of bytes ts e)

-- and has the role of its text
pub record IsFormedIn (logic : Logic) (t : Named) : Type 0 where
  pub formed : IsFormed t.spelled
  pub role : t.role ≡ role_of logic t.spelled.text

pub named_formed : (logic : Logic) (bytes : List ℕ) (ts : List Token) → AllByRecursion IsFormed (spelled_all bytes ts) → AllByRecursion (IsFormedIn logic) (named_all logic bytes ts)
named_formed logic bytes [] each = tt
named_formed logic bytes (t ∷ ts) (h, each) = (record { formed = h; role = refl }, named_formed logic bytes ts each)

-- ---- parts of the tokens

pub each_front : {T : Type 0} (P : T → Type 0) (v w : List T) → AllByRecursion P (v ++ w) → AllByRecursion P v
each_front P [] w each = tt
each_front P (t ∷ v) w (h, each) = (h, each_front P v w each)

pub each_behind : {T : Type 0} (P : T → Type 0) (v w : List T) → AllByRecursion P (v ++ w) → AllByRecursion P w
each_behind P [] w each = each
each_behind P (t ∷ v) w (h, each) = each_behind P v w each
