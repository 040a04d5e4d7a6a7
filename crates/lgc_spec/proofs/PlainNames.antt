-- The names that a specification declares are plain, since their tokens have the forms of values and names.
use Rattle.std.proofs.Common.{◌≡◌, ◌≢◌, ℕ, suc, ◌+◌, ◌-◌, ◌≤◌, Bool, true, false, List, [], ◌∷◌, ◌++◌, length, take, drop, All, Ok, refl, sym, ap, subst, ◌∙◌, arith, append_assoc, length-drop}
use Rattle.std.specs.Prelude.{◌==◌, ◌||◌, codes, slice_range}
use Rattle.std.specs.List.{list_all}
use Rattle.std.specs.Char.{is_ascii_digit, is_ascii_lowercase, is_ascii_uppercase}
use Rattle.std.proofs.lemmas.Bool.{eqb-true, and_parts}
use Rattle.std.proofs.lemmas.Bool.Decides.{nat_tests}
use Rattle.std.proofs.lemmas.List.{take_at, drop-drop, length_push, length-take-le}
use Rattle.std.proofs.lemmas.List.Elements.{All-cons, All-weaker}
use Rattle.std.proofs.lemmas.List.Folds.{drop_split}
use Rattle.lgc_values.specs.declared.TheConstants.{QUOTE}
use Rattle.lgc_values.specs.Logic.{IsPlainName}
use Rattle.lgc_lexer.specs.declared.token.Kind.{Kind}
use Rattle.lgc_lexer.specs.declared.token.Kind.TheVariants.{Lower, Upper, Digits, Quoted, Text, Symbol, Punct}
use Rattle.lgc_lexer.specs.declared.token.Token.{Token}
use Rattle.lgc_lexer.specs.Forms.{is_one_of, is_word, is_symbol, is_quotable, IsRun, HasForm}
use Rattle.lgc_lexer.specs.Spans as span
use Rattle.lgc_lexer.specs.Spans.{quote_len, content_of, LiesIn}
use Rattle.lgc_lexer.specs.Cuts.{AreNext, HasOnlyGap}
use Rattle.lgc_lexer.proofs.CutLaws.{are_tokens_of}
use Rattle.lgc_parser.specs.declared.tree.Word.{Word}
use Rattle.lgc_parser.specs.declared.tree.Statement.{Statement}
use Rattle.lgc_parser.specs.declared.tree.Statement.TheVariants as statement
use Rattle.lgc_tokens.specs.Spelled.{spelled}
use Rattle.lgc_tokens.specs.Classes.{is_name_or_symbol, is_value}
use Rattle.lgc_parser.specs.TreeWords.{IsWordWhere, StatementDeclares}
use Rattle.lgc_parser.proofs.ValueKinds.{name_is_value, value_kind}
use Rattle.lgc_spec.specs.Words.{SaysPlainName}
use Rattle.lgc_spec.specs.Texts.{tokens_given}
use Rattle.lgc_spec.proofs.OrderPlaces.{given_tokens}

-- ---- bytes

abbrev IsPlainByte : ℕ → Type 0
IsPlainByte b = (32 ≤ b) × (b ≤ 126) × (b ≢ QUOTE)

quotable_plain : (b : ℕ) → is_quotable b ≡ true → IsPlainByte b
quotable_plain b e = (grind (arith, nat_tests), grind (arith, nat_tests), grind (arith, nat_tests))

word_plain : (b : ℕ) → is_word b ≡ true → IsPlainByte b
word_plain b e = (grind (arith, nat_tests), grind (arith, nat_tests), grind (arith, nat_tests))

lower_plain : (b : ℕ) → is_ascii_lowercase b ≡ true → IsPlainByte b
lower_plain b e = (grind (arith, nat_tests), grind (arith, nat_tests), grind (arith, nat_tests))

upper_plain : (b : ℕ) → (is_ascii_uppercase b || b == 95) ≡ true → IsPlainByte b
upper_plain b e = (grind (arith, nat_tests), grind (arith, nat_tests), grind (arith, nat_tests))

digit_plain : (b : ℕ) → is_ascii_digit b ≡ true → IsPlainByte b
digit_plain b e = (grind (arith, nat_tests), grind (arith, nat_tests), grind (arith, nat_tests))

one_quotable : (bytes : List ℕ) (b : ℕ) → list_all is_quotable bytes ≡ true → is_one_of bytes b ≡ true → is_quotable b ≡ true
one_quotable [] b all e = absurd cc
one_quotable (c ∷ bytes) b all e =
    let (here, rest) = and_parts (is_quotable c) (list_all is_quotable bytes) all in
    by (b == c) refl e (λ f. one_quotable bytes b rest f) here where
      by : (v : Bool) → b == c ≡ v → (v || is_one_of bytes b) ≡ true → (is_one_of bytes b ≡ true → is_quotable b ≡ true) → is_quotable c ≡ true → is_quotable b ≡ true
      by true same f behind here = subst (λ (d : ℕ). is_quotable d ≡ true) (sym (eqb-true b c same)) here
      by false other f behind here = behind f

symbol_plain : (b : ℕ) → is_symbol b ≡ true → IsPlainByte b
symbol_plain b e = quotable_plain b (one_quotable (codes "*+-#&@~^?!$<=>|\\") b refl e)

-- ---- texts

run_plain : (first more : ℕ → Bool) (text : List ℕ) → ((b : ℕ) → first b ≡ true → IsPlainByte b) → ((b : ℕ) → more b ≡ true → IsPlainByte b) → IsRun first more text → IsPlainName text
run_plain first more [] f m h = absurd h
run_plain first more (b ∷ rest) f m h = record { nonempty = λ e. cc; printable = All-cons IsPlainByte b rest (f b h.0) (All-weaker (λ x. more x ≡ true) IsPlainByte m rest h.1) }

-- what stands between the first byte of a slice and its last one
inside_is : (bytes inside : List ℕ) (start end q r : ℕ) → start ≤ end → end ≤ length bytes → slice_range bytes start end ≡ q ∷ inside ++ r ∷ [] → slice_range bytes (start + 1) (end - 1) ≡ inside
inside_is bytes inside start end q r le within is =
    let left : length (drop start bytes) ≡ length bytes - start = length-drop start bytes in
    let taken : length (slice_range bytes start end) ≡ end - start = length-take-le (end - start) (drop start bytes) (omega arith) in
    let long : length (q ∷ inside ++ r ∷ []) ≡ suc (length inside + 1) = ap suc (length_push inside r) in
    let size : end - 1 - (start + 1) ≡ length inside = omega (arith, taken, ap length is, long) in
    let all : drop start bytes ≡ q ∷ inside ++ r ∷ drop end bytes = drop_split bytes start end le ∙ ap (λ t. t ++ drop end bytes) is ∙ ap (λ t. q ∷ t) (append_assoc inside (r ∷ []) (drop end bytes)) in
    let behind : drop (start + 1) bytes ≡ inside ++ r ∷ drop end bytes = sym (drop-drop 1 start bytes) ∙ ap (drop 1) all in
    ap (λ n. take n (drop (start + 1) bytes)) size ∙ ap (take (length inside)) behind ∙ take_at inside (r ∷ drop end bytes) (length inside) refl

-- ---- tokens

-- the content of a token that is no Text and no Punct is a plain name
content_plain : (bytes : List ℕ) (kind : Kind) (start end : ℕ) → kind ≢ Text → kind ≢ Punct → start ≤ end → end ≤ length bytes → HasForm kind (slice_range bytes start end) → IsPlainName (slice_range bytes (start + quote_len kind) (end - quote_len kind))
content_plain bytes kind start end no_text no_punct le within = by kind no_text no_punct where
  unquoted : IsPlainName (slice_range bytes start end) → IsPlainName (slice_range bytes (start + 0) (end - 0))
  unquoted h = let e : start + 0 ≡ start = omega arith in let f : end - 0 ≡ end = omega arith in rw (e, f) h

  by : (kind : Kind) → kind ≢ Text → kind ≢ Punct → HasForm kind (slice_range bytes start end) → IsPlainName (slice_range bytes (start + quote_len kind) (end - quote_len kind))
  by Lower e f h = unquoted (run_plain is_ascii_lowercase is_word _ lower_plain word_plain h)
  by Upper e f h = unquoted (run_plain (λ b. is_ascii_uppercase b || b == 95) is_word _ upper_plain word_plain h)
  by Digits e f h = unquoted (run_plain is_ascii_digit is_word _ digit_plain word_plain h)
  by Symbol e f h = unquoted (run_plain is_symbol is_symbol _ symbol_plain symbol_plain h)
  by Quoted e f (inside, is, some, pass) = rw (inside_is bytes inside start end QUOTE QUOTE le within is) (record { nonempty = some; printable = All-weaker (λ b. is_quotable b ≡ true) IsPlainByte quotable_plain inside pass })
  by Text e f h = absurd (e refl)
  by Punct e f h = absurd (f refl)

-- a token among those of the bytes has the form of its kind
formed : (bytes : List ℕ) (ends : ℕ → Type 0) (from : ℕ) (before : List Token) (t : Token) (behind : List Token) → AreNext bytes ends from (before ++ t ∷ behind) → HasForm t.kind (span.text_of bytes t) × LiesIn (length bytes) t
formed bytes ends from [] t behind h = (h.0.form, h.0.inside)
formed bytes ends from (u ∷ before) t behind h = formed bytes ends u.end before t behind h.1

module _ (bytes : List ℕ) (tokens : List Token) (given : tokens_given 0 bytes ≡ Ok tokens) where
  value_plain : (w : Word) → IsWordWhere bytes tokens is_value w → SaysPlainName bytes w
  value_plain w h =
      let t : Token = h.word.token in
      let law = formed bytes (HasOnlyGap bytes) 0 h.word.before t h.word.behind (subst (λ ts. AreNext bytes (HasOnlyGap bytes) 0 ts) h.word.among (are_tokens_of bytes tokens (given_tokens 0 bytes tokens given))) in
      let kind = value_kind (spelled bytes t h.word.behind) h.passes in
      rw h.word.says (content_plain bytes t.kind t.start t.end kind.0 kind.1 (omega (arith, law.1.0)) law.1.1 law.0)

  name_plain : (w : Word) → IsWordWhere bytes tokens is_name_or_symbol w → SaysPlainName bytes w
  name_plain w h = value_plain w (record { word = h.word; passes = name_is_value (spelled bytes h.word.token h.word.behind) h.passes })

  declares_plain : (s : Statement) → StatementDeclares (IsWordWhere bytes tokens is_value) (IsWordWhere bytes tokens is_name_or_symbol) s → StatementDeclares (SaysPlainName bytes) (SaysPlainName bytes) s
  declares_plain (statement.Values at words) h = All-weaker (IsWordWhere bytes tokens is_value) (SaysPlainName bytes) value_plain words h
  declares_plain (statement.Operator name arity body) h = name_plain name h
  declares_plain (statement.Quantifier name body) h = name_plain name h
  declares_plain s h = tt

  pub names_plain : (statements : List Statement) → All (StatementDeclares (IsWordWhere bytes tokens is_value) (IsWordWhere bytes tokens is_name_or_symbol)) statements → All (StatementDeclares (SaysPlainName bytes) (SaysPlainName bytes)) statements
  names_plain statements all = All-weaker _ (StatementDeclares (SaysPlainName bytes) (SaysPlainName bytes)) declares_plain statements all
