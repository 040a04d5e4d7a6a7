-- The text of a set of truth values is written for it: the grammar of sets derives the set from tokens of the text.
use Rattle.std.proofs.Common.{◌≡◌, ℕ, zero, suc, ◌+◌, ◌<◌, Bool, true, false, cond, List, [], ◌∷◌, ◌++◌, length, map, Option, Some, None, refl, sym, ap, subst, ◌∙◌, append-nil, append_assoc, arith}
use Rattle.std.specs.Prelude.{codes, filter, ◌&&◌, ◌||◌, ◌==◌}
use Rattle.std.specs.List.{flat_map, list_all, range_with_len}
use Rattle.std.proofs.lemmas.Bool.{lt-ltb}
use Rattle.std.proofs.lemmas.Bool.Decides.{nat_tests}
use Rattle.std.proofs.lemmas.List.Folds.{list_any-append}
use Rattle.lgc_grammar.specs.Grammar.{Grammar, One, Allowed, fault_if, Nothing, Then, Optional, Growing}
use Rattle.lgc_lexer.specs.declared.token.Kind.{Kind}
use Rattle.lgc_lexer.specs.declared.token.Kind.TheVariants as kind
use Rattle.lgc_lexer.specs.Forms.{is_word}
use Rattle.lgc_values.specs.Values.{values_where, has}
use Rattle.lgc_values.specs.Logic.{Logic, IsLogic, IsPlainName}
use Rattle.lgc_values.proofs.ValueLaws.{has-values_where, values_where-alike}
use Rattle.lgc_syntax.specs.declared.fault.TheConstants.{UNKNOWN_VALUE}
use Rattle.lgc_tokens.specs.declared.class.Class.TheVariants.{Zero, CaretZero, Number, OpenBrace, CloseBrace, Comma}
use Rattle.lgc_tokens.specs.Numbers.{number_in}
use Rattle.lgc_tokens.specs.Spelled.{Spelled}
use Rattle.lgc_tokens.specs.Classes.{is as is_of, values, is_value, class_of, class_in, class_of_numeral}
use Rattle.lgc_print.specs.Text.{joined, value_text, quoted, set_text}
use Rattle.lgc_queries.specs.Values.{value_of, names_no_value, with_value}
use Rattle.lgc_queries.specs.QueryGrammar.{Value, AddedValue, NextValue, SomeValues, ValueSet}
use Rattle.lgc_round_trip.specs.RoundTrip.{IsSet}
use Rattle.lgc_round_trip.proofs.Pieces.{plain, in_quotes}
use Rattle.lgc_round_trip.proofs.Printing.{value_word}
use Rattle.lgc_round_trip.proofs.Texts.{AreBelow, name_of}
use Rattle.lgc_round_trip.proofs.Classes.{value_passes}
use Rattle.lgc_round_trip.proofs.Lookups.{value_told}
use Rattle.lgc_round_trip.proofs.SetPhrases.{set_below}
use Rattle.lgc_formula_trip.proofs.Cuts.{Lexeme, lexeme_of, sign, Anything, EndsWord, Cut, cut_weaker, cut_word, cut_quoted, cut_comma}
use Rattle.lgc_formula_trip.proofs.Written.{Written, written_then, written_behind, written_one, written_nothing, written_mapped, written_left, written_right, written_ended, written_grown, written_tree}
use Rattle.lgc_formula_trip.proofs.Tokens.{SpelledAs, is_comma}
use Rattle.lgc_query_trip.proofs.Signs.{cut_open_brace, cut_close_brace, is_open_brace, is_close_brace}

-- ---- the names of values

abbrev value_lexeme : List ℕ → Lexeme
value_lexeme name = lexeme_of (value_word name)

cut_value : (name : List ℕ) → IsPlainName name → Cut EndsWord (value_text name) (value_lexeme name ∷ [])
cut_value name named = by (list_all is_word name) refl
  where
    by : (b : Bool) → list_all is_word name ≡ b → Cut EndsWord (cond b name (quoted name)) (lexeme_of (cond b (plain name false) (in_quotes name)) ∷ [])
    by true e = cut_word name named.nonempty e
    by false e = cut_weaker Anything EndsWord (quoted name) (lexeme_of (in_quotes name) ∷ []) (λ rest f. tt) (cut_quoted name named)

-- whether a caret is behind it makes no difference
with_caret : (k : Kind) (text : List ℕ) (flag : Bool) → values (class_in k text flag) ≡ values (class_in k text false)
with_caret kind.Digits text flag = by (number_in text)
  where
    zero_or_other : (zero flag : Bool) → values (cond zero (cond flag CaretZero Zero) Number) ≡ values (cond zero Zero Number)
    zero_or_other true true = refl
    zero_or_other true false = refl
    zero_or_other false flag = refl

    by : (found : Option ℕ) → values (class_of_numeral found text flag) ≡ values (class_of_numeral found text false)
    by (Some n) = zero_or_other (n == 0) flag
    by None = refl
with_caret k text flag = refl

value_seen : (t : Spelled) → is_value t ≡ values (class_in t.token.kind t.text t.before_caret)
unfolding class_of
value_seen t = refl

is_value_name : (name : List ℕ) (t : Spelled) → SpelledAs t (value_lexeme name) → is_value t ≡ true
is_value_name name t r =
    let plain_one : Spelled = record { token = t.token; text = t.text; before_caret = false } in
    value_seen t ∙ with_caret t.token.kind t.text t.before_caret ∙ sym (value_seen plain_one) ∙ value_passes name plain_one (same (list_all is_word name) t.token.kind t.text r.0 r.1)
  where
    same : (b : Bool) (k : Kind) (text : List ℕ) → k ≡ (cond b (plain name false) (in_quotes name)).kind → text ≡ (cond b (plain name false) (in_quotes name)).text → record { kind = k; text = text; before_caret = false } ≡ cond b (plain name false) (in_quotes name)
    same true k text of_kind of_text = λ i. record { kind = of_kind i; text = of_text i; before_caret = false }
    same false k text of_kind of_text = λ i. record { kind = of_kind i; text = of_text i; before_caret = false }

says_name : (name : List ℕ) (t : Spelled) → SpelledAs t (value_lexeme name) → t.text ≡ name
says_name name t r = r.1 ∙ same (list_all is_word name)
  where
    same : (b : Bool) → (cond b (plain name false) (in_quotes name)).text ≡ name
    same true = refl
    same false = refl

-- ---- sets

module _ (logic : Logic) (is : IsLogic logic) where
  abbrev text : ℕ → List ℕ
  text v = value_text (name_of logic.names v)

  -- the set of the values in a list
  abbrev set_of : List ℕ → List ℕ
  set_of vs = values_where logic.size (has vs)

  has_one_more : (vs : List ℕ) (v w : ℕ) → w < logic.size → (has (set_of vs) w || w == v) ≡ has (vs ++ v ∷ []) w
  has_one_more vs v w lt =
      ap (λ b. b || w == v) (has-values_where logic.size (has vs) w ∙ ap (λ b. b && has vs w) (lt-ltb w logic.size lt))
      ∙ sym (list_any-append (λ x. x == w) vs (v ∷ []) ∙ ap (λ b. has vs w || b) (either_way v w))
    where
      either_way : (v w : ℕ) → has (v ∷ []) w ≡ (w == v)
      either_way v w = grind (arith, nat_tests)

  one_more : (vs : List ℕ) (v : ℕ) → set_of (vs ++ v ∷ []) ≡ with_value logic (set_of vs) v
  one_more vs v = sym (values_where-alike logic.size (λ w. has (set_of vs) w || w == v) (has (vs ++ v ∷ [])) (has_one_more vs v))

  plain_name : (v : ℕ) → v < logic.size → IsPlainName (name_of logic.names v)
  plain_name v lt =
      let below : v < length logic.names = omega (arith, is.named) in
      is.plain v [] below

  pub value_written : (v : ℕ) → v < logic.size → Written SpelledAs EndsWord (Value logic) v (text v)
  value_written v lt =
      let name = name_of logic.names v in
      written_one SpelledAs EndsWord (value_of logic) (Allowed is_value (λ t. fault_if (names_no_value logic t) UNKNOWN_VALUE)) v (value_lexeme name) (text v) (cut_value name (plain_name v lt))
      (λ t r. let (tree, known) = value_told logic is v t (omega (arith, is.named)) (says_name name t r) in (tree, (is_value_name name t r, ap (λ b. fault_if b UNKNOWN_VALUE) known, refl)))

  added_written : (vs : List ℕ) (v : ℕ) → v < logic.size → Written SpelledAs EndsWord (AddedValue logic (set_of vs)) (set_of (vs ++ v ∷ [])) (text v)
  added_written vs v lt = written_mapped SpelledAs EndsWord (with_value logic (set_of vs)) (Value logic) v (set_of (vs ++ v ∷ [])) (text v) (one_more vs v) (value_written v lt)

  abbrev more_text : List ℕ → List ℕ
  more_text vs = flat_map (λ p. codes "," ++ p) (map text vs)

  more_ends : (vs rest : List ℕ) → EndsWord rest → EndsWord (more_text vs ++ rest)
  more_ends [] rest ends = ends
  more_ends (v ∷ vs) rest ends = refl

  more_written : (vs before : List ℕ) → AreBelow logic.size vs → Written SpelledAs EndsWord (Growing (NextValue logic) (set_of before)) (set_of (before ++ vs)) (more_text vs)
  more_written [] before below = written_ended SpelledAs EndsWord (NextValue logic) (set_of before) (set_of (before ++ [])) (ap set_of (append-nil before))
  more_written (v ∷ vs) before below =
      written_grown SpelledAs EndsWord EndsWord (NextValue logic) (set_of before) (set_of (before ++ v ∷ [])) (set_of (before ++ v ∷ vs)) (44 ∷ text v) (more_text vs) (more_ends vs)
      (written_behind SpelledAs EndsWord (is_of Comma) (AddedValue logic (set_of before)) (set_of (before ++ v ∷ [])) (sign 44) (44 ∷ []) (text v) cut_comma is_comma (added_written before v below.0))
      (written_tree SpelledAs EndsWord (Growing (NextValue logic) (set_of (before ++ v ∷ []))) (set_of ((before ++ v ∷ []) ++ vs)) (set_of (before ++ v ∷ vs)) (more_text vs) (ap set_of (append_assoc before (v ∷ []) vs)) (more_written vs (before ++ v ∷ []) below.1))

  no_values : set_of [] ≡ []
  no_values = none 0 logic.size
    where
      none : (a m : ℕ) → filter (λ w. false) (range_with_len a m) ≡ []
      none a zero = refl
      none a (suc m) = none (a + 1) m

  values_written : (vs : List ℕ) → AreBelow logic.size vs → IsSet logic.size vs → Written SpelledAs EndsWord (Optional [] (SomeValues logic)) vs (joined (codes ",") (map text vs))
  values_written [] below set = written_right SpelledAs EndsWord (SomeValues logic) (Nothing []) [] [] (written_nothing SpelledAs EndsWord [] [] refl)
  values_written (v ∷ vs) below set =
      written_left SpelledAs EndsWord (SomeValues logic) (Nothing []) (v ∷ vs) (text v ++ more_text vs)
      (written_tree SpelledAs EndsWord (SomeValues logic) (set_of (v ∷ vs)) (v ∷ vs) (text v ++ more_text vs) (sym set)
      (written_then SpelledAs EndsWord EndsWord (AddedValue logic []) (λ first. Growing (NextValue logic) first) (set_of (v ∷ [])) (set_of (v ∷ vs)) (text v) (more_text vs) (more_ends vs)
      (subst (λ none. Written SpelledAs EndsWord (AddedValue logic none) (set_of (v ∷ [])) (text v)) no_values (added_written [] v below.0))
      (more_written vs (v ∷ []) below.1)))

  pub set_written : (set : List ℕ) → IsSet logic.size set → Written SpelledAs Anything (ValueSet logic) set (set_text logic.names set)
  set_written set of_set =
      let Closed : List ℕ → Grammar Spelled (List ℕ) = λ found. Then (One (is_of CloseBrace)) (λ _. Nothing found) in
      let inside : List ℕ = joined (codes ",") (map text set) in
      written_behind SpelledAs Anything (is_of OpenBrace) (Then (Optional [] (SomeValues logic)) Closed) set (sign 123) (codes "{") (inside ++ codes "}") cut_open_brace is_open_brace
      (written_then SpelledAs EndsWord Anything (Optional [] (SomeValues logic)) Closed set set inside (codes "}") (λ rest f. refl) (values_written set (set_below logic.size set of_set) of_set)
      (written_behind SpelledAs Anything (is_of CloseBrace) (Nothing set) set (sign 125) (codes "}") [] cut_close_brace is_close_brace (written_nothing SpelledAs Anything set set refl)))
