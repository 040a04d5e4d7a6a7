-- The piece that begins at a place has its form, and no longer one has it.
use Rattle.std.proofs.Common.{◌≡◌, ℕ, zero, suc, ◌+◌, ◌-◌, ◌<◌, ◌≤◌, Bool, true, false, cond, List, [], ◌∷◌, ◌++◌, length, get_or, take, drop, Option, Some, None, refl, sym, ap, subst, ◌∙◌, arith, inl, inr, append_assoc, append-nil, length-drop}
use Rattle.std.specs.Prelude.{◌≢◌, not, option_map, ◌==◌, ◌&&◌, ◌||◌, nat_lt, All, ◌⊎◌, codes}
use Rattle.std.specs.List.{prefix_len, position_or_len, AllPass}
use Rattle.std.specs.Char.{is_ascii_digit, is_ascii_lowercase, is_ascii_uppercase}
use Rattle.std.proofs.lemmas.List.{take_at, drop_at, drop_all, drop_more, take_all, take-append-drop, length-append, length_push, length-take-le}
use Rattle.std.proofs.lemmas.List.Elements.{All-nil, All-cons, All-head, All-tail, All-drop, All-weaker}
use Rattle.std.proofs.lemmas.List.Sums.{prefix_len-le-length, passes_at_first}
use Rattle.std.proofs.lemmas.Bool.{ltb-true, ltb-false, eqb-true, eqb-false, eq-eqb}
use Rattle.lgc_lexer.specs.declared.scan.TheConstants.{QUOTE, DOUBLE_QUOTE, UNDERSCORE, LINE_FEED, PERCENT, SLASH, STAR}
use Rattle.lgc_lexer.specs.declared.token.Kind.{Kind}
use Rattle.lgc_lexer.specs.declared.token.Kind.TheVariants.{Lower, Upper, Digits, Quoted, Text, Symbol, Punct}
use Rattle.lgc_lexer.specs.declared.piece.Piece.{Piece}
use Rattle.lgc_lexer.specs.declared.piece.Piece.TheVariants.{Blank, Taken, Bad, Unclosed}
use Rattle.lgc_lexer.specs.Forms.{is_blank, is_word, is_symbol, is_punct, is_quotable, IsOne, IsRun, HasForm, HasNoClose, IsBlank}
use Rattle.lgc_lexer.specs.Tokens.{close_len, line_comment, block_comment, slash, text_in, quoted_end, quoted_in, piece_of}
use Rattle.lgc_lexer.specs.Cuts.{IsLongest, BeginsNothing, HasBadQuoted, IsUnclosed}

-- ---- what a kind of piece means, at the byte b before the bytes rest

pub record IsTokenText (kind : Kind) (text after : List ℕ) : Type 0 where
  pub form : HasForm kind text
  pub longest : IsLongest kind text after
  pub no_comment : (rest : List ℕ) → text ++ after ≢ codes "/*" ++ rest

-- a blank or a comment, or a comment of one line that the end of the bytes closes
abbrev pub IsBlankText : List ℕ → List ℕ → Type 0
IsBlankText text after = IsBlank text ⊎ ((after ≡ []) × IsBlank (text ++ LINE_FEED ∷ []))

abbrev pub Fits : ℕ → List ℕ → Piece → Type 0
Fits b rest (Blank n) = (n ≤ length rest) × IsBlankText (b ∷ take n rest) (drop n rest)
Fits b rest (Taken k n) = (n ≤ length rest) × IsTokenText k (b ∷ take n rest) (drop n rest)
Fits b rest (Bad n) = ((n ≡ 0) × BeginsNothing (b ∷ rest)) ⊎ HasBadQuoted n (b ∷ rest)
Fits b rest Unclosed = IsUnclosed (b ∷ rest)

-- a piece that a test chooses
either : (b : ℕ) (rest : List ℕ) (v : Bool) (x y : Piece) → (v ≡ true → Fits b rest x) → (v ≡ false → Fits b rest y) → Fits b rest (cond v x y)
either b rest true x y f g = f refl
either b rest false x y f g = g refl

-- ---- tests

and_left : (u v : Bool) → (u && v) ≡ true → u ≡ true
and_left true v e = refl
and_left false v e = absurd cc

and_right : (u v : Bool) → (u && v) ≡ true → v ≡ true
and_right true v e = e
and_right false v e = absurd cc

and_false : (u v : Bool) → (u && v) ≡ false → u ≡ true → v ≡ false
and_false true v e f = e
and_false false v e f = absurd cc

-- ---- runs

-- the bytes at the front that pass do pass
take_passes : (p : ℕ → Bool) (xs : List ℕ) → AllPass p (take (prefix_len p xs) xs)
take_passes p [] = All-nil (λ x. p x ≡ true)
take_passes p (x ∷ xs) = by (take_passes p xs) (p x) refl
  where
    by : AllPass p (take (prefix_len p xs) xs) → (v : Bool) → p x ≡ v → AllPass p (take (cond v (1 + prefix_len p xs) 0) (x ∷ xs))
    by below true e = let one : 1 + prefix_len p xs ≡ suc (prefix_len p xs) = omega arith in subst (λ (n : ℕ). AllPass p (take n (x ∷ xs))) (sym one) (All-cons (λ x. p x ≡ true) x _ e below)
    by below false e = All-nil (λ x. p x ≡ true)

-- and the byte behind them doesn't
next_fails : (p : ℕ → Bool) (xs : List ℕ) (y : ℕ) (ys : List ℕ) → drop (prefix_len p xs) xs ≡ y ∷ ys → p y ≡ false
next_fails p [] y ys e = absurd cc
next_fails p (x ∷ xs) y ys e = by (λ f. next_fails p xs y ys f) (p x) refl e
  where
    by : (drop (prefix_len p xs) xs ≡ y ∷ ys → p y ≡ false) → (v : Bool) → p x ≡ v → drop (cond v (1 + prefix_len p xs) 0) (x ∷ xs) ≡ y ∷ ys → p y ≡ false
    by below true f e = let one : 1 + prefix_len p xs ≡ suc (prefix_len p xs) = omega arith in below (subst (λ (n : ℕ). drop n (x ∷ xs) ≡ y ∷ ys) one e)
    by below false f e = let same : x ≡ y = cc in subst (λ (z : ℕ). p z ≡ false) same f

behind : (p : ℕ → Bool) (xs ys : List ℕ) → AllPass p (xs ++ ys) → AllPass p ys
behind p xs ys h = subst (λ zs. AllPass p zs) (drop_at xs ys (length xs) refl) (All-drop (λ x. p x ≡ true) (length xs) (xs ++ ys) h)

-- A run ends at the first byte that can't stand in it.
run_longest : (first p : ℕ → Bool) (b : ℕ) (rest more after : List ℕ) → drop (prefix_len p rest) rest ≡ more ++ after → IsRun first p (b ∷ take (prefix_len p rest) rest ++ more) → more ≡ []
run_longest first p b rest [] after e h = refl
run_longest first p b rest (c ∷ more) after e h =
    let passes : p c ≡ true = All-head (λ x. p x ≡ true) c more (behind p (take (prefix_len p rest) rest) (c ∷ more) h.1) in
    let fails : p c ≡ false = next_fails p rest c (more ++ after) e in
    absurd cc

-- what begins with another byte than a slash begins no comment in /* and */
no_slash : (b : ℕ) (after rest : List ℕ) → (b ≡ SLASH → ⊥) → b ∷ after ≢ codes "/*" ++ rest
no_slash b after rest other e = other cc

-- A run is a token of each kind whose form is a run.
run_fits : (kind : Kind) (first p : ℕ → Bool) (b : ℕ) (rest : List ℕ) → ((text : List ℕ) → HasForm kind text ≡ IsRun first p text) → first b ≡ true → (b ≡ SLASH → ⊥) → Fits b rest (Taken kind (prefix_len p rest))
run_fits kind first p b rest is e other = (
  prefix_len-le-length p rest,
  record {
    form = subst (λ P. P) (sym (is (b ∷ take (prefix_len p rest) rest))) (e, take_passes p rest);
    longest = λ more after split h. run_longest first p b rest more after split (subst (λ P. P) (is (b ∷ take (prefix_len p rest) rest ++ more)) h);
    no_comment = λ more. no_slash b _ more other;
  },
)

-- ---- what is closed by a byte

-- the bytes up to and with q, and those behind it
through_next : (rest inside more : List ℕ) (q n : ℕ) → rest ≡ inside ++ q ∷ more → length inside ≡ n → (take (n + 1) rest ≡ inside ++ q ∷ []) × (drop (n + 1) rest ≡ more)
through_next rest inside more q n e len =
    let long : length (inside ++ q ∷ []) ≡ n + 1 = length_push inside q ∙ ap (λ m. m + 1) len in
    let same : (inside ++ q ∷ []) ++ more ≡ rest = append_assoc inside (q ∷ []) more ∙ sym e in
    (subst (λ r. take (n + 1) r ≡ inside ++ q ∷ []) same (take_at (inside ++ q ∷ []) more (n + 1) long), subst (λ r. drop (n + 1) r ≡ more) same (drop_at (inside ++ q ∷ []) more (n + 1) long))

-- the first q ends what begins before it
first_ends : (q : ℕ) (xs ys zs : List ℕ) → All (λ b. b ≢ q) xs → xs ++ q ∷ [] ≡ ys ++ q ∷ zs → zs ≡ []
first_ends q [] [] zs h e = cc
first_ends q [] (y ∷ []) zs h e = absurd cc
first_ends q [] (y ∷ z ∷ ys) zs h e = absurd cc
first_ends q (x ∷ xs) [] zs h e = absurd (All-head (λ b. b ≢ q) x xs h cc)
first_ends q (x ∷ xs) (y ∷ ys) zs h e = first_ends q xs ys zs (All-tail (λ b. b ≢ q) x xs h) cc

-- A text that the mark q closes at its first place behind the front is the longest such text.
closed_longest : (q : ℕ) (inside other more : List ℕ) → All (λ b. b ≢ q) other → (q ∷ inside ++ q ∷ []) ++ more ≡ q ∷ other ++ q ∷ [] → more ≡ []
closed_longest q inside other more h e =
    let inner : (inside ++ q ∷ []) ++ more ≡ other ++ q ∷ [] = cc in
    first_ends q other inside more h (sym inner ∙ append_assoc inside (q ∷ []) more)

not_true : (v : Bool) → not v ≡ true → v ≡ false
not_true true e = absurd cc
not_true false e = refl

not_false : (v : Bool) → not v ≡ false → v ≡ true
not_false true e = refl
not_false false e = absurd cc

-- the bytes before the first q
others : (q : ℕ) (xs : List ℕ) → AllPass (λ c. not (c == q)) xs → All (λ b. b ≢ q) xs
others q xs h = All-weaker (λ x. not (x == q) ≡ true) (λ b. b ≢ q) (λ x e. eqb-false x q (not_true (x == q) e)) xs h

-- a quotable byte isn't the quote
quotable_other : (x : ℕ) → is_quotable x ≡ true → x ≢ QUOTE
quotable_other x e same = let g : is_quotable QUOTE ≡ true = subst (λ (z : ℕ). is_quotable z ≡ true) same e in absurd cc

split_at : (xs : List ℕ) (n : ℕ) (rest : List ℕ) → drop n xs ≡ rest → xs ≡ take n xs ++ rest
split_at xs n rest e = sym (take-append-drop n xs) ∙ ap (λ r. take n xs ++ r) e

all_taken : (xs : List ℕ) (n : ℕ) → drop n xs ≡ [] → take n xs ≡ xs
all_taken xs n e = sym (split_at xs n [] e ∙ append-nil (take n xs))

-- ---- Text

-- how many bytes stand before the first q
abbrev before : ℕ → List ℕ → ℕ
before q rest = position_or_len (λ c. c == q) rest

before_within : (q : ℕ) (rest : List ℕ) → before q rest ≤ length rest
before_within q rest = prefix_len-le-length (λ c. not (c == q)) rest

before_others : (q : ℕ) (rest : List ℕ) → All (λ b. b ≢ q) (take (before q rest) rest)
before_others q rest = others q _ (take_passes (λ c. not (c == q)) rest)

-- the first q and what stands around it
mark_next : (q : ℕ) (rest : List ℕ) → before q rest < length rest → rest ≡ take (before q rest) rest ++ q ∷ drop (before q rest + 1) rest
mark_next q rest lt =
    let next : drop (before q rest) rest ≡ get_or rest (before q rest) 0 ∷ drop (before q rest + 1) rest = drop_more rest (before q rest) 0 lt in
    let mark : get_or rest (before q rest) 0 ≡ q = eqb-true _ q (passes_at_first (λ c. c == q) rest 0 lt) in
    split_at rest (before q rest) _ (next ∙ ap (λ c. c ∷ drop (before q rest + 1) rest) mark)

-- A Text that is closed behind n bytes.
text_closed : (rest inside more : List ℕ) (n : ℕ) → length inside ≡ n → rest ≡ inside ++ DOUBLE_QUOTE ∷ more → All (λ b. b ≢ DOUBLE_QUOTE) inside → Fits DOUBLE_QUOTE rest (Taken Text (n + 1))
text_closed rest inside more n len split free =
    let parts = through_next rest inside more DOUBLE_QUOTE n split len in
    let text-is : DOUBLE_QUOTE ∷ take (n + 1) rest ≡ DOUBLE_QUOTE ∷ inside ++ DOUBLE_QUOTE ∷ [] = ap (λ t. DOUBLE_QUOTE ∷ t) parts.0 in
    let size : length rest ≡ n + suc (length more) = ap length split ∙ length-append inside (DOUBLE_QUOTE ∷ more) ∙ ap (λ m. m + suc (length more)) len in (
      omega arith,
      record {
        form = (inside, text-is, free);
        longest = λ more after split h. closed_longest DOUBLE_QUOTE inside h.0 more h.2 (ap (λ t. t ++ more) (sym text-is) ∙ h.1);
        no_comment = λ more. no_slash DOUBLE_QUOTE _ more (λ e. absurd cc);
      },
    )

text_unclosed : (rest : List ℕ) → length rest ≤ before DOUBLE_QUOTE rest → IsUnclosed (DOUBLE_QUOTE ∷ rest)
text_unclosed rest ge = inr (inl (rest, refl, subst (λ xs. All (λ b. b ≢ DOUBLE_QUOTE) xs) (take_all (before DOUBLE_QUOTE rest) rest ge) (before_others DOUBLE_QUOTE rest)))

text_fits : (rest : List ℕ) → Fits DOUBLE_QUOTE rest (text_in rest)
text_fits rest =
    let n = before DOUBLE_QUOTE rest in
    either DOUBLE_QUOTE rest (nat_lt n (length rest)) (Taken Text (n + 1)) Unclosed
    (λ lt. text_closed rest (take n rest) (drop (n + 1) rest) n (length-take-le n rest (before_within DOUBLE_QUOTE rest)) (mark_next DOUBLE_QUOTE rest (ltb-true n (length rest) lt)) (before_others DOUBLE_QUOTE rest))
    (λ ge. text_unclosed rest (ltb-false n (length rest) ge))

-- ---- Quoted

-- A Quoted that is closed behind n bytes.
quoted_closed : (rest more : List ℕ) (n : ℕ) → n ≡ prefix_len is_quotable rest → drop n rest ≡ QUOTE ∷ more → 0 < n → Fits QUOTE rest (Taken Quoted (n + 1))
quoted_closed rest more n is e pos =
    let size : n ≤ length rest = subst (λ m. m ≤ length rest) (sym is) (prefix_len-le-length is_quotable rest) in
    let left : length rest - n ≡ suc (length more) = sym (length-drop n rest) ∙ ap length e in
    let len : length (take n rest) ≡ n = length-take-le n rest size in
    let parts = through_next rest (take n rest) more QUOTE n (split_at rest n (QUOTE ∷ more) e) len in
    let inside : AllPass is_quotable (take n rest) = subst (λ m. AllPass is_quotable (take m rest)) (sym is) (take_passes is_quotable rest) in
    let some : take n rest ≢ [] = λ none. let zero-is : n ≡ 0 = sym len ∙ ap length none in omega arith in
    let text-is : QUOTE ∷ take (n + 1) rest ≡ QUOTE ∷ take n rest ++ QUOTE ∷ [] = ap (λ t. QUOTE ∷ t) parts.0 in (
      omega arith,
      record {
        form = (take n rest, text-is, some, inside);
        longest = λ more after split h. closed_longest QUOTE (take n rest) h.0 more (All-weaker (λ x. is_quotable x ≡ true) (λ b. b ≢ QUOTE) quotable_other h.0 h.3) (ap (λ t. t ++ more) (sym text-is) ∙ h.1);
        no_comment = λ more. no_slash QUOTE _ more (λ e. absurd cc);
      },
    )

quoted_fits : (rest : List ℕ) → Fits QUOTE rest (quoted_in rest)
quoted_fits rest = by (prefix_len is_quotable rest) refl (drop (prefix_len is_quotable rest) rest) refl
  where
    by : (n : ℕ) → n ≡ prefix_len is_quotable rest → (left : List ℕ) → drop n rest ≡ left → Fits QUOTE rest (quoted_end n left)
    by n is [] e = inl (rest, refl, subst (λ xs. AllPass is_quotable xs) (all_taken rest n e) (subst (λ m. AllPass is_quotable (take m rest)) (sym is) (take_passes is_quotable rest)))
    by n is (c ∷ more) e = either QUOTE rest (c == QUOTE && nat_lt 0 n) (Taken Quoted (n + 1)) (Bad (n + 1))
        (λ t. let mark : c ≡ QUOTE = eqb-true c QUOTE (and_left (c == QUOTE) (nat_lt 0 n) t) in quoted_closed rest more n is (subst (λ (q : ℕ). drop n rest ≡ q ∷ more) mark e) (ltb-true 0 n (and_right (c == QUOTE) (nat_lt 0 n) t)))
        (λ f. inr (take n rest, c, more, ap (λ t. QUOTE ∷ t) (split_at rest n (c ∷ more) e), lengths, inside, next_fails is_quotable rest c more (subst (λ m. drop m rest ≡ c ∷ more) is e), λ mark. empty f mark))
      where
        inside : AllPass is_quotable (take n rest)
        inside = subst (λ m. AllPass is_quotable (take m rest)) (sym is) (take_passes is_quotable rest)

        lengths : n + 1 ≡ 1 + length (take n rest)
        lengths = let size : n ≤ length rest = subst (λ m. m ≤ length rest) (sym is) (prefix_len-le-length is_quotable rest) in let len : length (take n rest) ≡ n = length-take-le n rest size in omega arith

        empty : (c == QUOTE && nat_lt 0 n) ≡ false → c ≡ QUOTE → take n rest ≡ []
        empty f mark = by-count n (and_false (c == QUOTE) (nat_lt 0 n) f (eq-eqb c QUOTE mark))
          where
            by-count : (m : ℕ) → nat_lt 0 m ≡ false → take m rest ≡ []
            by-count zero g = refl
            by-count (suc m) g = absurd (omega (arith, ltb-false _ _ g))

-- ---- comments

-- A comment of one line that a line feed closes.
line_closed : (rest inside more : List ℕ) (n : ℕ) → length inside ≡ n → rest ≡ inside ++ LINE_FEED ∷ more → All (λ b. b ≢ LINE_FEED) inside → Fits PERCENT rest (Blank (n + 1))
line_closed rest inside more n len split free =
    let parts = through_next rest inside more LINE_FEED n split len in
    let size : length rest ≡ n + suc (length more) = ap length split ∙ length-append inside (LINE_FEED ∷ more) ∙ ap (λ m. m + suc (length more)) len in
    (omega arith, inl (inr (inl (inside, ap (λ t. PERCENT ∷ t) parts.0, free))))

-- A comment of one line goes on to the end, which closes it.
line_to_end : (rest : List ℕ) → length rest ≤ before LINE_FEED rest → Fits PERCENT rest (Blank (before LINE_FEED rest))
line_to_end rest ge =
    let n = before LINE_FEED rest in
    let all : take n rest ≡ rest = take_all n rest ge in
    (before_within LINE_FEED rest, inr (drop_all n rest ge, inr (inl (take n rest, refl, before_others LINE_FEED rest))))

line_fits : (rest : List ℕ) → Fits PERCENT rest (line_comment rest)
line_fits rest =
    let n = before LINE_FEED rest in
    either PERCENT rest (nat_lt n (length rest)) (Blank (n + 1)) (Blank n)
    (λ lt. line_closed rest (take n rest) (drop (n + 1) rest) n (length-take-le n rest (before_within LINE_FEED rest)) (mark_next LINE_FEED rest (ltb-true n (length rest) lt)) (before_others LINE_FEED rest))
    (λ ge. line_to_end rest (ltb-false n (length rest) ge))

-- no */ with one byte more at the front
no_close-cons : (b : ℕ) (xs : List ℕ) → HasNoClose xs → ((back : List ℕ) → b ∷ xs ≢ STAR ∷ SLASH ∷ back) → HasNoClose (b ∷ xs)
no_close-cons b xs below first [] back e = first back e
no_close-cons b xs below first (f ∷ front) back e = below front back cc

-- the test for */ at two bytes
not_close : (b c : ℕ) → (b == STAR && c == SLASH) ≡ false → b ≡ STAR → c ≡ SLASH → ⊥
not_close b c f e g = let none : c == SLASH ≡ false = and_false (b == STAR) (c == SLASH) f (eq-eqb b STAR e) in eqb-false c SLASH none g

no_close-nil : HasNoClose []
no_close-nil [] back e = absurd cc
no_close-nil (f ∷ front) back e = absurd cc

-- Where the scan finds no end, there is none.
unclosed : (bs : List ℕ) → close_len bs ≡ None → HasNoClose bs
unclosed [] e = no_close-nil
unclosed (b ∷ []) e = no_close-cons b [] no_close-nil (λ back f. absurd cc)
unclosed (b ∷ c ∷ rest) e = by (b == STAR && c == SLASH) refl (close_len (c ∷ rest)) (λ f. unclosed (c ∷ rest) f) e
  where
    by : (v : Bool) → (b == STAR && c == SLASH) ≡ v → (o : Option ℕ) → (o ≡ None → HasNoClose (c ∷ rest)) → cond v (Some 2) (option_map suc o) ≡ None → HasNoClose (b ∷ c ∷ rest)
    by true f o below g = absurd cc
    by false f (Some n) below g = absurd cc
    by false f None below g = no_close-cons b (c ∷ rest) (below refl) (λ back h. let star : b ≡ STAR = cc in let mark : c ≡ SLASH = cc in not_close b c f star mark)

-- the bytes up to the end of the first */
pub record ClosesAfter (bs : List ℕ) (n : ℕ) : Type 0 where
  pub inside : List ℕ
  pub more : List ℕ
  pub split : bs ≡ inside ++ (codes "*/" ++ more)
  pub len : length inside + 2 ≡ n
  pub first : HasNoClose inside

-- the second byte of what begins with a star and a slash
second : (c : ℕ) (rest inside more back : List ℕ) → c ∷ rest ≡ inside ++ STAR ∷ SLASH ∷ more → inside ≡ SLASH ∷ back → c ≡ SLASH
second c rest inside more back e f = let g : c ∷ rest ≡ SLASH ∷ back ++ STAR ∷ SLASH ∷ more = e ∙ ap (λ xs. xs ++ STAR ∷ SLASH ∷ more) f in cc

-- Where the scan finds an end, it is the first.
closed : (bs : List ℕ) (n : ℕ) → close_len bs ≡ Some n → ClosesAfter bs n
closed [] n e = absurd cc
closed (b ∷ []) n e = absurd cc
closed (b ∷ c ∷ rest) n e = by (b == STAR && c == SLASH) refl (close_len (c ∷ rest)) (λ m f. closed (c ∷ rest) m f) e
  where
    by : (v : Bool) → (b == STAR && c == SLASH) ≡ v → (o : Option ℕ) → ((m : ℕ) → o ≡ Some m → ClosesAfter (c ∷ rest) m) → cond v (Some 2) (option_map suc o) ≡ Some n → ClosesAfter (b ∷ c ∷ rest) n
    by true f o below g =
        let star : b ≡ STAR = eqb-true b STAR (and_left (b == STAR) (c == SLASH) f) in
        let mark : c ≡ SLASH = eqb-true c SLASH (and_right (b == STAR) (c == SLASH) f) in
        record { inside = []; more = rest; split = rw (star, mark) refl; len = cc; first = no_close-nil }
    by false f None below g = absurd cc
    by false f (Some m) below g =
        let r = below m refl in
        record {
          inside = b ∷ r.inside;
          more = r.more;
          split = ap (λ t. b ∷ t) r.split;
          len = let e : suc m ≡ n = cc in let l : length r.inside + 2 ≡ m = r.len in omega arith;
          first = no_close-cons b r.inside r.first (λ back h. let star : b ≡ STAR = cc in let next : r.inside ≡ SLASH ∷ back = cc in not_close b c f star (second c rest r.inside r.more back r.split next));
        }

block_fits : (rest : List ℕ) → Fits SLASH (STAR ∷ rest) (block_comment (close_len rest))
block_fits rest = by (close_len rest) refl
  where
    by : (o : Option ℕ) → close_len rest ≡ o → Fits SLASH (STAR ∷ rest) (block_comment o)
    by None e = inr (inr (rest, refl, unclosed rest e))
    by (Some n) e =
        let r = closed rest n e in
        let size : length rest ≡ length r.inside + suc (suc (length r.more)) = ap length r.split ∙ length-append r.inside (codes "*/" ++ r.more) in
        let l : length r.inside + 2 ≡ n = r.len in
        let same : (r.inside ++ codes "*/") ++ r.more ≡ rest = append_assoc r.inside (codes "*/") r.more ∙ sym r.split in
        let long : length (r.inside ++ codes "*/") ≡ n = length-append r.inside (codes "*/") ∙ l in
        let text-is : take n rest ≡ r.inside ++ codes "*/" = subst (λ xs. take n xs ≡ r.inside ++ codes "*/") same (take_at (r.inside ++ codes "*/") r.more n long) in
        let one : 1 + n ≡ suc n = omega arith in
        (omega arith, subst (λ m. IsBlankText (SLASH ∷ take m (STAR ∷ rest)) (drop m (STAR ∷ rest))) (sym one) (inl (inr (inr (r.inside, ap (λ t. SLASH ∷ STAR ∷ t) text-is, r.first)))))

-- ---- single bytes

-- one byte is the longest text of its form
one_longest : (test : ℕ → Bool) (b : ℕ) (more : List ℕ) → IsOne test (b ∷ more) → more ≡ []
one_longest test b [] h = refl
one_longest test b (c ∷ more) h = absurd h

punct_fits : (b : ℕ) (rest : List ℕ) → is_punct b ≡ true → ((more : List ℕ) → b ∷ rest ≢ codes "/*" ++ more) → Fits b rest (Taken Punct 0)
punct_fits b rest e free = (omega arith, record { form = e; longest = λ more after split h. one_longest is_punct b more h; no_comment = free })

slash_fits : (rest : List ℕ) → Fits SLASH rest (slash rest)
slash_fits [] = punct_fits SLASH [] refl (λ more e. absurd cc)
slash_fits (c ∷ rest) = either SLASH (c ∷ rest) (c == STAR) (block_comment (close_len rest)) (Taken Punct 0)
    (λ e. subst (λ (q : ℕ). Fits SLASH (q ∷ rest) (block_comment (close_len rest))) (sym (eqb-true c STAR e)) (block_fits rest))
    (λ f. punct_fits SLASH (c ∷ rest) refl (λ more g. eqb-false c STAR f cc))

-- ---- bytes that begin nothing

is_first : (test : ℕ → Bool) (b : ℕ) (more : List ℕ) → test b ≡ false → IsOne test (b ∷ more) → ⊥
is_first test b [] f h = absurd cc
is_first test b (c ∷ more) f h = h

or_left : (u v : Bool) → (u || v) ≡ false → u ≡ false
or_left true v e = absurd cc
or_left false v e = refl

-- where the tests of blanks and comments fail, none begins
no_blank : (b : ℕ) → is_blank b ≡ false → b == PERCENT ≡ false → b == SLASH ≡ false → (more : List ℕ) → IsBlank (b ∷ more) → ⊥
no_blank b blank percent slash' more (inl h) = is_first is_blank b more blank h
no_blank b blank percent slash' more (inr (inl h)) = eqb-false b PERCENT percent (let e = h.1 in cc)
no_blank b blank percent slash' more (inr (inr h)) = eqb-false b SLASH slash' (let e = h.1 in cc)

-- what the tests of a first byte told, where none of them passed
pub record HasNoForm (b : ℕ) : Type 0 where
  pub blank : is_blank b ≡ false
  pub percent : b == PERCENT ≡ false
  pub lower : is_ascii_lowercase b ≡ false
  pub upper : (is_ascii_uppercase b || b == UNDERSCORE) ≡ false
  pub digit : is_ascii_digit b ≡ false
  pub quote : b == QUOTE ≡ false
  pub double : b == DOUBLE_QUOTE ≡ false
  pub slash : b == SLASH ≡ false
  pub symbol : is_symbol b ≡ false
  pub punct : is_punct b ≡ false

-- where no test passes, no token begins
no_token : (b : ℕ) → HasNoForm b → (kind : Kind) (more : List ℕ) → HasForm kind (b ∷ more) → ⊥
no_token b none Lower more h = let e : is_ascii_lowercase b ≡ true = h.0 in let f = none.lower in absurd cc
no_token b none Upper more h = let e : (is_ascii_uppercase b || b == UNDERSCORE) ≡ true = h.0 in let f = none.upper in absurd cc
no_token b none Digits more h = let e : is_ascii_digit b ≡ true = h.0 in let f = none.digit in absurd cc
no_token b none Quoted more h = eqb-false b QUOTE none.quote (let e = h.1 in cc)
no_token b none Text more h = eqb-false b DOUBLE_QUOTE none.double (let e = h.1 in cc)
no_token b none Symbol more h = let e : is_symbol b ≡ true = h.0 in let f = none.symbol in absurd cc
no_token b none Punct more h = is_first is_punct b more none.punct h

-- a byte that passes a test that the slash fails
not_slash : (test : ℕ → Bool) (b : ℕ) → test SLASH ≡ false → test b ≡ true → b ≡ SLASH → ⊥
not_slash test b f e same = let g : test SLASH ≡ true = subst (λ (z : ℕ). test z ≡ true) same e in absurd cc

-- The piece of the definition is what stands there.
pub piece_fits : (b : ℕ) (rest : List ℕ) → Fits b rest (piece_of b rest)
unfolding piece_of
piece_fits b rest =
    let upper = λ (c : ℕ). is_ascii_uppercase c || c == UNDERSCORE in
    either b rest (is_blank b) _ _ (λ e. (omega arith, inl (inl e)))
    (λ blank. either b rest (b == PERCENT) _ _ (λ e. subst (λ q. Fits q rest (line_comment rest)) (sym (eqb-true b PERCENT e)) (line_fits rest))
    (λ percent. either b rest (is_ascii_lowercase b) _ _ (λ e. run_fits Lower is_ascii_lowercase is_word b rest (λ text. refl) e (not_slash is_ascii_lowercase b refl e))
    (λ lower. either b rest (is_ascii_uppercase b || b == UNDERSCORE) _ _ (λ e. run_fits Upper upper is_word b rest (λ text. refl) e (not_slash upper b refl e))
    (λ upper. either b rest (is_ascii_digit b) _ _ (λ e. run_fits Digits is_ascii_digit is_word b rest (λ text. refl) e (not_slash is_ascii_digit b refl e))
    (λ digit. either b rest (b == QUOTE) _ _ (λ e. subst (λ q. Fits q rest (quoted_in rest)) (sym (eqb-true b QUOTE e)) (quoted_fits rest))
    (λ quote. either b rest (b == DOUBLE_QUOTE) _ _ (λ e. subst (λ q. Fits q rest (text_in rest)) (sym (eqb-true b DOUBLE_QUOTE e)) (text_fits rest))
    (λ double. either b rest (b == SLASH) _ _ (λ e. subst (λ q. Fits q rest (slash rest)) (sym (eqb-true b SLASH e)) (slash_fits rest))
    (λ slash'. either b rest (is_symbol b) _ _ (λ e. run_fits Symbol is_symbol is_symbol b rest (λ text. refl) e (eqb-false b SLASH slash'))
    (λ symbol. either b rest (is_punct b) (Taken Punct 0) (Bad 0) (λ e. punct_fits b rest e (λ more. no_slash b rest more (eqb-false b SLASH slash')))
    (λ punct. inl (refl, (no_token b (record { blank = blank; percent = percent; lower = lower; upper = upper; digit = digit; quote = quote; double = double; slash = slash'; symbol = symbol; punct = punct }), no_blank b blank percent slash'))))))))))))
