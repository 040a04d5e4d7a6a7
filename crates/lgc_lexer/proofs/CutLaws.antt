-- The tokens of the definition are the longest texts of their forms, with gaps between them, and its fault stands behind such tokens.
use Rattle.std.proofs.Common.{◌≡◌, ℕ, zero, suc, ◌+◌, ◌-◌, ◌*◌, ◌≤◌, List, [], ◌∷◌, ◌++◌, length, take, drop, Result, Ok, Err, refl, sym, ap, subst, ◌∙◌, arith, inl, inr, append_assoc, append-nil, take-append-drop, length-drop}
use Rattle.std.specs.Prelude.{◌⊎◌, slice_range}
use Rattle.std.specs.List.{concat}
use Rattle.std.proofs.lemmas.List.{drop-drop, take_all, length_push, length-take-le}
use Rattle.std.proofs.lemmas.List.Elements.{All-nil, All-push}
use Rattle.std.proofs.lemmas.List.Folds.{concat-append}
use Rattle.lgc_lexer.specs.declared.scan.TheConstants.{LINE_FEED}
use Rattle.lgc_lexer.specs.declared.token.Kind.{Kind}
use Rattle.lgc_lexer.specs.declared.token.Kind.TheVariants.{Lower, Upper, Digits, Quoted, Text, Symbol, Punct}
use Rattle.lgc_lexer.specs.declared.token.Token.{Token}
use Rattle.lgc_lexer.specs.declared.fault.LexFault.{LexFault}
use Rattle.lgc_lexer.specs.declared.fault.LexFault.TheVariants.{BadByte, OpenQuote}
use Rattle.lgc_lexer.specs.declared.piece.Piece.{Piece}
use Rattle.lgc_lexer.specs.declared.piece.Piece.TheVariants.{Blank, Taken, Bad, Unclosed}
use Rattle.lgc_lexer.specs.Forms.{HasForm, IsBlank, IsGap}
use Rattle.lgc_lexer.specs.Tokens.{piece_of, then_token, tokens_after, tokens_from, tokens_of}
use Rattle.lgc_lexer.specs.Spans.{quote_len}
use Rattle.lgc_lexer.specs.Cuts.{IsNext, AreNext, HasOnlyGap, HasFault, IsFaultAt, AreTokensOf, IsFaultOf}
use Rattle.lgc_lexer.proofs.PieceLaws.{IsTokenText, IsBlankText, Fits, piece_fits}

-- ---- gaps

gap-nil : IsGap []
gap-nil = ([], refl, All-nil IsBlank)

gap-push : (gap part : List ℕ) → IsGap gap → IsBlank part → IsGap (gap ++ part)
gap-push gap part (parts, e, h) blank =
    let one : concat (parts ++ part ∷ []) ≡ concat parts ++ part = concat-append parts (part ∷ []) ∙ ap (λ t. concat parts ++ t) (append-nil part) in
    (parts ++ part ∷ [], ap (λ t. t ++ part) e ∙ sym one, All-push IsBlank parts part h blank)

-- ---- slices

take-nil : (n : ℕ) → take {A = ℕ} n [] ≡ []
take-nil zero = refl
take-nil (suc n) = refl

-- the first m bytes, and the n behind them
take-add : (m n : ℕ) (xs : List ℕ) → take (m + n) xs ≡ take m xs ++ take n (drop m xs)
take-add zero n xs = let e : 0 + n ≡ n = omega arith in ap (λ m. take m xs) e
take-add (suc m) n [] = let e : suc m + n ≡ suc (m + n) = omega arith in rw e (sym (take-nil n))
take-add (suc m) n (x ∷ xs) = let e : suc m + n ≡ suc (m + n) = omega arith in rw e (ap (λ t. x ∷ t) (take-add m n xs))

-- the bytes between two places are a gap, or a gap once the end of the bytes closes its last comment
abbrev IsGapTo : List ℕ → ℕ → ℕ → Type 0
IsGapTo bytes from to = IsGap (slice_range bytes from to) ⊎ ((length bytes ≤ to) × IsGap (slice_range bytes from to ++ LINE_FEED ∷ []))

-- what is asked of the tokens or the fault of the bytes behind the place `from`
abbrev AreTold : List ℕ → ℕ → Result (List Token) LexFault → Type 0
AreTold bytes from (Ok ts) = AreNext bytes (HasOnlyGap bytes) from ts
AreTold bytes from (Err e) = (ts : List Token) × AreNext bytes (HasFault bytes e) from ts

-- a token before what is told behind it
told_then : (bytes : List ℕ) (from : ℕ) (t : Token) (r : Result (List Token) LexFault) → IsNext bytes from t → AreTold bytes t.end r → AreTold bytes from (then_token t r)
told_then bytes from t (Ok ts) next told = (next, told)
told_then bytes from t (Err e) next told = (t ∷ told.0, (next, told.1))

-- a text has room for the quotes of its form
room : (kind : Kind) (text : List ℕ) → HasForm kind text → 2 * quote_len kind ≤ length text
room Lower text h = omega arith
room Upper text h = omega arith
room Digits text h = omega arith
room Quoted text h = let e : length text ≡ suc (length (h.0) + 1) = ap length h.1 ∙ ap suc (length_push h.0 _) in omega arith
room Text text h = let e : length text ≡ suc (length (h.0) + 1) = ap length h.1 ∙ ap suc (length_push h.0 _) in omega arith
room Symbol text h = omega arith
room Punct text h = omega arith

module _ (bytes : List ℕ) where
  -- the slice up to a place, and on from there
  slice_on : (from at n : ℕ) → from ≤ at → slice_range bytes from (at + n) ≡ slice_range bytes from at ++ take n (drop at bytes)
  slice_on from at n le =
      let long : at + n - from ≡ at - from + n = omega arith in
      let place : from + (at - from) ≡ at = omega arith in
      rw long (take-add (at - from) n (drop from bytes) ∙ ap (λ t. take (at - from) (drop from bytes) ++ take n t) (drop-drop (at - from) from bytes ∙ ap (λ i. drop i bytes) place))

  slice_here : (at n : ℕ) → slice_range bytes at (at + n) ≡ take n (drop at bytes)
  slice_here at n = let e : at + n - at ≡ n = omega arith in ap (λ m. take m (drop at bytes)) e

  slice_none : (at : ℕ) → slice_range bytes at at ≡ []
  slice_none at = let e : at - at ≡ 0 = omega arith in ap (λ m. take m (drop at bytes)) e

  module _ (at b : ℕ) (rest : List ℕ) (here : drop at bytes ≡ b ∷ rest) where
    in_bytes : length bytes ≡ at + suc (length rest)
    in_bytes = let e : length bytes - at ≡ suc (length rest) = sym (length-drop at bytes) ∙ ap length here in omega arith

    after : (n : ℕ) → drop (at + 1 + n) bytes ≡ drop n rest
    after n = let e : at + suc n ≡ at + 1 + n = omega arith in ap (λ i. drop i bytes) (sym e) ∙ sym (drop-drop (suc n) at bytes) ∙ ap (drop (suc n)) here

    after_one : drop (at + 1) bytes ≡ rest
    after_one = let e : at + 1 + 0 ≡ at + 1 = omega arith in ap (λ i. drop i bytes) (sym e) ∙ after 0

    text_here : (n : ℕ) → slice_range bytes at (at + 1 + n) ≡ b ∷ take n rest
    text_here n = let e : at + suc n ≡ at + 1 + n = omega arith in ap (slice_range bytes at) (sym e) ∙ slice_here at (suc n) ∙ ap (take (suc n)) here

    slice_more : (from n : ℕ) → from ≤ at → slice_range bytes from (at + 1 + n) ≡ slice_range bytes from at ++ b ∷ take n rest
    slice_more from n le = let e : at + suc n ≡ at + 1 + n = omega arith in ap (slice_range bytes from) (sym e) ∙ slice_on from at (suc n) le ∙ ap (λ t. slice_range bytes from at ++ take (suc n) t) here

    -- The gap before this place ends here, since there are bytes left.
    gap_before : (from : ℕ) → IsGapTo bytes from at → IsGap (slice_range bytes from at)
    gap_before from (inl h) = h
    gap_before from (inr h) = absurd (omega (arith, in_bytes, h.0))

    gap_after : (from n : ℕ) → from ≤ at → n ≤ length rest → IsGap (slice_range bytes from at) → IsBlankText (b ∷ take n rest) (drop n rest) → IsGapTo bytes from (at + 1 + n)
    gap_after from n le size gap (inl blank) = inl (subst (λ t. IsGap t) (sym (slice_more from n le)) (gap-push (slice_range bytes from at) (b ∷ take n rest) gap blank))
    gap_after from n le size gap (inr (none, blank)) =
        let left : length rest - n ≡ 0 = sym (length-drop n rest) ∙ ap length none in
        let same : slice_range bytes from at ++ (b ∷ take n rest ++ LINE_FEED ∷ []) ≡ slice_range bytes from (at + 1 + n) ++ LINE_FEED ∷ [] = sym (append_assoc (slice_range bytes from at) (b ∷ take n rest) (LINE_FEED ∷ [])) ∙ ap (λ t. t ++ LINE_FEED ∷ []) (sym (slice_more from n le)) in
        inr (omega (arith, in_bytes), subst (λ t. IsGap t) same (gap-push (slice_range bytes from at) (b ∷ take n rest ++ LINE_FEED ∷ []) gap blank))

    next_here : (from n : ℕ) (kind : Kind) → from ≤ at → n ≤ length rest → IsGap (slice_range bytes from at) → IsTokenText kind (b ∷ take n rest) (drop n rest) → IsNext bytes from (record { kind = kind; start = at; end = at + 1 + n })
    next_here from n kind le size gap p =
        let long : length (b ∷ take n rest) ≡ suc n = ap suc (length-take-le n rest size) in
        let quotes : 2 * quote_len kind ≤ length (b ∷ take n rest) = room kind (b ∷ take n rest) p.form in
        record {
          behind = le;
          inside = (omega arith, omega (arith, in_bytes));
          gap = gap;
          form = subst (λ t. HasForm kind t) (sym (text_here n)) p.form;
          longest = λ more back e h. p.longest more back (sym (after n) ∙ e) (subst (λ t. HasForm kind (t ++ more)) (text_here n) h);
          no_comment = λ more e. p.no_comment more (ap (λ t. b ∷ t) (take-append-drop n rest) ∙ sym here ∙ e);
        }

    fault_here : (from : ℕ) (e : LexFault) → from ≤ at → IsGap (slice_range bytes from at) → IsFaultAt e at (b ∷ rest) → AreTold bytes from (Err e)
    fault_here from e le gap fault = ([], (at, le, gap, subst (λ t. IsFaultAt e at t) (sym here) fault))

    bad_here : (n : ℕ) → Fits b rest (Bad n) → IsFaultAt (BadByte (at + n)) at (b ∷ rest)
    bad_here n (inl (none, h)) = inl (omega arith, h)
    bad_here n (inr h) = inr (n, refl, h)

    token_here : (n : ℕ) (kind : Kind) (from : ℕ) (r : Result (List Token) LexFault) → from ≤ at → IsGap (slice_range bytes from at) → Fits b rest (Taken kind n) → ((next : ℕ) → next ≤ at + 1 + n → IsGapTo bytes next (at + 1 + n) → AreTold bytes next r) → AreTold bytes from (then_token (record { kind = kind; start = at; end = at + 1 + n }) r)
    token_here n kind from r le gap p again =
        let none : IsGap (slice_range bytes (at + 1 + n) (at + 1 + n)) = subst (λ t. IsGap t) (sym (slice_none (at + 1 + n))) gap-nil in
        told_then bytes from (record { kind = kind; start = at; end = at + 1 + n }) r (next_here from n kind le p.0 gap p.1) (again (at + 1 + n) (omega arith) (inl none))

    -- The piece at this place, and what is told behind it.
    piece_here : (g : ℕ → Result (List Token) LexFault) → ((n next : ℕ) → n ≤ length rest → next ≤ at + 1 + n → IsGapTo bytes next (at + 1 + n) → AreTold bytes next (g n)) → (from : ℕ) → from ≤ at → IsGap (slice_range bytes from at) → (p : Piece) → Fits b rest p → AreTold bytes from (tokens_after at p g)
    piece_here g again from le gap (Blank n) h = again n from h.0 (omega arith) (gap_after from n le h.0 gap h.1)
    piece_here g again from le gap (Taken kind n) h = token_here n kind from (g n) le gap h (λ next. again n next h.0)
    piece_here g again from le gap (Bad n) h = fault_here from (BadByte (at + n)) le gap (bad_here n h)
    piece_here g again from le gap Unclosed h = fault_here from (OpenQuote at) le gap (refl, h)

  -- ---- the cut

  -- At the end of the bytes the gap is the last one.
  at_end : (from at : ℕ) → from ≤ at → drop at bytes ≡ [] → IsGapTo bytes from at → HasOnlyGap bytes from
  at_end from at le none gap = closes gap
    where
      size : length bytes - at ≡ 0
      size = sym (length-drop at bytes) ∙ ap length none

      whole : slice_range bytes from at ≡ drop from bytes
      whole = let left : length (drop from bytes) ≡ length bytes - from = length-drop from bytes in take_all (at - from) (drop from bytes) (omega (arith, size))

      closes : IsGapTo bytes from at → HasOnlyGap bytes from
      closes (inl h) = subst (λ t. IsGap (t ++ LINE_FEED ∷ [])) whole (gap-push (slice_range bytes from at) (LINE_FEED ∷ []) h (inl refl))
      closes (inr h) = subst (λ t. IsGap (t ++ LINE_FEED ∷ [])) whole h.1

  -- What the definition tells from a place on, where the piece before it still takes n bytes, and a gap reaches there.
  cut : (rest : List ℕ) (at n from : ℕ) → drop at bytes ≡ rest → n ≤ length rest → from ≤ at + n → IsGapTo bytes from (at + n) → AreTold bytes from (tokens_from at n rest)
  unfolding tokens_from
  cut [] at (suc n) from here size le gap = absurd (omega arith)
  cut [] at zero from here size le gap = let e : at + 0 ≡ at = omega arith in at_end from at (omega arith) here (subst (λ i. IsGapTo bytes from i) e gap)
  cut (b ∷ rest) at (suc n) from here size le gap = let e : at + suc n ≡ at + 1 + n = omega arith in cut rest (at + 1) n from (after_one at b rest here) (omega arith) (omega arith) (subst (λ i. IsGapTo bytes from i) e gap)
  cut (b ∷ rest) at zero from here size le gap =
      let e : at + 0 ≡ at = omega arith in
      piece_here at b rest here (λ n. tokens_from (at + 1) n rest) (λ n next below near so_far. cut rest (at + 1) n next (after_one at b rest here) below near so_far) from (omega arith) (gap_before at b rest here from (subst (λ i. IsGapTo bytes from i) e gap)) (piece_of b rest) (piece_fits b rest)

-- what the definition tells of the bytes
told : (bytes : List ℕ) → AreTold bytes 0 (tokens_of bytes)
told bytes = cut bytes bytes 0 0 0 refl (omega arith) (omega arith) (inl gap-nil)

-- The tokens of the definition are those of the law.
pub are_tokens_of : (bytes : List ℕ) (ts : List Token) → tokens_of bytes ≡ Ok ts → AreTokensOf bytes ts
are_tokens_of bytes ts e = subst (λ r. AreTold bytes 0 r) e (told bytes)

-- The fault of the definition is that of the law.
pub is_fault_of : (bytes : List ℕ) (e : LexFault) → tokens_of bytes ≡ Err e → IsFaultOf bytes e
is_fault_of bytes e f = subst (λ r. AreTold bytes 0 r) f (told bytes)
