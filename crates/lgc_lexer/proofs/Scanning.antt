-- What the loops of the lexer keep.
use Rattle.std.proofs.Common.{◌≡◌, ℕ, zero, suc, ◌+◌, ◌<◌, ◌≤◌, false, cond, List, [], ◌∷◌, ◌++◌, length, get_or, drop, Option, Some, None, Result, Ok, Err, refl, sym, ap, ◌∙◌, append_assoc, add-zero, add-one, arith, append-nil}
use Rattle.std.specs.Prelude.{option_map, ◌==◌, ◌&&◌}
use Rattle.std.proofs.lemmas.List.{drop_all, drop-drop, at_drop_more}
use Rattle.lgc_lexer.specs.declared.scan.TheConstants.{STAR, SLASH}
use Rattle.lgc_lexer.specs.declared.token.Token.{Token}
use Rattle.lgc_lexer.specs.declared.fault.LexFault.{LexFault}
use Rattle.lgc_lexer.specs.declared.fault.LexFault.TheVariants.{BadByte, OpenQuote}
use Rattle.lgc_lexer.specs.declared.piece.Piece.{Piece}
use Rattle.lgc_lexer.specs.declared.piece.Piece.TheVariants.{Blank, Taken, Bad, Unclosed}
use Rattle.lgc_lexer.specs.Tokens.{close_len, piece_of, tokens_from, tokens_after, then_token}

-- `more` after n bytes
abbrev pub after_bytes : ℕ → Option ℕ → Option ℕ
after_bytes n o = option_map (λ m. n + m) o

-- the bytes from i on, where they are two or more
close_len-drop : (bs : List ℕ) (i : ℕ) → suc i < length bs → close_len (drop i bs) ≡ cond ((get_or bs i 0 == STAR) && (get_or bs (suc i) 0 == SLASH)) (Some 2) (option_map suc (close_len (drop (suc i) bs)))
close_len-drop [] i lt = absurd (omega arith)
close_len-drop (b ∷ []) i lt = absurd (omega arith)
close_len-drop (b ∷ c ∷ bs) zero lt = refl
close_len-drop (b ∷ c ∷ bs) (suc i) lt = close_len-drop (c ∷ bs) i (omega arith)

later : (i : ℕ) (o : Option ℕ) → after_bytes (suc i) o ≡ after_bytes i (option_map suc o)
later i None = refl
later i (Some m) = ap Some (omega arith)

short : (bs : List ℕ) (i : ℕ) → length bs ≤ suc i → close_len (drop i bs) ≡ None
short [] zero le = refl
short [] (suc i) le = refl
short (b ∷ []) zero le = refl
short (b ∷ []) (suc zero) le = refl
short (b ∷ []) (suc (suc i)) le = refl
short (b ∷ c ∷ bs) zero le = absurd (omega arith)
short (b ∷ c ∷ bs) (suc i) le = short (c ∷ bs) i (omega arith)

-- The end stands at the place i.
pub close_found : (bs : List ℕ) (i : ℕ) → i + 1 < length bs → get_or bs i 0 ≡ STAR → get_or bs (i + 1) 0 ≡ SLASH → after_bytes i (close_len (drop i bs)) ≡ close_len bs → Some (i + 2) ≡ close_len bs
close_found bs i lt star slash e =
    let slash-is : get_or bs (suc i) 0 ≡ SLASH = rw add-one at slash in
    let one : close_len (drop i bs) ≡ Some 2 = rw (close_len-drop bs i (omega arith), star, slash-is) refl in
    rw one at e

-- No end stands at the place i.
pub close_passed : (bs : List ℕ) (i : ℕ) → i + 1 < length bs → ((get_or bs i 0 == STAR) && (get_or bs (i + 1) 0 == SLASH)) ≡ false → after_bytes i (close_len (drop i bs)) ≡ close_len bs → after_bytes (i + 1) (close_len (drop (i + 1) bs)) ≡ close_len bs
close_passed bs i lt none e =
    let none-is : ((get_or bs i 0 == STAR) && (get_or bs (suc i) 0 == SLASH)) ≡ false = rw add-one at none in
    let one : close_len (drop i bs) ≡ option_map suc (close_len (drop (suc i) bs)) = rw (close_len-drop bs i (omega arith), none-is) refl in
    rw add-one (later i (close_len (drop (suc i) bs)) ∙ ap (after_bytes i) (sym one) ∙ e)

-- Too few bytes are left for an end.
pub close_none : (bs : List ℕ) (i : ℕ) → length bs ≤ i + 1 → after_bytes i (close_len (drop i bs)) ≡ close_len bs → None ≡ close_len bs
close_none bs i le e = rw (short bs i (omega arith)) at e

-- ---- the loop over the pieces

-- the tokens so far, and those that are still to come
abbrev pub with_front : List Token → Result (List Token) LexFault → Result (List Token) LexFault
with_front front (Ok ts) = Ok (front ++ ts)
with_front front (Err e) = Err e

-- A piece that covers n bytes leaves what stands after them.
covered : (at n : ℕ) (bs : List ℕ) → tokens_from at n bs ≡ tokens_from (at + n) 0 (drop n bs)
unfolding tokens_from
covered at zero [] = refl
covered at (suc n) [] = refl
covered at zero (b ∷ bs) = rw add-zero refl
covered at (suc n) (b ∷ bs) = let e : at + 1 + n ≡ at + suc n = omega arith in covered (at + 1) n bs ∙ ap (λ (i : ℕ). tokens_from i 0 (drop n bs)) e

-- what is left at the place `at`
abbrev pub left : ℕ → List ℕ → Result (List Token) LexFault
left at bs = tokens_from at 0 (drop at bs)

-- the piece at the place `at`
abbrev pub piece_here : ℕ → List ℕ → Piece
piece_here at bs = piece_of (get_or bs at 0) (drop (at + 1) bs)

pushed : (front : List Token) (t : Token) (r : Result (List Token) LexFault) → with_front (front ++ t ∷ []) r ≡ with_front front (then_token t r)
pushed front t (Ok ts) = ap Ok (append_assoc front (t ∷ []) ts)
pushed front t (Err e) = refl

module _ (at : ℕ) (bs : List ℕ) (lt : at < length bs) where
  next : left at bs ≡ tokens_after at (piece_here at bs) (λ n. tokens_from (at + 1) n (drop (at + 1) bs))
  unfolding tokens_from
  next = at_drop_more (tokens_from at 0) bs at 0 lt

  after_piece : (n : ℕ) → tokens_from (at + 1) n (drop (at + 1) bs) ≡ left (at + 1 + n) bs
  after_piece n = covered (at + 1) n (drop (at + 1) bs) ∙ ap (tokens_from (at + 1 + n) 0) (drop-drop n (at + 1) bs)

  pub blank_step : (n : ℕ) (front : List Token) (total : Result (List Token) LexFault) → piece_here at bs ≡ Blank n → with_front front (left at bs) ≡ total → with_front front (left (at + (1 + n)) bs) ≡ total
  blank_step n front total p so_far =
      let here : left at bs ≡ left (at + 1 + n) bs = next ∙ ap (λ (q : Piece). tokens_after at q (λ n. tokens_from (at + 1) n (drop (at + 1) bs))) p ∙ after_piece n in
      let same : at + 1 + n ≡ at + (1 + n) = omega arith in
      rw (← same, ← here) so_far

  pub token_step : (k : _) (n : ℕ) (front : List Token) (total : Result (List Token) LexFault) → piece_here at bs ≡ Taken k n → with_front front (left at bs) ≡ total → with_front (front ++ record { kind = k; start = at; end = at + 1 + n } ∷ []) (left (at + 1 + n) bs) ≡ total
  token_step k n front total p so_far =
      let here : left at bs ≡ then_token (record { kind = k; start = at; end = at + 1 + n }) (left (at + 1 + n) bs) = next ∙ ap (λ (q : Piece). tokens_after at q (λ n. tokens_from (at + 1) n (drop (at + 1) bs))) p ∙ ap (then_token _) (after_piece n) in
      pushed front (record { kind = k; start = at; end = at + 1 + n }) (left (at + 1 + n) bs) ∙ ap (with_front front) (sym here) ∙ so_far

  pub bad_ends : (n : ℕ) (front : List Token) (total : Result (List Token) LexFault) → piece_here at bs ≡ Bad n → with_front front (left at bs) ≡ total → total ≡ Err (BadByte (at + n))
  bad_ends n front total p so_far = sym so_far ∙ ap (with_front front) (next ∙ ap (λ (q : Piece). tokens_after at q (λ n. tokens_from (at + 1) n (drop (at + 1) bs))) p)

  pub open_ends : (front : List Token) (total : Result (List Token) LexFault) → piece_here at bs ≡ Unclosed → with_front front (left at bs) ≡ total → total ≡ Err (OpenQuote at)
  open_ends front total p so_far = sym so_far ∙ ap (with_front front) (next ∙ ap (λ (q : Piece). tokens_after at q (λ n. tokens_from (at + 1) n (drop (at + 1) bs))) p)

pub all_read : (at : ℕ) (bs : List ℕ) (front : List Token) (total : Result (List Token) LexFault) → length bs ≤ at → with_front front (left at bs) ≡ total → total ≡ Ok front
unfolding tokens_from
all_read at bs front total le so_far =
    let none : drop at bs ≡ [] = drop_all at bs le in
    let here : left at bs ≡ Ok [] = rw none refl in
    sym so_far ∙ ap (with_front front) here ∙ ap Ok (append-nil front)
