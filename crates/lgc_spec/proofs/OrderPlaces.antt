-- Places in order texts, and the values of their links.
use Rattle.std.proofs.Common.{◌≡◌, ℕ, zero, suc, ◌+◌, ◌<◌, ◌≤◌, ◌-◌, Bool, List, [], ◌∷◌, ◌++◌, All, length, map, get_or, find, not, Option, Some, cond, true, false, Result, Ok, Err, sym, ap, arith}
use Rattle.std.specs.Prelude.{drop}
use Rattle.std.specs.List.{flat_map, range_with_len}
use Rattle.std.proofs.lemmas.List.{length-drop, length-take-le}
use Rattle.std.proofs.lemmas.List.Elements.{All-append, All-map, All-filter}
use Rattle.std.proofs.lemmas.List.FromFn.{length-range_with_len, get_or-range_with_len}
use Rattle.lgc_grammar.specs.Grammar.{AnswersAll}
use Rattle.lgc_lexer.specs.declared.token.Token.{Token}
use Rattle.lgc_lexer.specs.declared.fault.LexFault.{LexFault}
use Rattle.lgc_lexer.specs.declared.fault.LexFault.TheVariants as lex
use Rattle.lgc_lexer.specs.Tokens.{tokens_of}
use Rattle.lgc_lexer.specs.Spans.{AllIn}
use Rattle.lgc_lexer.proofs.SpanLaws.{tokens_all_in}
use Rattle.lgc_values.specs.Values.{values_where}
use Rattle.lgc_orders.specs.Order.{LinksValues}
use Rattle.lgc_parser.specs.declared.fault.SyntaxFault.{SyntaxFault}
use Rattle.lgc_parser.specs.declared.fault.SyntaxFault.TheVariants as syntax
use Rattle.lgc_parser.specs.declared.tree.Word.{Word}
use Rattle.lgc_tokens.specs.Spelled.{Spelled, spelled, spelled_all, place}
use Rattle.lgc_parser.specs.Gives.{Says}
use Rattle.lgc_parser.specs.OrderGrammar.{Order}
use Rattle.lgc_spec.specs.Orderings.{pairs_of, chain_links, links_of}
use Rattle.lgc_spec.specs.OrderTexts.{StandsIn}
use Rattle.lgc_spec.specs.Texts.{lexed, tokens_given}
use Rattle.lgc_spec.specs.Values.{values_named}
use Rattle.lgc_spec.specs.Words.{LiesIn, text_of, is_among, unknown_word}

-- ---- both ends of each link are values

pub All-flat_map : {X Y : Type 0} (P : Y → Type 0) (part : X → List Y) (xs : List X) → All (λ x. All P (part x)) xs → All P (flat_map part xs)
All-flat_map P part [] each = λ k d lt. absurd (omega arith)
All-flat_map P part (x ∷ xs) each =
    All-append P (part x) (flat_map part xs) (each zero x (omega arith)) (All-flat_map P part xs (λ k d lt. each (suc k) d (omega arith)))

values_below : (n : ℕ) (test : ℕ → Bool) → All (λ v. v < n) (values_where n test)
values_below n test =
    All-filter test (λ v. v < n) (range_with_len 0 n)
    (λ k d lt.
    let size : length (range_with_len 0 n) ≡ n = length-range_with_len 0 n in
    let here : get_or (range_with_len 0 n) k d ≡ 0 + k = get_or-range_with_len 0 n k d (omega arith) in
    omega arith)

-- P holds of the pairs of two lists where it holds of each member of the one with each of the other
pairs_have : (n : ℕ) (left right : List ℕ) → All (λ v. v < n) left → All (λ v. v < n) right → LinksValues n (pairs_of left right)
pairs_have n [] right l r = λ k d lt. absurd (omega arith)
pairs_have n (a ∷ left) right l r =
    All-append (λ link. (link.0 < n) × (link.1 < n)) (map (λ b. (a, b)) right) (pairs_of left right)
    (All-map (λ link. (link.0 < n) × (link.1 < n)) (λ b. (a, b)) right (λ k d lt. (l zero a (omega arith), r k d lt)))
    (pairs_have n left right (λ k d lt. l (suc k) d (omega arith)) r)

pub links_are_values : (text : List ℕ) (names : List (List ℕ)) (chains : List (List (List Word))) → LinksValues (length names) (links_of text names chains)
links_are_values text names chains =
    All-flat_map (λ link. (link.0 < length names) × (link.1 < length names)) (chain_links text names) chains
    (λ i chain lt. All-flat_map (λ link. (link.0 < length names) × (link.1 < length names)) (λ nodes. pairs_of (values_named text names nodes.0) (values_named text names nodes.1)) _
    (λ j nodes le. pairs_have (length names) _ _ (values_below _ _) (values_below _ _)))

-- ---- tokens

lexed_ok : (start : ℕ) (found : Result (List Token) LexFault) (tokens : List Token) → lexed start found ≡ Ok tokens → found ≡ Ok tokens
lexed_ok start (Ok ts) tokens e = cc
lexed_ok start (Err (lex.BadByte offset)) tokens e = cc
lexed_ok start (Err (lex.OpenQuote offset)) tokens e = cc
lexed_ok start (Err lex.Memory) tokens e = cc

pub given_tokens : (start : ℕ) (text : List ℕ) (tokens : List Token) → tokens_given start text ≡ Ok tokens → tokens_of text ≡ Ok tokens
given_tokens start text tokens e = lexed_ok start (tokens_of text) tokens e

-- the first token that is left begins in the bytes
place_within : (bytes : List ℕ) (tokens : List Token) (front rest : List Spelled) → AllIn bytes tokens → spelled_all bytes tokens ≡ front ++ rest → place (length bytes) rest ≤ length bytes
place_within bytes tokens front [] all e = omega arith
place_within bytes [] [] (r ∷ rest) all e = cc
place_within bytes [] (f ∷ front) (r ∷ rest) all e = cc
place_within bytes (t ∷ tokens) [] (r ∷ rest) all e =
    let same : spelled bytes t tokens ≡ r = cc in
    let begins : t.start ≡ r.token.start = ap (λ s. s.token.start) same in
    omega (arith, all.0.0, all.0.1)
place_within bytes (t ∷ tokens) (f ∷ front) (r ∷ rest) all e =
    let tail : spelled_all bytes tokens ≡ front ++ r ∷ rest = cc in
    place_within bytes tokens front (r ∷ rest) all.1 tail

pub offset_within : (start : ℕ) (text : List ℕ) (tokens : List Token) (fault : SyntaxFault) (offset : ℕ) → tokens_given start text ≡ Ok tokens → fault ≡ syntax.Unexpected offset → Says {X = List (List (List Word))} (AnswersAll Order (spelled_all text tokens)) (length text) (λ x. x) (Err fault) → offset ≤ length text
offset_within start text tokens syntax.Memory offset e is h = cc
offset_within start text tokens (syntax.Unexpected told) offset e is h =
    let same : told ≡ offset = cc in
    let within = place_within text tokens h.1.1.front h.0 (tokens_all_in text tokens (given_tokens start text tokens e)) h.1.1.split in
    omega (arith, h.2)

-- ---- the word that names no value

found_has : (P : Word → Type 0) (test : Word → Bool) (ws : List Word) (w : Word) → All P ws → find test ws ≡ Some w → P w
found_has P test [] w all e = cc
found_has P test (x ∷ ws) w all e = step (test x) (find test ws) e (λ d. found_has P test ws w (λ k d lt. all (suc k) d (omega arith)) d) where
  step : (here : Bool) (rest : Option Word) → cond here (Some x) rest ≡ Some w → (rest ≡ Some w → P w) → P w
  step true rest e later = let same : x ≡ w = cc in rw (← same) (all zero x (omega arith))
  step false rest e later = later e

pub unknown_stands : (len : ℕ) (text : List ℕ) (names : List (List ℕ)) (chains : List (List (List Word))) (w : Word) → All (All (All (StandsIn len))) chains → Some w ≡ unknown_word text names (flat_map (flat_map (λ node. node)) chains) → w.at ≤ len
unknown_stands len text names chains w all e =
    (found_has (StandsIn len) (λ v. not (is_among names (text_of text v))) (flat_map (flat_map (λ node. node)) chains) w
    (All-flat_map (StandsIn len) (flat_map (λ node. node)) chains (λ i c lt. All-flat_map (StandsIn len) (λ node. node) _ (all i c lt))) (sym e)).1

pub length-text_of : (bytes : List ℕ) (w : Word) → LiesIn (length bytes) w → length (text_of bytes w) ≡ w.end - w.start
length-text_of bytes w h =
    let rest : length (drop w.start bytes) ≡ length bytes - w.start = length-drop w.start bytes in
    length-take-le (w.end - w.start) (drop w.start bytes) (omega (arith, h.0, h.1))
