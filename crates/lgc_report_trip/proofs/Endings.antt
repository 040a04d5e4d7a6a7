-- What may be behind a set and behind a rule: a comma, or a word, also behind a blank.
use Rattle.std.proofs.Common.{◌≡◌, ℕ, ◌+◌, false, List, [], ◌∷◌, Result, Ok, Err, refl, sym, ap, subst, ◌∙◌}
use Rattle.std.specs.List.{prefix_len}
use Rattle.lgc_lexer.specs.declared.token.Kind.{Kind}
use Rattle.lgc_lexer.specs.declared.token.Kind.TheVariants.{Lower, Punct}
use Rattle.lgc_lexer.specs.declared.token.Token.{Token}
use Rattle.lgc_lexer.specs.declared.fault.LexFault.{LexFault}
use Rattle.lgc_lexer.specs.Forms.{is_word}
use Rattle.lgc_lexer.specs.Tokens.{piece_of, tokens_from, then_token}
use Rattle.lgc_tokens.specs.Spelled.{is_symbol as is_symbol_kind}
use Rattle.lgc_round_trip.proofs.Lexing.{Word, words_in, begins_with, Lexes, IsTaken, IsBlankByte}
use Rattle.lgc_round_trip.proofs.Pieces.{comma_taken}
use Rattle.lgc_report_trip.proofs.Printed.{EndsSign}

-- ---- words that begin with no Symbol ^

token_first : (t : Token) (bytes : List ℕ) → is_symbol_kind t.kind ≡ false → (others : Result (List Token) LexFault) (tokens : List Token) → then_token t others ≡ Ok tokens → begins_with (words_in bytes tokens) ≡ false
token_first t bytes none (Err e) tokens h = absurd cc
token_first t bytes none (Ok ts) tokens h =
    let same : t ∷ ts ≡ tokens = cc in
    subst (λ (us : List Token). begins_with (words_in bytes us) ≡ false) same (rw none refl)

no_caret : (b n : ℕ) (rest : List ℕ) (kind : Kind) → is_symbol_kind kind ≡ false → IsTaken b rest kind n → (words : List Word) → Lexes (b ∷ rest) words → begins_with words ≡ false
unfolding tokens_from
no_caret b n rest kind none taken words l =
    let told = l.behind [] in
    let t : Token = record { kind = kind; start = 0; end = 0 + 1 + n } in
    let after : ℕ → Result (List Token) LexFault = λ m. tokens_from (0 + 1) m rest in
    let cut : then_token t (after n) ≡ Ok told.tokens = sym (taken.gives 0 after) ∙ told.cut in
    ap begins_with (sym told.seen) ∙ token_first t (b ∷ rest) none (after n) told.tokens cut

-- the same behind a blank
no_caret_spaced : (a b n : ℕ) (rest : List ℕ) (kind : Kind) → is_symbol_kind kind ≡ false → IsBlankByte a (b ∷ rest) → IsTaken b rest kind n → (words : List Word) → Lexes (a ∷ b ∷ rest) words → begins_with words ≡ false
unfolding tokens_from
no_caret_spaced a b n rest kind none blank taken words l =
    let told = l.behind [] in
    let t : Token = record { kind = kind; start = 1; end = 1 + 1 + n } in
    let after : ℕ → Result (List Token) LexFault = λ m. tokens_from (1 + 1) m rest in
    let outer : ℕ → Result (List Token) LexFault = λ m. tokens_from (0 + 1) m (b ∷ rest) in
    let skipped : outer 0 ≡ Ok told.tokens = sym (blank.gives 0 outer) ∙ told.cut in
    let cut : then_token t (after n) ≡ Ok told.tokens = sym (taken.gives 1 after) ∙ skipped in
    ap begins_with (sym told.seen) ∙ token_first t (a ∷ b ∷ rest) none (after n) told.tokens cut

-- ---- what is behind

pub ends_comma : (rest : List ℕ) → EndsSign (44 ∷ rest)
ends_comma rest = (refl, no_caret 44 0 rest Punct refl (comma_taken rest))

-- a blank, and the b of `by`
pub ends_by : (rest : List ℕ) → EndsSign (32 ∷ 98 ∷ rest)
unfolding piece_of
ends_by rest = (refl, no_caret_spaced 32 98 (prefix_len is_word rest) rest Lower refl (record { gives = λ at after. refl }) (record { gives = λ at after. refl }))

-- a blank, and the h of `holds`
pub ends_holds : (rest : List ℕ) → EndsSign (32 ∷ 104 ∷ rest)
unfolding piece_of
ends_holds rest = (refl, no_caret_spaced 32 104 (prefix_len is_word rest) rest Lower refl (record { gives = λ at after. refl }) (record { gives = λ at after. refl }))

-- the r of `rule`, the l of `line`, the c of `claim` and the e of `end`
pub ends_rule : (rest : List ℕ) → EndsSign (114 ∷ rest)
unfolding piece_of
ends_rule rest = (refl, no_caret 114 (prefix_len is_word rest) rest Lower refl (record { gives = λ at after. refl }))

pub ends_line : (rest : List ℕ) → EndsSign (108 ∷ rest)
unfolding piece_of
ends_line rest = (refl, no_caret 108 (prefix_len is_word rest) rest Lower refl (record { gives = λ at after. refl }))

pub ends_claim : (rest : List ℕ) → EndsSign (99 ∷ rest)
unfolding piece_of
ends_claim rest = (refl, no_caret 99 (prefix_len is_word rest) rest Lower refl (record { gives = λ at after. refl }))

pub ends_end : (rest : List ℕ) → EndsSign (101 ∷ rest)
unfolding piece_of
ends_end rest = (refl, no_caret 101 (prefix_len is_word rest) rest Lower refl (record { gives = λ at after. refl }))
