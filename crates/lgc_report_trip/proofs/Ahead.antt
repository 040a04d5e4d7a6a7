-- Tokens as reports see them, where others are behind them.
use Rattle.std.proofs.Common.{◌≡◌, ℕ, Bool, List, [], ◌∷◌, ◌++◌, map, refl, sym, ap, ap₂, ◌∙◌, append_assoc, append-nil}
use Rattle.lgc_grammar.specs.Reading.{next_is}
use Rattle.lgc_lexer.specs.declared.token.Token.{Token}
use Rattle.lgc_values.specs.Logic.{Logic}
use Rattle.lgc_tokens.specs.Spelled.{Spelled, spelled_all}
use Rattle.lgc_formulas.specs.Named.{Named, named, named_all, role_of}
use Rattle.lgc_formulas.specs.Setting.{Setting}
use Rattle.lgc_report_reader.specs.Reported.{Reported, follows_name, formula_first, reported, reported_all, spelled_of}
use Rattle.lgc_round_trip.proofs.Lexing.{Word, word_of, words_in}
use Rattle.lgc_formula_trip.proofs.Cuts.{lexeme_of}
use Rattle.lgc_formula_trip.proofs.Written.{Are}
use Rattle.lgc_formula_trip.proofs.Tokens.{NamedAs}

-- ---- tokens of words

-- tokens of these words, with the roles of their texts
abbrev pub AreNamed : Logic → List Named → List Word → Type 0
AreNamed logic [] [] = Unit {0}
AreNamed logic (t ∷ ts) (w ∷ ws) = ((word_of t.spelled ≡ w) × (t.role ≡ role_of logic w.text)) × AreNamed logic ts ws
AreNamed logic _ _ = ⊥

-- tokens of words and of others behind them
pub record Parts (logic : Logic) (ts : List Named) (u v : List Word) : Type 0 where
  pub front : List Named
  pub back : List Named
  pub split : ts ≡ front ++ back
  pub of_front : AreNamed logic front u
  pub of_back : AreNamed logic back v

module _ (logic : Logic) where
  pub parts : (ts : List Named) (u v : List Word) → AreNamed logic ts (u ++ v) → Parts logic ts u v
  parts ts [] v are = record { front = []; back = ts; split = refl; of_front = tt; of_back = are }
  parts [] (w ∷ u) v are = absurd are
  parts (t ∷ ts) (w ∷ u) v are =
      let p = parts ts u v are.1 in
      record { front = t ∷ p.front; back = p.back; split = ap (λ (s : List Named). t ∷ s) p.split; of_front = (are.0, p.of_front); of_back = p.of_back }

  pub are_both : (a b : List Named) (u v : List Word) → AreNamed logic a u → AreNamed logic b v → AreNamed logic (a ++ b) (u ++ v)
  are_both [] b [] v f g = g
  are_both [] b (w ∷ u) v f g = absurd f
  are_both (t ∷ a) b [] v f g = absurd f
  are_both (t ∷ a) b (w ∷ u) v f g = (f.0, are_both a b u v f.1 g)

  -- tokens of words are tokens of their lexemes
  pub are_lexemes : (ts : List Named) (ws : List Word) → AreNamed logic ts ws → Are (NamedAs logic) ts (map lexeme_of ws)
  are_lexemes [] [] are = tt
  are_lexemes [] (w ∷ ws) are = absurd are
  are_lexemes (t ∷ ts) [] are = absurd are
  are_lexemes (t ∷ ts) (w ∷ ws) are =
      let same : word_of t.spelled ≡ w = are.0.0 in
      let kind : t.spelled.token.kind ≡ w.kind = ap (λ (v : Word). v.kind) same in
      let text : t.spelled.text ≡ w.text = ap (λ (v : Word). v.text) same in
      (((kind, text), are.0.1), are_lexemes ts ws are.1)

  pub are_words : (ts : List Named) (ws : List Word) → AreNamed logic ts ws → map word_of (map (λ (t : Named). t.spelled) ts) ≡ ws
  are_words [] [] are = refl
  are_words [] (w ∷ ws) are = absurd are
  are_words (t ∷ ts) [] are = absurd are
  are_words (t ∷ ts) (w ∷ ws) are = ap₂ (λ (v : Word) (vs : List Word). v ∷ vs) are.0.0 (are_words ts ws are.1)

  pub named_words : (bytes : List ℕ) (ts : List Token) → AreNamed logic (named_all logic bytes ts) (words_in bytes ts)
  named_words bytes [] = tt
  named_words bytes (t ∷ ts) = ((refl, refl), named_words bytes ts)

-- ---- what reports see

module _ (s : Setting) where
  -- a token before others
  abbrev pub seen : Named → List Named → Reported
  seen t rest = record { named = t; names_formula = next_is (λ u. follows_name u.spelled) rest; formula_here = formula_first s (t ∷ rest) }

  -- tokens, where others are behind them
  abbrev pub ahead : List Named → List Named → List Reported
  ahead [] behind = []
  ahead (t ∷ ts) behind = seen t (ts ++ behind) ∷ ahead ts behind

  pub ahead_apart : (u v behind : List Named) → ahead (u ++ v) behind ≡ ahead u (v ++ behind) ++ ahead v behind
  ahead_apart [] v behind = refl
  ahead_apart (t ∷ u) v behind = ap₂ (λ (rest : List Named) (ts : List Reported). seen t rest ∷ ts) (append_assoc u v behind) (ahead_apart u v behind)

  pub ahead_named : (ts behind : List Named) → map (λ (t : Reported). t.named) (ahead ts behind) ≡ ts
  ahead_named [] behind = refl
  ahead_named (t ∷ ts) behind = ap (λ (us : List Named). t ∷ us) (ahead_named ts behind)

  pub ahead_spelled : (ts behind : List Named) → map spelled_of (ahead ts behind) ≡ map (λ (t : Named). t.spelled) ts
  ahead_spelled [] behind = refl
  ahead_spelled (t ∷ ts) behind = ap (λ (us : List Spelled). t.spelled ∷ us) (ahead_spelled ts behind)

  -- the tokens of bytes, with nothing behind them
  module _ (bytes : List ℕ) where
    follows_same : (ts : List Token) → next_is follows_name (spelled_all bytes ts) ≡ next_is (λ (u : Named). follows_name u.spelled) (named_all s.logic bytes ts)
    follows_same [] = refl
    follows_same (t ∷ ts) = refl

    pub reported_ahead : (ts : List Token) → reported_all s bytes ts ≡ ahead (named_all s.logic bytes ts) []
    reported_ahead [] = refl
    reported_ahead (t ∷ ts) = ap₂ (λ (x : Reported) (xs : List Reported). x ∷ xs) (first ∙ nothing_behind) (reported_ahead ts)
      where
        here : Named
        here = named s.logic bytes t ts

        first : reported s bytes t ts ≡ seen here (named_all s.logic bytes ts)
        first = ap (λ (b : Bool). record { named = here; names_formula = b; formula_here = formula_first s (here ∷ named_all s.logic bytes ts) }) (follows_same ts)

        nothing_behind : seen here (named_all s.logic bytes ts) ≡ seen here (named_all s.logic bytes ts ++ [])
        nothing_behind = ap (seen here) (sym (append-nil (named_all s.logic bytes ts)))
