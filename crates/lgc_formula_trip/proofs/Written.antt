-- Texts that are written for trees of a grammar: a text is cut into lexemes, and the grammar derives the tree from tokens of these.
use Rattle.std.proofs.Common.{◌≡◌, ℕ, Bool, true, List, [], ◌∷◌, ◌++◌, Ok, refl, sym, ap, subst, inl, inr}
use Rattle.std.specs.Prelude.{map}
use Rattle.lgc_grammar.specs.Grammar.{Grammar, One, Nothing, Mapped, Then, Either, Growing, ended, grown}
use Rattle.lgc_grammar.specs.Seen.{Seen}
use Rattle.lgc_formula_trip.proofs.Cuts.{Lexeme, Anything, Cut, cut_nothing, cut_then, cut_weaker}

-- tokens of these lexemes, where R says which tokens are of a lexeme
abbrev pub Are : {S : Type 0} → (S → Lexeme → Type 0) → List S → List Lexeme → Type 0
Are R [] [] = Unit {0}
Are R (t ∷ ts) (l ∷ ls) = R t l × Are R ts ls
Are R _ _ = ⊥

module _ {S : Type 0} (R : S → Lexeme → Type 0) where
  -- tokens of lexemes and of others behind them
  record Parts (ts : List S) (u v : List Lexeme) : Type 0 where
    front : List S
    back : List S
    split : ts ≡ front ++ back
    of_front : Are R front u
    of_back : Are R back v

  parts : (ts : List S) (u v : List Lexeme) → Are R ts (u ++ v) → Parts ts u v
  parts ts [] v are = record { front = []; back = ts; split = refl; of_front = tt; of_back = are }
  parts [] (l ∷ u) v are = absurd are
  parts (t ∷ ts) (l ∷ u) v are =
      let p = parts ts u v are.1 in
      record { front = t ∷ p.front; back = p.back; split = ap (λ (s : List S). t ∷ s) p.split; of_front = (are.0, p.of_front); of_back = p.of_back }

  -- Where what is behind the text is as F asks for, the text is cut into lexemes, and tokens of these are a phrase with the tree a.
  pub record Written {A : Type 0} (F : List ℕ → Type 0) (L : Grammar S A) (a : A) (text : List ℕ) : Type 0 where
    pub lexemes : List Lexeme
    pub cut : Cut F text lexemes
    pub derives : (ts : List S) → Are R ts lexemes → L (Ok a) ts

  -- ---- the words of grammars

  pub written_then : {A B : Type 0} (F G : List ℕ → Type 0) (L : Grammar S A) (M : A → Grammar S B) (a : A) (b : B) (x y : List ℕ) → ((rest : List ℕ) → G rest → F (y ++ rest)) → Written F L a x → Written G (M a) b y → Written G (Then L M) b (x ++ y)
  written_then F G L M a b x y follows p q = record {
    lexemes = p.lexemes ++ q.lexemes;
    cut = cut_then F G x y p.lexemes q.lexemes follows p.cut q.cut;
    derives = λ ts are. let s = parts ts p.lexemes q.lexemes are in (a, s.front, s.back, p.derives s.front s.of_front, q.derives s.back s.of_back, s.split);
  }

  -- A token, and behind it what may speak of it: M of the token derives what N derives.
  pub written_first : {B : Type 0} (F G : List ℕ → Type 0) (K : Grammar S S) (M : S → Grammar S B) (N : Grammar S B) (b : B) (l : Lexeme) (x y : List ℕ) → ((rest : List ℕ) → G rest → F (y ++ rest)) → Cut F x (l ∷ []) → ((t : S) → R t l → K (Ok t) (t ∷ [])) → ((t : S) → R t l → (ts : List S) → N (Ok b) ts → M t (Ok b) ts) → Written G N b y → Written G (Then K M) b (x ++ y)
  written_first {B} F G K M N b l x y follows cut takes turns q = record {
    lexemes = l ∷ q.lexemes;
    cut = cut_then F G x y (l ∷ []) q.lexemes follows cut q.cut;
    derives = by;
  }
    where
      by : (ts : List S) → Are R ts (l ∷ q.lexemes) → Then K M (Ok b) ts
      by [] are = absurd are
      by (t ∷ ts) are = (t, t ∷ [], ts, takes t are.0, turns t are.0 ts (q.derives ts are.1), refl)

  -- a token that nothing behind it speaks of
  pub written_behind : {B : Type 0} (G : List ℕ → Type 0) (test : S → Bool) (N : Grammar S B) (b : B) (l : Lexeme) (x y : List ℕ) → Cut Anything x (l ∷ []) → ((t : S) → R t l → test t ≡ true) → Written G N b y → Written G (Then (One test) (λ _. N)) b (x ++ y)
  written_behind G test N b l x y cut passes q = written_first Anything G (One test) (λ _. N) N b l x y (λ rest g. tt) cut (λ t r. (passes t r, refl)) (λ t r ts d. d) q

  -- a token alone, with a tree that it tells
  pub written_one : {B : Type 0} (F : List ℕ → Type 0) (f : S → B) (K : Grammar S S) (b : B) (l : Lexeme) (x : List ℕ) → Cut F x (l ∷ []) → ((t : S) → R t l → (b ≡ f t) × K (Ok t) (t ∷ [])) → Written F (Mapped f K) b x
  written_one {B} F f K b l x cut tells = record { lexemes = l ∷ []; cut = cut; derives = by }
    where
      by : (ts : List S) → Are R ts (l ∷ []) → Mapped f K (Ok b) ts
      by [] are = absurd are
      by (t ∷ []) are = let (is, takes) = tells t are.0 in (t, is, takes)
      by (t ∷ u ∷ ts) are = absurd are.1

  pub written_nothing : {A : Type 0} (F : List ℕ → Type 0) (a b : A) → b ≡ a → Written F (Nothing a) b []
  written_nothing {A} F a b same = record { lexemes = []; cut = cut_nothing F; derives = by }
    where
      by : (ts : List S) → Are R ts [] → Nothing a (Ok b) ts
      by [] are = (same, refl)
      by (t ∷ ts) are = absurd are

  pub written_mapped : {A B : Type 0} (F : List ℕ → Type 0) (f : A → B) (L : Grammar S A) (a : A) (b : B) (x : List ℕ) → b ≡ f a → Written F L a x → Written F (Mapped f L) b x
  written_mapped F f L a b x same p = record { lexemes = p.lexemes; cut = p.cut; derives = λ ts are. (a, same, p.derives ts are) }

  pub written_left : {A : Type 0} (F : List ℕ → Type 0) (L M : Grammar S A) (a : A) (x : List ℕ) → Written F L a x → Written F (Either L M) a x
  written_left F L M a x p = record { lexemes = p.lexemes; cut = p.cut; derives = λ ts are. inl (p.derives ts are) }

  pub written_right : {A : Type 0} (F : List ℕ → Type 0) (L M : Grammar S A) (a : A) (x : List ℕ) → Written F M a x → Written F (Either L M) a x
  written_right F L M a x p = record { lexemes = p.lexemes; cut = p.cut; derives = λ ts are. inr (p.derives ts are) }

  -- ---- repetitions

  pub written_ended : {A : Type 0} (G : List ℕ → Type 0) (L : A → Grammar S A) (a b : A) → b ≡ a → Written G (Growing L a) b []
  written_ended {A} G L a b same = record { lexemes = []; cut = cut_nothing G; derives = by }
    where
      by : (ts : List S) → Are R ts [] → Growing L a (Ok b) ts
      by [] are = subst (λ (c : A). Growing L a (Ok c) []) (sym same) (ended a)
      by (t ∷ ts) are = absurd are

  pub written_grown : {A : Type 0} (F G : List ℕ → Type 0) (L : A → Grammar S A) (a b c : A) (x y : List ℕ) → ((rest : List ℕ) → G rest → F (y ++ rest)) → Written F (L a) b x → Written G (Growing L b) c y → Written G (Growing L a) c (x ++ y)
  written_grown F G L a b c x y follows p q = record {
    lexemes = p.lexemes ++ q.lexemes;
    cut = cut_then F G x y p.lexemes q.lexemes follows p.cut q.cut;
    derives = λ ts are. let s = parts ts p.lexemes q.lexemes are in subst (λ (z : List S). Growing L a (Ok c) z) (sym s.split) (grown a b (Ok c) s.front s.back (p.derives s.front s.of_front) (q.derives s.back s.of_back));
  }

  -- ---- other words for the same

  pub written_weaker : {A : Type 0} (F G : List ℕ → Type 0) (L : Grammar S A) (a : A) (x : List ℕ) → ((rest : List ℕ) → G rest → F rest) → Written F L a x → Written G L a x
  written_weaker F G L a x weaker p = record { lexemes = p.lexemes; cut = cut_weaker F G x p.lexemes weaker p.cut; derives = p.derives }

  pub written_text : {A : Type 0} (F : List ℕ → Type 0) (L : Grammar S A) (a : A) (x y : List ℕ) → x ≡ y → Written F L a x → Written F L a y
  written_text F L a x y e p = subst (λ (z : List ℕ). Written F L a z) e p

  pub written_tree : {A : Type 0} (F : List ℕ → Type 0) (L : Grammar S A) (a b : A) (x : List ℕ) → a ≡ b → Written F L a x → Written F L b x
  written_tree {A} F L a b x e p = subst (λ (c : A). Written F L c x) e p

-- tokens that are seen as others
pub written_seen : {S T A : Type 0} (R : S → Lexeme → Type 0) (Q : T → Lexeme → Type 0) (see : S → T) (F : List ℕ → Type 0) (L : Grammar T A) (a : A) (x : List ℕ) → ((t : S) (l : Lexeme) → R t l → Q (see t) l) → Written Q F L a x → Written R F (Seen see L) a x
written_seen {S} {T} {A} R Q see F L a x sees p = record { lexemes = p.lexemes; cut = p.cut; derives = λ ts are. p.derives (map see ts) (seen ts p.lexemes are) }
  where
    seen : (ts : List S) (ls : List Lexeme) → Are R ts ls → Are Q (map see ts) ls
    seen [] [] are = tt
    seen [] (l ∷ ls) are = absurd are
    seen (t ∷ ts) [] are = absurd are
    seen (t ∷ ts) (l ∷ ls) are = (sees t l are.0, seen ts ls are.1)
