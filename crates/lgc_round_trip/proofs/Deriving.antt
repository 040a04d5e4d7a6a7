-- What the grammar derives from tokens of these words, whatever their places are: a lemma for each word of grammars.
use Rattle.std.proofs.Common.{◌≡◌, ℕ, Bool, true, false, List, [], ◌∷◌, ◌++◌, Ok, refl, sym, ap, subst, inl, inr}
use Rattle.std.specs.Prelude.{map}
use Rattle.lgc_grammar.specs.Grammar.{Grammar, One, Allowed, fault_if, Nothing, Mapped, Then, Either, Growing, ended, grown}
use Rattle.lgc_tokens.specs.Spelled.{Spelled}
use Rattle.lgc_round_trip.proofs.Lexing.{Word, word_of}

-- tokens of these words are a phrase, and a is its tree
pub record Derives {A : Type 0} (L : Grammar Spelled A) (a : A) (words : List Word) : Type 0 where
  pub derives : (ts : List Spelled) → map word_of ts ≡ words → L (Ok a) ts

-- tokens of words and of others behind them
pub record Parts (ts : List Spelled) (u v : List Word) : Type 0 where
  pub front : List Spelled
  pub back : List Spelled
  pub split : ts ≡ front ++ back
  pub of_front : map word_of front ≡ u
  pub of_back : map word_of back ≡ v

parts : (ts : List Spelled) (u v : List Word) → map word_of ts ≡ u ++ v → Parts ts u v
parts ts [] v e = record { front = []; back = ts; split = refl; of_front = refl; of_back = e }
parts [] (x ∷ u) v e = absurd cc
parts (t ∷ ts) (x ∷ u) v e =
    let first : word_of t ≡ x = cc in
    let others : map word_of ts ≡ u ++ v = cc in
    let p = parts ts u v others in
    record { front = t ∷ p.front; back = p.back; split = ap (λ s. t ∷ s) p.split; of_front = head_and (word_of t) x (map word_of p.front) u first p.of_front; of_back = p.of_back }
  where
    head_and : (a b : Word) (xs ys : List Word) → a ≡ b → xs ≡ ys → a ∷ xs ≡ b ∷ ys
    head_and a b xs ys e f = cc

-- a token of one word
pub record Single (ts : List Spelled) (w : Word) : Type 0 where
  pub token : Spelled
  pub split : ts ≡ token ∷ []
  pub of_token : word_of token ≡ w

single : (ts : List Spelled) (w : Word) → map word_of ts ≡ w ∷ [] → Single ts w
single [] w e = absurd cc
single (t ∷ []) w e = record { token = t; split = refl; of_token = cc }
single (t ∷ s ∷ ts) w e = absurd cc

-- ---- the words of grammars

pub derive_then : {A B : Type 0} (L : Grammar Spelled A) (M : A → Grammar Spelled B) (a : A) (b : B) (u v : List Word) → Derives L a u → Derives (M a) b v → Derives (Then L M) b (u ++ v)
derive_then L M a b u v f g = record { derives = λ ts e. let p = parts ts u v e in (a, p.front, p.back, f.derives p.front p.of_front, g.derives p.back p.of_back, p.split) }

-- a token whose tree nobody looks at
pub derive_skip : {B : Type 0} (test : Spelled → Bool) (M : Grammar Spelled B) (b : B) (w : Word) (v : List Word) → ((t : Spelled) → word_of t ≡ w → test t ≡ true) → Derives M b v → Derives (Then (One test) (λ _. M)) b (w ∷ v)
derive_skip {B} test M b w v passes g = record { derives = by }
  where
    by : (ts : List Spelled) → map word_of ts ≡ w ∷ v → Then (One test) (λ _. M) (Ok b) ts
    by [] e = absurd cc
    by (t ∷ ts) e =
        let first : word_of t ≡ w = cc in
        let others : map word_of ts ≡ v = cc in
        (t, t ∷ [], ts, (passes t first, refl), g.derives ts others, refl)

pub derive_nothing : {A : Type 0} (a : A) → Derives (Nothing a) a []
derive_nothing {A} a = record { derives = by }
  where
    by : (ts : List Spelled) → map word_of ts ≡ [] → Nothing a (Ok a) ts
    by [] e = (refl, refl)
    by (t ∷ ts) e = absurd cc

pub derive_mapped : {A B : Type 0} (f : A → B) (L : Grammar Spelled A) (a : A) (u : List Word) → Derives L a u → Derives (Mapped f L) (f a) u
derive_mapped f L a u g = record { derives = λ ts e. (a, refl, g.derives ts e) }

-- a token alone, with a tree that its word tells
pub derive_one : {B : Type 0} (f : Spelled → B) (test : Spelled → Bool) (b : B) (w : Word) → ((t : Spelled) → word_of t ≡ w → (b ≡ f t) × (test t ≡ true)) → Derives (Mapped f (One test)) b (w ∷ [])
derive_one f test b w right = record { derives = λ ts e. let s = single ts w e in let (is, passes) = right s.token s.of_token in (s.token, is, (passes, s.split)) }

-- the same for a token that may break a rule, but keeps it
pub derive_allowed : {B : Type 0} (f : Spelled → B) (test breaks : Spelled → Bool) (number : ℕ) (b : B) (w : Word) → ((t : Spelled) → word_of t ≡ w → (b ≡ f t) × (test t ≡ true) × (breaks t ≡ false)) → Derives (Mapped f (Allowed test (λ t. fault_if (breaks t) number))) b (w ∷ [])
derive_allowed f test breaks number b w right = record { derives = λ ts e. let s = single ts w e in let (is, passes, keeps) = right s.token s.of_token in (s.token, is, (passes, ap (λ c. fault_if c number) keeps, s.split)) }

pub derive_left : {A : Type 0} (L M : Grammar Spelled A) (a : A) (u : List Word) → Derives L a u → Derives (Either L M) a u
derive_left L M a u f = record { derives = λ ts e. inl (f.derives ts e) }

pub derive_other : {A : Type 0} (L M : Grammar Spelled A) (a : A) (u : List Word) → Derives M a u → Derives (Either L M) a u
derive_other L M a u f = record { derives = λ ts e. inr (f.derives ts e) }

-- ---- repetitions

pub derive_ended : {A : Type 0} (L : A → Grammar Spelled A) (a : A) → Derives (Growing L a) a []
derive_ended {A} L a = record { derives = by }
  where
    by : (ts : List Spelled) → map word_of ts ≡ [] → Growing L a (Ok a) ts
    by [] e = ended a
    by (t ∷ ts) e = absurd cc

pub derive_grown : {A : Type 0} (L : A → Grammar Spelled A) (a b c : A) (u v : List Word) → Derives (L a) b u → Derives (Growing L b) c v → Derives (Growing L a) c (u ++ v)
derive_grown L a b c u v f g = record { derives = λ ts e. let p = parts ts u v e in subst (λ s. Growing L a (Ok c) s) (sym p.split) (grown a b (Ok c) p.front p.back (f.derives p.front p.of_front) (g.derives p.back p.of_back)) }

-- ---- other words for the same

pub derive_words : {A : Type 0} (L : Grammar Spelled A) (a : A) (u v : List Word) → u ≡ v → Derives L a u → Derives L a v
derive_words L a u v e f = subst (λ w. Derives L a w) e f

pub derive_tree : {A : Type 0} (L : Grammar Spelled A) (a b : A) (u : List Word) → a ≡ b → Derives L a u → Derives L b u
derive_tree L a b u e f = subst (λ c. Derives L c u) e f
