-- What holds of all tokens holds of the parts of a tree: for each word of EBNF, from the parts to the whole.
use Rattle.std.proofs.Common.{◌≡◌, Bool, true, List, [], ◌∷◌, ◌++◌, Ok, All, inl, inr, sym, subst}
use Rattle.std.specs.List.{AllByRecursion}
use Rattle.std.proofs.lemmas.List.Elements.{All-nil, All-cons}
use Rattle.lgc_grammar.specs.Grammar.{Grammar, One, Nothing, Mapped, Then, Either, Optional, Row, Many, Listed, Separated, Loosely, Between}

-- where F holds of the tokens of a phrase, R holds of its tree
pub record Keeps {T A : Type 0} (F : T → Type 0) (L : Grammar T A) (R : A → Type 0) : Type 0 where
  pub keeps : (a : A) (ts : List T) → L (Ok a) ts → AllByRecursion F ts → R a

both : {T : Type 0} (F : T → Type 0) (v w : List T) → AllByRecursion F (v ++ w) → AllByRecursion F v × AllByRecursion F w
both F [] w h = (tt, h)
both F (t ∷ v) w h = let (x, y) = both F v w h.1 in ((h.0, x), y)

module _ {T : Type 0} (F : T → Type 0) where
  -- where R holds of each token of which F holds and which passes the test
  pub one_keeps : (R : T → Type 0) (test : T → Bool) → ((t : T) → F t → test t ≡ true → R t) → Keeps F (One test) R
  one_keeps R test says = record { keeps = λ t ts h all. says t (subst (AllByRecursion F) h.1 all).0 h.0 }

  module _ {A : Type 0} (R : A → Type 0) where
    pub nothing_keeps : (c : A) → R c → Keeps F (Nothing c) R
    nothing_keeps c r = record { keeps = λ a ts h all. subst R (sym h.0) r }

    pub either_keeps : {L M : Grammar T A} → Keeps F L R → Keeps F M R → Keeps F (Either L M) R
    either_keeps {L} {M} first second = record { keeps = by }
      where
        by : (a : A) (ts : List T) → Either L M (Ok a) ts → AllByRecursion F ts → R a
        by a ts (inl h) all = first.keeps a ts h all
        by a ts (inr h) all = second.keeps a ts h all

    pub optional_keeps : {L : Grammar T A} (d : A) → R d → Keeps F L R → Keeps F (Optional d L) R
    optional_keeps d r part = either_keeps part (nothing_keeps d r)

    pub many_keeps : {L : Grammar T A} → Keeps F L R → Keeps F (Many L) (All R)
    many_keeps {L} part = record { keeps = row }
      where
        row : (xs : List A) (ts : List T) → Row L xs ts → AllByRecursion F ts → All R xs
        row [] ts h all = All-nil R
        row (a ∷ others) ts (v, w, f, g, split) all =
            let (x, y) = both F v w (subst (AllByRecursion F) split all) in
            All-cons R a others (part.keeps a v f x) (row others w g y)

  module _ {A B : Type 0} (Q : A → Type 0) (R : B → Type 0) where
    pub map_keeps : {L : Grammar T A} (f : A → B) → Keeps F L Q → ((a : A) → Q a → R (f a)) → Keeps F (Mapped f L) R
    map_keeps f part goes = record { keeps = λ b ts h all. subst R (sym h.1) (goes h.0 (part.keeps h.0 ts h.2 all)) }

    pub then_keeps : {L : Grammar T A} {M : A → Grammar T B} → Keeps F L Q → ((a : A) → Q a → Keeps F (M a) R) → Keeps F (Then L M) R
    then_keeps first second = record {
      keeps = λ b ts h all.
          let (a, v, w, f, g, split) = h in
          let (x, y) = both F v w (subst (AllByRecursion F) split all) in
          (second a (first.keeps a v f x)).keeps b w g y;
    }

  -- a part of which nothing is asked, and then a phrase
  pub behind_keeps : {A B : Type 0} (R : B → Type 0) (L : Grammar T A) {M : A → Grammar T B} → ((a : A) → Keeps F (M a) R) → Keeps F (Then L M) R
  behind_keeps R L second = record {
    keeps = λ b ts h all.
        let (a, v, w, f, g, split) = h in
        let (x, y) = both F v w (subst (AllByRecursion F) split all) in
        (second a).keeps b w g y;
  }

module _ {T A : Type 0} (F : T → Type 0) (R : A → Type 0) where
  listed_keeps : {L M : Grammar T A} → Keeps F L R → Keeps F M R → Keeps F (Listed L M) (All R)
  listed_keeps first others = then_keeps F R (All R) first (λ a r. map_keeps F (All R) (All R) (λ (xs : List A). a ∷ xs) (many_keeps F R others) (λ xs rs. All-cons R a xs r rs))

  pub separated_keeps : (sep : T → Bool) {L : Grammar T A} → Keeps F L R → Keeps F (Separated sep L) (All R)
  separated_keeps sep part = listed_keeps part (behind_keeps F R (One sep) (λ _. part))

  pub loosely_keeps : (sep : T → Bool) {L : Grammar T A} → Keeps F L R → Keeps F (Loosely sep L) (All R)
  loosely_keeps sep part = listed_keeps part (either_keeps F R (behind_keeps F R (One sep) (λ _. part)) part)

  pub between_keeps : (opens closes : T → Bool) {L : Grammar T A} → Keeps F L R → Keeps F (Between opens L closes) R
  between_keeps opens closes part = behind_keeps F R (One opens) (λ _. then_keeps F R R part (λ a r. map_keeps F F R (λ _. a) (one_keeps F F closes (λ t h _. h)) (λ _ _. r)))
