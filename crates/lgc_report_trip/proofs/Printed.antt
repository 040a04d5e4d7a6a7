-- Texts that are printed for trees of the grammar of reports: wherever a text stands, it is cut into words, and tokens of these are a phrase
-- with the tree, whatever tokens are behind them. So a law may speak of what a token says of those behind it.
use Rattle.std.proofs.Common.{◌≡◌, ℕ, Bool, true, false, List, [], ◌∷◌, ◌++◌, map, Option, Ok, refl, sym, ap, subst, ◌∙◌, inl, inr, append_assoc}
use Rattle.lgc_grammar.specs.Grammar.{Grammar, One, Nothing, Mapped, Then, Either, Growing, ended, grown}
use Rattle.lgc_grammar.specs.Seen.{Seen}
use Rattle.lgc_lexer.specs.Forms.{is_symbol}
use Rattle.lgc_tokens.specs.Spelled.{Spelled}
use Rattle.lgc_formulas.specs.Named.{Named}
use Rattle.lgc_formulas.specs.Setting.{Setting}
use Rattle.lgc_report_reader.specs.Reported.{Reported, spelled_of}
use Rattle.lgc_report_reader.specs.Starting.{MayStart, Starting}
use Rattle.lgc_round_trip.proofs.Lexing.{Word, begins_with, Lexes}
use Rattle.lgc_round_trip.proofs.Pieces.{FailsFirst}
use Rattle.lgc_round_trip.proofs.Deriving.{Derives}
use Rattle.lgc_round_trip.proofs.Printing.{Starts, Prints}
use Rattle.lgc_formula_trip.proofs.Cuts.{Lexeme, lexeme_of, Anything, Cut}
use Rattle.lgc_formula_trip.proofs.Written.{Are, Written}
use Rattle.lgc_formula_trip.proofs.Tokens.{SpelledAs, NamedAs}
use Rattle.lgc_report_trip.proofs.Ahead.{AreNamed, parts, are_both, are_lexemes, are_words, seen, ahead, ahead_apart, ahead_named, ahead_spelled}

-- Nothing that goes on a symbol is behind a text, and no Symbol ^.
abbrev pub EndsSign : List ℕ → Type 0
EndsSign rest = FailsFirst is_symbol rest × ((words : List Word) → Lexes rest words → begins_with words ≡ false)

-- a text of one token that passes a test, where what is behind the text is as F asks for
pub record IsSign (F : List ℕ → Type 0) (test : Reported → Bool) (text : List ℕ) : Type 0 where
  pub lexeme : Lexeme
  pub cut : Cut F text (lexeme ∷ [])
  pub passes : (t : Reported) → SpelledAs (spelled_of t) lexeme → test t ≡ true

lexes_both : (x y rest : List ℕ) (v w more : List Word) → Lexes (x ++ (y ++ rest)) (v ++ (w ++ more)) → Lexes ((x ++ y) ++ rest) ((v ++ w) ++ more)
lexes_both x y rest v w more l = subst (λ t. Lexes t ((v ++ w) ++ more)) (sym (append_assoc x y rest)) (subst (λ (ws : List Word). Lexes (x ++ (y ++ rest)) ws) (sym (append_assoc v w more)) l)

module _ (s : Setting) where
  -- the text, before others with these words
  pub record Before {A : Type 0} (L : Grammar Reported A) (a : A) (text rest : List ℕ) (more : List Word) : Type 0 where
    pub words : List Word
    pub lexes : Lexes (text ++ rest) (words ++ more)
    pub derives : (ts behind : List Named) → AreNamed s.logic ts words → AreNamed s.logic behind more → L (Ok a) (ahead s ts behind)

  -- Where what is behind the text is as F asks for, its tokens are a phrase with the tree a.
  pub record Printed {A : Type 0} (F : List ℕ → Type 0) (L : Grammar Reported A) (a : A) (text : List ℕ) : Type 0 where
    pub prints : (rest : List ℕ) (more : List Word) → F rest → Lexes rest more → Before L a text rest more

  -- ---- two texts

  -- Where a phrase of L and one of N behind it are one of K, the two texts are one.
  pub printed_both : {A B C : Type 0} (F G : List ℕ → Type 0) (L : Grammar Reported A) (N : Grammar Reported B) (K : Grammar Reported C) (a : A) (b : B) (c : C) (x y : List ℕ) → ((rest : List ℕ) → G rest → F (y ++ rest))
      → ((front back behind : List Named) → L (Ok a) (ahead s front (back ++ behind)) → N (Ok b) (ahead s back behind) → K (Ok c) (ahead s front (back ++ behind) ++ ahead s back behind)) → Printed F L a x → Printed G N b y → Printed G K c (x ++ y)
  printed_both {A} {B} {C} F G L N K a b c x y follows joins p q = record { prints = here }
    where
      here : (rest : List ℕ) (more : List Word) → G rest → Lexes rest more → Before K c (x ++ y) rest more
      here rest more g l =
          let second = q.prints rest more g l in
          let first = p.prints (y ++ rest) (second.words ++ more) (follows rest g) second.lexes in
          record {
            words = first.words ++ second.words;
            lexes = lexes_both x y rest first.words second.words more first.lexes;
            derives = λ ts behind are others.
                let k = parts s.logic ts first.words second.words are in
                let back = are_both s.logic k.back behind second.words more k.of_back others in
                let phrase = joins k.front k.back behind (first.derives k.front (k.back ++ behind) k.of_front back) (second.derives k.back behind k.of_back others) in
                subst (λ (us : List Reported). K (Ok c) us) (sym (ap (λ (us : List Named). ahead s us behind) k.split ∙ ahead_apart s k.front k.back behind)) phrase;
          }

  pub printed_then : {A B : Type 0} (F G : List ℕ → Type 0) (L : Grammar Reported A) (M : A → Grammar Reported B) (a : A) (b : B) (x y : List ℕ) → ((rest : List ℕ) → G rest → F (y ++ rest)) → Printed F L a x → Printed G (M a) b y → Printed G (Then L M) b (x ++ y)
  printed_then F G L M a b x y follows p q = printed_both F G L (M a) (Then L M) a b b x y follows (λ front back behind f g. (a, ahead s front (back ++ behind), ahead s back behind, f, g, refl)) p q

  -- the same where the first token of the first text has to pass a test and to break no rule
  pub printed_starting : {A B : Type 0} (F G : List ℕ → Type 0) (test : Reported → Bool) (fault : Reported → Option ℕ) (L : Grammar Reported A) (M : A → Grammar Reported B) (a : A) (b : B) (x y : List ℕ) → ((rest : List ℕ) → G rest → F (y ++ rest))
      → ((front back behind : List Named) → L (Ok a) (ahead s front (back ++ behind)) → M a (Ok b) (ahead s back behind) → MayStart test fault (ahead s front (back ++ behind))) → Printed F L a x → Printed G (M a) b y → Printed G (Then (Starting test fault L) M) b (x ++ y)
  printed_starting F G test fault L M a b x y follows begins p q =
      printed_both F G L (M a) (Then (Starting test fault L) M) a b b x y follows (λ front back behind f g. (a, ahead s front (back ++ behind), ahead s back behind, (begins front back behind f g, f), g, refl)) p q

  pub printed_ended : {A : Type 0} (G : List ℕ → Type 0) (L : A → Grammar Reported A) (a b : A) → b ≡ a → Printed G (Growing L a) b []
  printed_ended {A} G L a b same = record { prints = λ rest more g l. record { words = []; lexes = l; derives = λ ts behind are others. by ts behind are } }
    where
      by : (ts behind : List Named) → AreNamed s.logic ts [] → Growing L a (Ok b) (ahead s ts behind)
      by [] behind are = subst (λ (c : A). Growing L a (Ok c) []) (sym same) (ended a)
      by (t ∷ ts) behind are = absurd are

  pub printed_grown : {A : Type 0} (F G : List ℕ → Type 0) (L : A → Grammar Reported A) (a b c : A) (x y : List ℕ) → ((rest : List ℕ) → G rest → F (y ++ rest)) → Printed F (L a) b x → Printed G (Growing L b) c y → Printed G (Growing L a) c (x ++ y)
  printed_grown F G L a b c x y follows p q = printed_both F G (L a) (Growing L b) (Growing L a) b c c x y follows (λ front back behind f g. grown a b (Ok c) (ahead s front (back ++ behind)) (ahead s back behind) f g) p q

  -- ---- one token

  pub printed_one : {B : Type 0} (F : List ℕ → Type 0) (f : Reported → B) (test : Reported → Bool) (b : B) (x : List ℕ) (l : Lexeme) → Cut F x (l ∷ []) → ((t : Reported) → SpelledAs (spelled_of t) l → (b ≡ f t) × (test t ≡ true)) → Printed F (Mapped f (One test)) b x
  printed_one {B} F f test b x l cut tells = record { prints = here }
    where
      by : (ts behind : List Named) (ws : List Word) → map lexeme_of ws ≡ l ∷ [] → AreNamed s.logic ts ws → Mapped f (One test) (Ok b) (ahead s ts behind)
      by ts behind [] e are = absurd cc
      by ts behind (w ∷ v ∷ ws) e are = absurd cc
      by [] behind (w ∷ []) e are = absurd are
      by (t ∷ u ∷ ts) behind (w ∷ []) e are = absurd are.1
      by (t ∷ []) behind (w ∷ []) e are =
          let of : lexeme_of w ≡ l = cc in
          let kind : t.spelled.token.kind ≡ l.kind = ap (λ (v : Word). v.kind) are.0.0 ∙ ap (λ (k : Lexeme). k.kind) of in
          let text : t.spelled.text ≡ l.text = ap (λ (v : Word). v.text) are.0.0 ∙ ap (λ (k : Lexeme). k.text) of in
          let (is, passes) = tells (seen s t behind) (kind, text) in
          (seen s t behind, is, (passes, refl))

      here : (rest : List ℕ) (more : List Word) → F rest → Lexes rest more → Before (Mapped f (One test)) b x rest more
      here rest more g l =
          let begins = cut.cuts rest more g l in
          record { words = begins.words; lexes = begins.lexes; derives = λ ts behind are others. by ts behind begins.words begins.seen are }

  -- a token that nothing behind it speaks of
  pub printed_first : {B : Type 0} (F G : List ℕ → Type 0) (test : Reported → Bool) (N : Grammar Reported B) (b : B) (x y : List ℕ) → ((rest : List ℕ) → G rest → F (y ++ rest)) → IsSign F test x → Printed G N b y → Printed G (Then (One test) (λ _. N)) b (x ++ y)
  printed_first {B} F G test N b x y follows sign q =
      let token : Reported → ℕ = λ t. 0 in
      printed_both F G (Mapped token (One test)) N (Then (One test) (λ _. N)) 0 b b x y follows
      (λ front back behind f g. (f.0, ahead s front (back ++ behind), ahead s back behind, f.2, g, refl))
      (printed_one F token test 0 x sign.lexeme sign.cut (λ t r. (refl, sign.passes t r))) q

  pub printed_sign : {B : Type 0} (G : List ℕ → Type 0) (test : Reported → Bool) (N : Grammar Reported B) (b : B) (x y : List ℕ) → IsSign Anything test x → Printed G N b y → Printed G (Then (One test) (λ _. N)) b (x ++ y)
  printed_sign G test N b x y sign q = printed_first Anything G test N b x y (λ rest g. tt) sign q

  -- ---- other words of grammars

  pub printed_nothing : {A : Type 0} (F : List ℕ → Type 0) (a b : A) → b ≡ a → Printed F (Nothing a) b []
  printed_nothing {A} F a b same = record { prints = λ rest more g l. record { words = []; lexes = l; derives = λ ts behind are others. by ts behind are } }
    where
      by : (ts behind : List Named) → AreNamed s.logic ts [] → Nothing a (Ok b) (ahead s ts behind)
      by [] behind are = (same, refl)
      by (t ∷ ts) behind are = absurd are

  pub printed_mapped : {A B : Type 0} (F : List ℕ → Type 0) (f : A → B) (L : Grammar Reported A) (a : A) (b : B) (x : List ℕ) → b ≡ f a → Printed F L a x → Printed F (Mapped f L) b x
  printed_mapped F f L a b x same p = record {
    prints = λ rest more g l. let k = p.prints rest more g l in record { words = k.words; lexes = k.lexes; derives = λ ts behind are others. (a, same, k.derives ts behind are others) };
  }

  pub printed_left : {A : Type 0} (F : List ℕ → Type 0) (L M : Grammar Reported A) (a : A) (x : List ℕ) → Printed F L a x → Printed F (Either L M) a x
  printed_left F L M a x p = record {
    prints = λ rest more g l. let k = p.prints rest more g l in record { words = k.words; lexes = k.lexes; derives = λ ts behind are others. inl (k.derives ts behind are others) };
  }

  pub printed_right : {A : Type 0} (F : List ℕ → Type 0) (L M : Grammar Reported A) (a : A) (x : List ℕ) → Printed F M a x → Printed F (Either L M) a x
  printed_right F L M a x p = record {
    prints = λ rest more g l. let k = p.prints rest more g l in record { words = k.words; lexes = k.lexes; derives = λ ts behind are others. inr (k.derives ts behind are others) };
  }

  -- ---- other words for the same

  pub printed_weaker : {A : Type 0} (F G : List ℕ → Type 0) (L : Grammar Reported A) (a : A) (x : List ℕ) → ((rest : List ℕ) → G rest → F rest) → Printed F L a x → Printed G L a x
  printed_weaker F G L a x weaker p = record { prints = λ rest more g l. p.prints rest more (weaker rest g) l }

  pub printed_text : {A : Type 0} (F : List ℕ → Type 0) (L : Grammar Reported A) (a : A) (x y : List ℕ) → x ≡ y → Printed F L a x → Printed F L a y
  printed_text F L a x y e p = subst (λ (z : List ℕ). Printed F L a z) e p

  pub printed_tree : {A : Type 0} (F : List ℕ → Type 0) (L : Grammar Reported A) (a b : A) (x : List ℕ) → a ≡ b → Printed F L a x → Printed F L b x
  printed_tree {A} F L a b x e p = subst (λ (c : A). Printed F L c x) e p

  -- ---- texts of other grammars

  -- written for a grammar of tokens as a logic knows them
  pub printed_named : {A : Type 0} (F : List ℕ → Type 0) (L : Grammar Named A) (a : A) (x : List ℕ) → Written (NamedAs s.logic) F L a x → Printed F (Seen (λ t. t.named) L) a x
  printed_named F L a x w = record {
    prints = λ rest more g l.
        let begins = w.cut.cuts rest more g l in
        record {
          words = begins.words;
          lexes = begins.lexes;
          derives = λ ts behind are others.
              let of : Are (NamedAs s.logic) ts w.lexemes = subst (λ (ls : List Lexeme). Are (NamedAs s.logic) ts ls) begins.seen (are_lexemes s.logic ts begins.words are) in
              subst (λ (us : List Named). L (Ok a) us) (sym (ahead_named s ts behind)) (w.derives ts of);
        };
  }

  -- written for a grammar of tokens alone
  pub printed_spelled : {A : Type 0} (F : List ℕ → Type 0) (L : Grammar Spelled A) (a : A) (x : List ℕ) → Written SpelledAs F L a x → Printed F (Seen spelled_of L) a x
  printed_spelled F L a x w = record {
    prints = λ rest more g l.
        let begins = w.cut.cuts rest more g l in
        record {
          words = begins.words;
          lexes = begins.lexes;
          derives = λ ts behind are others.
              let of : Are (NamedAs s.logic) ts w.lexemes = subst (λ (ls : List Lexeme). Are (NamedAs s.logic) ts ls) begins.seen (are_lexemes s.logic ts begins.words are) in
              subst (λ (us : List Spelled). L (Ok a) us) (sym (ahead_spelled s ts behind)) (w.derives (map (λ (t : Named). t.spelled) ts) (spellings ts w.lexemes of));
        };
  }
    where
      spellings : (ts : List Named) (ls : List Lexeme) → Are (NamedAs s.logic) ts ls → Are SpelledAs (map (λ (t : Named). t.spelled) ts) ls
      spellings [] [] are = tt
      spellings [] (l ∷ ls) are = absurd are
      spellings (t ∷ ts) [] are = absurd are
      spellings (t ∷ ts) (l ∷ ls) are = (are.0.0, spellings ts ls are.1)

  -- printed as these words, of which a grammar of tokens derives the tree
  pub printed_words : {A : Type 0} (L : Grammar Spelled A) (a : A) (x : List ℕ) (words : List Word) → Prints Starts x words → Derives L a words → Printed EndsSign (Seen spelled_of L) a x
  printed_words L a x words p d = record {
    prints = λ rest more g l. record {
      words = words;
      lexes = p.lexes rest more (record { symbol = g.0; caret = g.1 more l }) l;
      derives = λ ts behind are others. subst (λ (us : List Spelled). L (Ok a) us) (sym (ahead_spelled s ts behind)) (d.derives (map (λ (t : Named). t.spelled) ts) (are_words s.logic ts words are));
    };
  }
