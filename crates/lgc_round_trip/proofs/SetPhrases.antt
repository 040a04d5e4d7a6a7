-- The words of a printed set are a phrase of the grammar, and the set is its tree.
use Rattle.std.proofs.Common.{◌≡◌, ◌≢◌, ℕ, zero, suc, ◌+◌, ◌<◌, ◌≤◌, Bool, true, false, cond, List, [], ◌∷◌, ◌++◌, length, refl, sym, ap, subst, ◌∙◌, append_assoc, append-nil, arith}
use Rattle.std.specs.Prelude.{◌&&◌, ◌||◌, ◌==◌, filter, map}
use Rattle.std.specs.List.{flat_map, range_with_len}
use Rattle.std.proofs.lemmas.Bool.Decides.{nat_tests}
use Rattle.std.proofs.lemmas.Bool.{lt-ltb}
use Rattle.lgc_grammar.specs.Grammar.{Grammar, One, Nothing, Then, Growing}
use Rattle.lgc_values.specs.Values.{has}
use Rattle.lgc_values.specs.Logic.{Logic, IsLogic}
use Rattle.lgc_values.proofs.ValueLaws.{has-values_where, values_where-alike}
use Rattle.lgc_syntax.specs.declared.fault.TheConstants.{UNKNOWN_VALUE}
use Rattle.lgc_tokens.specs.declared.class.Class.TheVariants.{CloseBrace}
use Rattle.lgc_tokens.specs.Spelled.{Spelled}
use Rattle.lgc_tokens.specs.Classes.{is as is_of, is_value}
use Rattle.lgc_rules.specs.Names.{value_of, names_no_value, with_value}
use Rattle.lgc_rules.specs.RuleGrammar.{Value, NextValue, Set}
use Rattle.lgc_round_trip.specs.RoundTrip.{IsSet}
use Rattle.lgc_round_trip.proofs.Lexing.{Word}
use Rattle.lgc_round_trip.proofs.Pieces.{sign}
use Rattle.lgc_round_trip.proofs.Deriving.{Derives, derive_then, derive_skip, derive_nothing, derive_allowed, derive_ended, derive_grown, derive_tree}
use Rattle.lgc_round_trip.proofs.Printing.{value_word}
use Rattle.lgc_round_trip.proofs.Texts.{AreBelow, name_of, set_words}
use Rattle.lgc_round_trip.proofs.Classes.{is_comma, is_open_brace, is_close_brace, value_passes, value_says}
use Rattle.lgc_round_trip.proofs.Lookups.{value_told}

-- ---- sets

picked_below : (n : ℕ) (p : ℕ → Bool) (a m : ℕ) → a + m ≤ n → AreBelow n (filter p (range_with_len a m))
picked_below n p a zero le = tt
picked_below n p a (suc m) le = by (p a) (omega arith) (picked_below n p (a + 1) m (omega arith))
  where
    by : (b : Bool) → a < n → AreBelow n (filter p (range_with_len (a + 1) m)) → AreBelow n (cond b (a ∷ filter p (range_with_len (a + 1) m)) (filter p (range_with_len (a + 1) m)))
    by true lt others = (lt, others)
    by false lt others = others

pub set_below : (n : ℕ) (set : List ℕ) → IsSet n set → AreBelow n set
set_below n set is = subst (λ s. AreBelow n s) (sym is) (picked_below n (has set) 0 n (omega arith))

has-push : (xs : List ℕ) (v w : ℕ) → has (xs ++ v ∷ []) w ≡ (has xs w || w == v)
has-push [] v w = grind (arith, nat_tests)
has-push (x ∷ xs) v w = rw (has-push xs v w) (or_assoc (x == w) (has xs w) (w == v))
  where
    or_assoc : (a b c : Bool) → (a || (b || c)) ≡ ((a || b) || c)
    or_assoc true b c = refl
    or_assoc false b c = refl

module _ (n : ℕ) (logic : Logic) (is : IsLogic logic) (size : length logic.names ≡ n) where
  -- the words of further values
  abbrev pub more_words : List ℕ → List Word
  more_words set = flat_map (λ p. (sign 44 ∷ []) ++ p) (map (λ v. value_word (name_of logic.names v) ∷ []) set)

  value_derives : (v : ℕ) → v < n → Derives (Value logic) v (value_word (name_of logic.names v) ∷ [])
  value_derives v lt = derive_allowed (value_of logic) is_value (names_no_value logic) UNKNOWN_VALUE v (value_word (name_of logic.names v)) (λ t e. let (tree, known) = value_told logic is v t (omega arith) (value_says (name_of logic.names v) t e) in (tree, value_passes (name_of logic.names v) t e, known))

  next_value_derives : (set : List ℕ) (v : ℕ) → v < n → Derives (NextValue n logic set) (with_value n set v) (sign 44 ∷ value_word (name_of logic.names v) ∷ [])
  next_value_derives set v lt =
      derive_skip _ (Then (Value logic) (λ value. Nothing (with_value n set value))) (with_value n set v) (sign 44) (value_word (name_of logic.names v) ∷ []) is_comma
      (derive_then (Value logic) (λ value. Nothing (with_value n set value)) v (with_value n set v) (value_word (name_of logic.names v) ∷ []) [] (value_derives v lt) (derive_nothing (with_value n set v)))

  -- a has the same members as the values so far, and is the set once they are all
  more_values : (a done vs : List ℕ) → AreBelow n vs → ((w : ℕ) → w < n → has a w ≡ has done w) → (vs ≡ [] → a ≡ done) → IsSet n (done ++ vs) → Derives (Growing (NextValue n logic) a) (done ++ vs) (more_words vs)
  more_values a done [] below agree whole set = derive_tree (Growing (NextValue n logic) a) a (done ++ []) [] (whole refl ∙ sym (append-nil done)) (derive_ended (NextValue n logic) a)
  more_values a done (v ∷ vs) below agree whole set =
      derive_grown (NextValue n logic) a (with_value n a v) (done ++ v ∷ vs) (sign 44 ∷ value_word (name_of logic.names v) ∷ []) (more_words vs)
      (next_value_derives a v below.0)
      (derive_tree (Growing (NextValue n logic) (with_value n a v)) ((done ++ v ∷ []) ++ vs) (done ++ v ∷ vs) (more_words vs) (append_assoc done (v ∷ []) vs)
      (more_values (with_value n a v) (done ++ v ∷ []) vs below.1 agree_more whole_more (subst (λ s. IsSet n s) (sym (append_assoc done (v ∷ []) vs)) set)))
    where
      same_test : (w : ℕ) → w < n → (has a w || w == v) ≡ has (done ++ v ∷ []) w
      same_test w lt = ap (λ b. b || w == v) (agree w lt) ∙ sym (has-push done v w)

      agree_more : (w : ℕ) → w < n → has (with_value n a v) w ≡ has (done ++ v ∷ []) w
      agree_more w lt = has-values_where n (λ x. has a x || x == v) w ∙ ap (λ b. b && (has a w || w == v)) (lt-ltb w n lt) ∙ same_test w lt

      whole_more : vs ≡ [] → with_value n a v ≡ done ++ v ∷ []
      whole_more e = values_where-alike n (λ x. has a x || x == v) (has (done ++ v ∷ [])) same_test ∙ sym (subst (λ s. IsSet n (done ++ v ∷ s)) e set)

  -- what stands behind the values of a set, and behind the first of them
  abbrev closed : List ℕ → Grammar Spelled (List ℕ)
  closed set = Then (One (is_of CloseBrace)) (λ _. Nothing set)

  abbrev behind_first : ℕ → Grammar Spelled (List ℕ)
  behind_first value = Then (Growing (NextValue n logic) (value ∷ [])) closed

  pub set_derives : (set : List ℕ) → set ≢ [] → IsSet n set → Derives (Set n logic) set (set_words logic.names set)
  set_derives [] some set = absurd (some refl)
  set_derives (v ∷ vs) some set =
      let below = set_below n (v ∷ vs) set in
      derive_skip _ _ (v ∷ vs) (sign 123) _ is_open_brace
      (derive_then (Value logic) behind_first v (v ∷ vs) (value_word (name_of logic.names v) ∷ []) (more_words vs ++ sign 125 ∷ []) (value_derives v below.0)
      (derive_then (Growing (NextValue n logic) (v ∷ [])) closed (v ∷ vs) (v ∷ vs) (more_words vs) (sign 125 ∷ []) (more_values (v ∷ []) (v ∷ []) vs below.1 (λ w lt. refl) (λ e. refl) set)
      (derive_skip _ (Nothing (v ∷ vs)) (v ∷ vs) (sign 125) [] is_close_brace (derive_nothing (v ∷ vs)))))
