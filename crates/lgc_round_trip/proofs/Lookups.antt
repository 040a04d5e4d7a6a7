-- A logic's names tell its values, its operators and its quantifiers: each is found at its place.
use Rattle.std.proofs.Common.{◌≡◌, ◌≢◌, ℕ, ◌+◌, ◌-◌, ◌<◌, Bool, true, false, cond, List, [], ◌∷◌, ◌++◌, length, get_or, Some, None, refl, sym, ap, subst, ◌∙◌, arith, length-append}
use Rattle.std.specs.Prelude.{AllPairs, map, position, nat_lt, unwrap_or, is_none}
use Rattle.std.specs.List.{position_or_len}
use Rattle.std.specs.Str.{bytes_eq}
use Rattle.std.proofs.lemmas.Bool.{lt-ltb}
use Rattle.std.proofs.lemmas.List.{get_or_append_left, get_or-append_right, get_or-map, length-map}
use Rattle.std.proofs.lemmas.List.Sums.{position_or_len_is}
use Rattle.std.proofs.lemmas.Slice.Eq.{bytes_eq-Decides}
use Rattle.std.proofs.lemmas.Option.{slice_get-get_or}
use Rattle.lgc_values.specs.declared.matrix.Operator.{Operator}
use Rattle.lgc_values.specs.declared.matrix.Quantifier.{Quantifier}
use Rattle.lgc_values.specs.Logic.{Logic, IsLogic, operator_at, quantifier_at, value_named, operator_named, quantifier_named}
use Rattle.lgc_tokens.specs.Spelled.{Spelled}
use Rattle.lgc_rules.specs.Names.{value_of, operator_of, quantifier_of, names_no_value, names_no_operator, names_no_quantifier}

pub differ : (xs ys : List ℕ) → xs ≢ ys → bytes_eq xs ys ≡ false
differ xs ys ne = by (bytes_eq xs ys) refl
  where
    by : (b : Bool) → bytes_eq xs ys ≡ b → b ≡ false
    by true e = absurd (ne ((bytes_eq-Decides xs ys).0 e))
    by false e = refl

-- what has a text that nothing before it has is found at its place
position_at : {X : Type 0} (f : X → List ℕ) (xs : List X) (i : ℕ) (d : X) → i < length xs → AllPairs (λ a b. a ≢ b) (map f xs) → position (λ x. bytes_eq (f x) (f (get_or xs i d))) xs ≡ Some i
position_at {X} f xs i d lt apart =
    let at : position_or_len (λ x. bytes_eq (f x) (f (get_or xs i d))) xs ≡ i = position_or_len_is (λ x. bytes_eq (f x) (f (get_or xs i d))) xs i d (omega arith) (λ k before. differ (f (get_or xs k d)) (f (get_or xs i d)) (other k before)) (λ _. (bytes_eq-Decides (f (get_or xs i d)) (f (get_or xs i d))).1 refl) in
    let yes : nat_lt i (length xs) ≡ true = lt-ltb i (length xs) lt in
    ap (λ n. cond (nat_lt n (length xs)) (Some n) None) at ∙ ap (λ b. cond b (Some i) None) yes
  where
    other : (k : ℕ) → k < i → f (get_or xs k d) ≢ f (get_or xs i d)
    other k before e =
        let count : length (map f xs) ≡ length xs = length-map xs f in
        let one : get_or (map f xs) k (f d) ≡ f (get_or xs k d) = get_or-map f xs k d (f d) (omega arith) in
        let two : get_or (map f xs) i (f d) ≡ f (get_or xs i d) = get_or-map f xs i d (f d) lt in
        apart k i (f d) before (omega arith) (one ∙ e ∙ sym two)

distinct_left : (xs ys : List (List ℕ)) → AllPairs (λ a b. a ≢ b) (xs ++ ys) → AllPairs (λ a b. a ≢ b) xs
distinct_left xs ys apart i j d before lt e =
    apart i j d before (omega (arith, length-append xs ys)) (get_or_append_left xs ys d i (omega arith) ∙ e ∙ sym (get_or_append_left xs ys d j lt))

distinct_right : (xs ys : List (List ℕ)) → AllPairs (λ a b. a ≢ b) (xs ++ ys) → AllPairs (λ a b. a ≢ b) ys
distinct_right xs ys apart i j d before lt e =
    let one : get_or (xs ++ ys) (length xs + i) d ≡ get_or ys i d = behind i in
    let two : get_or (xs ++ ys) (length xs + j) d ≡ get_or ys j d = behind j in
    apart (length xs + i) (length xs + j) d (omega arith) (omega (arith, length-append xs ys)) (one ∙ e ∙ sym two)
  where
    behind : (k : ℕ) → get_or (xs ++ ys) (length xs + k) d ≡ get_or ys k d
    behind k = let off : length xs + k - length xs ≡ k = omega arith in get_or-append_right xs ys (length xs) (length xs + k) d refl (omega arith) ∙ ap (λ m. get_or ys m d) off

-- ---- values

same_names : (xs : List (List ℕ)) → AllPairs (λ a b. a ≢ b) xs → AllPairs (λ a b. a ≢ b) (map (λ x. x) xs)
same_names xs apart = subst (λ ys. AllPairs (λ a b. a ≢ b) ys) (sym (same xs)) apart
  where
    same : (ys : List (List ℕ)) → map (λ x. x) ys ≡ ys
    same [] = refl
    same (y ∷ ys) = ap (λ t. y ∷ t) (same ys)

module _ (logic : Logic) (is : IsLogic logic) where
  value_found : (v : ℕ) (text : List ℕ) → v < length logic.names → text ≡ get_or logic.names v [] → value_named logic text ≡ Some v
  value_found v text lt e = ap (value_named logic) e ∙ position_at (λ name. name) logic.names v [] lt (same_names logic.names is.distinct)

  pub value_told : (v : ℕ) (t : Spelled) → v < length logic.names → t.text ≡ get_or logic.names v [] → (v ≡ value_of logic t) × (names_no_value logic t ≡ false)
  value_told v t lt e = let found = value_found v t.text lt e in (sym (ap (λ o. unwrap_or o 0) found), ap is_none found)

  -- ---- operators

  pub operator_found : (op : ℕ) (text : List ℕ) → op < length logic.operators → text ≡ (operator_at logic op).name → operator_named logic text ≡ Some op
  operator_found op text lt e =
      let d : Operator = record { name = []; arity = 0; table = [] } in
      let at : operator_at logic op ≡ get_or logic.operators op d = ap (λ o. unwrap_or o d) (slice_get-get_or logic.operators op d lt) in
      let named : text ≡ (get_or logic.operators op d).name = e ∙ ap (λ (o : Operator). o.name) at in
      ap (operator_named logic) named ∙ position_at (λ (o : Operator). o.name) logic.operators op d lt (distinct_left (map (λ o. o.name) logic.operators) _ is.distinct_symbols)

  pub operator_told : (op : ℕ) (t : Spelled) → op < length logic.operators → t.text ≡ (operator_at logic op).name → (op ≡ operator_of logic t) × (names_no_operator logic t ≡ false)
  operator_told op t lt e = let found = operator_found op t.text lt e in (sym (ap (λ o. unwrap_or o 0) found), ap is_none found)

  -- ---- quantifiers

  pub quantifier_found : (q : ℕ) (text : List ℕ) → q < length logic.quantifiers → text ≡ (quantifier_at logic q).name → quantifier_named logic text ≡ Some q
  quantifier_found q text lt e =
      let d : Quantifier = record { name = []; table = [] } in
      let at : quantifier_at logic q ≡ get_or logic.quantifiers q d = ap (λ o. unwrap_or o d) (slice_get-get_or logic.quantifiers q d lt) in
      let named : text ≡ (get_or logic.quantifiers q d).name = e ∙ ap (λ (o : Quantifier). o.name) at in
      ap (quantifier_named logic) named ∙ position_at (λ (o : Quantifier). o.name) logic.quantifiers q d lt (distinct_right (map (λ o. o.name) logic.operators) (map (λ o. o.name) logic.quantifiers) is.distinct_symbols)

  pub quantifier_told : (q : ℕ) (t : Spelled) → q < length logic.quantifiers → t.text ≡ (quantifier_at logic q).name → (q ≡ quantifier_of logic t) × (names_no_quantifier logic t ≡ false)
  quantifier_told q t lt e = let found = quantifier_found q t.text lt e in (sym (ap (λ o. unwrap_or o 0) found), ap is_none found)
