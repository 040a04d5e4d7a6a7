-- What a logic has under the names of its operators and quantifiers, and under those of predicates.
use Rattle.std.proofs.Common.{◌≡◌, ◌≢◌, ℕ, ◌+◌, ◌-◌, ◌<◌, true, false, cond, List, [], ◌++◌, length, get_or, Option, Some, None, refl, sym, ap, ap₂, ◌∙◌, arith, length-append}
use Rattle.std.specs.Prelude.{map, nat_lt, unwrap_or, is_none, ◌&&◌}
use Rattle.std.specs.Str.{bytes_eq}
use Rattle.std.proofs.lemmas.Bool.Decides.{nat_tests}
use Rattle.std.proofs.lemmas.List.{get_or_append_left, get_or-append_right, get_or-map, length-map}
use Rattle.std.proofs.lemmas.List.Sums.{position_or_len_is}
use Rattle.std.proofs.lemmas.Option.{slice_get-get_or}
use Rattle.lgc_values.specs.declared.matrix.Operator.{Operator}
use Rattle.lgc_values.specs.declared.matrix.Quantifier.{Quantifier}
use Rattle.lgc_values.specs.Logic.{Logic, IsLogic, operator_at, quantifier_at, operator_named, quantifier_named}
use Rattle.lgc_formulas.specs.declared.role.Role.TheVariants as role
use Rattle.lgc_formulas.specs.Named.{role_among, role_of}
use Rattle.lgc_round_trip.proofs.Lookups.{differ, operator_found, quantifier_found}

-- the role of a name of neither
pub neither_role : (logic : Logic) (p : List ℕ) → (is_none (operator_named logic p) && is_none (quantifier_named logic p)) ≡ true → role_of logic p ≡ role.Neither
neither_role logic p none = by (operator_named logic p) (quantifier_named logic p) none
  where
    by : (op quant : Option ℕ) → (is_none op && is_none quant) ≡ true → role_among op quant ≡ role.Neither
    by None None e = refl
    by None (Some q) e = absurd cc
    by (Some o) quant e = absurd cc

module _ (logic : Logic) (is : IsLogic logic) where
  pub operator_role : (op : ℕ) → op < length logic.operators → role_of logic (operator_at logic op).name ≡ role.Operator op
  operator_role op lt = let name = (operator_at logic op).name in ap (λ found. role_among found (quantifier_named logic name)) (operator_found logic is op name lt refl)

  abbrev operators : List (List ℕ)
  operators = map (λ (o : Operator). o.name) logic.operators

  abbrev quantifiers : List (List ℕ)
  quantifiers = map (λ (q : Quantifier). q.name) logic.quantifiers

  other_name : (k q : ℕ) → k < length logic.operators → q < length logic.quantifiers → (get_or logic.operators k (record { name = []; arity = 0; table = [] })).name ≢ (quantifier_at logic q).name
  other_name k q before lt e =
      let o : Operator = record { name = []; arity = 0; table = [] } in
      let d : Quantifier = record { name = []; table = [] } in
      let count : length operators ≡ length logic.operators = length-map logic.operators (λ (x : Operator). x.name) in
      let counted : length quantifiers ≡ length logic.quantifiers = length-map logic.quantifiers (λ (x : Quantifier). x.name) in
      let off : length operators + q - length operators ≡ q = omega arith in
      let at : quantifier_at logic q ≡ get_or logic.quantifiers q d = ap (λ x. unwrap_or x d) (slice_get-get_or logic.quantifiers q d lt) in
      let one : get_or (operators ++ quantifiers) k [] ≡ (get_or logic.operators k o).name = get_or_append_left operators quantifiers [] k (omega arith) ∙ get_or-map (λ (x : Operator). x.name) logic.operators k o [] before in
      let two : get_or (operators ++ quantifiers) (length operators + q) [] ≡ (quantifier_at logic q).name =
      get_or-append_right operators quantifiers (length operators) (length operators + q) [] refl (omega arith)
      ∙ ap (λ m. get_or quantifiers m []) off
      ∙ get_or-map (λ (x : Quantifier). x.name) logic.quantifiers q d [] lt
      ∙ ap (λ (x : Quantifier). x.name) (sym at) in
      is.distinct_symbols k (length operators + q) [] (omega arith) (omega (arith, length-append operators quantifiers)) (one ∙ e ∙ sym two)

  no_operator_found : (q : ℕ) → q < length logic.quantifiers → operator_named logic (quantifier_at logic q).name ≡ None
  no_operator_found q lt =
      let name = (quantifier_at logic q).name in
      let o : Operator = record { name = []; arity = 0; table = [] } in
      let at = position_or_len_is (λ (x : Operator). bytes_eq x.name name) logic.operators (length logic.operators) o (omega arith) (λ k before. differ (get_or logic.operators k o).name name (other_name k q before lt)) (λ past. absurd (omega arith)) in
      ap (λ n. cond (nat_lt n (length logic.operators)) (Some n) None) at ∙ ap (λ b. cond b (Some (length logic.operators)) None) (not_below (length logic.operators))
    where
      not_below : (n : ℕ) → nat_lt n n ≡ false
      not_below n = grind (arith, nat_tests)

  pub quantifier_role : (q : ℕ) → q < length logic.quantifiers → role_of logic (quantifier_at logic q).name ≡ role.Quantifier q
  quantifier_role q lt = ap₂ role_among (no_operator_found q lt) (quantifier_found logic is q (quantifier_at logic q).name lt refl)
