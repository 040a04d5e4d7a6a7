-- The rows of the values of formulas, and what is known of the parts of a formula of a logic.
use Rattle.std.proofs.Common.{◌≡◌, ℕ, suc, ◌+◌, ◌*◌, ◌^◌, ◌<◌, ◌≤◌, true, false, cond, ◌&&◌, ◌==◌, List, [], ◌∷◌, ◌++◌, map, length, get_or, take, subst, sym, ◌∙◌, ap, add-one, arith}
use Rattle.std.specs.Prelude.{All, nat_lt}
use Rattle.std.specs.List.{list_all}
use Rattle.std.proofs.Math.Nat.{pow-le-pow_right, pow-suc, pow-zero}
use Rattle.std.proofs.lemmas.Bool.{ltb-true, eqb-true, and_parts}
use Rattle.std.proofs.lemmas.List.{map-append, take_more, take_all, get_or_default}
use Rattle.std.proofs.lemmas.Option.{unwrap_or-slice_get}
use Rattle.std.proofs.lemmas.List.Sums.{fold-append, AllPass-from_list_all}
use Rattle.std.proofs.lemmas.Nat.{mul-add-lt}
use Rattle.lgc_values.specs.declared.TheConstants.{MOST_ROWS}
use Rattle.lgc_values.specs.declared.matrix.Operator.{Operator}
use Rattle.lgc_values.specs.Logic.{Logic, IsOperator, operator_at}
use Rattle.lgc_syntax.specs.declared.formula.Formula.{Formula, Op, Quant}
use Rattle.lgc_syntax.specs.Equality.{same_formula}
use Rattle.lgc_syntax.specs.Fits.{fits_within}
use Rattle.lgc_syntax.specs.Values.{listed, row_index, value}
use Rattle.lgc_syntax.proofs.FitsLaws.{fits_within-Op, fits_within-Quant}
use Rattle.lgc_syntax.proofs.ValueLaws.{value-Atom, value-Op}
use Rattle.lgc_meaning.specs.Operators.{with_operators}

-- the value of an atom is below n
pub listed-below : (n : ℕ) (entries : List (Formula × ℕ)) (atom : Formula) → 0 < n → All (λ entry. entry.1 < n) entries → listed entries atom < n
listed-below n [] atom some all = some
listed-below n (entry ∷ entries) atom some all =
    elim (same_formula atom entry.0) as (λ b. cond b entry.1 (listed entries atom) < n) [
      | true ↦ all 0 entry (omega arith)
      | false ↦ listed-below n entries atom some (λ i d lt. all (suc i) d (omega arith))
    ]

-- what is known of a compound of the logic and of its parts
pub fits_parts : (logic : Logic) (o : ℕ) (args : List Formula) → fits_within logic (Op o args) 0 ≡ true
    → (o < length logic.operators) × (length args ≡ (operator_at logic o).arity) × (list_all (λ f. fits_within logic f 0) args ≡ true)
fits_parts logic o args fits =
    let all = and_parts (nat_lt o (length logic.operators)) ((length args == (operator_at logic o).arity) && list_all (λ f. fits_within logic f 0) args) (sym (fits_within-Op logic o args 0) ∙ fits) in
    let rest = and_parts (length args == (operator_at logic o).arity) (list_all (λ f. fits_within logic f 0) args) all.1 in
    (ltb-true o (length logic.operators) all.0, eqb-true (length args) (operator_at logic o).arity rest.0, rest.1)

-- without quantifiers in the logic no formula of it has one
pub no_quantifier : (size : ℕ) (operators : List Operator) (q : ℕ) (body : Formula) → fits_within (with_operators size operators) (Quant q body) 0 ≡ true → ⊥
no_quantifier size operators q body fits =
    let known : q < 0 = ltb-true q 0 (and_parts (nat_lt q 0) (fits_within (with_operators size operators) body 1) (sym (fits_within-Quant (with_operators size operators) q body 0) ∙ fits)).0 in
    omega arith

-- a formula among formulas of the logic
pub fits_at : (logic : Logic) (fs : List Formula) (i : ℕ) (d : Formula) → list_all (λ f. fits_within logic f 0) fs ≡ true → i < length fs → fits_within logic (get_or fs i d) 0 ≡ true
fits_at logic fs i d all within = AllPass-from_list_all (λ f. fits_within logic f 0) fs all i d within

-- one more digit of a row
pub row_index-append : (n : ℕ) (xs : List ℕ) (y : ℕ) → row_index n (xs ++ y ∷ []) ≡ row_index n xs * n + y
row_index-append n xs y = fold-append (λ index argument. index * n + argument) 0 xs (y ∷ [])

pub row_digit : (n i size row v : ℕ) → row < n ^ i → v < n → i < size → n ^ size ≤ MOST_ROWS → (row * n + v < n ^ (i + 1)) × (n ^ (i + 1) ≤ MOST_ROWS)
row_digit n i size row v lt below within most =
    let some : 0 < n = omega arith in
    let up : n ^ (i + 1) ≤ n ^ size = pow-le-pow_right some {i = i + 1} {j = size} (omega arith) in
    (rw (add-one, pow-suc) (omega (arith, mul-add-lt row n v (n ^ i) lt below)), omega arith)

-- the row of no arguments
pub row_none : (n : ℕ) → (0 < n ^ 0) × (n ^ 0 ≤ MOST_ROWS)
row_none n = let one : n ^ 0 ≡ 1 = pow-zero n in (omega arith, omega arith)

-- the row with the value of one more formula
pub row_more : (n : ℕ) (val : Formula → ℕ) (fs : List Formula) (i row v : ℕ) (x : Formula) → i < length fs → x ≡ get_or fs i x → row ≡ row_index n (map val (take i fs)) → v ≡ val x
    → row * n + v ≡ row_index n (map val (take (i + 1) fs))
row_more n val fs i row v x within at before here =
    let more : map val (take (i + 1) fs) ≡ map val (take i fs) ++ val x ∷ [] = ap (map val) (take_more fs i x within ∙ ap (λ y. take i fs ++ y ∷ []) (sym at)) ∙ map-append val (take i fs) (x ∷ []) in
    ap (λ r. r * n + v) before ∙ ap (λ y. row_index n (map val (take i fs)) * n + y) here ∙ sym (ap (row_index n) more ∙ row_index-append n (map val (take i fs)) (val x))

-- ---- a compound of the logic of some operators

abbrev no_operator : Operator
no_operator = record { name = []; arity = 0; table = [] }

module _ (size : ℕ) (operators : List Operator) where
  abbrev logic : Logic
  logic = with_operators size operators

  operator_known : (o : ℕ) → All (IsOperator size) operators → o < length operators → IsOperator size (operator_at logic o)
  operator_known o all known = subst (IsOperator size) (sym (unwrap_or-slice_get operators o no_operator)) (all o no_operator known)

  -- what is known of its arguments
  pub arguments_known : (f : Formula) (o : ℕ) (args items : List Formula) → f ≡ Op o args → items ≡ args → fits_within logic f 0 ≡ true
      → (o < length operators) × (length items ≡ (operator_at logic o).arity) × (list_all (λ g. fits_within logic g 0) items ≡ true)
  arguments_known f o args items is same fits =
      subst (λ xs. (o < length operators) × (length xs ≡ (operator_at logic o).arity) × (list_all (λ g. fits_within logic g 0) xs ≡ true)) (sym same) (fits_parts logic o args (ap (λ g. fits_within logic g 0) (sym is) ∙ fits))

  pub arguments_few : (f : Formula) (o : ℕ) (args items : List Formula) → All (IsOperator size) operators → f ≡ Op o args → items ≡ args → fits_within logic f 0 ≡ true → size ^ length items ≤ MOST_ROWS
  arguments_few f o args items all is same fits =
      let known = arguments_known f o args items is same fits in
      rw known.1 ((operator_known o all known.0).short)

  -- its value is the entry of the operator's table at the row of its arguments
  pub compound_value : (v : Formula → ℕ) (f : Formula) (o : ℕ) (args items : List Formula) (i row : ℕ) (d : Operator) (table : List ℕ)
      → All (IsOperator size) operators → f ≡ Op o args → items ≡ args → fits_within logic f 0 ≡ true
      → length items ≤ i → i ≤ length items → row ≡ row_index size (map (value logic v) (take i items)) → row < size ^ i → table ≡ (get_or operators o d).table
      → (row < length table) × (get_or table row 0 ≡ value logic v f) × (get_or table row 0 < size)
  compound_value v f o args items i row d table all is same fits done within walked below tabled =
      let known = arguments_known f o args items is same fits in
      let right = operator_known o all known.0 in
      let entries : table ≡ (operator_at logic o).table = tabled ∙ ap (λ x. x.table) (get_or_default operators o d no_operator known.0 ∙ sym (unwrap_or-slice_get operators o no_operator)) in
      let count : i ≡ (operator_at logic o).arity = omega (arith, done, within, known.1) in
      let rows : length table ≡ size ^ i = ap length entries ∙ right.rows ∙ ap (λ k. size ^ k) (sym count) in
      let end : row ≡ row_index size (map (value logic v) args) = walked ∙ ap (λ xs. row_index size (map (value logic v) xs)) (take_all i items done ∙ same) in
      let entry : value logic v f ≡ get_or (operator_at logic o).table (row_index size (map (value logic v) args)) 0 = ap (value logic v) is ∙ value-Op logic v o args in
      let bound : row < length table = omega (arith, rows, below) in
      (bound, ap (λ xs. get_or xs row 0) entries ∙ ap (λ r. get_or (operator_at logic o).table r 0) end ∙ sym entry, subst (All (λ x. x < size)) (sym entries) right.entries row 0 bound)

pub ruleset row_rules = (listed-below, fits_parts, no_quantifier, fits_at, row_index-append, row_digit, value-Atom, value-Op)
