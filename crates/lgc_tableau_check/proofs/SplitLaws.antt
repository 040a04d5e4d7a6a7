-- Cases at rows of arguments, and their formulas.
use Rattle.std.proofs.Common.{◌≡◌, ℕ, ◌+◌, ◌-◌, ◌/◌, ◌%◌, ◌^◌, ◌<◌, ◌||◌, List, [], ◌∷◌, ◌++◌, length, map, take, drop, get_or, refl, ap, sym, ◌∙◌, arith}
use Rattle.std.proofs.lemmas.Grind.{common_steps}
use Rattle.std.proofs.lemmas.List.{get_or-map, drop-map}
use Rattle.lgc_values.specs.Values.{has}
use Rattle.lgc_clauses.specs.Rules.{clause_holds}
use Rattle.lgc_clauses.specs.Irredundance.{set_at}
use Rattle.lgc_clauses.proofs.Walking.{holds_more}
use Rattle.lgc_syntax.specs.declared.formula.Formula.{Formula}
use Rattle.lgc_sequents.specs.Signed.{SignedFormula}

-- ---- rows

-- the items from j on at a row
pub true_more : (size : ℕ) (items : List SignedFormula) (item : SignedFormula) (j row : ℕ) → j < length items → item ≡ get_or items j item
    → clause_holds size (map (λ x. x.sign) (drop j items)) row ≡ (has item.sign (row / size ^ (length items - 1 - j) % size) || clause_holds size (map (λ x. x.sign) (drop (j + 1) items)) row)
true_more size items item j row lt is =
    let sets : List (List ℕ) = map (λ x. x.sign) items in
    let count : length sets ≡ length items = grind (arith, common_steps) in
    let within : j < length sets = omega arith in
    let set : set_at sets j ≡ item.sign = get_or-map (λ (x : SignedFormula). x.sign) items j item [] lt ∙ ap (λ (x : SignedFormula). x.sign) (sym is) in
    ap (λ (s : List (List ℕ)). clause_holds size s row) (sym (drop-map (λ (x : SignedFormula). x.sign) j items))
    ∙ holds_more size sets j row within
    ∙ ap (λ (k : ℕ). has (set_at sets j) (row / size ^ (k - 1 - j) % size) || clause_holds size (drop (j + 1) sets) row) count
    ∙ ap (λ (s : List ℕ). has s (row / size ^ (length items - 1 - j) % size) || clause_holds size (drop (j + 1) sets) row) set
    ∙ ap (λ (s : List (List ℕ)). has item.sign (row / size ^ (length items - 1 - j) % size) || clause_holds size s row) (drop-map (λ (x : SignedFormula). x.sign) (j + 1) items)

-- ---- formulas

-- one formula more
pub formulas_more : (items : List SignedFormula) (args : List Formula) (item : SignedFormula) (arg : Formula) (i : ℕ) → i < length items → length items ≡ length args → item ≡ get_or items i item → arg ≡ get_or args i arg → item.formula ≡ arg
    → map (λ x. x.formula) (take i items) ≡ take i args → map (λ x. x.formula) (take (i + 1) items) ≡ take (i + 1) args
formulas_more items args item arg i lt count is is_arg same before =
    let one : take (i + 1) items ≡ take i items ++ item ∷ [] = grind (arith, common_steps) in
    let other : take (i + 1) args ≡ take i args ++ arg ∷ [] = grind (arith, common_steps) in
    ap (map (λ (x : SignedFormula). x.formula)) one ∙ map_last (take i items) ∙ ap (λ (fs : List Formula). fs ++ item.formula ∷ []) before ∙ ap (λ (f : Formula). take i args ++ f ∷ []) same ∙ sym other where
      map_last : (xs : List SignedFormula) → map (λ x. x.formula) (xs ++ item ∷ []) ≡ map (λ x. x.formula) xs ++ item.formula ∷ []
      map_last xs = grind (arith, common_steps)

-- equal lists of formulas have the same at a place
pub formulas_at : (items : List SignedFormula) (args : List Formula) (item : SignedFormula) (arg : Formula) (i : ℕ) → i < length items → item ≡ get_or items i item → arg ≡ get_or args i arg → map (λ x. x.formula) items ≡ args → item.formula ≡ arg
formulas_at items args item arg i lt is is_arg same =
    ap (λ (x : SignedFormula). x.formula) is ∙ sym (get_or-map (λ (x : SignedFormula). x.formula) items i item arg lt) ∙ ap (λ (fs : List Formula). get_or fs i arg) same ∙ sym is_arg
