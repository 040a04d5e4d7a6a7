-- The items of each kind of branch, and the values that a formula has among items.
use Rattle.std.proofs.Common.{◌≡◌, ℕ, ◌+◌, ◌<◌, ◌||◌, ◌&&◌, Bool, true, false, List, [], ◌∷◌, ◌++◌, refl, ap, sym, ◌∙◌, take, get_or, length, arith}
use Rattle.std.specs.Prelude.{filter}
use Rattle.std.specs.List.{range_with_len}
use Rattle.std.proofs.lemmas.Grind.{common_steps}
use Rattle.std.proofs.lemmas.Bool.{lt-ltb}
use Rattle.std.proofs.lemmas.List.Folds.{list_any-append}
use denote.Bor.{Bor}
use Rattle.lgc_values.specs.Values.{has, values_where}
use Rattle.lgc_values.proofs.ValueLaws.{values_where-alike, has-values_where}
use Rattle.lgc_syntax.specs.declared.formula.Formula.{Formula}
use Rattle.lgc_syntax.specs.Equality.{same_formula}
use Rattle.lgc_sequents.specs.Signed.{SignedFormula}
use Rattle.lgc_sequents.specs.Steps.{carries}
use Rattle.lgc_tableau_check.specs.declared.branch.Branch.{Branch, Goal, Case, fold-Branch, fold-roll-Branch}
use Rattle.lgc_tableau_check.specs.declared.branch.Branch.TheVariants.{rolls-Goal, rolls-Case}
use Rattle.lgc_tableau_check.specs.declared.branch.Branch.TheOpen as branch
use Rattle.lgc_tableau_check.specs.Branches.{items_layer, items_of}

pub items_of-Goal : (items : Bor (List SignedFormula)) → items_of (Goal items) ≡ items.now
unfolding items_of
items_of-Goal items = ap (fold-Branch SignedFormula (List SignedFormula) items_layer) (sym (rolls-Goal items)) ∙ fold-roll-Branch SignedFormula (List SignedFormula) items_layer (branch.Goal items)

pub items_of-Case : (above : Bor (Branch SignedFormula)) (items : Bor (List SignedFormula)) → items_of (Case above items) ≡ items_of above.now ++ items.now
unfolding items_of
items_of-Case above items = ap (fold-Branch SignedFormula (List SignedFormula) items_layer) (sym (rolls-Case above items)) ∙ fold-roll-Branch SignedFormula (List SignedFormula) items_layer (branch.Case above items)

-- ---- the values of a formula

pub has-where : (n : ℕ) (p : ℕ → Bool) (v : ℕ) → v < n → has (values_where n p) v ≡ p v
has-where n p v lt = has-values_where n p v ∙ ap (λ b. b && p v) (lt-ltb v n lt)

pub sign_append : (n : ℕ) (xs ys : List SignedFormula) (f : Formula) → values_where n (λ w. has (values_where n (carries xs f)) w || has (values_where n (carries ys f)) w) ≡ values_where n (carries (xs ++ ys) f)
sign_append n xs ys f =
    values_where-alike n (λ w. has (values_where n (carries xs f)) w || has (values_where n (carries ys f)) w) (carries (xs ++ ys) f)
    (λ v lt. ap (λ b. b || has (values_where n (carries ys f)) v) (has-where n (carries xs f) v lt) ∙ ap (λ b. carries xs f v || b) (has-where n (carries ys f) v lt) ∙ sym (list_any-append (λ item. same_formula f item.formula && has item.sign v) xs ys))

pub ruleset branch_rules = (items_of-Goal, items_of-Case, sign_append)

filter_none : (xs : List ℕ) → filter (λ _. false) xs ≡ []
filter_none [] = refl
filter_none (x ∷ xs) = filter_none xs

pub sign_none : (n : ℕ) (f : Formula) → values_where n (carries [] f) ≡ []
sign_none n f = filter_none (range_with_len 0 n)

-- ---- one item more

or_false : (b : Bool) → (b || false) ≡ b
or_false true = refl
or_false false = refl

more : (xs : List SignedFormula) (item : SignedFormula) (f : Formula) (b : Bool) → same_formula f item.formula ≡ b → (v : ℕ) → carries (xs ++ item ∷ []) f v ≡ (carries xs f v || (b && has item.sign v))
more xs item f b same v =
    list_any-append (λ x. same_formula f x.formula && has x.sign v) xs (item ∷ [])
    ∙ ap (λ b. carries xs f v || b) (or_false (same_formula f item.formula && has item.sign v) ∙ ap (λ b. b && has item.sign v) same)

take_one : (items : List SignedFormula) (i : ℕ) (item : SignedFormula) → i < length items → item ≡ get_or items i item → take (i + 1) items ≡ take i items ++ item ∷ []
take_one items i item lt is = grind (arith, common_steps)

pub sign_more : (n : ℕ) (items : List SignedFormula) (i : ℕ) (item : SignedFormula) (f : Formula) → i < length items → item ≡ get_or items i item → same_formula f item.formula ≡ true → values_where n (λ w. has (values_where n (carries (take i items) f)) w || has item.sign w) ≡ values_where n (carries (take (i + 1) items) f)
sign_more n items i item f lt is same =
    values_where-alike n (λ w. has (values_where n (carries (take i items) f)) w || has item.sign w) (carries (take (i + 1) items) f)
    (λ v below. ap (λ b. b || has item.sign v) (has-where n (carries (take i items) f) v below) ∙ sym (ap (λ xs. carries xs f v) (take_one items i item lt is) ∙ more (take i items) item f true same v))

pub sign_passed : (n : ℕ) (items : List SignedFormula) (i : ℕ) (item : SignedFormula) (f : Formula) → i < length items → item ≡ get_or items i item → same_formula f item.formula ≡ false → values_where n (carries (take (i + 1) items) f) ≡ values_where n (carries (take i items) f)
sign_passed n items i item f lt is other =
    values_where-alike n (carries (take (i + 1) items) f) (carries (take i items) f)
    (λ v below. ap (λ xs. carries xs f v) (take_one items i item lt is) ∙ more (take i items) item f false other v ∙ or_false (carries (take i items) f v))
