-- Where formulas stand among items.
use Rattle.std.proofs.Common.{◌≡◌, ◌≢◌, ℕ, zero, suc, ◌<◌, ◌≤◌, Bool, true, false, cond, List, [], ◌∷◌, length, take, drop, get_or, refl, sym, ap, ◌∙◌, arith}
use Rattle.std.specs.Prelude.{◌-◌, slice_get, Option, None, Some, MatchOption}
use Rattle.std.specs.List.{AllPairs}
use Rattle.std.proofs.lemmas.Bool.{or_parts, or_from}
use Rattle.std.proofs.lemmas.List.{take_all, length-take, length-drop, get_or-take}
use Rattle.lgc_syntax.specs.declared.formula.Formula.{Formula}
use Rattle.lgc_syntax.specs.Equality.{same_formula}
use Rattle.lgc_syntax.proofs.EqualityLaws.{same_formula-Decides}
use Rattle.lgc_sequents.specs.Signed.{SignedFormula}
use Rattle.lgc_sequents.specs.Sequents.{sign_in, occurs}
use Rattle.lgc_steps.specs.StepTests.{IsPlaceOf}

-- a formula that doesn't occur has no sign
pub sign_in-absent : (items : List SignedFormula) (f : Formula) → occurs items f ≡ false → sign_in items f ≡ []
sign_in-absent [] f absent = refl
sign_in-absent (x ∷ xs) f absent =
    let parts = or_parts (same_formula f x.formula) (occurs xs f) absent in
    rw parts.0 (sign_in-absent xs f parts.1)

rest_distinct : (x : SignedFormula) (xs : List SignedFormula) → AllPairs (λ a b. a.formula ≢ b.formula) (x ∷ xs) → AllPairs (λ a b. a.formula ≢ b.formula) xs
rest_distinct x xs distinct = λ i j d lt within. distinct (suc i) (suc j) d (omega arith) (omega arith)

pick : (f : Formula) (x : SignedFormula) (xs : List SignedFormula) (sign : List ℕ) (b : Bool) → same_formula f x.formula ≡ b → (f ≡ x.formula → ⊥) → sign_in xs f ≡ sign → cond b x.sign (sign_in xs f) ≡ sign
pick f x xs sign true test other later = absurd (other ((same_formula-Decides f x.formula).0 test))
pick f x xs sign false test other later = later

-- no formula stands twice, so an item's sign is that of its formula
pub sign_in-there : (items : List SignedFormula) (f : Formula) (place : ℕ) (d : SignedFormula) → AllPairs (λ a b. a.formula ≢ b.formula) items → place < length items → f ≡ (get_or items place d).formula → sign_in items f ≡ (get_or items place d).sign
sign_in-there [] f place d distinct within same = absurd (omega arith)
sign_in-there (x ∷ xs) f zero d distinct within same = rw ((same_formula-Decides f x.formula).1 same) refl
sign_in-there (x ∷ xs) f (suc place) d distinct within same =
    pick f x xs (get_or xs place d).sign (same_formula f x.formula) refl
    (λ here. distinct 0 (suc place) d (omega arith) (omega arith) (sym here ∙ same))
    (sign_in-there xs f place d (rest_distinct x xs distinct) (omega arith) same)

-- a formula that occurs neither before a place nor from there on doesn't occur
pub occurs_nowhere : (items : List SignedFormula) (f : Formula) (from : ℕ) → occurs (drop from items) f ≡ false → occurs (take from items) f ≡ false → occurs items f ≡ false
occurs_nowhere [] f from behind before = refl
occurs_nowhere (x ∷ xs) f zero behind before = behind
occurs_nowhere (x ∷ xs) f (suc from) behind before =
    let parts = or_parts (same_formula f x.formula) (occurs (take from xs) f) before in
    or_from (same_formula f x.formula) (occurs xs f) parts.0 (occurs_nowhere xs f from behind parts.1)

-- a place among the items before a place, where the formula occurs at no later one
pub place_before : (items : List SignedFormula) (f : Formula) (from : ℕ) (found : Option ℕ) → from ≤ length items → occurs (take (length items - from) (drop from items)) f ≡ false
    → MatchOption found (occurs (take from items) f ≡ false) (IsPlaceOf (take from items) f) → MatchOption found (occurs items f ≡ false) (IsPlaceOf items f)
place_before items f from None within behind before =
    let all : take (length items - from) (drop from items) ≡ drop from items = take_all (length items - from) (drop from items) (omega (arith, length-drop from items)) in
    occurs_nowhere items f from (ap (λ xs. occurs xs f) (sym all) ∙ behind) before
place_before items f from (Some place) within behind before =
    let short : length (take from items) ≡ from = length-take from items ∙ omega (arith, within) in
    record {
      within = omega (arith, short, before.within);
      there = λ d. before.there d ∙ ap (λ (x : SignedFormula). x.formula) (get_or-take from items place d (omega (arith, short, before.within)));
    }

-- what stands at a place is what is read there
pub read_there : {X : Type 0} (xs : List X) (i : ℕ) (x d : X) → slice_get xs i ≡ Some x → get_or xs i d ≡ x
read_there [] i x d is = cc
read_there (y ∷ ys) zero x d is = cc
read_there (y ∷ ys) (suc i) x d is = read_there ys i x d is
