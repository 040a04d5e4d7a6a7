-- The sets that stand on a formula.
use Rattle.std.proofs.Common.{◌≡◌, ℕ, zero, suc, ◌+◌, ◌<◌, ◌≤◌, ◌==◌, Bool, true, false, ◌||◌, ◌&&◌, List, [], ◌∷◌, ◌++◌, length, take, drop, map, get_or, refl, sym, ap, ◌∙◌, arith, ⊎_elim}
use Rattle.std.specs.Prelude.{nat_lt, min}
use Rattle.std.specs.List.{list_all}
use Rattle.std.proofs.lemmas.Bool.{lt-ltb, eq-eqb, cases_lt, and_from, and_right, or_left, or_right}
use Rattle.std.proofs.lemmas.Bool.Decides.{same_from_decides}
use Rattle.std.proofs.lemmas.List.{drop_more, length-map, get_or-map}
use Rattle.lgc_values.specs.Values.{has, values_where}
use Rattle.lgc_values.proofs.ValueLaws.{has-values_where}
use Rattle.lgc_syntax.specs.declared.formula.Term.{Term}
use Rattle.lgc_syntax.specs.declared.formula.Formula.{Formula}
use Rattle.lgc_syntax.specs.Substitution.{inst}
use Rattle.lgc_syntax.specs.Equality.{same_formula}
use Rattle.lgc_sequents.specs.Signed.{SignedFormula}
use Rattle.lgc_clauses.proofs.Changes.{has-filter}
use Rattle.lgc_sequents.specs.Steps.{with_signs, carries, common}
use Rattle.lgc_sequents.proofs.Laws.{list_all-has}

-- a union has what either set has
pub has-either : (n : ℕ) (a b : List ℕ) (v : ℕ) → v < n → has (values_where n (λ w. has a w || has b w)) v ≡ (has a v || has b v)
has-either n a b v lt = has-values_where n (λ w. has a w || has b w) v ∙ ap (λ below. below && (has a v || has b v)) (lt-ltb v n lt)

or_swapped : (a b c : Bool) → ((a || b) || c) ≡ (a || (b || c))
or_swapped true b c = refl
or_swapped false b c = refl

-- one more set stands on the formula
pub carries_more : (sets : List (List ℕ)) (formulas : List Formula) (f : Formula) (v i : ℕ) (covered : Bool) (d : List ℕ) (g : Formula) → i < length sets → i < length formulas
    → ((covered || (same_formula f (get_or formulas i g) && has (get_or sets i d) v)) || carries (with_signs (drop (i + 1) sets) (drop (i + 1) formulas)) f v) ≡ (covered || carries (with_signs (drop i sets) (drop i formulas)) f v)
carries_more sets formulas f v i covered d g lt lt' =
    or_swapped covered (same_formula f (get_or formulas i g) && has (get_or sets i d) v) (carries (with_signs (drop (i + 1) sets) (drop (i + 1) formulas)) f v)
    ∙ ap (λ b. covered || b) (sym (λ j. carries (with_signs (drop_more sets i d lt j) (drop_more formulas i g lt' j)) f v))

-- beyond the shorter list nothing stands
pub carries_ended : (sets : List (List ℕ)) (formulas : List Formula) (f : Formula) (v i : ℕ) → (length sets ≤ i) → carries (with_signs (drop i sets) (drop i formulas)) f v ≡ false
carries_ended [] formulas f v zero ended = refl
carries_ended [] formulas f v (suc i) ended = refl
carries_ended (set ∷ sets) formulas f v zero ended = absurd (omega arith)
carries_ended (set ∷ sets) [] f v (suc i) ended = none (drop i sets)
  where
    none : (rest : List (List ℕ)) → carries (with_signs rest []) f v ≡ false
    none [] = refl
    none (s ∷ rest) = refl
carries_ended (set ∷ sets) (g ∷ formulas) f v (suc i) ended = carries_ended sets formulas f v i (omega arith)

pub carries_no_more : (sets : List (List ℕ)) (formulas : List Formula) (f : Formula) (v i : ℕ) → (length formulas ≤ i) → carries (with_signs (drop i sets) (drop i formulas)) f v ≡ false
carries_no_more sets [] f v i ended = none (drop i sets) i
  where
    none : (rest : List (List ℕ)) (k : ℕ) → carries (with_signs rest (drop k [])) f v ≡ false
    none [] k = refl
    none (s ∷ rest) zero = refl
    none (s ∷ rest) (suc k) = refl
carries_no_more sets (g ∷ formulas) f v zero ended = absurd (omega arith)
carries_no_more [] (g ∷ formulas) f v (suc i) ended = refl
carries_no_more (set ∷ sets) (g ∷ formulas) f v (suc i) ended = carries_no_more sets formulas f v i (omega arith)

-- a last set doesn't stand where the formulas end before it
pub carries_short : (all : List (List ℕ)) (some : List ℕ) (formulas : List Formula) (f : Formula) (v : ℕ) → length formulas ≤ length all → carries (with_signs (all ++ some ∷ []) formulas) f v ≡ carries (with_signs all formulas) f v
carries_short [] some [] f v short = refl
carries_short [] some (g ∷ formulas) f v short = absurd (omega arith)
carries_short (set ∷ all) some [] f v short = refl
carries_short (set ∷ all) some (g ∷ formulas) f v short = ap (λ b. (same_formula f g && has set v) || b) (carries_short all some formulas f v (omega arith))

or_together : (a b c : Bool) → (a || (b || c)) ≡ ((a || b) || c)
or_together true b c = refl
or_together false b c = refl

or-false : (b : Bool) → (b || false) ≡ b
or-false true = refl
or-false false = refl

-- and stands on the formula at its place else
pub carries_last : (all : List (List ℕ)) (some : List ℕ) (formulas : List Formula) (f : Formula) (v : ℕ) (d : Formula) → length all < length formulas
    → carries (with_signs (all ++ some ∷ []) formulas) f v ≡ (carries (with_signs all formulas) f v || (same_formula f (get_or formulas (length all) d) && has some v))
carries_last all some [] f v d long = absurd (omega arith)
carries_last [] some (g ∷ formulas) f v d long = last formulas
  where
    last : (rest : List Formula) → ((same_formula f g && has some v) || carries (with_signs [] rest) f v) ≡ (same_formula f g && has some v)
    last rest = or-false (same_formula f g && has some v)
carries_last (set ∷ all) some (g ∷ formulas) f v d long =
    ap (λ b. (same_formula f g && has set v) || b) (carries_last all some formulas f v d (omega arith))
    ∙ or_together (same_formula f g && has set v) (carries (with_signs all formulas) f v) (same_formula f (get_or formulas (length all) d) && has some v)

-- what the sets of a quantifier's clause give, where a term is left for the last
pub last_stands : (sets all : List (List ℕ)) (some : List ℕ) (clause : List (List ℕ)) (body : Formula) (terms : List Term) (f : Formula) (term : Term) (v : ℕ) (covered is_last : Bool)
    → sets ≡ all → some ∷ all ≡ clause → length sets < length terms → term ≡ get_or terms (length sets) term → covered ≡ carries (with_signs sets (map (inst body) terms)) f v → is_last ≡ same_formula f (inst body term)
    → carries (with_signs (drop 1 clause ++ take 1 clause) (map (inst body) terms)) f v ≡ (covered || (is_last && has some v))
last_stands sets all some clause body terms f term v covered is_last same_sets same_clause inside is_term before test =
    let formulas = map (inst body) terms in
    let long : length sets < length formulas = omega (arith, length-map terms (inst body), inside) in
    let last : get_or formulas (length sets) (inst body term) ≡ inst body term = get_or-map (inst body) terms (length sets) term (inst body term) inside ∙ ap (inst body) (sym is_term) in
    ap (λ (c : List (List ℕ)). carries (with_signs (drop 1 c ++ take 1 c) formulas) f v) (sym same_clause)
    ∙ ap (λ (s : List (List ℕ)). carries (with_signs (s ++ some ∷ []) formulas) f v) (sym same_sets)
    ∙ carries_last sets some formulas f v (inst body term) long
    ∙ ap (λ b. b || (same_formula f (get_or formulas (length sets) (inst body term)) && has some v)) (sym before)
    ∙ (λ i. covered || (same_formula f (last i) && has some v))
    ∙ ap (λ b. covered || (b && has some v)) (sym test)

-- ---- turns of a walk over the sets

module _ (n : ℕ) (sets : List (List ℕ)) (formulas : List Formula) (f : Formula) (i : ℕ) (set : List ℕ) (g : Formula) (here : i < length sets) (there : i < length formulas) (is_set : set ≡ get_or sets i set) (is_formula : g ≡ get_or formulas i g) (covered : List ℕ) (v : ℕ) where
  one_more : (b : Bool) → same_formula f g ≡ b → ((has covered v || (b && has set v)) || carries (with_signs (drop (i + 1) sets) (drop (i + 1) formulas)) f v) ≡ (has covered v || carries (with_signs (drop i sets) (drop i formulas)) f v)
  one_more b same =
      ap (λ c. (has covered v || (c && has set v)) || carries (with_signs (drop (i + 1) sets) (drop (i + 1) formulas)) f v) (sym same)
      ∙ (λ j. (has covered v || (same_formula f (is_formula j) && has (is_set j) v)) || carries (with_signs (drop (i + 1) sets) (drop (i + 1) formulas)) f v)
      ∙ carries_more sets formulas f v i (has covered v) set g here there

  -- the set stands on the formula, and is joined
  pub stands : v < n → same_formula f g ≡ true → (has (values_where n (λ w. has covered w || has set w)) v || carries (with_signs (drop (i + 1) sets) (drop (i + 1) formulas)) f v) ≡ (has covered v || carries (with_signs (drop i sets) (drop i formulas)) f v)
  stands lt same = ap (λ b. b || carries (with_signs (drop (i + 1) sets) (drop (i + 1) formulas)) f v) (has-either n covered set v lt) ∙ one_more true same

  -- it doesn't
  pub stands_not : same_formula f g ≡ false → (has covered v || carries (with_signs (drop (i + 1) sets) (drop (i + 1) formulas)) f v) ≡ (has covered v || carries (with_signs (drop i sets) (drop i formulas)) f v)
  stands_not same = ap (λ b. b || carries (with_signs (drop (i + 1) sets) (drop (i + 1) formulas)) f v) (sym (or-false (has covered v))) ∙ one_more false same

-- at the end of the walk all is covered
pub all_covered : (sets : List (List ℕ)) (formulas : List Formula) (f : Formula) (v i end : ℕ) (covered whole : Bool) → end ≡ min (length sets) (length formulas) → end ≤ i → (covered || carries (with_signs (drop i sets) (drop i formulas)) f v) ≡ whole → covered ≡ whole
all_covered sets formulas f v i end covered whole least ended walked =
    let none : carries (with_signs (drop i sets) (drop i formulas)) f v ≡ false =
    ⊎_elim
    (λ fewer. carries_no_more sets formulas f v i (omega (arith, least, ended, fewer)))
    (λ fewer. carries_ended sets formulas f v i (omega (arith, least, ended, fewer)))
    (cases_lt (length formulas) (length sets)) in
    sym (or-false covered) ∙ ap (λ b. covered || b) (sym none) ∙ walked

-- ---- members

-- tests that agree on the members of a set agree on the set
pub alike_on : (p q : ℕ → Bool) (set : List ℕ) → ((v : ℕ) → has set v ≡ true → p v ≡ q v) → list_all p set ≡ list_all q set
alike_on p q [] same = refl
alike_on p q (v ∷ set) same =
    let first : p v ≡ q v = same v (or_left (v == v) (has set v) (eq-eqb v v refl)) in
    λ i. first i && alike_on p q set (λ w member. same w (or_right (v == w) (has set w) member)) i

-- a test that each member of a set passes
all_members : (p : ℕ → Bool) (set : List ℕ) → ((v : ℕ) → has set v ≡ true → p v ≡ true) → list_all p set ≡ true
all_members p [] each = refl
all_members p (v ∷ set) each = and_from (p v) (list_all p set) (each v (or_left (v == v) (has set v) (eq-eqb v v refl))) (all_members p set (λ w member. each w (or_right (v == w) (has set w) member)))

-- is passed on two sets with the same members alike
same_members : (p : ℕ → Bool) (xs ys : List ℕ) → ((v : ℕ) → has xs v ≡ has ys v) → list_all p xs ≡ list_all p ys
same_members p xs ys same = same_from_decides (list_all p xs) (list_all p ys)
    ((λ all. all), (λ all. all))
    ((λ all. all_members p xs (λ v member. list_all-has p ys v all (sym (same v) ∙ member))), (λ all. all_members p ys (λ v member. list_all-has p xs v all (same v ∙ member))))

below_or_not : (n : ℕ) (a : List ℕ) (v : ℕ) → ((w : ℕ) → has a w ≡ true → w < n) → (b c : Bool) → has a v ≡ b → (nat_lt v n && (b && c)) ≡ (b && c)
below_or_not n a v below true c member = ap (λ x. x && c) (lt-ltb v n (below v member))
below_or_not n a v below false c member = and_right (nat_lt v n) false refl

-- the meet of two sets has the members that both have
pub meet_is_common : (n : ℕ) (p : ℕ → Bool) (a b : List ℕ) → ((v : ℕ) → has a v ≡ true → v < n) → list_all p (values_where n (λ w. has a w && has b w)) ≡ list_all p (common a b)
meet_is_common n p a b below = same_members p (values_where n (λ w. has a w && has b w)) (common a b) (λ v.
    has-values_where n (λ w. has a w && has b w) v ∙ below_or_not n a v below (has a v) (has b v) refl ∙ sym (has-filter (has b) a v))

-- ---- values that are allowed

module _ (n : ℕ) (own by : List ℕ) (items : List SignedFormula) (f : Formula) (sign : List ℕ) (below : (v : ℕ) → has sign v ≡ true → v < n) (covers : (v : ℕ) → v < n → has by v ≡ carries items f v) where
  -- they lie in a clause's sets
  pub allowed_by_clause : list_all (has by) sign ≡ true → list_all (λ v. has own v || carries items f v) sign ≡ true
  allowed_by_clause all = all_members (λ v. has own v || carries items f v) sign (λ v member. or_right (has own v) (carries items f v) (sym (covers v (below v member)) ∙ list_all-has (has by) sign v all member))

  -- they lie there or in the conclusion
  pub allowed_by_both : list_all (has (values_where n (λ w. has own w || has by w))) sign ≡ list_all (λ v. has own v || carries items f v) sign
  allowed_by_both = alike_on (has (values_where n (λ w. has own w || has by w))) (λ v. has own v || carries items f v) sign (λ v member. has-either n own by v (below v member) ∙ ap (λ b. has own v || b) (covers v (below v member)))
