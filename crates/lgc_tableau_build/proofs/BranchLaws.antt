-- Walks over the pairs of a branch.
use Rattle.std.proofs.Common.{◌≡◌, ◌≢◌, ℕ, ◌+◌, ◌<◌, ◌≤◌, ◌||◌, ◌&&◌, ◌==◌, Bool, true, false, List, [], ◌∷◌, ◌++◌, length, take, drop, get_or, set, slice_get, Some, refl, ap, sym, ◌∙◌, subst, arith, ⊎_elim, append_assoc, get_or-set_same, get_or-set_other}
use Rattle.std.specs.List.{All, zip}
use Rattle.std.proofs.lemmas.Bool.{and_parts, eqb-true, eq-eqb, ne_eqb, lt-ltb, cases_eq, cases_lt, true≢false}
use Rattle.std.proofs.lemmas.List.{drop_more, drop_all, get_or_default}
use Rattle.std.proofs.lemmas.List.Folds.{Any-from_list_any}
use Rattle.std.proofs.lemmas.Option.{slice_get_read}
use Rattle.lgc_values.specs.Values.{has, values_where}
use Rattle.lgc_values.proofs.ValueLaws.{has-values_where}
use Rattle.lgc_packed.specs.Packed.{marks}
use Rattle.lgc_packed.proofs.ClauseLaws.{marks-take}
use Rattle.lgc_tableau_build.specs.Numbers.{AreSigns, IsFull, IsNoneFull, IsFirstFullNumber}

pub number_known : (n : ℕ) (pairs : List (ℕ × List ℕ)) (i : ℕ) (pair : ℕ × List ℕ) → All (λ (p : ℕ × List ℕ). p.0 < n) pairs → i < length pairs → pair ≡ get_or pairs i pair → pair.0 < n
number_known n pairs i pair all lt read = subst (λ (p : ℕ × List ℕ). p.0 < n) (sym read) (all i pair lt)

-- ---- signs

pub sign_read : (n : ℕ) (branch : List (ℕ × List ℕ)) (signs : List (List ℕ)) (k : ℕ) (whole : List ℕ) → k < length signs → whole ≡ get_or signs k whole → AreSigns n branch signs → (w : ℕ) → w < n → has whole w ≡ marks branch k w
sign_read n branch signs k whole lt read are w l = ap (λ s. has s w) (read ∙ get_or_default signs k whole [] lt) ∙ are k w l

or_none : (b : Bool) → b ≡ (b || false)
or_none true = refl
or_none false = refl

-- one pair more
pub signs_more : (n : ℕ) (branch : List (ℕ × List ℕ)) (i : ℕ) (pair : ℕ × List ℕ) (signs : List (List ℕ)) (whole made : List ℕ) → i < length branch → pair ≡ get_or branch i pair → pair.0 < length signs → whole ≡ get_or signs pair.0 whole
    → made ≡ values_where n (λ w. has whole w || has pair.1 w) → AreSigns n (take i branch) signs → AreSigns n (take (i + 1) branch) (set signs pair.0 made)
signs_more n branch i pair signs whole made lt read within there is are k w l =
    let more = marks-take branch i pair k w lt read in
    ⊎_elim
    (λ same.
    let at : get_or (set signs pair.0 made) k [] ≡ made = ap (λ j. get_or (set signs pair.0 made) j []) same ∙ get_or-set_same signs pair.0 made [] within in
    let both : has made w ≡ (has whole w || has pair.1 w) = ap (λ s. has s w) is ∙ has-values_where n (λ v. has whole v || has pair.1 v) w ∙ ap (λ b. b && (has whole w || has pair.1 w)) (lt-ltb w n l) in
    let before : has whole w ≡ marks (take i branch) k w = sign_read n (take i branch) signs pair.0 whole within there are w l ∙ ap (λ j. marks (take i branch) j w) (sym same) in
    let test : true ≡ (pair.0 == k) = sym (eq-eqb pair.0 k (sym same)) in
    ap (λ s. has s w) at ∙ both ∙ (λ j. before j || (test j && has pair.1 w)) ∙ sym more)
    (λ other.
    let at : get_or (set signs pair.0 made) k [] ≡ get_or signs k [] = get_or-set_other signs pair.0 k made [] other in
    let test : false ≡ (pair.0 == k) = sym (ne_eqb pair.0 k (λ e. other (sym e))) in
    ap (λ s. has s w) at ∙ are k w l ∙ or_none (marks (take i branch) k w) ∙ (λ j. marks (take i branch) k w || (test j && has pair.1 w)) ∙ sym more)
    (cases_eq k pair.0)

-- ---- the first full one

abbrev pub NoneBefore : ℕ → List (ℕ × List ℕ) → ℕ → Type 0
NoneBefore n branch at = (i : ℕ) (earlier : ℕ × List ℕ) → i < at → slice_get branch i ≡ Some earlier → earlier.1 ≢ [] → IsFull n branch earlier.0 → ⊥

pub first_there : (n : ℕ) (branch : List (ℕ × List ℕ)) (i : ℕ) (pair : ℕ × List ℕ) → i < length branch → pair ≡ get_or branch i pair → pair.1 ≢ [] → IsFull n branch pair.0 → NoneBefore n branch i → IsFirstFullNumber n branch pair.0
first_there n branch i pair lt read signed full before = record { at = i; sign = pair.1; is = slice_get_read branch (length branch) i pair refl lt read; signed = signed; full = full; before = before }

pub none_more : (n : ℕ) (branch : List (ℕ × List ℕ)) (i : ℕ) (pair : ℕ × List ℕ) → i < length branch → pair ≡ get_or branch i pair → (pair.1 ≢ [] → IsFull n branch pair.0 → ⊥) → NoneBefore n branch i → NoneBefore n branch (i + 1)
none_more n branch i pair lt read here before j earlier less at signed full = ⊎_elim
    (λ smaller. before j earlier smaller at signed full)
    (λ (greater : i ≤ j).
    let same : j ≡ i = omega (arith, less, greater) in
    let found : Some earlier ≡ Some pair = sym at ∙ ap (slice_get branch) same ∙ slice_get_read branch (length branch) i pair refl lt read in
    let one : earlier ≡ pair = cc in
    let Signed : ℕ × List ℕ → Type 0 = λ p. p.1 ≢ [] in
    let Full : ℕ × List ℕ → Type 0 = λ p. IsFull n branch p.0 in
    here (subst Signed one signed) (subst Full one full))
    (cases_lt j i)

pub none_at_all : (n : ℕ) (branch : List (ℕ × List ℕ)) (i : ℕ) → 0 < n → length branch ≤ i → NoneBefore n branch i → IsNoneFull n branch
none_at_all n branch i some done before k full =
    let found = Any-from_list_any (λ (pair : ℕ × List ℕ). (pair.0 == k) && has pair.1 0) branch (full 0 some) in
    let at : ℕ = found.0 in
    let pair : ℕ × List ℕ = found.1 in
    let parts = and_parts (pair.0 == k) (has pair.1 0) found.4 in
    let within = found.2 in
    before at pair (omega (arith, within, done)) (slice_get_read branch (length branch) at pair refl within (sym found.3))
    (λ none. true≢false (sym parts.1 ∙ ap (λ s. has s 0) none))
    (subst (IsFull n branch) (sym (eqb-true pair.0 k parts.0)) full)

-- ---- pairs of a clause

zip_none : (xs : List ℕ) (ys : List (List ℕ)) → ys ≡ [] → zip xs ys ≡ []
zip_none [] ys none = refl
zip_none (x ∷ xs) [] none = refl
zip_none (x ∷ xs) (y ∷ ys) none = cc

pub pair_more : (args : List ℕ) (sets : List (List ℕ)) (i : ℕ) (s : List ℕ) (pairs after : List (ℕ × List ℕ)) → i < length args → i < length sets → s ≡ get_or sets i s → after ≡ pairs ++ (get_or args i 0, s) ∷ []
    → pairs ++ zip (drop i args) (drop i sets) ≡ zip args sets → after ++ zip (drop (i + 1) args) (drop (i + 1) sets) ≡ zip args sets
pair_more args sets i s pairs after lt_args lt_sets read made before =
    let rest = zip (drop (i + 1) args) (drop (i + 1) sets) in
    let split : zip (drop i args) (drop i sets) ≡ (get_or args i 0, s) ∷ rest = (λ j. zip (drop_more args i 0 lt_args j) (drop_more sets i s lt_sets j)) ∙ ap (λ t. (get_or args i 0, t) ∷ rest) (sym read) in
    ap (λ xs. xs ++ rest) made ∙ append_assoc pairs ((get_or args i 0, s) ∷ []) rest ∙ ap (λ xs. pairs ++ xs) (sym split) ∙ before

pub pair_past : (args : List ℕ) (sets : List (List ℕ)) (i : ℕ) (pairs after : List (ℕ × List ℕ)) → length sets ≤ i → after ≡ pairs → pairs ++ zip (drop i args) (drop i sets) ≡ zip args sets → after ++ zip (drop (i + 1) args) (drop (i + 1) sets) ≡ zip args sets
pair_past args sets i pairs after past same before =
    let none : zip (drop (i + 1) args) (drop (i + 1) sets) ≡ zip (drop i args) (drop i sets) =
    zip_none (drop (i + 1) args) (drop (i + 1) sets) (drop_all (i + 1) sets (omega (arith, past))) ∙ sym (zip_none (drop i args) (drop i sets) (drop_all i sets past)) in
    (λ j. same j ++ none j) ∙ before
