-- Rows as lists of signed atoms: of what form these are, where they are true, and when one subsumes another.
use Rattle.std.proofs.Common.{◌≡◌, ◌≢◌, ℕ, zero, suc, ◌+◌, ◌<◌, ◌≤◌, ◌||◌, ◌&&◌, min, Bool, true, false, cond, List, [], ◌∷◌, ◌++◌, map, length, get_or, drop, refl, ap, sym, ◌∙◌, subst, arith, add-one}
use Rattle.std.specs.Prelude.{All, AllPairs}
use Rattle.std.specs.List.{Contains, list_all, list_any, AllByRecursion}
use Rattle.std.proofs.lemmas.Bool.{or_parts, true≢false}
use Rattle.std.proofs.lemmas.List.{get_or-map, length-map}
use Rattle.std.proofs.lemmas.List.Kept.{AllPairs-cons}
use Rattle.std.proofs.lemmas.List.Elements.{All-nil, All-cons, All-map, All-weaker, All-contains_itself, recursion_from_All}
use Rattle.std.proofs.lemmas.List.Folds.{list_any_at}
use Rattle.lgc_values.specs.Values.{has}
use Rattle.lgc_values.specs.Logic.{Logic, IsLogic}
use Rattle.lgc_clauses.specs.Rules.{OperatorRule, some_in}
use Rattle.lgc_syntax.specs.declared.formula.Formula.{Formula}
use Rattle.lgc_syntax.specs.Equality.{same_formula}
use Rattle.lgc_syntax.specs.Fits.{Fits}
use Rattle.lgc_syntax.specs.Sizes.{has_quantifier}
use Rattle.lgc_syntax.specs.Values.{value}
use Rattle.lgc_syntax.proofs.EqualityLaws.{same_formula-Decides}
use Rattle.lgc_sequents.specs.Signed.{SignedFormula}
use Rattle.lgc_sequents.specs.Sequents.{IsSet, IsSign, has_all, sign_in, is_included, is_true_at}
use Rattle.lgc_meaning.specs.Valuations.{atom_places}
use Rattle.lgc_meaning.proofs.AtomLaws.{any-each_once}
use Rattle.lgc_meaning.proofs.Places.{distinct-each_once}
use Rattle.lgc_calculus.specs.RuleBook.{IsRightBook}
use Rattle.lgc_clause_sets.specs.AtomClauses.{has_member, has_full, subsumes}
use Rattle.lgc_clause_sets.specs.Reductions.{Among}
use Rattle.lgc_clause_sets.proofs.AmongLaws.{among_at, all_among}
use Rattle.lgc_clause_sets.proofs.ReductionLaws.{reduction_least, reduction_true}
use Rattle.lgc_translate.specs.Translation.{translated}
use Rattle.lgc_translate.specs.Covering.{covers}
use Rattle.lgc_translate.specs.SignedClauses.{atoms_in, signed_atoms, AreLeastClauses, IsClauseOver, AreApart, IsClauseSet}
use Rattle.lgc_translate.specs.Words.{AreReduced}
use Rattle.lgc_translate.proofs.Rising.{IsRow, translated_rows}
use Rattle.lgc_translate.proofs.Truth.{exact_rules, rows_below, translation_true}

abbrev item : Formula → List ℕ → SignedFormula
item f set = record { formula = f; sign = set }

-- ---- one atom more

pub signed_more : (atoms : List Formula) (sets : List (List ℕ)) (j : ℕ) (a : Formula) (s : List ℕ) → j < length atoms → j < length sets → a ≡ get_or atoms j a → s ≡ get_or sets j s
    → signed_atoms (drop j atoms) (drop j sets) ≡ signed_atoms (a ∷ []) (s ∷ []) ++ signed_atoms (drop (j + 1) atoms) (drop (j + 1) sets)
signed_more atoms sets j a s lt lt' at at' = rw add-one (go atoms sets j lt lt' ∙ sym (λ i. signed_atoms (at i ∷ []) (at' i ∷ []) ++ signed_atoms (drop (suc j) atoms) (drop (suc j) sets))) where
  here : (b : Bool) (x : SignedFormula) (rest : List SignedFormula) → cond b (x ∷ rest) rest ≡ cond b (x ∷ []) [] ++ rest
  here true x rest = refl
  here false x rest = refl

  go : (atoms : List Formula) (sets : List (List ℕ)) (j : ℕ) → j < length atoms → j < length sets → signed_atoms (drop j atoms) (drop j sets) ≡ signed_atoms (get_or atoms j a ∷ []) (get_or sets j s ∷ []) ++ signed_atoms (drop (suc j) atoms) (drop (suc j) sets)
  go [] sets j lt lt' = absurd (omega arith)
  go (x ∷ atoms) [] j lt lt' = absurd (omega arith)
  go (x ∷ atoms) (y ∷ sets) zero lt lt' = here (has_member y) (item x y) (signed_atoms atoms sets)
  go (x ∷ atoms) (y ∷ sets) (suc j) lt lt' = go atoms sets j (omega arith) (omega arith)

pub signed_end : (atoms : List Formula) (sets : List (List ℕ)) (j : ℕ) → min (length atoms) (length sets) ≤ j → signed_atoms (drop j atoms) (drop j sets) ≡ []
signed_end [] sets zero le = refl
signed_end [] sets (suc j) le = refl
signed_end (x ∷ atoms) [] zero le = refl
signed_end (x ∷ atoms) [] (suc j) le = ends (drop j atoms) where
  ends : (atoms : List Formula) → signed_atoms atoms [] ≡ []
  ends [] = refl
  ends (a ∷ atoms) = refl
signed_end (x ∷ atoms) (y ∷ sets) zero le = absurd (omega arith)
signed_end (x ∷ atoms) (y ∷ sets) (suc j) le = signed_end atoms sets j (omega arith)

-- ---- what is true of the atoms and of the sets with members is true of the items

signed_all : (P : Formula → Type 0) (Q : List ℕ → Type 0) (atoms : List Formula) (sets : List (List ℕ)) → AllByRecursion P atoms → AllByRecursion (λ s. has_member s ≡ true → Q s) sets → All (λ x. P x.formula × Q x.sign) (signed_atoms atoms sets)
signed_all P Q [] sets ps qs = All-nil (λ x. P x.formula × Q x.sign)
signed_all P Q (a ∷ atoms) [] ps qs = All-nil (λ x. P x.formula × Q x.sign)
signed_all P Q (a ∷ atoms) (s ∷ sets) ps qs = pick (has_member s) refl (signed_all P Q atoms sets ps.1 qs.1) where
  pick : (b : Bool) → has_member s ≡ b → All (λ x. P x.formula × Q x.sign) (signed_atoms atoms sets) → All (λ x. P x.formula × Q x.sign) (cond b (item a s ∷ signed_atoms atoms sets) (signed_atoms atoms sets))
  pick true some rest = All-cons (λ x. P x.formula × Q x.sign) (item a s) (signed_atoms atoms sets) (ps.0, qs.0 some) rest
  pick false none rest = rest

always_some : (sets : List (List ℕ)) → AllByRecursion (λ s. has_member s ≡ true → Unit {0}) sets
always_some [] = tt
always_some (s ∷ sets) = ((λ some. tt), always_some sets)

-- atoms that differ
module _ (a : Formula) (atoms : List Formula) (distinct : AllPairs (λ x y. x ≢ y) (a ∷ atoms)) where
  pub differ_first : AllByRecursion (λ x. a ≢ x) atoms
  differ_first = recursion_from_All (λ x. a ≢ x) atoms (λ i d lt. distinct 0 (suc i) d (omega arith) (omega arith))

  pub differ_rest : AllPairs (λ x y. x ≢ y) atoms
  differ_rest i j d lt within = distinct (suc i) (suc j) d (omega arith) (omega arith)

signed_distinct : (atoms : List Formula) (sets : List (List ℕ)) → AllPairs (λ x y. x ≢ y) atoms → AllPairs (λ x y. x.formula ≢ y.formula) (signed_atoms atoms sets)
signed_distinct [] sets distinct = λ i j d lt within. absurd (omega arith)
signed_distinct (a ∷ atoms) [] distinct = λ i j d lt within. absurd (omega arith)
signed_distinct (a ∷ atoms) (s ∷ sets) distinct = pick (has_member s) (signed_distinct atoms sets (differ_rest a atoms distinct)) where
  pick : (b : Bool) → AllPairs (λ x y. x.formula ≢ y.formula) (signed_atoms atoms sets) → AllPairs (λ x y. x.formula ≢ y.formula) (cond b (item a s ∷ signed_atoms atoms sets) (signed_atoms atoms sets))
  pick true rest = AllPairs-cons (λ x y. x.formula ≢ y.formula) (item a s) (signed_atoms atoms sets)
      (All-weaker (λ x. (a ≢ x.formula) × Unit {0}) (λ x. a ≢ x.formula) (λ x both. both.0) (signed_atoms atoms sets) (signed_all (λ x. a ≢ x) (λ s. Unit {0}) atoms sets (differ_first a atoms distinct) (always_some sets))) rest
  pick false rest = rest

-- ---- where clauses are true

pub signed_true : (values : Formula → ℕ) (atoms : List Formula) (sets : List (List ℕ)) → is_true_at values (signed_atoms atoms sets) ≡ some_in sets (map values atoms)
signed_true values [] [] = refl
signed_true values [] (s ∷ sets) = refl
signed_true values (a ∷ atoms) [] = refl
signed_true values (a ∷ atoms) ([] ∷ sets) = signed_true values atoms sets
signed_true values (a ∷ atoms) ((x ∷ s) ∷ sets) = ap (λ b. has (x ∷ s) (values a) || b) (signed_true values atoms sets)

all_signed_true : (values : Formula → ℕ) (atoms : List Formula) (rows : List (List (List ℕ))) → list_all (is_true_at values) (map (signed_atoms atoms) rows) ≡ list_all (λ c. some_in c (map values atoms)) rows
all_signed_true values atoms [] = refl
all_signed_true values atoms (row ∷ rows) = λ i. signed_true values atoms row i && all_signed_true values atoms rows i

-- ---- subsumption

different : (f g : Formula) → f ≢ g → same_formula f g ≡ false
different f g differ = pick (same_formula f g) refl where
  pick : (b : Bool) → same_formula f g ≡ b → b ≡ false
  pick true same = absurd (differ ((same_formula-Decides f g).0 same))
  pick false same = refl

-- an atom that isn't there has no sign
sign_absent : (a : Formula) (atoms : List Formula) (sets : List (List ℕ)) → AllByRecursion (λ x. a ≢ x) atoms → sign_in (signed_atoms atoms sets) a ≡ []
sign_absent a [] sets differ = refl
sign_absent a (x ∷ atoms) [] differ = refl
sign_absent a (x ∷ atoms) (s ∷ sets) differ = pick (has_member s) (sign_absent a atoms sets differ.1) where
  pick : (b : Bool) → sign_in (signed_atoms atoms sets) a ≡ [] → sign_in (cond b (item x s ∷ signed_atoms atoms sets) (signed_atoms atoms sets)) a ≡ []
  pick true rest = ap (λ b. cond b s (sign_in (signed_atoms atoms sets) a)) (different a x differ.0) ∙ rest
  pick false rest = rest

-- the first atom has the first set as its sign
sign_first : (a : Formula) (atoms : List Formula) (s : List ℕ) (sets : List (List ℕ)) → AllByRecursion (λ x. a ≢ x) atoms → sign_in (signed_atoms (a ∷ atoms) (s ∷ sets)) a ≡ s
sign_first a atoms [] sets differ = sign_absent a atoms sets differ
sign_first a atoms (x ∷ s) sets differ = ap (λ b. cond b (x ∷ s) (sign_in (signed_atoms atoms sets) a)) ((same_formula-Decides a a).1 refl)

-- another one has its sign by the rest
sign_later : (a b : Formula) (atoms : List Formula) (s : List ℕ) (sets : List (List ℕ)) → b ≢ a → sign_in (signed_atoms (a ∷ atoms) (s ∷ sets)) b ≡ sign_in (signed_atoms atoms sets) b
sign_later a b atoms [] sets differ = refl
sign_later a b atoms (x ∷ s) sets differ = ap (λ t. cond t (x ∷ s) (sign_in (signed_atoms atoms sets) b)) (different b a differ)

abbrev within : List SignedFormula → SignedFormula → Bool
within others x = list_all (has (sign_in others x.formula)) x.sign

-- items of other atoms lie in the rest
later_within : (a : Formula) (atoms : List Formula) (t : List ℕ) (others : List (List ℕ)) (items : List SignedFormula) → All (λ x. a ≢ x.formula) items → list_all (within (signed_atoms (a ∷ atoms) (t ∷ others))) items ≡ list_all (within (signed_atoms atoms others)) items
later_within a atoms t others [] differ = refl
later_within a atoms t others (x ∷ items) differ =
    (λ i. list_all (has (sign_later a x.formula atoms t others (λ e. differ 0 x (omega arith) (sym e)) i)) x.sign && later_within a atoms t others items (λ k d lt. differ (suc k) d (omega arith)) i)

-- a clause subsumes another one where its row subsumes the other's
pub included_subsumes : (atoms : List Formula) (sets others : List (List ℕ)) → AllPairs (λ x y. x ≢ y) atoms → length sets ≡ length atoms → length others ≡ length atoms → is_included (signed_atoms atoms sets) (signed_atoms atoms others) ≡ subsumes sets others
included_subsumes [] [] [] distinct wide wide' = refl
included_subsumes [] (s ∷ sets) others distinct wide wide' = absurd (omega (arith, wide))
included_subsumes [] [] (t ∷ others) distinct wide wide' = absurd (omega (arith, wide'))
included_subsumes (a ∷ atoms) [] others distinct wide wide' = absurd (omega (arith, wide))
included_subsumes (a ∷ atoms) (s ∷ sets) [] distinct wide wide' = absurd (omega (arith, wide'))
included_subsumes (a ∷ atoms) (s ∷ sets) (t ∷ others) distinct wide wide' =
    first s ∙ (λ i. list_all (has (sign_first a atoms t others (differ_first a atoms distinct) i)) s && rest (included_subsumes atoms sets others (differ_rest a atoms distinct) (omega (arith, wide)) (omega (arith, wide'))) i)
  where
    first : (s : List ℕ) → is_included (signed_atoms (a ∷ atoms) (s ∷ sets)) (signed_atoms (a ∷ atoms) (t ∷ others)) ≡ (list_all (has (sign_in (signed_atoms (a ∷ atoms) (t ∷ others)) a)) s && list_all (within (signed_atoms (a ∷ atoms) (t ∷ others))) (signed_atoms atoms sets))
    first [] = refl
    first (x ∷ s) = refl

    rest : is_included (signed_atoms atoms sets) (signed_atoms atoms others) ≡ subsumes sets others → list_all (within (signed_atoms (a ∷ atoms) (t ∷ others))) (signed_atoms atoms sets) ≡ subsumes sets others
    rest later =
        later_within a atoms t others (signed_atoms atoms sets) (All-weaker (λ x. (a ≢ x.formula) × Unit {0}) (λ x. a ≢ x.formula) (λ x both. both.0) (signed_atoms atoms sets) (signed_all (λ x. a ≢ x) (λ s. Unit {0}) atoms sets (differ_first a atoms distinct) (always_some sets)))
        ∙ later

-- ---- the clauses of a formula

-- a sign that has members and not all values
abbrev IsGood : ℕ → List ℕ → Type 0
IsGood n set = IsSign n set × (has_all n set ≡ false)

module _ (n : ℕ) (rules : List OperatorRule) (f : Formula) (sign : List ℕ) (clauses : List (List SignedFormula)) (are : AreReduced n rules f sign clauses) where
  abbrev atoms : List Formula
  atoms = atoms_in f

  atoms_differ : AllPairs (λ x y. x ≢ y) atoms
  atoms_differ = distinct-each_once [] (atom_places f) (λ i j d lt inside. absurd (omega arith))

  row_at : (c : List (List ℕ)) → Among are.rows c → IsRow n (length atoms) c
  row_at c a = translated_rows n rules atoms f sign c (are.reduced.within c a)

  pub clauses_least : AreLeastClauses n rules f sign clauses
  clauses_least = record { rows = are.rows; least = reduction_least n (translated n rules atoms f sign) are.rows (λ c a. (translated_rows n rules atoms f sign c a).sets) are.reduced; same = are.same }

  clause_formed : (c : List (List ℕ)) → AllByRecursion (IsSet n) c → has_full n c ≡ false → IsClauseOver n f (signed_atoms atoms c)
  clause_formed c sets open' = record {
    atoms = All-weaker (λ x. Contains atoms x.formula × IsGood n x.sign) (λ x. Contains atoms x.formula) (λ x both. both.0) (signed_atoms atoms c) all;
    distinct = signed_distinct atoms c atoms_differ;
    signs = All-weaker (λ x. Contains atoms x.formula × IsGood n x.sign) (λ x. IsSign n x.sign) (λ x both. both.1.0) (signed_atoms atoms c) all;
    open' = All-weaker (λ x. Contains atoms x.formula × IsGood n x.sign) (λ x. has_all n x.sign ≡ false) (λ x both. both.1.1) (signed_atoms atoms c) all;
  } where
    some_not_none : (set : List ℕ) → has_member set ≡ true → set ≢ []
    some_not_none set some none = true≢false (sym some ∙ ap has_member none)

    good : (c : List (List ℕ)) → AllByRecursion (IsSet n) c → has_full n c ≡ false → AllByRecursion (λ set. has_member set ≡ true → IsGood n set) c
    good [] sets open' = tt
    good (set ∷ c) sets open' =
        let parts = or_parts (has_all n set) (has_full n c) open' in
        ((λ some. (record { set = sets.0; nonempty = some_not_none set some }, parts.0)), good c sets.1 parts.1)

    all : All (λ x. Contains atoms x.formula × IsGood n x.sign) (signed_atoms atoms c)
    all = signed_all (Contains atoms) (IsGood n) atoms c (recursion_from_All (Contains atoms) atoms (All-contains_itself atoms)) (good c sets open')

  pub clauses_formed : All (IsClauseOver n f) clauses
  clauses_formed = subst (All (IsClauseOver n f)) (sym are.same) (All-map (IsClauseOver n f) (signed_atoms atoms) are.rows (all_among (λ c. IsClauseOver n f (signed_atoms atoms c)) are.rows (λ c a. clause_formed c (row_at c a).sets (are.reduced.not_full c a))))

  pub clauses_apart : AllPairs AreApart clauses
  clauses_apart = subst (AllPairs AreApart) (sym are.same) apart where
    apart : AllPairs AreApart (map (signed_atoms atoms) are.rows)
    apart i j d lt inside =
        let count : length (map (signed_atoms atoms) are.rows) ≡ length are.rows = length-map are.rows (signed_atoms atoms) in
        let lt_j : j < length are.rows = omega (arith, inside, count) in
        let lt_i : i < length are.rows = omega (arith, lt, lt_j) in
        let a = get_or are.rows i [] in
        let b = get_or are.rows j [] in
        let at_a = get_or-map (signed_atoms atoms) are.rows i [] d lt_i in
        let at_b = get_or-map (signed_atoms atoms) are.rows j [] d lt_j in
        let wide_a = (row_at a (among_at are.rows i [] lt_i)).wide in
        let wide_b = (row_at b (among_at are.rows j [] lt_j)).wide in
        let differ = are.reduced.apart i j [] lt lt_j in
        record {
          onward = (λ k. is_included (at_a k) (at_b k)) ∙ included_subsumes atoms a b atoms_differ wide_a wide_b ∙ differ.onward;
          back = (λ k. is_included (at_b k) (at_a k)) ∙ included_subsumes atoms b a atoms_differ wide_b wide_a ∙ differ.back;
        }

-- the formula's value lies in the sign exactly where the clauses are true
pub clauses_true : (logic : Logic) (rules : List OperatorRule) (f : Formula) (sign : List ℕ) (clauses : List (List SignedFormula)) → AreReduced logic.size rules f sign clauses → IsLogic logic → IsRightBook logic rules → Fits logic f → has_quantifier f ≡ false → covers logic.size rules f sign ≡ true → IsClauseSet logic f sign clauses
clauses_true logic rules f sign clauses are is right fits plain cover v valuation =
    let exact = exact_rules logic rules is right in
    let val : Formula → ℕ = value logic v in
    let rows = translated logic.size rules (atoms_in f) f sign in
    ap (list_all (is_true_at val)) are.same
    ∙ all_signed_true val (atoms_in f) are.rows
    ∙ reduction_true logic.size rows are.rows (map val (atoms_in f)) (rows_below logic is rules exact (atoms_in f) v valuation (atoms_in f)) (λ c a. (translated_rows logic.size rules (atoms_in f) f sign c a).wide ∙ sym (length-map (atoms_in f) val)) are.reduced
    ∙ translation_true logic is rules exact (atoms_in f) v valuation f sign fits plain listed cover
  where
    listed : All (λ atom. list_any (same_formula atom) (atoms_in f) ≡ true) (atom_places f)
    listed i d lt =
        let a = get_or (atom_places f) i d in
        any-each_once a (atom_places f) ∙ list_any_at (same_formula a) (atom_places f) i d lt ((same_formula-Decides a a).1 refl)
