-- A query is satisfied exactly where each of its goals is true.
use Rattle.std.proofs.Common.{⊎_elim, ◌≡◌, ℕ, ◌+◌, ◌^◌, ◌<◌, ◌≤◌, Bool, true, false, ◌==◌, ◌||◌, ◌&&◌, not, List, [], ◌∷◌, ◌++◌, length, map, get_or, slice_index, refl, sym, ◌∙◌, ap, subst, arith}
use Rattle.std.specs.Prelude.{nat_lt}
use Rattle.std.specs.List.{All, AllByRecursion, list_all, list_any, fold, flat_map, zip, range_with_len}
use Rattle.std.proofs.Math.Bool.{or_assoc, or-false, and-true}
use Rattle.std.proofs.Math.Nat.{pow-suc, pow-zero}
use Rattle.std.proofs.Math.Seq.{get_or-append_seam}
use Rattle.std.proofs.lemmas.Bool.{both_ways, false_from_ne_true, lt-ltb, eq-eqb, eqb-true, or_cases, or_parts, or_left, or_right, or_from, not-false}
use Rattle.std.proofs.lemmas.Bool.Decides.{nat_tests}
use Rattle.std.proofs.lemmas.List.{length-map, length-append}
use Rattle.std.proofs.lemmas.List.Elements.{recursion_from_All}
use Rattle.std.proofs.lemmas.List.Folds.{list_all-map, list_any-append}
use Rattle.std.proofs.lemmas.List.FromFn.{length-range_with_len, get_or-range_with_len, length-map-range_with_len}
use Rattle.std.proofs.lemmas.List.Sums.{AllPass-from_list_all, list_all-from_AllPass}
use Rattle.lgc_values.specs.Values.{IsSize, has, members_of}
use Rattle.lgc_values.specs.Logic.{Logic, IsLogic, arguments_at}
use Rattle.lgc_values.proofs.ValueLaws.{has-values_where, single_law}
use Rattle.lgc_syntax.specs.declared.formula.Formula.{Formula}
use Rattle.lgc_syntax.specs.Values.{row_index, value}
use Rattle.lgc_syntax.specs.Structures.{value_in}
use Rattle.lgc_sequents.specs.Signed.{SignedFormula}
use Rattle.lgc_sequents.specs.Sequents.{IsSet, IsSequent, added, is_true_at, HasValues}
use Rattle.lgc_sequents.proofs.Laws.{IsSet-values_where, IsSequent-joined, is_true_at-joined}
use Rattle.lgc_meaning.specs.declared.query.Pair.{Pair}
use Rattle.lgc_meaning.specs.declared.query.Query.{Query}
use Rattle.lgc_meaning.specs.declared.query.Query.TheVariants.{Mixed, Equation, Quasi}
use Rattle.lgc_meaning.specs.Queries.{sides, formulas_of, holds_at, satisfies}
use Rattle.lgc_goals.specs.Goals.{goal_count, complement, each_signed, with_signed, sequent_of, premise_items, conclusion_items, quasi_goal, quasi_goals, goals_of}
use Rattle.lgc_goals.specs.Truth.{AgreeAt, Agree, AgreeUnderValuations, AgreeInStructures}
use Rattle.lgc_goals.proofs.TruthValues.{HasValues-value, HasValues-value_in}
use Rattle.lgc_syntax.proofs.IndexLaws.{length-arguments_at, arguments_below, arguments_at-row_index, row_index-below}

-- what is true of each item of two lists in a row is true of each item of either
each_left : {X : Type 0} (P : X → Type 0) (xs ys : List X) → AllByRecursion P (xs ++ ys) → AllByRecursion P xs
each_left P [] ys all = tt
each_left P (x ∷ xs) ys all = (all.0, each_left P xs ys all.1)

each_right : {X : Type 0} (P : X → Type 0) (xs ys : List X) → AllByRecursion P (xs ++ ys) → AllByRecursion P ys
each_right P [] ys all = all
each_right P (x ∷ xs) ys all = each_right P xs ys all.1

-- ---- sequents of signed formulas

-- the signs are sets of values below n
abbrev HasSets : ℕ → List SignedFormula → Type 0
HasSets n items = AllByRecursion (λ item. IsSet n item.sign) items

HasSets-append : (n : ℕ) (xs ys : List SignedFormula) → HasSets n xs → HasSets n ys → HasSets n (xs ++ ys)
HasSets-append n [] ys left right = right
HasSets-append n (x ∷ xs) ys left right = (left.0, HasSets-append n xs ys left.1 right)

HasSets-each_signed : (n : ℕ) (sign : List ℕ) (formulas : List Formula) → IsSet n sign → HasSets n (each_signed sign formulas)
HasSets-each_signed n sign [] set = tt
HasSets-each_signed n sign (f ∷ formulas) set = (set, HasSets-each_signed n sign formulas set)

-- a set of one value
IsSet-single : (n w : ℕ) → IsSize n → w < n → IsSet n (w ∷ [])
IsSet-single n w size below = subst (IsSet n) (single_law n w below size.high) (IsSet-values_where n _)

-- a signed formula that is added keeps what is asked of a sequent
IsSequent-added : (n : ℕ) (items : List SignedFormula) (f : Formula) (sign : List ℕ) → IsSequent n items → IsSet n sign → IsSequent n (added n items f sign)
IsSequent-added n items f [] is set = is
IsSequent-added n items f (v ∷ sign) is set = IsSequent-joined n items f (v ∷ sign) is (record { set = set; nonempty = λ none. cc })

IsSequent-empty : (n : ℕ) → IsSize n → IsSequent n []
IsSequent-empty n size = record { sized = size; signs = λ i d lt. absurd (omega arith); distinct = λ i j d lt within. absurd (omega arith) }

module _ (value : Formula → ℕ) where
  -- it makes a sequent true where its formula's value lies in its sign
  is_true_at-added : (n : ℕ) (items : List SignedFormula) (f : Formula) (sign : List ℕ) → IsSequent n items → IsSet n sign → is_true_at value (added n items f sign) ≡ (is_true_at value items || has sign (value f))
  is_true_at-added n items f [] is set = sym (or-false (is_true_at value items))
  is_true_at-added n items f (v ∷ sign) is set = is_true_at-joined value n items f (v ∷ sign) is.signs set

  -- what is made of signed formulas is true where one of them is
  is_true_at-fold : (n : ℕ) (sequent items : List SignedFormula) → IsSequent n sequent → HasSets n items → is_true_at value (fold (with_signed n) sequent items) ≡ (is_true_at value sequent || is_true_at value items)
  is_true_at-fold n sequent [] is sets = sym (or-false (is_true_at value sequent))
  is_true_at-fold n sequent (x ∷ xs) is sets =
      is_true_at-fold n (added n sequent x.formula x.sign) xs (IsSequent-added n sequent x.formula x.sign is sets.0) sets.1
      ∙ ap (λ b. b || is_true_at value xs) (is_true_at-added n sequent x.formula x.sign is sets.0)
      ∙ or_assoc (is_true_at value sequent) (has x.sign (value x.formula)) (is_true_at value xs)

  is_true_at-sequent_of : (n : ℕ) (items : List SignedFormula) → IsSize n → HasSets n items → is_true_at value (sequent_of n items) ≡ is_true_at value items
  is_true_at-sequent_of n items size sets = is_true_at-fold n [] items (IsSequent-empty n size) sets

  is_true_at-each_signed : (sign : List ℕ) (formulas : List Formula) → is_true_at value (each_signed sign formulas) ≡ list_any (λ f. has sign (value f)) formulas
  is_true_at-each_signed sign [] = refl
  is_true_at-each_signed sign (f ∷ formulas) = ap (λ b. has sign (value f) || b) (is_true_at-each_signed sign formulas)

has-complement : (n : ℕ) (set : List ℕ) (v : ℕ) → v < n → has (complement n set) v ≡ not (has set v)
has-complement n set v below = has-values_where n (λ w. not (has set w)) v ∙ ap (λ b. b && not (has set v)) (lt-ltb v n below)

-- ---- mixed entailments

module _ (value : Formula → ℕ) (n : ℕ) (size : IsSize n) where
  -- some formula takes a value that isn't in a set
  outside : (given : List ℕ) (formulas : List Formula) → AllByRecursion (λ f. value f < n) formulas → list_any (λ f. has (complement n given) (value f)) formulas ≡ list_any (λ f. not (has given (value f))) formulas
  outside given [] below = refl
  outside given (f ∷ formulas) below =
      ap (λ b. b || list_any (λ f. has (complement n given) (value f)) formulas) (has-complement n given (value f) below.0)
      ∙ ap (λ b. not (has given (value f)) || b) (outside given formulas below.1)

  mixed_law : (given wanted : ℕ) (premises conclusions : List Formula) → AllByRecursion (λ f. value f < n) (premises ++ conclusions)
      → satisfies n value (Mixed given wanted premises conclusions) ≡ list_all (is_true_at value) (goals_of n (Mixed given wanted premises conclusions))
  mixed_law given wanted premises conclusions below =
      let lefts = each_signed (complement n (members_of n given)) premises in
      let rights = each_signed (members_of n wanted) conclusions in
      let sets : HasSets n (lefts ++ rights) = HasSets-append n lefts rights (HasSets-each_signed n _ premises (IsSet-values_where n _)) (HasSets-each_signed n _ conclusions (IsSet-values_where n _)) in
      sym (and-true _
      ∙ is_true_at-sequent_of value n (lefts ++ rights) size sets
      ∙ list_any-append (λ item. has item.sign (value item.formula)) lefts rights
      ∙ ap (λ b. b || is_true_at value rights) (is_true_at-each_signed value (complement n (members_of n given)) premises ∙ outside (members_of n given) premises (each_left (λ f. value f < n) premises conclusions below))
      ∙ ap (λ b. list_any (λ f. not (has (members_of n given) (value f))) premises || b) (is_true_at-each_signed value (members_of n wanted) conclusions))

  -- ---- quasi-equations

  abbrev fails : Pair → Bool
  fails pair = not (holds_at value pair)

  abbrev Below : List Formula → Type 0
  Below formulas = AllByRecursion (λ f. value f < n) formulas

  -- a premise whose sides have different values: one of them isn't v
  premise_fails : (pair : Pair) (v : ℕ) → Below (sides pair) → fails pair ≡ true → is_true_at value (premise_items n (pair, v)) ≡ true
  premise_fails pair v below differ =
      let left = has-complement n (v ∷ []) (value pair.left) below.0 in
      let right = has-complement n (v ∷ []) (value pair.right) below.1.0 in
      rw (left, right) (different (value pair.left) (value pair.right) differ) where
        different : (a b : ℕ) → not (a == b) ≡ true → (not ((v == a) || false) || (not ((v == b) || false) || false)) ≡ true
        different a b differ = grind (arith, nat_tests)

  -- with such a premise a goal is true at every tuple
  some_premise_fails : (premises : List Pair) (tuple : List ℕ) → Below (flat_map sides premises) → length premises ≤ length tuple → list_any fails premises ≡ true → is_true_at value (flat_map (premise_items n) (zip premises tuple)) ≡ true
  some_premise_fails [] tuple below long differ = cc
  some_premise_fails (pair ∷ premises) [] below long differ = absurd (omega arith)
  some_premise_fails (pair ∷ premises) (v ∷ tuple) below long differ =
      let rest = flat_map (premise_items n) (zip premises tuple) in
      list_any-append (λ item. has item.sign (value item.formula)) (premise_items n (pair, v)) rest
      ∙ ⊎_elim
      (λ here. or_left (is_true_at value (premise_items n (pair, v))) (is_true_at value rest) (premise_fails pair v (each_left (λ f. value f < n) (sides pair) (flat_map sides premises) below) here))
      (λ there. or_right (is_true_at value (premise_items n (pair, v))) (is_true_at value rest) (some_premise_fails premises tuple (each_right (λ f. value f < n) (sides pair) (flat_map sides premises) below) (omega arith) there))
      (or_cases (fails pair) (list_any fails premises) differ)

  -- a premise whose sides both have the value v
  has_no_other : (v : ℕ) → has (complement n (v ∷ [])) v ≡ false
  has_no_other v = has-values_where n (λ w. not (has (v ∷ []) w)) v ∙ none (nat_lt v n) (v == v) (eq-eqb v v refl) where
    none : (below same : Bool) → same ≡ true → (below && not (same || false)) ≡ false
    none true same is = rw is refl
    none false same is = refl

  -- the values of the left sides of premises, and further ones
  abbrev values_of : List Pair → List ℕ → List ℕ
  values_of premises rest = map (λ pair. value pair.left) premises ++ rest

  -- where there is none, it isn't true by a premise at the tuple of their values
  no_premise_fails : (premises : List Pair) (rest : List ℕ) → list_any fails premises ≡ false → is_true_at value (flat_map (premise_items n) (zip premises (values_of premises rest))) ≡ false
  no_premise_fails [] rest none = refl
  no_premise_fails (pair ∷ premises) rest none =
      let parts = or_parts (fails pair) (list_any fails premises) none in
      let same : value pair.left ≡ value pair.right = eqb-true (value pair.left) (value pair.right) (not-false (holds_at value pair) parts.0) in
      let left : has (complement n (value pair.left ∷ [])) (value pair.left) ≡ false = has_no_other (value pair.left) in
      let right : has (complement n (value pair.left ∷ [])) (value pair.right) ≡ false = ap (has (complement n (value pair.left ∷ []))) (sym same) ∙ left in
      list_any-append (λ item. has item.sign (value item.formula)) (premise_items n (pair, value pair.left)) (flat_map (premise_items n) (zip premises (values_of premises rest)))
      ∙ rw (left, right) (no_premise_fails premises rest parts.1)

  -- the conclusion, at the value w and at that of its left side
  conclusion_holds : (pair : Pair) (w : ℕ) → Below (sides pair) → holds_at value pair ≡ true → is_true_at value (conclusion_items n pair w) ≡ true
  conclusion_holds pair w below holds =
      let left = has-complement n (w ∷ []) (value pair.left) below.0 in
      rw left (follows (value pair.left) (value pair.right) holds) where
        follows : (a b : ℕ) → (a == b) ≡ true → (not ((w == a) || false) || (((w == b) || false) || false)) ≡ true
        follows a b holds = grind (arith, nat_tests)

  conclusion_fails : (pair : Pair) → holds_at value pair ≡ false → is_true_at value (conclusion_items n pair (value pair.left)) ≡ false
  conclusion_fails pair differ = or_from (has (complement n (value pair.left ∷ [])) (value pair.left)) _ (has_no_other (value pair.left)) (rw differ refl)

  -- a goal is true where one of its parts is
  quasi_parts : (premises : List Pair) (conclusion : Pair) (tuple : List ℕ) → slice_index tuple (length premises) < n
      → is_true_at value (quasi_goal n premises conclusion tuple) ≡ (is_true_at value (flat_map (premise_items n) (zip premises tuple)) || is_true_at value (conclusion_items n conclusion (slice_index tuple (length premises))))
  quasi_parts premises conclusion tuple last =
      let firsts = flat_map (premise_items n) (zip premises tuple) in
      let seconds = conclusion_items n conclusion (slice_index tuple (length premises)) in
      is_true_at-sequent_of value n (firsts ++ seconds) size (HasSets-append n firsts seconds (sets (zip premises tuple)) (IsSet-values_where n _, (IsSet-single n (slice_index tuple (length premises)) size last, tt)))
      ∙ list_any-append (λ item. has item.sign (value item.formula)) firsts seconds where
        sets : (pairs : List (Pair × ℕ)) → HasSets n (flat_map (premise_items n) pairs)
        sets [] = tt
        sets ((pair, v) ∷ pairs) = (IsSet-values_where n _, (IsSet-values_where n _, sets pairs))

  values_below : (premises : List Pair) (rest : List ℕ) → Below (flat_map sides premises) → AllByRecursion (λ v. v < n) rest → AllByRecursion (λ v. v < n) (values_of premises rest)
  values_below [] rest below more = more
  values_below (pair ∷ premises) rest below more = (below.0, values_below premises rest below.1.1 more)

  quasi_law : (premises : List Pair) (conclusion : Pair) → Below (flat_map sides premises ++ sides conclusion) → (list_any fails premises || holds_at value conclusion) ≡ list_all (is_true_at value) (quasi_goals n premises conclusion)
  quasi_law premises conclusion below = cases (list_any fails premises || holds_at value conclusion) refl where
    left : Below (flat_map sides premises)
    left = each_left (λ f. value f < n) (flat_map sides premises) (sides conclusion) below

    right : Below (sides conclusion)
    right = each_right (λ f. value f < n) (flat_map sides premises) (sides conclusion) below

    -- where the quasi-equation is satisfied, each goal is true
    each_true : (list_any fails premises || holds_at value conclusion) ≡ true → (i : ℕ) → is_true_at value (quasi_goal n premises conclusion (arguments_at n (length premises + 1) i)) ≡ true
    each_true holds i =
        let tuple = arguments_at n (length premises + 1) i in
        let long : length premises ≤ length tuple = omega (arith, length-arguments_at n (length premises + 1) i) in
        quasi_parts premises conclusion tuple (arguments_below n (length premises + 1) i (length premises) (omega (arith, size.low)))
        ∙ ⊎_elim
        (λ differ. or_left _ _ (some_premise_fails premises tuple left long differ))
        (λ same. or_right (is_true_at value (flat_map (premise_items n) (zip premises tuple))) _ (conclusion_holds conclusion (slice_index tuple (length premises)) right same))
        (or_cases (list_any fails premises) (holds_at value conclusion) holds)

    -- where it isn't, the goal at the tuple of the values of its left sides is false
    not_each_true : (list_any fails premises || holds_at value conclusion) ≡ false → list_all (is_true_at value) (quasi_goals n premises conclusion) ≡ false
    not_each_true fail =
        let parts = or_parts (list_any fails premises) (holds_at value conclusion) fail in
        let tuple = values_of premises (value conclusion.left ∷ []) in
        let width : length tuple ≡ length premises + 1 = length-append (map (λ (pair : Pair). value pair.left) premises) (value conclusion.left ∷ []) ∙ ap (λ k. k + 1) (length-map premises (λ (pair : Pair). value pair.left)) in
        let inside = values_below premises (value conclusion.left ∷ []) left (right.0, tt) in
        let i = row_index n tuple in
        let at : arguments_at n (length premises + 1) i ≡ tuple = ap (λ k. arguments_at n k i) (sym width) ∙ arguments_at-row_index n tuple inside in
        let last : slice_index tuple (length premises) ≡ value conclusion.left =
        ap (slice_index tuple) (sym (length-map premises (λ (pair : Pair). value pair.left))) ∙ get_or-append_seam (map (λ (pair : Pair). value pair.left) premises) (value conclusion.left) [] 0 in
        let within : i < n ^ (length premises + 1) = subst (λ k. i < n ^ k) width (row_index-below n tuple size.low inside) in
        let goal_at : ℕ → List SignedFormula = λ j. quasi_goal n premises conclusion (arguments_at n (length premises + 1) j) in
        let false_here : is_true_at value (goal_at i) ≡ false =
        ap (λ t. is_true_at value (quasi_goal n premises conclusion t)) at
        ∙ quasi_parts premises conclusion tuple (subst (λ v. v < n) (sym last) right.0)
        ∙ or_from (is_true_at value (flat_map (premise_items n) (zip premises tuple))) (is_true_at value (conclusion_items n conclusion (slice_index tuple (length premises))))
        (no_premise_fails premises (value conclusion.left ∷ []) parts.0)
        (ap (λ w. is_true_at value (conclusion_items n conclusion w)) last ∙ conclusion_fails conclusion parts.1) in
        list_all-map (is_true_at value) goal_at (range_with_len 0 (n ^ (length premises + 1)))
        ∙ false_from_ne_true (list_all (λ j. is_true_at value (goal_at j)) (range_with_len 0 (n ^ (length premises + 1))))
        (λ all.
        let place : get_or (range_with_len 0 (n ^ (length premises + 1))) i 0 ≡ i = get_or-range_with_len 0 (n ^ (length premises + 1)) i 0 within ∙ omega arith in
        both_ways (is_true_at value (goal_at i)) false_here
        (ap (λ j. is_true_at value (goal_at j)) (sym place)
        ∙ AllPass-from_list_all (λ j. is_true_at value (goal_at j)) (range_with_len 0 (n ^ (length premises + 1))) all i 0 (omega (arith, within, length-range_with_len 0 (n ^ (length premises + 1))))))

    cases : (b : Bool) → (list_any fails premises || holds_at value conclusion) ≡ b → b ≡ list_all (is_true_at value) (quasi_goals n premises conclusion)
    cases true holds =
        sym (list_all-map (is_true_at value) (λ j. quasi_goal n premises conclusion (arguments_at n (length premises + 1) j)) (range_with_len 0 (n ^ (length premises + 1)))
        ∙ list_all-from_AllPass _ (range_with_len 0 (n ^ (length premises + 1))) (λ i d lt. each_true holds (get_or (range_with_len 0 (n ^ (length premises + 1))) i d)))
    cases false fail = sym (not_each_true fail)

  -- a query is satisfied exactly where each of its goals is true
  pub satisfies-goals_of : (query : Query) → All (λ f. value f < n) (formulas_of query) → satisfies n value query ≡ list_all (is_true_at value) (goals_of n query)
  satisfies-goals_of (Mixed given wanted premises conclusions) below = mixed_law given wanted premises conclusions (recursion_from_All (λ f. value f < n) (premises ++ conclusions) below)
  satisfies-goals_of (Equation pair) below = quasi_law [] pair (recursion_from_All (λ f. value f < n) (sides pair) below)
  satisfies-goals_of (Quasi premises conclusion) below = quasi_law premises conclusion (recursion_from_All (λ f. value f < n) (flat_map sides premises ++ sides conclusion) below)

-- ---- under valuations and in structures

-- what the goals of a query say
module _ (logic : Logic) (is : IsLogic logic) (n : ℕ) (sized : logic.size ≡ n) (query : Query) (goals : List (List SignedFormula)) (same : goals ≡ goals_of n query) where
  agree_at : (value : Formula → ℕ) → HasValues logic.size value → AgreeAt logic.size query goals value
  agree_at value below =
      satisfies-goals_of value logic.size is.sized query (λ i d lt. below (get_or (formulas_of query) i d))
      ∙ ap (list_all (is_true_at value)) (ap (λ k. goals_of k query) sized ∙ sym same)

  pub agree : Agree n query goals
  agree value below = satisfies-goals_of value n (subst IsSize sized is.sized) query below ∙ ap (list_all (is_true_at value)) (sym same)

  pub agree_under_valuations : AgreeUnderValuations logic query goals
  agree_under_valuations v valuation = agree_at (value logic v) (HasValues-value logic is v valuation)

  pub agree_in_structures : AgreeInStructures logic query goals
  agree_in_structures M s structure = agree_at (λ f. value_in logic M s f []) (HasValues-value_in logic is M s [] structure)

-- ---- how many

pub length-goals_of : (n : ℕ) (query : Query) → length (goals_of n query) ≡ goal_count n query
length-goals_of n (Mixed given wanted premises conclusions) = refl
length-goals_of n (Equation pair) = length-map-range_with_len (λ i. quasi_goal n [] pair (arguments_at n (length {A = Pair} [] + 1) i)) 0 (n ^ (length {A = Pair} [] + 1)) ∙ one_power where
  one_power : n ^ (length {A = Pair} [] + 1) ≡ n
  one_power = rw (pow-suc, pow-zero) (omega arith)
length-goals_of n (Quasi premises conclusion) = length-map-range_with_len (λ i. quasi_goal n premises conclusion (arguments_at n (length premises + 1) i)) 0 (n ^ (length premises + 1))
