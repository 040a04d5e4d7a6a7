-- Where the clauses are true to which rules lead: where the formula's value lies in the sign.
use Rattle.std.proofs.Common.{◌≡◌, ℕ, ◌<◌, ◌||◌, ◌&&◌, ◌==◌, not, Bool, true, false, cond, List, [], ◌∷◌, ◌++◌, map, length, refl, ap, sym, ◌∙◌, subst}
use Rattle.std.specs.Prelude.{bytes_eq, All}
use Rattle.std.specs.List.{list_all, list_any, flat_map, AllByRecursion}
use Rattle.std.proofs.Math.Bool.{or-false}
use Rattle.std.proofs.lemmas.Bool.{and_parts, or_parts, eqb-true, lt-ltb, true≢false}
use Rattle.std.proofs.lemmas.List.{length-map}
use Rattle.std.proofs.lemmas.List.Elements.{All-head, All-tail, All-from_recursion}
use Rattle.std.proofs.lemmas.Slice.Eq.{bytes_eq-Decides}
use Rattle.lgc_values.specs.Values.{has, values_where}
use Rattle.lgc_values.specs.Logic.{Logic, IsLogic, operator_at}
use Rattle.lgc_values.proofs.ValueLaws.{has-values_where}
use Rattle.lgc_clauses.specs.Rules.{OperatorRule, some_in}
use Rattle.lgc_syntax.specs.declared.formula.Formula.{Formula, Atom, Op}
use Rattle.lgc_syntax.specs.Equality.{same_formula}
use Rattle.lgc_syntax.specs.Fits.{fits_within}
use Rattle.lgc_syntax.specs.Sizes.{has_quantifier}
use Rattle.lgc_syntax.specs.Values.{operation, value, IsValuation}
use Rattle.lgc_syntax.proofs.EqualityLaws.{same_formula-Decides}
use Rattle.lgc_syntax.proofs.Induction.{formula_induction}
use Rattle.lgc_syntax.proofs.SizeLaws.{has_quantifier-Op, has_quantifier-Quant}
use Rattle.lgc_syntax.proofs.SubformulaLaws.{op_fits}
use Rattle.lgc_syntax.proofs.ValueLaws.{value-Op}
use Rattle.lgc_sequents.specs.Sequents.{has_all}
use Rattle.lgc_meaning.specs.Valuations.{atom_places}
use Rattle.lgc_meaning.proofs.Parts.{All-flat_map}
use Rattle.lgc_meaning.proofs.Places.{atom_places-Atom, atom_places-Op}
use Rattle.lgc_calculus.specs.Arguments.{IsExactAtArguments}
use Rattle.lgc_calculus.specs.RuleBook.{IsRightBook}
use Rattle.lgc_calculus.proofs.ArgumentLaws.{exact_at_arguments}
use Rattle.lgc_goals.proofs.TruthValues.{HasValues-value}
use Rattle.lgc_clause_sets.specs.AtomClauses.{has_member, joined, products}
use Rattle.lgc_clause_sets.proofs.ClauseLaws.{full_has, in_union}
use Rattle.lgc_translate.specs.Translation.{no_items, one_item, is_for, rule_clauses, choices, at_sign, translated}
use Rattle.lgc_translate.specs.Covering.{has_rule, all_covered, covers}
use Rattle.lgc_translate.proofs.Equations.{translated-Atom, translated-Op, covers-Op}

or-middle : (a b c d : Bool) → ((a || b) || (c || d)) ≡ ((a || c) || (b || d))
or-middle true b c d = refl
or-middle false true true d = refl
or-middle false true false d = refl
or-middle false false c d = refl

-- all of the ones, or all of the others
or-each : (a b c : Bool) → ((a || c) && (b || c)) ≡ ((a && b) || c)
or-each true true c = refl
or-each true false c = refl
or-each false true true = refl
or-each false true false = refl
or-each false false true = refl
or-each false false false = refl

and-true : (b : Bool) → (b && true) ≡ b
and-true true = refl
and-true false = refl

list_all-append : {X : Type 0} (p : X → Bool) (xs ys : List X) → list_all p (xs ++ ys) ≡ (list_all p xs && list_all p ys)
list_all-append p [] ys = refl
list_all-append p (x ∷ xs) ys = ap (λ t. p x && t) (list_all-append p xs ys) ∙ and-assoc (p x) (list_all p xs) (list_all p ys) where
  and-assoc : (a b c : Bool) → (a && (b && c)) ≡ ((a && b) && c)
  and-assoc true b c = refl
  and-assoc false b c = refl

list_all-flat : {X Y : Type 0} (p : Y → Bool) (f : X → List Y) (xs : List X) → list_all p (flat_map f xs) ≡ list_all (λ x. list_all p (f x)) xs
list_all-flat p f [] = refl
list_all-flat p f (x ∷ xs) = list_all-append p (f x) (flat_map f xs) ∙ ap (λ t. list_all p (f x) && t) (list_all-flat p f xs)

-- ---- clauses at a row of values

module _ (n : ℕ) where
  some_in-joined : (a b : List (List ℕ)) (values : List ℕ) → AllByRecursion (λ v. v < n) values → some_in (joined n a b) values ≡ (some_in a values || some_in b values)
  some_in-joined [] b values low = refl
  some_in-joined (x ∷ a) [] values low = sym (or-false (some_in (x ∷ a) values))
  some_in-joined (x ∷ a) (y ∷ b) [] low = refl
  some_in-joined (x ∷ a) (y ∷ b) (v ∷ values) low =
      (λ i. in_union n x y v low.0 i || some_in-joined a b values low.1 i) ∙ or-middle (has x v) (has y v) (some_in a values) (some_in b values)

  module _ (values : List ℕ) (low : AllByRecursion (λ v. v < n) values) where
    abbrev all_in : List (List (List ℕ)) → Bool
    all_in clauses = list_all (λ c. some_in c values) clauses

    in-map : (a : List (List ℕ)) (ys : List (List (List ℕ))) → all_in (map (joined n a) ys) ≡ (some_in a values || all_in ys)
    in-map a [] = sym (or_true (some_in a values)) where
      or_true : (b : Bool) → (b || true) ≡ true
      or_true true = refl
      or_true false = refl
    in-map a (y ∷ ys) =
        (λ i. some_in-joined a y values low i && in-map a ys i) ∙ or-first (some_in a values) (some_in y values) (all_in ys) where
          or-first : (a b c : Bool) → ((a || b) && (a || c)) ≡ (a || (b && c))
          or-first true b c = refl
          or-first false b c = refl

    in-products : (xs ys : List (List (List ℕ))) → all_in (products n xs ys) ≡ (all_in xs || all_in ys)
    in-products [] ys = refl
    in-products (x ∷ xs) ys =
        list_all-append (λ c. some_in c values) (map (joined n x) ys) (products n xs ys)
        ∙ (λ i. in-map x ys i && in-products xs ys i)
        ∙ or-each (some_in x values) (all_in xs) (all_in ys)

in-no_items : (atoms : List Formula) (values : List ℕ) → some_in (no_items atoms) values ≡ false
in-no_items [] values = refl
in-no_items (a ∷ atoms) [] = refl
in-no_items (a ∷ atoms) (v ∷ values) = in-no_items atoms values

-- ---- rules of a right book

pub exact_rules : (logic : Logic) (rules : List OperatorRule) → IsLogic logic → IsRightBook logic rules → All (IsExactAtArguments logic) rules
exact_rules logic rules is book i d lt = exact_at_arguments logic _ is.sized (book.right i d lt).fits (book.right i d lt).exact

-- the rule for an operator at a sign is exact
exact_clauses : (logic : Logic) (rules : List OperatorRule) (op : ℕ) (sign arguments : List ℕ) → All (IsExactAtArguments logic) rules → has_rule rules op sign ≡ true → length arguments ≡ (operator_at logic op).arity → All (λ v. v < logic.size) arguments
    → list_all (λ sets. some_in sets arguments) (rule_clauses rules op sign) ≡ has sign (operation logic op arguments)
exact_clauses logic [] op sign arguments exact there count below = absurd (true≢false (sym there))
exact_clauses logic (rule ∷ rules) op sign arguments exact there count below = pick (is_for op sign rule) refl (λ later. exact_clauses logic rules op sign arguments (All-tail (IsExactAtArguments logic) rule rules exact) later count below) there where
  pick : (b : Bool) → is_for op sign rule ≡ b → (has_rule rules op sign ≡ true → list_all (λ sets. some_in sets arguments) (rule_clauses rules op sign) ≡ has sign (operation logic op arguments)) → (b || has_rule rules op sign) ≡ true
      → list_all (λ sets. some_in sets arguments) (cond b rule.clauses (rule_clauses rules op sign)) ≡ has sign (operation logic op arguments)
  pick true this later h =
      let parts = and_parts (rule.op == op) (bytes_eq rule.sign sign) this in
      let head : rule.op ≡ op = eqb-true rule.op op parts.0 in
      sym (All-head (IsExactAtArguments logic) rule rules exact arguments (count ∙ ap (λ o. (operator_at logic o).arity) (sym head)) below)
      ∙ (λ i. has ((bytes_eq-Decides rule.sign sign).0 parts.1 i) (operation logic (head i) arguments))
  pick false this later h = later h

-- ---- a translation is true exactly where the formula's value lies in the sign

module _ (logic : Logic) (is : IsLogic logic) (rules : List OperatorRule) (exact : All (IsExactAtArguments logic) rules) (atoms : List Formula) (v : Formula → ℕ) (valuation : IsValuation logic v) where
  abbrev val : Formula → ℕ
  val = value logic v

  below : (f : Formula) → val f < logic.size
  below = HasValues-value logic is v valuation

  pub rows_below : (fs : List Formula) → AllByRecursion (λ x. x < logic.size) (map val fs)
  rows_below [] = tt
  rows_below (f ∷ fs) = (below f, rows_below fs)

  abbrev holds : List (List (List ℕ)) → Bool
  holds clauses = list_all (λ c. some_in c (map val atoms)) clauses

  in-one_item : (atom : Formula) (sign : List ℕ) (others : List Formula) → some_in (one_item logic.size others atom sign) (map val others) ≡ (list_any (same_formula atom) others && has sign (val atom))
  in-one_item atom sign [] = refl
  in-one_item atom sign (a ∷ others) = (λ i. here i || in-one_item atom sign others i) ∙ pick (same_formula a atom) (same_formula atom a) refl refl (list_any (same_formula atom) others) where
    here : has (values_where logic.size (λ x. same_formula a atom && has sign x)) (val a) ≡ (same_formula a atom && has sign (val a))
    here = has-values_where logic.size (λ x. same_formula a atom && has sign x) (val a) ∙ ap (λ t. t && (same_formula a atom && has sign (val a))) (lt-ltb (val a) logic.size (below a))

    twice : (h r : Bool) → (h || (r && h)) ≡ h
    twice true r = refl
    twice false true = refl
    twice false false = refl

    pick : (b c : Bool) → same_formula a atom ≡ b → same_formula atom a ≡ c → (r : Bool) → ((b && has sign (val a)) || (r && has sign (val atom))) ≡ ((c || r) && has sign (val atom))
    pick true true one other r = ap (λ x. has sign (val x) || (r && has sign (val atom))) ((same_formula-Decides a atom).0 one) ∙ twice (has sign (val atom)) r
    pick true false one other r = absurd (true≢false (sym ((same_formula-Decides atom a).1 (sym ((same_formula-Decides a atom).0 one))) ∙ other))
    pick false true one other r = absurd (true≢false (sym ((same_formula-Decides a atom).1 (sym ((same_formula-Decides atom a).0 other))) ∙ one))
    pick false false one other r = refl

  holds_none : holds (no_items atoms ∷ []) ≡ false
  holds_none = ap (λ t. t && true) (in-no_items atoms (map val atoms))

  in-at_sign : (sign : List ℕ) (clauses : List (List (List ℕ))) (x : ℕ) → x < logic.size → (has_all logic.size sign ≡ false → has_member sign ≡ true → holds clauses ≡ has sign x) → holds (at_sign logic.size atoms sign clauses) ≡ has sign x
  in-at_sign sign clauses x lt h = pick (has_all logic.size sign) refl h where
    empty : (s : List ℕ) → has_member s ≡ false → has s x ≡ false
    empty [] e = refl
    empty (y ∷ s) e = absurd (true≢false e)

    rest : (b : Bool) → has_member sign ≡ b → (b ≡ true → holds clauses ≡ has sign x) → holds (cond b clauses (no_items atoms ∷ [])) ≡ has sign x
    rest true some k = k refl
    rest false none k = holds_none ∙ sym (empty sign none)

    pick : (b : Bool) → has_all logic.size sign ≡ b → (b ≡ false → has_member sign ≡ true → holds clauses ≡ has sign x) → holds (cond b [] (cond (has_member sign) clauses (no_items atoms ∷ []))) ≡ has sign x
    pick true full k = sym (full_has logic.size sign x full lt)
    pick false open' k = rest (has_member sign) refl (k refl)

  abbrev AreListed : Formula → Type 0
  AreListed f = All (λ atom. list_any (same_formula atom) atoms ≡ true) (atom_places f)

  abbrev Translates : Formula → Type 0
  Translates f = (sign : List ℕ) → fits_within logic f 0 ≡ true → has_quantifier f ≡ false → AreListed f → covers logic.size rules f sign ≡ true → holds (translated logic.size rules atoms f sign) ≡ has sign (val f)

  in-choices : (sets : List (List ℕ)) (args : List Formula) → AllByRecursion Translates args → list_all (λ f. fits_within logic f 0) args ≡ true → list_any has_quantifier args ≡ false → All AreListed args → all_covered sets (map (covers logic.size rules) args) ≡ true
      → holds (choices logic.size atoms sets (map (translated logic.size rules atoms) args)) ≡ some_in sets (map val args)
  in-choices [] args each fit plain listed cover = holds_none
  in-choices (set ∷ sets) [] each fit plain listed cover = holds_none
  in-choices (set ∷ sets) (arg ∷ args) each fit plain listed cover =
      let f = and_parts (fits_within logic arg 0) (list_all (λ f. fits_within logic f 0) args) fit in
      let q = or_parts (has_quantifier arg) (list_any has_quantifier args) plain in
      let k = and_parts (covers logic.size rules arg set) (all_covered sets (map (covers logic.size rules) args)) cover in
      in-products logic.size (map val atoms) (rows_below atoms) (translated logic.size rules atoms arg set) (choices logic.size atoms sets (map (translated logic.size rules atoms) args))
      ∙ (λ i. each.0 set f.0 q.0 (All-head AreListed arg args listed) k.0 i || in-choices sets args each.1 f.1 q.1 (All-tail AreListed arg args listed) k.1 i)

  in-clauses : (clauses : List (List (List ℕ))) (args : List Formula) → AllByRecursion Translates args → list_all (λ f. fits_within logic f 0) args ≡ true → list_any has_quantifier args ≡ false → All AreListed args → list_all (λ sets. all_covered sets (map (covers logic.size rules) args)) clauses ≡ true
      → list_all (λ sets. holds (choices logic.size atoms sets (map (translated logic.size rules atoms) args))) clauses ≡ list_all (λ sets. some_in sets (map val args)) clauses
  in-clauses [] args each fit plain listed cover = refl
  in-clauses (sets ∷ clauses) args each fit plain listed cover =
      let k = and_parts (all_covered sets (map (covers logic.size rules) args)) (list_all (λ s. all_covered s (map (covers logic.size rules) args)) clauses) cover in
      (λ i. in-choices sets args each fit plain listed k.0 i && in-clauses clauses args each fit plain listed k.1 i)

  or_last : (a b c : Bool) → ((a || not b) || c) ≡ true → a ≡ false → b ≡ true → c ≡ true
  or_last false true c h open' some = h
  or_last false false c h open' some = absurd (true≢false (sym some))
  or_last true b c h open' some = absurd (true≢false open')

  translates-Op : (op : ℕ) (args : List Formula) → AllByRecursion Translates args → Translates (Op op args)
  translates-Op op args each sign fit plain listed cover =
      let f = op_fits logic op args fit in
      let none : list_any has_quantifier args ≡ false = sym (has_quantifier-Op op args) ∙ plain in
      let below_args : All AreListed args = All-flat_map (λ atom. list_any (same_formula atom) atoms ≡ true) atom_places args (subst (All (λ atom. list_any (same_formula atom) atoms ≡ true)) (atom_places-Op op args) listed) in
      ap holds (translated-Op logic.size rules atoms op args sign) ∙ in-at_sign sign (flat_map (λ sets. choices logic.size atoms sets (map (translated logic.size rules atoms) args)) (rule_clauses rules op sign)) (val (Op op args)) (below (Op op args)) (λ open' some.
      let asked = list_all (λ sets. all_covered sets (map (covers logic.size rules) args)) (rule_clauses rules op sign) in
      let c = and_parts (has_rule rules op sign) asked (or_last (has_all logic.size sign) (has_member sign) (has_rule rules op sign && asked) (sym (covers-Op logic.size rules op args sign) ∙ cover) open' some) in
      list_all-flat (λ c. some_in c (map val atoms)) (λ sets. choices logic.size atoms sets (map (translated logic.size rules atoms) args)) (rule_clauses rules op sign)
      ∙ in-clauses (rule_clauses rules op sign) args each f.2 none below_args c.1
      ∙ exact_clauses logic rules op sign (map val args) exact c.0 (length-map args val ∙ f.1) (All-from_recursion (λ x. x < logic.size) (map val args) (rows_below args))
      ∙ ap (has sign) (sym (value-Op logic v op args)))

  pub translation_true : (f : Formula) → Translates f
  translation_true = formula_induction Translates
      (λ p args sign fit plain listed cover. ap holds (translated-Atom logic.size rules atoms p args sign) ∙ in-at_sign sign (one_item logic.size atoms (Atom p args) sign ∷ []) (val (Atom p args)) (below (Atom p args)) (λ open' some.
      and-true (some_in (one_item logic.size atoms (Atom p args) sign) (map val atoms)) ∙ in-one_item (Atom p args) sign atoms
      ∙ ap (λ t. t && has sign (val (Atom p args))) (All-head (λ atom. list_any (same_formula atom) atoms ≡ true) (Atom p args) [] (subst (All (λ atom. list_any (same_formula atom) atoms ≡ true)) (atom_places-Atom p args) listed))))
      translates-Op
      (λ q body rest sign fit plain listed cover. absurd (true≢false (sym (has_quantifier-Quant q body) ∙ plain)))
