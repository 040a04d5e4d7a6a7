-- What the definition of a quantifier gives is a quantifier of a logic.
use Rattle.std.proofs.Common.{◌≡◌, ◌≢◌, ℕ, zero, suc, ◌+◌, ◌-◌, ◌*◌, ◌^◌, ◌<◌, ◌≤◌, ◌==◌, ◌&&◌, Bool, true, false, cond, List, [], ◌∷◌, ◌++◌, length, map, take, get_or, find, fold, All, Option, Some, None, Ok, refl, sym, ap, ◌∙◌, arith, append_assoc}
use Rattle.std.specs.List.{list_any, AllPairs}
use Rattle.std.specs.Str.{bytes_eq}
use Rattle.std.proofs.lemmas.Bool.{leb-false, eqb-true, and_parts}
use Rattle.std.proofs.lemmas.Nat.{mul-add-lt}
use Rattle.std.proofs.lemmas.List.{append-nil, length-map, get_or-map, take_more, take_all, length-take-le, map-append, same_lists}
use Rattle.std.proofs.lemmas.List.Elements.{All-map, All-head, All-tail}
use Rattle.std.proofs.lemmas.List.Quantifiers.{all_pairs_push}
use Rattle.std.proofs.lemmas.List.Folds.{list_any_at}
use Rattle.std.proofs.lemmas.Grind.{get_or_default_zero}
use Rattle.lgc_values.specs.Values.{members_of}
use Rattle.lgc_values.specs.Logic.{IsQuantifier, IsPlainName}
use Rattle.lgc_values.specs.declared.matrix.Operator.{Operator}
use Rattle.lgc_values.specs.declared.matrix.Quantifier as lgc
use Rattle.lgc_orders.specs.Order.{Leads}
use Rattle.lgc_parser.specs.declared.tree.Word.{Word}
use Rattle.lgc_parser.specs.declared.tree.Row.{Row}
use Rattle.lgc_parser.specs.declared.tree.QuantBody.{QuantBody}
use Rattle.lgc_parser.specs.declared.tree.QuantBody.TheVariants.{Mapping, Induced, Bound}
use Rattle.lgc_spec.specs.Faults.{unless}
use Rattle.lgc_spec.specs.InOrder.{first_fault, AllGive}
use Rattle.lgc_spec.specs.Words.{text_of}
use Rattle.lgc_spec.specs.Orderings.{Ordered}
use Rattle.lgc_spec.specs.Sets.{nonempty_sets, table_over}
use Rattle.lgc_spec.specs.Folds.{HasRows, applied, folded}
use Rattle.lgc_spec.specs.Distributions.{has_set, set_fault, missing_set, result_over, distribution_given}
use Rattle.lgc_spec.specs.Inductions.{operator_found, inducing, not_semilattice, induced_given}
use Rattle.lgc_spec.specs.Bounds.{IsSetBound, SetBoundsGive, SetBoundGives, found, ordering_named}
use Rattle.lgc_spec.specs.Quantifiers.{one_quantifier_too_many, symbol_fault, BodyGives, QuantifierGives}
use Rattle.lgc_spec.proofs.OperatorShapes.{unless_ok, bind_ok, follows_ok, then_ok, none_else, result_below, square}
use Rattle.lgc_spec.proofs.LogicShapes.{same_bytes, both_none}
use Rattle.lgc_spec.proofs.SetBounds.{members_below, length-nonempty_sets}

-- ---- tables

-- a table has a value for each nonempty set
record HasSets (n : ℕ) (table : List ℕ) : Type 0 where
  pub rows : length table ≡ 2 ^ n - 1
  pub entries : All (λ v. v < n) table

over_sets : (n : ℕ) (value : List ℕ → ℕ) (table : List ℕ) → table ≡ table_over n value → ((set : List ℕ) → All (λ v. v < n) set → value set < n) → HasSets n table
over_sets n value table is below = rw is (record {
  rows = length-map (nonempty_sets n) value ∙ length-nonempty_sets n;
  entries = All-map (λ v. v < n) value (nonempty_sets n) (λ k d lt. below (get_or (nonempty_sets n) k d) (set_below k d lt));
}) where
  set_below : (k : ℕ) (d : List ℕ) → k < length (nonempty_sets n) → All (λ v. v < n) (get_or (nonempty_sets n) k d)
  set_below = All-map (λ set. All (λ v. v < n) set) (λ index. members_of n (index + 1)) _ (λ k d lt. members_below n (get_or _ k d + 1))

-- what holds of all holds of the one that is found
pub found_has : {X : Type 0} (P : X → Type 0) (test : X → Bool) (xs : List X) (x : X) → All P xs → find test xs ≡ Some x → P x × (test x ≡ true)
found_has P test [] x all e = absurd cc
found_has {X} P test (y ∷ xs) x all e = by (test y) refl e (found_has P test xs x (All-tail P y xs all)) where
  by : (b : Bool) → test y ≡ b → cond b (Some y) (find test xs) ≡ Some x → (find test xs ≡ Some x → P x × (test x ≡ true)) → P x × (test x ≡ true)
  by true t h later = let same : x ≡ y = cc in rw same (All-head P y xs all, t)
  by false t h later = later h

applied_below : (n : ℕ) (table : List ℕ) → HasRows n 2 table → (a b : ℕ) → a < n → b < n → applied n table a b < n
applied_below n table has a b la lb =
    let within : a * n + b < n * n = mul-add-lt a n b n la lb in
    let size : length table ≡ n * n = has.rows ∙ sym (square n 2 refl) in
    has.entries (a * n + b) 0 (omega arith)

fold_below : (n : ℕ) (op : ℕ → ℕ → ℕ) → ((a b : ℕ) → a < n → b < n → op a b < n) → (v : ℕ) (set : List ℕ) → v < n → All (λ w. w < n) set → fold op v set < n
fold_below n op closed v [] lt all = lt
fold_below n op closed v (w ∷ set) lt all = fold_below n op closed (op v w) set (closed v w lt (All-head (λ u. u < n) w set all)) (All-tail (λ u. u < n) w set all)

folded_below : (n : ℕ) (op : ℕ → ℕ → ℕ) → 0 < n → ((a b : ℕ) → a < n → b < n → op a b < n) → (set : List ℕ) → All (λ w. w < n) set → folded op set < n
folded_below n op some closed [] all = some
folded_below n op some closed (v ∷ set) all = fold_below n op closed v set (All-head (λ u. u < n) v set all) (All-tail (λ u. u < n) v set all)

set_bound_below : (lower : Bool) (n : ℕ) (le : ℕ → ℕ → Type 0) (set : List ℕ) (c : ℕ) → IsSetBound lower n le set c → c < n
set_bound_below true n le set c h = h.within
set_bound_below false n le set c h = h.within

module _ (bytes : List ℕ) (names : List (List ℕ)) (some : 0 < length names) (orderings : List Ordered) (operators : List Operator) (tables : All (λ o. HasRows (length names) o.arity o.table) operators) where
  mapping_sets : (rows : List Row) (close : ℕ) (table : List ℕ) → Ok table ≡ distribution_given bytes names rows close → HasSets (length names) table
  mapping_sets rows close table e =
      let first = unless_ok (first_fault (set_fault bytes names) rows) _ table (sym e) in
      let second = unless_ok (missing_set bytes names close rows) _ table first.1 in
      let is : table_over (length names) (result_over bytes names rows) ≡ table = cc in
      over_sets (length names) (result_over bytes names rows) table (sym is) (λ set all. result_below bytes names (find (has_set bytes names set) rows) some)

  inducing_rows : (name arity : Word) (o : Operator) → operator_found name (inducing bytes operators name arity) ≡ Ok o → HasRows (length names) 2 o.table
  inducing_rows name arity o e = by (inducing bytes operators name arity) refl e where
    test : Operator → Bool
    test p = bytes_eq p.name (text_of bytes name) && (p.arity == 2)

    found_of : (b : Bool) (x : Option Operator) → cond b x None ≡ Some o → x ≡ Some o
    found_of true x h = h
    found_of false x h = absurd cc

    by : (x : Option Operator) → inducing bytes operators name arity ≡ x → operator_found name x ≡ Ok o → HasRows (length names) 2 o.table
    by None h k = absurd cc
    by (Some p) h k =
        let same : p ≡ o = cc in
        let there : find (λ q. bytes_eq q.name (text_of bytes name) && (q.arity == 2)) operators ≡ Some o = found_of _ _ (h ∙ ap Some same) in
        let has = found_has (λ q. HasRows (length names) q.arity q.table) (λ q. bytes_eq q.name (text_of bytes name) && (q.arity == 2)) operators o tables there in
        let two : o.arity ≡ 2 = eqb-true o.arity 2 (and_parts (bytes_eq o.name (text_of bytes name)) (o.arity == 2) has.1).1 in
        rw two at has.0

  induced_sets : (name arity : Word) (table : List ℕ) → Ok table ≡ induced_given bytes names operators name arity → HasSets (length names) table
  induced_sets name arity table e =
      let (o, known, given) = bind_ok (operator_found name (inducing bytes operators name arity)) _ table (sym e) in
      let op : ℕ → ℕ → ℕ = applied (length names) o.table in
      let laws = unless_ok (not_semilattice names op name.at) (Ok (table_over (length names) (folded op))) table given in
      let is : table_over (length names) (folded op) ≡ table = cc in
      over_sets (length names) (folded op) table (sym is) (folded_below (length names) op some (applied_below (length names) o.table (inducing_rows name arity o known)))

  bound_sets : (at : ℕ) (lower : Bool) (word : Word) (table : List ℕ) → SetBoundGives bytes names orderings at lower word (Ok table) → HasSets (length names) table
  bound_sets at lower word table h =
      let (ordered, told, bounds) = follows_ok (found word (ordering_named bytes orderings word)) (λ o. SetBoundsGive lower names at (Leads o.links)) table h in
      record {
        rows = bounds.1;
        entries = λ k d lt. rw (get_or_default_zero table k d lt) (set_bound_below lower (length names) (Leads ordered.links) _ _ (bounds.2 k (rw bounds.1 at lt)));
      }

  body_sets : (body : QuantBody) (table : List ℕ) → BodyGives bytes names orderings operators body (Ok table) → HasSets (length names) table
  body_sets (Mapping rows close) table h = mapping_sets rows close table h
  body_sets (Induced name arity) table h = induced_sets name arity table h
  body_sets (Bound at lower word) table h = bound_sets at lower word table h

  -- a quantifier with a plain name is one of a logic
  quantifier_is : (before : List (Word × QuantBody)) (quantifier : Word × QuantBody) (told : lgc.Quantifier) → IsPlainName (text_of bytes quantifier.0) → QuantifierGives bytes names orderings operators before quantifier (Ok told) → IsQuantifier (length names) told
  quantifier_is before quantifier told plain h =
      let (body, head, behind) = follows_ok (unless (symbol_fault bytes (map (λ o. o.name) operators) (map (λ q. text_of bytes q.0) before) quantifier.0) (Ok quantifier.1)) _ told h in
      let (table, given, is) = then_ok (BodyGives bytes names orderings operators body) _ told behind in
      let shape = body_sets body table given in
      let it : told ≡ record { name = text_of bytes quantifier.0; table = table } = cc in
      rw it (record { named = plain; rows = shape.rows; entries = shape.entries })

  quantifier_named : (before : List (Word × QuantBody)) (quantifier : Word × QuantBody) (told : lgc.Quantifier) → QuantifierGives bytes names orderings operators before quantifier (Ok told) → (told.name ≡ text_of bytes quantifier.0) × (symbol_fault bytes (map (λ o. o.name) operators) (map (λ q. text_of bytes q.0) before) quantifier.0 ≡ None)
  quantifier_named before quantifier told h =
      let (body, head, behind) = follows_ok (unless (symbol_fault bytes (map (λ o. o.name) operators) (map (λ q. text_of bytes q.0) before) quantifier.0) (Ok quantifier.1)) _ told h in
      let (table, given, is) = then_ok (BodyGives bytes names orderings operators body) _ told behind in
      let quiet = unless_ok (symbol_fault bytes (map (λ o. o.name) operators) (map (λ q. text_of bytes q.0) before) quantifier.0) (Ok quantifier.1) body head in
      let it : told ≡ record { name = text_of bytes quantifier.0; table = table } = cc in
      (ap (λ q. q.name) it, quiet.0)

  -- ---- the quantifiers of a file

  module _ (written : List (Word × QuantBody)) (quantifiers : List lgc.Quantifier) (all : AllGive (QuantifierGives bytes names orderings operators) written quantifiers) where
    absent : Word × QuantBody
    absent = (record { start = 0; end = 0; at = 0 }, Mapping [] 0)

    unnamed : lgc.Quantifier
    unnamed = record { name = []; table = [] }

    named : (i : ℕ) → i < length written → ((get_or quantifiers i unnamed).name ≡ text_of bytes (get_or written i absent).0) × (symbol_fault bytes (map (λ o. o.name) operators) (map (λ q. text_of bytes q.0) (take i written)) (get_or written i absent).0 ≡ None)
    named i lt = quantifier_named (take i written) (get_or written i absent) (get_or quantifiers i unnamed) (all.1 i absent unnamed lt)

    pub quantifiers_are : All (λ q. IsPlainName (text_of bytes q.0)) written → All (IsQuantifier (length names)) quantifiers
    quantifiers_are plain i d lt =
        let within : i < length written = omega (arith, all.0, lt) in
        quantifier_is (take i written) (get_or written i absent) (get_or quantifiers i d) (plain i absent within) (all.1 i absent d within)

    names_are : map (λ q. q.name) quantifiers ≡ map (λ q. text_of bytes q.0) written
    names_are =
        let size : length (map (λ q. q.name) quantifiers) ≡ length quantifiers = length-map quantifiers (λ q. q.name) in
        let size' : length (map (λ q. text_of bytes q.0) written) ≡ length written = length-map written (λ q. text_of bytes q.0) in
        same_lists _ _ (size ∙ all.0 ∙ sym size') (λ k d lt.
        let inside : k < length quantifiers = omega (arith, size, lt) in
        let within : k < length written = omega (arith, all.0, inside) in
        get_or-map (λ q. q.name) quantifiers k unnamed d inside ∙ (named k within).0 ∙ sym (get_or-map (λ q. text_of bytes q.0) written k absent d within))

    -- the names of the operators and of the first quantifiers are apart
    first_apart : AllPairs (λ a b. a ≢ b) (map (λ o. o.name) operators) → (k : ℕ) → k ≤ length written → AllPairs (λ a b. a ≢ b) (map (λ o. o.name) operators ++ map (λ q. text_of bytes q.0) (take k written))
    first_apart apart zero le = rw (append-nil (map (λ o. o.name) operators)) apart
    first_apart apart (suc k) le =
        let front : List (List ℕ) = map (λ o. o.name) operators ++ map (λ q. text_of bytes q.0) (take k written) in
        let text : List ℕ = text_of bytes (get_or written k absent).0 in
        let lt : k < length written = omega arith in
        let fresh : list_any (λ name. bytes_eq name text) front ≡ false = none_else _ _ (both_none (one_quantifier_too_many (map (λ q. text_of bytes q.0) (take k written)) (get_or written k absent).0) _ (named k lt).1).1 in
        let pushed : AllPairs (λ a b. a ≢ b) (front ++ text ∷ []) = all_pairs_push (λ a b. a ≢ b) front text (first_apart apart k (omega arith)) (λ j d within e. false_true fresh (list_any_at (λ name. bytes_eq name text) front j d within (same_bytes _ _ e))) in
        let next : take (suc k) written ≡ take k written ++ get_or written k absent ∷ [] = one_more k lt in
        let whole : map (λ q. text_of bytes q.0) (take (suc k) written) ≡ map (λ q. text_of bytes q.0) (take k written) ++ text ∷ [] = ap (map (λ q. text_of bytes q.0)) next ∙ map-append (λ q. text_of bytes q.0) (take k written) (get_or written k absent ∷ []) in
        rw (whole, ← append_assoc (map (λ o. o.name) operators) (map (λ q. text_of bytes q.0) (take k written)) (text ∷ [])) pushed where
          false_true : {b : Bool} → b ≡ false → b ≡ true → ⊥
          false_true h g = cc

          one_more : (i : ℕ) → i < length written → take (suc i) written ≡ take i written ++ get_or written i absent ∷ []
          one_more i lt = let same : suc i ≡ i + 1 = omega arith in ap (λ m. take m written) same ∙ take_more written i absent lt

    pub all_apart : AllPairs (λ a b. a ≢ b) (map (λ o. o.name) operators) → AllPairs (λ a b. a ≢ b) (map (λ o. o.name) operators ++ map (λ q. q.name) quantifiers)
    all_apart apart = rw (names_are, ← take_all (length written) written (omega arith)) (first_apart apart (length written) (omega arith))

    pub quantifiers_few : length quantifiers ≤ 64
    quantifiers_few = by (length written) refl where
      by : (n : ℕ) → length written ≡ n → length quantifiers ≤ 64
      by zero e = omega (arith, all.0, e)
      by (suc k) e =
          let last = named k (omega (arith, e)) in
          let earlier : List (List ℕ) = map (λ q. text_of bytes q.0) (take k written) in
          let room = leb-false 64 (length earlier) (none_else _ _ (both_none (one_quantifier_too_many earlier (get_or written k absent).0) _ last.1).0) in
          let size : length (take k written) ≡ k = length-take-le k written (omega (arith, e)) in
          let count : length earlier ≡ length (take k written) = length-map (take k written) (λ q. text_of bytes q.0) in
          omega (arith, all.0, e, room, size, count)
