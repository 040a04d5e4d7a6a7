-- What the definition of a specification gives is a logic, where the names that it declares are plain.
use Rattle.std.proofs.Common.{◌≡◌, ◌≢◌, ℕ, zero, suc, ◌+◌, ◌<◌, ◌≤◌, Bool, true, false, List, [], ◌∷◌, length, map, take, get_or, All, Option, Some, None, option_map, Result, Ok, refl, sym, ap, ◌∙◌, arith, ⊎_elim}
use Rattle.std.specs.Prelude.{nat_lt, slice_get, ◌&&◌}
use Rattle.std.specs.List.{list_any, AllPairs}
use Rattle.std.specs.Str.{bytes_eq}
use Rattle.std.specs.Option.{option_or}
use Rattle.std.proofs.lemmas.Bool.{ltb-false, leb-false}
use Rattle.std.proofs.lemmas.Bool.Decides.{nat_tests}
use Rattle.std.proofs.lemmas.Slice.Eq.{bytes_eq-Decides}
use Rattle.std.proofs.lemmas.Option.{slice_get_cases}
use Rattle.std.proofs.lemmas.List.{get_or-map, length-map, get_or-take, length-take-le}
use Rattle.std.proofs.lemmas.List.Folds.{list_any_at}
use Rattle.lgc_values.specs.declared.TheConstants.{MOST_VALUES}
use Rattle.lgc_values.specs.declared.matrix.Operator as lgc
use Rattle.lgc_values.specs.Values.{values_where, has, members_of}
use Rattle.lgc_values.specs.Logic.{IsOperator, IsPlainName}
use Rattle.lgc_values.proofs.ValueLaws.{values_where-alike, has-values_where}
use Rattle.lgc_parser.specs.declared.tree.Word.{Word}
use Rattle.lgc_parser.specs.declared.tree.OpBody.{OpBody}
use Rattle.lgc_parser.specs.declared.tree.OpBody.TheVariants.{Table}
use Rattle.lgc_parser.specs.declared.tree.Statement.{Statement}
use Rattle.lgc_spec.specs.declared.fault.SpecFault.{SpecFault}
use Rattle.lgc_spec.specs.InOrder.{first_fault, AllGive}
use Rattle.lgc_spec.specs.Words.{text_of, is_said, says_again, first_repeat}
use Rattle.lgc_spec.specs.Statements.{first_second, first_some, needed, values_in, designated_in}
use Rattle.lgc_spec.specs.Values.{too_few, too_many, names_given, designated_given}
use Rattle.lgc_spec.specs.Orderings.{Ordered}
use Rattle.lgc_spec.specs.Operators.{OperatorGives, name_fault, one_too_many}
use Rattle.lgc_spec.specs.Specification.{values_given}
use Rattle.lgc_spec.proofs.InOrderLaws.{first_fault_kept, first_fault_more}
use Rattle.lgc_spec.proofs.OperatorShapes.{unless_ok, bind_ok, none_else, operator_is, operator_named}

-- ---- distinct texts

pub same_bytes : (a b : List ℕ) → a ≡ b → bytes_eq a b ≡ true
same_bytes a b e = (bytes_eq-Decides a b).1 e

-- no text is that of one before it
AreFresh : {X : Type 0} → (X → List ℕ) → List X → Type 0
AreFresh {X} text xs = (j : ℕ) (d : X) → j < length xs → list_any (λ x. bytes_eq (text x) (text (get_or xs j d))) (take j xs) ≡ false

no_head : {X : Type 0} (text : X → List ℕ) (xs : List X) (d : X) → AreFresh text xs → (i j : ℕ) → i < j → j < length xs → text (get_or xs i d) ≡ text (get_or xs j d) → ⊥
unfolding AreFresh
no_head {X} text xs d fresh i j lt within e =
    let test : X → Bool = λ x. bytes_eq (text x) (text (get_or xs j d)) in
    let size : length (take j xs) ≡ j = length-take-le j xs (omega arith) in
    let here : get_or (take j xs) i d ≡ get_or xs i d = get_or-take j xs i d lt in
    let found : list_any test (take j xs) ≡ true = list_any_at test (take j xs) i d (omega arith) (rw here (same_bytes _ _ e)) in
    let not_found = fresh j d within in
    absurd cc

-- ---- the truth values

fresh_words : (number : ℕ) (bytes : List ℕ) (words : List Word) → first_repeat number bytes words ≡ None → AreFresh (text_of bytes) words
unfolding AreFresh
fresh_words number bytes words none j d within =
    let fault = says_again number bytes in
    let so_far : first_fault fault (take (j + 1) words) ≡ None = front (first_fault fault (take (j + 1) words)) refl in
    let here : fault (take j words) (get_or words j d) ≡ None = back (first_fault fault (take j words)) (fault (take j words) (get_or words j d)) (sym (first_fault_more fault words j d within) ∙ so_far) in
    none_else (is_said bytes (take j words) (text_of bytes (get_or words j d))) _ here where
      front : (o : Option SpecFault) → first_fault (says_again number bytes) (take (j + 1) words) ≡ o → first_fault (says_again number bytes) (take (j + 1) words) ≡ None
      front None e = e
      front (Some f) e = let kept = first_fault_kept (says_again number bytes) words (j + 1) f e in absurd cc

      back : (a b : Option SpecFault) → option_or a b ≡ None → b ≡ None
      back None b e = e
      back (Some f) b e = absurd cc

apart : {X : Type 0} (text : X → List ℕ) (xs : List X) → AreFresh text xs → AllPairs (λ a b. a ≢ b) (map text xs)
apart text [] fresh i j d lt within e = absurd (omega arith)
apart {X} text (x ∷ xs) fresh i j d lt within e =
    let all = x ∷ xs in
    let size : length (map text all) ≡ length all = length-map all text in
    let inside : j < length all = omega (arith, size, within) in
    let one : get_or (map text all) i d ≡ text (get_or all i x) = get_or-map text all i x d (omega (arith, inside, lt)) in
    let other : get_or (map text all) j d ≡ text (get_or all j x) = get_or-map text all j x d inside in
    no_head text all x fresh i j lt inside (sym one ∙ e ∙ other)

-- nothing stands at the place n
at_most : {X Y : Type 0} (xs : List X) (n : ℕ) (f : X → Y) → option_map f (slice_get xs n) ≡ None → length xs ≤ n
at_most {X} {Y} xs n f e = ⊎_elim (λ k. absurd (some k.0 (slice_get xs n) k.2 e)) (λ k. k.0) (slice_get_cases xs n).1 where
  some : (x : X) (o : Option X) → o ≡ Some x → option_map f o ≡ None → ⊥
  some x None h g = cc
  some x (Some y) h g = cc

-- the names of a specification's values
pub record NamesValues (names : List (List ℕ)) : Type 0 where
  pub some : 2 ≤ length names
  pub few : length names ≤ MOST_VALUES
  pub distinct : AllPairs (λ a b. a ≢ b) names

pub names_are : (bytes : List ℕ) (at : ℕ) (words : List Word) (names : List (List ℕ)) → names_given bytes at words ≡ Ok names → NamesValues names × (names ≡ map (text_of bytes) words)
names_are bytes at words names e =
    let first = unless_ok (too_few at words) _ names e in
    let second = unless_ok (too_many words) _ names first.1 in
    let third = unless_ok (first_repeat 8 bytes words) _ names second.1 in
    let is : names ≡ map (text_of bytes) words = cc in
    let size : length (map (text_of bytes) words) ≡ length words = length-map words (text_of bytes) in
    let low : 2 ≤ length words = ltb-false (length words) 2 (none_else _ _ first.0) in
    let high : length words ≤ MOST_VALUES = at_most words MOST_VALUES _ second.0 in
    (rw is (record { some = omega (arith, size, low); few = omega (arith, size, high); distinct = apart (text_of bytes) words (fresh_words 8 bytes words third.0) }), is)

pub values_are : (bytes : List ℕ) (statements : List Statement) (names : List (List ℕ)) (set : List ℕ) → values_given bytes statements ≡ Ok (names, set) → NamesValues names × ((at : ℕ) × (words : List Word) × (first_some values_in statements ≡ Some (at, words)) × (names ≡ map (text_of bytes) words))
values_are bytes statements names set e =
    let single = unless_ok (first_second statements) _ (names, set) e in
    let (values, written, e1) = bind_ok (needed (length bytes) (first_some values_in statements)) _ (names, set) single.1 in
    let (marked, chosen, e2) = bind_ok (needed (length bytes) (first_some designated_in statements)) _ (names, set) e1 in
    let (called, given, e3) = bind_ok (names_given bytes values.0 values.1) _ (names, set) e2 in
    let (those, told, e4) = bind_ok (designated_given bytes called marked) _ (names, set) e3 in
    let same : called ≡ names = same_first called names those set e4 in
    let law = names_are bytes values.0 values.1 names (rw same at given) in
    (law.0, (values.0, values.1, found (first_some values_in statements) values written, law.1)) where
      same_first : (a c : List (List ℕ)) (b d : List ℕ) → ◌≡◌ {A = Result (List (List ℕ) × List ℕ) SpecFault} (Ok (a, b)) (Ok (c, d)) → a ≡ c
      same_first a c b d h = let pair : (a, b) ≡ (c, d) = cc in ap (λ (p : List (List ℕ) × List ℕ). p.0) pair

      found : {X : Type 0} (o : Option X) (x : X) → needed (length bytes) o ≡ Ok x → o ≡ Some x
      found None x h = absurd cc
      found (Some y) x h = let s : y ≡ x = cc in rw s refl

-- the members of a set of values are the values that it has
pub members_kept : (n mask : ℕ) → members_of n mask ≡ values_where n (has (members_of n mask))
members_kept n mask = kept _ where
  kept : (p : ℕ → Bool) → values_where n p ≡ values_where n (has (values_where n p))
  kept p = values_where-alike n p (has (values_where n p)) (λ v lt. sym (has-values_where n p v ∙ here (p v) (nat_lt v n) (within v lt))) where
    within : (v : ℕ) → v < n → nat_lt v n ≡ true
    within v lt = grind (arith, nat_tests)

    here : (b t : Bool) → t ≡ true → (t && b) ≡ b
    here b t e = rw e refl

-- ---- the operators

pub both_none : {F : Type 0} (a b : Option F) → option_or a b ≡ None → (a ≡ None) × (b ≡ None)
both_none None b e = (refl, e)
both_none (Some f) b e = absurd cc

module _ (bytes : List ℕ) (names : List (List ℕ)) (orderings : List Ordered) (some : 0 < length names) (written : List (Word × Word × OpBody)) (operators : List lgc.Operator) (all : AllGive (OperatorGives bytes names orderings) written operators) where
  word : Word
  word = record { start = 0; end = 0; at = 0 }

  absent : Word × Word × OpBody
  absent = (word, word, Table 0 [])

  text : Word × Word × OpBody → List ℕ
  text o = text_of bytes o.0

  named : (i : ℕ) (y : lgc.Operator) → i < length written → ((get_or operators i y).name ≡ text_of bytes (get_or written i absent).0) × (name_fault bytes (map (λ o. text_of bytes o.0) (take i written)) (get_or written i absent).0 ≡ None)
  named i y lt = operator_named bytes names some orderings (take i written) (get_or written i absent) (get_or operators i y) (all.1 i absent y lt)

  pub operators_are : All (λ o. IsPlainName (text_of bytes o.0)) written → All (IsOperator (length names)) operators
  operators_are plain i d lt =
      let within : i < length written = omega (arith, all.0, lt) in
      operator_is bytes names some orderings (take i written) (get_or written i absent) (get_or operators i d) (plain i absent within) (all.1 i absent d within)

  pub symbols_apart : AllPairs (λ a b. a ≢ b) (map (λ o. o.name) operators)
  symbols_apart i j d lt below e =
      let y : lgc.Operator = record { name = []; arity = 0; table = [] } in
      let size : length (map (λ o. o.name) operators) ≡ length operators = length-map operators (λ o. o.name) in
      let inside : j < length operators = omega (arith, size, below) in
      let within : j < length written = omega (arith, all.0, inside) in
      let one : get_or (map (λ o. o.name) operators) i d ≡ (get_or operators i y).name = get_or-map (λ o. o.name) operators i y d (omega (arith, inside, lt)) in
      let other : get_or (map (λ o. o.name) operators) j d ≡ (get_or operators j y).name = get_or-map (λ o. o.name) operators j y d inside in
      let first = named i y (omega (arith, within, lt)) in
      let second = named j y within in
      let same : text_of bytes (get_or written i absent).0 ≡ text_of bytes (get_or written j absent).0 = sym first.0 ∙ sym one ∙ e ∙ other ∙ second.0 in
      let earlier : List (List ℕ) = map (λ o. text_of bytes o.0) (take j written) in
      let test : List ℕ → Bool = λ name. bytes_eq name (text_of bytes (get_or written j absent).0) in
      let fresh : list_any test earlier ≡ false = none_else _ _ (both_none (one_too_many earlier (get_or written j absent).0) _ second.1).1 in
      let taken : length (take j written) ≡ j = length-take-le j written (omega (arith, within)) in
      let count : length earlier ≡ length (take j written) = length-map (take j written) (λ o. text_of bytes o.0) in
      let at : get_or earlier i [] ≡ text_of bytes (get_or (take j written) i absent).0 = get_or-map (λ o. text_of bytes o.0) (take j written) i absent [] (omega (arith, taken, lt)) in
      let front : get_or (take j written) i absent ≡ get_or written i absent = get_or-take j written i absent lt in
      let found : list_any test earlier ≡ true = list_any_at test earlier i [] (omega (arith, count, taken, lt)) (same_bytes _ _ (at ∙ ap (λ o. text_of bytes o.0) front ∙ same)) in
      absurd (false_true fresh found) where
        false_true : {b : Bool} → b ≡ false → b ≡ true → ⊥
        false_true h g = cc

  pub operators_few : length operators ≤ 64
  operators_few = by (length written) refl where
    by : (n : ℕ) → length written ≡ n → length operators ≤ 64
    by zero e = omega (arith, all.0, e)
    by (suc k) e =
        let y : lgc.Operator = record { name = []; arity = 0; table = [] } in
        let last = named k y (omega (arith, e)) in
        let earlier : List (List ℕ) = map (λ o. text_of bytes o.0) (take k written) in
        let room = leb-false 64 (length earlier) (none_else _ _ (both_none (one_too_many earlier (get_or written k absent).0) _ last.1).0) in
        let taken : length (take k written) ≡ k = length-take-le k written (omega (arith, e)) in
        let count : length earlier ≡ length (take k written) = length-map (take k written) (λ o. text_of bytes o.0) in
        omega (arith, all.0, e, room, taken, count)
