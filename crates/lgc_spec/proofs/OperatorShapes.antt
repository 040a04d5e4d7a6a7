-- What the definition of an operator gives is an operator of a logic.
use Rattle.std.proofs.Common.{◌≡◌, ℕ, ◌+◌, ◌*◌, ◌^◌, ◌/◌, ◌%◌, ◌<◌, Bool, true, false, cond, List, length, map, get_or, All, Option, Some, None, option_map, Result, Ok, Err, refl, sym, ap, ◌∙◌, arith}
use Rattle.std.specs.Prelude.{nat_lt, nat_le, unwrap_or, ◌==◌}
use Rattle.std.specs.List.{position_or_len, range_with_len, filter_map}
use Rattle.std.specs.Str.{bytes_eq}
use Rattle.std.proofs.lemmas.Bool.{ltb-true, leb-true, eqb-true, and_parts}
use Rattle.std.proofs.Math.Nat.{pow-suc, pow-zero}
use Rattle.std.proofs.lemmas.List.Elements.{All-map}
use Rattle.std.proofs.lemmas.List.FromFn.{length-map-range_with_len}
use Rattle.std.proofs.lemmas.Grind.{get_or_default_zero}
use Rattle.lgc_values.specs.declared.TheConstants.{MOST_ARGUMENTS, MOST_ROWS}
use Rattle.lgc_values.specs.declared.matrix.Operator as lgc
use Rattle.lgc_values.specs.Logic.{IsOperator, IsPlainName}
use Rattle.lgc_tokens.specs.Numbers.{number_of}
use Rattle.lgc_parser.specs.declared.tree.Word.{Word}
use Rattle.lgc_parser.specs.declared.tree.Row.{Row}
use Rattle.lgc_parser.specs.declared.tree.Statement.{Statement}
use Rattle.lgc_parser.specs.declared.tree.OpBody.{OpBody}
use Rattle.lgc_parser.specs.declared.tree.OpBody.TheVariants.{Mapping, Table, Bound}
use Rattle.lgc_spec.specs.declared.fault.SpecFault.{SpecFault}
use Rattle.lgc_spec.specs.Faults.{unless, ◌>>=◌, Follows, Then}
use Rattle.lgc_spec.specs.Words.{text_of, value_of, first_unknown, first_repeat}
use Rattle.lgc_spec.specs.Mappings.{row_fault, missing_row, result_at, row_at, indices, mapping_given}
use Rattle.lgc_spec.specs.InOrder.{first_fault}
use Rattle.lgc_spec.specs.Tables.{cell_at, heading_place, place_of, misshapen, header, headings, table_value, table_given}
use Rattle.lgc_spec.specs.Bounds.{IsBound, BoundsGive, BoundGives, not_binary, found, ordering_named}
use Rattle.lgc_spec.specs.Orderings.{Ordered}
use Rattle.lgc_orders.specs.Order.{Leads}
use Rattle.lgc_spec.specs.Folds.{HasRows}
use Rattle.lgc_spec.specs.Operators.{too_wide, name_fault, arity_given, head_given, BodyGives, OperatorGives, OperatorsGive, operator_in}
use Rattle.lgc_spec.proofs.OneInTurn.{parts_are}

-- ---- steps that have no fault

pub unless_ok : {X : Type 0} (o : Option SpecFault) (r : Result X SpecFault) (x : X) → unless o r ≡ Ok x → (o ≡ None) × (r ≡ Ok x)
unless_ok None r x e = (refl, e)
unless_ok (Some f) r x e = absurd cc

pub bind_ok : {X Y : Type 0} (r : Result X SpecFault) (next : X → Result Y SpecFault) (y : Y) → (r >>= next) ≡ Ok y → (x : X) × (r ≡ Ok x) × (next x ≡ Ok y)
bind_ok (Ok x) next y e = (x, refl, e)
bind_ok (Err f) next y e = absurd cc

pub follows_ok : {X Y : Type 0} (r : Result X SpecFault) (says : X → Result Y SpecFault → Type 0) (y : Y) → Follows r says (Ok y) → (x : X) × (r ≡ Ok x) × says x (Ok y)
follows_ok (Ok x) says y h = (x, refl, h)
follows_ok (Err f) says y h = absurd cc

pub then_ok : {X Y : Type 0} (first : Result X SpecFault → Type 0) (says : X → Result Y SpecFault → Type 0) (y : Y) → Then first says (Ok y) → (x : X) × first (Ok x) × says x (Ok y)
then_ok {X} {Y} first says y (part, h, k) = by part h k where
  by : (r : Result X SpecFault) → first r → Follows r says (Ok y) → (x : X) × first (Ok x) × says x (Ok y)
  by (Ok x) f g = (x, f, g)
  by (Err f) e g = absurd cc

pub none_then : {F : Type 0} (b : Bool) (f : F) → cond b None (Some f) ≡ None → b ≡ true
none_then true f e = refl
none_then false f e = absurd cc

pub none_else : {F : Type 0} (b : Bool) (f : F) → cond b (Some f) None ≡ None → b ≡ false
none_else false f e = refl
none_else true f e = absurd cc

-- ---- values

below : (p n : ℕ) (b : Bool) → nat_lt p n ≡ b → 0 < n → unwrap_or (cond b (Some p) None) 0 < n
below p n true e some = ltb-true p n e
below p n false e some = some

pub value_below : (bytes : List ℕ) (names : List (List ℕ)) (w : Word) → 0 < length names → value_of bytes names w < length names
value_below bytes names w some = below (position_or_len (λ name. bytes_eq name (text_of bytes w)) names) (length names) (nat_lt (position_or_len (λ name. bytes_eq name (text_of bytes w)) names) (length names)) refl some

pub result_below : (bytes : List ℕ) (names : List (List ℕ)) (row : Option Row) → 0 < length names → unwrap_or (option_map (λ r. value_of bytes names r.value) row) 0 < length names
result_below bytes names None some = some
result_below bytes names (Some row) some = value_below bytes names row.value some

pub bound_below : (lower : Bool) (n : ℕ) (le : ℕ → ℕ → Type 0) (a b c : ℕ) → IsBound lower n le a b c → c < n
bound_below true n le a b c h = h.within
bound_below false n le a b c h = h.within

-- ---- tables

mapped : (n arity count : ℕ) (f : ℕ → ℕ) (table : List ℕ) → count ≡ n ^ arity → ((row : ℕ) → f row < n) → table ≡ map f (range_with_len 0 count) → HasRows n arity table
mapped n arity count f table size within is = rw is (record { rows = length-map-range_with_len f 0 count ∙ size; entries = All-map (λ v. v < n) f (range_with_len 0 count) (λ k d lt. within (get_or (range_with_len 0 count) k d)) })

pub square : (n arity : ℕ) → arity ≡ 2 → n * n ≡ n ^ arity
square n arity e = rw e (two n) where
  two : (m : ℕ) → m * m ≡ m ^ 2
  two m =
      let twice : m ^ 2 ≡ m ^ 1 * m = pow-suc m 1 in
      let once : m ^ 1 ≡ m ^ 0 * m = pow-suc m 0 in
      let none : m ^ 0 ≡ 1 = pow-zero m in
      rw (twice, once, none) (omega arith)

module _ (bytes : List ℕ) (names : List (List ℕ)) (some : 0 < length names) where
  mapping_rows : (arity close : ℕ) (rows : List Row) (table : List ℕ) → Ok table ≡ mapping_given bytes names arity rows close → HasRows (length names) arity table
  mapping_rows arity close rows table e =
      let first = unless_ok (first_fault (row_fault bytes names arity) rows) _ table (sym e) in
      let second = unless_ok (missing_row bytes names arity close rows) _ table first.1 in
      let is : map (result_at bytes names arity rows) (indices names arity) ≡ table = cc in
      mapped (length names) arity (length names ^ arity) (result_at bytes names arity rows) table refl (λ row. result_below bytes names (row_at bytes names arity rows row) some) (sym is)

  table_rows : (arity at : ℕ) (cells : List Word) (table : List ℕ) → Ok table ≡ table_given bytes names arity at cells → HasRows (length names) arity table
  table_rows arity at cells table e =
      let n = length names in
      let first = unless_ok (misshapen n arity at cells) _ table (sym e) in
      let second = unless_ok (first_unknown bytes names cells) _ table first.1 in
      let third = unless_ok (first_repeat 17 bytes (header n cells)) _ table second.1 in
      let fourth = unless_ok (first_repeat 17 bytes (headings n cells)) _ table third.1 in
      let is : map (λ row. table_value bytes names cells (row / n) (row % n)) (range_with_len 0 (n * n)) ≡ table = cc in
      let two : arity ≡ 2 = eqb-true arity 2 (and_parts (arity == 2) (length cells == n * n + 2 * n) (none_then _ _ first.0)).0 in
      mapped n arity (n * n) (λ row. table_value bytes names cells (row / n) (row % n)) table (square n arity two) (λ row. value_below bytes names (cell_at cells (heading_place n (place_of bytes names (headings n cells) (row / n)) + 1 + place_of bytes names (header n cells) (row % n))) some) (sym is)

  bound_rows : (orderings : List Ordered) (arity at : ℕ) (lower : Bool) (word : Word) (table : List ℕ) → BoundGives bytes names orderings arity at lower word (Ok table) → HasRows (length names) arity table
  bound_rows orderings arity at lower word table h =
      let (ordered, told, bounds) = follows_ok (unless (not_binary arity at) (found word (ordering_named bytes orderings word))) (λ o. BoundsGive lower names at (Leads o.links)) table h in
      let binary = unless_ok (not_binary arity at) (found word (ordering_named bytes orderings word)) ordered told in
      let two : arity ≡ 2 = eqb-true arity 2 (none_then _ _ binary.0) in
      record {
        rows = bounds.0 ∙ square (length names) arity two;
        entries = λ i d lt. rw (get_or_default_zero table i d lt) (bound_below lower (length names) (Leads ordered.links) _ _ _ (bounds.1 i (rw bounds.0 at lt)));
      }

  body_rows : (orderings : List Ordered) (arity : ℕ) (body : OpBody) (table : List ℕ) → BodyGives bytes names orderings arity body (Ok table) → HasRows (length names) arity table
  body_rows orderings arity (Mapping rows close) table h = mapping_rows arity close rows table h
  body_rows orderings arity (Table at cells) table h = table_rows arity at cells table h
  body_rows orderings arity (Bound at lower ordering) table h = bound_rows orderings arity at lower ordering table h

  -- an operator has a value at each row
  operator_rows : (orderings : List Ordered) (before : List (Word × Word × OpBody)) (operator : Word × Word × OpBody) (told : lgc.Operator) → OperatorGives bytes names orderings before operator (Ok told) → HasRows (length names) told.arity told.table
  operator_rows orderings before operator told h =
      let n = length names in
      let (arity, head, behind) = follows_ok (head_given bytes n (map (λ o. text_of bytes o.0) before) operator.0 operator.1) _ told h in
      let (table, body, is) = then_ok (BodyGives bytes names orderings arity operator.2) _ told behind in
      let it : told ≡ record { name = text_of bytes operator.0; arity = arity; table = table } = cc in
      rw it (body_rows orderings arity operator.2 table body)

  pub operators_rows : (orderings : List Ordered) (statements : List Statement) (operators : List lgc.Operator) → OperatorsGive bytes names orderings statements (Ok operators) → All (λ o. HasRows (length names) o.arity o.table) operators
  operators_rows orderings statements operators h = parts_are (OperatorGives bytes names orderings) (λ o. HasRows (length names) o.arity o.table) (operator_rows orderings) (filter_map operator_in statements) operators h

  -- an operator with a plain name is one of a logic
  pub operator_is : (orderings : List Ordered) (before : List (Word × Word × OpBody)) (operator : Word × Word × OpBody) (told : lgc.Operator) → IsPlainName (text_of bytes operator.0) → OperatorGives bytes names orderings before operator (Ok told) → IsOperator (length names) told
  operator_is orderings before operator told plain h =
      let n = length names in
      let earlier = map (λ o. text_of bytes o.0) before in
      let (arity, head, behind) = follows_ok (head_given bytes n earlier operator.0 operator.1) _ told h in
      let (table, body, is) = then_ok (BodyGives bytes names orderings arity operator.2) _ told behind in
      let named = unless_ok (name_fault bytes earlier operator.0) (arity_given bytes n operator.1) arity head in
      let number = number_of (text_of bytes operator.1) in
      let wide = unless_ok (too_wide n number operator.1) (Ok number) arity named.1 in
      let same : number ≡ arity = cc in
      let fits = and_parts (nat_le number MOST_ARGUMENTS) (nat_le (n ^ number) MOST_ROWS) (none_then _ _ wide.0) in
      let shape = body_rows orderings arity operator.2 table body in
      let it : told ≡ record { name = text_of bytes operator.0; arity = arity; table = table } = cc in
      rw it (record {
        named = plain;
        narrow = rw same at (leb-true number MOST_ARGUMENTS fits.0);
        short = rw same at (leb-true (n ^ number) MOST_ROWS fits.1);
        rows = shape.rows;
        entries = shape.entries;
      })

  pub operator_named : (orderings : List Ordered) (before : List (Word × Word × OpBody)) (operator : Word × Word × OpBody) (told : lgc.Operator) → OperatorGives bytes names orderings before operator (Ok told) → (told.name ≡ text_of bytes operator.0) × (name_fault bytes (map (λ o. text_of bytes o.0) before) operator.0 ≡ None)
  operator_named orderings before operator told h =
      let n = length names in
      let earlier = map (λ o. text_of bytes o.0) before in
      let (arity, head, behind) = follows_ok (head_given bytes n earlier operator.0 operator.1) _ told h in
      let (table, body, is) = then_ok (BodyGives bytes names orderings arity operator.2) _ told behind in
      let named = unless_ok (name_fault bytes earlier operator.0) (arity_given bytes n operator.1) arity head in
      let it : told ≡ record { name = text_of bytes operator.0; arity = arity; table = table } = cc in
      (ap (λ o. o.name) it, named.0)
