-- Steps of the loop over the orderings of a file.
use Rattle.std.proofs.Common.{◌≡◌, ℕ, zero, suc, ◌+◌, ◌<◌, true, false, List, [], ◌∷◌, ◌++◌, length, map, take, drop, get_or, Option, Some, None, Result, Ok, Err, refl, sym, ap, ◌∙◌, below_more, All, arith}
use Rattle.std.specs.List.{filter_map, AllZip}
use Rattle.std.proofs.lemmas.List.{append-nil, take_more, take-append-drop, take-append-le, take_at, get_or_append_left, get_or_push, length_push, length-append}
use Rattle.std.proofs.lemmas.Option.{same_Some}
use Rattle.std.proofs.lemmas.List.Elements.{filter_map-append, All-append}
use Rattle.lgc_parser.specs.declared.tree.Word.{Word}
use Rattle.lgc_parser.specs.declared.tree.Statement.{Statement}
use Rattle.lgc_parser.specs.declared.tree.Statement.TheVariants.{Logic, Values, Designated, Ordering, Operator, Quantifier}
use Rattle.lgc_parser.specs.TreeWords.{StatementHas}
use Rattle.lgc_spec.specs.declared.fault.SpecFault.{SpecFault}
use Rattle.lgc_spec.specs.declared.fault.TheConstants.{DUPLICATE_NAME}
use Rattle.lgc_spec.specs.declared.orderings.NamedOrder.{NamedOrder}
use Rattle.lgc_spec.specs.Faults.{fault_at}
use Rattle.lgc_spec.specs.InOrder.{AllGive, InTurn}
use Rattle.lgc_spec.specs.Words.{text_of, is_among}
use Rattle.lgc_spec.specs.Orderings.{Ordered, ordering_in, OrderingGives}
use Rattle.lgc_spec.specs.OrderTexts.{TextGives}

-- ---- the items of which something is made

pub filter_map_next : {X Y : Type 0} (h : X → Option Y) (xs : List X) (i : ℕ) (x : X) (y : Y) → i < length xs → x ≡ get_or xs i x → h x ≡ Some y → filter_map h (take (i + 1) xs) ≡ filter_map h (take i xs) ++ y ∷ []
filter_map_next h xs i x y lt e some =
    let next : take (i + 1) xs ≡ take i xs ++ x ∷ [] = take_more xs i x lt ∙ ap (λ z. take i xs ++ z ∷ []) (sym e) in
    ap (filter_map h) next ∙ filter_map-append h (take i xs) (x ∷ []) ∙ rw some refl

pub filter_map_passes : {X Y : Type 0} (h : X → Option Y) (xs : List X) (i : ℕ) (x : X) → i < length xs → x ≡ get_or xs i x → h x ≡ None → filter_map h (take (i + 1) xs) ≡ filter_map h (take i xs)
filter_map_passes h xs i x lt e none =
    let next : take (i + 1) xs ≡ take i xs ++ x ∷ [] = take_more xs i x lt ∙ ap (λ z. take i xs ++ z ∷ []) (sym e) in
    ap (filter_map h) next ∙ filter_map-append h (take i xs) (x ∷ []) ∙ rw none (append-nil (filter_map h (take i xs)))

filter_map_whole : {X Y : Type 0} (h : X → Option Y) (xs : List X) (i : ℕ) → filter_map h xs ≡ filter_map h (take i xs) ++ filter_map h (drop i xs)
filter_map_whole h xs i = ap (filter_map h) (sym (take-append-drop i xs)) ∙ filter_map-append h (take i xs) (drop i xs)

-- ---- items that give parts

pub all_give_push : {X Y F : Type 0} (says : List X → X → Result Y F → Type 0) (xs : List X) (ys : List Y) (x : X) (y : Y) → AllGive says xs ys → says xs x (Ok y) → AllGive says (xs ++ x ∷ []) (ys ++ y ∷ [])
all_give_push {X} {Y} says xs ys x y h now =
    (length_push ys y ∙ ap (λ n. n + 1) h.0 ∙ sym (length_push xs x), λ i d e lt. below_more (λ j. (a : X) (b : Y) → says (take j (xs ++ x ∷ [])) (get_or (xs ++ x ∷ []) j a) (Ok (get_or (ys ++ y ∷ []) j b))) (length xs) before last i (let n = length_push xs x in omega arith) d e) where
      before : (j : ℕ) → j < length xs → (a : X) (b : Y) → says (take j (xs ++ x ∷ [])) (get_or (xs ++ x ∷ []) j a) (Ok (get_or (ys ++ y ∷ []) j b))
      before j lt a b =
          let front : take j (xs ++ x ∷ []) ≡ take j xs = take-append-le j xs (x ∷ []) (omega arith) in
          let item : get_or (xs ++ x ∷ []) j a ≡ get_or xs j a = get_or_append_left xs (x ∷ []) a j lt in
          let part : get_or (ys ++ y ∷ []) j b ≡ get_or ys j b = get_or_append_left ys (y ∷ []) b j (omega (arith, h.0)) in
          rw (front, item, part) (h.1 j a b lt)

      last : (a : X) (b : Y) → says (take (length xs) (xs ++ x ∷ [])) (get_or (xs ++ x ∷ []) (length xs) a) (Ok (get_or (ys ++ y ∷ []) (length xs) b))
      last a b =
          let front : take (length xs) (xs ++ x ∷ []) ≡ xs = take_at xs (x ∷ []) (length xs) refl in
          let item : get_or (xs ++ x ∷ []) (length xs) a ≡ x = get_or_push xs x a (length xs) refl in
          let part : get_or (ys ++ y ∷ []) (length xs) b ≡ y = get_or_push ys y b (length xs) h.0 in
          rw (front, item, part) now

turn_fails : {X Y F : Type 0} (says : List X → X → Result Y F → Type 0) (full xs rest : List X) (ys : List Y) (x : X) (f : F) → full ≡ (xs ++ x ∷ []) ++ rest → AllGive says xs ys → says xs x (Err f) → InTurn says full (Err f)
turn_fails says full xs rest ys x f e h now =
    let size = length_push xs x in
    let front : take (length xs) ((xs ++ x ∷ []) ++ rest) ≡ xs = take-append-le (length xs) (xs ++ x ∷ []) rest (omega arith) ∙ take_at xs (x ∷ []) (length xs) refl in
    let item : get_or ((xs ++ x ∷ []) ++ rest) (length xs) x ≡ x = get_or_append_left (xs ++ x ∷ []) rest x (length xs) (omega arith) ∙ get_or_push xs x x (length xs) refl in
    let whole : length full ≡ length (xs ++ x ∷ []) + length rest = ap length e ∙ length-append (xs ++ x ∷ []) rest in
    (length xs, x, omega arith, rw (e, front, item) now, ys, rw (e, front) h)

-- the ordering of one statement has a fault, and those before it give their orders
pub statement_fails : {X Y Z F : Type 0} (says : List Y → Y → Result Z F → Type 0) (h : X → Option Y) (xs : List X) (i : ℕ) (x : X) (y : Y) (zs : List Z) (f : F) → i < length xs → x ≡ get_or xs i x → h x ≡ Some y → AllGive says (filter_map h (take i xs)) zs → says (filter_map h (take i xs)) y (Err f) → InTurn says (filter_map h xs) (Err f)
statement_fails says h xs i x y zs f lt e some before now =
    turn_fails says (filter_map h xs) (filter_map h (take i xs)) (filter_map h (drop (i + 1) xs)) zs y f (filter_map_whole h xs (i + 1) ∙ ap (λ l. l ++ filter_map h (drop (i + 1) xs)) (filter_map_next h xs i x y lt e some)) before now

pub all_zip_push : {X Y : Type 0} (R : X → Y → Type 0) (xs : List X) (ys : List Y) (x : X) (y : Y) → AllZip R xs ys → R x y → AllZip R (xs ++ x ∷ []) (ys ++ y ∷ [])
all_zip_push R [] [] x y all now = (now, tt)
all_zip_push R [] (b ∷ ys) x y all now = absurd all
all_zip_push R (a ∷ xs) [] x y all now = absurd all
all_zip_push R (a ∷ xs) (b ∷ ys) x y all now = (all.0, all_zip_push R xs ys x y all.1 now)

-- ---- a name that comes again

pub duplicate_gives : (bytes : List ℕ) (values : List (List ℕ)) (xs : List (Word × Word)) (name word : Word) → is_among (map (λ o. text_of bytes o.0) xs) (text_of bytes name) ≡ true → OrderingGives bytes values xs (name, word) (Err (fault_at DUPLICATE_NAME name.at))
duplicate_gives bytes values xs name word again = rw again refl

pub new_gives : (bytes : List ℕ) (values : List (List ℕ)) (xs : List (Word × Word)) (name word : Word) (told : Result Ordered SpecFault) → is_among (map (λ o. text_of bytes o.0) xs) (text_of bytes name) ≡ false → TextGives bytes values name word told → OrderingGives bytes values xs (name, word) told
new_gives bytes values xs name word told new gives = rw new gives

-- ---- one ordering more

name_lies : (P : Word → Type 0) (s : Statement) (name text : Word) → StatementHas P s → Some (name, text) ≡ ordering_in s → P name
name_lies P (Ordering n t) name text has e =
    let same : (n, t) ≡ (name, text) = same_Some (n, t) (name, text) (sym e) in
    let first : n ≡ name = ap (λ p. p.0) same in
    rw (← first) has.0
name_lies P (Logic at n) name text has e = cc
name_lies P (Values at values) name text has e = cc
name_lies P (Designated at values) name text has e = cc
name_lies P (Operator n arity body) name text has e = cc
name_lies P (Quantifier n body) name text has e = cc

All-single : {X : Type 0} (P : X → Type 0) (x : X) → P x → All P (x ∷ [])
All-single P x h zero d lt = h
All-single P x h (suc k) d lt = absurd (omega arith)

pub words_push : (P : Word → Type 0) (orders : List NamedOrder) (order : NamedOrder) (statements : List Statement) (i : ℕ) (s : Statement) (name text : Word) → i < length statements → s ≡ get_or statements i s → All (StatementHas P) statements → Some (name, text) ≡ ordering_in s → All (λ o. P o.name) orders → order.name ≡ name → All (λ o. P o.name) (orders ++ order ∷ [])
words_push P orders order statements i s name text lt is has e words now =
    let here : StatementHas P s = rw is (has i s lt) in
    let lies : P order.name = rw now (name_lies P s name text here e) in
    All-append (λ o. P o.name) orders (order ∷ []) words (All-single (λ o. P o.name) order lies)
