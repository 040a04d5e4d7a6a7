-- Books of rules: how their rules are found, and how many there are.
use Rattle.std.proofs.Common.{◌≡◌, ◌≢◌, ℕ, ◌+◌, ◌-◌, ◌*◌, ◌/◌, ◌%◌, ◌^◌, ◌<◌, ◌≤◌, ◌==◌, ◌&&◌, Bool, true, List, [], ◌∷◌, ◌++◌, length, get_or, slice_get, is_some, Option, None, Some, ap, sym, subst, ◌∙◌, arith, ⊎_elim, true≢false}
use Rattle.std.specs.Prelude.{All, AllPairs, map, position}
use Rattle.std.specs.List.{AllByRecursion, list_any}
use Rattle.std.specs.Int.{bit_at}
use Rattle.std.proofs.lemmas.Bool.{cases_eq, cases_lt, or_cases, and_parts, eqb-true}
use Rattle.std.proofs.lemmas.Bool.Decides.{nat_tests, Decides-eqb}
use Rattle.std.proofs.lemmas.List.{get_or-map, length-map, length_push}
use Rattle.std.proofs.lemmas.List.Elements.{All-nil, All-push, All-get_or, All-map, recursion_from_All}
use Rattle.std.proofs.lemmas.List.Folds.{list_any_at}
use Rattle.std.proofs.lemmas.List.Quantifiers.{all_pairs_push, position-Some}
use Rattle.std.proofs.lemmas.Map.Made.{IsDistinct-from_AllPairs}
use Rattle.std.proofs.lemmas.Map.Steps.{length-le_from_distinct_below}
use Rattle.std.proofs.lemmas.Nat.{mul-add-lt, div-mul-add, mod-mul-add}
use Rattle.std.proofs.lemmas.Option.{get_or_from_slice_get, slice_get-get_or, slice_get_within}
use Rattle.std.proofs.Math.Nat.{pow-le-pow_right}
use Rattle.std.proofs.Math.Seq.{get_or-append_seam}
use Rattle.lgc_values.specs.declared.TheConstants.{MOST_SYMBOLS, MOST_VALUES}
use Rattle.lgc_values.specs.Values.{IsSize, mask_of, members_of}
use Rattle.lgc_values.specs.Logic.{Logic, IsLogic}
use Rattle.lgc_clauses.specs.Rules.{Head, operator, OperatorRule, of_operator}
use Rattle.lgc_sequents.specs.Sequents.{IsSet, IsSign}
use Rattle.lgc_sequents.proofs.Laws.{IsSet-values_where}
use Rattle.lgc_calculus.specs.Calculus.{head_of, IsRightRule}
use Rattle.lgc_calculus.specs.RuleBook.{IsRightBook, IsNumberFor}
use Rattle.lgc_calculus.specs.RuleKeys.{key_of, IsMasked, AreKeys}
use Rattle.lgc_calculus.specs.declared.book.RuleKey.{RuleKey}

abbrev no_rule : OperatorRule
no_rule = record { op = 0; sign = []; clauses = [] }

-- ---- sets and masks

-- sets are equal where their masks are
same_sets : (n : ℕ) (a b : List ℕ) → IsMasked n a → IsMasked n b → mask_of a ≡ mask_of b → a ≡ b
same_sets n a b masked masked' e = sym masked.members ∙ ap (members_of n) e ∙ masked'.members

same_heads : (a b : OperatorRule) → a.op ≡ b.op → a.sign ≡ b.sign → head_of (of_operator a) ≡ head_of (of_operator b)
same_heads a b at sign = ap (λ o. (operator o, a.sign)) at ∙ ap (λ s. (operator b.op, s)) sign

-- ---- numbers

-- there is at most one number for an operator and a sign
at_most_one : (rules : List OperatorRule) (i j : ℕ) (a b : OperatorRule) → AllPairs (λ a b. head_of (of_operator a) ≢ head_of (of_operator b)) rules
    → slice_get rules i ≡ Some a → slice_get rules j ≡ Some b → head_of (of_operator a) ≡ head_of (of_operator b) → i < j → ⊥
at_most_one rules i j a b distinct at at' same lt =
    distinct i j no_rule lt (slice_get_within rules j b at')
    (ap (λ r. head_of (of_operator r)) (get_or_from_slice_get rules i a no_rule at) ∙ same ∙ sym (ap (λ r. head_of (of_operator r)) (get_or_from_slice_get rules j b no_rule at')))

pub same_number : (rules : List OperatorRule) (op : ℕ) (sign : List ℕ) (i j : ℕ) → AllPairs (λ a b. head_of (of_operator a) ≢ head_of (of_operator b)) rules → IsNumberFor rules op sign i → IsNumberFor rules op sign j → i ≡ j
same_number rules op sign i j distinct is is' =
    let same : head_of (of_operator is.rule) ≡ head_of (of_operator is'.rule) = same_heads is.rule is'.rule (is.operator ∙ sym is'.operator) (is.signed ∙ sym is'.signed) in
    let low : 1 ≤ i = is.counted in
    let low' : 1 ≤ j = is'.counted in
    ⊎_elim
    (λ (e : i - 1 ≡ j - 1). omega arith)
    (λ (ne : i - 1 ≢ j - 1). ⊎_elim
    (λ (lt : i - 1 < j - 1). absurd (at_most_one rules (i - 1) (j - 1) is.rule is'.rule distinct is.place is'.place same lt))
    (λ (le : j - 1 ≤ i - 1). absurd (at_most_one rules (j - 1) (i - 1) is'.rule is.rule distinct is'.place is.place (sym same) (omega arith)))
    (cases_lt (i - 1) (j - 1)))
    (cases_eq (i - 1) (j - 1))

-- ---- keys

pub IsMasked-members_of : (n mask : ℕ) (set : List ℕ) → mask ≡ mask_of set → set ≡ members_of n mask → mask < 2 ^ n → IsMasked n set
IsMasked-members_of n mask set is members below = record {
  below = subst (λ (m : ℕ). m < 2 ^ n) is below;
  members = ap (members_of n) (sym is) ∙ sym members;
}

pub IsSign-members_of : (n mask : ℕ) (set : List ℕ) → set ≡ members_of n mask → set ≢ [] → IsSign n set
IsSign-members_of n mask set members some = record {
  set = subst (IsSet n) (sym members) (IsSet-values_where n (λ v. bit_at mask v == 1));
  nonempty = some;
}

-- whether keys are equal
abbrev same_key : RuleKey → RuleKey → Bool
same_key a b = (a.op == b.op) && (a.mask == b.mask)

same_key-equal : (a b : RuleKey) → same_key a b ≡ true → a ≡ b
same_key-equal a b same =
    let parts = and_parts (a.op == b.op) (a.mask == b.mask) same in
    ap (λ o. record { op = o; mask = a.mask }) (eqb-true a.op b.op parts.0) ∙ ap (λ m. record { op = b.op; mask = m }) (eqb-true a.mask b.mask parts.1)

same_key-itself : (a : RuleKey) → same_key a a ≡ true
same_key-itself a = grind (arith, nat_tests)

pub length-keys : (n : ℕ) (rules : List OperatorRule) (keys : List RuleKey) → AreKeys n rules keys → length keys ≡ length rules
length-keys n rules keys are = ap length are.listed ∙ length-map rules key_of

-- where a key is found, a rule has its operator and sign
pub number_found : (n : ℕ) (rules now : List OperatorRule) (keys : List RuleKey) (op mask : ℕ) (sign : List ℕ) (i : ℕ) → AreKeys n rules keys → rules ≡ now → IsMasked n sign → mask ≡ mask_of sign
    → Some i ≡ position (same_key (record { op = op; mask = mask })) keys → IsNumberFor now op sign (i + 1)
number_found n rules now keys op mask sign i are this masked of_sign found =
    let key : RuleKey = record { op = op; mask = mask } in
    let at = position-Some (same_key key) keys i key (sym found) in
    let count : length keys ≡ length rules = length-keys n rules keys are in
    let within : i < length rules = omega (arith, at.0) in
    let rule : OperatorRule = get_or rules i no_rule in
    let is : key ≡ key_of rule = same_key-equal key (get_or keys i key) at.1 ∙ ap (λ ks. get_or ks i key) are.listed ∙ get_or-map key_of rules i no_rule key within in
    let place : i + 1 - 1 ≡ i = omega arith in
    subst (λ rs. IsNumberFor rs op sign (i + 1)) this
    (record {
      rule = rule;
      counted = omega arith;
      place = ap (slice_get rules) place ∙ slice_get-get_or rules i no_rule within;
      operator = sym (ap (λ (k : RuleKey). k.op) is);
      signed = same_sets n rule.sign sign (All-get_or (λ r. IsMasked n r.sign) rules i no_rule within are.signs) masked (sym (ap (λ (k : RuleKey). k.mask) is) ∙ of_sign);
    })

-- where a key isn't found, no rule has its operator and sign
pub none_found : (n : ℕ) (rules : List OperatorRule) (keys : List RuleKey) (op mask : ℕ) (sign : List ℕ) (found : Option ℕ) → AreKeys n rules keys → mask ≡ mask_of sign
    → is_some found ≡ list_any (same_key (record { op = op; mask = mask })) keys → found ≡ None
    → (k : ℕ) (d : OperatorRule) → k < length rules → head_of (of_operator (get_or rules k d)) ≢ (operator op, sign)
none_found n rules keys op mask sign found are of_sign is_found none k d lt e =
    let key : RuleKey = record { op = op; mask = mask } in
    let rule : OperatorRule = get_or rules k d in
    let head : operator rule.op ≡ operator op = ap (λ (h : Head × List ℕ). h.0) e in
    let at : rule.op ≡ op = cc in
    let masks : mask_of rule.sign ≡ mask = ap (λ (h : Head × List ℕ). mask_of h.1) e ∙ sym of_sign in
    let is : key_of rule ≡ key = ap (λ o. record { op = o; mask = mask_of rule.sign }) at ∙ ap (λ m. record { op = op; mask = m }) masks in
    let count : length keys ≡ length rules = length-keys n rules keys are in
    let there : get_or keys k key ≡ key = ap (λ ks. get_or ks k key) are.listed ∙ get_or-map key_of rules k d key lt ∙ is in
    true≢false (sym (list_any_at (same_key key) keys k key (omega arith) (ap (same_key key) there ∙ same_key-itself key)) ∙ sym is_found ∙ ap is_some none)

pub no_number : (n : ℕ) (rules now : List OperatorRule) (keys : List RuleKey) (op mask : ℕ) (sign : List ℕ) (found : Option ℕ) → AreKeys n rules keys → rules ≡ now → mask ≡ mask_of sign
    → is_some found ≡ list_any (same_key (record { op = op; mask = mask })) keys → found ≡ None → (number : ℕ) → IsNumberFor now op sign number → ⊥
no_number n rules now keys op mask sign found are this of_sign is_found none number is =
    let place : slice_get rules (number - 1) ≡ Some is.rule = ap (λ rs. slice_get rs (number - 1)) this ∙ is.place in
    none_found n rules keys op mask sign found are of_sign is_found none (number - 1) no_rule (slice_get_within rules (number - 1) is.rule place)
    (ap (λ r. head_of (of_operator r)) (get_or_from_slice_get rules (number - 1) is.rule no_rule place) ∙ ap (λ o. (operator o, is.rule.sign)) is.operator ∙ ap (λ s. (operator op, s)) is.signed)

-- the number of a rule that is appended
pub number_pushed : (rules pushed : List OperatorRule) (rule : OperatorRule) (op : ℕ) (sign : List ℕ) (count : ℕ) → pushed ≡ rules ++ rule ∷ [] → count ≡ length rules → rule.op ≡ op → rule.sign ≡ sign → IsNumberFor pushed op sign (count + 1)
number_pushed rules pushed rule op sign count added long at signed =
    let place : count + 1 - 1 ≡ length rules = omega arith in
    let more : length (rules ++ rule ∷ []) ≡ length rules + 1 = length_push rules rule in
    record {
      rule = rule;
      counted = omega arith;
      place = ap (λ rs. slice_get rs (count + 1 - 1)) added ∙ ap (slice_get (rules ++ rule ∷ [])) place ∙ slice_get-get_or (rules ++ rule ∷ []) (length rules) rule (omega arith) ∙ ap Some (get_or-append_seam rules rule [] rule);
      operator = at;
      signed = signed;
    }

-- ---- right books

pub IsRightBook-none : (logic : Logic) → IsRightBook logic []
IsRightBook-none logic = record {
  right = All-nil (λ rule. IsRightRule logic (of_operator rule));
  signs = All-nil (λ rule. IsSign logic.size rule.sign);
  distinct = λ i j d lt within. absurd (omega arith);
}

pub IsRightBook-push : (logic : Logic) (rules : List OperatorRule) (rule : OperatorRule) → IsRightBook logic rules → IsRightRule logic (of_operator rule) → IsSign logic.size rule.sign
    → ((k : ℕ) (d : OperatorRule) → k < length rules → head_of (of_operator (get_or rules k d)) ≢ head_of (of_operator rule)) → IsRightBook logic (rules ++ rule ∷ [])
IsRightBook-push logic rules rule book right sign new = record {
  right = All-push (λ r. IsRightRule logic (of_operator r)) rules rule book.right right;
  signs = All-push (λ r. IsSign logic.size r.sign) rules rule book.signs sign;
  distinct = all_pairs_push (λ a b. head_of (of_operator a) ≢ head_of (of_operator b)) rules rule book.distinct new;
}

-- ---- how many rules

-- an operator and a sign as one number
abbrev code : ℕ → OperatorRule → ℕ
code n rule = rule.op * 2 ^ n + mask_of rule.sign

same_digits : (w a m b k : ℕ) → m < w → k < w → a * w + m ≡ b * w + k → (a ≡ b) × (m ≡ k)
same_digits w a m b k lt lt' e = (
  sym (div-mul-add a w m lt) ∙ ap (λ x. x / w) e ∙ div-mul-add b w k lt',
  sym (mod-mul-add a w m lt) ∙ ap (λ x. x % w) e ∙ mod-mul-add b w k lt',
)

any_below : (bound : ℕ) (xs : List ℕ) → AllByRecursion (λ x. x < bound) xs → (q : ℕ) → list_any (λ x. q == x) xs ≡ true → q < bound
any_below bound [] below q any = absurd (true≢false (sym any))
any_below bound (x ∷ xs) below q any = ⊎_elim
    (λ here. subst (λ (v : ℕ). v < bound) (sym (eqb-true q x here)) below.0)
    (λ there. any_below bound xs below.1 q there)
    (or_cases (q == x) (list_any (λ y. q == y) xs) any)

-- a right book has at most one rule for each operator and each sign
few_rules : (logic : Logic) (n : ℕ) (rules : List OperatorRule) → IsLogic logic → IsRightBook logic rules → All (λ rule. IsMasked n rule.sign) rules → length rules ≤ MOST_SYMBOLS * 2 ^ n
few_rules logic n rules is book masked =
    let codes : List ℕ = map (code n) rules in
    let count : length codes ≡ length rules = length-map rules (code n) in
    let below : All (λ c. c < MOST_SYMBOLS * 2 ^ n) codes = All-map (λ c. c < MOST_SYMBOLS * 2 ^ n) (code n) rules (λ i d lt.
    let known : (get_or rules i d).op < length logic.operators = (book.right i d lt).fits.known in
    let few = is.few in
    let inside : (get_or rules i d).op * 2 ^ n + mask_of (get_or rules i d).sign < 2 ^ n * MOST_SYMBOLS = mul-add-lt (get_or rules i d).op (2 ^ n) (mask_of (get_or rules i d).sign) MOST_SYMBOLS (omega arith) (masked i d lt).below in
    omega arith) in
    let pairs : AllPairs (λ x y. x ≢ y) codes = λ i j d lt within e.
    let inner : j < length rules = omega arith in
    let outer : i < length rules = omega arith in
    let a : OperatorRule = get_or rules i no_rule in
    let b : OperatorRule = get_or rules j no_rule in
    let same : code n a ≡ code n b = sym (get_or-map (code n) rules i no_rule d outer) ∙ e ∙ get_or-map (code n) rules j no_rule d inner in
    let parts = same_digits (2 ^ n) a.op (mask_of a.sign) b.op (mask_of b.sign) (masked i no_rule outer).below (masked j no_rule inner).below same in
    book.distinct i j no_rule lt inner (same_heads a b parts.0 (same_sets n a.sign b.sign (masked i no_rule outer) (masked j no_rule inner) parts.1)) in
    let all : length codes ≤ MOST_SYMBOLS * 2 ^ n = length-le_from_distinct_below codes (MOST_SYMBOLS * 2 ^ n) (IsDistinct-from_AllPairs Decides-eqb codes pairs) (any_below (MOST_SYMBOLS * 2 ^ n) codes (recursion_from_All (λ c. c < MOST_SYMBOLS * 2 ^ n) codes below)) in
    omega arith

pub few_now : (logic : Logic) (n : ℕ) (rules now : List OperatorRule) (keys : List RuleKey) → IsLogic logic → IsRightBook logic now → AreKeys n rules keys → rules ≡ now → length now ≤ MOST_SYMBOLS * 2 ^ n
few_now logic n rules now keys is book are this = few_rules logic n now is book (subst (All (λ rule. IsMasked n rule.sign)) this are.signs)

-- their numbers, and the next one, have 32 bits
pub number_fits : (logic : Logic) (n : ℕ) (rules now : List OperatorRule) (keys : List RuleKey) (place : ℕ) → IsLogic logic → IsRightBook logic now → AreKeys n rules keys → rules ≡ now → IsSize n → place ≤ length rules → place + 1 < 2 ^ 32
number_fits logic n rules now keys place is book are this size within =
    let high : n ≤ MOST_VALUES = size.high in
    let most : 2 ^ n ≤ 2 ^ MOST_VALUES = pow-le-pow_right {n = 2} (omega arith) {i = n} {j = MOST_VALUES} high in
    let same : length rules ≡ length now = ap length this in
    omega (arith, few_now logic n rules now keys is book are this)
