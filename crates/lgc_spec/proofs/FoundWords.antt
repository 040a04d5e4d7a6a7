-- What holds of all words of a tree, or of those that it declares, holds of the words of a statement that is found.
use Rattle.std.proofs.Common.{◌≡◌, ℕ, List, [], ◌∷◌, All, IfSome, Option, Some, None, sym}
use Rattle.std.specs.Option.{option_or}
use Rattle.std.specs.List.{cons_option, filter_map}
use Rattle.std.proofs.lemmas.Option.{same_Some}
use Rattle.std.proofs.lemmas.List.Elements.{All-nil, All-cons, All-head, All-tail}
use Rattle.lgc_parser.specs.declared.tree.Word.{Word}
use Rattle.lgc_parser.specs.declared.tree.OpBody.{OpBody}
use Rattle.lgc_parser.specs.declared.tree.QuantBody.{QuantBody}
use Rattle.lgc_parser.specs.declared.tree.Statement.{Statement}
use Rattle.lgc_parser.specs.declared.tree.Statement.TheVariants.{Logic, Values, Designated, Ordering, Operator, Quantifier}
use Rattle.lgc_parser.specs.TreeWords.{StatementDeclares, StatementHas}
use Rattle.lgc_spec.specs.Statements.{first_some, name_in, values_in, designated_in}
use Rattle.lgc_spec.specs.Operators.{operator_in}
use Rattle.lgc_spec.specs.Quantifiers.{quantifier_in}

found_in : {X Y : Type 0} (P : X → Type 0) (Q : Y → Type 0) (part : X → Option Y) → ((x : X) (y : Y) → P x → part x ≡ Some y → Q y) → (xs : List X) (y : Y) → All P xs → first_some part xs ≡ Some y → Q y
found_in {X = X} {Y = Y} P Q part step [] y all e = cc
found_in {X = X} {Y = Y} P Q part step (x ∷ xs) y all e = split (part x) (first_some part xs) (λ z h. step x z (All-head P x xs all) h) (λ z h. found_in P Q part step xs z (All-tail P x xs all) h) e where
  split : (here rest : Option Y) → ((z : Y) → here ≡ Some z → Q z) → ((z : Y) → rest ≡ Some z → Q z) → option_or here rest ≡ Some y → Q y
  split None rest h r k = r y k
  split (Some z) rest h r k = h y k

values_have : (Q : Statement → Type 0) (P : Word → Type 0) → ((at : ℕ) (values : List Word) → Q (Values at values) → All P values) → (s : Statement) (y : ℕ × List Word) → Q s → values_in s ≡ Some y → All P y.1
values_have Q P of_values (Values at values) y has e = let same : y ≡ (at, values) = sym (same_Some (at, values) y e) in rw same (of_values at values has)
values_have Q P of_values (Logic _ _) y has e = cc
values_have Q P of_values (Designated _ _) y has e = cc
values_have Q P of_values (Ordering _ _) y has e = cc
values_have Q P of_values (Operator _ _ _) y has e = cc
values_have Q P of_values (Quantifier _ _) y has e = cc

designated_have : (P : Word → Type 0) (s : Statement) (y : List Word) → StatementHas P s → designated_in s ≡ Some y → All P y
designated_have P (Designated at values) ws has e = let same : values ≡ ws = cc in rw (← same) has
designated_have P (Logic _ _) y has e = cc
designated_have P (Values _ _) y has e = cc
designated_have P (Ordering _ _) y has e = cc
designated_have P (Operator _ _ _) y has e = cc
designated_have P (Quantifier _ _) y has e = cc

pub truth_words : (P : Word → Type 0) (statements : List Statement) (at : ℕ) (words : List Word) → All (StatementHas P) statements → Some (at, words) ≡ first_some values_in statements → All P words
truth_words P statements at words all e = found_in (StatementHas P) (λ y. All P y.1) values_in (values_have (StatementHas P) P (λ _ _ h. h)) statements (at, words) all (sym e)

pub designated_words : (P : Word → Type 0) (statements : List Statement) (words : List Word) → All (StatementHas P) statements → Some words ≡ first_some designated_in statements → All P words
designated_words P statements words all e = found_in (StatementHas P) (λ y. All P y) designated_in (λ s y has h. designated_have P s y has h) statements words all (sym e)

name_has : (P : Word → Type 0) (s : Statement) (y : Word) → StatementHas P s → name_in s ≡ Some y → P y
name_has P (Logic at name) y has e = let same : name ≡ y = cc in rw (← same) has
name_has P (Values _ _) y has e = cc
name_has P (Designated _ _) y has e = cc
name_has P (Ordering _ _) y has e = cc
name_has P (Operator _ _ _) y has e = cc
name_has P (Quantifier _ _) y has e = cc

pub logic_word : (P : Word → Type 0) (statements : List Statement) (word : Option Word) → All (StatementHas P) statements → word ≡ first_some name_in statements → IfSome word P
logic_word P statements None all e = tt
logic_word P statements (Some word) all e = found_in (StatementHas P) P name_in (λ s y has h. name_has P s y has h) statements word all (sym e)

-- ---- what is declared

pub declared_values : (V N : Word → Type 0) (statements : List Statement) (at : ℕ) (words : List Word) → All (StatementDeclares V N) statements → first_some values_in statements ≡ Some (at, words) → All V words
declared_values V N statements at words all e = found_in (StatementDeclares V N) (λ y. All V y.1) values_in (values_have (StatementDeclares V N) V (λ _ _ h. h)) statements (at, words) all e

-- the operator of one more statement
operator_more : (V N : Word → Type 0) (s : Statement) (others : List (Word × Word × OpBody)) → StatementDeclares V N s → All (λ o. N o.0) others → All (λ o. N o.0) (cons_option (operator_in s) others)
operator_more V N (Operator name arity body) others h all = All-cons (λ o. N o.0) (name, arity, body) others h all
operator_more V N s others h all = all

pub declared_operators : (V N : Word → Type 0) (statements : List Statement) → All (StatementDeclares V N) statements → All (λ o. N o.0) (filter_map operator_in statements)
declared_operators V N [] all = All-nil (λ o. N o.0)
declared_operators V N (s ∷ statements) all = operator_more V N s (filter_map operator_in statements) (All-head (StatementDeclares V N) s statements all) (declared_operators V N statements (All-tail (StatementDeclares V N) s statements all))

-- the quantifier of one more statement
quantifier_more : (V N : Word → Type 0) (s : Statement) (others : List (Word × QuantBody)) → StatementDeclares V N s → All (λ q. N q.0) others → All (λ q. N q.0) (cons_option (quantifier_in s) others)
quantifier_more V N (Quantifier name body) others h all = All-cons (λ q. N q.0) (name, body) others h all
quantifier_more V N s others h all = all

pub declared_quantifiers : (V N : Word → Type 0) (statements : List Statement) → All (StatementDeclares V N) statements → All (λ q. N q.0) (filter_map quantifier_in statements)
declared_quantifiers V N [] all = All-nil (λ q. N q.0)
declared_quantifiers V N (s ∷ statements) all = quantifier_more V N s (filter_map quantifier_in statements) (All-head (StatementDeclares V N) s statements all) (declared_quantifiers V N statements (All-tail (StatementDeclares V N) s statements all))
