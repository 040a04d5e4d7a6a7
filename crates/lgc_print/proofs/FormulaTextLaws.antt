-- The text of each kind of term and of formula.
use Rattle.std.proofs.Common.{ℕ, ◌≡◌, ◌+◌, ◌-◌, ◌≢◌, length, arith, List, [], ◌∷◌, ◌++◌, map, refl, ◌∙◌, ap, sym, drop, append-nil, append_assoc}
use Rattle.std.specs.Prelude.{codes}
use Rattle.std.specs.List.{flat_map}
use Rattle.std.proofs.lemmas.Simd.{map-map}
use Rattle.std.proofs.Math.Seq.{drop-length}
use Rattle.lgc_values.specs.Logic.{Logic, operator_at, quantifier_at}
use Rattle.lgc_syntax.specs.declared.formula.Term.{Term, Bound, Free, Apply}
use Rattle.lgc_syntax.specs.declared.formula.Formula.{Formula, Atom, Op, Quant}
use Rattle.lgc_syntax.proofs.Folds.{fold-Bound, fold-Free, fold-Apply, fold-Atom, fold-Op, fold-Quant}
use Rattle.lgc_print.specs.Text.{symbol_text}
use Rattle.lgc_print.specs.FormulaText.{in_brackets, binder, term_text, term_text_layer, text_within, formula_text_layer}

pub text-Bound : (i around : ℕ) → term_text (Bound i) around ≡ binder (around - i)
unfolding term_text
text-Bound i around = ap (λ g. g around) (fold-Bound (ℕ → List ℕ) term_text_layer i)

pub text-Free : (x : List ℕ) (around : ℕ) → term_text (Free x) around ≡ x
unfolding term_text
text-Free x around = ap (λ g. g around) (fold-Free (ℕ → List ℕ) term_text_layer x)

pub text-Apply : (f : List ℕ) (args : List Term) (around : ℕ) → term_text (Apply f args) around ≡ f ++ in_brackets (map (λ a. term_text a around) args)
unfolding term_text
text-Apply f args around = ap (λ g. g around) (fold-Apply (ℕ → List ℕ) term_text_layer f args) ∙ ap (λ texts. f ++ in_brackets texts) (map-map (λ a. a around) term_text args)

pub text-Atom : (logic : Logic) (p : List ℕ) (args : List Term) (around : ℕ) → text_within logic (Atom p args) around ≡ p ++ in_brackets (map (λ a. term_text a around) args)
unfolding text_within
text-Atom logic p args around = ap (λ g. g around) (fold-Atom (ℕ → List ℕ) (formula_text_layer logic) p args)

pub text-Op : (logic : Logic) (op : ℕ) (args : List Formula) (around : ℕ) → text_within logic (Op op args) around ≡ symbol_text (operator_at logic op).name ++ in_brackets (map (λ a. text_within logic a around) args)
unfolding text_within
text-Op logic op args around = ap (λ g. g around) (fold-Op (ℕ → List ℕ) (formula_text_layer logic) op args) ∙ ap (λ texts. symbol_text (operator_at logic op).name ++ in_brackets texts) (map-map (λ a. a around) (text_within logic) args)

pub text-Quant : (logic : Logic) (q : ℕ) (body : Formula) (around : ℕ) → text_within logic (Quant q body) around ≡ symbol_text (quantifier_at logic q).name ++ codes "(" ++ binder (around + 1) ++ codes "," ++ text_within logic body (around + 1) ++ codes ")"
unfolding text_within
text-Quant logic q body around = ap (λ g. g around) (fold-Quant (ℕ → List ℕ) (formula_text_layer logic) q body)

pub ruleset text_rules = (text-Bound, text-Free, text-Apply, text-Atom, text-Op, text-Quant)

-- ---- arguments as they are put: a sign before each, the bracket before the first and commas before the others, and the bracket at the end

-- texts, the first behind this sign and the others behind commas
abbrev pub signed : ℕ → List (List ℕ) → List ℕ
signed sign [] = []
signed sign (x ∷ xs) = sign ∷ (x ++ signed 44 xs)

commas : (xs : List (List ℕ)) → flat_map (λ p. codes "," ++ p) xs ≡ signed 44 xs
commas [] = refl
commas (x ∷ xs) = ap (λ t. 44 ∷ (x ++ t)) (commas xs)

brackets_some : {A : Type 0} (text : A → List ℕ) (xs : List A) → length xs ≢ 0 → in_brackets (map text xs) ≡ signed 40 (map text xs) ++ 41 ∷ []
brackets_some text [] some = absurd (some refl)
brackets_some text (x ∷ xs) some = ap (λ t. 40 ∷ ((text x ++ t) ++ 41 ∷ [])) (commas (map text xs))

pub brackets_none : {A : Type 0} (text : A → List ℕ) (xs : List A) → length xs ≡ 0 → in_brackets (map text xs) ≡ signed 40 (map text xs)
brackets_none text [] none = refl
brackets_none text (x ∷ xs) none = absurd (omega arith)

-- the bracket behind all arguments, when i of them have been put
pub brackets_closed : {A : Type 0} (text : A → List ℕ) (xs : List A) (i sign : ℕ) (before put : List ℕ) → length xs ≢ 0 → i ≡ length xs → put ++ signed sign (map text (drop i xs)) ≡ before ++ signed 40 (map text xs) → put ++ 41 ∷ [] ≡ before ++ in_brackets (map text xs)
brackets_closed text xs i sign before put some all so_far =
    let over : drop i xs ≡ [] = ap (λ k. drop k xs) all ∙ drop-length xs in
    let is : put ≡ before ++ signed 40 (map text xs) = sym (append-nil put) ∙ ap (λ rest. put ++ signed sign (map text rest)) (sym over) ∙ so_far in
    ap (λ t. t ++ 41 ∷ []) is ∙ append_assoc before (signed 40 (map text xs)) (41 ∷ []) ∙ ap (λ t. before ++ t) (sym (brackets_some text xs some))
