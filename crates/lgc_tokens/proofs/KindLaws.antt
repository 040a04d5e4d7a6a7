-- What a token's kind tells of it.
use Rattle.std.proofs.Common.{◌≡◌, ℕ, Bool, true, false, cond, List, [], ◌∷◌, Option, Some, None, refl, sym, ap, ◌∙◌, arith}
use Rattle.std.specs.Prelude.{codes, IfSome, ◌==◌, ◌||◌, not, is_some}
use Rattle.std.specs.Str.{bytes_eq}
use Rattle.std.specs.List.{list_all}
use Rattle.std.specs.Char.{is_ascii_digit}
use Rattle.lgc_grammar.proofs.Classes.{entry, apart}
use Rattle.lgc_lexer.specs.declared.token.Kind.{Kind}
use Rattle.lgc_lexer.specs.declared.token.Kind.TheVariants as kind
use Rattle.lgc_tokens.specs.declared.class.Class.{Class}
use Rattle.lgc_tokens.specs.declared.class.Class.TheVariants.{LogicWord}
use Rattle.lgc_tokens.specs.declared.terminal.Terminal.{Terminal}
use Rattle.lgc_tokens.specs.declared.terminal.Terminal.TheVariants as terminal
use Rattle.lgc_tokens.specs.Numbers.{number_in, long_number_in}
use Rattle.lgc_tokens.specs.Spelled.{Spelled}
use Rattle.lgc_tokens.specs.Classes.{classes, place, same, is_lower, names, begins_term, class_in, class_of, class_of_word, class_of_numeral, class_of_symbol, class_of_punct, passes, kind_of, kind_place, same_kind, told_by_kind, IsOfEach}
use Rattle.lgc_tokens.proofs.Tables.{table}
use Rattle.lgc_tokens.proofs.LowerWords.{word_is_lower}

-- ---- kinds and classes that are the same

abbrev kinds : List Kind
kinds = kind.Lower ∷ kind.Upper ∷ kind.Digits ∷ kind.Quoted ∷ kind.Text ∷ kind.Symbol ∷ kind.Punct ∷ []

at_place : (k : Kind) → entry kinds (kind_place k) ≡ Some k
at_place kind.Lower = refl
at_place k = refl

at_class : (c : Class) → entry classes (place c) ≡ Some c
at_class LogicWord = refl
at_class c = refl

itself : (k : Kind) → same_kind k k ≡ true
itself kind.Lower = refl
itself k = refl

same_number : (i j : ℕ) → (i == j) ≡ true → i ≡ j
same_number i j h = grind arith

is_same : {A : Type 0} (a b : A) → Some a ≡ Some b → a ≡ b
is_same a b e = cc

kind_is : (k l : Kind) → same_kind k l ≡ true → k ≡ l
kind_is k l h = is_same k l (sym (at_place k) ∙ ap (entry kinds) (same_number (kind_place k) (kind_place l) h) ∙ at_place l)

class_is : (c d : Class) → same c d ≡ true → c ≡ d
class_is c d h = is_same c d (sym (at_class c) ∙ ap (entry classes) (same_number (place c) (place d) h) ∙ at_class d)

-- ---- the kind of a token is that of its class

choose : {k : Kind} (b : Bool) (c d : Class) → kind_of c ≡ k → kind_of d ≡ k → kind_of (cond b c d) ≡ k
choose true c d h g = h
choose false c d h g = g

is_true : (b : Bool) → not b ≡ false → b ≡ true
is_true true h = refl
is_true false h = absurd cc

of_word : (text : List ℕ) → kind_of (class_of_word text) ≡ kind.Lower
of_word text = kind_is _ _ (is_true _ (apart table (λ (c : Class). c) is_lower (λ c. not (same_kind (kind_of c) kind.Lower)) refl (class_of_word text) (word_is_lower text)))

of_numeral : (n : Option ℕ) (text : List ℕ) (caret : Bool) → kind_of (class_of_numeral n text caret) ≡ kind.Digits
of_numeral (Some n) text caret = choose (n == 0) _ _ (choose caret _ _ refl refl) refl
of_numeral None text caret = choose (is_some (long_number_in text)) _ _ refl (choose (list_all is_ascii_digit text) _ _ refl refl)

of_symbol : (text : List ℕ) → kind_of (class_of_symbol text) ≡ kind.Symbol
of_symbol text =
    choose (bytes_eq text (codes "<")) _ _ refl
    (choose (bytes_eq text (codes "^")) _ _ refl
    (choose (bytes_eq text (codes "|-")) _ _ refl
    (choose (bytes_eq text (codes "=")) _ _ refl
    (choose (bytes_eq text (codes "#")) _ _ refl refl))))

of_punct : (text : List ℕ) → kind_of (class_of_punct text) ≡ kind.Punct
unfolding class_of_punct
of_punct text =
    choose (bytes_eq text (codes "(")) _ _ refl
    (choose (bytes_eq text (codes ")")) _ _ refl
    (choose (bytes_eq text (codes "{")) _ _ refl
    (choose (bytes_eq text (codes "}")) _ _ refl
    (choose (bytes_eq text (codes "[")) _ _ refl
    (choose (bytes_eq text (codes "]")) _ _ refl
    (choose (bytes_eq text (codes ",")) _ _ refl
    (choose (bytes_eq text (codes ".")) _ _ refl
    (choose (bytes_eq text (codes ":")) _ _ refl
    (choose (bytes_eq text (codes ";")) _ _ refl
    (choose (bytes_eq text (codes "/")) _ _ refl refl))))))))))

of_class_in : (k : Kind) (text : List ℕ) (caret : Bool) → kind_of (class_in k text caret) ≡ k
of_class_in kind.Lower text caret = of_word text
of_class_in kind.Upper text caret = refl
of_class_in kind.Digits text caret = of_numeral (number_in text) text caret
of_class_in kind.Quoted text caret = refl
of_class_in kind.Text text caret = refl
of_class_in kind.Symbol text caret = of_symbol text
of_class_in kind.Punct text caret = of_punct text

of_class : (x : Spelled) → kind_of (class_of x) ≡ x.token.kind
unfolding class_of
of_class x = of_class_in x.token.kind x.text x.before_caret

-- ---- what is told by the kind of a class

differs : (d c : Class) → same_kind (kind_of d) (kind_of c) ≡ false → same d c ≡ false
differs d c h = by (same d c) refl
  where
    by : (b : Bool) → same d c ≡ b → b ≡ false
    by false e = refl
    by true e =
        let is : same_kind (kind_of d) (kind_of c) ≡ true = ap (same_kind (kind_of d)) (sym (ap kind_of (class_is d c e))) ∙ itself (kind_of d)
        in absurd cc

told_of_class : (t : Terminal) (c : Class) → IfSome (told_by_kind t (kind_of c)) (λ answer. passes t c ≡ answer)
told_of_class (terminal.Only d) c = by (same_kind (kind_of d) (kind_of c)) refl
  where
    by : (b : Bool) → same_kind (kind_of d) (kind_of c) ≡ b → IfSome (cond b None (Some false)) (λ answer. same d c ≡ answer)
    by true e = tt
    by false e = differs d c e
told_of_class terminal.Word c = by c
  where
    by : (c : Class) → is_lower c ≡ same_kind kind.Lower (kind_of c)
    by LogicWord = refl
    by c = refl
told_of_class terminal.Name c = by c
  where
    by : (c : Class) → names c ≡ (same_kind kind.Lower (kind_of c) || same_kind kind.Quoted (kind_of c))
    by LogicWord = refl
    by c = refl
told_of_class terminal.TermStart c = by c
  where
    by : (c : Class) → begins_term c ≡ (same_kind kind.Upper (kind_of c) || same_kind kind.Lower (kind_of c))
    by LogicWord = refl
    by c = refl
told_of_class t c = tt

-- what is told of a kind is true of each token of the kind
pub told : (t : Terminal) (k : Kind) (answer : Option Bool) → answer ≡ told_by_kind t k → IfSome answer (IsOfEach t k)
told t k None e = tt
told t k (Some answer) e = λ x is. by (class_of x) (told_by_kind t (kind_of (class_of x))) (told_of_class t (class_of x)) (ap (told_by_kind t) (of_class x ∙ is) ∙ sym e)
  where
    by : (c : Class) (found : Option Bool) → IfSome found (λ b. passes t c ≡ b) → found ≡ Some answer → passes t c ≡ answer
    by c None p e = absurd cc
    by c (Some b) p e = p ∙ is_same b answer e
