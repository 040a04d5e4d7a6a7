-- Which tokens are values and names.
use Rattle.std.proofs.Common.{◌≡◌, ◌≢◌, Bool, true, false, cond, List, ℕ, refl}
use Rattle.std.specs.Prelude.{codes}
use Rattle.std.specs.Str.{bytes_eq}
use Rattle.lgc_lexer.specs.declared.token.Kind.{Kind}
use Rattle.lgc_lexer.specs.declared.token.Kind.TheVariants.{Text, Punct}
use Rattle.lgc_tokens.specs.declared.class.Class.{Class}
use Rattle.lgc_tokens.specs.Spelled.{Spelled}
use Rattle.lgc_tokens.specs.Classes.{values, class_in, class_of, class_of_punct, is_name_or_symbol, is_value}

pub name_is_value : (t : Spelled) → is_name_or_symbol t ≡ true → is_value t ≡ true
name_is_value t e = rw e refl

unless : (v : Bool) (c d : Class) → values c ≡ false → values d ≡ false → values (cond v c d) ≡ false
unless true c d e f = e
unless false c d e f = f

-- the class of a Punct is none of values
punct_is_none : (text : List ℕ) → values (class_of_punct text) ≡ false
unfolding class_of_punct
punct_is_none text =
    unless (bytes_eq text (codes "(")) _ _ refl
    (unless (bytes_eq text (codes ")")) _ _ refl
    (unless (bytes_eq text (codes "{")) _ _ refl
    (unless (bytes_eq text (codes "}")) _ _ refl
    (unless (bytes_eq text (codes "[")) _ _ refl
    (unless (bytes_eq text (codes "]")) _ _ refl
    (unless (bytes_eq text (codes ",")) _ _ refl
    (unless (bytes_eq text (codes ".")) _ _ refl
    (unless (bytes_eq text (codes ":")) _ _ refl
    (unless (bytes_eq text (codes ";")) _ _ refl
    (unless (bytes_eq text (codes "/")) _ _ refl refl))))))))))

-- a value is no Text and no Punct
pub value_kind : (t : Spelled) → is_value t ≡ true → (t.token.kind ≢ Text) × (t.token.kind ≢ Punct)
unfolding class_of
value_kind t e = by t.token.kind e where
  by : (kind : Kind) → values (class_in kind t.text t.before_caret) ≡ true → (kind ≢ Text) × (kind ≢ Punct)
  by Text e = absurd cc
  by Punct e = let none = punct_is_none t.text in absurd cc
  by kind e = (λ h. cc, λ h. cc)
