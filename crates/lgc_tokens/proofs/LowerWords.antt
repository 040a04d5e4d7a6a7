-- The class of a Lower is that of a keyword or of another Lower.
use Rattle.std.proofs.Common.{◌≡◌, ℕ, Bool, true, false, cond, List, refl}
use Rattle.std.specs.Prelude.{codes}
use Rattle.std.specs.Str.{bytes_eq}
use Rattle.lgc_tokens.specs.declared.class.Class.{Class}
use Rattle.lgc_tokens.specs.Classes.{is_lower, class_of_word}

choose : (b : Bool) (c d : Class) → is_lower c ≡ true → is_lower d ≡ true → is_lower (cond b c d) ≡ true
choose true c d h g = h
choose false c d h g = g

pub word_is_lower : (text : List ℕ) → is_lower (class_of_word text) ≡ true
unfolding class_of_word
word_is_lower text =
    choose (bytes_eq text (codes "logic")) _ _ refl
    (choose (bytes_eq text (codes "truth_values")) _ _ refl
    (choose (bytes_eq text (codes "designated_truth_values")) _ _ refl
    (choose (bytes_eq text (codes "ordering")) _ _ refl
    (choose (bytes_eq text (codes "operator")) _ _ refl
    (choose (bytes_eq text (codes "quantifier")) _ _ refl
    (choose (bytes_eq text (codes "mapping")) _ _ refl
    (choose (bytes_eq text (codes "table")) _ _ refl
    (choose (bytes_eq text (codes "induced_by")) _ _ refl
    (choose (bytes_eq text (codes "inf")) _ _ refl
    (choose (bytes_eq text (codes "sup")) _ _ refl
    (choose (bytes_eq text (codes "rule")) _ _ refl
    (choose (bytes_eq text (codes "at")) _ _ refl
    (choose (bytes_eq text (codes "all")) _ _ refl
    (choose (bytes_eq text (codes "some")) _ _ refl
    (choose (bytes_eq text (codes "entail")) _ _ refl
    (choose (bytes_eq text (codes "mixed")) _ _ refl
    (choose (bytes_eq text (codes "equation")) _ _ refl
    (choose (bytes_eq text (codes "quasi")) _ _ refl
    (choose (bytes_eq text (codes "report")) _ _ refl
    (choose (bytes_eq text (codes "line")) _ _ refl
    (choose (bytes_eq text (codes "by")) _ _ refl
    (choose (bytes_eq text (codes "axiom")) _ _ refl
    (choose (bytes_eq text (codes "pending")) _ _ refl
    (choose (bytes_eq text (codes "on")) _ _ refl
    (choose (bytes_eq text (codes "from")) _ _ refl
    (choose (bytes_eq text (codes "resolve")) _ _ refl
    (choose (bytes_eq text (codes "claim")) _ _ refl
    (choose (bytes_eq text (codes "proved")) _ _ refl
    (choose (bytes_eq text (codes "refuted")) _ _ refl
    (choose (bytes_eq text (codes "unfinished")) _ _ refl
    (choose (bytes_eq text (codes "holds")) _ _ refl
    (choose (bytes_eq text (codes "end")) _ _ refl refl))))))))))))))))))))))))))))))))
