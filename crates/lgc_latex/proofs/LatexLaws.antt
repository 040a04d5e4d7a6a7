-- Laws of the document for LaTeX.
use Rattle.std.proofs.Common.{◌≡◌, ◌≢◌, ℕ, zero, suc, ◌+◌, List, [], ◌∷◌, ◌++◌, length, refl, ap, sym, ◌∙◌, append_assoc, arith}
use Rattle.std.specs.Prelude.{map, codes}
use Rattle.std.specs.List.{range_with_len}
use Rattle.std.proofs.lemmas.Grind.{common_steps}
use Rattle.std.proofs.lemmas.List.FromFn.{map-range_with_len_more}
use Rattle.lgc_print.specs.Text.{joined}
use Rattle.lgc_print.specs.FormulaText.{in_brackets}
use Rattle.lgc_latex.specs.declared.document.Part.{Part}
use Rattle.lgc_latex.specs.declared.document.Part.TheVariants.{Argument}
use Rattle.lgc_latex.specs.Latex.{part_text, sign_text, literal_text, literals_from}

-- a set with members has a literal
pub literal_some : (names : List (List ℕ)) (part : Part) (number : ℕ) (set : List ℕ) → set ≢ [] → literal_text names part number set ≡ codes ", " ++ part_text part number ++ sign_text names set
unfolding literal_text
literal_some names part number [] some = absurd (some refl)
literal_some names part number (v ∷ set) some = refl

-- the literal of one more set
pub literals_more : (names : List (List ℕ)) (part : Part) (number : ℕ) (sets : List (List ℕ)) (set : List ℕ) → literals_from names part number (sets ++ set ∷ []) ≡ literals_from names part number sets ++ literal_text names part (number + length sets) set
literals_more names part number [] set = grind (arith, common_steps)
literals_more names part number (x ∷ sets) set =
    let n : number + 1 + length sets ≡ number + suc (length sets) = omega arith in
    ap (λ t. literal_text names part number x ++ t) (literals_more names part (number + 1) sets set ∙ ap (λ m. literals_from names part (number + 1) sets ++ literal_text names part m set) n)
    ∙ sym (append_assoc (literal_text names part number x) (literals_from names part (number + 1) sets) (literal_text names part (number + suc (length sets)) set))

-- one more argument
pub arguments_more : (n : ℕ) → map (part_text Argument) (range_with_len 1 (n + 1)) ≡ map (part_text Argument) (range_with_len 1 n) ++ part_text Argument (n + 1) ∷ []
arguments_more n = map-range_with_len_more (part_text Argument) 1 n (n + 1) (omega arith)

-- arguments stand in brackets where there are some
pub arguments_some : (n : ℕ) → n ≢ 0 → in_brackets (map (part_text Argument) (range_with_len 1 n)) ≡ codes "(" ++ joined (codes ",") (map (part_text Argument) (range_with_len 1 n)) ++ codes ")"
arguments_some zero some = absurd (some refl)
arguments_some (suc n) some = refl
