-- The printed form of queries: one spelling.
use Rattle.std.specs.Prelude.{ℕ, Bool, ◌==◌, ◌&&◌, List, [], ◌∷◌, ◌++◌, length, map, codes, if◌then◌else◌}
use Rattle.lgc_values.specs.Values.{mask_of, members_of}
use Rattle.lgc_values.specs.Logic.{Logic}
use Rattle.lgc_syntax.specs.declared.formula.Formula.{Formula}
use Rattle.lgc_meaning.specs.declared.query.Pair.{Pair}
use Rattle.lgc_meaning.specs.declared.query.Query.{Query}
use Rattle.lgc_meaning.specs.declared.query.Query.TheVariants.{Mixed, Equation, Quasi}
use Rattle.lgc_print.specs.Text.{joined, set_text}
use Rattle.lgc_print.specs.FormulaText.{formula_text}

-- `A, B`
abbrev pub formulas_text : Logic → List Formula → List ℕ
formulas_text logic formulas = joined (codes ", ") (map (formula_text logic) formulas)

-- `A = B`
abbrev pub equation_text : Logic → Pair → List ℕ
equation_text logic pair = formula_text logic pair.left ++ codes " = " ++ formula_text logic pair.right

-- `A = B, C = D`
abbrev pub equations_text : Logic → List Pair → List ℕ
equations_text logic pairs = joined (codes ", ") (map (equation_text logic) pairs)

-- `{f,u}`, the set of a mask
abbrev pub mask_text : Logic → ℕ → List ℕ
mask_text logic mask = set_text logic.names (members_of logic.size mask)

-- the turnstile behind so many premises, with a blank before it unless there are none
abbrev pub turnstile_text : {X : Type 0} → List X → List ℕ
turnstile_text [] = codes "|- "
turnstile_text (premise ∷ premises) = codes " |- "

-- both sets are the designated values, and there is one conclusion
abbrev pub is_entailment : Logic → ℕ → ℕ → List Formula → Bool
is_entailment logic given wanted conclusions = given == mask_of logic.designated && (wanted == mask_of logic.designated && length conclusions == 1)

-- `entail ` of an entailment, and else `mixed {u,t}, {t}: `
abbrev pub opening_text : Logic → ℕ → ℕ → List Formula → List ℕ
opening_text logic given wanted conclusions =
    if is_entailment logic given wanted conclusions then codes "entail "
    else codes "mixed " ++ mask_text logic given ++ codes ", " ++ mask_text logic wanted ++ codes ": "

-- `entail A, B |- C`, `mixed {u,t}, {t}: |- C, D`, `equation A = B` and `quasi A = B, C = D |- E = F`
abbrev pub query_text : Logic → Query → List ℕ
query_text logic (Mixed given wanted premises conclusions) = opening_text logic given wanted conclusions ++ formulas_text logic premises ++ turnstile_text premises ++ formulas_text logic conclusions
query_text logic (Equation pair) = codes "equation " ++ equation_text logic pair
query_text logic (Quasi premises conclusion) = codes "quasi " ++ equations_text logic premises ++ turnstile_text premises ++ equation_text logic conclusion
