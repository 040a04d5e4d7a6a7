-- The printed form of rules for LaTeX.
use Rattle.std.specs.Prelude.{ℕ, ◌+◌, List, [], ◌∷◌, ◌++◌, map, codes, slice_index_or, if◌then◌else◌}
use Rattle.std.specs.List.{flat_map, range_with_len}
use Rattle.std.specs.Fmt.{decimal}
use Rattle.lgc_lexer.specs.Forms.{is_one_of}
use Rattle.lgc_values.specs.Logic.{Logic, operator_at, quantifier_at}
use Rattle.lgc_clauses.specs.Rules.{Head, operator, quantifier, PlainRule}
use Rattle.lgc_print.specs.Text.{joined}
use Rattle.lgc_print.specs.FormulaText.{in_brackets}
use Rattle.lgc_latex.specs.declared.document.Part.{Part}
use Rattle.lgc_latex.specs.declared.document.Part.TheVariants.{Argument, Eigenvariable, Term}

-- ---- names

-- A byte of a name. What LaTeX reads as a sign of its own has a backslash before it, or is written by a command.
unfoldable pub escaped_byte : ℕ → List ℕ
escaped_byte b =
    if is_one_of (codes "_#$&%{}") b then codes "\\" ++ b ∷ []
    else (if is_one_of (codes "\\") b then codes "\\backslash "
    else (if is_one_of (codes "~") b then codes "\\sim "
    else (if is_one_of (codes "^") b then codes "\\hat{}"
    else b ∷ [])))

-- a name in upright letters: `\mathrm{imp}`
unfoldable pub name_text : List ℕ → List ℕ
name_text name = codes "\\mathrm{" ++ flat_map escaped_byte name ++ codes "}"

-- ---- signed formulas

-- a set as a sign: `^{\{\mathrm{f},\mathrm{u}\}}`
unfoldable pub sign_text : List (List ℕ) → List ℕ → List ℕ
sign_text names set = codes "^{\\{" ++ joined (codes ",") (map (λ v. name_text (slice_index_or names v [])) set) ++ codes "\\}}"

-- What a set of a clause stands on: `A_{1}` for an argument, `A(\alpha_{1})` for the instance by an eigenvariable, and `A(\tau)` for the
-- instance by a term.
unfoldable pub part_text : Part → ℕ → List ℕ
part_text Argument number = codes "A_{" ++ decimal number ++ codes "}"
part_text Eigenvariable number = codes "A(\\alpha_{" ++ decimal number ++ codes "})"
part_text Term number = codes "A(\\tau)"

-- the literal of a set behind what stands before it, and nothing for the set without members
unfoldable pub literal_text : List (List ℕ) → Part → ℕ → List ℕ → List ℕ
literal_text names part number [] = []
literal_text names part number (v ∷ set) = codes ", " ++ part_text part number ++ sign_text names (v ∷ set)

-- the literals of sets, of which the first has this number
abbrev pub literals_from : List (List ℕ) → Part → ℕ → List (List ℕ) → List ℕ
literals_from names part number [] = []
literals_from names part number (set ∷ sets) = literal_text names part number set ++ literals_from names part (number + 1) sets

-- ---- rules

-- any sequent with the literals of an operator's clause: `\Gamma, A_{1}^{\{\mathrm{t}\}}`
unfoldable pub operator_premise_text : List (List ℕ) → List (List ℕ) → List ℕ
operator_premise_text names sets = codes "\\Gamma" ++ literals_from names Argument 1 sets

-- any sequent with the literals of a quantifier's clause: those of its `all` sets, and then that of its `some` set
unfoldable pub quantifier_premise_text : List (List ℕ) → List (List ℕ) → List ℕ
quantifier_premise_text names [] = codes "\\Gamma"
quantifier_premise_text names (some ∷ all) = codes "\\Gamma" ++ literals_from names Eigenvariable 1 all ++ literal_text names Term 1 some

abbrev pub premise_text : List (List ℕ) → Head → List (List ℕ) → List ℕ
premise_text names (operator op) = operator_premise_text names
premise_text names (quantifier q) = quantifier_premise_text names

-- the premises with space between them
unfoldable pub premises_text : List (List ℕ) → Head → List (List (List ℕ)) → List ℕ
premises_text names head clauses = joined (codes " \\qquad ") (map (premise_text names head) clauses)

-- the formula of a conclusion: `\mathrm{imp}(A_{1},A_{2})`, or `(\mathrm{forall}\,x)A(x)`
unfoldable pub conclusion_text : Logic → Head → List ℕ
conclusion_text logic (operator op) = name_text (operator_at logic op).name ++ in_brackets (map (part_text Argument) (range_with_len 1 (operator_at logic op).arity))
conclusion_text logic (quantifier q) = codes "(" ++ name_text (quantifier_at logic q).name ++ codes "\\,x)A(x)"

-- a fraction with the premises above and the conclusion below: `\[\frac{\Gamma, ..}{\Gamma, ..}\]` and a line feed
unfoldable pub rule_text : Logic → PlainRule → List ℕ
rule_text logic rule =
    codes "\\[\\frac{" ++ premises_text logic.names rule.head rule.clauses ++ codes "}{\\Gamma, " ++ conclusion_text logic rule.head ++ sign_text logic.names rule.sign ++ codes "}\\]\n"

-- the document on the rules of a logic, with its name as the heading
abbrev pub calculus_latex : Logic → List ℕ → List PlainRule → List ℕ
calculus_latex logic name rules =
    codes "\\documentclass{article}\n\\begin{document}\n\\section*{" ++ name ++ codes "}\n" ++ flat_map (rule_text logic) rules ++ codes "\\end{document}\n"
