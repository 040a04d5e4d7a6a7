-- The printed form of rules.
use Rattle.std.specs.Prelude.{ℕ, ◌+◌, ◌&&◌, Bool, false, List, [], ◌∷◌, ◌++◌, map, codes, slice_index_or, if◌then◌else◌}
use Rattle.std.specs.Char.{is_ascii_lowercase}
use Rattle.std.specs.List.{flat_map, list_all}
use Rattle.std.specs.Fmt.{decimal}
use Rattle.lgc_lexer.specs.Forms.{is_word}
use Rattle.lgc_values.specs.Logic.{Logic, operator_at, quantifier_at}
use Rattle.lgc_clauses.specs.Rules.{Head, operator, quantifier, PlainRule}

-- pieces with a separator between them
abbrev pub joined : {X : Type 0} → List X → List (List X) → List X
joined separator [] = []
joined separator (piece ∷ pieces) = piece ++ flat_map (λ p. separator ++ p) pieces

-- a lower-case letter, and then letters, digits and `_`
abbrev pub is_lower_word : List ℕ → Bool
is_lower_word [] = false
is_lower_word (b ∷ rest) = is_ascii_lowercase b && list_all is_word rest

abbrev pub quoted : List ℕ → List ℕ
quoted name = codes "'" ++ name ++ codes "'"

-- the name of a truth value, in quotes unless it has word bytes alone
abbrev pub value_text : List ℕ → List ℕ
value_text name = if list_all is_word name then name else quoted name

-- the name of an operator or a quantifier, in quotes unless it is a lower-case word
abbrev pub symbol_text : List ℕ → List ℕ
symbol_text name = if is_lower_word name then name else quoted name

-- `{f,u}`
abbrev pub set_text : List (List ℕ) → List ℕ → List ℕ
set_text names set = codes "{" ++ joined (codes ",") (map (λ v. value_text (slice_index_or names v [])) set) ++ codes "}"

-- `1^{f,u}`
unfoldable pub literal_text : List (List ℕ) → ℕ → List ℕ → List ℕ
literal_text names number set = decimal number ++ codes "^" ++ set_text names set

-- the literals of the sets that have members; the first set has this number
abbrev pub literals_from : List (List ℕ) → ℕ → List (List ℕ) → List (List ℕ)
literals_from names number [] = []
literals_from names number ([] ∷ sets) = literals_from names (number + 1) sets
literals_from names number ((v ∷ set) ∷ sets) = literal_text names number (v ∷ set) ∷ literals_from names (number + 1) sets

-- the literals with commas between them, and `0` where there is none
abbrev pub literals_text : List (List ℕ) → List ℕ
literals_text [] = codes "0"
literals_text (literal ∷ literals) = joined (codes ", ") (literal ∷ literals)

-- `1^{f}, 2^{u}`
unfoldable pub operator_clause_text : List (List ℕ) → List (List ℕ) → List ℕ
operator_clause_text names sets = literals_text (literals_from names 1 sets)

-- `all{u,t}`
unfoldable pub all_text : List (List ℕ) → List ℕ → List ℕ
all_text names set = codes "all" ++ set_text names set

-- `some{u}`, where the set has members
abbrev pub some_texts : List (List ℕ) → List ℕ → List (List ℕ)
some_texts names [] = []
some_texts names (v ∷ set) = (codes "some" ++ set_text names (v ∷ set)) ∷ []

-- the parts of a quantifier's clause, whose first set is the `some` set: the `all` sets, and then the `some` set
abbrev pub parts_of : List (List ℕ) → List (List ℕ) → List (List ℕ)
parts_of names [] = []
parts_of names (some ∷ all) = map (all_text names) all ++ some_texts names some

-- `all{u,t}, some{u}`
unfoldable pub quantifier_clause_text : List (List ℕ) → List (List ℕ) → List ℕ
quantifier_clause_text names sets = literals_text (parts_of names sets)

abbrev pub clause_text : List (List ℕ) → Head → List (List ℕ) → List ℕ
clause_text names (operator op) = operator_clause_text names
clause_text names (quantifier q) = quantifier_clause_text names

-- `[1^{f}, 2^{u}; 1^{t}]`
unfoldable pub clauses_text : List (List ℕ) → Head → List (List (List ℕ)) → List ℕ
clauses_text names head clauses = codes "[" ++ joined (codes "; ") (map (clause_text names head) clauses) ++ codes "]"

-- `operator neg/1`, or `quantifier forall`
unfoldable pub head_text : Logic → Head → List ℕ
head_text logic (operator op) = codes "operator " ++ symbol_text (operator_at logic op).name ++ codes "/" ++ decimal (operator_at logic op).arity
head_text logic (quantifier q) = codes "quantifier " ++ symbol_text (quantifier_at logic q).name

-- `rule 1: operator neg/1 at {f}: [1^{t}].` and a line feed
unfoldable pub rule_text : Logic → ℕ → PlainRule → List ℕ
rule_text logic number rule =
    codes "rule " ++ decimal number ++ codes ": " ++ head_text logic rule.head ++ codes " at " ++ set_text logic.names rule.sign ++ codes ": " ++ clauses_text logic.names rule.head rule.clauses ++ codes ".\n"

-- the rules, of which the first has this number
abbrev pub rules_text : Logic → ℕ → List PlainRule → List ℕ
rules_text logic number [] = []
rules_text logic number (rule ∷ rules) = rule_text logic number rule ++ rules_text logic (number + 1) rules

-- the text of a calculus: its rules, numbered from 1
abbrev pub calculus_text : Logic → List PlainRule → List ℕ
calculus_text logic rules = rules_text logic 1 rules
