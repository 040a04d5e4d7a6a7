-- Formulas and equations in a row, with commas between them, and the turnstile behind premises.
use Rattle.std.proofs.Common.{◌≡◌, ℕ, ◌+◌, List, [], ◌∷◌, ◌++◌, map, refl, ap, append-nil, append_assoc, arith, ◌∙◌}
use Rattle.std.specs.Prelude.{All, codes}
use Rattle.std.specs.List.{flat_map, sum_by}
use Rattle.std.proofs.lemmas.List.Elements.{All-head, All-tail}
use Rattle.std.proofs.lemmas.List.Sums.{sum_by-cons}
use Rattle.lgc_grammar.specs.Grammar.{Grammar, One, Nothing, Then, Optional, Growing}
use Rattle.lgc_lexer.specs.declared.token.Kind.TheVariants.{Symbol}
use Rattle.lgc_values.specs.Logic.{Logic}
use Rattle.lgc_tokens.specs.declared.class.Class.TheVariants.{Turnstile}
use Rattle.lgc_print.specs.Text.{joined}
use Rattle.lgc_formulas.specs.Named.{Named, is}
use Rattle.lgc_queries.specs.QueryText.{turnstile_text}
use Rattle.lgc_formula_trip.proofs.Cuts.{lexeme, Anything, EndsWord}
use Rattle.lgc_formula_trip.proofs.Written.{Written, written_then, written_behind, written_nothing, written_left, written_right, written_ended, written_grown, written_tree}
use Rattle.lgc_formula_trip.proofs.Tokens.{NamedAs}
use Rattle.lgc_query_trip.proofs.Signs.{cut_turnstile, cut_spaced_turnstile, is_turnstile}

-- Elements with commas between them, where `Next` goes on from the tree of those before and of the nodes that are left.
module _ (logic : Logic) {X Z : Type 0} (text : X → List ℕ) (cost : X → ℕ) (tree : List X → ℕ → Z) (Next : Z → Grammar Named Z) where
  -- an element behind others
  abbrev pub IsNext : X → Type 0
  IsNext x = (before : List X) (left many : ℕ) → left + cost x ≡ many → Written (NamedAs logic) EndsWord (Next (tree before many)) (tree (before ++ x ∷ []) left) (codes ", " ++ text x)

  abbrev more_text : List X → List ℕ
  more_text xs = flat_map (λ p. codes ", " ++ p) (map text xs)

  more_ends : (xs : List X) (rest : List ℕ) → EndsWord rest → EndsWord (more_text xs ++ rest)
  more_ends [] rest ends = ends
  more_ends (x ∷ xs) rest ends = refl

  -- each that is as P asks for
  module _ (P : X → Type 0) (next : (x : X) → P x → IsNext x) where
    more_written : (xs before : List X) (left many : ℕ) → All P xs → left + sum_by cost xs ≡ many → Written (NamedAs logic) EndsWord (Growing Next (tree before many)) (tree (before ++ xs) left) (more_text xs)
    more_written [] before left many all e = written_ended (NamedAs logic) EndsWord Next (tree before many) (tree (before ++ []) left) (ap (λ xs. tree xs left) (append-nil before) ∙ ap (tree before) (omega (arith, e)))
    more_written (x ∷ xs) before left many all e =
        let inside : ℕ = left + sum_by cost xs in
        written_grown (NamedAs logic) EndsWord EndsWord Next (tree before many) (tree (before ++ x ∷ []) inside) (tree (before ++ x ∷ xs) left) (codes ", " ++ text x) (more_text xs) (more_ends xs)
        (next x (All-head P x xs all) before inside many (omega (arith, e, sum_by-cons cost x xs)))
        (written_tree (NamedAs logic) EndsWord (Growing Next (tree (before ++ x ∷ []) inside)) (tree ((before ++ x ∷ []) ++ xs) left) (tree (before ++ x ∷ xs) left) (more_text xs) (ap (λ ys. tree ys left) (append_assoc before (x ∷ []) xs))
        (more_written xs (before ++ x ∷ []) left inside (All-tail P x xs all) refl))

    -- one element or more
    pub row_written : (First : Grammar Named Z) (x : X) (xs : List X) (left : ℕ) → Written (NamedAs logic) EndsWord First (tree (x ∷ []) (left + sum_by cost xs)) (text x) → All P xs → Written (NamedAs logic) EndsWord (Then First (λ first. Growing Next first)) (tree (x ∷ xs) left) (joined (codes ", ") (map text (x ∷ xs)))
    row_written First x xs left first all =
        written_then (NamedAs logic) EndsWord EndsWord First (λ z. Growing Next z) (tree (x ∷ []) (left + sum_by cost xs)) (tree (x ∷ xs) left) (text x) (more_text xs) (more_ends xs) first
        (more_written xs (x ∷ []) left (left + sum_by cost xs) all refl)

-- the turnstile behind premises
pub turnstile_written : {X Z : Type 0} (logic : Logic) (premises : List X) (z : Z) → Written (NamedAs logic) Anything (Then (One (is Turnstile)) (λ _. Nothing z)) z (turnstile_text premises)
turnstile_written logic [] z = written_behind (NamedAs logic) Anything (is Turnstile) (Nothing z) z (lexeme Symbol (codes "|-")) (codes "|- ") [] cut_turnstile (λ t r. is_turnstile t.spelled r.0) (written_nothing (NamedAs logic) Anything z z refl)
turnstile_written logic (x ∷ premises) z = written_behind (NamedAs logic) Anything (is Turnstile) (Nothing z) z (lexeme Symbol (codes "|-")) (codes " |- ") [] cut_spaced_turnstile (λ t r. is_turnstile t.spelled r.0) (written_nothing (NamedAs logic) Anything z z refl)

-- premises, if there are any, and what stands behind them
pub premises_written : {X Z : Type 0} (logic : Logic) (text : X → List ℕ) (L : Grammar Named Z) (Behind : Z → Grammar Named Z) (none z : Z) (premises : List X) → (premises ≡ [] → z ≡ none) → ((x : X) (xs : List X) → premises ≡ x ∷ xs → Written (NamedAs logic) EndsWord L z (joined (codes ", ") (map text (x ∷ xs)))) → Written (NamedAs logic) Anything (Behind z) z (turnstile_text premises) → Written (NamedAs logic) Anything (Then (Optional none L) Behind) z (joined (codes ", ") (map text premises) ++ turnstile_text premises)
premises_written logic text L Behind none z [] empty some behind =
    written_then (NamedAs logic) EndsWord Anything (Optional none L) Behind z z [] (codes "|- ") (λ rest f. refl)
    (written_right (NamedAs logic) EndsWord L (Nothing none) z [] (written_nothing (NamedAs logic) EndsWord none z (empty refl))) behind
premises_written logic text L Behind none z (x ∷ xs) empty some behind =
    let listed : List ℕ = joined (codes ", ") (map text (x ∷ xs)) in
    written_then (NamedAs logic) EndsWord Anything (Optional none L) Behind z z listed (codes " |- ") (λ rest f. refl)
    (written_left (NamedAs logic) EndsWord L (Nothing none) z listed (some x xs refl)) behind
