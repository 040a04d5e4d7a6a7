-- Faults that a function passes on, and lists that the code reads, against the lists that are read.
use Rattle.std.proofs.Common.{◌≡◌, ◌<◌, ℕ, Bool, true, List, [], ◌∷◌, ◌++◌, length, Some, None, Result, Ok, Err, refl, sym, ap, ◌∙◌, append_assoc, append-nil, arith, length-append}
use Rattle.std.specs.Prelude.{◌||◌}
use Rattle.lgc_grammar.specs.Grammar.{Grammar, Language, Why}
use Rattle.lgc_grammar.specs.Reading.{Reader, and_then, next_is, skip, past, many_at, behind_at, more_at, more_loosely_at, listed_at}
use Rattle.lgc_grammar.proofs.Readers.{Reads, Start, Must, ok}
use Rattle.lgc_grammar.proofs.Repetitions.{Shrinks, many_ends, many_fails, many_goes}
use Rattle.lgc_grammar.proofs.Loops.{with_front, list_fails, many_stops, loosely_stops, skip_some, skip_none}
use Rattle.lgc_tokens.specs.declared.stop.Stop.{Stop}
use Rattle.lgc_tokens.specs.Spelled.{Spelled}
use Rattle.lgc_tokens.specs.Gives.{Fails}
use Rattle.lgc_tokens.proofs.Stops.{fails_through}
use Rattle.lgc_parser.specs.Gives.{Shortens}

module _ {A : Type 0} (p : Reader Spelled A) (q : Reader Spelled (List A)) (bytes : List ℕ) where
  -- the first of a list stops
  pub first_fails : (ts : List Spelled) (e : Stop) → Fails bytes e (p ts) → Fails bytes e (listed_at p q ts)
  first_fails ts e h = fails_through bytes e (p ts) (listed_at p q ts) (λ d f. list_fails p q ts d f) h

-- a reader of a grammar leaves no more tokens than there were
pub shortens : {A : Type 0} {p : Reader Spelled A} {L : Grammar Spelled A} {P : Language Spelled} {start : Start Spelled} {go : Spelled → Bool} → Reads p L P start go → Shortens p
shortens reads = λ ts rest a e. let k = reads.took ts a rest e in omega (arith, ap length k.split, length-append k.front rest)

pushed : {A : Type 0} (front : List A) (a : A) (r : Result (List A × List Spelled) (List Spelled × Why)) → with_front (front ++ a ∷ []) r ≡ with_front front (and_then r (λ y. Ok (a ∷ y.0, y.1)))
pushed {A} front a (Ok y) = ap (λ (x : List A). ok {A = List A × List Spelled} (x, y.1)) (append_assoc front (a ∷ []) y.0)
pushed front a (Err e) = refl

module _ {A : Type 0} (sep : Spelled → Bool) {p : Reader Spelled A} (short : Shortens p) where
  behind : (ts after : List Spelled) → skip sep ts ≡ Some after → behind_at sep p ts ≡ p after
  behind ts after e = let (t, is, split) = skip_some sep ts after e in rw (split, is) refl

  is_next : (ts after : List Spelled) → skip sep ts ≡ Some after → next_is sep ts ≡ true
  is_next ts after e = let (t, is, split) = skip_some sep ts after e in rw split is

  shrinks : Shrinks sep (behind_at sep p)
  shrinks = record { less = less }
    where
      less : (ts : List Spelled) (a : A) (rest : List Spelled) → next_is sep ts ≡ true → behind_at sep p ts ≡ Ok (a, rest) → length rest < length ts
      less [] a rest h e = absurd cc
      less (t ∷ ts) a rest h e = let f = rw h at e in omega (arith, short ts rest a f)

  module _ (front : List A) (total : Result (List A × List Spelled) (List Spelled × Why)) (ts : List Spelled) where
    -- a separator and one more phrase
    pub part_taken : (after : List Spelled) (a : A) (rest : List Spelled) → Some after ≡ skip sep ts → p after ≡ Ok (a, rest) → with_front front (more_at sep p ts) ≡ total → with_front (front ++ a ∷ []) (more_at sep p rest) ≡ total
    part_taken after a rest skips e so_far = pushed front a (more_at sep p rest) ∙ ap (with_front front) (sym (many_goes shrinks ts a rest (is_next ts after (sym skips)) (behind ts after (sym skips) ∙ e))) ∙ so_far

    -- a separator, and then a phrase that stops
    pub part_fails : (bytes : List ℕ) (after : List Spelled) (e : Stop) → Some after ≡ skip sep ts → Fails bytes e (p after) → with_front front (more_at sep p ts) ≡ total → Fails bytes e total
    part_fails bytes after e skips h so_far = fails_through bytes e (p after) total (λ d f. sym so_far ∙ ap (with_front front) (many_fails sep (behind_at sep p) ts d (is_next ts after (sym skips)) (behind ts after (sym skips) ∙ f))) h

    -- no separator
    pub parts_ended : None ≡ skip sep ts → with_front front (more_at sep p ts) ≡ total → total ≡ Ok (front, ts)
    parts_ended none so_far = sym so_far ∙ ap (with_front front) (many_ends sep (behind_at sep p) ts (skip_none sep ts (sym none))) ∙ ap (λ (x : List A). ok {A = List A × List Spelled} (x, ts)) (append-nil front)

module _ {A : Type 0} {first : Spelled → Bool} {p : Reader Spelled A} {L : Grammar Spelled A} {P : Language Spelled} {go : Spelled → Bool} (reads : Reads p L P (Must first) go) (bytes : List ℕ) where
  -- one of a repetition stops
  pub next_fails : (front : List A) (total : Result (List A × List Spelled) (List Spelled × Why)) (ts : List Spelled) (e : Stop) → next_is first ts ≡ true → Fails bytes e (p ts) → with_front front (many_at first p ts) ≡ total → Fails bytes e total
  next_fails front total ts e is h so_far = fails_through bytes e (p ts) total (λ d f. many_stops reads front total ts d is f so_far) h

  -- one of a list with optional separators stops
  pub cell_fails : (sep : Spelled → Bool) (front : List A) (total : Result (List A × List Spelled) (List Spelled × Why)) (ts : List Spelled) (e : Stop) → next_is (λ t. sep t || first t) ts ≡ true → Fails bytes e (p (past sep ts)) → with_front front (more_loosely_at sep first p ts) ≡ total → Fails bytes e total
  cell_fails sep front total ts e is h so_far = fails_through bytes e (p (past sep ts)) total (λ d f. loosely_stops sep first reads front total ts d is f so_far) h
