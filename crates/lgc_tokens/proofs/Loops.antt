-- The loops of the code. A loop that lets a tree grow keeps one equation: what reading gives from here on, with the tree so
-- far, is what it gives from the start. Each turn keeps it by a lemma of this file. The tokens are seen by `see`, in any way.
use Rattle.std.proofs.Common.{◌≡◌, Bool, true, false, List, Result, Ok, sym, ◌∙◌}
use Rattle.lgc_grammar.specs.Grammar.{Grammar, Language, Why}
use Rattle.lgc_grammar.specs.Reading.{Reader, next_is, growing_at, Turn, onward, last, ending_at}
use Rattle.lgc_grammar.proofs.Readers.{Reads, Must}
use Rattle.lgc_grammar.proofs.EndingTurns.{ending_ends, ending_fails, ending_closes, ending_goes}
use Rattle.lgc_grammar.proofs.Repetitions.{reads_shrink}
use Rattle.lgc_grammar.proofs.GrowingTrees.{growing_ends, growing_fails, growing_goes}
use Rattle.lgc_lexer.specs.declared.token.Token.{Token}
use Rattle.lgc_tokens.specs.declared.stop.Stop.{Stop}
use Rattle.lgc_tokens.specs.Gives.{FailsAs}
use Rattle.lgc_tokens.proofs.Stops.{fails_through_as}

module _ {S A : Type 0} {first : S → Bool} {p : A → Reader S A} {L : A → Grammar S A} {P : Language S} {go : S → Bool} (reads : (a : A) → Reads (p a) (L a) P (Must first) go) (total : Result (A × List S) (List S × Why)) (a : A) (ts : List S) where
  -- one more phrase
  pub grows : (b : A) (rest : List S) → true ≡ next_is first ts → p a ts ≡ Ok (b, rest) → growing_at first p a ts ≡ total → growing_at first p b rest ≡ total
  grows b rest h e so_far = sym (growing_goes first p (λ d. reads_shrink (reads d)) a ts b rest (sym h) e) ∙ so_far

  -- a phrase begins, and stops
  pub growth_fails : (see : List Token → List S) (e : Stop) → true ≡ next_is first ts → FailsAs see e (p a ts) → growing_at first p a ts ≡ total → FailsAs see e total
  growth_fails see e h f so_far = fails_through_as see e (p a ts) total (λ d g. sym so_far ∙ growing_fails first p a ts d (sym h) g) f

  -- no phrase begins
  pub growth_ends : false ≡ next_is first ts → growing_at first p a ts ≡ total → total ≡ Ok (a, ts)
  growth_ends h so_far = sym so_far ∙ growing_ends first p a ts (sym h)

-- the same for a repetition that a phrase of another kind may end
module _ {S A C : Type 0} {first : S → Bool} {p : A → Reader S (Turn A C)} {L : A → Grammar S (Turn A C)} {P : Language S} {go : S → Bool} (reads : (a : A) → Reads (p a) (L a) P (Must first) go) (finish : A → C) (total : Result (C × List S) (List S × Why)) (a : A) (ts : List S) where
  -- one more phrase
  pub goes_on : (b : A) (rest : List S) → true ≡ next_is first ts → p a ts ≡ Ok (onward b, rest) → ending_at first p finish a ts ≡ total → ending_at first p finish b rest ≡ total
  goes_on b rest h e so_far = sym (ending_goes first p finish (λ d. reads_shrink (reads d)) a ts b rest (sym h) e) ∙ so_far

  -- the last phrase
  pub closes : (c : C) (rest : List S) → true ≡ next_is first ts → p a ts ≡ Ok (last c, rest) → ending_at first p finish a ts ≡ total → total ≡ Ok (c, rest)
  closes c rest h e so_far = sym so_far ∙ ending_closes first p finish a ts c rest (sym h) e

  -- a phrase begins, and stops
  pub going_fails : (see : List Token → List S) (e : Stop) → true ≡ next_is first ts → FailsAs see e (p a ts) → ending_at first p finish a ts ≡ total → FailsAs see e total
  going_fails see e h f so_far = fails_through_as see e (p a ts) total (λ d g. sym so_far ∙ ending_fails first p finish a ts d (sym h) g) f

  -- no phrase begins
  pub going_ends : false ≡ next_is first ts → ending_at first p finish a ts ≡ total → total ≡ Ok (finish a, ts)
  going_ends h so_far = sym so_far ∙ ending_ends first p finish a ts (sym h)
