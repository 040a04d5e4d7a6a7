-- Tokens as a logic knows them, from a place on; and what a function gives that reads tokens without a logic.
use Rattle.std.proofs.Common.{◌≡◌, ℕ, zero, suc, ◌-◌, Bool, List, [], ◌∷◌, ◌++◌, length, map, drop, Result, Ok, Err, refl, sym, ap, ◌∙◌, length-append, arith}
use Rattle.std.proofs.lemmas.List.{map-append}
use Rattle.std.proofs.Math.Seq.{drop-append_seam}
use Rattle.lgc_grammar.specs.Grammar.{Grammar, Language, Why, Unexpected, Breaks}
use Rattle.lgc_grammar.specs.Reading.{Reader, next_is}
use Rattle.lgc_grammar.specs.Seen.{last_of, seen_at}
use Rattle.lgc_grammar.proofs.Readers.{Reads, Start}
use Rattle.lgc_lexer.specs.declared.token.Token.{Token}
use Rattle.lgc_values.specs.Logic.{Logic}
use Rattle.lgc_tokens.specs.declared.stop.Stop.{Stop}
use Rattle.lgc_tokens.specs.declared.stop.Stop.TheVariants as stop
use Rattle.lgc_tokens.specs.Spelled.{Spelled, spelled_all}
use Rattle.lgc_tokens.specs.Gives.{GivesAs, Gives}
use Rattle.lgc_tokens.proofs.Places.{length-spelled}
use Rattle.lgc_formulas.specs.Named.{Named, named_all}

module _ (logic : Logic) (bytes : List ℕ) where
  pub length-named : (ts : List Token) → length (named_all logic bytes ts) ≡ length ts
  length-named [] = refl
  length-named (t ∷ ts) = ap suc (length-named ts)

  pub named_drop : (ts : List Token) (i : ℕ) → named_all logic bytes (drop i ts) ≡ drop i (named_all logic bytes ts)
  named_drop ts zero = refl
  named_drop [] (suc i) = refl
  named_drop (t ∷ ts) (suc i) = named_drop ts i

  pub spelled_named : (ts : List Token) → map (λ (t : Named). t.spelled) (named_all logic bytes ts) ≡ spelled_all bytes ts
  spelled_named [] = refl
  spelled_named (t ∷ ts) = rw (spelled_named ts) refl

  -- a test that doesn't ask for the logic
  pub next_named : (test : Spelled → Bool) (ts : List Token) → next_is (λ (t : Named). test t.spelled) (named_all logic bytes ts) ≡ next_is test (spelled_all bytes ts)
  next_named test [] = refl
  next_named test (t ∷ ts) = refl

  tokens_in : (ts : List Token) → map (λ (t : Spelled). t.token) (spelled_all bytes ts) ≡ ts
  tokens_in [] = refl
  tokens_in (t ∷ ts) = rw (tokens_in ts) refl

  -- what is left of tokens where they say less, is left of them
  last_named : (front : List Spelled) (ts rest : List Token) → spelled_all bytes ts ≡ front ++ spelled_all bytes rest → last_of (spelled_all bytes rest) (named_all logic bytes ts) ≡ named_all logic bytes rest
  last_named front ts rest split =
      let before : List Token = map (λ (t : Spelled). t.token) front in
      let cut : ts ≡ before ++ rest = sym (tokens_in ts) ∙ ap (map (λ (t : Spelled). t.token)) split ∙ map-append (λ (t : Spelled). t.token) front (spelled_all bytes rest) ∙ ap (λ (u : List Token). before ++ u) (tokens_in rest) in
      let long : length (named_all logic bytes ts) - length (spelled_all bytes rest) ≡ length before = omega (arith, length-named ts, length-spelled bytes rest, ap length cut, length-append before rest) in
      rw long (sym (named_drop ts (length before)) ∙ ap (named_all logic bytes) (ap (drop (length before)) cut ∙ drop-append_seam before rest))

  module _ {A : Type 0} {p : Reader Spelled A} {L : Grammar Spelled A} {P : Language Spelled} {start : Start Spelled} {go : Spelled → Bool} (reads : Reads p L P start go) (ts : List Token) where
    seen_ok : (a : A) (rest : List Token) → p (spelled_all bytes ts) ≡ Ok (a, spelled_all bytes rest) → seen_at (λ (t : Named). t.spelled) p (named_all logic bytes ts) ≡ Ok (a, named_all logic bytes rest)
    seen_ok a rest h =
        let k = reads.took (spelled_all bytes ts) a (spelled_all bytes rest) h in
        rw (spelled_named ts, h, last_named k.front ts rest k.split) refl

    seen_err : (rest : List Token) (why : Why) → p (spelled_all bytes ts) ≡ Err (spelled_all bytes rest, why) → seen_at (λ (t : Named). t.spelled) p (named_all logic bytes ts) ≡ Err (named_all logic bytes rest, why)
    seen_err rest why h =
        let k = reads.stuck (spelled_all bytes ts) (spelled_all bytes rest) why h in
        rw (spelled_named ts, h, last_named k.front ts rest k.split) refl

    -- What a function gives by reading tokens without a logic, it gives where they are read as a logic knows them.
    pub seen_gives : {X : Type 0} (view : X → A) (rest : X → List Token) (result : Result X Stop) → Gives bytes (λ x. (view x, spelled_all bytes (rest x))) result (p (spelled_all bytes ts)) → GivesAs (named_all logic bytes) (λ x. (view x, named_all logic bytes (rest x))) result (seen_at (λ (t : Named). t.spelled) p (named_all logic bytes ts))
    seen_gives view rest (Ok x) h = seen_ok (view x) (rest x) h
    seen_gives view rest (Err stop.Memory) h = tt
    seen_gives view rest (Err (stop.Unexpected left)) h = seen_err left.now Unexpected h
    seen_gives view rest (Err (stop.Breaks n left)) h = seen_err left.now (Breaks n) h
