-- Tokens as reports see them, from a place on; a token of each class; and what a function gives that reads tokens as formulas or as rules
-- see them.
use Rattle.std.proofs.Common.{◌≡◌, ℕ, zero, suc, ◌-◌, Bool, true, false, List, [], ◌∷◌, ◌++◌, length, map, drop, None, Result, Ok, Err, refl, sym, ap, ◌∙◌, length-append, arith}
use Rattle.std.specs.Prelude.{not, ◌&&◌}
use Rattle.std.proofs.lemmas.List.{map-append, length-map}
use Rattle.std.proofs.Math.Seq.{drop-append_seam}
use Rattle.lgc_grammar.specs.Grammar.{Grammar, Language, Why, Unexpected, Breaks, One, PlainOne, IsFront}
use Rattle.lgc_grammar.specs.Reading.{Reader, one_at}
use Rattle.lgc_grammar.specs.Seen.{PlainSeen, last_of, seen_at}
use Rattle.lgc_grammar.proofs.Readers.{Reads, Start, Must, never}
use Rattle.lgc_grammar.proofs.Basic.{one_reads}
use Rattle.lgc_grammar.proofs.Classes.{all_pass}
use Rattle.lgc_lexer.specs.declared.token.Token.{Token}
use Rattle.lgc_tokens.specs.declared.class.Class.{Class}
use Rattle.lgc_tokens.specs.declared.class.Class.TheVariants.{Number}
use Rattle.lgc_tokens.specs.declared.stop.Stop.{Stop}
use Rattle.lgc_tokens.specs.declared.stop.Stop.TheVariants as stop
use Rattle.lgc_tokens.specs.declared.terminal.Terminal.TheVariants as terminal
use Rattle.lgc_tokens.specs.Spelled.{Spelled, spelled_all}
use Rattle.lgc_tokens.specs.Numbers.{number_in}
use Rattle.lgc_tokens.specs.Classes as tokens
use Rattle.lgc_tokens.specs.Classes.{classes, class_of}
use Rattle.lgc_tokens.specs.Gives.{GivesAs}
use Rattle.lgc_tokens.proofs.NumberTokens.{asked_number}
use Rattle.lgc_tokens.proofs.Tables as tables
use Rattle.lgc_tokens.proofs.Tables.{example, example_passes}
use Rattle.lgc_formulas.specs.declared.role.Role.TheVariants.{Neither}
use Rattle.lgc_formulas.specs.Named.{Named, named_all}
use Rattle.lgc_formulas.specs.Setting.{Setting}
use Rattle.lgc_formulas.proofs.Tables.{with_role}
use Rattle.lgc_report_reader.specs.Reported.{Reported, reported_all, spelled_of, is, is_number, is_position, is_version}

-- ---- tokens of reports

-- a token of which nothing more is known
abbrev pub as_reported : Named → Reported
as_reported t = record { named = t; names_formula = false; formula_here = None }

abbrev pub with_nothing : Spelled → Reported
with_nothing t = as_reported (with_role Neither t)

-- a token of each class
abbrev pub token : Class → Reported
token c = with_nothing (example (terminal.Only c))

pub token_is : (c : Class) → is c (token c) ≡ true
token_is c = example_passes (terminal.Only c)

-- a token whose class passes f doesn't pass g
pub off : (f g : Class → Bool) → all_pass (λ c. not (f c && g c)) classes ≡ true → (t : Reported) → f (class_of t.named.spelled) ≡ true → g (class_of t.named.spelled) ≡ false
off f g h t = tables.off f g h t.named.spelled

-- one token of a class
pub one : (c : Class) → Reads (one_at (is c)) (One (is c)) (PlainOne (is c)) (Must (is c)) never
one c = one_reads (is c) (token c) (token_is c)

pub one_number : Reads (one_at is_number) (One is_number) (PlainOne is_number) (Must is_number) never
one_number = one_reads is_number (with_nothing (example terminal.Number)) (example_passes terminal.Number)

pub one_position : Reads (one_at is_position) (One is_position) (PlainOne is_position) (Must is_position) never
one_position = one_reads is_position (with_nothing (example terminal.LongNumber)) (example_passes terminal.LongNumber)

pub one_version : Reads (one_at is_version) (One is_version) (PlainOne is_version) (Must is_version) never
one_version = one_reads is_version (token Number) (rw (token_is Number) refl)

-- what begins a phrase where it is seen as a formula's token begins one
pub made_named : (ts : List Named) → map (λ (t : Reported). t.named) (map as_reported ts) ≡ ts
made_named [] = refl
made_named (t ∷ ts) = rw (made_named ts) refl

pub seen_front : (P : Language Named) (t : Reported) → IsFront P (t.named ∷ []) → IsFront (PlainSeen (λ (u : Reported). u.named) P) (t ∷ [])
seen_front P t (more, h) = (map as_reported more, rw (made_named more) h)

-- ---- tokens from a place on

module _ (s : Setting) (bytes : List ℕ) where
  pub length-reported : (ts : List Token) → length (reported_all s bytes ts) ≡ length ts
  length-reported [] = refl
  length-reported (t ∷ ts) = ap suc (length-reported ts)

  pub reported_drop : (ts : List Token) (i : ℕ) → reported_all s bytes (drop i ts) ≡ drop i (reported_all s bytes ts)
  reported_drop ts zero = refl
  reported_drop [] (suc i) = refl
  reported_drop (t ∷ ts) (suc i) = reported_drop ts i

  pub named_reported : (ts : List Token) → map (λ (t : Reported). t.named) (reported_all s bytes ts) ≡ named_all s.logic bytes ts
  named_reported [] = refl
  named_reported (t ∷ ts) = rw (named_reported ts) refl

  pub spelled_reported : (ts : List Token) → map spelled_of (reported_all s bytes ts) ≡ spelled_all bytes ts
  spelled_reported [] = refl
  spelled_reported (t ∷ ts) = rw (spelled_reported ts) refl

  -- ---- what functions give that see less of the tokens

  -- tokens are seen by `see`, where they say less, and `token_of` tells the token of one that is seen so
  module _ {T : Type 0} (see : Reported → T) (less : List Token → List T) (seen : (ts : List Token) → map see (reported_all s bytes ts) ≡ less ts) (token_of : T → Token) (back : (ts : List Token) → map token_of (less ts) ≡ ts) where
    length_less : (ts : List Token) → length (less ts) ≡ length ts
    length_less ts = sym (length-map (less ts) token_of) ∙ ap length (back ts)

    -- what is left of tokens where they say less, is left of them
    last_seen : (front : List T) (ts rest : List Token) → less ts ≡ front ++ less rest → last_of (less rest) (reported_all s bytes ts) ≡ reported_all s bytes rest
    last_seen front ts rest split =
        let before : List Token = map token_of front in
        let cut : ts ≡ before ++ rest = sym (back ts) ∙ ap (map token_of) split ∙ map-append token_of front (less rest) ∙ ap (λ (u : List Token). before ++ u) (back rest) in
        let long : length (reported_all s bytes ts) - length (less rest) ≡ length before = omega (arith, length-reported ts, length_less rest, ap length cut, length-append before rest) in
        rw long (sym (reported_drop ts (length before)) ∙ ap (reported_all s bytes) (ap (drop (length before)) cut ∙ drop-append_seam before rest))

    module _ {A : Type 0} {p : Reader T A} {L : Grammar T A} {P : Language T} {start : Start T} {go : T → Bool} (reads : Reads p L P start go) (ts : List Token) where
      seen_ok : (a : A) (rest : List Token) → p (less ts) ≡ Ok (a, less rest) → seen_at see p (reported_all s bytes ts) ≡ Ok (a, reported_all s bytes rest)
      seen_ok a rest h =
          let k = reads.took (less ts) a (less rest) h in
          rw (seen ts, h, last_seen k.front ts rest k.split) refl

      seen_err : (rest : List Token) (why : Why) → p (less ts) ≡ Err (less rest, why) → seen_at see p (reported_all s bytes ts) ≡ Err (reported_all s bytes rest, why)
      seen_err rest why h =
          let k = reads.stuck (less ts) (less rest) why h in
          rw (seen ts, h, last_seen k.front ts rest k.split) refl

      seen_gives : {X : Type 0} (view : X → A) (rest : X → List Token) (result : Result X Stop) → GivesAs less (λ x. (view x, less (rest x))) result (p (less ts)) → GivesAs (reported_all s bytes) (λ x. (view x, reported_all s bytes (rest x))) result (seen_at see p (reported_all s bytes ts))
      seen_gives view rest (Ok x) h = seen_ok (view x) (rest x) h
      seen_gives view rest (Err stop.Memory) h = tt
      seen_gives view rest (Err (stop.Unexpected left)) h = seen_err left.now Unexpected h
      seen_gives view rest (Err (stop.Breaks n left)) h = seen_err left.now (Breaks n) h

  spelled_back : (ts : List Token) → map (λ (t : Spelled). t.token) (spelled_all bytes ts) ≡ ts
  spelled_back [] = refl
  spelled_back (t ∷ ts) = rw (spelled_back ts) refl

  named_back : (ts : List Token) → map (λ (t : Named). t.spelled.token) (named_all s.logic bytes ts) ≡ ts
  named_back [] = refl
  named_back (t ∷ ts) = rw (named_back ts) refl

  -- What a function gives by reading tokens without a logic, it gives where they are read as reports see them.
  pub spelled_gives : {A : Type 0} {p : Reader Spelled A} {L : Grammar Spelled A} {P : Language Spelled} {start : Start Spelled} {go : Spelled → Bool} (reads : Reads p L P start go) (ts : List Token) {X : Type 0} (view : X → A) (rest : X → List Token) (result : Result X Stop) → GivesAs (spelled_all bytes) (λ x. (view x, spelled_all bytes (rest x))) result (p (spelled_all bytes ts)) → GivesAs (reported_all s bytes) (λ x. (view x, reported_all s bytes (rest x))) result (seen_at spelled_of p (reported_all s bytes ts))
  spelled_gives reads ts view rest result h = seen_gives spelled_of (spelled_all bytes) spelled_reported (λ (t : Spelled). t.token) spelled_back reads ts view rest result h

  -- The same by reading tokens as a logic knows them.
  pub named_gives : {A : Type 0} {p : Reader Named A} {L : Grammar Named A} {P : Language Named} {start : Start Named} {go : Named → Bool} (reads : Reads p L P start go) (ts : List Token) {X : Type 0} (view : X → A) (rest : X → List Token) (result : Result X Stop) → GivesAs (named_all s.logic bytes) (λ x. (view x, named_all s.logic bytes (rest x))) result (p (named_all s.logic bytes ts)) → GivesAs (reported_all s bytes) (λ x. (view x, reported_all s bytes (rest x))) result (seen_at (λ (t : Reported). t.named) p (reported_all s bytes ts))
  named_gives reads ts view rest result h = seen_gives (λ (t : Reported). t.named) (named_all s.logic bytes) named_reported (λ (t : Named). t.spelled.token) named_back reads ts view rest result h

-- ---- numbers

-- a token that is a number writes one
pub writes_number : (t : Spelled) → tokens.is_number t ≡ true → number_in t.text ≡ None → ⊥
writes_number t h none = asked_number terminal.Number t tt h none
