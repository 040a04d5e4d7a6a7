-- Which rules the tokens of a grammar can break: a lemma for each word.
use Rattle.std.proofs.Common.{◌≡◌, ℕ, Bool, true, false, List, map, Option, Some, Err, inl, inr, subst}
use Rattle.lgc_grammar.specs.Grammar.{Grammar, One, Allowed, Refused, Barred, fault_if, Nothing, Mapped, Then, Either, Growing, broken, grown}
use Rattle.lgc_grammar.specs.Seen.{Seen}
use Rattle.lgc_grammar.specs.Unless.{Unless}

-- Each rule that a token of the grammar can break has a number with this property.
pub record Only {T A : Type 0} (Q : ℕ → Type 0) (L : Grammar T A) : Type 0 where
  pub only : (n : ℕ) (ts : List T) → L (Err n) ts → Q n

-- the number that is told
fault_is : (b : Bool) (n k : ℕ) → fault_if b n ≡ Some k → n ≡ k
fault_is true n k e = cc
fault_is false n k e = absurd cc

module _ {T : Type 0} {Q : ℕ → Type 0} where
  pub only_one : (test : T → Bool) → Only Q (One test)
  only_one test = record { only = λ n ts h. absurd h }

  pub only_nothing : {A : Type 0} (a : A) → Only Q (Nothing {T = T} a)
  only_nothing a = record { only = λ n ts h. absurd h }

  -- a token that can break one rule
  pub only_allowed : (test breaks : T → Bool) (number : ℕ) → Q number → Only Q (Allowed test (λ t. fault_if (breaks t) number))
  only_allowed test breaks number has = record { only = λ n ts h. let (t, passes, told, one) = h in subst Q (fault_is (breaks t) number n told) has }

  -- a token that can break several
  pub only_told : (test : T → Bool) (fault : T → Option ℕ) → ((t : T) (n : ℕ) → fault t ≡ Some n → Q n) → Only Q (Allowed test fault)
  only_told test fault has = record { only = λ n ts h. let (t, passes, told, one) = h in has t n told }

  pub only_refused : {A : Type 0} (test : T → Bool) (number : T → ℕ) → ((t : T) → Q (number t)) → Only Q (Refused {A = A} test number)
  only_refused test number has = record { only = λ n ts h. let (t, passes, is, one) = h in subst Q is (has t) }

  pub only_barred : {A : Type 0} (bad : Bool) (first : T → Bool) (number : ℕ) {L : Grammar T A} → Q number → Only Q L → Only Q (Barred bad first number L)
  only_barred true first number has g = only_refused first (λ _. number) (λ _. has)
  only_barred false first number has g = record { only = λ n ts h. g.only n ts h }

  pub only_unless : {A : Type 0} (bad : A → Bool) {L : Grammar T A} → Only Q L → Only Q (Unless bad L)
  only_unless bad g = record { only = λ n ts h. g.only n ts h }

  pub only_seen : {S A : Type 0} (see : S → T) {L : Grammar T A} → Only Q L → Only Q (Seen see L)
  only_seen see g = record { only = λ n ts h. g.only n (map see ts) h }

  pub only_mapped : {A B : Type 0} (f : A → B) {L : Grammar T A} → Only Q L → Only Q (Mapped f L)
  only_mapped f g = record { only = λ n ts h. g.only n ts h }

  pub only_then : {A B : Type 0} {L : Grammar T A} {M : A → Grammar T B} → Only Q L → ((a : A) → Only Q (M a)) → Only Q (Then L M)
  only_then {A} {B} {L} {M} g behind = record { only = by }
    where
      by : (n : ℕ) (ts : List T) → Then L M (Err n) ts → Q n
      by n ts (inl h) = g.only n ts h
      by n ts (inr (a, v, w, f, h, split)) = let m : Only Q (M a) = behind a in m.only n w h

  pub only_either : {A : Type 0} {L M : Grammar T A} → Only Q L → Only Q M → Only Q (Either L M)
  only_either {A} {L} {M} g k = record { only = by }
    where
      by : (n : ℕ) (ts : List T) → Either L M (Err n) ts → Q n
      by n ts (inl h) = g.only n ts h
      by n ts (inr h) = k.only n ts h

  pub only_growing : {A : Type 0} {L : A → Grammar T A} (a : A) → ((b : A) → Only Q (L b)) → Only Q (Growing L a)
  only_growing {A} {L} a each = record { only = by a }
    where
      by : (b : A) (n : ℕ) (ts : List T) → Growing L b (Err n) ts → Q n
      by b n ts (broken _ _ v h) = let m : Only Q (L b) = each b in m.only n ts h
      by b n ts (grown _ c _ v w f g) = by c n w g
