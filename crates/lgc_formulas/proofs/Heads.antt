-- What a formula begins with: the reader of formulas is that of what stands behind their first tokens.
use Rattle.std.proofs.Common.{◌≡◌, ℕ, zero, suc, ◌-◌, ◌≤◌, Bool, true, false, List, [], ◌∷◌, Option, Some, None, Err, refl, arith}
use Rattle.std.specs.Prelude.{◌||◌, ◌&&◌, if◌then◌else◌}
use Rattle.lgc_grammar.specs.Grammar.{Unexpected}
use Rattle.lgc_grammar.specs.Reading.{Reader, map_at, then_at, judged}
use Rattle.lgc_values.specs.Logic.{operator_at}
use Rattle.lgc_syntax.specs.declared.fault.TheConstants.{UNKNOWN_NAME}
use Rattle.lgc_tokens.specs.declared.class.Class.{Class}
use Rattle.lgc_tokens.specs.declared.class.Class.TheVariants.{Quoted, Hash}
use Rattle.lgc_tokens.specs.Spelled.{Spelled}
use Rattle.lgc_tokens.specs.Classes.{same, is_lower, names, class_of}
use Rattle.lgc_formulas.specs.declared.role.Role.{Role}
use Rattle.lgc_formulas.specs.declared.role.Role.TheVariants.{Operator, Quantifier, Neither}
use Rattle.lgc_formulas.specs.declared.formula.Read.{Read}
use Rattle.lgc_formulas.specs.Named.{Named, text_of, operator_of, quantifier_of, quantifiers, predicates, begins_operator, is_hash, is_quantifier, is_predicate, starts_operator, starts_formula}
use Rattle.lgc_formulas.specs.Setting.{Setting, numbered}
use Rattle.lgc_formulas.specs.Faults.{formula_fault}
use Rattle.lgc_formulas.specs.FormulaReading.{behind_operator_at, operator_formula_at, quantifier_formula_at, numbered_formula_at, atom_formula_at, formula_at}
use Rattle.lgc_formulas.specs.HeadReading.{head_of, head_at, behind_quantifier_at, behind_hash_at, behind_predicate_at, behind_head_at, headed_formula_at}
use Rattle.lgc_formulas.proofs.Tables.{off_class}

-- a formula begins with each name, and with a #
names_begin : (hash : Bool) (r : Role) (c : Class) → (begins_operator r c || (quantifiers r c || (hash || predicates r c))) ≡ (names c || hash)
names_begin hash (Operator op) c = by (names c) hash
  where
    by : (b h : Bool) → ((b || false) || (false || (h || false))) ≡ (b || h)
    by true h = refl
    by false true = refl
    by false false = refl
names_begin hash (Quantifier quant) c = by (names c) hash
  where
    by : (b h : Bool) → ((false || false) || (b || (h || false))) ≡ (b || h)
    by true h = refl
    by false true = refl
    by false false = refl
names_begin hash Neither c = by (is_lower c) (same Quoted c) hash
  where
    by : (l q h : Bool) → ((false || q) || (false || (h || l))) ≡ ((l || q) || h)
    by true true h = refl
    by true false true = refl
    by true false false = refl
    by false true h = refl
    by false false true = refl
    by false false false = refl

pub names_start : (numbered : Bool) (t : Named) → starts_formula numbered t ≡ (names (class_of t.spelled) || is_hash numbered t)
names_start numbered t = names_begin (is_hash numbered t) t.role (class_of t.spelled)

-- ---- by the first token

-- what is left where a token that passes the test may break a rule
abbrev passed : Bool → Option ℕ → Named → Reader Named Named
passed b f t rest = if b then judged f t rest else Err (t ∷ rest, Unexpected)

-- A choice by one of four tests, each part with its own look at the token, is one look and what stands behind the token.
module _ {B : Type 0} (f : Option ℕ) (t : Named) (rest : List Named) (h : Named → B) (p1 p2 p3 p4 : Named → Reader Named Read) (q : B → Reader Named Read) where
  one_look : (b1 b2 b3 b4 : Bool) → (b1 ≡ true → f ≡ None → p1 t rest ≡ q (h t) rest) → (b2 ≡ true → p2 t rest ≡ q (h t) rest) → (b3 ≡ true → p3 t rest ≡ q (h t) rest) → (b3 ≡ false → b4 ≡ true → p4 t rest ≡ q (h t) rest)
      → (if b1 then then_at (passed b1 f t) p1 rest else (if b2 then then_at (passed b2 f t) p2 rest else (if b3 then then_at (passed b3 f t) p3 rest else then_at (passed b4 f t) p4 rest))) ≡ then_at (map_at h (passed (b1 || (b2 || (b3 || b4))) f t)) q rest
  one_look b1 b2 b3 b4 = by b1 b2 b3 b4 f refl
    where
      by : (b1 b2 b3 b4 : Bool) (g : Option ℕ) → f ≡ g → (b1 ≡ true → f ≡ None → p1 t rest ≡ q (h t) rest) → (b2 ≡ true → p2 t rest ≡ q (h t) rest) → (b3 ≡ true → p3 t rest ≡ q (h t) rest) → (b3 ≡ false → b4 ≡ true → p4 t rest ≡ q (h t) rest)
          → (if b1 then then_at (passed b1 f t) p1 rest else (if b2 then then_at (passed b2 f t) p2 rest else (if b3 then then_at (passed b3 f t) p3 rest else then_at (passed b4 f t) p4 rest))) ≡ then_at (map_at h (passed (b1 || (b2 || (b3 || b4))) f t)) q rest
      by true b2 b3 b4 None e h1 h2 h3 h4 = rw e (h1 refl e)
      by false true b3 b4 None e h1 h2 h3 h4 = rw e (h2 refl)
      by false false true b4 None e h1 h2 h3 h4 = rw e (h3 refl)
      by false false false true None e h1 h2 h3 h4 = rw e (h4 refl refl)
      by true b2 b3 b4 (Some n) e h1 h2 h3 h4 = rw e refl
      by false true b3 b4 (Some n) e h1 h2 h3 h4 = rw e refl
      by false false true b4 (Some n) e h1 h2 h3 h4 = rw e refl
      by false false false true (Some n) e h1 h2 h3 h4 = rw e refl
      by false false false false g e h1 h2 h3 h4 = refl

both : (a b : Bool) → (a && b) ≡ true → b ≡ true
both true b e = e
both false b e = absurd cc

-- a # is no name
no_hash : (numbered : Bool) (t : Named) → names (class_of t.spelled) ≡ true → is_hash numbered t ≡ false
no_hash numbered t e = by (is_hash numbered t) refl
  where
    by : (b : Bool) → is_hash numbered t ≡ b → is_hash numbered t ≡ false
    by true h = absurd (let f = off_class (λ c. same Hash c) names refl t (both numbered (same Hash (class_of t.spelled)) h) in cc)
    by false h = h

or_false : (a : Bool) → (a || false) ≡ true → a ≡ true
or_false true h = refl
or_false false h = absurd cc

is_or : (a b : Bool) → a ≡ true → (a || b) ≡ true
is_or true b e = refl
is_or false b e = absurd cc

module _ (s : Setting) (deep : ℕ) (scope : List (List ℕ)) (many : ℕ) where
  abbrev fault : Named → Option ℕ
  fault = formula_fault s (suc deep) many

  one_less : suc deep - 1 ≡ deep
  one_less = omega arith

  module _ (x : Spelled) (b : Option ℕ) (rest : List Named) where
    abbrev token : Role → Named
    token role = record { spelled = x; role = role; number_behind = b }

    abbrev Behind : Role → Reader Named Read → Type 0
    Behind role p = p rest ≡ behind_head_at s (suc deep - 1) scope many (head_of (is_hash (numbered s) (token role)) role) x.text rest

    of_operator : (role : Role) → starts_operator (token role) ≡ true → fault (token role) ≡ None → Behind role (behind_operator_at (formula_at s deep scope) (operator_at s.logic (operator_of role)).arity (operator_of role) (many - 1))
    unfolding behind_head_at
    of_operator (Operator op) passes none = rw (no_hash (numbered s) (token (Operator op)) (or_false (names (class_of x)) passes), one_less) refl
    of_operator (Quantifier quant) passes none = absurd cc
    of_operator Neither passes none = absurd (let broken : fault (token Neither) ≡ Some UNKNOWN_NAME = rw passes refl in cc)

    of_quantifier : (role : Role) → is_quantifier (token role) ≡ true → Behind role (behind_quantifier_at (formula_at s deep) (quantifier_of role) scope (many - 1))
    unfolding behind_head_at
    of_quantifier (Operator op) passes = absurd cc
    of_quantifier (Quantifier quant) passes = rw (no_hash (numbered s) (token (Quantifier quant)) passes, one_less) refl
    of_quantifier Neither passes = absurd cc

    of_hash : (role : Role) → is_hash (numbered s) (token role) ≡ true → Behind role (behind_hash_at s many)
    unfolding behind_head_at
    of_hash role passes = rw passes refl

    of_predicate : (role : Role) → is_predicate (token role) ≡ true → Behind role (behind_predicate_at (numbered s) scope deep x.text (many - 1))
    unfolding behind_head_at
    of_predicate (Operator op) passes = absurd cc
    of_predicate (Quantifier quant) passes = absurd cc
    of_predicate Neither passes = rw (no_hash (numbered s) (token Neither) (is_or (is_lower (class_of x)) (same Quoted (class_of x)) passes), one_less) refl

  alike : (ts : List Named) → formula_at s (suc deep) scope many ts ≡ headed_formula_at s (suc deep) scope many ts
  unfolding formula_at operator_formula_at quantifier_formula_at numbered_formula_at atom_formula_at headed_formula_at head_at behind_quantifier_at behind_hash_at behind_predicate_at
  alike [] = refl
  alike (t ∷ rest) =
      one_look (fault t) t rest (λ u. (head_of (is_hash (numbered s) u) u.role, text_of u)) _ _ _ _ (λ first. behind_head_at s (suc deep - 1) scope many first.0 first.1)
      (starts_operator t) (is_quantifier t) (is_hash (numbered s) t) (is_predicate t)
      (of_operator t.spelled t.number_behind rest t.role)
      (of_quantifier t.spelled t.number_behind rest t.role)
      (of_hash t.spelled t.number_behind rest t.role)
      (λ off. of_predicate t.spelled t.number_behind rest t.role)

pub by_head : (s : Setting) (deep : ℕ) (names : List (List ℕ)) (many : ℕ) (ts : List Named) → 1 ≤ deep → formula_at s deep names many ts ≡ headed_formula_at s deep names many ts
by_head s zero names many ts some = absurd (omega arith)
by_head s (suc deep) names many ts some = alike s deep names many ts
