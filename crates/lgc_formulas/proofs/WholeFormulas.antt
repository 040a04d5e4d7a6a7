-- Formulas that are whole texts: a bare formula is one token, and its brackets may follow.
use Rattle.std.proofs.Common.{◌≡◌, ℕ, zero, suc, ◌-◌, Bool, true, false, List, [], ◌∷◌, ◌++◌, Option, Some, None, Ok, refl, sym, ap, subst, ◌∙◌, inl, inr}
use Rattle.lgc_grammar.specs.Grammar.{Grammar, Language, IsFront, Barred, Then, One, Nothing}
use Rattle.lgc_grammar.specs.Unless.{PlainUnless}
use Rattle.lgc_grammar.proofs.Readers.{Reads, Must}
use Rattle.lgc_grammar.proofs.UnlessReads.{unless_reads}
use Rattle.lgc_values.specs.Logic.{operator_at}
use Rattle.lgc_syntax.specs.declared.fault.TheConstants.{WRONG_ARITY}
use Rattle.lgc_syntax.specs.declared.formula.Formula.{Formula, Quant}
use Rattle.lgc_tokens.specs.declared.class.Class.TheVariants.{OpenRound, CloseRound}
use Rattle.lgc_formulas.specs.declared.formula.Read.{Read}
use Rattle.lgc_formulas.specs.declared.formula.TheConstants.{MOST_DEPTH}
use Rattle.lgc_formulas.specs.Named.{Named, operator_of, quantifier_of, is, starts_operator, starts_formula}
use Rattle.lgc_formulas.specs.Setting.{Setting, numbered}
use Rattle.lgc_formulas.specs.Faults.{let_of}
use Rattle.lgc_formulas.specs.FormulaGrammar.{as_whole, numbered_formula, BehindOperator, CloseQuantifier, FormulaPhrase, WholeFormula}
use Rattle.lgc_formulas.specs.PlainFormulas.{PlainFormula, PlainWholeFormula, operator, some_operands, closed}
use Rattle.lgc_formulas.specs.FormulaReading.{whole_formula_at}
use Rattle.lgc_formulas.proofs.Tables.{token, token_is, operator_token}
use Rattle.lgc_formulas.proofs.FormulaReads.{a_formula, one_formula_reads}

-- ---- bare formulas

-- behind the name of an operator a bare formula has no token
bare_behind : (L : ℕ → Grammar Named Read) (arity op many : ℕ) (x : Read) (w : List Named) → BehindOperator L arity op many (Ok x) w → x.is_bare ≡ true → w ≡ []
bare_behind L zero op many x w (inl h) bare = absurd h
bare_behind L zero op many x w (inr (e, n)) bare = n
bare_behind L (suc k) op many x w (inl (y, e, h)) bare = let f : x.is_bare ≡ false = ap (λ (r : Read). r.is_bare) e in absurd cc
bare_behind L (suc k) op many x w (inr (e, n)) bare = n

quantified_whole : (quant : ℕ) (body x : Read) (w : List Named) → CloseQuantifier quant body (Ok x) w → x.is_bare ≡ false
quantified_whole quant body x w h = by body.is_bare h
  where
    by : (b : Bool) → Barred b (is CloseRound) WRONG_ARITY (Then (One (is CloseRound)) (λ _. Nothing (as_whole (Quant quant body.formula) body.nodes_left))) (Ok x) w → x.is_bare ≡ false
    by true g = absurd g
    by false (t, u, v, one, (e, n), split) = ap (λ (r : Read). r.is_bare) e

numbered_whole : (f : Option Formula) (many : ℕ) → (numbered_formula f many).is_bare ≡ false
numbered_whole None many = refl
numbered_whole (Some f) many = refl

-- a bare formula is one token
pub bare_alone : (s : Setting) (deep : ℕ) (names : List (List ℕ)) (many : ℕ) (x : Read) (ts : List Named) → FormulaPhrase s deep names many (Ok x) ts → x.is_bare ≡ true → (t : Named) × (starts_operator t ≡ true) × (ts ≡ t ∷ [])
bare_alone s zero names many x ts h bare = absurd h
bare_alone s (suc deep) names many x ts (inl (head, v, w, (passes, none, one), behind, split)) bare =
    let empty : w ≡ [] = bare_behind (FormulaPhrase s deep names) (operator_at s.logic (operator_of head.role)).arity (operator_of head.role) (many - 1) x w behind bare in
    (head, passes, rw (split, one, empty) refl)
bare_alone s (suc deep) names many x ts (inr (inl (head, v1, w1, p1, (o, v2, w2, p2, (n, v3, w3, p3, (c, v4, w4, p4, (body, v5, w5, p5, close, s5), s4), s3), s2), s1))) bare = let f = quantified_whole (quantifier_of head.role) body x w5 close in absurd cc
bare_alone s (suc deep) names many x ts (inr (inr (inl (head, v1, w1, p1, (n, v2, w2, p2, (e, nothing), s2), s1)))) bare = let f : x.is_bare ≡ false = ap (λ (r : Read). r.is_bare) e ∙ numbered_whole (let_of s n) many in absurd cc
bare_alone s (suc deep) names many x ts (inr (inr (inr (head, v1, w1, p1, (terms, v2, w2, p2, (e, nothing), s2), s1)))) bare = let f : x.is_bare ≡ false = ap (λ (r : Read). r.is_bare) e in absurd cc

-- ---- whole texts

module _ (s : Setting) (deep : ℕ) (names : List (List ℕ)) (many : ℕ) where
  abbrev PlainWhole : Language Named
  PlainWhole = PlainUnless (λ (x : Read). x.is_bare) (FormulaPhrase s deep names many) (PlainFormula (numbered s))

  inside : List Named
  inside = token OpenRound ∷ ((operator_token ∷ []) ++ (token CloseRound ∷ []))

  in_brackets : (t : Named) → starts_operator t ≡ true → PlainFormula (numbered s) (t ∷ inside)
  unfolding inside
  in_brackets t passes = operator t (token OpenRound ∷ ((operator_token ∷ []) ++ (token CloseRound ∷ []))) passes (some_operands (token OpenRound) (operator_token ∷ []) (token CloseRound ∷ []) (token_is OpenRound) (a_formula (numbered s)) (closed (token CloseRound) (token_is CloseRound)))

  not_bare : (t : Named) (y : Read) → FormulaPhrase s deep names many (Ok y) (t ∷ inside) → (b : Bool) → y.is_bare ≡ b → y.is_bare ≡ false
  unfolding inside
  not_bare t y g false e = e
  not_bare t y g true e = let (u, passes, one) = bare_alone s deep names many y (t ∷ inside) g e in absurd cc

  -- a bare formula goes on with a formula in brackets
  opens : (x : Read) (ts : List Named) → FormulaPhrase s deep names many (Ok x) ts → x.is_bare ≡ true → IsFront PlainWhole ts
  opens x ts h bare =
      let (t, passes, one) = bare_alone s deep names many x ts h bare in
      subst (IsFront PlainWhole) (sym one) (inside, (in_brackets t passes, λ y g. not_bare t y g y.is_bare refl))

pub whole_formula_reads : (s : Setting) (many : ℕ) → Reads (whole_formula_at s many) (WholeFormula s many) (PlainWholeFormula s many) (Must (starts_formula (numbered s))) (is OpenRound)
unfolding whole_formula_at
whole_formula_reads s many = unless_reads (λ x. x.is_bare) (one_formula_reads s many) (opens s MOST_DEPTH [] many)
