-- The names in the terms of the grammar have the forms by which they are read.
use Rattle.std.proofs.Common.{◌≡◌, ◌-◌, ℕ, zero, suc, Bool, true, false, List, [], ◌∷◌, ◌++◌, Option, Some, None, Ok, inl, inr, refl, sym, ap, subst, ◌∙◌}
use Rattle.std.specs.Prelude.{◌||◌, ◌&&◌, not}
use Rattle.std.specs.List.{AllByRecursion}
use Rattle.lgc_grammar.specs.Grammar.{Grammar, Growing, ended, grown}
use Rattle.lgc_syntax.specs.declared.fault.TheConstants.{RESERVED_NAME, TOO_DEEP, TOO_LARGE}
use Rattle.lgc_syntax.specs.declared.formula.Term.{Term, Apply}
use Rattle.lgc_tokens.specs.declared.class.Class.TheVariants.{Upper}
use Rattle.lgc_tokens.specs.Spelled.{Spelled}
use Rattle.lgc_tokens.specs.Classes.{same, is_lower, is, is_word}
use Rattle.lgc_tokens.proofs.Tables.{off}
use Rattle.lgc_formulas.specs.Scopes.{bound_in, is_reserved}
use Rattle.lgc_formulas.specs.Faults.{first_broken, is_too_long, is_bound, is_free, term_fault}
use Rattle.lgc_formulas.specs.TermGrammar.{Counted, with_term, variable_by, variable, CommaTerm, Terms, TermPhrase}
use Rattle.lgc_formulas.proofs.TermsKept.{all_push, all_pass}
use Rattle.lgc_formulas.specs.Writable.{has_readable_term_names}
use Rattle.lgc_formula_trip.proofs.WritableLaws.{names-Bound, names-Free, names-Apply}
use Rattle.lgc_formula_trip.proofs.WordTokens.{IsFormed, each_front, each_behind}

-- ---- tokens that break no rule

kept_rules : (a b c d : Bool) → first_broken ((a, RESERVED_NAME) ∷ ((b, TOO_DEEP) ∷ ((c || d, TOO_LARGE) ∷ []))) ≡ None → (a ≡ false) × (d ≡ false)
kept_rules true b c d e = absurd cc
kept_rules false true c d e = absurd cc
kept_rules false false true d e = absurd cc
kept_rules false false false true e = absurd cc
kept_rules false false false false e = (refl, refl)

module _ (limited : Bool) where
  abbrev pub AreReadable : List Term → Type 0
  AreReadable terms = AllByRecursion (λ t. has_readable_term_names limited t ≡ true) terms

  -- ---- arguments

  module _ (L : ℕ → Grammar Spelled (Counted Term)) (each : (many : ℕ) (x : Counted Term) (ts : List Spelled) → AllByRecursion IsFormed ts → L many (Ok x) ts → has_readable_term_names limited x.0 ≡ true) where
    push : (xs : Counted (List Term)) (x : Counted Term) → AreReadable xs.0 → has_readable_term_names limited x.0 ≡ true → AreReadable (with_term xs x).0
    push xs x before h = all_push (λ t. has_readable_term_names limited t ≡ true) xs.0 x.0 before h

    more_readable : (a c : Counted (List Term)) (ts : List Spelled) → AllByRecursion IsFormed ts → AreReadable a.0 → Growing (CommaTerm L) a (Ok c) ts → AreReadable c.0
    more_readable a c ts formed k (ended _) = k
    more_readable a c ts formed k (grown _ b _ v w (comma, v1, w1, p1, (x, is, h), s1) g) =
        let next = each_behind IsFormed v1 w1 (subst (AllByRecursion IsFormed) s1 (each_front IsFormed v w formed)) in
        more_readable b c w (each_behind IsFormed v w formed) (subst (λ (b : Counted (List Term)). AreReadable b.0) (sym is) (push a x k (each a.1 x w1 next h))) g

    pub terms_readable : (many : ℕ) (xs : Counted (List Term)) (ts : List Spelled) → AllByRecursion IsFormed ts → Terms L many (Ok xs) ts → AreReadable xs.0
    terms_readable many xs ts formed (inr (e, n)) = subst (λ (b : Counted (List Term)). AreReadable b.0) (sym e) tt
    terms_readable many xs ts formed (inl (o, v1, w1, p1, (a, v2, w2, (x, is, h), (c, v3, w3, grow, (z, v4, w4, p4, (e, n), s4), s3), s2), s1)) =
        let inside = subst (AllByRecursion IsFormed) s2 (each_behind IsFormed v1 w1 (subst (AllByRecursion IsFormed) s1 formed)) in
        let behind = subst (AllByRecursion IsFormed) s3 (each_behind IsFormed v2 w2 inside) in
        let first = subst (λ (b : Counted (List Term)). AreReadable b.0) (sym is) (push ([], many) x tt (each many x v2 (each_front IsFormed v2 w2 inside) h)) in
        subst (λ (b : Counted (List Term)). AreReadable b.0) (sym e) (more_readable a c v3 (each_front IsFormed v3 w3 behind) first grow)

  -- ---- terms

  variable_readable : (names : List (List ℕ)) (deep many : ℕ) (t : Spelled) → IsFormed t → is Upper t ≡ true → term_fault limited names deep many t ≡ None → has_readable_term_names limited (variable names t.text) ≡ true
  variable_readable names deep many t formed upper none = by (bound_in names t.text) refl
    where
      by : (b : Option ℕ) → bound_in names t.text ≡ b → has_readable_term_names limited (variable_by b t.text) ≡ true
      by (Some i) e = names-Bound limited i
      by None e =
          let (open_name, short) = kept_rules (is_free names t && is_reserved t.text) _ _ (not (is_bound names t) && is_too_long limited t.text) none in
          let free : is_free names t ≡ true = rw (upper, e) refl in
          let unbound : is_bound names t ≡ false = rw (upper, e) refl in
          let mine : is_reserved t.text ≡ false = ap (λ b. b && is_reserved t.text) (sym free) ∙ open_name in
          let fine : is_too_long limited t.text ≡ false = ap (λ b. not b && is_too_long limited t.text) (sym unbound) ∙ short in
          names-Free limited t.text ∙ rw (formed.upper upper, mine, fine) refl

  function_readable : (names : List (List ℕ)) (deep many : ℕ) (t : Spelled) (args : List Term) → IsFormed t → is_word t ≡ true → term_fault limited names deep many t ≡ None → AreReadable args → has_readable_term_names limited (Apply t.text args) ≡ true
  function_readable names deep many t args formed word none each =
      let (open_name, short) = kept_rules (is_free names t && is_reserved t.text) _ _ (not (is_bound names t) && is_too_long limited t.text) none in
      let other : is Upper t ≡ false = off is_lower (same Upper) refl t word in
      let unbound : is_bound names t ≡ false = rw other refl in
      let fine : is_too_long limited t.text ≡ false = ap (λ b. not b && is_too_long limited t.text) (sym unbound) ∙ short in
      names-Apply limited t.text args ∙ rw (formed.lower word, fine) (all_pass (has_readable_term_names limited) args each)

  pub term_readable : (names : List (List ℕ)) (deep many : ℕ) (x : Counted Term) (ts : List Spelled) → AllByRecursion IsFormed ts → TermPhrase limited names deep many (Ok x) ts → has_readable_term_names limited x.0 ≡ true
  term_readable names zero many x ts formed h = absurd h
  term_readable names (suc deep) many x ts formed (inl (head, is, (passes, none, one))) =
      let (first, others) = subst (AllByRecursion IsFormed) one formed in
      subst (λ (y : Counted Term). has_readable_term_names limited y.0 ≡ true) (sym is) (variable_readable names (suc deep) many head first passes none)
  term_readable names (suc deep) many x ts formed (inr (head, v, w, (passes, none, one), (xs, v2, w2, h, (e, n), s2), s1)) =
      let all = subst (AllByRecursion IsFormed) (s1 ∙ ap (λ (u : List Spelled). u ++ w) one) formed in
      let args = each_front IsFormed v2 w2 (subst (AllByRecursion IsFormed) s2 all.1) in
      let k = terms_readable (TermPhrase limited names deep) (term_readable names deep) (many - 1) xs v2 args h in
      subst (λ (y : Counted Term). has_readable_term_names limited y.0 ≡ true) (sym e) (function_readable names (suc deep) many head xs.0 all.0 passes none k)
