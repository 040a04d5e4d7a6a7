-- What is read can be written: the names in the formulas of the grammar have the forms by which they are read.
use Rattle.std.proofs.Common.{◌≡◌, ◌-◌, ℕ, zero, suc, Bool, true, false, List, [], ◌∷◌, ◌++◌, map, Option, Some, None, Ok, inl, inr, refl, sym, ap, subst, ◌∙◌, arith}
use Rattle.std.specs.Prelude.{◌||◌, ◌&&◌, is_none, nat_lt}
use Rattle.std.specs.List.{AllByRecursion}
use Rattle.lgc_grammar.specs.Grammar.{Grammar, fault_if, Barred, Either, Refused, Mapped, One, Then, Nothing}
use Rattle.lgc_values.specs.Logic.{Logic, operator_at, operator_named, quantifier_named}
use Rattle.lgc_syntax.specs.declared.fault.TheConstants.{UNKNOWN_NAME, WRONG_ARITY, TOO_DEEP, TOO_LARGE, NOT_PROPOSITIONAL, UNKNOWN_NUMBER}
use Rattle.lgc_syntax.specs.declared.formula.Term.{Term}
use Rattle.lgc_syntax.specs.declared.formula.Formula.{Formula, Atom, Op, Quant}
use Rattle.lgc_tokens.specs.declared.class.Class.{Class}
use Rattle.lgc_tokens.specs.declared.class.Class.TheVariants.{CloseRound, Comma}
use Rattle.lgc_tokens.specs.Classes.{is_lower}
use Rattle.lgc_tokens.specs.Classes as tokens
use Rattle.lgc_formulas.specs.declared.role.Role.{Role}
use Rattle.lgc_formulas.specs.declared.role.Role.TheVariants as role
use Rattle.lgc_formulas.specs.declared.formula.Read.{Read}
use Rattle.lgc_formulas.specs.declared.formula.Formulas.{Formulas}
use Rattle.lgc_formulas.specs.declared.formula.TheConstants.{MOST_DEPTH, MOST_NODES}
use Rattle.lgc_formulas.specs.Named.{Named, role_among, role_of, named_all, text_of, operator_of, quantifier_of, is, is_unknown, is_predicate, predicates}
use Rattle.lgc_formulas.specs.Setting.{Setting, numbered, let_at}
use Rattle.lgc_formulas.specs.Faults.{first_broken, is_too_long, stands_for, nodes_shown, formula_fault, let_of, number_fault}
use Rattle.lgc_formulas.specs.FormulaGrammar.{as_whole, with_formula, numbered_formula, ends_argument, MoreOperands, Operands, BehindOperator, CloseQuantifier, FormulaPhrase}
use Rattle.lgc_formulas.specs.TermGrammar.{TermPhrase}
use Rattle.lgc_formulas.specs.FormulaTexts.{text_setting, IsFormulaText}
use Rattle.lgc_formulas.proofs.TermsKept.{all_push, all_pass}
use Rattle.lgc_formulas.proofs.FormulasKept.{named_known, FormulaKept, formula_kept}
use Rattle.lgc_formulas.specs.Writable.{has_readable_term_names, has_readable_names, IsWritable}
use Rattle.lgc_formula_trip.proofs.WritableLaws.{names-Atom, names-Op, names-Quant}
use Rattle.lgc_formula_trip.proofs.WordTokens.{IsFormed, tokens_formed, IsFormedIn, named_formed, each_front, each_behind}
use Rattle.lgc_formula_trip.proofs.ReadNames.{AreReadable, terms_readable, term_readable}

-- ---- tokens that break no rule

kept_rules : (a b c d e : Bool) → first_broken ((a, UNKNOWN_NAME) ∷ ((b, TOO_DEEP) ∷ ((c || d, TOO_LARGE) ∷ ((e, NOT_PROPOSITIONAL) ∷ [])))) ≡ None → d ≡ false
kept_rules true b c d e h = absurd cc
kept_rules false true c d e h = absurd cc
kept_rules false false true d e h = absurd cc
kept_rules false false false true e h = absurd cc
kept_rules false false false false e h = refl

-- what has neither role is the name of none
unnamed : (logic : Logic) (text : List ℕ) → role_of logic text ≡ role.Neither → (is_none (operator_named logic text) ≡ true) × (is_none (quantifier_named logic text) ≡ true)
unnamed logic text = by (operator_named logic text) (quantifier_named logic text)
  where
    by : (op quant : Option ℕ) → role_among op quant ≡ role.Neither → (is_none op ≡ true) × (is_none quant ≡ true)
    by (Some op) quant e = absurd cc
    by None (Some quant) e = absurd cc
    by None None e = (refl, refl)

predicate_parts : (r : Role) (c : Class) → predicates r c ≡ true → (r ≡ role.Neither) × (is_lower c ≡ true)
predicate_parts (role.Operator op) c h = absurd cc
predicate_parts (role.Quantifier quant) c h = absurd cc
predicate_parts role.Neither c h = (refl, h)

seen_formed : (logic : Logic) (ts : List Named) → AllByRecursion (IsFormedIn logic) ts → AllByRecursion IsFormed (map (λ (t : Named). t.spelled) ts)
seen_formed logic [] each = tt
seen_formed logic (t ∷ ts) (h, each) = (h.formed, seen_formed logic ts each)

module _ (s : Setting) where
  abbrev Formed : List Named → Type 0
  Formed ts = AllByRecursion (IsFormedIn s.logic) ts

  abbrev IsReadable : Formula → Type 0
  IsReadable f = has_readable_names s.logic (numbered s) f ≡ true

  -- the names in each formula that a number stands for are readable
  abbrev pub LetsReadable : Type 0
  LetsReadable = (number : Option ℕ) (f : Formula) → let_at s number ≡ Some f → IsReadable f

  -- ---- operands

  module _ (L : ℕ → Grammar Named Read) (each : (many : ℕ) (x : Read) (ts : List Named) → Formed ts → L many (Ok x) ts → IsReadable x.formula) where
    more_operands_readable : (k : ℕ) (before : Formulas) (r : List Formula × ℕ) (ts : List Named) → Formed ts → AllByRecursion IsReadable before.list → MoreOperands L k before (Ok r) ts → AllByRecursion IsReadable r.0
    more_operands_readable zero before r ts formed kept h = by before.is_bare h
      where
        by : (b : Bool) → Barred b ends_argument WRONG_ARITY (Either (Refused (is Comma) (λ _. WRONG_ARITY)) (Mapped (λ _. (before.list, before.nodes_left)) (One (is CloseRound)))) (Ok r) ts → AllByRecursion IsReadable r.0
        by true g = absurd g
        by false (inl g) = absurd g
        by false (inr (close, e, g)) = subst (λ (q : List Formula × ℕ). AllByRecursion IsReadable q.0) (sym e) kept
    more_operands_readable (suc k) before r ts formed kept h = by (more_operands_readable k) before.is_bare h
      where
        by : ((fs : Formulas) (q : List Formula × ℕ) (us : List Named) → Formed us → AllByRecursion IsReadable fs.list → MoreOperands L k fs (Ok q) us → AllByRecursion IsReadable q.0) → (b : Bool) → Barred b ends_argument WRONG_ARITY (Either (Refused (is CloseRound) (λ _. WRONG_ARITY)) (Then (One (is Comma)) (λ _. Then (L before.nodes_left) (λ x. MoreOperands L k (with_formula before.list x))))) (Ok r) ts → AllByRecursion IsReadable r.0
        by again true g = absurd g
        by again false (inl g) = absurd g
        by again false (inr (comma, v, w, p, (x, v2, w2, hx, more, s2), s1)) =
            let parts : Formed (v2 ++ w2) = subst Formed s2 (each_behind (IsFormedIn s.logic) v w (subst Formed s1 formed)) in
            again (with_formula before.list x) r w2 (each_behind (IsFormedIn s.logic) v2 w2 parts) (all_push IsReadable before.list x.formula kept (each before.nodes_left x v2 (each_front (IsFormedIn s.logic) v2 w2 parts) hx)) more

    operands_readable : (k many : ℕ) (r : List Formula × ℕ) (ts : List Named) → Formed ts → Operands L k many (Ok r) ts → AllByRecursion IsReadable r.0
    operands_readable k many r ts formed (o, v, w, p, (x, v2, w2, hx, more, s2), s1) =
        let parts : Formed (v2 ++ w2) = subst Formed s2 (each_behind (IsFormedIn s.logic) v w (subst Formed s1 formed)) in
        more_operands_readable k (with_formula [] x) r w2 (each_behind (IsFormedIn s.logic) v2 w2 parts) (each many x v2 (each_front (IsFormedIn s.logic) v2 w2 parts) hx, tt) more

    operator_readable : (op : ℕ) (args : List Formula) → AllByRecursion IsReadable args → IsReadable (Op op args)
    operator_readable op args all = names-Op s.logic (numbered s) op args ∙ all_pass (has_readable_names s.logic (numbered s)) args all

    behind_operator_readable : (arity op many : ℕ) (x : Read) (ts : List Named) → Formed ts → BehindOperator L arity op many (Ok x) ts → IsReadable x.formula
    behind_operator_readable zero op many x ts formed (inl h) = absurd h
    behind_operator_readable zero op many x ts formed (inr (e, n)) = subst (λ (y : Read). IsReadable y.formula) (sym e) (operator_readable op [] tt)
    behind_operator_readable (suc k) op many x ts formed (inl (r, e, h)) = subst (λ (y : Read). IsReadable y.formula) (sym e) (operator_readable op r.0 (operands_readable k many r ts formed h))
    behind_operator_readable (suc k) op many x ts formed (inr (e, n)) = subst (λ (y : Read). IsReadable y.formula) (sym e) (operator_readable op [] tt)

  -- ---- quantifiers, atoms, formulas with numbers

  close_quantifier_readable : (quant : ℕ) (body x : Read) (ts : List Named) → IsReadable body.formula → CloseQuantifier quant body (Ok x) ts → IsReadable x.formula
  close_quantifier_readable quant body x ts k = by body.is_bare
    where
      by : (b : Bool) → Barred b (is CloseRound) WRONG_ARITY (Then (One (is CloseRound)) (λ _. Nothing (as_whole (Quant quant body.formula) body.nodes_left))) (Ok x) ts → IsReadable x.formula
      by true g = absurd g
      by false (close, v, w, p, (e, n), split) = subst (λ (y : Read). IsReadable y.formula) (sym e) (names-Quant s.logic (numbered s) quant body.formula ∙ k)

  atom_readable : (deep many : ℕ) (t : Named) (args : List Term) → IsFormedIn s.logic t → is_predicate t ≡ true → formula_fault s deep many t ≡ None → AreReadable (numbered s) args → IsReadable (Atom (text_of t) args)
  atom_readable deep many t args formed predicate none each =
      let (neither, lower) = predicate_parts t.role (tokens.class_of t.spelled) predicate in
      let (no_operator, no_quantifier) = unnamed s.logic (text_of t) (sym formed.role ∙ neither) in
      let short = kept_rules (is_unknown t) _ (nat_lt many (nodes_shown (stands_for s t))) (is_predicate t && is_too_long (numbered s) (text_of t)) _ none in
      let fine : is_too_long (numbered s) (text_of t) ≡ false = ap (λ b. b && is_too_long (numbered s) (text_of t)) (sym predicate) ∙ short in
      names-Atom s.logic (numbered s) (text_of t) args ∙ rw (formed.formed.lower lower, fine, no_operator, no_quantifier) (all_pass (has_readable_term_names (numbered s)) args each)

  numbered_readable : LetsReadable → (many : ℕ) (n : Named) → number_fault s n ≡ None → IsReadable (numbered_formula (let_of s n) many).formula
  numbered_readable lets many n told = by (let_of s n) refl told
    where
      by : (o : Option Formula) → let_of s n ≡ o → fault_if (is_none o) UNKNOWN_NUMBER ≡ None → IsReadable (numbered_formula o many).formula
      by None e known = absurd cc
      by (Some f) e known = lets _ f e

-- ---- all formulas

pub formula_readable : (s : Setting) → LetsReadable s → (deep : ℕ) (names : List (List ℕ)) (many : ℕ) (x : Read) (ts : List Named) → AllByRecursion (IsFormedIn s.logic) ts → FormulaPhrase s deep names many (Ok x) ts → has_readable_names s.logic (numbered s) x.formula ≡ true
formula_readable s lets zero names many x ts formed h = absurd h
formula_readable s lets (suc deep) names many x ts formed (inl (t, v, w, (passes, none, one), behind, s1)) =
    let all = subst (AllByRecursion (IsFormedIn s.logic)) (s1 ∙ ap (λ (u : List Named). u ++ w) one) formed in
    behind_operator_readable s (FormulaPhrase s deep names) (formula_readable s lets deep names) (operator_at s.logic (operator_of t.role)).arity (operator_of t.role) (many - 1) x w all.1 behind
formula_readable s lets (suc deep) names many x ts formed (inr (inl (t, v1, w1, (passes, none, one), (o, v2, w2, p2, (name, v3, w3, p3, (c, v4, w4, p4, (body, v5, w5, inside, close, s5), s4), s3), s2), s1))) =
    let all = subst (AllByRecursion (IsFormedIn s.logic)) (s1 ∙ ap (λ (u : List Named). u ++ w1) one) formed in
    let at2 = each_behind (IsFormedIn s.logic) v2 w2 (subst (AllByRecursion (IsFormedIn s.logic)) s2 all.1) in
    let at3 = each_behind (IsFormedIn s.logic) v3 w3 (subst (AllByRecursion (IsFormedIn s.logic)) s3 at2) in
    let at4 = each_behind (IsFormedIn s.logic) v4 w4 (subst (AllByRecursion (IsFormedIn s.logic)) s4 at3) in
    let at5 = each_front (IsFormedIn s.logic) v5 w5 (subst (AllByRecursion (IsFormedIn s.logic)) s5 at4) in
    close_quantifier_readable s (quantifier_of t.role) body x w5 (formula_readable s lets deep (text_of name ∷ names) (many - 1) body v5 at5 inside) close
formula_readable s lets (suc deep) names many x ts formed (inr (inr (inl (h, v1, w1, (passes, none, one), (n, v2, w2, (is, told, two), (e, empty), s2), s1)))) =
    subst (λ (y : Read). has_readable_names s.logic (numbered s) y.formula ≡ true) (sym e) (numbered_readable s lets many n told)
formula_readable s lets (suc deep) names many x ts formed (inr (inr (inr (t, v, w, (passes, none, one), (xs, v2, w2, terms, (e, n), s2), s1)))) =
    let all = subst (AllByRecursion (IsFormedIn s.logic)) (s1 ∙ ap (λ (u : List Named). u ++ w) one) formed in
    let args = seen_formed s.logic v2 (each_front (IsFormedIn s.logic) v2 w2 (subst (AllByRecursion (IsFormedIn s.logic)) s2 all.1)) in
    let k = terms_readable (numbered s) (TermPhrase (numbered s) names deep) (term_readable (numbered s) names deep) (many - 1) xs (map (λ (u : Named). u.spelled) v2) args terms in
    subst (λ (y : Read). has_readable_names s.logic (numbered s) y.formula ≡ true) (sym e) (atom_readable s (suc deep) many t xs.0 all.0 passes none k)

-- the formula of a text can be written
pub read_is_writable : (logic : Logic) (bytes : List ℕ) (f : Formula) → IsFormulaText logic bytes f → IsWritable logic false MOST_NODES f
read_is_writable logic bytes f text =
    let (x, is, (whole, h)) = text.derived in
    let ts : List Named = named_all logic bytes text.tokens in
    let k : FormulaKept (text_setting logic) 0 MOST_DEPTH MOST_NODES x = formula_kept (text_setting logic) MOST_DEPTH [] MOST_NODES x ts (named_known logic bytes text.tokens) h in
    let named = formula_readable (text_setting logic) (λ number g e. absurd cc) MOST_DEPTH [] MOST_NODES x ts (named_formed logic bytes text.tokens (tokens_formed bytes text.tokens text.lexed)) h in
    subst (λ (g : Formula). IsWritable logic false MOST_NODES g) (sym is) (record { fits = k.fits tt whole; named = named; shallow = k.shallow; small = omega (arith, k.counted) })
