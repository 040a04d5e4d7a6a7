-- The formulas of the grammar fit the logic, unless they are bare, and keep the limits; their nodes are counted.
use Rattle.std.proofs.Common.{◌≡◌, ◌≤◌, ◌<◌, ◌+◌, ◌-◌, ℕ, zero, suc, Bool, true, false, List, [], ◌∷◌, ◌++◌, length, map, All, Option, Some, None, Ok, inl, inr, refl, sym, ap, subst, ◌∙◌, arith, length-append}
use Rattle.std.specs.Prelude.{IfSome, unwrap_or, ◌||◌, ◌&&◌, not, is_none}
use Rattle.std.specs.Str.{bytes_eq}
use Rattle.std.specs.List.{AllByRecursion, list_any, sum_by}
use Rattle.std.proofs.lemmas.Bool.{lt-ltb, ltb-false, eq-eqb, and_parts}
use Rattle.std.proofs.lemmas.Option.{unwrap_or-slice_get, slice_get_within}
use Rattle.std.proofs.lemmas.List.Quantifiers.{position-Some}
use Rattle.lgc_grammar.specs.Grammar.{Grammar, fault_if, Barred, Either, Refused, Mapped, One, Then, Nothing}
use Rattle.lgc_grammar.proofs.Readers.{or_left}
use Rattle.lgc_lexer.specs.declared.token.Token.{Token}
use Rattle.lgc_lexer.specs.Spans.{content_of}
use Rattle.lgc_values.specs.declared.matrix.Operator.{Operator}
use Rattle.lgc_values.specs.declared.matrix.Quantifier.{Quantifier}
use Rattle.lgc_values.specs.Logic.{Logic, operator_at, operator_named, quantifier_named}
use Rattle.lgc_syntax.specs.declared.fault.TheConstants.{UNKNOWN_NAME, WRONG_ARITY, TOO_DEEP, TOO_LARGE, NOT_PROPOSITIONAL, UNKNOWN_NUMBER}
use Rattle.lgc_syntax.specs.declared.formula.Term.{Term}
use Rattle.lgc_syntax.specs.declared.formula.Formula.{Formula, Atom, Op, Quant}
use Rattle.lgc_syntax.specs.Fits.{term_fits, fits_within, Fits}
use Rattle.lgc_syntax.specs.Sizes.{term_depth, nodes, depth, has_quantifier}
use Rattle.lgc_syntax.proofs.FitsLaws.{fits_within-Atom, fits_within-Op, fits_within-Quant}
use Rattle.lgc_syntax.proofs.SizeLaws.{nodes-Atom, nodes-Op, nodes-Quant, nodes_positive, depth-Atom, depth-Op, depth-Quant, has_quantifier-Atom, has_quantifier-Op}
use Rattle.lgc_tokens.specs.declared.class.Class.TheVariants.{Hash, CloseRound, Comma}
use Rattle.lgc_tokens.specs.Numbers.{long_number_in}
use Rattle.lgc_tokens.specs.Classes as tokens
use Rattle.lgc_formulas.specs.declared.role.Role.{Role}
use Rattle.lgc_formulas.specs.declared.role.Role.TheVariants as role
use Rattle.lgc_formulas.specs.declared.formula.Read.{Read}
use Rattle.lgc_formulas.specs.Named.{Named, role_among, role_of, number_written, named_all, text_of, operator_of, quantifier_of, is, is_hash, is_number, is_unknown, is_quantifier, starts_operator, begins_operator, unknown_names, quantifiers}
use Rattle.lgc_formulas.specs.Setting.{Setting, numbered, let_among, let_at}
use Rattle.lgc_formulas.specs.Limits.{LetsFit}
use Rattle.lgc_formulas.specs.Faults.{first_broken, stands_for, depth_shown, nodes_shown, quantifier_shown, formula_fault, let_of, number_fault}
use Rattle.lgc_formulas.specs.TermGrammar.{Counted, TermPhrase}
use Rattle.lgc_formulas.specs.declared.formula.Formulas.{Formulas}
use Rattle.lgc_formulas.specs.FormulaGrammar.{as_whole, as_bare, with_formula, numbered_formula, ends_argument, MoreOperands, Operands, BehindOperator, CloseQuantifier, FormulaPhrase}
use Rattle.lgc_formulas.proofs.TermsKept.{all_push, all_pass, greatest_at_most, sum_push, TermsKept, terms_kept, term_kept}
use Rattle.lgc_formulas.proofs.FitsAround.{fits_more}

-- ---- tokens

-- the operator or the quantifier is one of the logic
abbrev pub IsKnown : Logic → Role → Type 0
IsKnown logic (role.Operator op) = op < length logic.operators
IsKnown logic (role.Quantifier quant) = quant < length logic.quantifiers
IsKnown logic role.Neither = Unit {0}

-- the token says which number is behind it
abbrev pub SaysNumber : Named → List Named → Type 0
SaysNumber t [] = Unit {0}
SaysNumber t (u ∷ _) = t.number_behind ≡ number_written u.spelled

-- What is used of tokens as the logic knows them.
abbrev pub AreKnown : Logic → List Named → Type 0
AreKnown logic [] = Unit {0}
AreKnown logic (t ∷ ts) = IsKnown logic t.role × SaysNumber t ts × AreKnown logic ts

role_known : (logic : Logic) (text : List ℕ) → IsKnown logic (role_of logic text)
role_known logic text = by (operator_named logic text) (quantifier_named logic text) refl refl
  where
    by : (op quant : Option ℕ) → operator_named logic text ≡ op → quantifier_named logic text ≡ quant → IsKnown logic (role_among op quant)
    by (Some op) quant e f = (position-Some (λ (o : Operator). bytes_eq o.name text) logic.operators op (record { name = []; arity = 0; table = [] }) e).0
    by None (Some quant) e f = (position-Some (λ (q : Quantifier). bytes_eq q.name text) logic.quantifiers quant (record { name = []; table = [] }) f).0
    by None None e f = tt

pub named_known : (logic : Logic) (bytes : List ℕ) (ts : List Token) → AreKnown logic (named_all logic bytes ts)
named_known logic bytes [] = tt
named_known logic bytes (t ∷ []) = (role_known logic (content_of bytes t), tt, tt)
named_known logic bytes (t ∷ (u ∷ ts)) = (role_known logic (content_of bytes t), refl, named_known logic bytes (u ∷ ts))

pub known_front : (logic : Logic) (v w : List Named) → AreKnown logic (v ++ w) → AreKnown logic v
known_front logic [] w h = tt
known_front logic (t ∷ []) w (known, says, others) = (known, tt, tt)
known_front logic (t ∷ (u ∷ v)) w (known, says, others) = (known, says, known_front logic (u ∷ v) w others)

pub known_behind : (logic : Logic) (v w : List Named) → AreKnown logic (v ++ w) → AreKnown logic w
known_behind logic [] w h = h
known_behind logic (t ∷ v) w (known, says, others) = known_behind logic v w others

-- ---- lists

none_pass : {X : Type 0} (p : X → Bool) (xs : List X) → AllByRecursion (λ x. p x ≡ false) xs → list_any p xs ≡ false
none_pass p [] each = refl
none_pass p (x ∷ xs) (h, each) = rw h (none_pass p xs each)

-- ---- formulas

-- the formula that a number stands for is one of the logic, where each is
let_fits : (s : Setting) → LetsFit s → (number : Option ℕ) (f : Formula) → let_at s number ≡ Some f → Fits s.logic f
let_fits s = by s.lets
  where
    by : (lets : Option (List Formula)) → IfSome lets (All (Fits s.logic)) → (number : Option ℕ) (f : Formula) → let_among lets number ≡ Some f → Fits s.logic f
    by None h number f e = absurd cc
    by (Some lets) h None f e = absurd cc
    by (Some lets) h (Some zero) f e = absurd cc
    by (Some lets) h (Some (suc k)) f e = subst (Fits s.logic) (sym (unwrap_or-slice_get lets k f) ∙ ap (λ (o : Option Formula). unwrap_or o f) e) (h k f (slice_get_within lets k f e))

module _ (s : Setting) where
  -- A formula that was read with these limits, where so many quantifiers stand around it.
  pub record FormulaKept (around deep many : ℕ) (x : Read) : Type 0 where
    pub fits : LetsFit s → x.is_bare ≡ false → fits_within s.logic x.formula around ≡ true
    pub shallow : depth x.formula ≤ deep
    pub counted : nodes x.formula + x.nodes_left ≡ many
    pub plain : s.quantified ≡ false → has_quantifier x.formula ≡ false

  -- Formulas in a row that were.
  pub record FormulasKept (around deep many : ℕ) (fs : Formulas) : Type 0 where
    pub fit : LetsFit s → fs.is_bare ≡ false → AllByRecursion (λ f. fits_within s.logic f around ≡ true) fs.list
    pub shallow : AllByRecursion (λ f. depth f ≤ deep) fs.list
    pub counted : sum_by nodes fs.list + fs.nodes_left ≡ many
    pub plain : s.quantified ≡ false → AllByRecursion (λ f. has_quantifier f ≡ false) fs.list

  pub push_formula : (around deep many : ℕ) (fs : Formulas) (x : Read) → fs.is_bare ≡ false → FormulasKept around deep many fs → FormulaKept around deep fs.nodes_left x → FormulasKept around deep many (with_formula fs.list x)
  push_formula around deep many fs x whole before k = record {
    fit = λ lets bare. all_push (λ f. fits_within s.logic f around ≡ true) fs.list x.formula (before.fit lets whole) (k.fits lets bare);
    shallow = all_push (λ f. depth f ≤ deep) fs.list x.formula before.shallow k.shallow;
    counted = omega (arith, sum_push nodes fs.list x.formula, before.counted, k.counted);
    plain = λ never. all_push (λ f. has_quantifier f ≡ false) fs.list x.formula (before.plain never) (k.plain never);
  }

  pub first_formula : (around deep many : ℕ) (x : Read) → FormulaKept around deep many x → FormulasKept around deep many (with_formula [] x)
  first_formula around deep many x k = record {
    fit = λ lets bare. (k.fits lets bare, tt);
    shallow = (k.shallow, tt);
    counted = omega (arith, sum_push nodes [] x.formula, k.counted);
    plain = λ never. (k.plain never, tt);
  }

  abbrev whole_list : List Formula × ℕ → Formulas
  whole_list r = record { list = r.0; nodes_left = r.1; is_bare = false }

  -- ---- operands

  module _ (L : ℕ → Grammar Named Read) (around deep : ℕ) (each : (many : ℕ) (x : Read) (ts : List Named) → AreKnown s.logic ts → L many (Ok x) ts → FormulaKept around deep many x) where
    more_operands_kept : (k many : ℕ) (before : Formulas) (r : List Formula × ℕ) (ts : List Named) → AreKnown s.logic ts → FormulasKept around deep many before → MoreOperands L k before (Ok r) ts → FormulasKept around deep many (whole_list r) × (length r.0 ≡ length before.list + k)
    more_operands_kept zero many before r ts known kept h = by before.is_bare refl h
      where
        by : (b : Bool) → before.is_bare ≡ b → Barred b ends_argument WRONG_ARITY (Either (Refused (is Comma) (λ _. WRONG_ARITY)) (Mapped (λ _. (before.list, before.nodes_left)) (One (is CloseRound)))) (Ok r) ts → FormulasKept around deep many (whole_list r) × (length r.0 ≡ length before.list + 0)
        by true bare g = absurd g
        by false whole (inl g) = absurd g
        by false whole (inr (close, e, g)) = rw e (record { fit = λ lets _. kept.fit lets whole; shallow = kept.shallow; counted = kept.counted; plain = kept.plain }, omega arith)
    more_operands_kept (suc k) many before r ts known kept h = by (more_operands_kept k many) before.is_bare refl h
      where
        by : ((fs : Formulas) (q : List Formula × ℕ) (us : List Named) → AreKnown s.logic us → FormulasKept around deep many fs → MoreOperands L k fs (Ok q) us → FormulasKept around deep many (whole_list q) × (length q.0 ≡ length fs.list + k)) → (b : Bool) → before.is_bare ≡ b → Barred b ends_argument WRONG_ARITY (Either (Refused (is CloseRound) (λ _. WRONG_ARITY)) (Then (One (is Comma)) (λ _. Then (L before.nodes_left) (λ x. MoreOperands L k (with_formula before.list x))))) (Ok r) ts → FormulasKept around deep many (whole_list r) × (length r.0 ≡ length before.list + suc k)
        by again true bare g = absurd g
        by again false whole (inl g) = absurd g
        by again false whole (inr (comma, v, w, p, (x, v2, w2, hx, more, s2), s1)) =
            let others = known_behind s.logic v w (subst (AreKnown s.logic) s1 known) in
            let parts : AreKnown s.logic (v2 ++ w2) = subst (AreKnown s.logic) s2 others in
            let next = push_formula around deep many before x whole kept (each before.nodes_left x v2 (known_front s.logic v2 w2 parts) hx) in
            let (all, long) = again (with_formula before.list x) r w2 (known_behind s.logic v2 w2 parts) next more in
            (all, omega (arith, long, length-append before.list (x.formula ∷ [])))

    operands_kept : (k many : ℕ) (r : List Formula × ℕ) (ts : List Named) → AreKnown s.logic ts → Operands L k many (Ok r) ts → FormulasKept around deep many (whole_list r) × (length r.0 ≡ suc k)
    operands_kept k many r ts known (o, v, w, p, (x, v2, w2, hx, more, s2), s1) =
        let others = known_behind s.logic v w (subst (AreKnown s.logic) s1 known) in
        let parts : AreKnown s.logic (v2 ++ w2) = subst (AreKnown s.logic) s2 others in
        let first = first_formula around deep many x (each many x v2 (known_front s.logic v2 w2 parts) hx) in
        let (all, long) = more_operands_kept k many (with_formula [] x) r w2 (known_behind s.logic v2 w2 parts) first more in
        (all, omega (arith, long))

    -- an operator of the logic with as many arguments as its arity
    whole_operator : (op many : ℕ) (r : List Formula × ℕ) → op < length s.logic.operators → length r.0 ≡ (operator_at s.logic op).arity → 1 ≤ many → FormulasKept around deep (many - 1) (whole_list r) → FormulaKept around (suc deep) many (as_whole (Op op r.0) r.1)
    whole_operator op many r known long room k = record {
      fits = λ lets _. fits_within-Op s.logic op r.0 around ∙ rw (lt-ltb op (length s.logic.operators) known, eq-eqb (length r.0) (operator_at s.logic op).arity long) (all_pass (λ f. fits_within s.logic f around) r.0 (k.fit lets refl));
      shallow = omega (arith, depth-Op op r.0, greatest_at_most depth r.0 deep k.shallow);
      counted = omega (arith, nodes-Op op r.0, k.counted);
      plain = λ never. has_quantifier-Op op r.0 ∙ none_pass has_quantifier r.0 (k.plain never);
    }

    -- its name alone
    bare_operator : (op many : ℕ) → 1 ≤ many → FormulaKept around (suc deep) many (as_bare op (many - 1))
    bare_operator op many room = record {
      fits = λ lets whole. absurd cc;
      shallow = omega (arith, depth-Op op [], greatest_at_most depth [] 0 tt);
      counted = omega (arith, nodes-Op op []);
      plain = λ never. has_quantifier-Op op [];
    }

    behind_operator_kept : (arity op many : ℕ) (x : Read) (ts : List Named) → AreKnown s.logic ts → op < length s.logic.operators → arity ≡ (operator_at s.logic op).arity → 1 ≤ many → BehindOperator L arity op (many - 1) (Ok x) ts → FormulaKept around (suc deep) many x
    behind_operator_kept zero op many x ts known is arity room (inl h) = absurd h
    behind_operator_kept zero op many x ts known is arity room (inr (e, n)) = rw e (whole_operator op many ([], many - 1) is arity room (record { fit = λ _ _. tt; shallow = tt; counted = omega arith; plain = λ _. tt }))
    behind_operator_kept (suc k) op many x ts known is arity room (inl (r, e, h)) =
        let (all, long) = operands_kept k (many - 1) r ts known h in
        rw e (whole_operator op many r is (long ∙ arity) room all)
    behind_operator_kept (suc k) op many x ts known is arity room (inr (e, n)) = rw e (bare_operator op many room)

  -- ---- first tokens that break no rule

  kept_rules : (a b c d : Bool) → first_broken ((a, UNKNOWN_NAME) ∷ ((b, TOO_DEEP) ∷ ((c, TOO_LARGE) ∷ ((d, NOT_PROPOSITIONAL) ∷ [])))) ≡ None → (a ≡ false) × (b ≡ false) × (c ≡ false) × (d ≡ false)
  kept_rules true b c d e = absurd cc
  kept_rules false true c d e = absurd cc
  kept_rules false false true d e = absurd cc
  kept_rules false false false true e = absurd cc
  kept_rules false false false false e = (refl, refl, refl, refl)

  neither : (a b allowed : Bool) → ((a || b) && not allowed) ≡ false → allowed ≡ false → (a ≡ false) × (b ≡ false)
  neither true b false e f = absurd cc
  neither false true false e f = absurd cc
  neither false false false e f = (refl, refl)
  neither a b true e f = absurd cc

  module _ (deep many : ℕ) (t : Named) (none : formula_fault s deep many t ≡ None) where
    is_known_name : is_unknown t ≡ false
    is_known_name = (kept_rules _ _ _ _ none).0

    deep_enough : depth_shown (stands_for s t) ≤ deep
    deep_enough = ltb-false deep (depth_shown (stands_for s t)) (kept_rules _ _ _ _ none).1

    room_enough : nodes_shown (stands_for s t) ≤ many
    room_enough = ltb-false many (nodes_shown (stands_for s t)) (or_left _ _ (kept_rules _ _ _ _ none).2)

    no_quantifier : s.quantified ≡ false → (is_quantifier t ≡ false) × (quantifier_shown (stands_for s t) ≡ false)
    no_quantifier never = neither (is_quantifier t) (quantifier_shown (stands_for s t)) s.quantified (kept_rules _ _ _ _ none).3 never

    has_room : 1 ≤ many
    has_room = let one = shown (stands_for s t) in omega (arith, room_enough, one)
      where
        shown : (o : Option Formula) → 1 ≤ nodes_shown o
        shown None = omega arith
        shown (Some f) = nodes_positive f

    operator_known : starts_operator t ≡ true → IsKnown s.logic t.role → operator_of t.role < length s.logic.operators
    operator_known starts = by t.role starts is_known_name
      where
        by : (r : Role) → begins_operator r (tokens.class_of t.spelled) ≡ true → unknown_names r (tokens.class_of t.spelled) ≡ false → IsKnown s.logic r → operator_of r < length s.logic.operators
        by (role.Operator op) passes named known = known
        by (role.Quantifier quant) passes named known = absurd cc
        by role.Neither passes named known = absurd cc

    quantifier_known : is_quantifier t ≡ true → IsKnown s.logic t.role → quantifier_of t.role < length s.logic.quantifiers
    quantifier_known starts = by t.role starts
      where
        by : (r : Role) → quantifiers r (tokens.class_of t.spelled) ≡ true → IsKnown s.logic r → quantifier_of r < length s.logic.quantifiers
        by (role.Operator op) passes known = absurd cc
        by (role.Quantifier quant) passes known = known
        by role.Neither passes known = absurd cc

  -- ---- quantifiers

  whole_quantifier : (around deep many quant : ℕ) (body : Read) → quant < length s.logic.quantifiers → (s.quantified ≡ false → ⊥) → 1 ≤ many → body.is_bare ≡ false → FormulaKept (suc around) deep (many - 1) body → FormulaKept around (suc deep) many (as_whole (Quant quant body.formula) body.nodes_left)
  whole_quantifier around deep many quant body known allowed room whole k = record {
    fits = λ lets _. fits_within-Quant s.logic quant body.formula around ∙ rw (lt-ltb quant (length s.logic.quantifiers) known) (subst (λ (n : ℕ). fits_within s.logic body.formula n ≡ true) (omega arith) (k.fits lets whole));
    shallow = omega (arith, depth-Quant quant body.formula, k.shallow);
    counted = omega (arith, nodes-Quant quant body.formula, k.counted);
    plain = λ never. absurd (allowed never);
  }

  close_quantifier_kept : (around deep many quant : ℕ) (body x : Read) (ts : List Named) → quant < length s.logic.quantifiers → (s.quantified ≡ false → ⊥) → 1 ≤ many → FormulaKept (suc around) deep (many - 1) body → CloseQuantifier quant body (Ok x) ts → FormulaKept around (suc deep) many x
  close_quantifier_kept around deep many quant body x ts known allowed room k h = by body.is_bare refl h
    where
      by : (b : Bool) → body.is_bare ≡ b → Barred b (is CloseRound) WRONG_ARITY (Then (One (is CloseRound)) (λ _. Nothing (as_whole (Quant quant body.formula) body.nodes_left))) (Ok x) ts → FormulaKept around (suc deep) many x
      by true bare g = absurd g
      by false whole (close, v, w, p, (e, n), split) = rw e (whole_quantifier around deep many quant body known allowed room whole k)

  -- ---- atoms

  atom_kept : (around deep many : ℕ) (p : List ℕ) (xs : Counted (List Term)) → 1 ≤ many → TermsKept around deep (many - 1) xs → FormulaKept around (suc deep) many (as_whole (Atom p xs.0) xs.1)
  atom_kept around deep many p xs room k = record {
    fits = λ _ _. fits_within-Atom s.logic p xs.0 around ∙ all_pass (λ t. term_fits t around) xs.0 k.fit;
    shallow = omega (arith, depth-Atom p xs.0, greatest_at_most term_depth xs.0 deep k.shallow);
    counted = omega (arith, nodes-Atom p xs.0, k.counted);
    plain = λ never. has_quantifier-Atom p xs.0;
  }

  -- ---- formulas with numbers

  -- what the # stands for is what the number behind it does
  same_formula_shown : (h n : Named) → is_hash (numbered s) h ≡ true → is_number n ≡ true → h.number_behind ≡ number_written n.spelled → stands_for s h ≡ let_of s n
  same_formula_shown h n hash number says =
      let (lets, symbol) = and_parts (numbered s) (is Hash h) hash in
      let written : h.number_behind ≡ long_number_in (text_of n) = says ∙ rw number refl in
      rw symbol (ap (let_at s) written)

  numbered_kept : (around deep many : ℕ) (h n : Named) → formula_fault s deep many h ≡ None → stands_for s h ≡ let_of s n → number_fault s n ≡ None → FormulaKept around deep many (numbered_formula (let_of s n) many)
  numbered_kept around deep many h n none same told = by (let_of s n) refl told
    where
      by : (o : Option Formula) → let_of s n ≡ o → fault_if (is_none o) UNKNOWN_NUMBER ≡ None → FormulaKept around deep many (numbered_formula o many)
      by None e known = absurd cc
      by (Some f) e known = record {
        fits = λ lets _. fits_more s.logic f 0 around (omega arith) (let_fits s lets (long_number_in (text_of n)) f e);
        shallow = subst (λ (o : Option Formula). depth_shown o ≤ deep) (same ∙ e) (deep_enough deep many h none);
        counted = let enough : nodes f ≤ many = subst (λ (o : Option Formula). nodes_shown o ≤ many) (same ∙ e) (room_enough deep many h none) in omega (arith, enough);
        plain = λ never. subst (λ (o : Option Formula). quantifier_shown o ≡ false) (same ∙ e) (no_quantifier deep many h none never).1;
      }

-- ---- all formulas

pub formula_kept : (s : Setting) (deep : ℕ) (names : List (List ℕ)) (many : ℕ) (x : Read) (ts : List Named) → AreKnown s.logic ts → FormulaPhrase s deep names many (Ok x) ts → FormulaKept s (length names) deep many x
formula_kept s zero names many x ts known h = absurd h
formula_kept s (suc deep) names many x ts known (inl (t, v, w, (passes, none, one), behind, s1)) =
    let all : AreKnown s.logic (t ∷ w) = subst (AreKnown s.logic) (s1 ∙ ap (λ (u : List Named). u ++ w) one) known in
    behind_operator_kept s (FormulaPhrase s deep names) (length names) deep (formula_kept s deep names) (operator_at s.logic (operator_of t.role)).arity (operator_of t.role) many x w all.2 (operator_known s (suc deep) many t none passes all.0) refl (has_room s (suc deep) many t none) behind
formula_kept s (suc deep) names many x ts known (inr (inl (t, v1, w1, (passes, none, one), (o, v2, w2, p2, (name, v3, w3, p3, (c, v4, w4, p4, (body, v5, w5, inside, close, s5), s4), s3), s2), s1))) =
    let all : AreKnown s.logic (t ∷ w1) = subst (AreKnown s.logic) (s1 ∙ ap (λ (u : List Named). u ++ w1) one) known in
    let at2 = known_behind s.logic v2 w2 (subst (AreKnown s.logic) s2 all.2) in
    let at3 = known_behind s.logic v3 w3 (subst (AreKnown s.logic) s3 at2) in
    let at4 = known_behind s.logic v4 w4 (subst (AreKnown s.logic) s4 at3) in
    let at5 = known_front s.logic v5 w5 (subst (AreKnown s.logic) s5 at4) in
    let k : FormulaKept s (suc (length names)) deep (many - 1) body = formula_kept s deep (text_of name ∷ names) (many - 1) body v5 at5 inside in
    let allowed : s.quantified ≡ false → ⊥ = λ never. let bars = (no_quantifier s (suc deep) many t none never).0 in cc in
    close_quantifier_kept s (length names) deep many (quantifier_of t.role) body x w5 (quantifier_known s (suc deep) many t none passes all.0) allowed (has_room s (suc deep) many t none) k close
formula_kept s (suc deep) names many x ts known (inr (inr (inl (h, v1, w1, (passes, none, one), (n, v2, w2, (is, told, two), (e, empty), s2), s1)))) =
    let tokens : ts ≡ h ∷ (n ∷ []) = s1 ∙ rw (one, s2, two, empty) refl in
    let all : AreKnown s.logic (h ∷ (n ∷ [])) = subst (AreKnown s.logic) tokens known in
    rw e (numbered_kept s (length names) (suc deep) many h n none (same_formula_shown s h n passes is all.1) told)
formula_kept s (suc deep) names many x ts known (inr (inr (inr (t, v, w, (passes, none, one), (xs, v2, w2, terms, (e, n), s2), s1)))) =
    let k = terms_kept (TermPhrase (numbered s) names deep) (length names) deep (term_kept (numbered s) names deep) (many - 1) xs (map (λ (u : Named). u.spelled) v2) terms in
    rw e (atom_kept s (length names) deep many (text_of t) xs (has_room s (suc deep) many t none) k)
