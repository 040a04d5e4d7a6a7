-- The text of a formula is written for it: the grammar of formulas derives the formula from tokens of the text.
use Rattle.std.proofs.Common.{◌≡◌, ℕ, zero, suc, ◌+◌, ◌-◌, ◌^◌, ◌<◌, ◌≤◌, true, false, List, [], ◌∷◌, ◌++◌, length, map, get_or, Option, None, Ok, refl, sym, ap, subst, ◌∙◌, append-nil, append_assoc, arith}
use Rattle.std.specs.Prelude.{codes, ◌&&◌, ◌==◌, nat_lt, not, unwrap_or, is_none}
use Rattle.std.specs.List.{AllByRecursion, list_all, list_any, sum_by}
use Rattle.std.proofs.lemmas.Bool.{and_parts, or_left, or_right, ltb-true, eqb-true, le-ltb, not-true}
use Rattle.std.proofs.lemmas.List.Recursion.{is_sum_by}
use Rattle.std.proofs.lemmas.Option.{slice_get-get_or}
use Rattle.lgc_grammar.specs.Grammar.{Grammar, One, Allowed, Refused, Nothing, Mapped, Then, Either}
use Rattle.lgc_grammar.specs.Seen.{Seen}
use Rattle.lgc_lexer.specs.declared.token.Kind.TheVariants as kind
use Rattle.lgc_values.specs.declared.matrix.Operator.{Operator}
use Rattle.lgc_values.specs.declared.matrix.Quantifier.{Quantifier}
use Rattle.lgc_values.specs.Logic.{Logic, IsLogic, IsPlainName, operator_at, quantifier_at, operator_named, quantifier_named}
use Rattle.lgc_syntax.specs.declared.fault.TheConstants.{WRONG_ARITY}
use Rattle.lgc_syntax.specs.declared.formula.Term.{Term}
use Rattle.lgc_syntax.specs.declared.formula.Formula.{Formula, Atom, Op, Quant}
use Rattle.lgc_syntax.specs.Fits.{fits_within}
use Rattle.lgc_syntax.specs.Sizes.{greatest, term_nodes, nodes, depth, has_quantifier}
use Rattle.lgc_syntax.proofs.FitsLaws.{fits_within-Atom, fits_within-Op, fits_within-Quant}
use Rattle.lgc_syntax.proofs.Induction.{formula_induction}
use Rattle.lgc_syntax.proofs.Lists.{each_always}
use Rattle.lgc_syntax.proofs.SizeLaws.{nodes-Atom, nodes-Op, nodes-Quant, depth-Atom, depth-Op, depth-Quant, has_quantifier-Op, has_quantifier-Quant}
use Rattle.lgc_tokens.specs.declared.class.Class.TheVariants.{Upper, Quoted, Hash, OpenRound, CloseRound, Comma}
use Rattle.lgc_tokens.specs.Spelled.{Spelled}
use Rattle.lgc_tokens.specs.Classes.{same, is_lower, names, class_of}
use Rattle.lgc_tokens.proofs.Tables.{off}
use Rattle.lgc_print.specs.Text.{is_lower_word, symbol_text}
use Rattle.lgc_print.specs.FormulaText.{in_brackets, binder, term_text, text_within}
use Rattle.lgc_print.proofs.FormulaTextLaws.{text-Atom, text-Op, text-Quant}
use Rattle.lgc_formulas.specs.declared.role.Role.{Role}
use Rattle.lgc_formulas.specs.declared.role.Role.TheVariants as role
use Rattle.lgc_formulas.specs.declared.formula.Formulas.{Formulas}
use Rattle.lgc_formulas.specs.declared.formula.Read.{Read}
use Rattle.lgc_formulas.specs.Named.{Named, text_of, role_of, operator_of, quantifier_of, is, is_predicate, is_quantifier, starts_operator}
use Rattle.lgc_formulas.specs.Setting.{Setting, numbered}
use Rattle.lgc_formulas.specs.Faults.{is_too_long, formula_fault}
use Rattle.lgc_formulas.specs.TermGrammar.{Counted, Terms, TermPhrase}
use Rattle.lgc_formulas.specs.FormulaGrammar.{as_whole, as_bare, with_formula, MoreOperands, Operands, BehindOperator, OperatorFormula, CloseQuantifier, QuantifierFormula, NumberedFormula, AtomFormula, FormulaPhrase}
use Rattle.lgc_formulas.specs.Writable.{can_name_predicate, has_readable_term_names, has_readable_names}
use Rattle.lgc_formula_trip.proofs.Cuts.{Lexeme, lexeme, sign, Anything, EndsWord, cut_open, cut_close, cut_comma}
use Rattle.lgc_formula_trip.proofs.Written.{Written, written_then, written_first, written_behind, written_one, written_nothing, written_mapped, written_left, written_right, written_weaker, written_text, written_tree, written_seen}
use Rattle.lgc_formula_trip.proofs.Tokens.{NamedAs, SpelledAs, is_open, is_close, is_comma, is_upper, is_lower_name, cut_binder, cut_lower, IsSymbol, symbol}
use Rattle.lgc_formula_trip.proofs.Binders.{binders, binders_more}
use Rattle.lgc_formula_trip.proofs.Roles.{neither_role, operator_role, quantifier_role}
use Rattle.lgc_formula_trip.proofs.TermTexts.{more_text, brackets_end, pair_same, TermWritten, each_ready, term_written, terms_written}
use Rattle.lgc_formula_trip.proofs.WritableLaws.{names-Atom, names-Op, names-Quant}

-- ---- the text of arguments, up to the bracket that closes them

-- `,p,q)`
abbrev tail_text : List (List ℕ) → List ℕ
tail_text [] = 41 ∷ []
tail_text (x ∷ xs) = 44 ∷ (x ++ tail_text xs)

tail_is : (xs : List (List ℕ)) → more_text xs ++ 41 ∷ [] ≡ tail_text xs
tail_is [] = refl
tail_is (x ∷ xs) = ap (λ t. 44 ∷ t) (append_assoc x (more_text xs) (41 ∷ []) ∙ ap (λ t. x ++ t) (tail_is xs))

brackets_are : (x : List ℕ) (xs : List (List ℕ)) → 40 ∷ (x ++ tail_text xs) ≡ in_brackets (x ∷ xs)
brackets_are x xs = ap (λ t. 40 ∷ t) (sym (append_assoc x (more_text xs) (41 ∷ []) ∙ ap (λ t. x ++ t) (tail_is xs)))

-- no word goes on in it
tail_ends : (xs : List (List ℕ)) (rest : List ℕ) → EndsWord (tail_text xs ++ rest)
tail_ends [] rest = refl
tail_ends (x ∷ xs) rest = refl

-- ---- the arguments of an operator, for any grammar of formulas and the text of one

module _ (logic : Logic) (L : ℕ → Grammar Named Read) (text : Formula → List ℕ) (cost : Formula → ℕ) where
  abbrev IsNamed : Named → Lexeme → Type 0
  IsNamed = NamedAs logic

  abbrev costs : List Formula → ℕ
  costs [] = 0
  costs (x ∷ xs) = cost x + costs xs

  abbrev pub Ready : Formula → Type 0
  Ready x = (left many : ℕ) → left + cost x ≡ many → Written IsNamed EndsWord (L many) (as_whole x left) (text x)

  abbrev behind : List Formula → ℕ → Formulas
  behind before many = record { list = before; nodes_left = many; is_bare = false }

  tail_written : (xs before : List Formula) (left many : ℕ) → AllByRecursion Ready xs → left + costs xs ≡ many → Written IsNamed Anything (MoreOperands L (length xs) (behind before many)) (before ++ xs, left) (tail_text (map text xs))
  tail_written [] before left many each e =
      written_right IsNamed Anything (Refused (is Comma) (λ _. WRONG_ARITY)) (Mapped (λ _. (before, many)) (One (is CloseRound))) (before ++ [], left) (41 ∷ [])
      (written_one IsNamed Anything (λ _. (before, many)) (One (is CloseRound)) (before ++ [], left) (sign 41) (41 ∷ []) cut_close (λ t r. (pair_same (append-nil before) (omega (arith, e)), (is_close t.spelled r.0, refl))))
  tail_written (x ∷ xs) before left many each e =
      let total : costs (x ∷ xs) ≡ cost x + costs xs = refl in
      let More : Read → Grammar Named (List Formula × ℕ) = λ y. MoreOperands L (length xs) (with_formula before y) in
      written_right IsNamed Anything (Refused (is CloseRound) (λ _. WRONG_ARITY)) (Then (One (is Comma)) (λ _. Then (L many) More)) (before ++ x ∷ xs, left) (tail_text (map text (x ∷ xs)))
      (written_behind IsNamed Anything (is Comma) (Then (L many) More) (before ++ x ∷ xs, left) (sign 44) (44 ∷ []) (text x ++ tail_text (map text xs)) cut_comma (λ t r. is_comma t.spelled r.0)
      (written_then IsNamed EndsWord Anything (L many) More (as_whole x (left + costs xs)) (before ++ x ∷ xs, left) (text x) (tail_text (map text xs)) (λ rest f. tail_ends (map text xs) rest) (each.0 (left + costs xs) many (omega (arith, e, total)))
      (written_tree IsNamed Anything (More (as_whole x (left + costs xs))) ((before ++ x ∷ []) ++ xs, left) (before ++ x ∷ xs, left) (tail_text (map text xs)) (pair_same (append_assoc before (x ∷ []) xs) refl)
      (tail_written xs (before ++ x ∷ []) left (left + costs xs) each.1 refl))))

  costs_are : (xs : List Formula) → costs xs ≡ sum_by cost xs
  costs_are xs = is_sum_by costs cost refl (λ y ys. refl) xs

  -- what is behind an operator's name
  operands_written : (op : ℕ) (xs : List Formula) (left many : ℕ) → AllByRecursion Ready xs → left + costs xs ≡ many → Written IsNamed EndsWord (BehindOperator L (length xs) op many) (as_whole (Op op xs) left) (in_brackets (map text xs))
  operands_written op [] left many each e =
      written_right IsNamed EndsWord (Refused (is OpenRound) (λ _. WRONG_ARITY)) (Nothing (as_whole (Op op []) many)) (as_whole (Op op []) left) []
      (written_nothing IsNamed EndsWord (as_whole (Op op []) many) (as_whole (Op op []) left) (ap (as_whole (Op op [])) (omega (arith, e))))
  operands_written op (x ∷ xs) left many each e =
      let total : costs (x ∷ xs) ≡ cost x + costs xs = refl in
      let More : Read → Grammar Named (List Formula × ℕ) = λ y. MoreOperands L (length xs) (with_formula [] y) in
      let inside : List ℕ = text x ++ tail_text (map text xs) in
      written_text IsNamed EndsWord (BehindOperator L (length (x ∷ xs)) op many) (as_whole (Op op (x ∷ xs)) left) (40 ∷ inside) (in_brackets (map text (x ∷ xs))) (brackets_are (text x) (map text xs))
      (written_left IsNamed EndsWord (Mapped (λ y. as_whole (Op op y.0) y.1) (Operands L (length xs) many)) (Nothing (as_bare op many)) (as_whole (Op op (x ∷ xs)) left) (40 ∷ inside)
      (written_mapped IsNamed EndsWord (λ y. as_whole (Op op y.0) y.1) (Operands L (length xs) many) (x ∷ xs, left) (as_whole (Op op (x ∷ xs)) left) (40 ∷ inside) refl
      (written_behind IsNamed EndsWord (is OpenRound) (Then (L many) More) (x ∷ xs, left) (sign 40) (40 ∷ []) inside cut_open (λ t r. is_open t.spelled r.0)
      (written_then IsNamed EndsWord EndsWord (L many) More (as_whole x (left + costs xs)) (x ∷ xs, left) (text x) (tail_text (map text xs)) (λ rest f. tail_ends (map text xs) rest) (each.0 (left + costs xs) many (omega (arith, e, total)))
      (written_weaker IsNamed Anything EndsWord (More (as_whole x (left + costs xs))) (x ∷ xs, left) (tail_text (map text xs)) (λ rest f. tt) (tail_written xs (x ∷ []) left (left + costs xs) each.1 refl))))))

  pub formulas_written : (op : ℕ) (xs : List Formula) (left many : ℕ) → AllByRecursion Ready xs → left + sum_by cost xs ≡ many → Written IsNamed EndsWord (BehindOperator L (length xs) op many) (as_whole (Op op xs) left) (in_brackets (map text xs))
  formulas_written op xs left many each e = operands_written op xs left many each (omega (arith, e, costs_are xs))

-- ---- first tokens that break no rule

module _ (s : Setting) where
  enough : (d many : ℕ) → 1 ≤ many → (nat_lt (suc d) 1 ≡ false) × (nat_lt many 1 ≡ false)
  enough d many some = (le-ltb (suc d) 1 (omega arith), le-ltb many 1 (omega arith))

  no_hash : (t : Named) → names (class_of t.spelled) ≡ true → same Hash (class_of t.spelled) ≡ false
  no_hash t name = off names (same Hash) refl t.spelled name

  fault_operator : (d many op : ℕ) (t : Named) → t.role ≡ role.Operator op → names (class_of t.spelled) ≡ true → 1 ≤ many → formula_fault s (suc d) many t ≡ None
  fault_operator d many op t of_role name some = let (shallow, small) = enough d many some in rw (of_role, no_hash t name, shallow, small) refl

  fault_quantifier : (d many q : ℕ) (t : Named) → t.role ≡ role.Quantifier q → names (class_of t.spelled) ≡ true → s.quantified ≡ true → 1 ≤ many → formula_fault s (suc d) many t ≡ None
  fault_quantifier d many q t of_role name quantified some = let (shallow, small) = enough d many some in rw (of_role, no_hash t name, name, quantified, shallow, small) refl

  fault_predicate : (d many : ℕ) (t : Named) → t.role ≡ role.Neither → is_lower (class_of t.spelled) ≡ true → is_too_long (numbered s) (text_of t) ≡ false → 1 ≤ many → formula_fault s (suc d) many t ≡ None
  fault_predicate d many t of_role lower short some =
      let (shallow, small) = enough d many some in
      let unquoted : same Quoted (class_of t.spelled) ≡ false = off is_lower (same Quoted) refl t.spelled lower in
      rw (of_role, off is_lower (same Hash) refl t.spelled lower, unquoted, lower, short, shallow, small) refl

-- ---- formulas

-- quantifiers stand only where they may
abbrev pub MayStand : Setting → Formula → Type 0
MayStand s x = has_quantifier x ≡ true → s.quantified ≡ true

module _ (s : Setting) (is_logic : IsLogic s.logic) where
  abbrev As : Named → Lexeme → Type 0
  As = NamedAs s.logic

  unfoldable pub FormulaWritten : Formula → Type 0
  FormulaWritten x = (k : ℕ) → fits_within s.logic x k ≡ true → has_readable_names s.logic (numbered s) x ≡ true → MayStand s x → (deep left many : ℕ) → k + depth x < 2 ^ 32 → depth x ≤ deep → left + nodes x ≡ many → Written As EndsWord (FormulaPhrase s deep (binders k) many) (as_whole x left) (text_within s.logic x k)

  -- ---- one line of the grammar

  module _ (k d many : ℕ) where
    abbrev fault : Named → Option ℕ
    fault = formula_fault s (suc d) many

    abbrev OfOperator : Grammar Named Read
    OfOperator = OperatorFormula (FormulaPhrase s d (binders k)) s fault (many - 1)

    abbrev OfQuantifier : Grammar Named Read
    OfQuantifier = QuantifierFormula (FormulaPhrase s d) fault (binders k) (many - 1)

    abbrev OfNumber : Grammar Named Read
    OfNumber = NumberedFormula s fault many

    abbrev OfPredicate : Grammar Named Read
    OfPredicate = AtomFormula (numbered s) (binders k) d fault (many - 1)

    by_operator : (x : Read) (u : List ℕ) → Written As EndsWord OfOperator x u → Written As EndsWord (FormulaPhrase s (suc d) (binders k) many) x u
    by_operator x u w = written_left As EndsWord OfOperator (Either OfQuantifier (Either OfNumber OfPredicate)) x u w

    by_quantifier : (x : Read) (u : List ℕ) → Written As EndsWord OfQuantifier x u → Written As EndsWord (FormulaPhrase s (suc d) (binders k) many) x u
    by_quantifier x u w = written_right As EndsWord OfOperator (Either OfQuantifier (Either OfNumber OfPredicate)) x u (written_left As EndsWord OfQuantifier (Either OfNumber OfPredicate) x u w)

    by_predicate : (x : Read) (u : List ℕ) → Written As EndsWord OfPredicate x u → Written As EndsWord (FormulaPhrase s (suc d) (binders k) many) x u
    by_predicate x u w =
        written_right As EndsWord OfOperator (Either OfQuantifier (Either OfNumber OfPredicate)) x u
        (written_right As EndsWord OfQuantifier (Either OfNumber OfPredicate) x u (written_right As EndsWord OfNumber OfPredicate x u w))

  -- ---- atoms

  atom_written : (p : List ℕ) (xs : List Term) → FormulaWritten (Atom p xs)
  unfolding FormulaWritten
  atom_written p xs k fit named may zero left many few high e = absurd (omega (arith, depth-Atom p xs))
  atom_written p xs k fit named may (suc d) left many few high e =
      let small : k < 2 ^ 32 = omega (arith, few) in
      let text : Term → List ℕ = λ x. term_text x k in
      let L : ℕ → Grammar Spelled (Counted Term) = TermPhrase (numbered s) (binders k) d in
      let T : Grammar Spelled (Counted (List Term)) = Terms L (many - 1) in
      let names = and_parts (can_name_predicate s.logic (numbered s) p) (list_all (has_readable_term_names (numbered s)) xs) (sym (names-Atom s.logic (numbered s) p xs) ∙ named) in
      let lower = and_parts (is_lower_word p) (not (is_too_long (numbered s) p) && (is_none (operator_named s.logic p) && is_none (quantifier_named s.logic p))) names.0 in
      let others = and_parts (not (is_too_long (numbered s) p)) (is_none (operator_named s.logic p) && is_none (quantifier_named s.logic p)) lower.1 in
      let short : is_too_long (numbered s) p ≡ false = not-true (is_too_long (numbered s) p) others.0 in
      let of_role : role_of s.logic p ≡ role.Neither = neither_role s.logic p others.1 in
      let ready = each_ready (numbered s) k small d xs (each_always (TermWritten (numbered s) k small) xs (term_written (numbered s) k small)) (sym (fits_within-Atom s.logic p xs k) ∙ fit) names.1 (omega (arith, high, depth-Atom p xs)) in
      let arguments = terms_written L text term_nodes xs left (many - 1) ready (omega (arith, e, nodes-Atom p xs)) in
      let seen = written_seen As SpelledAs (λ (t : Named). t.spelled) EndsWord T (xs, left) (in_brackets (map text xs)) (λ t l r. r.0) arguments in
      written_text As EndsWord (FormulaPhrase s (suc d) (binders k) many) (as_whole (Atom p xs) left) (p ++ in_brackets (map text xs)) (text_within s.logic (Atom p xs) k) (sym (text-Atom s.logic p xs k))
      (by_predicate k d many (as_whole (Atom p xs) left) (p ++ in_brackets (map text xs))
      (written_first As EndsWord EndsWord (Allowed is_predicate (fault k d many)) (λ head. Then (Seen (λ t. t.spelled) T) (λ terms. Nothing (as_whole (Atom (text_of head) terms.0) terms.1))) (Then (Seen (λ t. t.spelled) T) (λ terms. Nothing (as_whole (Atom p terms.0) terms.1))) (as_whole (Atom p xs) left) (lexeme kind.Lower p) p (in_brackets (map text xs)) (λ rest ends. brackets_end (map text xs) rest ends) (cut_lower p lower.0)
      (λ t r.
      let here : t.role ≡ role.Neither = r.1 ∙ of_role in
      let passes : is_lower (class_of t.spelled) ≡ true = is_lower_name p t.spelled r.0 in
      (rw here passes, fault_predicate s d many t here passes (ap (is_too_long (numbered s)) r.0.1 ∙ short) (omega (arith, e, nodes-Atom p xs)), refl))
      (λ t r ts derived. rw r.0.1 derived)
      (written_text As EndsWord (Then (Seen (λ t. t.spelled) T) (λ terms. Nothing (as_whole (Atom p terms.0) terms.1))) (as_whole (Atom p xs) left) (in_brackets (map text xs) ++ []) (in_brackets (map text xs)) (append-nil (in_brackets (map text xs)))
      (written_then As EndsWord EndsWord (Seen (λ t. t.spelled) T) (λ terms. Nothing (as_whole (Atom p terms.0) terms.1)) (xs, left) (as_whole (Atom p xs) left) (in_brackets (map text xs)) [] (λ rest ends. ends) seen
      (written_nothing As EndsWord (as_whole (Atom p xs) left) (as_whole (Atom p xs) left) refl)))))

  -- ---- operators

  each_formula_ready : (k d : ℕ) (xs : List Formula) → AllByRecursion FormulaWritten xs → list_all (λ x. fits_within s.logic x k) xs ≡ true → list_all (has_readable_names s.logic (numbered s)) xs ≡ true → (list_any has_quantifier xs ≡ true → s.quantified ≡ true) → k + greatest (map depth xs) < 2 ^ 32 → greatest (map depth xs) ≤ d → AllByRecursion (Ready s.logic (FormulaPhrase s d (binders k)) (λ x. text_within s.logic x k) nodes) xs
  unfolding FormulaWritten
  each_formula_ready k d [] each fit named may few high = tt
  each_formula_ready k d (x ∷ xs) each fit named may few high =
      let fits = and_parts (fits_within s.logic x k) (list_all (λ x. fits_within s.logic x k) xs) fit in
      let names = and_parts (has_readable_names s.logic (numbered s) x) (list_all (has_readable_names s.logic (numbered s)) xs) named in (
        (λ left many e. each.0 k fits.0 names.0 (λ here. may (or_left (has_quantifier x) (list_any has_quantifier xs) here)) d left many (omega (arith, few)) (omega (arith, high)) e),
        each_formula_ready k d xs each.1 fits.1 names.1 (λ there. may (or_right (has_quantifier x) (list_any has_quantifier xs) there)) (omega (arith, few)) (omega (arith, high)),
      )

  operator_name : (op : ℕ) → op < length s.logic.operators → IsPlainName (operator_at s.logic op).name
  operator_name op lt =
      let o : Operator = record { name = []; arity = 0; table = [] } in
      let at : operator_at s.logic op ≡ get_or s.logic.operators op o = ap (λ x. unwrap_or x o) (slice_get-get_or s.logic.operators op o lt) in
      subst (λ (x : Operator). IsPlainName x.name) (sym at) (is_logic.operators op o lt).named

  quantifier_name : (q : ℕ) → q < length s.logic.quantifiers → IsPlainName (quantifier_at s.logic q).name
  quantifier_name q lt =
      let d : Quantifier = record { name = []; table = [] } in
      let at : quantifier_at s.logic q ≡ get_or s.logic.quantifiers q d = ap (λ x. unwrap_or x d) (slice_get-get_or s.logic.quantifiers q d lt) in
      subst (λ (x : Quantifier). IsPlainName x.name) (sym at) (is_logic.quantifiers q d lt).named

  op_written : (op : ℕ) (xs : List Formula) → AllByRecursion FormulaWritten xs → FormulaWritten (Op op xs)
  unfolding FormulaWritten
  op_written op xs each k fit named may zero left many few high e = absurd (omega (arith, depth-Op op xs))
  op_written op xs each k fit named may (suc d) left many few high e =
      let L : ℕ → Grammar Named Read = FormulaPhrase s d (binders k) in
      let text : Formula → List ℕ = λ x. text_within s.logic x k in
      let name : List ℕ = (operator_at s.logic op).name in
      let known = and_parts (nat_lt op (length s.logic.operators)) ((length xs == (operator_at s.logic op).arity) && list_all (λ x. fits_within s.logic x k) xs) (sym (fits_within-Op s.logic op xs k) ∙ fit) in
      let counted = and_parts (length xs == (operator_at s.logic op).arity) (list_all (λ x. fits_within s.logic x k) xs) known.1 in
      let lt : op < length s.logic.operators = ltb-true op (length s.logic.operators) known.0 in
      let count : length xs ≡ (operator_at s.logic op).arity = eqb-true (length xs) (operator_at s.logic op).arity counted.0 in
      let head : IsSymbol name = symbol name (operator_name op lt) in
      let of_role : role_of s.logic head.lexeme.text ≡ role.Operator op = ap (role_of s.logic) head.says ∙ operator_role s.logic is_logic op lt in
      let ready = each_formula_ready k d xs each counted.1 (sym (names-Op s.logic (numbered s) op xs) ∙ named) (λ some. may (has_quantifier-Op op xs ∙ some)) (omega (arith, few, depth-Op op xs)) (omega (arith, high, depth-Op op xs)) in
      let operands = formulas_written s.logic L text nodes op xs left (many - 1) ready (omega (arith, e, nodes-Op op xs)) in
      written_text As EndsWord (FormulaPhrase s (suc d) (binders k) many) (as_whole (Op op xs) left) (symbol_text name ++ in_brackets (map text xs)) (text_within s.logic (Op op xs) k) (sym (text-Op s.logic op xs k))
      (by_operator k d many (as_whole (Op op xs) left) (symbol_text name ++ in_brackets (map text xs))
      (written_first As EndsWord EndsWord (Allowed starts_operator (fault k d many)) (λ t. BehindOperator L (operator_at s.logic (operator_of t.role)).arity (operator_of t.role) (many - 1)) (BehindOperator L (length xs) op (many - 1)) (as_whole (Op op xs) left) head.lexeme (symbol_text name) (in_brackets (map text xs)) (λ rest ends. brackets_end (map text xs) rest ends) head.cut
      (λ t r.
      let here : t.role ≡ role.Operator op = r.1 ∙ of_role in
      let passes : names (class_of t.spelled) ≡ true = head.passes t.spelled r.0 in
      (rw (here, passes) refl, fault_operator s d many op t here passes (omega (arith, e, nodes-Op op xs)), refl))
      (λ t r ts derived.
      let here : t.role ≡ role.Operator op = r.1 ∙ of_role in
      subst (λ (x : Role). BehindOperator L (operator_at s.logic (operator_of x)).arity (operator_of x) (many - 1) (Ok (as_whole (Op op xs) left)) ts) (sym here)
      (subst (λ (n : ℕ). BehindOperator L n op (many - 1) (Ok (as_whole (Op op xs) left)) ts) count derived))
      operands))

  -- ---- quantifiers

  regroup : (a b c d e f : List ℕ) → a ++ (b ++ (c ++ (d ++ (e ++ f)))) ≡ ((((a ++ b) ++ c) ++ d) ++ e) ++ f
  regroup a b c d e f = simp append_assoc

  quant_written : (q : ℕ) (body : Formula) → FormulaWritten body → FormulaWritten (Quant q body)
  unfolding FormulaWritten
  quant_written q body each k fit named may zero left many few high e = absurd (omega (arith, depth-Quant q body))
  quant_written q body each k fit named may (suc d) left many few high e =
      let name : List ℕ = (quantifier_at s.logic q).name in
      let inside : List ℕ = text_within s.logic body (k + 1) in
      let tree : Read = as_whole (Quant q body) left in
      let known = and_parts (nat_lt q (length s.logic.quantifiers)) (fits_within s.logic body (k + 1)) (sym (fits_within-Quant s.logic q body k) ∙ fit) in
      let lt : q < length s.logic.quantifiers = ltb-true q (length s.logic.quantifiers) known.0 in
      let quantified : s.quantified ≡ true = may (has_quantifier-Quant q body) in
      let head : IsSymbol name = symbol name (quantifier_name q lt) in
      let of_role : role_of s.logic head.lexeme.text ≡ role.Quantifier q = ap (role_of s.logic) head.says ∙ quantifier_role s.logic is_logic q lt in
      let L : Grammar Named Read = FormulaPhrase s d (binder (k + 1) ∷ binders k) (many - 1) in
      let Close : Read → Grammar Named Read = λ y. CloseQuantifier q y in
      let read : Written As EndsWord L (as_whole body left) inside =
      subst (λ (scope : List (List ℕ)). Written As EndsWord (FormulaPhrase s d scope (many - 1)) (as_whole body left) inside) (sym (binders_more k))
      (each (k + 1) known.1 (sym (names-Quant s.logic (numbered s) q body) ∙ named) (λ some. quantified) d left (many - 1) (omega (arith, few, depth-Quant q body)) (omega (arith, high, depth-Quant q body)) (omega (arith, e, nodes-Quant q body))) in
      let closed : Written As EndsWord (Close (as_whole body left)) tree (41 ∷ []) =
      written_behind As EndsWord (is CloseRound) (Nothing tree) tree (sign 41) (41 ∷ []) [] cut_close (λ t r. is_close t.spelled r.0) (written_nothing As EndsWord tree tree refl) in
      let with_body : Written As EndsWord (Then L Close) tree (inside ++ 41 ∷ []) =
      written_then As EndsWord EndsWord L Close (as_whole body left) tree inside (41 ∷ []) (λ rest ends. refl) read closed in
      let with_comma : Written As EndsWord (Then (One (is Comma)) (λ _. Then L Close)) tree (44 ∷ (inside ++ 41 ∷ [])) =
      written_behind As EndsWord (is Comma) (Then L Close) tree (sign 44) (44 ∷ []) (inside ++ 41 ∷ []) cut_comma (λ t r. is_comma t.spelled r.0) with_body in
      let with_binder : Written As EndsWord (Then (One (is Upper)) (λ x. Then (One (is Comma)) (λ _. Then (FormulaPhrase s d (text_of x ∷ binders k) (many - 1)) Close))) tree (binder (k + 1) ++ (44 ∷ (inside ++ 41 ∷ []))) =
      written_first As EndsWord EndsWord (One (is Upper)) (λ x. Then (One (is Comma)) (λ _. Then (FormulaPhrase s d (text_of x ∷ binders k) (many - 1)) Close)) (Then (One (is Comma)) (λ _. Then L Close)) tree (lexeme kind.Upper (binder (k + 1))) (binder (k + 1)) (44 ∷ (inside ++ 41 ∷ [])) (λ rest ends. refl) (cut_binder (k + 1) (omega (arith, few)))
      (λ t r. (is_upper (binder (k + 1)) t.spelled r.0, refl))
      (λ t r ts derived. subst (λ (x : List ℕ). Then (One (is Comma)) (λ _. Then (FormulaPhrase s d (x ∷ binders k) (many - 1)) Close) (Ok tree) ts) (sym r.0.1) derived)
      with_comma in
      let Behind : Role → Grammar Named Read = λ x. Then (One (is OpenRound)) (λ _. Then (One (is Upper)) (λ y. Then (One (is Comma)) (λ _. Then (FormulaPhrase s d (text_of y ∷ binders k) (many - 1)) (λ z. CloseQuantifier (quantifier_of x) z)))) in
      let rest_text : List ℕ = 40 ∷ (binder (k + 1) ++ (44 ∷ (inside ++ 41 ∷ []))) in
      let behind : Written As EndsWord (Behind (role.Quantifier q)) tree rest_text =
      written_behind As EndsWord (is OpenRound) (Then (One (is Upper)) (λ x. Then (One (is Comma)) (λ _. Then (FormulaPhrase s d (text_of x ∷ binders k) (many - 1)) Close))) tree (sign 40) (40 ∷ []) (binder (k + 1) ++ (44 ∷ (inside ++ 41 ∷ []))) cut_open (λ t r. is_open t.spelled r.0) with_binder in
      written_text As EndsWord (FormulaPhrase s (suc d) (binders k) many) tree (symbol_text name ++ rest_text) (text_within s.logic (Quant q body) k) (regroup (symbol_text name) (codes "(") (binder (k + 1)) (codes ",") inside (codes ")") ∙ sym (text-Quant s.logic q body k))
      (by_quantifier k d many tree (symbol_text name ++ rest_text)
      (written_first As EndsWord EndsWord (Allowed is_quantifier (fault k d many)) (λ t. Behind t.role) (Behind (role.Quantifier q)) tree head.lexeme (symbol_text name) rest_text (λ rest ends. refl) head.cut
      (λ t r.
      let here : t.role ≡ role.Quantifier q = r.1 ∙ of_role in
      let passes : names (class_of t.spelled) ≡ true = head.passes t.spelled r.0 in
      (rw here passes, fault_quantifier s d many q t here passes quantified (omega (arith, e, nodes-Quant q body)), refl))
      (λ t r ts derived. subst (λ (x : Role). Behind x (Ok tree) ts) (sym (r.1 ∙ of_role)) derived)
      behind))

  pub formula_written : (x : Formula) → FormulaWritten x
  formula_written = formula_induction FormulaWritten atom_written op_written quant_written
