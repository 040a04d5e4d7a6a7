-- The text of a term is written for it: the grammar of terms derives the term from tokens of the text.
use Rattle.std.proofs.Common.{◌≡◌, ℕ, zero, suc, ◌+◌, ◌-◌, ◌^◌, ◌<◌, ◌≤◌, Bool, true, false, List, [], ◌∷◌, ◌++◌, map, Option, Some, None, refl, sym, ap, ◌∙◌, append-nil, append_assoc, arith}
use Rattle.std.specs.Prelude.{codes, ◌&&◌, not}
use Rattle.std.specs.List.{AllByRecursion, list_all, sum_by, flat_map}
use Rattle.std.proofs.lemmas.Bool.{and_parts, ltb-true, not-true, ne_eqb}
use Rattle.std.proofs.lemmas.List.Recursion.{is_sum_by}
use Rattle.lgc_grammar.specs.Grammar.{Grammar, One, Allowed, Nothing, Then, Growing}
use Rattle.lgc_lexer.specs.declared.token.Kind.TheVariants as kind
use Rattle.lgc_syntax.specs.declared.formula.Term.{Term, Bound, Free, Apply}
use Rattle.lgc_syntax.specs.Fits.{term_fits}
use Rattle.lgc_syntax.specs.Sizes.{greatest, term_nodes, term_depth}
use Rattle.lgc_syntax.proofs.FitsLaws.{term_fits-Bound, term_fits-Apply}
use Rattle.lgc_syntax.proofs.Induction.{term_induction}
use Rattle.lgc_syntax.proofs.SizeLaws.{term_nodes-Bound, term_nodes-Free, term_nodes-Apply, term_depth-Bound, term_depth-Free, term_depth-Apply}
use Rattle.lgc_tokens.specs.declared.class.Class.TheVariants.{Upper, OpenRound, CloseRound, Comma}
use Rattle.lgc_tokens.specs.Spelled.{Spelled}
use Rattle.lgc_tokens.specs.Classes.{same, is_lower, is, is_word as is_lower_token, class_of}
use Rattle.lgc_tokens.proofs.Tables.{off}
use Rattle.lgc_print.specs.Text.{is_lower_word}
use Rattle.lgc_print.specs.FormulaText.{in_brackets, binder, term_text}
use Rattle.lgc_print.proofs.FormulaTextLaws.{text-Bound, text-Free, text-Apply}
use Rattle.lgc_formulas.specs.Faults.{is_too_long, term_fault}
use Rattle.lgc_formulas.specs.Scopes.{bound_in, is_reserved}
use Rattle.lgc_formulas.specs.TermGrammar.{Counted, with_term, variable, NextTerm, CommaTerm, SomeTerms, Terms, Application, Variable, TermPhrase}
use Rattle.lgc_formulas.specs.Writable.{is_upper_word, can_name_function, has_readable_term_names}
use Rattle.lgc_formula_trip.proofs.Cuts.{lexeme, sign, EndsWord, Cut, cut_open, cut_close, cut_comma}
use Rattle.lgc_formula_trip.proofs.Written.{Written, written_then, written_first, written_behind, written_one, written_nothing, written_mapped, written_left, written_right, written_ended, written_grown, written_text, written_tree}
use Rattle.lgc_formula_trip.proofs.Tokens.{SpelledAs, class_seen, is_open, is_close, is_comma, is_upper, is_lower_name, cut_upper, cut_binder, cut_lower}
use Rattle.lgc_formula_trip.proofs.Binders.{binders, bound_at, none_bound}
use Rattle.lgc_formula_trip.proofs.WritableLaws.{names-Free, names-Apply}

-- ---- the text of arguments

-- `,p,q`
abbrev pub more_text : List (List ℕ) → List ℕ
more_text xs = flat_map (λ p. codes "," ++ p) xs

-- a word ends before it, and before all that is in brackets
more_ends : (xs : List (List ℕ)) (rest : List ℕ) → EndsWord rest → EndsWord (more_text xs ++ rest)
more_ends [] rest ends = ends
more_ends (x ∷ xs) rest ends = refl

closed_ends : (xs : List (List ℕ)) (rest : List ℕ) → EndsWord ((more_text xs ++ 41 ∷ []) ++ rest)
closed_ends [] rest = refl
closed_ends (x ∷ xs) rest = refl

pub brackets_end : (xs : List (List ℕ)) (rest : List ℕ) → EndsWord rest → EndsWord (in_brackets xs ++ rest)
brackets_end [] rest ends = ends
brackets_end (x ∷ xs) rest ends = refl

pub pair_same : {A : Type 0} {a b : A} {m n : ℕ} → a ≡ b → m ≡ n → ◌≡◌ {A = A × ℕ} (a, m) (b, n)
pair_same e f = rw (e, f) refl

-- ---- arguments, for any grammar of terms and the text of one

module _ (L : ℕ → Grammar Spelled (Counted Term)) (text : Term → List ℕ) (cost : Term → ℕ) where
  abbrev costs : List Term → ℕ
  costs [] = 0
  costs (x ∷ xs) = cost x + costs xs

  abbrev pub Ready : Term → Type 0
  Ready x = (left many : ℕ) → left + cost x ≡ many → Written SpelledAs EndsWord (L many) (x, left) (text x)

  next_written : (x : Term) (before : List Term) (left many : ℕ) → Ready x → left + cost x ≡ many → Written SpelledAs EndsWord (NextTerm L (before, many)) (before ++ x ∷ [], left) (text x)
  next_written x before left many ready e = written_mapped SpelledAs EndsWord (with_term (before, many)) (L many) (x, left) (before ++ x ∷ [], left) (text x) refl (ready left many e)

  more_written : (xs before : List Term) (left many : ℕ) → AllByRecursion Ready xs → left + costs xs ≡ many → Written SpelledAs EndsWord (Growing (CommaTerm L) (before, many)) (before ++ xs, left) (more_text (map text xs))
  more_written [] before left many each e = written_ended SpelledAs EndsWord (CommaTerm L) (before, many) (before ++ [], left) (pair_same (append-nil before) (omega (arith, e)))
  more_written (x ∷ xs) before left many each e =
      let total : costs (x ∷ xs) ≡ cost x + costs xs = refl in
      let one : Written SpelledAs EndsWord (CommaTerm L (before, many)) (before ++ x ∷ [], left + costs xs) (44 ∷ text x) =
      written_behind SpelledAs EndsWord (is Comma) (NextTerm L (before, many)) (before ++ x ∷ [], left + costs xs) (sign 44) (44 ∷ []) (text x) cut_comma is_comma
      (next_written x before (left + costs xs) many each.0 (omega (arith, e, total))) in
      written_tree SpelledAs EndsWord (Growing (CommaTerm L) (before, many)) ((before ++ x ∷ []) ++ xs, left) (before ++ x ∷ xs, left) (more_text (map text (x ∷ xs))) (pair_same (append_assoc before (x ∷ []) xs) refl)
      (written_grown SpelledAs EndsWord EndsWord (CommaTerm L) (before, many) (before ++ x ∷ [], left + costs xs) ((before ++ x ∷ []) ++ xs, left) (44 ∷ text x) (more_text (map text xs)) (λ rest ends. more_ends (map text xs) rest ends) one
      (more_written xs (before ++ x ∷ []) left (left + costs xs) each.1 refl))

  abbrev Closing : Counted (List Term) → Grammar Spelled (Counted (List Term))
  Closing terms = Then (One (is CloseRound)) (λ _. Nothing terms)

  abbrev Behind : Counted (List Term) → Grammar Spelled (Counted (List Term))
  Behind terms = Then (Growing (CommaTerm L) terms) Closing

  brackets_written : (xs : List Term) (left many : ℕ) → AllByRecursion Ready xs → left + costs xs ≡ many → Written SpelledAs EndsWord (Terms L many) (xs, left) (in_brackets (map text xs))
  brackets_written [] left many each e =
      written_right SpelledAs EndsWord (SomeTerms L many) (Nothing ([], many)) ([], left) [] (written_nothing SpelledAs EndsWord ([], many) ([], left) (pair_same refl (omega (arith, e))))
  brackets_written (x ∷ xs) left many each e =
      let total : costs (x ∷ xs) ≡ cost x + costs xs = refl in
      let tree : Counted (List Term) = (x ∷ xs, left) in
      let more : List ℕ = more_text (map text xs) in
      let close : Written SpelledAs EndsWord (Closing tree) tree (41 ∷ []) =
      written_behind SpelledAs EndsWord (is CloseRound) (Nothing tree) tree (sign 41) (41 ∷ []) [] cut_close is_close (written_nothing SpelledAs EndsWord tree tree refl) in
      let others : Written SpelledAs EndsWord (Behind (x ∷ [], left + costs xs)) tree (more ++ 41 ∷ []) =
      written_then SpelledAs EndsWord EndsWord (Growing (CommaTerm L) (x ∷ [], left + costs xs)) Closing tree tree more (41 ∷ []) (λ rest ends. refl) (more_written xs (x ∷ []) left (left + costs xs) each.1 refl) close in
      written_text SpelledAs EndsWord (Terms L many) tree (40 ∷ (text x ++ (more ++ 41 ∷ []))) (in_brackets (map text (x ∷ xs))) (ap (λ t. 40 ∷ t) (sym (append_assoc (text x) more (41 ∷ []))))
      (written_left SpelledAs EndsWord (SomeTerms L many) (Nothing ([], many)) tree (40 ∷ (text x ++ (more ++ 41 ∷ [])))
      (written_behind SpelledAs EndsWord (is OpenRound) (Then (NextTerm L ([], many)) Behind) tree (sign 40) (40 ∷ []) (text x ++ (more ++ 41 ∷ [])) cut_open is_open
      (written_then SpelledAs EndsWord EndsWord (NextTerm L ([], many)) Behind (x ∷ [], left + costs xs) tree (text x) (more ++ 41 ∷ []) (λ rest ends. closed_ends (map text xs) rest) (next_written x [] (left + costs xs) many each.0 (omega (arith, e, total))) others)))

  costs_are : (xs : List Term) → costs xs ≡ sum_by cost xs
  costs_are xs = is_sum_by costs cost refl (λ y ys. refl) xs

  -- the arguments of a function or a predicate
  pub terms_written : (xs : List Term) (left many : ℕ) → AllByRecursion Ready xs → left + sum_by cost xs ≡ many → Written SpelledAs EndsWord (Terms L many) (xs, left) (in_brackets (map text xs))
  terms_written xs left many each e = brackets_written xs left many each (omega (arith, e, costs_are xs))

-- ---- terms

module _ (limited : Bool) (k : ℕ) (few : k < 2 ^ 32) where
  unfoldable pub TermWritten : Term → Type 0
  TermWritten x = term_fits x k ≡ true → has_readable_term_names limited x ≡ true → (deep left many : ℕ) → term_depth x ≤ deep → left + term_nodes x ≡ many → Written SpelledAs EndsWord (TermPhrase limited (binders k) deep many) (x, left) (term_text x k)

  fault_bound : (d many i : ℕ) (t : Spelled) → class_of t ≡ Upper → bound_in (binders k) t.text ≡ Some i → 1 ≤ many → term_fault limited (binders k) (suc d) many t ≡ None
  fault_bound d many i t class found some = rw (class, found, ne_eqb (suc d) 0 (λ e. omega arith), ne_eqb many 0 (λ e. omega arith)) refl

  fault_free : (d many : ℕ) (t : Spelled) → class_of t ≡ Upper → bound_in (binders k) t.text ≡ None → is_reserved t.text ≡ false → is_too_long limited t.text ≡ false → 1 ≤ many → term_fault limited (binders k) (suc d) many t ≡ None
  fault_free d many t class found own short some = rw (class, found, own, short, ne_eqb (suc d) 0 (λ e. omega arith), ne_eqb many 0 (λ e. omega arith)) refl

  fault_function : (d many : ℕ) (t : Spelled) → is Upper t ≡ false → is_too_long limited t.text ≡ false → 1 ≤ many → term_fault limited (binders k) (suc d) many t ≡ None
  fault_function d many t other short some = rw (other, short, ne_eqb (suc d) 0 (λ e. omega arith), ne_eqb many 0 (λ e. omega arith)) refl

  variable_written : (x : List ℕ) (term : Term) (d left many : ℕ) → Cut EndsWord x (lexeme kind.Upper x ∷ []) → left + 1 ≡ many → ((t : Spelled) → SpelledAs t (lexeme kind.Upper x) → (term ≡ variable (binders k) t.text) × (term_fault limited (binders k) (suc d) many t ≡ None)) → Written SpelledAs EndsWord (TermPhrase limited (binders k) (suc d) many) (term, left) x
  variable_written x term d left many cut e tells =
      written_left SpelledAs EndsWord (Variable (binders k) (term_fault limited (binders k) (suc d) many) (many - 1)) (Application (TermPhrase limited (binders k) d) (term_fault limited (binders k) (suc d) many) (many - 1)) (term, left) x
      (written_one SpelledAs EndsWord (λ head. (variable (binders k) head.text, many - 1)) (Allowed (is Upper) (term_fault limited (binders k) (suc d) many)) (term, left) (lexeme kind.Upper x) x cut
      (λ t r. let (tree, keeps) = tells t r in (pair_same tree (omega (arith, e)), (is_upper x t r, keeps, refl))))

  bound_written : (i : ℕ) → TermWritten (Bound i)
  unfolding TermWritten
  bound_written i fit named zero left many high e = absurd (omega (arith, term_depth-Bound i))
  bound_written i fit named (suc d) left many high e =
      let lt : i < k = ltb-true i k (sym (term_fits-Bound i k) ∙ fit) in
      let found : bound_in (binders k) (binder (k - i)) ≡ Some i = bound_at k i (k - i) few lt (omega arith) in
      written_text SpelledAs EndsWord (TermPhrase limited (binders k) (suc d) many) (Bound i, left) (binder (k - i)) (term_text (Bound i) k) (sym (text-Bound i k))
      (variable_written (binder (k - i)) (Bound i) d left many (cut_binder (k - i) (omega arith)) (omega (arith, e, term_nodes-Bound i)) (λ t r.
      let here : bound_in (binders k) t.text ≡ Some i = ap (bound_in (binders k)) r.1 ∙ found in
      (rw here refl, fault_bound d many i t (class_seen t (lexeme kind.Upper (binder (k - i))) r) here (omega (arith, e, term_nodes-Bound i)))))

  free_written : (x : List ℕ) → TermWritten (Free x)
  unfolding TermWritten
  free_written x fit named zero left many high e = absurd (omega (arith, term_depth-Free x))
  free_written x fit named (suc d) left many high e =
      let (upper, others) = and_parts (is_upper_word x) (not (is_reserved x) && not (is_too_long limited x)) (sym (names-Free limited x) ∙ named) in
      let (unreserved, within) = and_parts (not (is_reserved x)) (not (is_too_long limited x)) others in
      let own : is_reserved x ≡ false = not-true (is_reserved x) unreserved in
      let short : is_too_long limited x ≡ false = not-true (is_too_long limited x) within in
      written_text SpelledAs EndsWord (TermPhrase limited (binders k) (suc d) many) (Free x, left) x (term_text (Free x) k) (sym (text-Free x k))
      (variable_written x (Free x) d left many (cut_upper x upper) (omega (arith, e, term_nodes-Free x)) (λ t r.
      let here : bound_in (binders k) t.text ≡ None = ap (bound_in (binders k)) r.1 ∙ none_bound k x few own in
      (rw here (ap Free (sym r.1)), fault_free d many t (class_seen t (lexeme kind.Upper x) r) here (ap is_reserved r.1 ∙ own) (ap (is_too_long limited) r.1 ∙ short) (omega (arith, e, term_nodes-Free x)))))

  pub each_ready : (d : ℕ) (xs : List Term) → AllByRecursion TermWritten xs → list_all (λ x. term_fits x k) xs ≡ true → list_all (has_readable_term_names limited) xs ≡ true → greatest (map term_depth xs) ≤ d → AllByRecursion (Ready (TermPhrase limited (binders k) d) (λ x. term_text x k) term_nodes) xs
  unfolding TermWritten
  each_ready d [] each fit named high = tt
  each_ready d (x ∷ xs) each fit named high =
      let fits = and_parts (term_fits x k) (list_all (λ x. term_fits x k) xs) fit in
      let names = and_parts (has_readable_term_names limited x) (list_all (has_readable_term_names limited) xs) named in
      ((λ left many e. each.0 fits.0 names.0 d left many (omega (arith, high)) e), each_ready d xs each.1 fits.1 names.1 (omega (arith, high)))

  apply_written : (f : List ℕ) (xs : List Term) → AllByRecursion TermWritten xs → TermWritten (Apply f xs)
  unfolding TermWritten
  apply_written f xs each fit named zero left many high e = absurd (omega (arith, term_depth-Apply f xs))
  apply_written f xs each fit named (suc d) left many high e =
      let L : ℕ → Grammar Spelled (Counted Term) = TermPhrase limited (binders k) d in
      let fault : Spelled → Option ℕ = term_fault limited (binders k) (suc d) many in
      let text : Term → List ℕ = λ x. term_text x k in
      let names = and_parts (can_name_function limited f) (list_all (has_readable_term_names limited) xs) (sym (names-Apply limited f xs) ∙ named) in
      let function = and_parts (is_lower_word f) (not (is_too_long limited f)) names.0 in
      let short : is_too_long limited f ≡ false = not-true (is_too_long limited f) function.1 in
      let arguments = terms_written L text term_nodes xs left (many - 1) (each_ready d xs each (sym (term_fits-Apply f xs k) ∙ fit) names.1 (omega (arith, high, term_depth-Apply f xs))) (omega (arith, e, term_nodes-Apply f xs)) in
      written_text SpelledAs EndsWord (TermPhrase limited (binders k) (suc d) many) (Apply f xs, left) (f ++ in_brackets (map text xs)) (term_text (Apply f xs) k) (sym (text-Apply f xs k))
      (written_right SpelledAs EndsWord (Variable (binders k) fault (many - 1)) (Application L fault (many - 1)) (Apply f xs, left) (f ++ in_brackets (map text xs))
      (written_first SpelledAs EndsWord EndsWord (Allowed is_lower_token fault) (λ head. Then (Terms L (many - 1)) (λ terms. Nothing (Apply head.text terms.0, terms.1))) (Then (Terms L (many - 1)) (λ terms. Nothing (Apply f terms.0, terms.1))) (Apply f xs, left) (lexeme kind.Lower f) f (in_brackets (map text xs)) (λ rest ends. brackets_end (map text xs) rest ends) (cut_lower f function.0)
      (λ t r. let lower : is_lower_token t ≡ true = is_lower_name f t r in (lower, fault_function d many t (off is_lower (same Upper) refl t lower) (ap (is_too_long limited) r.1 ∙ short) (omega (arith, e, term_nodes-Apply f xs)), refl))
      (λ t r ts derived. rw r.1 derived)
      (written_text SpelledAs EndsWord (Then (Terms L (many - 1)) (λ terms. Nothing (Apply f terms.0, terms.1))) (Apply f xs, left) (in_brackets (map text xs) ++ []) (in_brackets (map text xs)) (append-nil (in_brackets (map text xs)))
      (written_then SpelledAs EndsWord EndsWord (Terms L (many - 1)) (λ terms. Nothing (Apply f terms.0, terms.1)) (xs, left) (Apply f xs, left) (in_brackets (map text xs)) [] (λ rest ends. ends) arguments
      (written_nothing SpelledAs EndsWord (Apply f xs, left) (Apply f xs, left) refl)))))

  pub term_written : (x : Term) → TermWritten x
  term_written = term_induction TermWritten bound_written free_written apply_written
