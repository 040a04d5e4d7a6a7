-- The text of a query is written for it: the grammar of queries derives the query from tokens of the text.
use Rattle.std.proofs.Common.{◌≡◌, ◌≢◌, ℕ, ◌+◌, ◌-◌, ◌^◌, ◌<◌, ◌≤◌, Bool, true, false, cond, List, [], ◌∷◌, ◌++◌, length, get_or, refl, sym, ap, ap₂, subst, ◌∙◌, append-nil, append_assoc, arith}
use Rattle.std.specs.Prelude.{All, codes, ◌&&◌, ◌==◌}
use Rattle.std.specs.List.{flat_map, sum_by}
use Rattle.std.proofs.lemmas.Bool.{and_parts, eqb-true}
use Rattle.std.proofs.lemmas.List.Elements.{All-head, All-tail}
use Rattle.std.proofs.lemmas.List.Sums.{sum_by-append, sum_by-cons}
use Rattle.lgc_grammar.specs.Grammar.{Grammar, One, Nothing, Mapped, Then, Either}
use Rattle.lgc_lexer.specs.declared.token.Kind.TheVariants.{Lower, Symbol}
use Rattle.lgc_values.specs.Values.{mask_of, members_of}
use Rattle.lgc_values.specs.Masks.{mask_of-members_of}
use Rattle.lgc_values.specs.Logic.{IsLogic}
use Rattle.lgc_syntax.specs.declared.formula.Formula.{Formula}
use Rattle.lgc_syntax.specs.Fits.{Fits}
use Rattle.lgc_syntax.specs.Sizes.{nodes, depth, has_quantifier}
use Rattle.lgc_meaning.specs.declared.query.Pair.{Pair}
use Rattle.lgc_meaning.specs.declared.query.Query.{Query}
use Rattle.lgc_meaning.specs.declared.query.Query.TheVariants.{Mixed, Equation, Quasi}
use Rattle.lgc_meaning.specs.Queries.{sides, formulas_of, HasSetsBelow}
use Rattle.lgc_meaning.proofs.Parts.{All-left, All-right, All-flat_map}
use Rattle.lgc_tokens.specs.declared.class.Class.TheVariants.{EntailWord, MixedWord, EquationWord, QuasiWord, Turnstile, Equals, Comma, Colon}
use Rattle.lgc_print.specs.FormulaText.{formula_text}
use Rattle.lgc_formulas.specs.declared.formula.Formulas.{Formulas}
use Rattle.lgc_formulas.specs.declared.formula.Read.{Read}
use Rattle.lgc_formulas.specs.declared.formula.TheConstants.{MOST_DEPTH}
use Rattle.lgc_formulas.specs.Named.{Named, is}
use Rattle.lgc_formulas.specs.Setting.{Setting, numbered}
use Rattle.lgc_formulas.specs.FormulaGrammar.{as_whole, with_formula, OneFormula, CommaFormula, FormulaList}
use Rattle.lgc_queries.specs.declared.read.EquationRead.{EquationRead}
use Rattle.lgc_queries.specs.declared.read.Equations.{Equations}
use Rattle.lgc_queries.specs.declared.read.QueryRead.{QueryRead}
use Rattle.lgc_queries.specs.QueryGrammar.{NamedSet, ValueSet, no_formulas, no_equations, equated, with_equation, entailment, mixed_entailment, equation, quasi_equation, SignBehind, Premises, EquationPhrase, CommaEquation, EquationList, EquationPremises, EntailQuery, MixedQuery, EquationQuery, QuasiQuery, OneQuery}
use Rattle.lgc_queries.specs.Limits.{HasConclusion}
use Rattle.lgc_queries.specs.QueryPlace.{whole_query}
use Rattle.lgc_queries.specs.QueryText.{formulas_text, equation_text, equations_text, mask_text, turnstile_text, is_entailment, query_text}
use Rattle.lgc_round_trip.proofs.SetLaws.{set_of_members}
use Rattle.lgc_formulas.specs.Writable.{has_readable_names}
use Rattle.lgc_formula_trip.proofs.Cuts.{Lexeme, lexeme, sign, Anything, EndsWord}
use Rattle.lgc_formula_trip.proofs.Written.{Written, written_then, written_behind, written_mapped, written_left, written_right, written_text, written_tree, written_seen}
use Rattle.lgc_formula_trip.proofs.Tokens.{NamedAs, SpelledAs, is_comma}
use Rattle.lgc_formula_trip.proofs.FormulaTexts.{MayStand, FormulaWritten, formula_written}
use Rattle.lgc_queries.specs.WritableQueries.{IsWritableQuery}
use Rattle.lgc_query_trip.proofs.Signs.{cut_entail, cut_mixed, cut_equation, cut_quasi, cut_equals, cut_spaced_comma, cut_spaced_colon, is_entail, is_mixed, is_equation, is_quasi, is_equals, is_colon}
use Rattle.lgc_query_trip.proofs.ValueTexts.{set_written}
use Rattle.lgc_query_trip.proofs.Rows.{IsNext, row_written, turnstile_written, premises_written}

-- a formula that can be read where enough nodes are left
record IsReadable (s : Setting) (f : Formula) : Type 0 where
  fits : Fits s.logic f
  named : has_readable_names s.logic (numbered s) f ≡ true
  shallow : depth f ≤ MOST_DEPTH
  may : MayStand s f

module _ (s : Setting) (is_logic : IsLogic s.logic) where
  abbrev As : Named → Lexeme → Type 0
  As = NamedAs s.logic

  -- a formula, behind which so many nodes are left
  one_written : (x : Formula) → IsReadable s x → (left many : ℕ) → left + nodes x ≡ many → Written As EndsWord (OneFormula s many) (as_whole x left) (formula_text s.logic x)
  unfolding FormulaWritten
  one_written x r left many e = formula_written s is_logic x 0 r.fits r.named r.may MOST_DEPTH left many (omega (arith, r.shallow)) r.shallow e

  -- ---- formulas in a row

  abbrev formulas : List Formula → ℕ → Formulas
  formulas list left = record { list = list; nodes_left = left; is_bare = false }

  next_formula : (x : Formula) → IsReadable s x → IsNext s.logic (formula_text s.logic) nodes formulas (CommaFormula (OneFormula s)) x
  next_formula x r before left many e =
      written_behind As EndsWord (is Comma) (Mapped (with_formula before) (OneFormula s many)) (formulas (before ++ x ∷ []) left) (sign 44) (codes ", ") (formula_text s.logic x) cut_spaced_comma (λ t r. is_comma t.spelled r.0)
      (written_mapped As EndsWord (with_formula before) (OneFormula s many) (as_whole x left) (formulas (before ++ x ∷ []) left) (formula_text s.logic x) refl (one_written x r left many e))

  formulas_written : (x : Formula) (xs : List Formula) (left many : ℕ) → All (IsReadable s) (x ∷ xs) → left + sum_by nodes (x ∷ xs) ≡ many → Written As EndsWord (FormulaList (OneFormula s) many) (formulas (x ∷ xs) left) (formulas_text s.logic (x ∷ xs))
  formulas_written x xs left many all e =
      let behind : ℕ = left + sum_by nodes xs in
      row_written s.logic (formula_text s.logic) nodes formulas (CommaFormula (OneFormula s)) (IsReadable s) next_formula (Mapped (with_formula []) (OneFormula s many)) x xs left
      (written_mapped As EndsWord (with_formula []) (OneFormula s many) (as_whole x behind) (formulas (x ∷ []) behind) (formula_text s.logic x) refl (one_written x (All-head (IsReadable s) x xs all) behind many (omega (arith, e, sum_by-cons nodes x xs))))
      (All-tail (IsReadable s) x xs all)

  formula_premises_written : (premises : List Formula) (left many : ℕ) → All (IsReadable s) premises → left + sum_by nodes premises ≡ many → Written As Anything (Premises s many) (formulas premises left) (formulas_text s.logic premises ++ turnstile_text premises)
  formula_premises_written premises left many all e =
      premises_written s.logic (formula_text s.logic) (FormulaList (OneFormula s) many) (λ z. Then (SignBehind z.is_bare Turnstile) (λ _. Nothing z)) (no_formulas many) (formulas premises left) premises
      (λ none. let total : sum_by nodes premises ≡ 0 = ap (sum_by nodes) none in ap₂ formulas none (omega (arith, e, total)))
      (λ x xs of. written_tree As EndsWord (FormulaList (OneFormula s) many) (formulas (x ∷ xs) left) (formulas premises left) (formulas_text s.logic (x ∷ xs)) (ap (λ list. formulas list left) (sym of))
      (formulas_written x xs left many (subst (All (IsReadable s)) of all) (subst (λ list. left + sum_by nodes list ≡ many) of e)))
      (turnstile_written s.logic premises (formulas premises left))

  -- ---- equations

  abbrev AreReadable : Pair → Type 0
  AreReadable pair = All (IsReadable s) (sides pair)

  abbrev pair_nodes : Pair → ℕ
  pair_nodes pair = nodes pair.left + nodes pair.right

  abbrev equation_read : Pair → ℕ → EquationRead
  equation_read pair left = record { pair = pair; nodes_left = left; is_bare = false }

  equation_written : (pair : Pair) → AreReadable pair → (left many : ℕ) → left + pair_nodes pair ≡ many → Written As EndsWord (EquationPhrase s many) (equation_read pair left) (equation_text s.logic pair)
  equation_written pair readable left many e =
      let behind : ℕ = left + nodes pair.right in
      let Right : Read → Grammar Named EquationRead = λ x. Then (SignBehind x.is_bare Equals) (λ _. Mapped (equated x.formula) (OneFormula s x.nodes_left)) in
      written_text As EndsWord (EquationPhrase s many) (equation_read pair left) (formula_text s.logic pair.left ++ (codes " = " ++ formula_text s.logic pair.right)) (equation_text s.logic pair) (sym (append_assoc (formula_text s.logic pair.left) (codes " = ") (formula_text s.logic pair.right)))
      (written_then As EndsWord EndsWord (OneFormula s many) Right (as_whole pair.left behind) (equation_read pair left) (formula_text s.logic pair.left) (codes " = " ++ formula_text s.logic pair.right) (λ rest f. refl)
      (one_written pair.left (All-head (IsReadable s) pair.left (pair.right ∷ []) readable) behind many (omega (arith, e)))
      (written_behind As EndsWord (is Equals) (Mapped (equated pair.left) (OneFormula s behind)) (equation_read pair left) (lexeme Symbol (codes "=")) (codes " = ") (formula_text s.logic pair.right) cut_equals (λ t r. is_equals t.spelled r.0)
      (written_mapped As EndsWord (equated pair.left) (OneFormula s behind) (as_whole pair.right left) (equation_read pair left) (formula_text s.logic pair.right) refl
      (one_written pair.right (All-head (IsReadable s) pair.right [] (All-tail (IsReadable s) pair.left (pair.right ∷ []) readable)) left behind refl))))

  abbrev equations : List Pair → ℕ → Equations
  equations list left = record { list = list; nodes_left = left; is_bare = false }

  next_equation : (pair : Pair) → AreReadable pair → IsNext s.logic (equation_text s.logic) pair_nodes equations (CommaEquation s) pair
  next_equation pair r before left many e =
      written_behind As EndsWord (is Comma) (Mapped (with_equation before) (EquationPhrase s many)) (equations (before ++ pair ∷ []) left) (sign 44) (codes ", ") (equation_text s.logic pair) cut_spaced_comma (λ t r. is_comma t.spelled r.0)
      (written_mapped As EndsWord (with_equation before) (EquationPhrase s many) (equation_read pair left) (equations (before ++ pair ∷ []) left) (equation_text s.logic pair) refl (equation_written pair r left many e))

  equations_written : (x : Pair) (xs : List Pair) (left many : ℕ) → All AreReadable (x ∷ xs) → left + sum_by pair_nodes (x ∷ xs) ≡ many → Written As EndsWord (EquationList s many) (equations (x ∷ xs) left) (equations_text s.logic (x ∷ xs))
  equations_written x xs left many all e =
      let behind : ℕ = left + sum_by pair_nodes xs in
      row_written s.logic (equation_text s.logic) pair_nodes equations (CommaEquation s) AreReadable next_equation (Mapped (with_equation []) (EquationPhrase s many)) x xs left
      (written_mapped As EndsWord (with_equation []) (EquationPhrase s many) (equation_read x behind) (equations (x ∷ []) behind) (equation_text s.logic x) refl (equation_written x (All-head AreReadable x xs all) behind many (omega (arith, e, sum_by-cons pair_nodes x xs))))
      (All-tail AreReadable x xs all)

  equation_premises_written : (premises : List Pair) (left many : ℕ) → All AreReadable premises → left + sum_by pair_nodes premises ≡ many → Written As Anything (EquationPremises s many) (equations premises left) (equations_text s.logic premises ++ turnstile_text premises)
  equation_premises_written premises left many all e =
      premises_written s.logic (equation_text s.logic) (EquationList s many) (λ z. Then (SignBehind z.is_bare Turnstile) (λ _. Nothing z)) (no_equations many) (equations premises left) premises
      (λ none. let total : sum_by pair_nodes premises ≡ 0 = ap (sum_by pair_nodes) none in ap₂ equations none (omega (arith, e, total)))
      (λ x xs of. written_tree As EndsWord (EquationList s many) (equations (x ∷ xs) left) (equations premises left) (equations_text s.logic (x ∷ xs)) (ap (λ list. equations list left) (sym of))
      (equations_written x xs left many (subst (All AreReadable) of all) (subst (λ list. left + sum_by pair_nodes list ≡ many) of e)))
      (turnstile_written s.logic premises (equations premises left))

  -- ---- the four kinds of queries

  entail_written : (premises : List Formula) (x : Formula) (left many : ℕ) → All (IsReadable s) premises → IsReadable s x → left + (sum_by nodes premises + nodes x) ≡ many → Written As EndsWord (EntailQuery s many) (entailment s.logic premises (as_whole x left)) (codes "entail " ++ formulas_text s.logic premises ++ turnstile_text premises ++ formulas_text s.logic (x ∷ []))
  entail_written premises x left many all readable e =
      let query : QueryRead = entailment s.logic premises (as_whole x left) in
      let behind : ℕ = left + nodes x in
      let before : List ℕ = formulas_text s.logic premises ++ turnstile_text premises in
      let Conclusion : Formulas → Grammar Named QueryRead = λ found. Mapped (entailment s.logic found.list) (OneFormula s found.nodes_left) in
      written_behind As EndsWord (is EntailWord) (Then (Premises s many) Conclusion) query (lexeme Lower (codes "entail")) (codes "entail ") (before ++ formulas_text s.logic (x ∷ [])) cut_entail (λ t r. is_entail t.spelled r.0)
      (written_then As Anything EndsWord (Premises s many) Conclusion (formulas premises behind) query before (formulas_text s.logic (x ∷ [])) (λ rest f. tt) (formula_premises_written premises behind many all (omega (arith, e)))
      (written_text As EndsWord (Conclusion (formulas premises behind)) query (formula_text s.logic x) (formulas_text s.logic (x ∷ [])) (sym (append-nil (formula_text s.logic x)))
      (written_mapped As EndsWord (entailment s.logic premises) (OneFormula s behind) (as_whole x left) query (formula_text s.logic x) refl (one_written x readable left behind refl))))

  mask_written : (mask : ℕ) → mask < 2 ^ s.logic.size → Written As Anything (NamedSet s.logic) (members_of s.logic.size mask) (mask_text s.logic mask)
  mask_written mask small =
      let set : List ℕ = members_of s.logic.size mask in
      written_seen As SpelledAs (λ t. t.spelled) Anything (ValueSet s.logic) set (mask_text s.logic mask) (λ t l r. r.0) (set_written s.logic is_logic set (set_of_members s.logic.size mask set refl))

  mixed_written : (given wanted : ℕ) (premises : List Formula) (x : Formula) (xs : List Formula) (left many : ℕ) → given < 2 ^ s.logic.size → wanted < 2 ^ s.logic.size → All (IsReadable s) premises → All (IsReadable s) (x ∷ xs) → left + (sum_by nodes premises + sum_by nodes (x ∷ xs)) ≡ many → Written As EndsWord (MixedQuery s many) (whole_query (Mixed given wanted premises (x ∷ xs))) (codes "mixed " ++ (mask_text s.logic given ++ (codes ", " ++ (mask_text s.logic wanted ++ (codes ": " ++ (formulas_text s.logic premises ++ turnstile_text premises ++ formulas_text s.logic (x ∷ xs)))))))
  mixed_written given wanted premises x xs left many small_given small_wanted all readable e =
      let query : QueryRead = whole_query (Mixed given wanted premises (x ∷ xs)) in
      let behind : ℕ = left + sum_by nodes (x ∷ xs) in
      let before : List ℕ = formulas_text s.logic premises ++ turnstile_text premises in
      let conclusions : List ℕ = formulas_text s.logic (x ∷ xs) in
      let sequent : List ℕ = before ++ conclusions in
      let given_set : List ℕ = members_of s.logic.size given in
      let wanted_set : List ℕ = members_of s.logic.size wanted in
      let Conclusions : List ℕ → List ℕ → Formulas → Grammar Named QueryRead = λ g w found. Mapped (mixed_entailment g w found.list) (FormulaList (OneFormula s) found.nodes_left) in
      let Sequent : List ℕ → List ℕ → Grammar Named QueryRead = λ g w. Then (Premises s many) (Conclusions g w) in
      let Colons : List ℕ → List ℕ → Grammar Named QueryRead = λ g w. Then (One (is Colon)) (λ _. Sequent g w) in
      let Commas : List ℕ → Grammar Named QueryRead = λ g. Then (One (is Comma)) (λ _. Then (NamedSet s.logic) (Colons g)) in
      let masks : Mixed given wanted premises (x ∷ xs) ≡ Mixed (mask_of given_set) (mask_of wanted_set) premises (x ∷ xs) = ap₂ (λ g w. Mixed g w premises (x ∷ xs)) (sym (mask_of-members_of s.logic.size given small_given)) (sym (mask_of-members_of s.logic.size wanted small_wanted)) in
      written_behind As EndsWord (is MixedWord) (Then (NamedSet s.logic) Commas) query (lexeme Lower (codes "mixed")) (codes "mixed ") (mask_text s.logic given ++ (codes ", " ++ (mask_text s.logic wanted ++ (codes ": " ++ sequent)))) cut_mixed (λ t r. is_mixed t.spelled r.0)
      (written_then As Anything EndsWord (NamedSet s.logic) Commas given_set query (mask_text s.logic given) (codes ", " ++ (mask_text s.logic wanted ++ (codes ": " ++ sequent))) (λ rest f. tt) (mask_written given small_given)
      (written_behind As EndsWord (is Comma) (Then (NamedSet s.logic) (Colons given_set)) query (sign 44) (codes ", ") (mask_text s.logic wanted ++ (codes ": " ++ sequent)) cut_spaced_comma (λ t r. is_comma t.spelled r.0)
      (written_then As Anything EndsWord (NamedSet s.logic) (Colons given_set) wanted_set query (mask_text s.logic wanted) (codes ": " ++ sequent) (λ rest f. tt) (mask_written wanted small_wanted)
      (written_behind As EndsWord (is Colon) (Sequent given_set wanted_set) query (sign 58) (codes ": ") sequent cut_spaced_colon (λ t r. is_colon t.spelled r.0)
      (written_then As Anything EndsWord (Premises s many) (Conclusions given_set wanted_set) (formulas premises behind) query before conclusions (λ rest f. tt) (formula_premises_written premises behind many all (omega (arith, e)))
      (written_mapped As EndsWord (mixed_entailment given_set wanted_set premises) (FormulaList (OneFormula s) behind) (formulas (x ∷ xs) left) query conclusions (ap whole_query masks) (formulas_written x xs left behind readable refl)))))))

  equation_query_written : (pair : Pair) (left many : ℕ) → AreReadable pair → left + pair_nodes pair ≡ many → Written As EndsWord (EquationQuery s many) (whole_query (Equation pair)) (query_text s.logic (Equation pair))
  equation_query_written pair left many readable e =
      written_behind As EndsWord (is EquationWord) (Mapped equation (EquationPhrase s many)) (whole_query (Equation pair)) (lexeme Lower (codes "equation")) (codes "equation ") (equation_text s.logic pair) cut_equation (λ t r. is_equation t.spelled r.0)
      (written_mapped As EndsWord equation (EquationPhrase s many) (equation_read pair left) (whole_query (Equation pair)) (equation_text s.logic pair) refl (equation_written pair readable left many e))

  quasi_written : (premises : List Pair) (conclusion : Pair) (left many : ℕ) → All AreReadable premises → AreReadable conclusion → left + (sum_by pair_nodes premises + pair_nodes conclusion) ≡ many → Written As EndsWord (QuasiQuery s many) (whole_query (Quasi premises conclusion)) (query_text s.logic (Quasi premises conclusion))
  quasi_written premises conclusion left many all readable e =
      let query : QueryRead = whole_query (Quasi premises conclusion) in
      let behind : ℕ = left + pair_nodes conclusion in
      let before : List ℕ = equations_text s.logic premises ++ turnstile_text premises in
      let end : List ℕ = equation_text s.logic conclusion in
      let Conclusion : Equations → Grammar Named QueryRead = λ found. Mapped (quasi_equation found.list) (EquationPhrase s found.nodes_left) in
      written_behind As EndsWord (is QuasiWord) (Then (EquationPremises s many) Conclusion) query (lexeme Lower (codes "quasi")) (codes "quasi ") (before ++ end) cut_quasi (λ t r. is_quasi t.spelled r.0)
      (written_then As Anything EndsWord (EquationPremises s many) Conclusion (equations premises behind) query before end (λ rest f. tt) (equation_premises_written premises behind many all (omega (arith, e)))
      (written_mapped As EndsWord (quasi_equation premises) (EquationPhrase s behind) (equation_read conclusion left) query end refl (equation_written conclusion readable left behind refl)))

  -- ---- queries

  module _ (many : ℕ) where
    by_entail : (query : QueryRead) (u : List ℕ) → Written As EndsWord (EntailQuery s many) query u → Written As EndsWord (OneQuery s many) query u
    by_entail query u w = written_left As EndsWord (EntailQuery s many) (Either (MixedQuery s many) (Either (EquationQuery s many) (QuasiQuery s many))) query u w

    by_mixed : (query : QueryRead) (u : List ℕ) → Written As EndsWord (MixedQuery s many) query u → Written As EndsWord (OneQuery s many) query u
    by_mixed query u w =
        written_right As EndsWord (EntailQuery s many) (Either (MixedQuery s many) (Either (EquationQuery s many) (QuasiQuery s many))) query u
        (written_left As EndsWord (MixedQuery s many) (Either (EquationQuery s many) (QuasiQuery s many)) query u w)

    by_equations : (query : QueryRead) (u : List ℕ) → Written As EndsWord (Either (EquationQuery s many) (QuasiQuery s many)) query u → Written As EndsWord (OneQuery s many) query u
    by_equations query u w =
        written_right As EndsWord (EntailQuery s many) (Either (MixedQuery s many) (Either (EquationQuery s many) (QuasiQuery s many))) query u
        (written_right As EndsWord (MixedQuery s many) (Either (EquationQuery s many) (QuasiQuery s many)) query u w)

    -- the text of a mixed entailment, part by part
    opening_apart : (given wanted premises turnstile conclusions : List ℕ) → codes "mixed " ++ (given ++ (codes ", " ++ (wanted ++ (codes ": " ++ (premises ++ turnstile ++ conclusions))))) ≡ codes "mixed " ++ given ++ codes ", " ++ wanted ++ codes ": " ++ premises ++ turnstile ++ conclusions
    opening_apart given wanted premises turnstile conclusions =
        let sets : List ℕ = given ++ codes ", " ++ wanted ++ codes ": " in
        let sequent : List ℕ = premises ++ turnstile ++ conclusions in
        let apart : sets ++ premises ++ turnstile ++ conclusions ≡ sets ++ sequent = ap (λ t. t ++ conclusions) (append_assoc sets premises turnstile) ∙ append_assoc sets (premises ++ turnstile) conclusions in
        let colon : sets ++ sequent ≡ given ++ (codes ", " ++ (wanted ++ (codes ": " ++ sequent))) =
        append_assoc (given ++ codes ", " ++ wanted) (codes ": ") sequent ∙ append_assoc (given ++ codes ", ") wanted (codes ": " ++ sequent) ∙ append_assoc given (codes ", ") (wanted ++ (codes ": " ++ sequent)) in
        sym (ap (λ t. codes "mixed " ++ t) (apart ∙ colon))

    sequent_written : (given wanted : ℕ) (premises conclusions : List Formula) (left : ℕ) → given < 2 ^ s.logic.size → wanted < 2 ^ s.logic.size → conclusions ≢ [] → All (IsReadable s) premises → All (IsReadable s) conclusions → left + (sum_by nodes premises + sum_by nodes conclusions) ≡ many → Written As EndsWord (OneQuery s many) (whole_query (Mixed given wanted premises conclusions)) (query_text s.logic (Mixed given wanted premises conclusions))
    sequent_written given wanted premises [] left small_given small_wanted some all readable e = absurd (some refl)
    sequent_written given wanted premises (x ∷ xs) left small_given small_wanted some all readable e = by (is_entailment s.logic given wanted (x ∷ xs)) refl
      where
        by : (b : Bool) → is_entailment s.logic given wanted (x ∷ xs) ≡ b → Written As EndsWord (OneQuery s many) (whole_query (Mixed given wanted premises (x ∷ xs))) (cond b (codes "entail ") (codes "mixed " ++ mask_text s.logic given ++ codes ", " ++ mask_text s.logic wanted ++ codes ": ") ++ formulas_text s.logic premises ++ turnstile_text premises ++ formulas_text s.logic (x ∷ xs))
        by true is_one =
            let designated : ℕ = mask_of s.logic.designated in
            let tests = and_parts (given == designated) ((wanted == designated) && (length (x ∷ xs) == 1)) is_one in
            let others = and_parts (wanted == designated) (length (x ∷ xs) == 1) tests.1 in
            let alone : xs ≡ [] = none xs (eqb-true (length (x ∷ xs)) 1 others.1) in
            let same : entailment s.logic premises (as_whole x left) ≡ whole_query (Mixed given wanted premises (x ∷ [])) = ap₂ (λ g w. whole_query (Mixed g w premises (x ∷ []))) (sym (eqb-true given designated tests.0)) (sym (eqb-true wanted designated others.0)) in
            subst (λ ys. Written As EndsWord (OneQuery s many) (whole_query (Mixed given wanted premises (x ∷ ys))) (codes "entail " ++ formulas_text s.logic premises ++ turnstile_text premises ++ formulas_text s.logic (x ∷ ys))) (sym alone)
            (by_entail (whole_query (Mixed given wanted premises (x ∷ []))) (codes "entail " ++ formulas_text s.logic premises ++ turnstile_text premises ++ formulas_text s.logic (x ∷ []))
            (written_tree As EndsWord (EntailQuery s many) (entailment s.logic premises (as_whole x left)) (whole_query (Mixed given wanted premises (x ∷ []))) (codes "entail " ++ formulas_text s.logic premises ++ turnstile_text premises ++ formulas_text s.logic (x ∷ [])) same
            (entail_written premises x left many all (All-head (IsReadable s) x xs readable) (omega (arith, e, sum_by-cons nodes x xs, ap (sum_by nodes) alone)))))
          where
            none : (ys : List Formula) → length (x ∷ ys) ≡ 1 → ys ≡ []
            none [] one = refl
            none (y ∷ ys) one = absurd (omega arith)
        by false is_other =
            let query : QueryRead = whole_query (Mixed given wanted premises (x ∷ xs)) in
            let given_text : List ℕ = mask_text s.logic given in
            let wanted_text : List ℕ = mask_text s.logic wanted in
            let before : List ℕ = formulas_text s.logic premises in
            let conclusions_text : List ℕ = formulas_text s.logic (x ∷ xs) in
            let text : List ℕ = codes "mixed " ++ given_text ++ codes ", " ++ wanted_text ++ codes ": " ++ before ++ turnstile_text premises ++ conclusions_text in
            by_mixed query text
            (written_text As EndsWord (MixedQuery s many) query (codes "mixed " ++ (given_text ++ (codes ", " ++ (wanted_text ++ (codes ": " ++ (before ++ turnstile_text premises ++ conclusions_text)))))) text (opening_apart given_text wanted_text before (turnstile_text premises) conclusions_text)
            (mixed_written given wanted premises x xs left many small_given small_wanted all readable e))

    sides_total : (pair : Pair) → sum_by nodes (sides pair) ≡ pair_nodes pair
    sides_total pair = sum_by-cons nodes pair.left (pair.right ∷ []) ∙ ap (λ n. nodes pair.left + n) (sum_by-cons nodes pair.right [] ∙ omega arith)

    pairs_total : (pairs : List Pair) → sum_by nodes (flat_map sides pairs) ≡ sum_by pair_nodes pairs
    pairs_total [] = refl
    pairs_total (pair ∷ pairs) = sum_by-append nodes (sides pair) (flat_map sides pairs) ∙ ap₂ (λ m n. m + n) (sides_total pair) (pairs_total pairs) ∙ sym (sum_by-cons pair_nodes pair pairs)

    quantified_or_not : (f : Formula) (b : Bool) → s.quantified ≡ b → (s.quantified ≡ false → has_quantifier f ≡ false) → MayStand s f
    quantified_or_not f true e none quantifier = e
    quantified_or_not f false e none quantifier = let other : has_quantifier f ≡ false = none e in absurd cc

    formulas_readable : (query : Query) → IsWritableQuery s many query → All (IsReadable s) (formulas_of query)
    formulas_readable query w = λ i d lt. record {
      fits = w.query_for.fits.formulas i d lt;
      named = w.named i d lt;
      shallow = w.query_for.shallow i d lt;
      may = quantified_or_not (get_or (formulas_of query) i d) s.quantified refl (λ e. w.query_for.propositional e i d lt);
    }

    kinds_written : (query : Query) → HasConclusion query → HasSetsBelow s.logic.size query → All (IsReadable s) (formulas_of query) → sum_by nodes (formulas_of query) ≤ many → Written As EndsWord (OneQuery s many) (whole_query query) (query_text s.logic query)
    kinds_written (Mixed given wanted premises conclusions) some small all few =
        let total : sum_by nodes (premises ++ conclusions) ≡ sum_by nodes premises + sum_by nodes conclusions = sum_by-append nodes premises conclusions in
        sequent_written given wanted premises conclusions (many - sum_by nodes (premises ++ conclusions)) small.0 small.1 some (All-left (IsReadable s) premises conclusions all) (All-right (IsReadable s) premises conclusions all) (omega (arith, few, total))
    kinds_written (Equation pair) some small all few =
        by_equations (whole_query (Equation pair)) (query_text s.logic (Equation pair))
        (written_left As EndsWord (EquationQuery s many) (QuasiQuery s many) (whole_query (Equation pair)) (query_text s.logic (Equation pair))
        (equation_query_written pair (many - pair_nodes pair) many all (omega (arith, few, sides_total pair))))
    kinds_written (Quasi premises conclusion) some small all few =
        let total : sum_by nodes (flat_map sides premises ++ sides conclusion) ≡ sum_by pair_nodes premises + pair_nodes conclusion = sum_by-append nodes (flat_map sides premises) (sides conclusion) ∙ ap₂ (λ m n. m + n) (pairs_total premises) (sides_total conclusion) in
        by_equations (whole_query (Quasi premises conclusion)) (query_text s.logic (Quasi premises conclusion))
        (written_right As EndsWord (EquationQuery s many) (QuasiQuery s many) (whole_query (Quasi premises conclusion)) (query_text s.logic (Quasi premises conclusion))
        (quasi_written premises conclusion (many - (sum_by pair_nodes premises + pair_nodes conclusion)) many
        (All-flat_map (IsReadable s) sides premises (All-left (IsReadable s) (flat_map sides premises) (sides conclusion) all))
        (All-right (IsReadable s) (flat_map sides premises) (sides conclusion) all) (omega (arith, few, total))))

-- A query that can be read, in any setting and with any number of nodes left, where no word goes on behind it.
pub one_query_written : (s : Setting) (many : ℕ) (query : Query) → IsLogic s.logic → IsWritableQuery s many query → Written (NamedAs s.logic) EndsWord (OneQuery s many) (whole_query query) (query_text s.logic query)
one_query_written s many query is w = kinds_written s is many query w.query_for.concludes w.query_for.fits.sets (formulas_readable s is many query w) w.query_for.small
