-- A subformula of a formula without quantifiers can be written where the formula can.
use Rattle.std.proofs.Common.{◌≡◌, ℕ, Bool, true, false, List, get_or, refl, sym, ap, ◌∙◌, arith}
use Rattle.std.specs.Prelude.{All, Contains}
use Rattle.std.proofs.lemmas.List.Elements.{All-contains}
use Rattle.std.proofs.lemmas.List.Sums.{AllPass-from_list_all, get_or-le-sum_by}
use Rattle.lgc_values.specs.Logic.{Logic}
use Rattle.lgc_syntax.specs.declared.formula.Formula.{Formula, Op, Quant}
use Rattle.lgc_syntax.specs.Sizes.{nodes, depth, has_quantifier}
use Rattle.lgc_syntax.proofs.SizeLaws.{nodes-Op, depth-Op, at-le-greatest}
use Rattle.lgc_meaning.specs.declared.query.Query.{Query}
use Rattle.lgc_meaning.specs.Queries.{formulas_of, IsPropositional}
use Rattle.lgc_syntax.specs.Subformulas.{IsSubformula, itself, of_argument, of_body}
use Rattle.lgc_syntax.proofs.SubformulaLaws.{quantified, propositional_subformula, fits_subformula}
use Rattle.lgc_formulas.specs.Setting.{Setting, numbered}
use Rattle.lgc_formulas.specs.Writable.{has_readable_names, IsWritable}
use Rattle.lgc_formula_trip.proofs.WritableLaws.{names-Op}
use Rattle.lgc_queries.specs.WritableQueries.{IsWritableQuery}

module _ (logic : Logic) (limited : Bool) (many : ℕ) where
  argument_writable : (op : ℕ) (args : List Formula) (a : Formula) → Contains args a → has_quantifier (Op op args) ≡ false → IsWritable logic limited many (Op op args) → IsWritable logic limited many a
  argument_writable op args a among none w =
      let here : depth (get_or args among.0 a) ≡ depth a = ap depth among.2 in
      let counted : nodes (get_or args among.0 a) ≡ nodes a = ap nodes among.2 in
      record {
        fits = fits_subformula logic a (Op op args) (of_argument op args a among itself) none w.fits;
        named = All-contains (λ f. has_readable_names logic limited f ≡ true) args a (AllPass-from_list_all (has_readable_names logic limited) args (sym (names-Op logic limited op args) ∙ w.named)) among;
        shallow = omega (arith, here, at-le-greatest depth args among.0 a among.1, depth-Op op args, w.shallow);
        small = omega (arith, counted, get_or-le-sum_by nodes args among.0 a among.1, nodes-Op op args, w.small);
      }

  pub subformula_writable : (f g : Formula) → IsSubformula f g → has_quantifier g ≡ false → IsWritable logic limited many g → IsWritable logic limited many f
  subformula_writable f _ itself none w = w
  subformula_writable f _ (of_argument op args a among part) none w =
      subformula_writable f a part (propositional_subformula a (Op op args) (of_argument op args a among itself) none) (argument_writable op args a among none w)
  subformula_writable f _ (of_body q body part) none w = absurd (quantified (Quant q body) q body refl none)

-- ---- queries

module _ (s : Setting) (many : ℕ) (query : Query) where
  pub formulas_writable : IsWritableQuery s many query → All (IsWritable s.logic (numbered s) many) (formulas_of query)
  formulas_writable w = λ i d lt. record {
    fits = w.query_for.fits.formulas i d lt;
    named = w.named i d lt;
    shallow = w.query_for.shallow i d lt;
    small = omega (arith, get_or-le-sum_by nodes (formulas_of query) i d lt, w.query_for.small);
  }

  pub query_subformula_writable : (f g : Formula) → IsWritableQuery s many query → IsPropositional query → Contains (formulas_of query) g → IsSubformula f g → IsWritable s.logic (numbered s) many f
  query_subformula_writable f g w propositional among part =
      subformula_writable s.logic (numbered s) many f g part
      (All-contains (λ h. has_quantifier h ≡ false) (formulas_of query) g propositional among)
      (All-contains (IsWritable s.logic (numbered s) many) (formulas_of query) g (formulas_writable w) among)
