-- Sequents are printed: their formulas, their signs, and the items in a row.
use Rattle.std.proofs.Common.{◌≡◌, ◌≢◌, ℕ, ◌-◌, List, [], ◌∷◌, ◌++◌, length, refl, sym, subst, append_assoc}
use Rattle.std.specs.Prelude.{All, codes}
use Rattle.std.proofs.lemmas.List.Elements.{All-head, All-tail}
use Rattle.lgc_grammar.specs.Grammar.{Mapped}
use Rattle.lgc_lexer.specs.Forms.{is_symbol}
use Rattle.lgc_values.specs.Logic.{Logic, IsLogic}
use Rattle.lgc_syntax.specs.declared.formula.Formula.{Formula}
use Rattle.lgc_syntax.specs.Sizes.{nodes}
use Rattle.lgc_sequents.specs.Signed.{SignedFormula}
use Rattle.lgc_sequents.specs.Sequents.{IsSign, IsSequent, added}
use Rattle.lgc_sequents.proofs.Laws.{joined-last}
use Rattle.lgc_tokens.specs.declared.class.Class.TheVariants.{Caret, Comma}
use Rattle.lgc_print.specs.Text.{set_text}
use Rattle.lgc_print.specs.FormulaText.{formula_text}
use Rattle.lgc_formulas.specs.declared.formula.Read.{Read}
use Rattle.lgc_formulas.specs.declared.formula.TheConstants.{MOST_NODES}
use Rattle.lgc_formulas.specs.Setting.{Setting}
use Rattle.lgc_formulas.specs.FormulaGrammar.{as_whole, OneFormula}
use Rattle.lgc_formulas.specs.FormulaTexts.{text_setting}
use Rattle.lgc_rules.specs.RuleGrammar.{Set}
use Rattle.lgc_report.specs.ReportText.{item_text, sequent_text}
use Rattle.lgc_report.specs.Writable.{IsReadable}
use Rattle.lgc_report_reader.specs.Reported.{is}
use Rattle.lgc_report_reader.specs.ReportGrammar.{FormulaHere, SetHere, SignBehind, Item, NextItem, Items}
use Rattle.lgc_round_trip.proofs.Pieces.{FailsFirst}
use Rattle.lgc_round_trip.proofs.Texts.{AreBelow, set_words, set_prints}
use Rattle.lgc_round_trip.proofs.SetPhrases.{set_below, set_derives}
use Rattle.lgc_formula_trip.proofs.Cuts.{EndsWord}
use Rattle.lgc_formula_trip.proofs.WholeTexts.{one_formula_written}
use Rattle.lgc_report_trip.proofs.Printed.{EndsSign, Printed, printed_then, printed_first, printed_sign, printed_mapped, printed_text, printed_named, printed_words}
use Rattle.lgc_report_trip.proofs.Endings.{ends_comma}
use Rattle.lgc_report_trip.proofs.Keywords.{caret, spaced_comma}
use Rattle.lgc_report_trip.proofs.RowTexts.{list_printed, IsNew, each_new}

-- the formula of an item
abbrev pub formula_of : SignedFormula → Formula
formula_of item = item.formula

module _ (n : ℕ) (logic : Logic) (is_logic : IsLogic logic) (size : length logic.names ≡ n) where
  abbrev s : Setting
  s = text_setting logic

  -- a formula as it is read
  abbrev pub whole : Formula → Read
  whole f = as_whole f (MOST_NODES - nodes f)

  pub formula_printed : (f : Formula) → IsReadable logic f → Printed s EndsWord (FormulaHere n s) (whole f) (formula_text logic f)
  formula_printed f w = printed_named s EndsWord (OneFormula s MOST_NODES) (whole f) (formula_text logic f) (one_formula_written s MOST_NODES f is_logic w (λ some. refl))

  set_printed : (set : List ℕ) → IsSign n set → Printed s EndsSign (SetHere n s) set (set_text logic.names set)
  set_printed set sign =
      printed_words s (Set n logic) set (set_text logic.names set) (set_words logic.names set)
      (set_prints logic.names is_logic.plain set sign.nonempty (subst (λ m. AreBelow m set) (sym size) (set_below n set sign.set)))
      (set_derives n logic is_logic size set sign.nonempty sign.set)

  -- an item, whose formula doesn't occur before
  abbrev IsItem : SignedFormula → Type 0
  IsItem item = IsReadable logic item.formula × IsSign n item.sign

  added_last : (before : List SignedFormula) (f : Formula) (sign : List ℕ) → sign ≢ [] → IsNew formula_of before (record { formula = f; sign = sign }) → added n before f sign ≡ before ++ record { formula = f; sign = sign } ∷ []
  added_last before f [] some new = absurd (some refl)
  added_last before f (v ∷ sign) some new = joined-last n before f (v ∷ sign) new

  item_printed : (before : List SignedFormula) (item : SignedFormula) → IsNew formula_of before item × IsItem item → Printed s EndsSign (Item n s before) (before ++ item ∷ []) (item_text logic item)
  unfolding item_text
  item_printed before item (new, is_item) =
      let items : List SignedFormula = before ++ item ∷ [] in
      let formula : List ℕ = formula_text logic item.formula in
      let set : List ℕ = set_text logic.names item.sign in
      printed_text s EndsSign (Item n s before) items (formula ++ (codes "^" ++ set)) (item_text logic item) (sym (append_assoc formula (codes "^") set))
      (printed_then s EndsWord EndsSign (FormulaHere n s) (SignBehind n s before) (whole item.formula) items formula (codes "^" ++ set) (λ rest g. refl) (formula_printed item.formula is_item.0)
      (printed_first s (FailsFirst is_symbol) EndsSign (is Caret) (Mapped (added n before item.formula) (SetHere n s)) items (codes "^") set (λ rest g. refl) caret
      (printed_mapped s EndsSign (added n before item.formula) (SetHere n s) item.sign items set (sym (added_last before item.formula item.sign is_item.1.nonempty new)) (set_printed item.sign is_item.1))))

  next_item_printed : (before : List SignedFormula) (item : SignedFormula) → IsNew formula_of before item × IsItem item → Printed s EndsSign (NextItem n s before) (before ++ item ∷ []) (codes ", " ++ item_text logic item)
  next_item_printed before item is_item = printed_sign s EndsSign (is Comma) (Item n s before) (before ++ item ∷ []) (codes ", ") (item_text logic item) spaced_comma (item_printed before item is_item)

  pub sequent_printed : (items : List SignedFormula) → items ≢ [] → All (λ item. IsReadable logic item.formula) items → IsSequent n items → Printed s EndsSign (Items n s) items (sequent_text logic items)
  unfolding sequent_text
  sequent_printed [] some readable sequent = absurd (some refl)
  sequent_printed (x ∷ xs) some readable sequent =
      let both : All IsItem (x ∷ xs) = λ k d lt. (readable k d lt, sequent.signs k d lt) in
      list_printed s EndsSign (codes ", ") (item_text logic) (NextItem n s) (λ before item. IsNew formula_of before item × IsItem item) next_item_printed (λ rest. ends_comma (32 ∷ rest)) (Item n s []) x xs
      (item_printed [] x (refl, All-head IsItem x xs both))
      (each_new formula_of IsItem (x ∷ []) xs sequent.distinct (All-tail IsItem x xs both))
