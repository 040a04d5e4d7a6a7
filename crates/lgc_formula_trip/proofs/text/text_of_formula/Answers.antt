-- What is written is read back.
use Rattle.std.proofs.Common.{◌≡◌, ℕ, List, ◌++◌, sym, ap, subst, ◌∙◌}
use Rattle.lgc_print.specs.FormulaText.{formula_text}
use Rattle.lgc_formula_trip.specs.ReadBack.{IsReadAsFormula}
use Rattle.lgc_formula_trip.proofs.WholeTexts.{formula_read_back}
use Rattle.lgc_formula_trip.proofs.text.text_of_formula.Goals as goal

pub returns-clause-read_back : goal.returns-clause-read_back
returns-clause-read_back g c =
    let text : List ℕ = formula_text c.args.m.now c.args.f.now in
    let read = formula_read_back c.args.m.now c.args.f.now c.names-names.ensures.logic c.requires in
    let is : c.write_formula.new.into.items ≡ text = ◌∙◌ {A = List ℕ} c.in_ok-write_formula.ensures.put (ap (λ old. old ++ text) c.new-text.ensures.items) in
    subst (λ bytes. IsReadAsFormula c.args.m.now bytes c.args.f.now) (sym is) read
