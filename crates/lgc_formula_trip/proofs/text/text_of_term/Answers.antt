-- What is written is read back.
use Rattle.std.proofs.Common.{◌≡◌, ℕ, List, ◌++◌, sym, ap, subst, ◌∙◌}
use Rattle.lgc_print.specs.FormulaText.{term_text}
use Rattle.lgc_formula_trip.specs.ReadBack.{IsReadAsTerm}
use Rattle.lgc_formula_trip.proofs.WholeTexts.{term_read_back}
use Rattle.lgc_formula_trip.proofs.text.text_of_term.Goals as goal

pub returns-clause-read_back : goal.returns-clause-read_back
returns-clause-read_back c =
    let text : List ℕ = term_text c.args.t.now 0 in
    let read = term_read_back c.args.t.now c.requires in
    let is : c.write_term.new.into.items ≡ text = ◌∙◌ {A = List ℕ} c.in_ok-write_term.ensures.put (ap (λ old. old ++ text) c.new-text.ensures.items) in
    subst (λ bytes. IsReadAsTerm bytes c.args.t.now) (sym is) read
