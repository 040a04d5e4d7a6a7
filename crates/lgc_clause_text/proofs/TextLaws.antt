-- The text of clauses.
use Rattle.std.proofs.Common.{◌≡◌, ◌≢◌, List, [], ◌∷◌, length, refl, arith}
use Rattle.lgc_values.specs.Logic.{Logic}
use Rattle.lgc_sequents.specs.Signed.{SignedFormula}
use Rattle.std.specs.Prelude.{codes}
use Rattle.lgc_report.specs.ReportText.{sequent_text}
use Rattle.lgc_clause_text.specs.ClausesText.{clause_text}

pub none_text : (logic : Logic) (items : List SignedFormula) → length items ≡ 0 → clause_text logic items ≡ codes "0"
none_text logic [] none = refl
none_text logic (x ∷ items) none = absurd (omega (arith, none))

pub some_text : (logic : Logic) (items : List SignedFormula) → length items ≢ 0 → clause_text logic items ≡ sequent_text logic items
some_text logic [] some = absurd (some refl)
some_text logic (x ∷ items) some = refl

pub ruleset clause_cases = (none_text, some_text)
