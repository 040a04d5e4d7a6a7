use Rattle.std.proofs.Common.{◌≡◌, ◌++◌, map, drop}
use Rattle.lgc_print.specs.FormulaText.{term_text}
use Rattle.lgc_print.proofs.FormulaTextLaws.{signed}
use Rattle.lgc_print.proofs.formulas.+put_term.Given as goal

abbrev pub invariant-put_terms-loop-arg : goal.invariant-put_terms-loop-arg
invariant-put_terms-loop-arg l = l.into.items ++ signed l.sign (map (λ t. term_text t l.around) (drop l.arg-index l.args)) ≡ l.fn.into.items ++ signed 40 (map (λ t. term_text t l.around) l.args)
