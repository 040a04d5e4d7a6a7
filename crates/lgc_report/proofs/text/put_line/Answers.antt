-- The formulas of a line are those of its sequent, and the one that its reason names.
use Rattle.std.proofs.Common.{◌≡◌, ◌<◌, ◌^◌, true, sym, subst, rules}
use Rattle.std.specs.List.{All}
use Rattle.lgc_syntax.specs.declared.formula.Formula.{Formula}
use Rattle.lgc_syntax.specs.Sizes.{depth}
use Rattle.lgc_syntax.specs.Variables.{has_no_bound}
use Rattle.lgc_sequents.specs.Lines.{PlainLine, formulas_of, premises_of}
use Rattle.lgc_report.proofs.ReportLaws.{formulas_of_sequent, formulas_of_reason}
use Rattle.lgc_report.proofs.text.put_line.Goals as goal

pub put_sequent-requires : goal.put_sequent-requires
put_sequent-requires g c =
    let line : PlainLine = record { number = c.line.inside.number; sequent = c.line.inside.sequent; reason = c.line.inside.reason } in
    let Shallow : Formula → Type 0 = λ f. depth f < 2 ^ 32 in
    let formulas : All Shallow (formulas_of line) = subst (λ line. All Shallow (formulas_of line)) (sym c.line.view_is) c.requires.formulas in
    (search rules, (search rules, subst (All (λ item. Shallow item.formula)) (sym c.items.ensures.items) (formulas_of_sequent Shallow line formulas)))

pub put_reason-requires : goal.put_reason-requires
put_reason-requires g c =
    let line : PlainLine = record { number = c.line.inside.number; sequent = c.line.inside.sequent; reason = c.line.inside.reason } in
    let Shallow : Formula → Type 0 = λ f. depth f < 2 ^ 32 in
    let formulas : All Shallow (formulas_of line) = subst (λ line. All Shallow (formulas_of line)) (sym c.line.view_is) c.requires.formulas in
    (search rules, (formulas_of_reason Shallow line formulas, subst (λ line. All (λ cited. All (λ t. has_no_bound t ≡ true) cited.terms) (premises_of line.reason)) (sym c.line.view_is) c.requires.terms))
