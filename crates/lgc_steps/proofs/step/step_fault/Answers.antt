-- What is found of the line.
use Rattle.std.proofs.Common.{◌≡◌, true, take, sym, ap, subst, ◌∙◌, arith}
use Rattle.std.specs.List.{All}
use Rattle.lgc_syntax.specs.Variables.{has_no_bound}
use Rattle.std.specs.Prelude.{Option, Some, slice_get}
use Rattle.lgc_sequents.specs.Lines.{PlainLine, premises_of, FitsLine}
use Rattle.lgc_sequents.specs.declared.line.Reason.{Reason}
use Rattle.lgc_steps.specs.declared.fault.StepFault.{StepFault}
use Rattle.lgc_steps.specs.StepFaults.{plain_rules, found_of_step}
use Rattle.lgc_steps.proofs.Places.{read_there}
use Rattle.lgc_steps.proofs.Parts.{reason_found, step_told}
use Rattle.lgc_steps.proofs.step.step_fault.Given as given
use Rattle.lgc_steps.proofs.step.step_fault.Goals as goal

pub reason_fault-requires : goal.reason_fault-requires
reason_fault-requires g c =
    let line = c.index-lines-at.result in
    let fits : FitsLine c.args.m.now line = subst (FitsLine c.args.m.now) (sym c.index-lines-at.is) (c.requires.fits c.args.at line c.requires.at) in
    (omega arith, (omega arith, (omega arith, subst (λ (r : Reason). All (λ cited. All (λ t. has_no_bound t ≡ true) cited.terms) (premises_of r)) (ap (λ (l : PlainLine). l.reason) (sym c.line.view_is)) fits.terms)))

found : (g : given.Over) (c : goal.After-reason_fault g) (line : PlainLine) → slice_get c.args.lines.now c.args.at ≡ Some line → found_of_step g.row.N (plain_rules c.args.rules.now) (take c.args.at c.args.lines.now) line c.reason_fault.result
found g c line is =
    let rules = plain_rules c.args.rules.now in
    let before = take c.args.at c.args.lines.now in
    let seen : PlainLine = record { number = c.line.inside.number; sequent = c.line.inside.sequent; reason = c.line.inside.reason } in
    let same : seen ≡ line = c.line.view_is ∙ c.index-lines-at.is ∙ read_there c.args.lines.now c.args.at line c.index-lines-at.result is in
    subst (λ (l : PlainLine). found_of_step g.row.N rules before l c.reason_fault.result) same
    (subst (λ (r : Option StepFault). found_of_step g.row.N rules before seen r) (sym c.reason_fault.ensures) (reason_found g.row.N rules before c.line.inside.sequent c.line.inside.reason))

pub returns-clause-found : goal.returns-clause-found
returns-clause-found g c = found g c

pub returns-clause-step : goal.returns-clause-step
returns-clause-step g c = λ line is. step_told g.row.N (plain_rules c.args.rules.now) (take c.args.at c.args.lines.now) line.sequent line.reason c.reason_fault.result (found g c line is)
