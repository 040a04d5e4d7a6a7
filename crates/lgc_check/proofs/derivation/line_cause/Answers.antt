-- What is found of the line.
use Rattle.std.proofs.Common.{◌≡◌, ◌+◌, subst, ◌∙◌}
use Rattle.lgc_sequents.specs.Sequents.{IsSequent}
use Rattle.lgc_sequents.specs.Lines.{PlainLine}
use Rattle.lgc_steps.specs.StepFaults.{plain_rules}
use Rattle.lgc_steps.proofs.Places.{read_there}
use Rattle.lgc_check.specs.Causes.{found_of_number}
use Rattle.lgc_check.proofs.LineFindings.{step_faulty, step_right}
use Rattle.lgc_check.proofs.derivation.line_cause.Goals as goal

pub returns-in-Some-clause-cause : goal.returns-in-Some-clause-cause
returns-in-Some-clause-cause g c = λ line is.
    step_faulty g.row.N (plain_rules c.args.rules.now) c.args.lines.now c.args.at line c.in-Some.fault c.cause_of_step.result c.cause_of_step.ensures (c.in-Some.ensures.found line is)

pub returns-in-Some-clause-sequent : goal.returns-in-Some-clause-sequent
returns-in-Some-clause-sequent g c = λ line is.
    let seen : PlainLine = record { number = c.line.inside.number; sequent = c.line.inside.sequent; reason = c.line.inside.reason } in
    let same : seen ≡ line = c.line.view_is ∙ c.index-lines-at.is ∙ read_there c.args.lines.now c.args.at line c.index-lines-at.result is in
    subst (λ (l : PlainLine). IsSequent g.row.N l.sequent) same c.items-items.ensures.sequent

pub returns-in-None-clause-cause : goal.returns-in-None-clause-cause
returns-in-None-clause-cause g c = λ line is.
    let seen : PlainLine = record { number = c.line.inside.number; sequent = c.line.inside.sequent; reason = c.line.inside.reason } in
    let same : seen ≡ line = c.line.view_is ∙ c.index-lines-at.is ∙ read_there c.args.lines.now c.args.at line c.index-lines-at.result is in
    let numbered = subst (λ (l : PlainLine). found_of_number (c.args.at + 1) l.number c.number_cause.result) same c.number_cause.ensures in
    step_right g.row.N (plain_rules c.args.rules.now) c.args.lines.now c.args.at line c.number_cause.result (c.in-None.ensures.found line is) numbered

pub returns-in-None-clause-sequent : goal.returns-in-None-clause-sequent
returns-in-None-clause-sequent g c = λ line is.
    let seen : PlainLine = record { number = c.line.inside.number; sequent = c.line.inside.sequent; reason = c.line.inside.reason } in
    let same : seen ≡ line = c.line.view_is ∙ c.index-lines-at.is ∙ read_there c.args.lines.now c.args.at line c.index-lines-at.result is in
    subst (λ (l : PlainLine). IsSequent g.row.N l.sequent) same c.items-items.ensures.sequent
