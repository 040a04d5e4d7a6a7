-- A rule that is cited is put among those in use.
use Rattle.std.proofs.Common.{◌≡◌, sym, ap, ◌∙◌}
use Rattle.std.specs.List.{fold}
use Rattle.lgc_sequents.specs.declared.line.Reason.TheVariants.{ByRule}
use Rattle.lgc_prove.specs.ByUse.{rules_of_reason, with_number}
use Rattle.lgc_prove.proofs.by_use.put_use.Goals as goal

pub returns-in_ok-insert : goal.returns-in_ok-insert
returns-in_ok-insert g c =
    let reason : c.args.line.now.reason ≡ ByRule c.in-ByRule.rule c.in-ByRule.principal c.in-ByRule.premises = sym (ap (λ l. l.reason) c.line.view_is) ∙ c.in-ByRule.is in
    c.in_ok-insert.ensures.keys ∙ ap (λ r. fold with_number c.args.uses.now.keys (rules_of_reason r)) (sym reason)
