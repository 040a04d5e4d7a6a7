-- The rules in use stand, and the lines cite them by their new numbers.
use Rattle.std.proofs.Common.{map, sym, ap, subst, ◌∙◌, arith}
use Rattle.lgc_report.specs.Reports.{plain_numbered}
use Rattle.lgc_prove.specs.ByUse.{rules_cited, first_uses, IsByUse}
use Rattle.lgc_prove.specs.Uses.{AreNumberedFrom}
use Rattle.lgc_prove.proofs.ByUseLaws.{uses_fit, uses_there, uses_cited, is_by_use}
use Rattle.lgc_prove.proofs.by_use.by_use.Goals as goal

pub numbered_from-requires : goal.numbered_from-requires
numbered_from-requires g c =
    let uses = c.as_slice.result.now in
    let is = c.as_slice.ensures.keys ∙ c.in_ok-uses.ensures ∙ ap (λ ls. first_uses (rules_cited ls)) c.items.ensures in
    let fit = uses_fit g.row.N c.args.rules.now c.args.lines uses is c.requires.few c.requires.steps in
    let there = uses_there g.row.N c.args.rules.now c.args.lines uses is c.requires.steps in
    (omega arith, (omega arith, (fit, there)))

pub renumber_lines-requires : goal.renumber_lines-requires
renumber_lines-requires g c =
    let uses = c.in_ok-uses.uses.keys in
    let is = c.in_ok-uses.ensures ∙ ap (λ ls. first_uses (rules_cited ls)) c.items.ensures in
    let fit = uses_fit g.row.N c.args.rules.now c.args.lines uses is c.requires.few c.requires.steps in
    (omega arith, (fit, uses_cited c.args.lines uses is))

pub returns : goal.returns
returns g c =
    let uses = c.in_ok-uses.uses.keys in
    let is = c.in_ok-uses.ensures ∙ ap (λ ls. first_uses (rules_cited ls)) c.items.ensures in
    let used = map (plain_numbered {size = g.row.N}) c.in_ok-used.used in
    subst (IsByUse g.row.N c.args.rules.now c.args.lines used) (sym c.renumber_lines.ensures)
    (is_by_use g.row.N c.args.rules.now c.args.lines uses used is c.requires.steps (subst (λ us. AreNumberedFrom c.args.rules.now us used) c.as_slice.ensures.keys c.in_ok-used.ensures))
