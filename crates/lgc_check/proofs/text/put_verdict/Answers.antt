-- What is true of the rules, and of the row that the cause tells.
use Rattle.std.proofs.Common.{List, map, sym, subst, rules}
use Rattle.std.specs.List.{All}
use Rattle.lgc_clauses.specs.Kinds.{plain_rule}
use Rattle.lgc_clauses.specs.Rules.{Fits}
use Rattle.lgc_clauses.specs.declared.rule.Numbered.{Numbered}
use Rattle.lgc_report.specs.Reports.{plain_numbered, plain_report}
use Rattle.lgc_report.proofs.ReportLaws.{rules_fit}
use Rattle.lgc_check.specs.Verdicts.{IsVerdict}
use Rattle.lgc_check.specs.Rows.{HasRow}
use Rattle.lgc_check.proofs.RowLaws.{has_row}
use Rattle.lgc_check.proofs.text.put_verdict.Goals as goal

pub put_rejected-requires : goal.put_rejected-requires
put_rejected-requires g c =
    let logic = c.args.m.now in
    let report = c.args.report.now in
    let fit = rules_fit logic report.rules c.requires.fits.rules in
    let first = subst (IsVerdict logic (plain_report report)) c.in-Rejected.is c.requires.verdict in
    let row = has_row logic (plain_report report) c.in-Rejected.place c.in-Rejected.position c.in-Rejected.cause first in (
      search rules,
      (
        search rules,
        (
          subst (All (λ (numbered : Numbered g.row.N). Fits logic (plain_rule numbered.rule))) (sym c.items.ensures) fit,
          subst (λ (all : List (Numbered g.row.N)). HasRow logic (map plain_numbered all) c.in-Rejected.position c.in-Rejected.cause) (sym c.items.ensures) row,
        ),
      ),
    )
