-- The counts of the plain report are those of the report.
use Rattle.std.proofs.Common.{◌≡◌, ◌++◌, OnOk, length, map, sym, ap, subst, ◌∙◌}
use Rattle.std.proofs.lemmas.List.{length-map}
use Rattle.lgc_report.specs.Reports.{plain_numbered, plain_claim}
use Rattle.lgc_check.specs.VerdictText.{counts_text}
use Rattle.lgc_check.proofs.text.put_accepted.Goals as goal

pub returns : goal.returns
returns g c =
    let report = c.args.report.now in
    let rules : length c.items-rules.result.now ≡ length (map plain_numbered report.rules) = ap length c.items-rules.ensures ∙ sym (length-map report.rules (plain_numbered {size = g.row.N})) in
    let lines : length c.items-lines.result.now ≡ length report.lines = ap length c.items-lines.ensures in
    let claims : length c.items-claims.result.now ≡ length (map plain_claim report.claims) = ap length c.items-claims.ensures ∙ sym (length-map report.claims (plain_claim {size = g.row.N})) in
    subst (λ text. OnOk c.put_counts.result (c.put_counts.new.into.items ≡ c.args.into.now.items ++ text)) (λ j. counts_text (rules j) (lines j) (claims j)) c.put_counts.ensures
