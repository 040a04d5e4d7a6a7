-- The formulas of what refutes a query are its atoms, and lines are cited behind a word.
use Rattle.std.proofs.Common.{◌≡◌, ◌++◌, ◌<◌, ◌^◌, OnOk, sym, subst, rules}
use Rattle.std.specs.Prelude.{codes}
use Rattle.std.specs.List.{All}
use Rattle.std.proofs.lemmas.Result.{on_ok_weaker}
use Rattle.lgc_syntax.specs.declared.formula.Formula.{Formula}
use Rattle.lgc_syntax.specs.Sizes.{depth}
use Rattle.lgc_report.specs.Reports.{formulas_of_evidence, FitsEvidence}
use Rattle.lgc_report.specs.ReportText.{evidence_text}
use Rattle.lgc_report.proofs.ReportLaws.{All-of_map, values_below, cited_behind}
use Rattle.lgc_report.proofs.text.put_evidence.Goals as goal

pub put_entries-requires : goal.put_entries-requires
put_entries-requires g c =
    let Shallow : Formula → Type 0 = λ f. depth f < 2 ^ 32 in
    let entries = c.in-Refuted.valuation in
    let formulas = subst (λ evidence. All Shallow (formulas_of_evidence evidence)) c.in-Refuted.is c.requires.shallow in
    let below = values_below c.args.m.now entries (subst (FitsEvidence c.args.m.now) c.in-Refuted.is c.requires.fits) in
    let values = subst (λ n. All (λ entry. entry.1 < n) entries) c.names-names.ensures.size below in
    (search rules, (subst (All (λ entry. Shallow entry.0)) (sym c.entries.ensures.entries) (All-of_map Shallow (λ entry. entry.0) entries formulas), subst (All (λ entry. entry.1 < g.row.N)) (sym c.entries.ensures.entries) values))

pub returns-in_ok-extend_from_slice-in-Unfinished : goal.returns-in_ok-extend_from_slice-in-Unfinished
returns-in_ok-extend_from_slice-in-Unfinished g c =
    let result = c.put_positions-in-Unfinished.result in
    let put = on_ok_weaker result (cited_behind (codes " unfinished by ") c.args.into.now.items _ _ _ c.in-Unfinished.cited c.in_ok-extend_from_slice-in-Unfinished.ensures.items c.items-in-Unfinished.ensures) c.put_positions-in-Unfinished.ensures in
    subst (λ evidence. OnOk result (c.put_positions-in-Unfinished.new.into.items ≡ c.args.into.now.items ++ evidence_text c.args.m.now evidence)) (sym c.in-Unfinished.is) put
