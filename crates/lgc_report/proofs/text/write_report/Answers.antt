-- What is true of a report's parts.
use Rattle.std.proofs.Common.{◌≡◌, ◌<◌, ◌^◌, true, sym, subst, rules}
use Rattle.std.specs.List.{All}
use Rattle.std.proofs.lemmas.List.Elements.{All-weaker}
use Rattle.lgc_syntax.specs.declared.formula.Formula.{Formula}
use Rattle.lgc_syntax.specs.Sizes.{depth}
use Rattle.lgc_syntax.specs.Variables.{has_no_bound}
use Rattle.lgc_clauses.specs.Rules.{Fits}
use Rattle.lgc_clauses.specs.Kinds.{plain_rule}
use Rattle.lgc_sequents.specs.Lines.{PlainLine, formulas_of, premises_of, FitsLine}
use Rattle.lgc_report.specs.Reports.{PlainClaim, plain_claim, plain_report, formulas_of_claim, FitsClaim}
use Rattle.lgc_report.proofs.ReportLaws.{All-of_map, formulas_of_lines, formulas_of_claims, rules_fit}
use Rattle.lgc_report.proofs.text.write_report.Goals as goal

pub put_rules-requires : goal.put_rules-requires
put_rules-requires g c =
    let fit = rules_fit c.args.m.now c.args.r.now.rules c.requires.fits.rules in
    (search rules, (search rules, subst (All (λ numbered. Fits c.args.m.now (plain_rule numbered.rule))) (sym c.items.ensures) fit))

pub put_lines-requires : goal.put_lines-requires
put_lines-requires g c =
    let Shallow : Formula → Type 0 = λ f. depth f < 2 ^ 32 in
    let Closed : PlainLine → Type 0 = λ line. All (λ cited. All (λ t. has_no_bound t ≡ true) cited.terms) (premises_of line.reason) in
    let formulas = formulas_of_lines Shallow (plain_report c.args.r.now) c.requires.shallow in
    let terms = All-weaker (FitsLine c.args.m.now) Closed (λ line fits. fits.terms) c.args.r.now.lines c.requires.fits.lines in
    (search rules, (search rules, (subst (All (λ line. All Shallow (formulas_of line))) (sym c.items-2.ensures) formulas, subst (All Closed) (sym c.items-2.ensures) terms)))

pub put_claims-requires : goal.put_claims-requires
put_claims-requires g c =
    let Shallow : PlainClaim → Type 0 = λ claim. All (λ f. depth f < 2 ^ 32) (formulas_of_claim claim) in
    let formulas = All-of_map Shallow plain_claim c.args.r.now.claims (formulas_of_claims (λ f. depth f < 2 ^ 32) (plain_report c.args.r.now) c.requires.shallow) in
    let fit = All-of_map (FitsClaim c.args.m.now) plain_claim c.args.r.now.claims c.requires.fits.claims in
    (search rules, (search rules, (subst (All (λ claim. Shallow (plain_claim claim))) (sym c.items-3.ensures) formulas, subst (All (λ claim. FitsClaim c.args.m.now (plain_claim claim))) (sym c.items-3.ensures) fit)))
