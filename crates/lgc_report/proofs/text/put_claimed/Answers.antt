-- The formulas of a claim are those of its query and of its evidence, or those of its sequent.
use Rattle.std.proofs.Common.{◌<◌, ◌^◌, sym, subst, rules}
use Rattle.std.specs.List.{All}
use Rattle.lgc_syntax.specs.declared.formula.Formula.{Formula}
use Rattle.lgc_syntax.specs.Sizes.{depth}
use Rattle.lgc_meaning.specs.Queries as queries
use Rattle.lgc_meaning.specs.Queries.{HasSetsBelow}
use Rattle.lgc_meaning.proofs.Parts.{All-left, All-right}
use Rattle.lgc_report.specs.Reports.{plain_claim, formulas_of_claim, formulas_of_evidence, FitsClaim}
use Rattle.lgc_report.proofs.ReportLaws.{All-of_map}
use Rattle.lgc_report.proofs.text.put_claimed.Goals as goal

pub put_answer-requires : goal.put_answer-requires
put_answer-requires g c =
    let Shallow : Formula → Type 0 = λ f. depth f < 2 ^ 32 in
    let query = queries.formulas_of c.in-Answer.query in
    let evidence = formulas_of_evidence c.in-Answer.evidence in
    let formulas = subst (λ claim. All Shallow (formulas_of_claim (plain_claim claim))) c.in-Answer.is c.requires.shallow in
    let fits = subst (λ claim. FitsClaim c.args.m.now (plain_claim claim)) c.in-Answer.is c.requires.fits in
    (search rules, (All-left Shallow query evidence formulas, (subst (λ n. HasSetsBelow n c.in-Answer.query) c.names-names.ensures.size fits.asked.sets, (All-right Shallow query evidence formulas, fits.known))))

pub put_holding-requires : goal.put_holding-requires
put_holding-requires g c =
    let Shallow : Formula → Type 0 = λ f. depth f < 2 ^ 32 in
    let formulas = subst (λ claim. All Shallow (formulas_of_claim (plain_claim claim))) c.in-Holds.is c.requires.shallow in
    (search rules, (search rules, subst (All (λ item. Shallow item.formula)) (sym c.items.ensures.items) (All-of_map Shallow (λ item. item.formula) c.in-Holds.sequent formulas)))
