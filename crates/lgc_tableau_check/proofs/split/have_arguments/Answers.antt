-- The case at hand has them too, and those before are all.
use Rattle.std.proofs.Common.{◌≡◌, map, take, subst, rules, arith, IsTrue, List}
use Rattle.std.proofs.lemmas.List.{take_all}
use Rattle.std.proofs.lemmas.List.Elements.{All-more}
use Rattle.lgc_sequents.specs.Signed.{SignedFormula}
use Rattle.lgc_tableau.specs.ClosedTableaux.{PlainCase}
use Rattle.lgc_tableau_check.specs.Branches.{HaveArguments}
use Rattle.lgc_tableau_check.proofs.split.have_arguments.Goals as goal

pub loop-case-preserved : goal.loop-case-preserved
loop-case-preserved g c =
    let yes : IsTrue c.are_arguments.result = search rules in
    let here : map (λ (x : SignedFormula). x.formula) c.case-item.result.added ≡ c.args.args.now = subst (λ (xs : List SignedFormula). map (λ (x : SignedFormula). x.formula) xs ≡ c.args.args.now) c.items.ensures (c.are_arguments.ensures.0 yes) in
    All-more (λ (case : PlainCase). map (λ (x : SignedFormula). x.formula) case.added ≡ c.args.args.now) c.args.cases.now c.loop-case.case-index c.case-item.result (omega arith) c.loop-case.invariant
    (subst (λ (case : PlainCase). map (λ (x : SignedFormula). x.formula) case.added ≡ c.args.args.now) c.case-item.is here)

pub returns : goal.returns
returns g c =
    let whole : take c.loop-case.case-index c.args.cases.now ≡ c.args.cases.now = take_all c.loop-case.case-index c.args.cases.now (omega arith) in
    (λ _. subst (HaveArguments c.args.args.now) whole c.loop-case.invariant, λ _. search rules)
