-- The formulas of each part of a query are no deeper than those of the whole.
use Rattle.std.proofs.Common.{◌<◌, ◌^◌, sym, subst, rules}
use Rattle.std.specs.List.{All, flat_map}
use Rattle.lgc_syntax.specs.Sizes.{depth}
use Rattle.lgc_meaning.specs.Queries.{sides, formulas_of}
use Rattle.lgc_meaning.proofs.Parts.{All-left, All-right, All-flat_map}
use Rattle.lgc_queries.proofs.text.put_query.Goals as goal

pub put_formulas-requires-in-Mixed : goal.put_formulas-requires-in-Mixed
put_formulas-requires-in-Mixed g c =
    let conclusions = All-right (λ f. depth f < 2 ^ 32) c.in-Mixed.premises c.in-Mixed.conclusions (subst (λ q. All (λ f. depth f < 2 ^ 32) (formulas_of q)) c.in-Mixed.is c.requires.formulas) in
    (search rules, subst (All (λ f. depth f < 2 ^ 32)) (sym c.items-in-Mixed-3.ensures) conclusions)

pub put_equations-requires : goal.put_equations-requires
put_equations-requires g c =
    let premises = All-flat_map (λ f. depth f < 2 ^ 32) sides c.in-Quasi.premises (All-left (λ f. depth f < 2 ^ 32) (flat_map sides c.in-Quasi.premises) (sides c.in-Quasi.conclusion) (subst (λ q. All (λ f. depth f < 2 ^ 32) (formulas_of q)) c.in-Quasi.is c.requires.formulas)) in
    (search rules, subst (All (λ pair. All (λ f. depth f < 2 ^ 32) (sides pair))) (sym c.items-in-Quasi.ensures) premises)

pub put_equation-requires-in-Quasi : goal.put_equation-requires-in-Quasi
put_equation-requires-in-Quasi g c =
    let conclusion = All-right (λ f. depth f < 2 ^ 32) (flat_map sides c.in-Quasi.premises) (sides c.in-Quasi.conclusion) (subst (λ q. All (λ f. depth f < 2 ^ 32) (formulas_of q)) c.in-Quasi.is c.requires.formulas) in
    (search rules, conclusion)
