-- The formulas of each part of a query are of the logic and have no quantifier.
use Rattle.std.proofs.Common.{◌≡◌, false, sym, subst, rules}
use Rattle.std.specs.List.{All, flat_map}
use Rattle.lgc_syntax.specs.declared.formula.Formula.{Formula}
use Rattle.lgc_syntax.specs.Fits.{Fits}
use Rattle.lgc_syntax.specs.Sizes.{has_quantifier}
use Rattle.lgc_meaning.specs.Queries.{sides, formulas_of}
use Rattle.lgc_meaning.proofs.Parts.{All-left, All-right, All-flat_map}
use Rattle.lgc_meaning.proofs.satisfaction.satisfies.Goals as goal

pub some_inside-requires : goal.some_inside-requires
some_inside-requires g c =
    let part : (P : Formula → Type 0) → All P (formulas_of c.args.q.now) → All P c.items-else-some_outside.result.now =
    λ P all. subst (All P) (sym c.items-else-some_outside.ensures) (All-right P c.in-Mixed.premises c.in-Mixed.conclusions (subst (λ q. All P (formulas_of q)) c.in-Mixed.is all)) in
    (search rules, (search rules, (part (Fits c.args.m.now) c.requires.fits.formulas, (part (λ f. has_quantifier f ≡ false) c.requires.propositional, search rules))))

pub some_fails-requires : goal.some_fails-requires
some_fails-requires g c =
    let part : (P : Formula → Type 0) → All P (formulas_of c.args.q.now) → All (λ pair. All P (sides pair)) c.items-in-Quasi.result.now =
    λ P all. subst (All (λ pair. All P (sides pair))) (sym c.items-in-Quasi.ensures)
    (All-flat_map P sides c.in-Quasi.premises (All-left P (flat_map sides c.in-Quasi.premises) (sides c.in-Quasi.conclusion) (subst (λ q. All P (formulas_of q)) c.in-Quasi.is all))) in
    (search rules, (part (Fits c.args.m.now) c.requires.fits.formulas, (part (λ f. has_quantifier f ≡ false) c.requires.propositional, search rules)))

pub holds-requires-else-some_fails : goal.holds-requires-else-some_fails
holds-requires-else-some_fails g c =
    let part : (P : Formula → Type 0) → All P (formulas_of c.args.q.now) → All P (sides c.in-Quasi.conclusion) =
    λ P all. All-right P (flat_map sides c.in-Quasi.premises) (sides c.in-Quasi.conclusion) (subst (λ q. All P (formulas_of q)) c.in-Quasi.is all) in
    (search rules, (part (Fits c.args.m.now) c.requires.fits.formulas, (part (λ f. has_quantifier f ≡ false) c.requires.propositional, search rules)))
