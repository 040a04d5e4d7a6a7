-- The formulas and the steps of a derivation, at its root.
use Rattle.std.proofs.Common.{◌≡◌, ℕ, ◌+◌, ◌<◌, List, [], ◌∷◌, ◌++◌, map, sym, ◌∙◌, ap, arith}
use Rattle.std.specs.Prelude.{All}
use Rattle.std.specs.List.{flat_map}
use Rattle.std.proofs.lemmas.List.Elements.{All-nil, All-head, All-tail, All-append}
use Rattle.lgc_syntax.specs.declared.formula.Formula.{Formula}
use Rattle.lgc_syntax.specs.Sizes.{greatest}
use Rattle.lgc_sequents.specs.Signed.{SignedFormula}
use Rattle.lgc_derivations.specs.declared.derivation.Derivation.{Axiom, Step, fold-Derivation, fold-roll-Derivation}
use Rattle.lgc_derivations.specs.declared.derivation.Derivation.TheVariants.{rolls-Axiom, rolls-Step}
use Rattle.lgc_derivations.specs.declared.derivation.Derivation.TheOpen as derivation
use Rattle.lgc_derivations.specs.Derivations.{Tree, formulas_layer, formulas_of, steps_layer, most_steps}

-- ---- formulas

pub formulas-Axiom : (conclusion : List SignedFormula) → formulas_of (Axiom conclusion) ≡ map (λ item. item.formula) conclusion
unfolding formulas_of
formulas-Axiom conclusion = ap (fold-Derivation (List SignedFormula) (List Formula) formulas_layer) (sym (rolls-Axiom conclusion)) ∙ fold-roll-Derivation (List SignedFormula) (List Formula) formulas_layer (derivation.Axiom conclusion)

pub formulas-Step : (conclusion : List SignedFormula) (position : ℕ) (principal : Formula) (premises : List Tree) → formulas_of (Step conclusion position principal premises) ≡ map (λ item. item.formula) conclusion ++ flat_map (λ formulas. formulas) (map formulas_of premises)
unfolding formulas_of
formulas-Step conclusion position principal premises =
    ap (fold-Derivation (List SignedFormula) (List Formula) formulas_layer) (sym (rolls-Step conclusion position principal premises)) ∙ fold-roll-Derivation (List SignedFormula) (List Formula) formulas_layer (derivation.Step conclusion position principal premises)

-- what is true of each formula of each derivation is true of all their formulas
pub all_formulas : (P : Formula → Type 0) (ds : List Tree) → All (λ d. All P (formulas_of d)) ds → All P (flat_map (λ formulas. formulas) (map formulas_of ds))
all_formulas P [] each = All-nil P
all_formulas P (d ∷ ds) each =
    All-append P (formulas_of d) (flat_map (λ formulas. formulas) (map formulas_of ds)) (All-head (λ e. All P (formulas_of e)) d ds each) (all_formulas P ds (All-tail (λ e. All P (formulas_of e)) d ds each))

-- ---- steps

pub steps-Axiom : (conclusion : List SignedFormula) → most_steps (Axiom conclusion) ≡ 0
unfolding most_steps
steps-Axiom conclusion = ap (fold-Derivation (List SignedFormula) ℕ steps_layer) (sym (rolls-Axiom conclusion)) ∙ fold-roll-Derivation (List SignedFormula) ℕ steps_layer (derivation.Axiom conclusion)

pub steps-Step : (conclusion : List SignedFormula) (position : ℕ) (principal : Formula) (premises : List Tree) → most_steps (Step conclusion position principal premises) ≡ 1 + greatest (map most_steps premises)
unfolding most_steps
steps-Step conclusion position principal premises =
    ap (fold-Derivation (List SignedFormula) ℕ steps_layer) (sym (rolls-Step conclusion position principal premises)) ∙ fold-roll-Derivation (List SignedFormula) ℕ steps_layer (derivation.Step conclusion position principal premises)

-- where no derivation has so many steps, the greatest number is below that
pub greatest_below : (n : ℕ) (ds : List Tree) → 0 < n → All (λ d. most_steps d < n) ds → greatest (map most_steps ds) < n
greatest_below n [] some each = some
greatest_below n (d ∷ ds) some each =
    let first = All-head (λ e. most_steps e < n) d ds each in
    let rest = greatest_below n ds some (All-tail (λ e. most_steps e < n) d ds each) in
    omega (arith, first, rest)
