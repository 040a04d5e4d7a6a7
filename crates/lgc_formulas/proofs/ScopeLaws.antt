-- The names of each kind of scope.
use Rattle.std.proofs.Common.{ℕ, ◌≡◌, List, [], ◌∷◌, sym, ◌∙◌, ap}
use Rattle.lgc_formulas.specs.declared.scope.Scope.{Outermost, Inside, fold-Scope, fold-roll-Scope}
use Rattle.lgc_formulas.specs.declared.scope.Scope.TheVariants.{rolls-Outermost, rolls-Inside}
use Rattle.lgc_formulas.specs.declared.scope.Scope.TheOpen as scope
use Rattle.lgc_formulas.specs.Scopes.{names_of, names_layer}

pub names-Outermost : names_of Outermost ≡ []
unfolding names_of
names-Outermost = ap (fold-Scope (List (List ℕ)) names_layer) (sym rolls-Outermost) ∙ fold-roll-Scope (List (List ℕ)) names_layer scope.Outermost

pub names-Inside : (name : _) (around : _) → names_of (Inside name around) ≡ name.now ∷ names_of around.now
unfolding names_of
names-Inside name around = ap (fold-Scope (List (List ℕ)) names_layer) (sym (rolls-Inside name around)) ∙ fold-roll-Scope (List (List ℕ)) names_layer (scope.Inside name around)

pub ruleset names_rules = (names-Outermost, names-Inside)
