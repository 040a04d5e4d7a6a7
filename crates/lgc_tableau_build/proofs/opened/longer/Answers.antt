-- The longer branch is the one that was asked for.
use Rattle.std.proofs.Common.{◌≡◌, ◌++◌, ℕ, List, Bool, sym, ◌∙◌, ap, subst}
use Rattle.lgc_tableau_build.specs.Building.{IsBranch}
use Rattle.lgc_tableau_build.proofs.opened.longer.Goals as goal

pub returns-clause-branch : goal.returns-clause-branch
returns-clause-branch g c =
    let rest = c.args.opened.now.rest in
    let left : c.of_vec-left.result ≡ rest = c.of_vec-left.ensures ∙ c.in_ok-from_slice.ensures.items ∙ c.items.ensures in
    let pairs : c.of_vec.result ≡ c.args.branch.now.pairs ++ c.args.addition.now = c.of_vec.ensures ∙ c.in_ok-extend_from_slice.ensures.items ∙ ap (λ (items : List (ℕ × List ℕ)). items ++ c.args.addition.now) (c.in_ok-pairs.ensures.items ∙ c.items-2.ensures) in
    let Branch : List Bool → List (ℕ × List ℕ) → Type 0 = IsBranch c.args._m.now c.args._formulas.now in
    subst (λ l. Branch l c.of_vec.result) (sym left) (subst (Branch rest) (sym pairs) c.requires.branch)
