-- What is decided of the goal tells which of both is built.
use Rattle.std.proofs.Common.{◌<◌, ℕ, List, get_or, sym, subst, arith}
use Rattle.std.specs.List.{Any}
use Rattle.lgc_syntax.specs.declared.formula.Formula.{Formula}
use Rattle.lgc_syntax.specs.Subformulas.{IsSubformula}
use Rattle.lgc_numbering.specs.Growth.{IsGrownBy}
use Rattle.lgc_decision.specs.declared.decided.Decided.{Decided}
use Rattle.lgc_decision.specs.Decided.{IsDecided}
use Rattle.lgc_decision.proofs.DecisionLaws.{parts_of_goal, all_fit}
use Rattle.lgc_tableau_build.specs.Building.{AreLeft, IsBranch}
use Rattle.lgc_tableau_build.proofs.NumberLaws.{start_left}
use Rattle.lgc_tableau_build.proofs.BuiltLaws.{start_branch, tableau_for, valuation_against}
use Rattle.lgc_tableau_build.proofs.building.build.Goals as goal

pub close-requires : goal.close-requires
close-requires g c =
    let logic = c.args.m.now in
    let items = c.args.goal.now in
    let formulas = c.numbered.new.formulas in
    let nodes = c.nodes-nodes.result.now in
    let are = c.nodes-nodes.ensures.nodes in
    let numbering = c.nodes-nodes.ensures.numbering in
    let pairs = c.in_ok-pairs.pairs in
    let P : List Formula → Type 0 = λ old. IsGrownBy (λ h. Any (λ item. IsSubformula h item.formula) items) old formulas in
    let grown = subst P c.new-formulas.ensures c.in_ok-pairs.ensures.grown in
    let D : Decided g.row.N → Type 0 = IsDecided logic c.decide.new.book items in
    let proved = subst D c.in-Proved.is c.in_ok-decide.ensures.decided in
    let is_left = sym c.in_ok-left-in-Proved.ensures in (
      omega arith,
      (
        omega arith,
        (
          omega arith,
          (
            omega arith,
            (
              all_fit logic items c.requires.fits c.requires.propositional formulas grown,
              (
                subst (AreLeft formulas) is_left (start_left formulas numbering nodes are),
                (subst (λ left. IsBranch logic formulas left pairs) is_left (start_branch logic c.operators-operators.ensures.logic formulas numbering nodes are items pairs c.in_ok-pairs.ensures.numbered proved.1), c.in_ok-decide.ensures.right),
              ),
            ),
          ),
        ),
      ),
    )

pub returns-in-Proved-clause-built : goal.returns-in-Proved-clause-built
returns-in-Proved-clause-built g c =
    let logic = c.args.m.now in
    let items = c.args.goal.now in
    let formulas = c.numbered.new.formulas in
    let P : List Formula → Type 0 = λ old. IsGrownBy (λ h. Any (λ item. IsSubformula h item.formula) items) old formulas in
    let grown = subst P c.new-formulas.ensures c.in_ok-pairs.ensures.grown in
    let D : Decided g.row.N → Type 0 = IsDecided logic c.decide.new.book items in
    let proved = subst D c.in-Proved.is c.in_ok-decide.ensures.decided in (
      tableau_for logic c.operators-operators.ensures.logic formulas c.nodes-nodes.ensures.numbering c.nodes-nodes.result.now c.nodes-nodes.ensures.nodes items c.in_ok-pairs.pairs c.in_ok-pairs.ensures.numbered c.close.new.book c.in_ok-left-in-Proved.left c.in_ok-tableau-in-Proved.tableau
          (parts_of_goal logic items c.requires.fits c.requires.propositional formulas grown) c.in_ok-tableau-in-Proved.ensures.made,
      proved.1,
    )

pub values_of_atoms-requires : goal.values_of_atoms-requires
values_of_atoms-requires g c =
    let logic = c.args.m.now in
    let items = c.args.goal.now in
    let formulas = c.numbered.new.formulas in
    let valuation : List (Formula × ℕ) = c.in-Refuted.valuation in
    let P : List Formula → Type 0 = λ old. IsGrownBy (λ h. Any (λ item. IsSubformula h item.formula) items) old formulas in
    let grown = subst P c.new-formulas.ensures c.in_ok-pairs.ensures.grown in
    let D : Decided g.row.N → Type 0 = IsDecided logic c.decide.new.book items in
    let refuted = subst D c.in-Refuted.is c.in_ok-decide.ensures.decided in
    (omega arith, (all_fit logic items c.requires.fits c.requires.propositional formulas grown, λ i d lt. subst (λ n. (get_or valuation i d).1 < n) c.operators-operators.ensures.size (refuted.fit i d lt).1))

pub returns-clause-built : goal.returns-clause-built
returns-clause-built g c =
    let logic = c.args.m.now in
    let items = c.args.goal.now in
    let formulas = c.numbered.new.formulas in
    let P : List Formula → Type 0 = λ old. IsGrownBy (λ h. Any (λ item. IsSubformula h item.formula) items) old formulas in
    let grown = subst P c.new-formulas.ensures c.in_ok-pairs.ensures.grown in
    let D : Decided g.row.N → Type 0 = IsDecided logic c.decide.new.book items in
    let refuted = subst D c.in-Refuted.is c.in_ok-decide.ensures.decided in
    valuation_against logic c.operators-operators.ensures.logic formulas c.nodes-nodes.ensures.numbering c.nodes-nodes.result.now c.nodes-nodes.ensures.nodes (all_fit logic items c.requires.fits c.requires.propositional formulas grown) items c.requires.propositional
    c.in_ok-pairs.pairs c.in_ok-pairs.ensures.numbered (parts_of_goal logic items c.requires.fits c.requires.propositional formulas grown) c.in-Refuted.valuation refuted c.in_ok-values-in-Refuted.values c.in_ok-values-in-Refuted.ensures c.entries-entries.ensures.distinct
