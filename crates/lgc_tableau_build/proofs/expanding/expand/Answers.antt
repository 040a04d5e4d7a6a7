-- The clauses of the rule that the book has now.
use Rattle.std.proofs.Common.{◌≡◌, ◌-◌, ◌<◌, List, map, length, Some, sym, ◌∙◌, ap, subst, arith}
use Rattle.std.specs.List.{All, zip}
use Rattle.std.proofs.lemmas.Option.{slice_get_within}
use Rattle.std.proofs.lemmas.Result.{IfOk-weaker}
use Rattle.lgc_clauses.specs.Rules.{OperatorRule}
use Rattle.lgc_syntax.specs.declared.formula.Formula.{Op}
use Rattle.lgc_packed.specs.Packing.{AreKnown}
use Rattle.lgc_lemmas.proofs.Refuting.{node_there}
use Rattle.lgc_lemmas.proofs.StepLaws.{grown_kept}
use Rattle.lgc_tableau_build.specs.Building.{IsExpanded}
use Rattle.lgc_tableau_build.proofs.NumberLaws.{not_atom}
use Rattle.lgc_tableau_build.proofs.ClosingLaws.{known_operator, expanded_by, additions_known}
use Rattle.lgc_tableau_build.proofs.expanding.expand.Goals as goal

pub unreachable-requires : goal.unreachable-requires
unreachable-requires g c =
    let formulas = c.args.formulas.now in
    let nodes = c.nodes-nodes.result.now in
    let are = c.nodes-nodes.ensures.nodes in
    let compound = c.requires.compound in
    let lt : c.args.k < length nodes = omega (arith, slice_get_within formulas c.args.k (Op compound.0 compound.1) compound.2, are.count) in
    not_atom formulas nodes are c.args.k compound.0 compound.1 compound.2 c.in-Atom.field-0 (node_there nodes c.args.k c.index-nodes-k.result lt c.index-nodes-k.is ∙ ap Some c.in-Atom.is)

pub rule_for-requires : goal.rule_for-requires
rule_for-requires g c =
    let formulas = c.args.formulas.now in
    let nodes = c.nodes-nodes.result.now in
    let are = c.nodes-nodes.ensures.nodes in
    let compound = c.requires.compound in
    let lt : c.args.k < length nodes = omega (arith, slice_get_within formulas c.args.k (Op compound.0 compound.1) compound.2, are.count) in
    let node = node_there nodes c.args.k c.index-nodes-k.result lt c.index-nodes-k.is ∙ ap Some c.in-Compound.is in
    (omega arith, (omega arith, (omega arith, (known_operator c.args.m.now formulas nodes c.requires.fit are c.args.k c.in-Compound.op c.in-Compound.args node, (c.requires.nonempty, c.requires.right)))))

pub bounds-rules-number : goal.bounds-rules-number
bounds-rules-number g c =
    let found = c.in_ok-number-in-Compound.ensures.number in
    let W : List OperatorRule → Type 0 = λ rules. c.in_ok-number-in-Compound.number - 1 < length rules in
    subst W (sym c.rules.ensures.rules) (slice_get_within c.rule_for.new.self (c.in_ok-number-in-Compound.number - 1) found.rule found.place)

pub returns-clause-expanded : goal.returns-clause-expanded
returns-clause-expanded g c =
    let formulas = c.args.formulas.now in
    let nodes = c.nodes-nodes.result.now in
    let are = c.nodes-nodes.ensures.nodes in
    let compound = c.requires.compound in
    let lt : c.args.k < length nodes = omega (arith, slice_get_within formulas c.args.k (Op compound.0 compound.1) compound.2, are.count) in
    let node = node_there nodes c.args.k c.index-nodes-k.result lt c.index-nodes-k.is ∙ ap Some c.in-Compound.is in
    let number = c.in_ok-number-in-Compound.number in
    let read : OperatorRule = c.index-rules-number.result in
    let clauses = c.items-in-Compound.result.now in
    let args = c.items.result.now in
    IfOk-weaker c.pairs_of_clauses.result (λ pairs. pairs ≡ map (zip args) clauses) (IsExpanded c.rule_for.new.self formulas c.args.k c.args.sign)
    (λ pairs made. expanded_by formulas nodes are c.args.k c.in-Compound.op c.in-Compound.args node c.rule_for.new.self c.args.sign number c.in_ok-number-in-Compound.ensures.number c.rules.result.now c.rules.ensures.rules read c.index-rules-number.is
    clauses (c.items-in-Compound.ensures ∙ ap (λ (r : OperatorRule). r.clauses) c.rule.view_is) args c.items.ensures pairs made)
    c.pairs_of_clauses.ensures

pub returns-clause-known : goal.returns-clause-known
returns-clause-known g c =
    let formulas = c.args.formulas.now in
    let nodes = c.nodes-nodes.result.now in
    let are = c.nodes-nodes.ensures.nodes in
    let compound = c.requires.compound in
    let lt : c.args.k < length nodes = omega (arith, slice_get_within formulas c.args.k (Op compound.0 compound.1) compound.2, are.count) in
    let node = node_there nodes c.args.k c.index-nodes-k.result lt c.index-nodes-k.is ∙ ap Some c.in-Compound.is in
    let clauses = c.items-in-Compound.result.now in
    let args = c.items.result.now in
    IfOk-weaker c.pairs_of_clauses.result (λ pairs. pairs ≡ map (zip args) clauses) (All (AreKnown formulas))
    (λ pairs made. additions_known formulas nodes are c.args.k c.in-Compound.op c.in-Compound.args node clauses args c.items.ensures pairs made)
    c.pairs_of_clauses.ensures

pub returns-clause-rules : goal.returns-clause-rules
returns-clause-rules g c = grown_kept c.args.book.now c.rule_for.new.self c.rule_for.ensures.kept
