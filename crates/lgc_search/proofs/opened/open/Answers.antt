-- A compound, its arguments and the rest of the goal.
use Rattle.std.proofs.Common.{◌≡◌, ◌∙◌}
use Rattle.lgc_search.proofs.Opening.{opened_known, opened_arguments, opened_falls, rest_numbers, sign_nonempty}
use Rattle.lgc_search.proofs.opened.open.Goals as goal

pub returns-clause-known : goal.returns-clause-known
returns-clause-known g c = opened_known c.args.m.now c.args.nodes.now c.args.goal.now c.pairs.result.now c.args.at c.index-pairs-at.result c.requires.nodes c.requires.numbers c.requires.compound c.pairs.ensures.pairs c.index-nodes-principal.result c.index-nodes-principal.is c.in-Compound.op c.in-Compound.args c.in-Compound.is

pub returns-clause-nonempty : goal.returns-clause-nonempty
returns-clause-nonempty g c = sign_nonempty g.row.N c.args.goal.now c.pairs.result.now c.args.at (c.requires.compound.number, c.requires.compound.sign) c.index-pairs-at-2.result c.pairs.ensures.packed c.pairs.ensures.pairs c.requires.compound.is

pub returns-clause-numbers : goal.returns-clause-numbers
returns-clause-numbers g c = rest_numbers _ c.args.goal.now c.in_ok-rest-in-Compound.rest c.args.at c.requires.numbers c.in_ok-rest-in-Compound.ensures

pub returns-clause-arguments : goal.returns-clause-arguments
returns-clause-arguments g c = opened_arguments c.args.m.now c.args.nodes.now c.args.goal.now c.pairs.result.now c.args.at c.index-pairs-at.result c.requires.nodes c.requires.numbers c.requires.compound c.pairs.ensures.pairs c.index-nodes-principal.result c.index-nodes-principal.is c.in-Compound.op c.in-Compound.args c.in-Compound.is
    c.of_vec-arguments.result (c.of_vec-arguments.ensures ∙ c.in_ok-from_slice-in-Compound.ensures.items ∙ c.items.ensures)

pub returns-clause-falls : goal.returns-clause-falls
returns-clause-falls g c = opened_falls c.args.m.now c.args.nodes.now c.args.goal.now c.pairs.result.now c.args.at c.index-pairs-at.result c.requires.nodes c.requires.numbers c.requires.compound c.pairs.ensures.pairs c.index-nodes-principal.result c.index-nodes-principal.is c.in-Compound.op c.in-Compound.args c.in-Compound.is
    c.of_vec-arguments.result c.in_ok-rest-in-Compound.rest c.operators-operators.ensures.logic (c.of_vec-arguments.ensures ∙ c.in_ok-from_slice-in-Compound.ensures.items ∙ c.items.ensures) c.in_ok-rest-in-Compound.ensures
