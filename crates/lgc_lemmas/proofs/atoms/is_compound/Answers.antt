-- The node at the number.
use Rattle.std.proofs.Common.{sym, ◌∙◌, ap, Some}
use Rattle.lgc_lemmas.specs.Nodes.{is_compound_node}
use Rattle.lgc_lemmas.proofs.Refuting.{node_there}
use Rattle.lgc_lemmas.proofs.atoms.is_compound.Goals as goal

pub returns-in-Atom : goal.returns-in-Atom
returns-in-Atom c = sym (ap is_compound_node (node_there c.args.nodes.now c.args.number c.index-nodes-number.result c.requires c.index-nodes-number.is ∙ ap Some c.in-Atom.is))

pub returns-in-Compound : goal.returns-in-Compound
returns-in-Compound c = sym (ap is_compound_node (node_there c.args.nodes.now c.args.number c.index-nodes-number.result c.requires c.index-nodes-number.is ∙ ap Some c.in-Compound.is))
