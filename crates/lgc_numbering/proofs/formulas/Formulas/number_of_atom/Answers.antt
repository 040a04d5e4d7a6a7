-- The number that the key is found under is that of the atom.
use Rattle.lgc_numbering.specs.declared.node.Node.TheVariants as node
use Rattle.lgc_numbering.proofs.formulas.Formulas.number_of_atom.Goals as goal

pub returns-in-Some-clause-number : goal.returns-in-Some-clause-number
returns-in-Some-clause-number c = c.in-Some.ensures (node.Atom c.args.atom.now) c.requires c.in_ok-key.ensures
