-- The formulas of the first node are those of the tableau.
use Rattle.std.proofs.Common.{rules}
use Rattle.lgc_tableau_text.proofs.TableauLaws.{shallow_root}
use Rattle.lgc_tableau_text.proofs.text.put_tableau.Goals as goal

pub put_node-requires : goal.put_node-requires
put_node-requires g c = search (rules, shallow_root c.args.t.now c.requires)
