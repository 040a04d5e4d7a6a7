-- How the loop over the items looks for the formula.
use Rattle.std.proofs.Common.{◌≡◌, ◌++◌, take, drop}
use Rattle.lgc_sequents.specs.Sequents.{occurs, joined}
use Rattle.lgc_sequents.proofs.sequent.join.Given as goal

abbrev pub invariant-loop-i : goal.invariant-loop-i
invariant-loop-i g l = record {
  occurs : occurs l.items.items l.formula ≡ occurs (drop l.i l.items.items) l.formula;
  joined : joined g.row.N l.items.items l.formula l.sign ≡ take l.i l.items.items ++ joined g.row.N (drop l.i l.items.items) l.formula l.sign;
  same : l.items ≡ l.fn.items;
}
