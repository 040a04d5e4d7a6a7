-- The queries before are put.
use Rattle.std.proofs.Common.{take}
use Rattle.lgc_calculus.specs.RuleBook.{IsRightBook}
use Rattle.lgc_tableaux.specs.Work.{AreQueriesPut}
use Rattle.lgc_tableaux.proofs.tableaux.tableaux_text.Given as goal

abbrev pub invariant-loop-i : goal.invariant-loop-i
invariant-loop-i g l = record {
  put : AreQueriesPut g.row.N l.m l.book (take l.i l.queries) l.all_closed l.text.items;
  right : IsRightBook l.m l.book;
}
