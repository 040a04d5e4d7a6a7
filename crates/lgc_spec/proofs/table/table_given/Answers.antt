use Rattle.std.proofs.Common.{length}
use Rattle.lgc_spec.proofs.TableLaws.{headings_lie}
use Rattle.lgc_spec.proofs.table.table_given.Goals as goal

pub check_distinct-requires-2 : goal.check_distinct-requires-2
check_distinct-requires-2 c =
    rw (c.deref.ensures.value, c.in_ok-lines.ensures) (headings_lie (length c.args.bytes.now) (length c.args.names.now) c.args.cells.now c.if-cells-n.false c.requires.words)
