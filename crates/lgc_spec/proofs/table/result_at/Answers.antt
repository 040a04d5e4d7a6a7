use Rattle.std.proofs.Common.{◌≡◌, ◌<◌, length, take, arith, ap, ◌∙◌}
use Rattle.std.proofs.lemmas.List.{length-take-le}
use Rattle.lgc_spec.proofs.TableLaws.{cell_within, few_cells, length-headings, headings_lie, result_is}
use Rattle.lgc_spec.proofs.table.result_at.Goals as goal

pub place_of-line-requires-clause-words : goal.place_of-line-requires-clause-words
place_of-line-requires-clause-words c =
    rw c.requires.lines (headings_lie (length c.args.bytes.now) (length c.args.names.now) c.args.cells.now c.requires.whole c.requires.words)

pub bounds-cells-n : goal.bounds-cells-n
bounds-cells-n c =
    let lines : length c.args.lines.now ≡ length c.args.names.now = ap length c.requires.lines ∙ length-headings (length c.args.names.now) c.args.cells.now in
    let line : c.place_of-line.result < length c.args.lines.now = c.place_of-line.ensures.below (omega arith) in
    let columns : length (take (length c.args.names.now) c.args.cells.now) ≡ length c.args.names.now = length-take-le (length c.args.names.now) c.args.cells.now (omega arith) in
    let column : c.place_of-column.result < length (take (length c.args.names.now) c.args.cells.now) = c.place_of-column.ensures.below (omega arith) in
    let within = cell_within (length c.args.names.now) c.place_of-line.result c.place_of-column.result (omega arith) (omega arith) in
    omega arith

pub offset_bounds-cells-n : goal.offset_bounds-cells-n
offset_bounds-cells-n c =
    let lines : length c.args.lines.now ≡ length c.args.names.now = ap length c.requires.lines ∙ length-headings (length c.args.names.now) c.args.cells.now in
    let line : c.place_of-line.result < length c.args.lines.now = c.place_of-line.ensures.below (omega arith) in
    let columns : length (take (length c.args.names.now) c.args.cells.now) ≡ length c.args.names.now = length-take-le (length c.args.names.now) c.args.cells.now (omega arith) in
    let column : c.place_of-column.result < length (take (length c.args.names.now) c.args.cells.now) = c.place_of-column.ensures.below (omega arith) in
    let within = cell_within (length c.args.names.now) c.place_of-line.result c.place_of-column.result (omega arith) (omega arith) in
    let few = few_cells (length c.args.names.now) c.requires.few in
    omega arith

pub returns : goal.returns
returns c =
    result_is c.args.bytes.now c.args.names.now c.args.cells.now c.args.lines.now c.args.a c.args.b c.place_of-line.result c.place_of-column.result c.value_of.result c.requires.lines c.place_of-line.ensures.place c.place_of-column.ensures.place c.value_of.ensures.value
