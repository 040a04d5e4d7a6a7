use Rattle.std.proofs.Common.{◌∙◌}
use Rattle.std.proofs.lemmas.Result.{err_from_is_err_and}
use Rattle.lgc_spec.proofs.ReadingSteps.{tree_fails, tree_told}
use Rattle.lgc_spec.proofs.OneSpec.{bytes_answered}
use Rattle.lgc_spec.proofs.WholeLogic.{logic_told}
use Rattle.lgc_spec.proofs.reading.read_spec.Goals as goal

pub returns-in_err-tree-clause-answer : goal.returns-in_err-tree-clause-answer
returns-in_err-tree-clause-answer c =
    let p = err_from_is_err_and c.from_residual.result c.from_residual.ensures.1 in
    rw (p.1, p.2) (tree_fails c.args.bytes.now _ c.if-bytes-gt-LONGEST_FILE.false c.in_err-tree.ensures.tree)

pub returns-in_err-tree-clause-complete : goal.returns-in_err-tree-clause-complete
returns-in_err-tree-clause-complete c = bytes_answered c.args.bytes.now c.from_residual.result (returns-in_err-tree-clause-answer c)

pub returns-clause-answer : goal.returns-clause-answer
returns-clause-answer c =
    let tree = c.in_ok-tree.ensures.tree in
    let same = c.items.ensures ∙ tree.1 in
    tree_told c.args.bytes.now tree.0 _ c.if-bytes-gt-LONGEST_FILE.false tree.2 (rw same at c.logic_given.ensures.answer)

pub returns-clause-complete : goal.returns-clause-complete
returns-clause-complete c = bytes_answered c.args.bytes.now c.logic_given.result (returns-clause-answer c)

pub returns-clause-logic : goal.returns-clause-logic
returns-clause-logic c = logic_told c.args.bytes.now c.items.result.now c.logic_given.result (rw c.items.ensures c.in_ok-tree.ensures.plain) c.logic_given.ensures.answer
