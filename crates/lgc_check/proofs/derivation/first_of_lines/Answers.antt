-- The first line of which something is found.
use Rattle.std.proofs.Common.{List, sym, subst}
use Rattle.std.specs.List.{All}
use Rattle.std.proofs.lemmas.List.{take_all}
use Rattle.std.proofs.lemmas.List.Elements.{All-more}
use Rattle.std.proofs.lemmas.Option.{get_or_from_slice_get}
use Rattle.lgc_sequents.specs.Sequents.{IsSequent}
use Rattle.lgc_sequents.specs.Lines.{PlainLine}
use Rattle.lgc_steps.specs.StepFaults.{plain_rules}
use Rattle.lgc_check.specs.Causes.{found_of_line}
use Rattle.lgc_check.proofs.Faults.{one_more, all_right, first_here}
use Rattle.lgc_check.proofs.LineFindings.{item_at}
use Rattle.lgc_check.proofs.derivation.first_of_lines.Goals as goal

pub returns-in-Some-clause-found : goal.returns-in-Some-clause-found
returns-in-Some-clause-found g c =
    let lines : List PlainLine = c.args.lines.now in
    let found = found_of_line g.row.N (plain_rules c.args.rules.now) lines in
    let line = item_at lines c.loop-i.i c.loop-i-test.true in
    first_here found lines c.loop-i.i line.0 c.in-Some.cause line.1 (c.in-Some.ensures.cause line.0 line.1) c.loop-i.invariant.right

pub loop-i-preserved : goal.loop-i-preserved
loop-i-preserved g c =
    let lines : List PlainLine = c.args.lines.now in
    let i = c.loop-i.i in
    let found = found_of_line g.row.N (plain_rules c.args.rules.now) lines in
    let P : PlainLine → Type 0 = λ line. IsSequent g.row.N line.sequent in
    let line = item_at lines i c.loop-i-test.true in
    let sequent = c.in_default.ensures.sequent line.0 line.1 in
    record {
      right = one_more found lines i line.0 line.1 (c.in_default.ensures.cause line.0 line.1) c.loop-i.invariant.right;
      sequents = All-more P lines i line.0 c.loop-i-test.true c.loop-i.invariant.sequents (subst P (sym (get_or_from_slice_get lines i line.0 line.0 line.1)) sequent);
    }

pub returns-clause-found : goal.returns-clause-found
returns-clause-found g c =
    all_right (found_of_line g.row.N (plain_rules c.args.rules.now) c.args.lines.now) c.args.lines.now c.loop-i.i c.loop-i-test.false c.loop-i.invariant.right

pub returns-clause-sequents : goal.returns-clause-sequents
returns-clause-sequents g c = λ none.
    subst (All (λ (line : PlainLine). IsSequent g.row.N line.sequent)) (take_all c.loop-i.i c.args.lines.now c.loop-i-test.false) c.loop-i.invariant.sequents
