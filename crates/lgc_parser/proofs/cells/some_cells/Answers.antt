use Rattle.std.proofs.Common.{sym, arith}
use Rattle.std.proofs.lemmas.Result.{err_from_is_err_and}
use Rattle.lgc_grammar.specs.Reading.{more_loosely_at}
use Rattle.lgc_grammar.proofs.Loops.{list_begins, loosely_takes, loosely_ended}
use Rattle.lgc_tokens.specs.declared.class.Class.TheVariants.{Comma}
use Rattle.lgc_tokens.specs.declared.terminal.Terminal.TheVariants.{Value}
use Rattle.lgc_tokens.specs.Classes.{is, is_value}
use Rattle.lgc_parser.specs.Reads.{word_at}
use Rattle.lgc_parser.specs.SpecReading.{some_cells_at}
use Rattle.lgc_parser.proofs.WordReads.{word_reads}
use Rattle.lgc_tokens.proofs.Stops.{when_ok}
use Rattle.lgc_parser.proofs.Lists.{first_fails, cell_fails}
use Rattle.lgc_parser.proofs.cells.some_cells.Goals as goal

pub returns-in_err-first-clause-gives : goal.returns-in_err-first-clause-gives
unfolding some_cells_at
returns-in_err-first-clause-gives c =
    let p = err_from_is_err_and c.from_residual.result c.from_residual.ensures.1 in
    rw (p.1, p.2) (first_fails (word_at is_value) (more_loosely_at (is Comma) is_value (word_at is_value)) _ _ _ c.in_err-first.ensures.gives)

pub loop-after-init : goal.loop-after-init
unfolding some_cells_at
loop-after-init c =
    let pushed = when_ok _ _ c.in_ok-push.was c.push.ensures.ok in
    record {
      so_far = rw (pushed, c.new-cells.ensures) (list_begins (word_at is_value) (more_loosely_at (is Comma) is_value (word_at is_value)) _ _ _ c.in_ok-first.ensures.gives);
      rest = record { shorter = omega (arith, c.in_ok-first.ensures.rest.shorter); inside = c.in_ok-first.ensures.rest.inside };
    }

pub returns-in_err-next-clause-gives : goal.returns-in_err-next-clause-gives
returns-in_err-next-clause-gives c =
    let p = err_from_is_err_and c.from_residual-in_err-next.result c.from_residual-in_err-next.ensures.1 in
    rw (p.1, p.2) (cell_fails (word_reads Value) _ (is Comma) _ _ _ _ (sym c.loop-after-test.ensures) (rw c.past-after.ensures.gives at c.in_err-next.ensures.gives) c.loop-after.invariant.so_far)

pub loop-after-preserved : goal.loop-after-preserved
loop-after-preserved c =
    let pushed = when_ok _ _ c.in_ok-push-2.was c.push-in-loop-after.ensures.ok in
    record {
      so_far = rw pushed (loosely_takes (is Comma) is_value (word_reads Value) _ _ _ _ _ (sym c.loop-after-test.ensures) (rw c.past-after.ensures.gives at c.in_ok-next.ensures.gives) c.loop-after.invariant.so_far);
      rest = record { shorter = omega (arith, c.in_ok-next.ensures.rest.shorter, c.past-after.ensures.rest.shorter, c.loop-after.invariant.rest.shorter); inside = c.in_ok-next.ensures.rest.inside };
    }

pub returns-clause-gives : goal.returns-clause-gives
returns-clause-gives c = loosely_ended (is Comma) is_value (word_reads Value) _ _ _ (sym c.loop-after-test.ensures) c.loop-after.invariant.so_far
