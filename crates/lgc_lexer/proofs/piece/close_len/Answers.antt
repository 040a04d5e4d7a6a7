use Rattle.std.proofs.Common.{arith}
use Rattle.std.proofs.lemmas.Grind.{common_steps}
use Rattle.lgc_lexer.proofs.Scanning.{close_passed, close_none}
use Rattle.lgc_lexer.proofs.piece.close_len.Goals as goal
use Rattle.lgc_lexer.proofs.piece.close_len.Goals.{else-bytes-i-eq-STAR-via-then-bytes-i-eq-STAR+else-bytes-i-eq-SLASH, else-bytes-i-eq-STAR-via-else-bytes-i-eq-STAR}

pub loop-i-preserved : goal.loop-i-preserved
loop-i-preserved c = record {
  in_range = omega arith;
  rest = close_passed _ _ c.loop-i-test.true (elim c.else-bytes-i-eq-STAR.branch [
    | else-bytes-i-eq-STAR-via-then-bytes-i-eq-STAR+else-bytes-i-eq-SLASH w ↦ grind (arith, common_steps)
    | else-bytes-i-eq-STAR-via-else-bytes-i-eq-STAR w ↦ grind (arith, common_steps)
  ]) c.loop-i.invariant.rest;
}

pub returns-clause-value : goal.returns-clause-value
returns-clause-value c = close_none _ _ c.loop-i-test.false c.loop-i.invariant.rest
