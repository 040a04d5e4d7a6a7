use Rattle.std.proofs.Common.{arith, is_ok, sym, ap, inr}
use Rattle.std.proofs.ResultArms.{chosen}
use Rattle.lgc_lexer.proofs.Scanning.{blank_step, token_step, bad_ends, open_ends, all_read}
use Rattle.lgc_lexer.proofs.CutLaws.{are_tokens_of, is_fault_of}
use Rattle.lgc_lexer.proofs.SpanLaws.{tokens_are_spans}
use Rattle.lgc_lexer.proofs.lexing.lex.Goals as goal

pub loop-at-preserved-in-Blank : goal.loop-at-preserved-in-Blank
loop-at-preserved-in-Blank c = record {
  in_range = omega (arith, c.in-Blank.ensures.within);
  so_far = blank_step _ _ c.loop-at-test.true _ _ _ (sym (rw c.split_at.ensures.back at c.in-Blank.ensures.value)) c.loop-at.invariant.so_far;
}

pub loop-at-preserved : goal.loop-at-preserved
loop-at-preserved c =
    let pushed = chosen _ _ _ _ c.push.ensures.items (ap is_ok c.in_ok-push-in-Taken.was) in
    record {
      in_range = omega (arith, c.in-Taken.ensures.within);
      so_far = rw pushed (token_step _ _ c.loop-at-test.true _ _ _ _ (sym (rw c.split_at.ensures.back at c.in-Taken.ensures.value)) c.loop-at.invariant.so_far);
    }

pub returns-in-Bad : goal.returns-in-Bad
returns-in-Bad c =
    let told = bad_ends _ _ c.loop-at-test.true _ _ _ (sym (rw c.split_at.ensures.back at c.in-Bad.ensures.value)) c.loop-at.invariant.so_far in
    record { tokens = tt; fault = inr (is_fault_of _ _ told); spans = tt; exact = told }

pub returns-in-Unclosed : goal.returns-in-Unclosed
returns-in-Unclosed c =
    let told = open_ends _ _ c.loop-at-test.true _ _ (sym (rw c.split_at.ensures.back at c.in-Unclosed.ensures.value)) c.loop-at.invariant.so_far in
    record { tokens = tt; fault = inr (is_fault_of _ _ told); spans = tt; exact = told }

pub returns : goal.returns
returns c =
    let told = all_read _ _ _ _ c.loop-at-test.false c.loop-at.invariant.so_far in
    record { tokens = are_tokens_of _ _ told; fault = tt; spans = tokens_are_spans _ _ told; exact = told }
