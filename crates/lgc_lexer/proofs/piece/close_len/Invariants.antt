use Rattle.std.proofs.Common.{◌≡◌, ◌≤◌, ◌-◌, drop, length}
use Rattle.lgc_lexer.specs.Tokens.{close_len}
use Rattle.lgc_lexer.proofs.Scanning.{after_bytes}
use Rattle.lgc_lexer.proofs.piece.close_len.Given as goal

abbrev pub invariant-loop-i : goal.invariant-loop-i
invariant-loop-i l = record { in_range : l.i ≤ length l.bytes; rest : after_bytes l.i (close_len (drop l.i l.bytes)) ≡ close_len l.bytes }

abbrev pub decreases-loop-i : goal.decreases-loop-i
decreases-loop-i l = length l.bytes - l.i
