use Rattle.std.proofs.Common.{◌≡◌, ◌≤◌, take}
use Rattle.lgc_tokens.specs.Numbers.{number_of}
use Rattle.lgc_tokens.proofs.number.value_of.Given as goal

abbrev pub invariant-loop-digit : goal.invariant-loop-digit
invariant-loop-digit l = record {
  so_far : l.number ≡ number_of (take l.digit-index l.digits);
  small : l.number ≤ l.most;
}
