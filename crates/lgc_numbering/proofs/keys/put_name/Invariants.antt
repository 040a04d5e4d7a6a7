-- How the loop appends the bytes of the name.
use Rattle.std.proofs.Common.{◌≡◌, ◌∷◌, ◌++◌, length, take}
use Rattle.lgc_numbering.proofs.keys.put_name.Given as goal

abbrev pub invariant-loop-byte : goal.invariant-loop-byte
invariant-loop-byte l = l.key ≡ l.fn.key ++ length l.bytes ∷ take l.byte-index l.bytes
