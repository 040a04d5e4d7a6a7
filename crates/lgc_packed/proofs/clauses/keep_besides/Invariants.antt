-- What the pairs so far have besides the clause is kept.
use Rattle.std.proofs.Common.{◌≡◌, ℕ, ◌<◌, ◌||◌, take}
use Rattle.std.specs.List.{zip}
use Rattle.lgc_packed.specs.Packed.{marks, marks_besides}
use Rattle.lgc_packed.proofs.clauses.keep_besides.Given as goal

abbrev pub invariant-loop-pair : goal.invariant-loop-pair
invariant-loop-pair g l = (k w : ℕ) → w < g.row.N → marks l.kept k w ≡ (marks l.fn.kept k w || marks_besides (take l.pair-index l.pair-items) (zip l.arguments l.sets) k w)
