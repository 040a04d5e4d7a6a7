-- The rules that the lines so far cite.
use Rattle.std.proofs.Common.{◌≡◌, take}
use Rattle.lgc_prove.specs.ByUse.{rules_cited, first_uses}
use Rattle.lgc_prove.proofs.by_use.rules_in_use.Given as goal

abbrev pub invariant-loop-line : goal.invariant-loop-line
invariant-loop-line g l = l.uses.keys ≡ first_uses (rules_cited (take l.line-index l.lines))
