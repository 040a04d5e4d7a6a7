-- It is an argument of none so far.
use Rattle.std.proofs.Common.{◌≡◌, ◌<◌, ℕ, true, false, slice_get, Some}
use Rattle.lgc_values.specs.Values.{has}
use Rattle.lgc_numbering.specs.declared.node.Node.{Node}
use Rattle.lgc_tableau_build.specs.Numbers.{is_left, arguments_of}
use Rattle.lgc_tableau_build.proofs.choosing.is_argument.Given as goal

abbrev pub invariant-loop-j : goal.invariant-loop-j
invariant-loop-j l = (i : ℕ) (node : Node) → i < l.j → is_left l.left i ≡ true → slice_get l.nodes i ≡ Some node → has (arguments_of node) l.number ≡ false
