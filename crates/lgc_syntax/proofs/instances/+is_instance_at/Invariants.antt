-- The formulas so far are the instances.
use Rattle.std.proofs.Common.{◌≡◌, take, map}
use Rattle.lgc_syntax.specs.Depths.{AtDepth}
use Rattle.lgc_syntax.specs.Substitution.{put_in}
use Rattle.lgc_syntax.proofs.instances.+is_instance_at.Given as goal

abbrev pub invariant-are_instances_at-loop-i : goal.invariant-are_instances_at-loop-i
invariant-are_instances_at-loop-i l = AtDepth l.around (λ n. take l.i l.formulas ≡ map (λ body. put_in l.term body n) (take l.i l.bodies))
