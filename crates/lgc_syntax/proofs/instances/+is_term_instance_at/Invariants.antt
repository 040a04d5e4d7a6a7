-- The terms so far are the instances.
use Rattle.std.proofs.Common.{◌≡◌, take, map}
use Rattle.lgc_syntax.specs.Depths.{AtDepth}
use Rattle.lgc_syntax.specs.Substitution.{put_in_term}
use Rattle.lgc_syntax.proofs.instances.+is_term_instance_at.Given as goal

abbrev pub invariant-are_term_instances_at-loop-i : goal.invariant-are_term_instances_at-loop-i
invariant-are_term_instances_at-loop-i l = AtDepth l.around (λ n. take l.i l.others ≡ map (λ part. put_in_term l.term part n) (take l.i l.parts))
