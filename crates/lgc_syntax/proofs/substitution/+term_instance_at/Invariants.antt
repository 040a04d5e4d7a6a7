-- The instances so far are made.
use Rattle.std.proofs.Common.{◌≡◌, take, map}
use Rattle.lgc_syntax.specs.Depths.{AtDepth}
use Rattle.lgc_syntax.specs.Substitution.{put_in_term}
use Rattle.lgc_syntax.proofs.substitution.+term_instance_at.Given as goal

abbrev pub invariant-term_instances_at-loop-part : goal.invariant-term_instances_at-loop-part
invariant-term_instances_at-loop-part l = AtDepth l.around (λ n. l.made ≡ map (λ part. put_in_term l.term part n) (take l.part-index l.parts))
