-- The instances so far are made.
use Rattle.std.proofs.Common.{◌≡◌, take, map}
use Rattle.lgc_syntax.specs.Depths.{AtDepth}
use Rattle.lgc_syntax.specs.Substitution.{put_in}
use Rattle.lgc_syntax.proofs.substitution.+instance_at.Given as goal

abbrev pub invariant-instances_at-loop-body : goal.invariant-instances_at-loop-body
invariant-instances_at-loop-body l = AtDepth l.around (λ n. l.made ≡ map (λ body. put_in l.term body n) (take l.body-index l.bodies))
