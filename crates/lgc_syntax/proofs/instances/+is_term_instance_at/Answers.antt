-- Where the functions are the same, the arguments decide.
use Rattle.std.proofs.Common.{refl, sym, ◌∙◌, ap}
use Rattle.lgc_syntax.specs.Substitution.{put_in_term}
use Rattle.lgc_syntax.proofs.SubstitutionLaws.{put_in_term-Apply}
use Rattle.lgc_syntax.proofs.Injective.{same_Apply}
use Rattle.lgc_syntax.proofs.instances.+is_term_instance_at.Goals as goal

pub is_term_instance_at-returns-then-same_name : goal.is_term_instance_at-returns-then-same_name
is_term_instance_at-returns-then-same_name t c n at =
    let name = c.if-same_name.ensures.means.0 refl in
    let whole = c.in-Apply.is in
    let other = c.in-Apply-other.is in
    let made = put_in_term-Apply c.args.term.now c.in-Apply.f c.in-Apply.args n in
    let decides = c.are_term_instances_at.ensures n at in
    (λ is. cc (decides.0 is, name, whole, other, made), λ same. let parts = (same_Apply (sym other ∙ same ∙ ap (λ part. put_in_term c.args.term.now part n) whole ∙ made)).1 in decides.1 (cc parts))
