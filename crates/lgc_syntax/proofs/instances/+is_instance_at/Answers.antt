-- Where the predicates, the operators or the quantifiers are the same, the parts decide.
use Rattle.std.proofs.Common.{◌+◌, refl, sym, ◌∙◌, ap}
use Rattle.lgc_syntax.specs.Substitution.{put_in}
use Rattle.lgc_syntax.proofs.SubstitutionLaws.{put_in-Atom, put_in-Op, put_in-Quant}
use Rattle.lgc_syntax.proofs.Injective.{same_Atom, same_Op, same_Quant}
use Rattle.lgc_syntax.proofs.instances.+is_instance_at.Goals as goal

pub is_instance_at-returns-then-same_name : goal.is_instance_at-returns-then-same_name
is_instance_at-returns-then-same_name t c n at =
    let name = c.if-same_name.ensures.means.0 refl in
    let whole = c.in-Atom.is in
    let other = c.in-Atom-formula.is in
    let made = put_in-Atom c.args.term.now c.in-Atom.p c.in-Atom.args n in
    let decides = c.are_term_instances_at.ensures n at in
    (λ is. cc (decides.0 is, name, whole, other, made), λ same. let parts = (same_Atom (sym other ∙ same ∙ ap (λ body. put_in c.args.term.now body n) whole ∙ made)).1 in decides.1 (cc parts))

pub is_instance_at-returns-then-o-p : goal.is_instance_at-returns-then-o-p
is_instance_at-returns-then-o-p t c n at =
    let whole = c.in-Op.is in
    let other = c.in-Op-formula.is in
    let made = put_in-Op c.args.term.now c.in-Op.o c.in-Op.args n in
    let decides = c.are_instances_at.ensures n at in
    (λ is. cc (decides.0 is, whole, other, made), λ same. let parts = (same_Op (sym other ∙ same ∙ ap (λ body. put_in c.args.term.now body n) whole ∙ made)).1 in decides.1 (cc parts))

pub is_instance_at-returns-then-q-r : goal.is_instance_at-returns-then-q-r
is_instance_at-returns-then-q-r t c n at =
    let whole = c.in-Quant.is in
    let other = c.in-Quant-formula.is in
    let made = put_in-Quant c.args.term.now c.in-Quant.q c.in-Quant.part n in
    let decides = c.is_instance_at.ensures (n + 1) (c.deeper.ensures n at) in
    (λ is. cc (decides.0 is, whole, other, made), λ same. let parts = (same_Quant (sym other ∙ same ∙ ap (λ body. put_in c.args.term.now body n) whole ∙ made)).1 in decides.1 (cc parts))
