-- A formula that is the instance has its value.
use Rattle.std.proofs.Common.{refl, sym, subst}
use Rattle.std.proofs.lemmas.Bool.{OnTrue_from}
use Rattle.lgc_syntax.specs.declared.formula.Formula.{Formula}
use Rattle.lgc_syntax.specs.Structures.{HasValueOfBody}
use Rattle.lgc_syntax.proofs.StructureLaws.{instance_value}
use Rattle.lgc_syntax.proofs.instances.is_instance.Goals as goal

pub returns-clause-value : goal.returns-clause-value
returns-clause-value c =
    let body = c.args.body.now in
    let term = c.args.term.now in
    let HasValue : Formula → Type 0 = HasValueOfBody body term in
    OnTrue_from c.is_instance_at.result (HasValue c.args.formula.now) (λ is. subst HasValue (sym ((c.is_instance_at.ensures 0 refl).0 is)) (instance_value body term c.requires))
