-- What is made is the instance, and the law of substitution says its value.
use Rattle.std.proofs.Common.{◌≡◌, sym, subst, refl}
use Rattle.std.proofs.lemmas.Result.{IfOk-weaker}
use Rattle.lgc_syntax.specs.declared.formula.Formula.{Formula}
use Rattle.lgc_syntax.specs.Depths.{AtDepth}
use Rattle.lgc_syntax.specs.Substitution.{put_in}
use Rattle.lgc_syntax.specs.Structures.{HasValueOfBody}
use Rattle.lgc_syntax.proofs.StructureLaws.{instance_value}
use Rattle.lgc_syntax.proofs.substitution.instance.Goals as goal

pub returns-clause-value : goal.returns-clause-value
returns-clause-value c =
    let body = c.args.body.now in
    let term = c.args.term.now in
    let IsMade : Formula → Type 0 = λ made. AtDepth 0 (λ n. made ≡ put_in term body n) in
    let HasValue : Formula → Type 0 = HasValueOfBody body term in
    IfOk-weaker c.instance_at.result IsMade HasValue (λ made is. subst HasValue (sym (is 0 refl)) (instance_value body term c.requires)) c.instance_at.ensures
