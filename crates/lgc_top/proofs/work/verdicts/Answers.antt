use Rattle.std.proofs.Common.{◌≡◌, List, All, ap, subst, ◌∙◌}
use Rattle.std.specs.Prelude.{◌↔◌, IsTrue, map}
use Rattle.lgc_values.specs.Logic.{Logic}
use Rattle.lgc_clauses.specs.declared.rule.Rule.{Rule}
use Rattle.lgc_clauses.specs.Kinds.{plain_rule}
use Rattle.lgc_spec.specs.Logics.{logic_of}
use Rattle.lgc_verify.specs.Verdicts.{IsRight, IsText}
use Rattle.lgc_top.proofs.Judging.{judged, refused}
use Rattle.lgc_top.proofs.work.verdicts.Goals as goal

pub returns-in-Ok : goal.returns-in-Ok
returns-in-Ok g c =
    let m : Logic = c.in_ok-m.m in
    let logic : Logic = logic_of c.args.spec.now in
    let same : m ≡ logic = c.in_ok-m.ensures in
    let told = c.in_ok-judge_rules-in-Ok.field-0 in
    judged g.row.N m logic same (ap (λ (l : Logic). l.size) same ∙ c.requires.size) c.args.bytes.now told.all_right told.lines.items c.in-Ok.rules c.in-Ok.ensures.answer
    (subst (λ (rules : List (Rule g.row.N)). IsTrue told.all_right ↔ All (IsRight m) (map plain_rule rules)) c.items.ensures c.in_ok-judge_rules-in-Ok.ensures.right)
    (subst (λ (rules : List (Rule g.row.N)). IsText m (map plain_rule rules) told.lines.items) c.items.ensures c.in_ok-judge_rules-in-Ok.ensures.lines)

pub returns : goal.returns
returns g c =
    let m : Logic = c.in_ok-m.m in
    let logic : Logic = logic_of c.args.spec.now in
    let same : m ≡ logic = c.in_ok-m.ensures in
    refused g.row.N m logic same (ap (λ (l : Logic). l.size) same ∙ c.requires.size) c.args.bytes.now c.in-Err.fault c.in-Err.ensures.answer
