use Rattle.std.proofs.Common.{◌≡◌, ◌++◌, ◌∷◌, [], List, All, length, take, subst, sym, ◌∙◌, arith}
use Rattle.std.specs.Prelude.{◌↔◌, ◌+◌, ◌&&◌, IsTrue, map}
use Rattle.std.proofs.lemmas.List.{take_all, length-map, length-take-le}
use Rattle.lgc_clauses.specs.declared.rule.Rule.{Rule}
use Rattle.lgc_clauses.specs.Rules.{PlainRule}
use Rattle.lgc_clauses.specs.Kinds.{plain_rule}
use Rattle.lgc_verify.specs.Verdicts.{IsRight, is_right}
use Rattle.lgc_verify.proofs.Lines.{mapped_more, text_more, right_more}
use Rattle.lgc_verify.proofs.text.judge_rules.Goals as goal
use Rattle.lgc_verify.proofs.text.judge_rules.Goals.{then-all_right, else-all_right}

pub loop-i-preserved : goal.loop-i-preserved
loop-i-preserved g c =
    let logic = c.args.m.now in
    let rules : List (Rule g.row.N) = c.args.rules.now in
    let i = c.loop-i.i in
    let done : List PlainRule = map plain_rule (take i rules) in
    let rule : PlainRule = plain_rule c.index-rules-i.result in
    let verdict = c.judge-verdict.result in
    let more : map plain_rule (take (i + 1) rules) ≡ done ++ rule ∷ [] = mapped_more plain_rule rules i c.index-rules-i.result c.loop-i-test.true c.index-rules-i.is in
    let count : length done ≡ i = length-map (take i rules) plain_rule ∙ length-take-le i rules (omega arith) in
    let both : c.if-all_right.all_right ≡ (c.loop-i.all_right && is_right verdict) = elim c.if-all_right.branch [
      | then-all_right w ↦ rw w.if-all_right.true (w.all_right-is ∙ w.is_right-all_right.ensures)
      | else-all_right w ↦ rw w.if-all_right.false (w.all_right-is ∙ w.if-all_right.false)
    ] in
    record {
      lines = rw more (text_more logic done rule verdict c.judge-verdict.ensures i c.loop-i.lines.items c.put_line.new.into.items count c.loop-i.invariant.lines c.in_ok-put_line.ensures);
      right = subst (λ (all : List PlainRule). IsTrue c.if-all_right.all_right ↔ All (IsRight logic) all) (sym more) (right_more logic done rule verdict c.judge-verdict.ensures c.loop-i.all_right c.if-all_right.all_right both c.loop-i.invariant.right);
    }

pub returns-clause-right : goal.returns-clause-right
returns-clause-right g c =
    let rules : List (Rule g.row.N) = c.args.rules.now in
    let all : take c.loop-i.i rules ≡ rules = take_all c.loop-i.i rules (omega arith) in
    subst (λ (rules : List (Rule g.row.N)). IsTrue c.loop-i.all_right ↔ All (IsRight c.args.m.now) (map plain_rule rules)) all c.loop-i.invariant.right
