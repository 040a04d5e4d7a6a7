-- One argument more, one clause more, and the clauses of a compound.
use Rattle.std.proofs.Common.{◌∙◌, ◌∷◌, [], ◌-◌, List, ℕ, map, sym, ap, arith, subst}
use Rattle.std.specs.List.{flat_map}
use Rattle.std.proofs.lemmas.Result.{IfOk-weaker}
use Rattle.lgc_clauses.specs.Rules.{OperatorRule}
use Rattle.lgc_clause_sets.specs.Reductions.{IsReduction}
use Rattle.lgc_translate.specs.Translation.{choices, translated}
use Rattle.lgc_translate.proofs.TranslationLaws.{choices-end, choice_more, clause_more, op_case, no_rule_case}
use Rattle.lgc_translate.proofs.translation.+reduced.Goals as goal

pub of_clause-loop-j-init : goal.of_clause-loop-j-init
of_clause-loop-j-init g t c = record {
  within = omega (arith, c.min-j.ensures);
  kept =
      subst (λ l. IsReduction g.row.N l c.in_ok-kept.kept) (sym (choices-end g.row.N c.args.atoms.now (translated g.row.N c.args.rules.now c.args.atoms.now) c.args.sets.now c.args.args.now c.min-j.result c.min-j.ensures))
      (subst (λ (clause : List (List ℕ)). IsReduction g.row.N (clause ∷ []) c.in_ok-kept.kept) c.in_ok-no_items.ensures c.in_ok-kept.ensures);
}

pub of_clause-loop-j-preserved : goal.of_clause-loop-j-preserved
of_clause-loop-j-preserved g t c =
    let j = c.loop-j.j in
    record {
      within = omega (arith, c.loop-j.invariant.within);
      kept =
          choice_more g.row.N c.args.atoms.now (translated g.row.N c.args.rules.now c.args.atoms.now) c.args.sets.now c.args.args.now j (j - 1) c.index-sets-j.result c.index-args-j.result c.in_ok-clauses.clauses c.loop-j.kept c.in_ok-kept-2.kept
          (omega (arith, c.loop-j-test.true)) (omega (arith, c.loop-j-test.true, c.loop-j.invariant.within)) (omega (arith, c.loop-j-test.true, c.loop-j.invariant.within)) c.index-sets-j.is c.index-args-j.is
          c.in_ok-clauses.ensures c.loop-j.invariant.kept c.in_ok-kept-2.ensures;
    }

pub of_clauses-loop-clause-preserved : goal.of_clauses-loop-clause-preserved
of_clauses-loop-clause-preserved g t c =
    clause_more g.row.N (λ sets. choices g.row.N c.args.atoms.now sets (map (translated g.row.N c.args.rules.now c.args.atoms.now) c.args.args.now)) c.args.clauses.now c.loop-clause.clause-index c.clause-item.result c.loop-clause.kept c.in_ok-more.more c.in_ok-kept.kept
    c.loop-clause-test.true c.clause-item.is c.loop-clause.invariant
    (subst (λ (sets : List (List ℕ)). IsReduction g.row.N (choices g.row.N c.args.atoms.now sets (map (translated g.row.N c.args.rules.now c.args.atoms.now) c.args.args.now)) c.in_ok-more.more) (c.items.ensures ∙ c.clause.view_is) c.in_ok-more.ensures)
    c.in_ok-kept.ensures

pub reduced-returns-in-None : goal.reduced-returns-in-None
reduced-returns-in-None g t c =
    no_rule_case g.row.N c.args.rules.now c.args.atoms.now c.args.sign c.args.f.now c.in-Op.op c.in-Op.args c.new-in-None.result c.in-Op.is (sym c.is_full.ensures ∙ c.if-is_full.false) (sym c.has_member.ensures ∙ c.if-not-has_member.false) c.in-None.ensures.some c.new-in-None.ensures

pub reduced-returns-in-Some : goal.reduced-returns-in-Some
reduced-returns-in-Some g t c =
    let tr = translated g.row.N c.args.rules.now c.args.atoms.now in
    IfOk-weaker c.of_clauses.result
    (λ kept. IsReduction g.row.N (flat_map (λ sets. choices g.row.N c.args.atoms.now sets (map tr c.items.result.now)) c.items-in-Some.result.now) kept)
    (λ kept. IsReduction g.row.N (tr c.args.f.now c.args.sign) kept)
    (λ kept h. op_case g.row.N c.args.rules.now c.args.atoms.now c.args.sign c.args.f.now c.in-Op.op c.in-Op.args c.items.result.now c.items-in-Some.result.now kept c.in-Op.is (sym c.is_full.ensures ∙ c.if-is_full.false) (sym c.has_member.ensures ∙ c.if-not-has_member.false) c.items.ensures
    (c.items-in-Some.ensures ∙ ap (λ (rule : OperatorRule). rule.clauses) c.rule.view_is ∙ c.in-Some.ensures.some) h)
    c.of_clauses.ensures
