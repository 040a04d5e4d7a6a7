-- What is covered asks for no rule, and what isn't for one that is missing.
use Rattle.std.proofs.Common.{◌∙◌, sym, not, ap, map, arith}
use Rattle.std.proofs.lemmas.List.{length-map}
use Rattle.lgc_clauses.specs.Rules.{OperatorRule}
use Rattle.lgc_translate.specs.Covering.{covers}
use Rattle.lgc_translate.proofs.CoverLaws.{covers_full, covers_none, covers_simple, covers_op, missing_here, missing_below, covered_more, all_covered-end}
use Rattle.lgc_translate.proofs.covering.+first_missing.Goals as goal
use Rattle.lgc_translate.proofs.covering.+first_missing.Goals.{first_missing-then-is_full-via-then-is_full, first_missing-then-is_full-via-else-is_full+then-not-has_member}

pub first_missing-returns-then-is_full : goal.first_missing-returns-then-is_full
first_missing-returns-then-is_full g t c = elim c.then-is_full.branch [
  | first_missing-then-is_full-via-then-is_full w ↦ covers_full g.row.N c.args.rules.now c.args.sign c.args.f.now (sym c.is_full.ensures ∙ w.if-is_full.true)
  | first_missing-then-is_full-via-else-is_full+then-not-has_member w ↦ covers_none g.row.N c.args.rules.now c.args.sign c.args.f.now (ap not (sym w.has_member.ensures ∙ w.if-not-has_member.true))
]

pub first_missing-returns-in-None : goal.first_missing-returns-in-None
first_missing-returns-in-None g t c = missing_here c.args.rules.now c.args.f.now c.in-Op.op c.in-Op.args c.args.sign c.in-Op.is c.in-None.ensures.none (sym c.has_member.ensures ∙ c.if-not-has_member.false)

pub first_missing-returns-in-Some : goal.first_missing-returns-in-Some
first_missing-returns-in-Some g t c =
    missing_below c.args.rules.now c.args.f.now c.in-Op.op c.in-Op.args c.items.result.now _ _ c.missing_in_clauses.result c.in-Op.is c.items.ensures
    (λ all. covers_op g.row.N c.args.rules.now c.args.sign c.args.f.now c.in-Op.op c.in-Op.args c.items.result.now c.items-in-Some.result.now c.in-Op.is c.items.ensures c.in-Some.ensures.none (c.items-in-Some.ensures ∙ ap (λ (rule : OperatorRule). rule.clauses) c.rule.view_is ∙ c.in-Some.ensures.some) all)
    c.missing_in_clauses.ensures

pub first_missing-returns-in_default : goal.first_missing-returns-in_default
first_missing-returns-in_default g t c = covers_simple g.row.N c.args.rules.now c.args.sign c.args.f.now c.in_default.not-Op

pub missing_in_clause-loop-j-preserved : goal.missing_in_clause-loop-j-preserved
missing_in_clause-loop-j-preserved g t c =
    c.loop-j.invariant
    ∙ covered_more g.row.N c.args.rules.now c.args.args.now c.args.sets.now c.loop-j.j c.index-args-j.result c.index-sets-j.result (omega (arith, c.loop-j-test.true, c.min-j-end.ensures)) (omega (arith, c.loop-j-test.true, c.min-j-end.ensures)) c.index-args-j.is c.index-sets-j.is c.in_default.ensures

pub missing_in_clause-returns : goal.missing_in_clause-returns
missing_in_clause-returns g t c =
    c.loop-j.invariant
    ∙ all_covered-end (map (covers g.row.N c.args.rules.now) c.args.args.now) c.args.sets.now c.loop-j.j (omega (arith, c.loop-j-test.false, c.min-j-end.ensures, length-map c.args.args.now (covers g.row.N c.args.rules.now)))
