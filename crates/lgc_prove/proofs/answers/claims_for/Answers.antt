-- One query more is answered.
use Rattle.std.proofs.Common.{◌≡◌, ◌+◌, length, map, sym, ◌∙◌, ap, subst, arith}
use Rattle.std.specs.Prelude.{All}
use Rattle.std.specs.Vec.Iter.{into_iter_items}
use Rattle.std.proofs.lemmas.List.{length-map, length_push, map_push}
use Rattle.lgc_report.specs.declared.report.Claim.TheVariants.{Answer}
use Rattle.lgc_report.specs.Reports.{plain_claim}
use Rattle.lgc_queries.specs.Asked.{IsAsked}
use Rattle.lgc_prove.proofs.OneByOne.{one_more_taken, next_item}
use Rattle.lgc_prove.proofs.ClaimLaws.{one_more_answer}
use Rattle.lgc_prove.proofs.answers.claims_for.Goals as goal

pub loop-query-preserved : goal.loop-query-preserved
loop-query-preserved g c =
    let logic = c.args.m.now in
    let at = c.loop-query in
    let query = c.in-Some.query in
    let all = into_iter_items c.into_iter-query-iterator.result in
    let given : all ≡ c.args.queries = c.into_iter-query-iterator.ensures.into_iter_gives.0 ∙ c.into_vec-query-items.ensures in
    let left = into_iter_items at.query-iterator in
    let rest = into_iter_items c.next.new.self in
    let steps = c.in-Some.ensures.steps.0 in
    let asked = next_item all at.yielded (IsAsked logic) left rest query at.invariant.0 steps (subst (All (IsAsked logic)) (sym given) c.requires.asked) in
    let evidence = c.in_ok-evidence.evidence in
    let claim = Answer (c.len.result + 1) query evidence in
    let made = ap (map plain_claim) c.in_ok-push.ensures.ok ∙ map_push plain_claim at.claims claim in
    let counted : c.len.result + 1 ≡ length (map plain_claim at.claims) + 1 = omega (arith, c.len.ensures, length-map at.claims (plain_claim {size = g.row.N})) in (
      one_more_taken all at.yielded left rest query at.invariant.0 steps,
      let was = at.invariant.1 in
          let gone = c.in-Some.ensures.steps.1 in
          let short = ap length steps in
          omega arith,
      ap length c.in_ok-push.ensures.ok ∙ length_push at.claims claim ∙ ap (λ k. k + 1) at.invariant.2 ∙ sym (length_push at.yielded query),
      one_more_answer logic at.book c.evidence_for.new.book at.yielded query at.proofs c.evidence_for.new.proofs (map plain_claim at.claims) (map plain_claim c.push.new.self) (c.len.result + 1) evidence at.invariant.3 asked c.in_ok-evidence.ensures.lines c.in_ok-evidence.ensures.appended c.in_ok-evidence.ensures.evidence counted made,
    )
