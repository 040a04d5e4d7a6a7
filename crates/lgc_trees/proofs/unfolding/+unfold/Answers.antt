-- A line with its reason, from the derivations of the lines that it cites.
use Rattle.std.proofs.Common.{◌≡◌, ◌+◌, List, take, sym, ◌∙◌, ap, subst}
use Rattle.lgc_sequents.specs.Signed.{SignedFormula}
use Rattle.lgc_sequents.specs.Lines.{PlainLine, sequent_of, sequent_at}
use Rattle.lgc_sequents.specs.declared.line.Reason.TheVariants.{Pending, ByRule, Resolve}
use Rattle.lgc_derivations.specs.Derivations.{Tree}
use Rattle.lgc_trees.specs.Unfolded.{cited_at, AreUnfolded}
use Rattle.lgc_trees.proofs.UnfoldingLaws.{line_there, axiom_unfolded, step_unfolded, more_unfolded, reason_is_plain}
use Rattle.lgc_trees.proofs.unfolding.+unfold.Goals as goal

pub unfold-unreachable-requires : goal.unfold-unreachable-requires
unfold-unreachable-requires g t c =
    let line : PlainLine = c.index-lines-position.result in
    let there = line_there c.args.lines.now c.args.position line c.requires.counted c.requires.within c.index-lines-position.is in
    let same : line.reason ≡ c.line.inside.reason = sym (ap (λ (l : PlainLine). l.reason) c.line.view_is) in
    reason_is_plain c.args.lines.now c.requires.order c.args.position line there Pending (same ∙ c.in-Pending.is)

pub unfold-unreachable-requires-in-Resolve : goal.unfold-unreachable-requires-in-Resolve
unfold-unreachable-requires-in-Resolve g t c =
    let line : PlainLine = c.index-lines-position.result in
    let there = line_there c.args.lines.now c.args.position line c.requires.counted c.requires.within c.index-lines-position.is in
    let same : line.reason ≡ c.line.inside.reason = sym (ap (λ (l : PlainLine). l.reason) c.line.view_is) in
    reason_is_plain c.args.lines.now c.requires.order c.args.position line there (Resolve c.in-Resolve.on c.in-Resolve.left c.in-Resolve.right) (same ∙ c.in-Resolve.is)

pub unfold-returns-in-Axiom : goal.unfold-returns-in-Axiom
unfold-returns-in-Axiom g t c =
    let line : PlainLine = c.index-lines-position.result in
    let there = line_there c.args.lines.now c.args.position line c.requires.counted c.requires.within c.index-lines-position.is in
    let same : line.reason ≡ c.line.inside.reason = sym (ap (λ (l : PlainLine). l.reason) c.line.view_is) in
    axiom_unfolded g.row.N c.args.lines.now c.requires.order c.args.position c.requires.within line there c.args.conclusion (same ∙ c.in-Axiom.is)

pub unfold-returns-in_ok-premises-in-ByRule : goal.unfold-returns-in_ok-premises-in-ByRule
unfold-returns-in_ok-premises-in-ByRule g t c =
    let line : PlainLine = c.index-lines-position.result in
    let there = line_there c.args.lines.now c.args.position line c.requires.counted c.requires.within c.index-lines-position.is in
    let same : line.reason ≡ c.line.inside.reason = sym (ap (λ (l : PlainLine). l.reason) c.line.view_is) in
    let by = c.in-ByRule in
    let principal = c.in_ok-principal-in-ByRule.principal in
    step_unfolded g.row.N c.args.lines.now c.requires.order c.args.position c.requires.within line there c.args.conclusion by.rule principal by.premises c.in_ok-premises-in-ByRule.premises
    (same ∙ by.is ∙ ap (λ f. ByRule by.rule f by.premises) (sym c.in_ok-principal-in-ByRule.ensures)) c.in_ok-premises-in-ByRule.ensures

pub unfold_cited-loop-i-preserved : goal.unfold_cited-loop-i-preserved
unfold_cited-loop-i-preserved g t c =
    let lines : List PlainLine = c.args.lines.now in
    let i = c.loop-i.i in
    let cited = c.cited_line-cited.result in
    let line : PlainLine = c.index-lines-cited.result in
    let there = line_there lines cited line c.cited_line-cited.ensures.counted c.cited_line-cited.ensures.within c.index-lines-cited.is in
    let conclusion : List SignedFormula = c.in_ok-conclusion.conclusion in
    let same : conclusion ≡ sequent_at lines cited = c.in_ok-conclusion.ensures ∙ ap (λ (l : PlainLine). l.sequent) c.line.view_is ∙ sym (ap sequent_of there) in
    let P : List Tree → Type 0 = AreUnfolded g.row.N lines (take (i + 1) (cited_at lines c.args.position)) in
    subst P (sym c.in_ok-push.ensures.ok)
    (more_unfolded g.row.N lines (cited_at lines c.args.position) i cited conclusion c.loop-i.derivations c.in_ok-unfold.field-0 c.cited_line-cited.ensures.is same c.loop-i.invariant c.in_ok-unfold.ensures)
