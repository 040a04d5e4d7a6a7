-- One lemma more has its line.
use Rattle.std.proofs.Common.{◌≡◌, ◌+◌, ℕ, List, [], ◌∷◌, ◌++◌, length, sym, ◌∙◌, ap, subst}
use Rattle.std.proofs.lemmas.List.{length_push}
use Rattle.lgc_sequents.specs.Lines.{PlainLine}
use Rattle.lgc_proofs.specs.Writing.{HaveLines}
use Rattle.lgc_proofs.proofs.Appending.{appended_more}
use Rattle.lgc_proofs.proofs.Marking.{one_has_line}
use Rattle.lgc_proofs.proofs.writing.write_lines.Goals as goal

pub returns-in_err-position-clause-appended : goal.returns-in_err-position-clause-appended
returns-in_err-position-clause-appended g c goal parts = appended_more c.args.m.now c.args.book.now goal c.args.proofs.now c.loop-place.proofs c.line_of.new.proofs (c.loop-place.invariant.2 goal parts) (c.line_of.ensures.appended goal parts)

pub returns-in_err-push-clause-appended : goal.returns-in_err-push-clause-appended
returns-in_err-push-clause-appended g c goal parts = appended_more c.args.m.now c.args.book.now goal c.args.proofs.now c.loop-place.proofs c.line_of.new.proofs (c.loop-place.invariant.2 goal parts) (c.line_of.ensures.appended goal parts)

pub loop-place-preserved : goal.loop-place-preserved
loop-place-preserved g c =
    let positions : List ℕ = c.loop-place.positions.items in
    let position = c.in_ok-position.position in
    let new : List PlainLine = c.line_of.new.proofs in
    let made : c.push.new.self.items ≡ positions ++ position ∷ [] = c.in_ok-push.ensures.items in
    let count = c.loop-place.invariant.0 in (
      ap length made ∙ length_push positions position ∙ ap (λ n. n + 1) count,
      subst (λ (all : List ℕ). HaveLines c.args.formulas.now c.args.lemmas.now new c.args.marks.now all (c.loop-place.place + 1)) (sym made)
          (one_has_line c.args.formulas.now c.args.lemmas.now c.args.marks.now c.loop-place.proofs new positions c.loop-place.place position c.line_of.ensures.grown count c.loop-place.invariant.1 c.in_ok-position.ensures.line),
      λ goal parts. appended_more c.args.m.now c.args.book.now goal c.args.proofs.now c.loop-place.proofs new (c.loop-place.invariant.2 goal parts) (c.line_of.ensures.appended goal parts),
    )
