-- One mark more.
use Rattle.std.proofs.Common.{◌≡◌, ◌+◌, ◌<◌, Bool, List, [], ◌∷◌, ◌++◌, length, refl, ap, ◌∙◌, arith}
use Rattle.std.proofs.lemmas.List.{length_push}
use Rattle.std.proofs.lemmas.Option.{slice_get_read}
use Rattle.lgc_sequents.specs.Lines.{PlainLine}
use Rattle.lgc_check.specs.Marks.{gets_mark}
use Rattle.lgc_check.proofs.MarkLaws.{one_more_mark, all_marked}
use Rattle.lgc_check.proofs.pending.pending_marks.Goals as goal

pub loop-line-preserved : goal.loop-line-preserved
loop-line-preserved g c =
    let lines : List PlainLine = c.args.lines.now in
    let at = c.loop-line in
    let marks : List Bool = at.marks.items in
    let line : PlainLine = c.line-item.result in
    let mark : Bool = c.gets_mark-mark.result in
    let within : at.line-index < length lines = omega arith in
    let stands = slice_get_read lines (length lines) at.line-index line refl within c.line-item.is in
    let reason = ap (λ (l : PlainLine). l.reason) c.line.view_is in
    let gets : mark ≡ gets_mark marks line.reason = c.gets_mark-mark.ensures ∙ ap (λ ms. gets_mark ms c.line.inside.reason) c.as_slice.ensures.value ∙ ap (gets_mark marks) reason in
    let grown : c.push.new.self.items ≡ marks ++ mark ∷ [] = c.in_ok-push.ensures.items in
    record {
      many = ap length grown ∙ length_push marks mark ∙ ap (λ k. k + 1) at.invariant.many;
      right = one_more_mark lines marks at.line-index at.invariant.many at.invariant.right line stands mark c.push.new.self.items gets grown;
    }

pub returns : goal.returns
returns g c =
    let whole = c.loop-line-test.false in
    all_marked c.args.lines.now c.loop-line.marks.items c.loop-line.line-index c.loop-line.invariant.many (omega arith) c.loop-line.invariant.right
