-- A lemma's line, from the lines of those that it cites.
use Rattle.std.proofs.Common.{◌≡◌, ◌<◌, ℕ, false, List, length, slice_index, sym, ◌∙◌, ap, subst, arith}
use Rattle.std.specs.Prelude.{All, IfOk}
use Rattle.std.proofs.lemmas.List.Elements.{All-weaker}
use Rattle.lgc_syntax.specs.declared.formula.Formula.{Formula}
use Rattle.lgc_syntax.specs.Sizes.{has_quantifier}
use Rattle.lgc_sequents.specs.Signed.{SignedFormula}
use Rattle.lgc_sequents.specs.Lines.{PlainLine}
use Rattle.lgc_sequents.specs.declared.line.Reason.{Reason as LineReason}
use Rattle.lgc_packed.specs.Packed.{unpacked}
use Rattle.lgc_packed.specs.Packing.{AreKnown}
use Rattle.lgc_lemmas.specs.Plain.{PlainLemma}
use Rattle.lgc_proofs.specs.Proofs.{IsLineFor}
use Rattle.lgc_proofs.specs.Writing.{number_named_by, places_cited_by, line_reason}
use Rattle.lgc_proofs.proofs.Appending.{sequent_known, principal_known, cite_earlier, unpacked_within, own_appended}
use Rattle.lgc_proofs.proofs.Marking.{cited_have_lines}
use Rattle.lgc_proofs.proofs.writing.line_of.Goals as goal

pub unpack-requires : goal.unpack-requires
unpack-requires g c =
    let l : PlainLemma = c.lemma-lemma.result.now in
    let sequent : c.lemma.inside.sequent ≡ l.sequent = ap (λ (x : PlainLemma). x.sequent) c.lemma.view_is in
    (omega arith, (omega arith, subst (AreKnown c.args.formulas.now) (sym sequent) (sequent_known c.args.m.now c.args.book.now c.requires.right c.args.formulas.now c.args.lemmas.now c.requires.lemmas c.args.place l c.lemma-lemma.ensures)))

pub reason_of-requires-clause-named : goal.reason_of-requires-clause-named
reason_of-requires-clause-named g c =
    let l : PlainLemma = c.lemma-lemma.result.now in
    let reason : c.lemma.inside.reason ≡ l.reason = ap (λ (x : PlainLemma). x.reason) c.lemma.view_is in
    subst (λ r. All (λ number. number < length c.args.formulas.now) (number_named_by r)) (sym reason) (principal_known c.args.m.now c.args.book.now c.requires.right c.args.formulas.now c.args.lemmas.now c.requires.lemmas c.args.place l c.lemma-lemma.ensures)

pub reason_of-requires-clause-cited : goal.reason_of-requires-clause-cited
reason_of-requires-clause-cited g c =
    let l : PlainLemma = c.lemma-lemma.result.now in
    let reason : c.lemma.inside.reason ≡ l.reason = ap (λ (x : PlainLemma). x.reason) c.lemma.view_is in
    subst (λ r. All (λ place. place < length c.args.positions.now) (places_cited_by r)) (sym reason)
    (All-weaker (λ place. place < c.args.place) (λ place. place < length c.args.positions.now) (λ place before. omega (arith, before, c.requires.count)) (places_cited_by l.reason)
    (cite_earlier c.args.m.now c.args.book.now c.requires.right c.args.formulas.now c.args.lemmas.now c.requires.lemmas c.args.place l c.lemma-lemma.ensures))

pub line_for-requires : goal.line_for-requires
line_for-requires g c =
    let l : PlainLemma = c.lemma-lemma.result.now in
    let items : c.in_ok-sequent.sequent ≡ unpacked c.args.formulas.now l.sequent = c.in_ok-sequent.ensures.items ∙ ap (λ (x : PlainLemma). unpacked c.args.formulas.now x.sequent) c.lemma.view_is in (
      omega arith,
      (
        omega arith,
        subst (All (λ item. has_quantifier item.formula ≡ false)) (sym items)
            (unpacked_within (λ f. has_quantifier f ≡ false) c.args.formulas.now c.requires.lemmas.numbering.propositional l.sequent (sequent_known c.args.m.now c.args.book.now c.requires.right c.args.formulas.now c.args.lemmas.now c.requires.lemmas c.args.place l c.lemma-lemma.ensures)),
      ),
    )

pub returns-clause-appended : goal.returns-clause-appended
returns-clause-appended g c goal parts =
    let formulas : List Formula = c.args.formulas.now in
    let lemmas : List PlainLemma = c.args.lemmas.now in
    let positions : List ℕ = c.args.positions.now in
    let l : PlainLemma = c.lemma-lemma.result.now in
    let here = c.lemma-lemma.ensures in
    let old : List PlainLine = c.args.proofs.now in
    let new : List PlainLine = c.line_for.new.self in
    let result = c.line_for.result in
    let items : c.in_ok-sequent.sequent ≡ unpacked formulas l.sequent = c.in_ok-sequent.ensures.items ∙ ap (λ (x : PlainLemma). unpacked formulas x.sequent) c.lemma.view_is in
    let reason : c.in_ok-reason.reason ≡ line_reason formulas (slice_index positions) l.reason = c.in_ok-reason.ensures ∙ ap (λ (x : PlainLemma). line_reason formulas (slice_index positions) x.reason) c.lemma.view_is in
    let found = subst (λ (r : LineReason). IfOk result (IsLineFor old new (unpacked formulas l.sequent) r)) reason (subst (λ (s : List SignedFormula). IfOk result (IsLineFor old new s c.in_ok-reason.reason)) items c.line_for.ensures.line) in
    let each = cited_have_lines formulas lemmas c.args.marks.now old positions c.args.place l (cite_earlier c.args.m.now c.args.book.now c.requires.right formulas lemmas c.requires.lemmas) c.requires.closed c.requires.lines c.if-not-marks-place.false here in
    own_appended c.args.m.now c.args.book.now c.requires.right formulas lemmas c.requires.lemmas c.args.place l here old (slice_index positions) each goal parts new result found c.line_for.ensures.kept
