-- The goal's line, from the lines of the lemmas that its lemma cites.
use Rattle.std.proofs.Common.{◌≡◌, ◌<◌, ℕ, Bool, true, List, length, slice_index, sym, ◌∙◌, ap, subst, arith}
use Rattle.std.specs.Prelude.{All, IfOk}
use Rattle.std.proofs.lemmas.List.Elements.{All-weaker}
use Rattle.std.proofs.lemmas.Option.{slice_get_within}
use Rattle.lgc_syntax.specs.declared.formula.Formula.{Formula}
use Rattle.lgc_sequents.specs.Signed.{SignedFormula}
use Rattle.lgc_sequents.specs.Sequents.{is_included}
use Rattle.lgc_sequents.specs.Lines.{PlainLine}
use Rattle.lgc_sequents.specs.declared.line.Reason.{Reason as LineReason}
use Rattle.lgc_packed.specs.Packed.{unpacked}
use Rattle.lgc_lemmas.specs.Plain.{PlainLemma}
use Rattle.lgc_proofs.specs.Proofs.{IsLineFor}
use Rattle.lgc_proofs.specs.Writing.{number_named_by, places_cited_by, is_marked, AreClosedFrom, line_reason}
use Rattle.lgc_proofs.proofs.Appending.{principal_known, cite_earlier, goal_appended, appended_more, included_of}
use Rattle.lgc_proofs.proofs.Marking.{cited_have_lines}
use Rattle.lgc_proofs.proofs.proofs.Proofs.write_goal.Goals as goal

pub needed_by-requires : goal.needed_by-requires
needed_by-requires g c =
    let proved = c.requires.proved in
    (omega arith, (slice_get_within c.args.lemmas.now c.args.place proved.lemma proved.is, cite_earlier c.args.m.now c.args.book.now c.requires.right c.args.formulas.now c.args.lemmas.now proved.lemmas_are))

pub reason_of-requires-clause-named : goal.reason_of-requires-clause-named
reason_of-requires-clause-named g c =
    let l : PlainLemma = c.lemma.result.now in
    let reason : c.behind-lemmas.inside.reason ≡ l.reason = ap (λ (x : PlainLemma). x.reason) c.behind-lemmas.view_is in
    subst (λ r. All (λ number. number < length c.args.formulas.now) (number_named_by r)) (sym reason) (principal_known c.args.m.now c.args.book.now c.requires.right c.args.formulas.now c.args.lemmas.now c.requires.proved.lemmas_are c.args.place l c.lemma.ensures)

pub reason_of-requires-clause-cited : goal.reason_of-requires-clause-cited
reason_of-requires-clause-cited g c =
    let l : PlainLemma = c.lemma.result.now in
    let reason : c.behind-lemmas.inside.reason ≡ l.reason = ap (λ (x : PlainLemma). x.reason) c.behind-lemmas.view_is in
    let positions : List ℕ = c.deref-2.result.now in
    let count : length positions ≡ c.args.place = ap length c.deref-2.ensures.value ∙ c.in_ok-positions.ensures.count in
    subst (λ r. All (λ place. place < length positions) (places_cited_by r)) (sym reason)
    (All-weaker (λ place. place < c.args.place) (λ place. place < length positions) (λ place before. omega (arith, before, count)) (places_cited_by l.reason)
    (cite_earlier c.args.m.now c.args.book.now c.requires.right c.args.formulas.now c.args.lemmas.now c.requires.proved.lemmas_are c.args.place l c.lemma.ensures))

pub returns-clause-appended : goal.returns-clause-appended
returns-clause-appended g c =
    let proved = c.requires.proved in
    let logic = c.args.m.now in
    let rules = c.args.book.now in
    let goal : List SignedFormula = c.args.goal.now in
    let formulas : List Formula = c.args.formulas.now in
    let lemmas : List PlainLemma = c.args.lemmas.now in
    let place = c.args.place in
    let l : PlainLemma = c.lemma.result.now in
    let here = c.lemma.ensures in
    let marks : List Bool = c.deref.result.now in
    let positions : List ℕ = c.in_ok-positions.positions.items in
    let old : List PlainLine = c.args.self.now in
    let mid : List PlainLine = c.write_lines.new.proofs in
    let new : List PlainLine = c.line_for.new.self in
    let result = c.line_for.result in
    let closed : AreClosedFrom 0 lemmas marks = subst (λ (all : List Bool). AreClosedFrom 0 lemmas all) (sym c.deref.ensures.value) c.in_ok-marks.ensures.closed in
    let marked : is_marked marks place ≡ true = subst (λ (all : List Bool). is_marked all place ≡ true) (sym c.deref.ensures.value) c.in_ok-marks.ensures.itself in
    let each = cited_have_lines formulas lemmas marks mid positions place l (cite_earlier logic rules c.requires.right formulas lemmas proved.lemmas_are) closed c.in_ok-positions.ensures.lines marked here in
    let reason : c.in_ok-reason.reason ≡ line_reason formulas (slice_index positions) l.reason
    = c.in_ok-reason.ensures ∙ ap (λ (all : List ℕ). line_reason formulas (slice_index all) c.behind-lemmas.inside.reason) c.deref-2.ensures.value ∙ ap (λ (x : PlainLemma). line_reason formulas (slice_index positions) x.reason) c.behind-lemmas.view_is in
    let found = subst (λ (r : LineReason). IfOk result (IsLineFor mid new goal r)) reason (subst (λ (s : List SignedFormula). IfOk result (IsLineFor mid new s c.in_ok-reason.reason)) c.in_ok-sequent.ensures c.line_for.ensures.line) in
    let included : is_included (unpacked formulas l.sequent) goal ≡ true = included_of lemmas place proved.lemma l formulas goal proved.is here proved.included in
    appended_more logic rules goal old mid new (c.write_lines.ensures.appended goal proved.parts) (goal_appended logic rules c.requires.right formulas lemmas proved.lemmas_are place l here mid (slice_index positions) each goal proved.parts included new result found c.line_for.ensures.kept)
