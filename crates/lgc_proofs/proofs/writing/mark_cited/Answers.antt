-- What a marked lemma cites stands before it, and is marked.
use Rattle.std.proofs.Common.{◌≡◌, ◌≢◌, ◌<◌, true, List, length, Some, sym, ◌∙◌, ap, subst, arith}
use Rattle.std.specs.Prelude.{All}
use Rattle.std.proofs.lemmas.List.Elements.{All-weaker}
use Rattle.lgc_lemmas.specs.Plain.{PlainLemma}
use Rattle.lgc_proofs.specs.Writing.{places_cited_by, is_marked}
use Rattle.lgc_proofs.proofs.Marking.{closed_more}
use Rattle.lgc_proofs.proofs.writing.mark_cited.Goals as goal

pub mark_all-requires : goal.mark_all-requires
mark_all-requires g c =
    let l : PlainLemma = c.lemma-lemma.result.now in
    let cited : c.cited_places.result.now ≡ places_cited_by l.reason = c.cited_places.ensures ∙ ap (λ (x : PlainLemma). places_cited_by x.reason) c.lemma.view_is in
    subst (All (λ place. place < length c.args.marks.now)) (sym cited)
    (All-weaker (λ place. place < c.args.place) (λ place. place < length c.args.marks.now) (λ place before. omega (arith, before, c.requires.place)) (places_cited_by l.reason) (c.requires.earlier c.args.place l c.lemma-lemma.ensures))

pub returns-then-marks-place-clause-closed : goal.returns-then-marks-place-clause-closed
returns-then-marks-place-clause-closed g c =
    let lemmas : List PlainLemma = c.args.lemmas.now in
    let new = c.mark_all.new.marks in
    let l : PlainLemma = c.lemma-lemma.result.now in
    let cited : c.cited_places.result.now ≡ places_cited_by l.reason = c.cited_places.ensures ∙ ap (λ (x : PlainLemma). places_cited_by x.reason) c.lemma.view_is in
    let earlier = c.requires.earlier c.args.place l c.lemma-lemma.ensures in
    closed_more lemmas c.args.marks.now new c.args.place c.mark_all.ensures.kept
    (λ other behind. c.mark_all.ensures.others other (subst (All (λ place. place ≢ other)) (sym cited) (All-weaker (λ place. place < c.args.place) (λ place. place ≢ other) (λ place before same. absurd (omega (arith, before, same, behind))) (places_cited_by l.reason) earlier)))
    (λ marked x there.
    let both : Some l ≡ Some x = sym c.lemma-lemma.ensures ∙ there in
    let same : l ≡ x = cc in
    subst (λ (y : PlainLemma). All (λ place. is_marked new place ≡ true) (places_cited_by y.reason)) same (subst (All (λ place. is_marked new place ≡ true)) cited c.mark_all.ensures.each))
