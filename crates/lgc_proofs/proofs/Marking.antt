-- What marked lemmas cite, and their lines.
use Rattle.std.proofs.Common.{◌≡◌, ◌≢◌, ℕ, zero, suc, ◌+◌, ◌<◌, ◌≤◌, Bool, true, List, [], ◌∷◌, ◌++◌, length, get_or, slice_get, Some, refl, sym, ◌∙◌, ap, subst, arith, ⊎_elim}
use Rattle.std.specs.Prelude.{All, slice_index}
use Rattle.std.proofs.lemmas.Bool.Decides.{eqb_tells}
use Rattle.std.proofs.lemmas.List.{get_or_push, get_or_append_left}
use Rattle.std.proofs.lemmas.List.Elements.{All-weaker}
use Rattle.lgc_syntax.specs.declared.formula.Formula.{Formula}
use Rattle.lgc_sequents.specs.Lines.{PlainLine}
use Rattle.lgc_lemmas.specs.Plain.{PlainLemma}
use Rattle.lgc_lemmas.specs.Steps.{IsGrown}
use Rattle.lgc_proofs.specs.Writing.{places_cited_by, IsTrueOfCited, CiteEarlier, is_marked, AreClosedFrom, HasLine, HaveLines}
use Rattle.lgc_proofs.proofs.Appending.{line_kept}

-- ---- what marked lemmas cite

below : (a b : ℕ) → b ≤ a → a ≢ b → b < a
below zero zero l differ = absurd (differ refl)
below zero (suc b) l differ = absurd (omega (arith, l))
below (suc a) zero l differ = omega arith
below (suc a) (suc b) l differ = omega (arith, below a b (omega (arith, l)) (λ same. differ (ap suc same)))

-- one lemma more, where it cites marked lemmas if it is marked itself
pub closed_more : (lemmas : List PlainLemma) (old new : List Bool) (place : ℕ) → ((other : ℕ) → is_marked old other ≡ true → is_marked new other ≡ true) → ((other : ℕ) → place ≤ other → is_marked new other ≡ is_marked old other)
    → (is_marked old place ≡ true → IsTrueOfCited (λ cited. is_marked new cited ≡ true) lemmas place) → AreClosedFrom (place + 1) lemmas old → AreClosedFrom place lemmas new
closed_more lemmas old new place kept same here closed other behind marked lemma at = ⊎_elim
    (λ e. subst (λ (p : ℕ). (l : PlainLemma) → slice_get lemmas p ≡ Some l → All (λ cited. is_marked new cited ≡ true) (places_cited_by l.reason)) e.1 (here (subst (λ (p : ℕ). is_marked old p ≡ true) (sym e.1) was)) lemma at)
    (λ e. All-weaker (λ cited. is_marked old cited ≡ true) (λ cited. is_marked new cited ≡ true) kept (places_cited_by lemma.reason) (closed other (omega (arith, below other place behind (λ same. e.1 (sym same)))) was lemma at))
    (eqb_tells place other)
  where
    was : is_marked old other ≡ true
    was = sym (same other behind) ∙ marked

-- ---- the lines of marked lemmas
module _ (formulas : List Formula) (lemmas : List PlainLemma) (marks : List Bool) where
  -- a marked lemma cites lemmas that have lines
  pub cited_have_lines : (lines : List PlainLine) (positions : List ℕ) (place : ℕ) (l : PlainLemma) → CiteEarlier lemmas → AreClosedFrom 0 lemmas marks → HaveLines formulas lemmas lines marks positions place → is_marked marks place ≡ true → slice_get lemmas place ≡ Some l
      → All (λ cited. HasLine formulas lemmas lines cited (slice_index positions cited)) (places_cited_by l.reason)
  cited_have_lines lines positions place l earlier closed have marked here i d within =
      have (get_or (places_cited_by l.reason) i d) (earlier place l here i d within) (closed place (omega arith) marked l here i d within)

  -- the line of one lemma more, behind further lines
  pub one_has_line : (old new : List PlainLine) (positions : List ℕ) (place position : ℕ) → IsGrown PlainLine old new → length positions ≡ place → HaveLines formulas lemmas old marks positions place → (is_marked marks place ≡ true → HasLine formulas lemmas new place position)
      → HaveLines formulas lemmas new marks (positions ++ position ∷ []) (place + 1)
  one_has_line old new positions place position grown count have last other before marked = ⊎_elim
      (λ e. subst (HasLine formulas lemmas new other) (sym (get_or_push positions position 0 other (count ∙ e.1))) (subst (λ (p : ℕ). HasLine formulas lemmas new p position) e.1 (last (subst (λ (p : ℕ). is_marked marks p ≡ true) (sym e.1) marked))))
      (λ e. let less = below place other (omega (arith, before)) e.1 in
      subst (HasLine formulas lemmas new other) (sym (get_or_append_left positions (position ∷ []) 0 other (omega (arith, less, count))))
      (line_kept formulas lemmas old grown.more new other (slice_index positions other) grown.is (have other less marked)))
      (eqb_tells place other)
