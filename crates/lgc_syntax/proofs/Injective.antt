-- Two equal terms or formulas of one kind have equal parts.
use Rattle.std.proofs.Common.{ℕ, ◌≡◌, List, sym, ◌∙◌, ap}
use Rattle.lgc_syntax.specs.declared.formula.Term.{Term, Apply, out-Term}
use Rattle.lgc_syntax.specs.declared.formula.Term.TheVariants.{outs-Apply}
use Rattle.lgc_syntax.specs.declared.formula.Formula.{Formula, Atom, Op, Quant, out-Formula}
use Rattle.lgc_syntax.specs.declared.formula.Formula.TheVariants.{outs-Atom, outs-Op, outs-Quant}

pub same_Apply : {f g : List ℕ} {xs ys : List Term} → Apply f xs ≡ Apply g ys → (f ≡ g) × (xs ≡ ys)
same_Apply {f} {g} {xs} {ys} same = let parts = sym (outs-Apply f xs) ∙ ap out-Term same ∙ outs-Apply g ys in (cc, cc)

pub same_Atom : {p q : List ℕ} {xs ys : List Term} → Atom p xs ≡ Atom q ys → (p ≡ q) × (xs ≡ ys)
same_Atom {p} {q} {xs} {ys} same = let parts = sym (outs-Atom p xs) ∙ ap out-Formula same ∙ outs-Atom q ys in (cc, cc)

pub same_Op : {o p : ℕ} {xs ys : List Formula} → Op o xs ≡ Op p ys → (o ≡ p) × (xs ≡ ys)
same_Op {o} {p} {xs} {ys} same = let parts = sym (outs-Op o xs) ∙ ap out-Formula same ∙ outs-Op p ys in (cc, cc)

pub same_Quant : {q r : ℕ} {x y : Formula} → Quant q x ≡ Quant r y → (q ≡ r) × (x ≡ y)
same_Quant {q} {r} {x} {y} same = let parts = sym (outs-Quant q x) ∙ ap out-Formula same ∙ outs-Quant r y in (cc, cc)
