-- A fold at each kind of term and of formula. The equations of each definition by a fold are these.
use Rattle.std.proofs.Common.{ℕ, ◌≡◌, List, map, sym, ◌∙◌, ap}
use Rattle.lgc_syntax.specs.declared.formula.Term.{Term, Bound, Free, Apply, fold-Term, fold-roll-Term}
use Rattle.lgc_syntax.specs.declared.formula.Term.TheOpen.{Term-F}
use Rattle.lgc_syntax.specs.declared.formula.Term.TheVariants.{rolls-Bound, rolls-Free, rolls-Apply}
use Rattle.lgc_syntax.specs.declared.formula.Term.TheOpen as term
use Rattle.lgc_syntax.specs.declared.formula.Formula.{Formula, Atom, Op, Quant, fold-Formula, fold-roll-Formula}
use Rattle.lgc_syntax.specs.declared.formula.Formula.TheOpen.{Formula-F}
use Rattle.lgc_syntax.specs.declared.formula.Formula.TheVariants.{rolls-Atom, rolls-Op, rolls-Quant}
use Rattle.lgc_syntax.specs.declared.formula.Formula.TheOpen as formula

module _ (A : Type 0) (layer : Term-F A → A) where
  pub fold-Bound : (i : ℕ) → fold-Term A layer (Bound i) ≡ layer (term.Bound i)
  fold-Bound i = ap (fold-Term A layer) (sym (rolls-Bound i)) ∙ fold-roll-Term A layer (term.Bound i)

  pub fold-Free : (x : List ℕ) → fold-Term A layer (Free x) ≡ layer (term.Free x)
  fold-Free x = ap (fold-Term A layer) (sym (rolls-Free x)) ∙ fold-roll-Term A layer (term.Free x)

  pub fold-Apply : (f : List ℕ) (args : List Term) → fold-Term A layer (Apply f args) ≡ layer (term.Apply f (map (fold-Term A layer) args))
  fold-Apply f args = ap (fold-Term A layer) (sym (rolls-Apply f args)) ∙ fold-roll-Term A layer (term.Apply f args)

module _ (A : Type 0) (layer : Formula-F A → A) where
  pub fold-Atom : (p : List ℕ) (args : List Term) → fold-Formula A layer (Atom p args) ≡ layer (formula.Atom p args)
  fold-Atom p args = ap (fold-Formula A layer) (sym (rolls-Atom p args)) ∙ fold-roll-Formula A layer (formula.Atom p args)

  pub fold-Op : (o : ℕ) (args : List Formula) → fold-Formula A layer (Op o args) ≡ layer (formula.Op o (map (fold-Formula A layer) args))
  fold-Op o args = ap (fold-Formula A layer) (sym (rolls-Op o args)) ∙ fold-roll-Formula A layer (formula.Op o args)

  pub fold-Quant : (q : ℕ) (body : Formula) → fold-Formula A layer (Quant q body) ≡ layer (formula.Quant q (fold-Formula A layer body))
  fold-Quant q body = ap (fold-Formula A layer) (sym (rolls-Quant q body)) ∙ fold-roll-Formula A layer (formula.Quant q body)
