-- Induction on terms and on formulas, with the parts of each as a list.
use Rattle.std.proofs.Common.{ℕ, List, [], ◌∷◌, map, sym, subst}
use Rattle.std.specs.List.{AllByRecursion}
use denote.Hole.Holds.{Such}
use Rattle.lgc_syntax.specs.declared.formula.Term.{Term, Bound, Free, Apply, ind-Term, roll-Term}
use Rattle.lgc_syntax.specs.declared.formula.Term.TheBlock as term_block
use Rattle.lgc_syntax.specs.declared.formula.Term.TheFolds as term_folds
use Rattle.lgc_syntax.specs.declared.formula.Term.TheOpen.{Term-F}
use Rattle.lgc_syntax.specs.declared.formula.Term.TheVariants.{rolls-Apply, rolls-Bound, rolls-Free}
use Rattle.lgc_syntax.specs.declared.formula.Term.TheOpen as term
use Rattle.lgc_syntax.specs.declared.formula.Formula.{Formula, Atom, Op, Quant, ind-Formula, roll-Formula}
use Rattle.lgc_syntax.specs.declared.formula.Formula.TheBlock as formula_block
use Rattle.lgc_syntax.specs.declared.formula.Formula.TheFolds as formula_folds
use Rattle.lgc_syntax.specs.declared.formula.Formula.TheOpen.{Formula-F}
use Rattle.lgc_syntax.specs.declared.formula.Formula.TheVariants.{rolls-Atom, rolls-Op, rolls-Quant}
use Rattle.lgc_syntax.specs.declared.formula.Formula.TheOpen as formula

module _ (P : Term → Type 0) (bound : (i : ℕ) → P (Bound i)) (free : (x : List ℕ) → P (Free x)) (apply : (f : List ℕ) (args : List Term) → AllByRecursion P args → P (Apply f args)) where
  abbrev Part : Type 0
  Part = Such term_block.the_family (term_folds.claims P) term_block.member-Term

  each_part : (parts : List Part) → AllByRecursion P (map (λ e. e.0) parts)
  each_part [] = tt
  each_part (part ∷ parts) = (part.1, each_part parts)

  step : (layer : Term-F Part) → P (roll-Term (term_folds.map-Term Part Term (λ e. e.0) layer))
  step (term.Bound i) = subst P (sym (rolls-Bound i)) (bound i)
  step (term.Free x) = subst P (sym (rolls-Free x)) (free x)
  step (term.Apply f parts) = subst P (sym (rolls-Apply f (map (λ e. e.0) parts))) (apply f (map (λ e. e.0) parts) (each_part parts))

  pub term_induction : (t : Term) → P t
  term_induction = ind-Term P (λ x y e. subst (λ z. P (roll-Term z)) e (step y))

module _ (P : Formula → Type 0) (atom : (p : List ℕ) (args : List Term) → P (Atom p args)) (op : (o : ℕ) (args : List Formula) → AllByRecursion P args → P (Op o args)) (quant : (q : ℕ) (body : Formula) → P body → P (Quant q body)) where
  abbrev FormulaPart : Type 0
  FormulaPart = Such formula_block.the_family (formula_folds.claims P) formula_block.member-Formula

  each_formula_part : (parts : List FormulaPart) → AllByRecursion P (map (λ e. e.0) parts)
  each_formula_part [] = tt
  each_formula_part (part ∷ parts) = (part.1, each_formula_part parts)

  formula_step : (layer : Formula-F FormulaPart) → P (roll-Formula (formula_folds.map-Formula FormulaPart Formula (λ e. e.0) layer))
  formula_step (formula.Atom p args) = subst P (sym (rolls-Atom p args)) (atom p args)
  formula_step (formula.Op o parts) = subst P (sym (rolls-Op o (map (λ e. e.0) parts))) (op o (map (λ e. e.0) parts) (each_formula_part parts))
  formula_step (formula.Quant q part) = subst P (sym (rolls-Quant q part.0)) (quant q part.0 part.1)

  pub formula_induction : (f : Formula) → P f
  formula_induction = ind-Formula P (λ x y e. subst (λ z. P (roll-Formula z)) e (formula_step y))
