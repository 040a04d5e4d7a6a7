-- Formulas behind others in an operator's brackets: one more is read.
use Rattle.std.proofs.Common.{◌≡◌, ℕ, suc, false, List, Ok, refl, sym}
use Rattle.lgc_grammar.specs.Reading.{Reader, one_at, next_is}
use Rattle.lgc_tokens.specs.declared.class.Class.TheVariants.{CloseRound, Comma}
use Rattle.lgc_formulas.specs.declared.formula.Read.{Read}
use Rattle.lgc_formulas.specs.declared.formula.Formulas.{Formulas}
use Rattle.lgc_formulas.specs.Named.{Named, is}
use Rattle.lgc_formulas.specs.FormulaGrammar.{with_formula}
use Rattle.lgc_formulas.specs.FormulaReading.{more_operands_at}

module _ (p : ℕ → Reader Named Read) (before next : Formulas) (x : Read) (t : Named) (ts rest behind : List Named) (whole : before.is_bare ≡ false) (ends : false ≡ next_is (is CloseRound) ts) (comma : one_at (is Comma) ts ≡ Ok (t, rest)) (read : p before.nodes_left rest ≡ Ok (x, behind)) (made : next ≡ with_formula before.list x) where
  one_more : (k : ℕ) → more_operands_at p (suc k) before ts ≡ more_operands_at p k next behind
  unfolding more_operands_at
  one_more k = rw (whole, sym ends, comma, read, made) refl

  pub operands_go_on : (k left : ℕ) → k ≡ suc left → more_operands_at p k before ts ≡ more_operands_at p left next behind
  operands_go_on k left is = rw is (one_more left)
