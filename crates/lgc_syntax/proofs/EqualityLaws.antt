-- The tests of equality are passed by equal terms and formulas alone.
use Rattle.std.proofs.Common.{◌≡◌, Bool, true, refl, sym, ◌∙◌, ap}
use Rattle.std.specs.Bool.{Decides}
use Rattle.std.proofs.lemmas.Bool.{eqb-true, eq-eqb, and_parts}
use Rattle.std.proofs.lemmas.Bool.Decides.{same_from_decides}
use base.Stored.{Gv, gnil, gnum, gcons}
use Rattle.lgc_syntax.specs.declared.formula.Term.{Term}
use Rattle.lgc_syntax.specs.declared.formula.Formula.{Formula}
use Rattle.lgc_syntax.specs.contracts.formula.Term as term
use Rattle.lgc_syntax.specs.contracts.formula.Formula as formula
use Rattle.lgc_syntax.specs.Equality.{same_code, same_term, same_formula}

same_code-true : (a b : Gv) → same_code a b ≡ true → a ≡ b
same_code-true gnil gnil same = refl
same_code-true (gnum m) (gnum n) same = ap gnum (eqb-true m n same)
same_code-true (gcons a b) (gcons c d) same = let parts = and_parts (same_code a c) (same_code b d) same in λ i. gcons (same_code-true a c parts.0 i) (same_code-true b d parts.1 i)
same_code-true gnil (gnum n) same = cc
same_code-true gnil (gcons c d) same = cc
same_code-true (gnum m) gnil same = cc
same_code-true (gnum m) (gcons c d) same = cc
same_code-true (gcons a b) gnil same = cc
same_code-true (gcons a b) (gnum n) same = cc

same_code-refl : (a : Gv) → same_code a a ≡ true
same_code-refl gnil = refl
same_code-refl (gnum m) = eq-eqb m m refl
same_code-refl (gcons a b) = rw (same_code-refl a, same_code-refl b)

-- so two of any type that has a code for each value
same_code-Decides : {X : Type 0} (code : X → Gv) → ((a b : X) → code a ≡ code b → a ≡ b) → (a b : X) → Decides (same_code (code a) (code b)) (a ≡ b)
same_code-Decides code injective a b =
    (λ same. injective a b (same_code-true (code a) (code b) same), λ same. ap (λ c. same_code (code a) (code c)) (sym same) ∙ same_code-refl (code a))

pub same_term-Decides : (a b : Term) → Decides (same_term a b) (a ≡ b)
unfolding same_term
same_term-Decides = same_code-Decides term.the_row.coded.code term.the_row.coded.inj

pub same_formula-Decides : (a b : Formula) → Decides (same_formula a b) (a ≡ b)
unfolding same_formula
same_formula-Decides = same_code-Decides formula.the_row.coded.code formula.the_row.coded.inj

-- what tells whether two are equal is the test
pub same_term_test : (result : Bool) (a b : Term) → Decides result (a ≡ b) → result ≡ same_term a b
same_term_test result a b decides = same_from_decides result (same_term a b) decides (same_term-Decides a b)

pub same_formula_test : (result : Bool) (a b : Formula) → Decides result (a ≡ b) → result ≡ same_formula a b
same_formula_test result a b decides = same_from_decides result (same_formula a b) decides (same_formula-Decides a b)
