-- The tests over the entries and the atoms tell whether the atoms are listed.
use Rattle.std.proofs.Common.{◌≡◌, ℕ, Bool, false, true, List, sym, ◌∙◌}
use Rattle.std.specs.List.{list_all, list_any}
use Rattle.lgc_syntax.specs.declared.formula.Formula.{Formula}
use Rattle.lgc_syntax.specs.Equality.{same_formula}
use Rattle.lgc_check.proofs.Refutations.{lists-Decides, first_fails, second_tells}
use Rattle.lgc_check.proofs.refutation.lists_atoms.Goals as goal

abbrev have : List Formula → List (Formula × ℕ) → Bool
have atoms entries = list_all (λ entry. list_any (same_formula entry.0) atoms) entries

abbrev listed : List Formula → List (Formula × ℕ) → Bool
listed atoms entries = list_all (λ atom. list_any (λ entry. same_formula atom entry.0) entries) atoms

pub returns-then-not-have_atoms : goal.returns-then-not-have_atoms
returns-then-not-have_atoms c =
    let v = c.args.v.now in
    let atoms = c.in_ok-atoms.atoms in
    let decides = lists-Decides c.args.query.now v atoms c.entries-entries.ensures.distinct c.in_ok-atoms.ensures.list in
    let fails : have atoms v ≡ false = sym (c.have_atoms.ensures ∙ (λ j. have (c.items.ensures j) (c.entries-entries.ensures.entries j))) ∙ c.if-not-have_atoms.true in
    first_fails (have atoms v) (listed atoms v) decides fails

pub returns : goal.returns
returns c =
    let v = c.args.v.now in
    let atoms = c.in_ok-atoms.atoms in
    let decides = lists-Decides c.args.query.now v atoms c.entries-entries.ensures.distinct c.in_ok-atoms.ensures.list in
    let passes : have atoms v ≡ true = sym (c.have_atoms.ensures ∙ (λ j. have (c.items.ensures j) (c.entries-entries.ensures.entries j))) ∙ c.if-not-have_atoms.false in
    let is : c.are_listed.result ≡ listed atoms v = c.are_listed.ensures ∙ (λ j. listed (c.items-2.ensures j) (c.entries-entries.ensures.entries j)) in
    second_tells (have atoms v) (listed atoms v) decides c.are_listed.result passes is
