-- Tests of what refutes a query.
use Rattle.std.proofs.Common.{◌≡◌, ℕ, Bool, true, false, not, ◌&&◌, List, get_or, refl, sym, ap, ◌∙◌}
use Rattle.std.specs.Prelude.{◌↔◌}
use Rattle.std.specs.Bool.{Decides}
use Rattle.std.specs.List.{All, list_all, list_any, flat_map}
use Rattle.std.proofs.lemmas.Bool.{and_parts, and_from, not-true, not_from_false, false≢true, both_ways}
use Rattle.std.proofs.lemmas.Bool.Decides.{Decides-by_and, same_from_decides, not_from_Decides}
use Rattle.std.proofs.lemmas.List.Folds.{list_all-append, list_any_at, Any-from_list_any}
use Rattle.lgc_values.specs.Logic.{Logic}
use Rattle.lgc_syntax.specs.declared.formula.Formula.{Formula}
use Rattle.lgc_syntax.specs.Equality.{same_formula}
use Rattle.lgc_syntax.specs.Sizes.{has_quantifier}
use Rattle.lgc_syntax.proofs.EqualityLaws.{same_formula-Decides}
use Rattle.lgc_meaning.specs.declared.query.Query.{Query}
use Rattle.lgc_meaning.specs.Valuations.{IsEntries, atom_places, each_once}
use Rattle.lgc_meaning.specs.Queries.{formulas_of, IsPropositional}
use Rattle.lgc_meaning.proofs.AtomLaws.{any-each_once}
use Rattle.lgc_report.specs.Valid.{ListsAtoms, IsRefutation}

-- ---- quantifiers

pub and_last : (b : Bool) → (b && true) ≡ b
and_last true = refl
and_last false = refl

pub ruleset list_rules = (list_all-append, and_last)

not-Decides : (b : Bool) → Decides (not b) (b ≡ false)
not-Decides b = (not-true b, not_from_false b)

pub propositional-Decides : (query : Query) → Decides (list_all (λ f. not (has_quantifier f)) (formulas_of query)) (IsPropositional query)
propositional-Decides query =
    Decides-by_and (λ f. not (has_quantifier f)) (λ f. has_quantifier f ≡ false) (list_all (λ f. not (has_quantifier f))) (λ f. not-Decides (has_quantifier f)) refl (λ f fs. refl) (formulas_of query)

-- ---- entries

Decides-true : (b : Bool) → Decides b (b ≡ true)
Decides-true b = (λ passes. passes, λ passes. passes)

module _ (entries : List (Formula × ℕ)) where
  -- whether a formula has an entry
  abbrev is_listed : Formula → Bool
  is_listed f = list_any (λ entry. same_formula f entry.0) entries

  module _ (atoms : List Formula) where
    abbrev is_atom_of : Formula → Bool
    is_atom_of f = list_any (same_formula f) atoms

    entries-Decides : Decides (list_all (λ entry. is_atom_of entry.0) entries) (All (λ entry. is_atom_of entry.0 ≡ true) entries)
    entries-Decides = Decides-by_and (λ (entry : Formula × ℕ). is_atom_of entry.0) (λ entry. is_atom_of entry.0 ≡ true) (list_all (λ entry. is_atom_of entry.0)) (λ entry. Decides-true (is_atom_of entry.0)) refl (λ entry rest. refl) entries

    atoms-Decides : Decides (list_all is_listed atoms) (All (λ atom. is_listed atom ≡ true) atoms)
    atoms-Decides = Decides-by_and is_listed (λ atom. is_listed atom ≡ true) (list_all is_listed) (λ atom. Decides-true (is_listed atom)) refl (λ atom rest. refl) atoms

    from_entry : All (λ entry. is_atom_of entry.0 ≡ true) entries → (f : Formula) → is_listed f ≡ true → is_atom_of f ≡ true
    from_entry each f listed =
        let some = Any-from_list_any (λ (entry : Formula × ℕ). same_formula f entry.0) entries listed in
        let same : f ≡ some.1.0 = (same_formula-Decides f some.1.0).0 some.4 in
        ap is_atom_of same ∙ ap (λ (entry : Formula × ℕ). is_atom_of entry.0) (sym some.3) ∙ each some.0 some.1 some.2

    from_atom : All (λ atom. is_listed atom ≡ true) atoms → (f : Formula) → is_atom_of f ≡ true → is_listed f ≡ true
    from_atom each f among =
        let some = Any-from_list_any (same_formula f) atoms among in
        let same : f ≡ some.1 = (same_formula-Decides f some.1).0 some.4 in
        ap is_listed same ∙ ap is_listed (sym some.3) ∙ each some.0 some.1 some.2

    entry_among : ((f : Formula) → is_listed f ≡ is_atom_of f) → All (λ entry. is_atom_of entry.0 ≡ true) entries
    entry_among same i d lt =
        let f = (get_or entries i d).0 in
        sym (same f) ∙ list_any_at (λ (entry : Formula × ℕ). same_formula f entry.0) entries i d lt ((same_formula-Decides f f).1 refl)

    atom_listed : ((f : Formula) → is_listed f ≡ is_atom_of f) → All (λ atom. is_listed atom ≡ true) atoms
    atom_listed same i d lt =
        let f = get_or atoms i d in
        same f ∙ list_any_at (same_formula f) atoms i d lt ((same_formula-Decides f f).1 refl)

-- both tests pass where the atoms of the query are listed
pub lists-Decides : (query : Query) (entries : List (Formula × ℕ)) (atoms : List Formula) → IsEntries entries → atoms ≡ each_once (flat_map atom_places (formulas_of query))
    → Decides (list_all (λ entry. list_any (same_formula entry.0) atoms) entries && list_all (λ atom. list_any (λ entry. same_formula atom entry.0) entries) atoms) (ListsAtoms query entries)
lists-Decides query entries atoms are is =
    let places = flat_map atom_places (formulas_of query) in
    let first = list_all (λ (entry : Formula × ℕ). is_atom_of entries atoms entry.0) entries in
    let second = list_all (is_listed entries) atoms in
    let known : (f : Formula) → is_atom_of entries atoms f ≡ list_any (same_formula f) places = λ f. ap (list_any (same_formula f)) is ∙ any-each_once f places in (
      (λ passes.
          let parts = and_parts first second passes in
          let from = from_entry entries atoms ((entries-Decides entries atoms).0 parts.0) in
          let to = from_atom entries atoms ((atoms-Decides entries atoms).0 parts.1) in
          record {
            each = λ f. same_from_decides (is_listed entries f) (is_atom_of entries atoms f) (from f, to f) (Decides-true (is_atom_of entries atoms f)) ∙ known f;
            once = are.distinct;
          }),
      (λ lists.
          let same : (f : Formula) → is_listed entries f ≡ is_atom_of entries atoms f = λ f. lists.each f ∙ sym (known f) in
          and_from first second ((entries-Decides entries atoms).1 (entry_among entries atoms same)) ((atoms-Decides entries atoms).1 (atom_listed entries atoms same))),
    )

-- what one test and then the other tells
module _ {P : Type 0} (first second : Bool) (decides : Decides (first && second) P) where
  pub first_fails : first ≡ false → false ≡ true ↔ P
  first_fails fails = (λ passes. absurd (false≢true passes), λ p. absurd (both_ways first fails (and_parts first second (decides.1 p)).0))

  pub second_tells : (result : Bool) → first ≡ true → result ≡ second → result ≡ true ↔ P
  second_tells result holds is = (λ passes. decides.0 (and_from first second holds (sym is ∙ passes)), λ p. is ∙ (and_parts first second (decides.1 p)).1)

-- ---- refutations

module _ (logic : Logic) (query : Query) (entries : List (Formula × ℕ)) where
  pub no_refutation : list_all (λ f. not (has_quantifier f)) (formulas_of query) ≡ false → false ≡ true ↔ IsRefutation logic query entries
  no_refutation some = (λ passes. absurd (false≢true passes), λ refutes. absurd (not_from_Decides (list_all (λ f. not (has_quantifier f)) (formulas_of query)) (propositional-Decides query) some refutes.propositional))
