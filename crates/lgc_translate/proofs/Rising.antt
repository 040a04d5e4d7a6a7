-- The clauses to which rules lead have a set for each atom, a rising list of values below n.
use Rattle.std.proofs.Common.{◌≡◌, ℕ, suc, ◌&&◌, ◌||◌, arith, inl, inr, Bool, true, false, cond, List, [], ◌∷◌, map, length, refl, ap, sym, ◌∙◌, subst}
use Rattle.std.specs.List.{flat_map, AllByRecursion}
use Rattle.std.proofs.lemmas.List.{length-map}
use Rattle.lgc_values.specs.Values.{has, values_where}
use Rattle.lgc_values.proofs.ValueLaws.{empty_law}
use Rattle.lgc_clauses.specs.Rules.{OperatorRule}
use Rattle.lgc_syntax.specs.declared.formula.Formula.{Formula, Atom}
use Rattle.lgc_syntax.specs.Equality.{same_formula}
use Rattle.lgc_syntax.proofs.Induction.{formula_induction}
use Rattle.lgc_sequents.specs.Sequents.{IsSet, has_all}
use Rattle.lgc_sequents.proofs.Laws.{IsSet-values_where}
use Rattle.lgc_clause_sets.specs.AtomClauses.{has_member, joined, products}
use Rattle.lgc_clause_sets.specs.Reductions.{Among}
use Rattle.lgc_clause_sets.proofs.AmongLaws.{flat_among, map_among}
use Rattle.lgc_translate.specs.Translation.{no_items, one_item, rule_clauses, choices, at_sign, translated}
use Rattle.lgc_translate.proofs.Equations.{translated-Atom, translated-Op, translated-Quant}

module _ (n : ℕ) where
  IsSet-none : IsSet n []
  IsSet-none = subst (IsSet n) (empty_law n) (IsSet-values_where n _)

  -- a row over so many atoms
  pub record IsRow (width : ℕ) (clause : List (List ℕ)) : Type 0 where
    pub sets : AllByRecursion (IsSet n) clause
    pub wide : length clause ≡ width

  joined_sets : (a b : List (List ℕ)) → AllByRecursion (IsSet n) a → AllByRecursion (IsSet n) b → AllByRecursion (IsSet n) (joined n a b)
  joined_sets [] b h k = k
  joined_sets (x ∷ a) [] h k = h
  joined_sets (x ∷ a) (y ∷ b) h k = (IsSet-values_where n (λ v. has x v || has y v), joined_sets a b h.1 k.1)

  joined_wide : (a b : List (List ℕ)) → length a ≡ length b → length (joined n a b) ≡ length b
  joined_wide [] b same = refl
  joined_wide (x ∷ a) [] same = same
  joined_wide (x ∷ a) (y ∷ b) same = ap suc (joined_wide a b (omega (arith, same)))

  module _ (rules : List OperatorRule) (atoms : List Formula) where
    abbrev AreRows : List (List (List ℕ)) → Type 0
    AreRows clauses = (c : List (List ℕ)) → Among clauses c → IsRow (length atoms) c

    none_row : IsRow (length atoms) (no_items atoms)
    none_row = record { sets = sets atoms; wide = length-map atoms (λ _. []) } where
      sets : (atoms : List Formula) → AllByRecursion (IsSet n) (no_items atoms)
      sets [] = tt
      sets (a ∷ atoms) = (IsSet-none, sets atoms)

    item_row : (atom : Formula) (sign : List ℕ) → IsRow (length atoms) (one_item n atoms atom sign)
    item_row atom sign = record { sets = sets atoms; wide = length-map atoms (λ a. values_where n (λ v. same_formula a atom && has sign v)) } where
      sets : (atoms : List Formula) → AllByRecursion (IsSet n) (one_item n atoms atom sign)
      sets [] = tt
      sets (a ∷ atoms) = (IsSet-values_where n (λ v. same_formula a atom && has sign v), sets atoms)

    one_row : (c : List (List ℕ)) → IsRow (length atoms) c → AreRows (c ∷ [])
    one_row c row d (inl e) = subst (IsRow (length atoms)) e row
    one_row c row d (inr none) = absurd none

    products_rows : (xs ys : List (List (List ℕ))) → AreRows xs → AreRows ys → AreRows (products n xs ys)
    products_rows xs ys h k c a =
        let l = flat_among (λ left. map (joined n left) ys) xs c a in
        let r = map_among (joined n l.0) ys c l.2 in
        let left = h l.0 l.1 in
        let right = k r.0 r.1 in
        subst (IsRow (length atoms)) r.2 (record { sets = joined_sets l.0 r.0 left.sets right.sets; wide = joined_wide l.0 r.0 (left.wide ∙ sym right.wide) ∙ right.wide })

    at_sign_rows : (sign : List ℕ) (clauses : List (List (List ℕ))) → AreRows clauses → AreRows (at_sign n atoms sign clauses)
    at_sign_rows sign clauses rows = pick (has_all n sign) (has_member sign) where
      pick : (a b : Bool) → AreRows (cond a [] (cond b clauses (no_items atoms ∷ [])))
      pick true b = λ c none. absurd none
      pick false true = rows
      pick false false = one_row (no_items atoms) none_row

    choices_rows : (sets : List (List ℕ)) (args : List Formula) → AllByRecursion (λ f. (sign : List ℕ) → AreRows (translated n rules atoms f sign)) args → AreRows (choices n atoms sets (map (translated n rules atoms) args))
    choices_rows [] args each = one_row (no_items atoms) none_row
    choices_rows (s ∷ sets) [] each = one_row (no_items atoms) none_row
    choices_rows (s ∷ sets) (a ∷ args) each = products_rows (translated n rules atoms a s) (choices n atoms sets (map (translated n rules atoms) args)) (each.0 s) (choices_rows sets args each.1)

    pub translated_rows : (f : Formula) (sign : List ℕ) → AreRows (translated n rules atoms f sign)
    translated_rows = formula_induction (λ f. (sign : List ℕ) → AreRows (translated n rules atoms f sign))
        (λ p args sign. subst AreRows (sym (translated-Atom n rules atoms p args sign)) (at_sign_rows sign (one_item n atoms (Atom p args) sign ∷ []) (one_row (one_item n atoms (Atom p args) sign) (item_row (Atom p args) sign))))
        (λ op args each sign. subst AreRows (sym (translated-Op n rules atoms op args sign)) (at_sign_rows sign (flat_map (λ sets. choices n atoms sets (map (translated n rules atoms) args)) (rule_clauses rules op sign)) (λ c a.
        let k = flat_among (λ sets. choices n atoms sets (map (translated n rules atoms) args)) (rule_clauses rules op sign) c a in choices_rows k.0 args each c k.2)))
        (λ q body each sign. subst AreRows (sym (translated-Quant n rules atoms q body sign)) (at_sign_rows sign [] (λ c none. absurd none)))
