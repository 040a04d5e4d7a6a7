-- What the calls that make the clauses of formulas stand on.
use Rattle.std.proofs.Common.{◌≡◌, ℕ, zero, suc, ◌+◌, ◌<◌, true, false, cond, List, [], ◌∷◌, ◌++◌, map, length, get_or, take, drop, min, refl, ap, sym, ◌∙◌, subst, arith}
use Rattle.std.specs.List.{flat_map}
use Rattle.std.proofs.lemmas.List.{append-nil, take_more}
use Rattle.std.proofs.lemmas.List.Concat.{flat_map-append}
use Rattle.lgc_clauses.specs.Rules.{OperatorRule}
use Rattle.lgc_syntax.specs.declared.formula.Term.{Term}
use Rattle.lgc_syntax.specs.declared.formula.Formula.{Formula, Atom, Op, Quant}
use Rattle.lgc_syntax.proofs.Induction.{formula_induction}
use Rattle.lgc_sequents.specs.Sequents.{has_all}
use Rattle.lgc_clause_sets.specs.AtomClauses.{has_member, products}
use Rattle.lgc_clause_sets.specs.Reductions.{IsReduction, ReducesBoth}
use Rattle.lgc_clause_sets.proofs.ReductionLaws.{reduction_none, reduction_products}
use Rattle.lgc_translate.specs.Translation.{no_items, one_item, rule_clauses, choices, at_sign, translated}
use Rattle.lgc_translate.proofs.Equations.{translated-Atom, translated-Op, translated-Quant}

-- ---- one clause of a rule

-- nothing is chosen yet
pub choices-end : (n : ℕ) (atoms : List Formula) (tr : Formula → List ℕ → List (List (List ℕ))) (sets : List (List ℕ)) (args : List Formula) (j : ℕ) → j ≡ min (length args) (length sets) → choices n atoms (drop j sets) (map tr (drop j args)) ≡ no_items atoms ∷ []
choices-end n atoms tr [] args zero e = refl
choices-end n atoms tr [] args (suc j) e = absurd (omega arith)
choices-end n atoms tr (x ∷ sets) [] zero e = refl
choices-end n atoms tr (x ∷ sets) [] (suc j) e = absurd (omega arith)
choices-end n atoms tr (x ∷ sets) (y ∷ args) zero e = absurd (omega arith)
choices-end n atoms tr (x ∷ sets) (y ∷ args) (suc j) e = choices-end n atoms tr sets args j (omega (arith, e))

choices-suc : (n : ℕ) (atoms : List Formula) (tr : Formula → List ℕ → List (List (List ℕ))) (sets : List (List ℕ)) (args : List Formula) (j : ℕ) (s : List ℕ) (a : Formula) → j < length sets → j < length args
    → choices n atoms (drop j sets) (map tr (drop j args)) ≡ products n (tr (get_or args j a) (get_or sets j s)) (choices n atoms (drop (suc j) sets) (map tr (drop (suc j) args)))
choices-suc n atoms tr [] args j s a lt lt' = absurd (omega arith)
choices-suc n atoms tr (x ∷ sets) [] j s a lt lt' = absurd (omega arith)
choices-suc n atoms tr (x ∷ sets) (y ∷ args) zero s a lt lt' = refl
choices-suc n atoms tr (x ∷ sets) (y ∷ args) (suc j) s a lt lt' = choices-suc n atoms tr sets args j s a (omega arith) (omega arith)

-- the clauses of one argument more, from the last to the first
pub choice_more : (n : ℕ) (atoms : List Formula) (tr : Formula → List ℕ → List (List (List ℕ))) (sets : List (List ℕ)) (args : List Formula) (j k : ℕ) (s : List ℕ) (a : Formula) (clauses kept new : List (List (List ℕ))) → j ≡ suc k → k < length sets → k < length args → s ≡ get_or sets k s → a ≡ get_or args k a
    → IsReduction n (tr a s) clauses → IsReduction n (choices n atoms (drop j sets) (map tr (drop j args))) kept → IsReduction n (products n clauses kept) new → IsReduction n (choices n atoms (drop k sets) (map tr (drop k args))) new
choice_more n atoms tr sets args j k s a clauses kept new e lt lt' at at' one rest made =
    let same : choices n atoms (drop k sets) (map tr (drop k args)) ≡ products n (tr a s) (choices n atoms (drop j sets) (map tr (drop j args))) =
    choices-suc n atoms tr sets args k s a lt lt' ∙ sym (λ i. products n (tr (at' i) (at i)) (choices n atoms (drop (e i) sets) (map tr (drop (e i) args)))) in
    subst (λ l. IsReduction n l new) (sym same) (reduction_products n clauses kept (tr a s) (choices n atoms (drop j sets) (map tr (drop j args))) new one rest made)

-- ---- all clauses of a rule

pub clause_more : (n : ℕ) (f : List (List ℕ) → List (List (List ℕ))) (clauses : List (List (List ℕ))) (i : ℕ) (c : List (List ℕ)) (kept more new : List (List (List ℕ))) → i < length clauses → c ≡ get_or clauses i c → IsReduction n (flat_map f (take i clauses)) kept → IsReduction n (f c) more → ReducesBoth n kept more new
    → IsReduction n (flat_map f (take (i + 1) clauses)) new
clause_more n f clauses i c kept more new lt at h k both =
    subst (λ l. IsReduction n l new) (sym (ap (flat_map f) (take_more clauses i c lt ∙ ap (λ y. take i clauses ++ y ∷ []) (sym at)) ∙ flat_map-append f (take i clauses) (c ∷ []) ∙ ap (λ l. flat_map f (take i clauses) ++ l) (append-nil (f c))))
    (both (flat_map f (take i clauses)) (f c) h k)

-- ---- signs that are full or empty, and others

module _ (n : ℕ) (rules : List OperatorRule) (atoms : List Formula) (sign : List ℕ) where
  at_full : (clauses : List (List (List ℕ))) → has_all n sign ≡ true → at_sign n atoms sign clauses ≡ []
  at_full clauses full = ap (λ b. cond b [] (cond (has_member sign) clauses (no_items atoms ∷ []))) full

  at_empty : (clauses : List (List (List ℕ))) → has_all n sign ≡ false → has_member sign ≡ false → at_sign n atoms sign clauses ≡ no_items atoms ∷ []
  at_empty clauses open' none = ap (λ b. cond b [] (cond (has_member sign) clauses (no_items atoms ∷ []))) open' ∙ ap (λ b. cond b clauses (no_items atoms ∷ [])) none

  at_others : (clauses : List (List (List ℕ))) → has_all n sign ≡ false → has_member sign ≡ true → at_sign n atoms sign clauses ≡ clauses
  at_others clauses open' some = ap (λ b. cond b [] (cond (has_member sign) clauses (no_items atoms ∷ []))) open' ∙ ap (λ b. cond b clauses (no_items atoms ∷ [])) some

  abbrev choices_of : ℕ → List Formula → List (List (List ℕ))
  choices_of op args = flat_map (λ sets. choices n atoms sets (map (translated n rules atoms) args)) (rule_clauses rules op sign)

  pub translated_full : (f : Formula) → has_all n sign ≡ true → translated n rules atoms f sign ≡ []
  translated_full f full = formula_induction (λ f. translated n rules atoms f sign ≡ [])
      (λ p args. translated-Atom n rules atoms p args sign ∙ at_full (one_item n atoms (Atom p args) sign ∷ []) full)
      (λ op args each. translated-Op n rules atoms op args sign ∙ at_full (choices_of op args) full)
      (λ q body rest. translated-Quant n rules atoms q body sign ∙ at_full [] full) f

  pub translated_empty : (f : Formula) → has_all n sign ≡ false → has_member sign ≡ false → translated n rules atoms f sign ≡ no_items atoms ∷ []
  translated_empty f open' none = formula_induction (λ f. translated n rules atoms f sign ≡ no_items atoms ∷ [])
      (λ p args. translated-Atom n rules atoms p args sign ∙ at_empty (one_item n atoms (Atom p args) sign ∷ []) open' none)
      (λ op args each. translated-Op n rules atoms op args sign ∙ at_empty (choices_of op args) open' none)
      (λ q body rest. translated-Quant n rules atoms q body sign ∙ at_empty [] open' none) f

  pub translated_atom : (p : List ℕ) (args : List Term) → has_all n sign ≡ false → has_member sign ≡ true → translated n rules atoms (Atom p args) sign ≡ one_item n atoms (Atom p args) sign ∷ []
  translated_atom p args open' some = translated-Atom n rules atoms p args sign ∙ at_others (one_item n atoms (Atom p args) sign ∷ []) open' some

  pub translated_op : (op : ℕ) (args : List Formula) → has_all n sign ≡ false → has_member sign ≡ true → translated n rules atoms (Op op args) sign ≡ flat_map (λ sets. choices n atoms sets (map (translated n rules atoms) args)) (rule_clauses rules op sign)
  translated_op op args open' some = translated-Op n rules atoms op args sign ∙ at_others (choices_of op args) open' some

  pub translated_quant : (q : ℕ) (body : Formula) → has_all n sign ≡ false → has_member sign ≡ true → translated n rules atoms (Quant q body) sign ≡ []
  translated_quant q body open' some = translated-Quant n rules atoms q body sign ∙ at_others [] open' some

-- the clauses of a compound, and none where the rule isn't there
pub op_case : (n : ℕ) (rules : List OperatorRule) (atoms : List Formula) (sign : List ℕ) (f : Formula) (op : ℕ) (args args' : List Formula) (clauses kept : List (List (List ℕ))) → f ≡ Op op args → has_all n sign ≡ false → has_member sign ≡ true → args' ≡ args → clauses ≡ rule_clauses rules op sign
    → IsReduction n (flat_map (λ sets. choices n atoms sets (map (translated n rules atoms) args')) clauses) kept → IsReduction n (translated n rules atoms f sign) kept
op_case n rules atoms sign f op args args' clauses kept is open' some same found r =
    subst (λ l. IsReduction n l kept) ((λ i. flat_map (λ sets. choices n atoms sets (map (translated n rules atoms) (same i))) (found i)) ∙ sym (ap (λ g. translated n rules atoms g sign) is ∙ translated_op n rules atoms sign op args open' some)) r

pub no_rule_case : (n : ℕ) (rules : List OperatorRule) (atoms : List Formula) (sign : List ℕ) (f : Formula) (op : ℕ) (args : List Formula) (kept : List (List (List ℕ))) → f ≡ Op op args → has_all n sign ≡ false → has_member sign ≡ true → rule_clauses rules op sign ≡ [] → kept ≡ [] → IsReduction n (translated n rules atoms f sign) kept
no_rule_case n rules atoms sign f op args kept is open' some absent none =
    subst (IsReduction n (translated n rules atoms f sign)) (sym none) (op_case n rules atoms sign f op args args [] [] is open' some refl (sym absent) (reduction_none n))

pub ruleset translation_laws = (translated_full, translated_empty, translated_atom, translated_quant, reduction_none)
