-- The clauses of each kind of formula, and when it is covered.
use Rattle.std.proofs.Common.{◌≡◌, ℕ, ◌||◌, ◌&&◌, not, Bool, true, List, [], ◌∷◌, map, ap}
use Rattle.std.specs.List.{list_all, flat_map}
use Rattle.lgc_clauses.specs.Rules.{OperatorRule}
use Rattle.lgc_syntax.specs.declared.formula.Term.{Term}
use Rattle.lgc_syntax.specs.declared.formula.Formula.{Formula, Atom, Op, Quant}
use Rattle.lgc_syntax.proofs.Folds.{fold-Atom, fold-Op, fold-Quant}
use Rattle.lgc_sequents.specs.Sequents.{has_all}
use Rattle.lgc_clause_sets.specs.AtomClauses.{has_member}
use Rattle.lgc_translate.specs.Translation.{one_item, rule_clauses, choices, at_sign, translated, translated_layer}
use Rattle.lgc_translate.specs.Covering.{has_rule, all_covered, covers, covers_layer}

module _ (n : ℕ) (rules : List OperatorRule) where
  module _ (atoms : List Formula) where
    pub translated-Atom : (p : List ℕ) (args : List Term) (sign : List ℕ) → translated n rules atoms (Atom p args) sign ≡ at_sign n atoms sign (one_item n atoms (Atom p args) sign ∷ [])
    unfolding translated
    translated-Atom p args sign = ap (λ clauses. clauses sign) (fold-Atom (List ℕ → List (List (List ℕ))) (translated_layer n rules atoms) p args)

    pub translated-Op : (op : ℕ) (args : List Formula) (sign : List ℕ) → translated n rules atoms (Op op args) sign ≡ at_sign n atoms sign (flat_map (λ sets. choices n atoms sets (map (translated n rules atoms) args)) (rule_clauses rules op sign))
    unfolding translated
    translated-Op op args sign = ap (λ clauses. clauses sign) (fold-Op (List ℕ → List (List (List ℕ))) (translated_layer n rules atoms) op args)

    pub translated-Quant : (q : ℕ) (body : Formula) (sign : List ℕ) → translated n rules atoms (Quant q body) sign ≡ at_sign n atoms sign []
    unfolding translated
    translated-Quant q body sign = ap (λ clauses. clauses sign) (fold-Quant (List ℕ → List (List (List ℕ))) (translated_layer n rules atoms) q body)

  pub covers-Atom : (p : List ℕ) (args : List Term) (sign : List ℕ) → covers n rules (Atom p args) sign ≡ true
  unfolding covers
  covers-Atom p args sign = ap (λ test. test sign) (fold-Atom (List ℕ → Bool) (covers_layer n rules) p args)

  pub covers-Op : (op : ℕ) (args : List Formula) (sign : List ℕ)
      → covers n rules (Op op args) sign ≡ ((has_all n sign || not (has_member sign)) || (has_rule rules op sign && list_all (λ sets. all_covered sets (map (covers n rules) args)) (rule_clauses rules op sign)))
  unfolding covers
  covers-Op op args sign = ap (λ test. test sign) (fold-Op (List ℕ → Bool) (covers_layer n rules) op args)

  pub covers-Quant : (q : ℕ) (body : Formula) (sign : List ℕ) → covers n rules (Quant q body) sign ≡ true
  unfolding covers
  covers-Quant q body sign = ap (λ test. test sign) (fold-Quant (List ℕ → Bool) (covers_layer n rules) q body)
