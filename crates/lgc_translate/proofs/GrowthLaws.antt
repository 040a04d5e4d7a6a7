-- What is covered by some rules is covered by more, and has the same clauses.
use Rattle.std.proofs.Common.{◌≡◌, ℕ, ◌||◌, ◌&&◌, not, Bool, true, false, cond, List, [], ◌∷◌, ◌++◌, map, length, take, drop, refl, ap, sym, ◌∙◌, subst}
use Rattle.std.specs.List.{list_all, flat_map, AllByRecursion}
use Rattle.std.proofs.lemmas.Bool.{and_parts, and_from, or_left, true≢false}
use Rattle.std.proofs.lemmas.List.{take-append-drop}
use Rattle.std.proofs.lemmas.List.Folds.{list_any-append}
use Rattle.lgc_clauses.specs.Rules.{OperatorRule}
use Rattle.lgc_syntax.specs.declared.formula.Formula.{Formula}
use Rattle.lgc_syntax.proofs.Induction.{formula_induction}
use Rattle.lgc_sequents.specs.Sequents.{has_all}
use Rattle.lgc_sequents.specs.Signed.{SignedFormula}
use Rattle.lgc_clause_sets.specs.AtomClauses.{has_member, products}
use Rattle.lgc_clause_sets.specs.LeastClauses.{AreLeast}
use Rattle.lgc_translate.specs.Translation.{no_items, is_for, rule_clauses, choices, at_sign, translated}
use Rattle.lgc_translate.specs.Covering.{has_rule, all_covered, covers}
use Rattle.lgc_translate.specs.SignedClauses.{atoms_in, AreLeastClauses}
use Rattle.lgc_translate.proofs.Equations.{translated-Atom, translated-Op, translated-Quant, covers-Atom, covers-Op, covers-Quant}

-- a rule that is there stays the first one
clauses_grown : (rules more : List OperatorRule) (op : ℕ) (sign : List ℕ) → has_rule rules op sign ≡ true → rule_clauses (rules ++ more) op sign ≡ rule_clauses rules op sign
clauses_grown [] more op sign there = absurd (true≢false (sym there))
clauses_grown (rule ∷ rules) more op sign there = pick (is_for op sign rule) (clauses_grown rules more op sign) there where
  pick : (b : Bool) → (has_rule rules op sign ≡ true → rule_clauses (rules ++ more) op sign ≡ rule_clauses rules op sign) → (b || has_rule rules op sign) ≡ true → cond b rule.clauses (rule_clauses (rules ++ more) op sign) ≡ cond b rule.clauses (rule_clauses rules op sign)
  pick true later there = refl
  pick false later there = later there

module _ (n : ℕ) (rules more : List OperatorRule) where
  abbrev grown : List OperatorRule
  grown = rules ++ more

  abbrev below : List OperatorRule → ℕ → List ℕ → List Formula → Bool
  below book op sign args = has_rule book op sign && list_all (λ sets. all_covered sets (map (covers n book) args)) (rule_clauses book op sign)

  -- ---- covering

  abbrev StaysCovered : Formula → Type 0
  StaysCovered f = (sign : List ℕ) → covers n rules f sign ≡ true → covers n grown f sign ≡ true

  all_covered_grown : (sets : List (List ℕ)) (args : List Formula) → AllByRecursion StaysCovered args → all_covered sets (map (covers n rules) args) ≡ true → all_covered sets (map (covers n grown) args) ≡ true
  all_covered_grown [] args each cover = refl
  all_covered_grown (set ∷ sets) [] each cover = refl
  all_covered_grown (set ∷ sets) (arg ∷ args) each cover =
      let k = and_parts (covers n rules arg set) (all_covered sets (map (covers n rules) args)) cover in
      and_from (covers n grown arg set) (all_covered sets (map (covers n grown) args)) (each.0 set k.0) (all_covered_grown sets args each.1 k.1)

  each_covered_grown : (clauses : List (List (List ℕ))) (args : List Formula) → AllByRecursion StaysCovered args → list_all (λ sets. all_covered sets (map (covers n rules) args)) clauses ≡ true → list_all (λ sets. all_covered sets (map (covers n grown) args)) clauses ≡ true
  each_covered_grown [] args each cover = refl
  each_covered_grown (sets ∷ clauses) args each cover =
      let k = and_parts (all_covered sets (map (covers n rules) args)) (list_all (λ s. all_covered s (map (covers n rules) args)) clauses) cover in
      and_from (all_covered sets (map (covers n grown) args)) (list_all (λ s. all_covered s (map (covers n grown) args)) clauses) (all_covered_grown sets args each k.0) (each_covered_grown clauses args each k.1)

  below_grown : (op : ℕ) (sign : List ℕ) (args : List Formula) → AllByRecursion StaysCovered args → below rules op sign args ≡ true → below grown op sign args ≡ true
  below_grown op sign args each cover =
      let k = and_parts (has_rule rules op sign) (list_all (λ sets. all_covered sets (map (covers n rules) args)) (rule_clauses rules op sign)) cover in
      and_from (has_rule grown op sign) (list_all (λ sets. all_covered sets (map (covers n grown) args)) (rule_clauses grown op sign))
      (list_any-append (is_for op sign) rules more ∙ or_left (has_rule rules op sign) (has_rule more op sign) k.0)
      (ap (list_all (λ sets. all_covered sets (map (covers n grown) args))) (clauses_grown rules more op sign k.0) ∙ each_covered_grown (rule_clauses rules op sign) args each k.1)

  either_grown : (settled asked wider : Bool) → (asked ≡ true → wider ≡ true) → (settled || asked) ≡ true → (settled || wider) ≡ true
  either_grown true asked wider h cover = refl
  either_grown false asked wider h cover = h cover

  pub covers_grown : (f : Formula) → StaysCovered f
  covers_grown = formula_induction StaysCovered
      (λ p args sign cover. covers-Atom n grown p args sign)
      (λ op args each sign cover. covers-Op n grown op args sign ∙ either_grown (has_all n sign || not (has_member sign)) (below rules op sign args) (below grown op sign args) (below_grown op sign args each) (sym (covers-Op n rules op args sign) ∙ cover))
      (λ q body rest sign cover. covers-Quant n grown q body sign)

  -- ---- the clauses

  module _ (atoms : List Formula) where
    at_sign_same : (sign : List ℕ) (xs ys : List (List (List ℕ))) → (has_all n sign ≡ false → has_member sign ≡ true → xs ≡ ys) → at_sign n atoms sign xs ≡ at_sign n atoms sign ys
    at_sign_same sign xs ys same = pick (has_all n sign) (has_member sign) same where
      pick : (a b : Bool) → (a ≡ false → b ≡ true → xs ≡ ys) → cond a [] (cond b xs (no_items atoms ∷ [])) ≡ cond a [] (cond b ys (no_items atoms ∷ []))
      pick true b h = refl
      pick false true h = h refl refl
      pick false false h = refl

    abbrev StaysTranslated : Formula → Type 0
    StaysTranslated f = (sign : List ℕ) → covers n rules f sign ≡ true → translated n grown atoms f sign ≡ translated n rules atoms f sign

    choices_grown : (sets : List (List ℕ)) (args : List Formula) → AllByRecursion StaysTranslated args → all_covered sets (map (covers n rules) args) ≡ true → choices n atoms sets (map (translated n grown atoms) args) ≡ choices n atoms sets (map (translated n rules atoms) args)
    choices_grown [] args each cover = refl
    choices_grown (set ∷ sets) [] each cover = refl
    choices_grown (set ∷ sets) (arg ∷ args) each cover =
        let k = and_parts (covers n rules arg set) (all_covered sets (map (covers n rules) args)) cover in
        λ i. products n (each.0 set k.0 i) (choices_grown sets args each.1 k.1 i)

    flat_grown : (clauses : List (List (List ℕ))) (args : List Formula) → AllByRecursion StaysTranslated args → list_all (λ sets. all_covered sets (map (covers n rules) args)) clauses ≡ true
        → flat_map (λ sets. choices n atoms sets (map (translated n grown atoms) args)) clauses ≡ flat_map (λ sets. choices n atoms sets (map (translated n rules atoms) args)) clauses
    flat_grown [] args each cover = refl
    flat_grown (sets ∷ clauses) args each cover =
        let k = and_parts (all_covered sets (map (covers n rules) args)) (list_all (λ s. all_covered s (map (covers n rules) args)) clauses) cover in
        λ i. choices_grown sets args each k.0 i ++ flat_grown clauses args each k.1 i

    asked_of : (a b c : Bool) → ((a || not b) || c) ≡ true → a ≡ false → b ≡ true → c ≡ true
    asked_of false true c h open' some = h
    asked_of false false c h open' some = absurd (true≢false (sym some))
    asked_of true b c h open' some = absurd (true≢false open')

    pub translated_grown : (f : Formula) → StaysTranslated f
    translated_grown = formula_induction StaysTranslated
        (λ p args sign cover. translated-Atom n grown atoms p args sign ∙ sym (translated-Atom n rules atoms p args sign))
        (λ op args each sign cover. translated-Op n grown atoms op args sign
        ∙ at_sign_same sign (flat_map (λ sets. choices n atoms sets (map (translated n grown atoms) args)) (rule_clauses grown op sign)) (flat_map (λ sets. choices n atoms sets (map (translated n rules atoms) args)) (rule_clauses rules op sign)) (λ open' some.
        let k = and_parts (has_rule rules op sign) (list_all (λ sets. all_covered sets (map (covers n rules) args)) (rule_clauses rules op sign)) (asked_of (has_all n sign) (has_member sign) (below rules op sign args) (sym (covers-Op n rules op args sign) ∙ cover) open' some) in
        ap (flat_map (λ sets. choices n atoms sets (map (translated n grown atoms) args))) (clauses_grown rules more op sign k.0) ∙ flat_grown (rule_clauses rules op sign) args each k.1)
        ∙ sym (translated-Op n rules atoms op args sign))
        (λ q body rest sign cover. translated-Quant n grown atoms q body sign ∙ sym (translated-Quant n rules atoms q body sign))

-- ---- books that have kept their rules

module _ (n : ℕ) (old new : List OperatorRule) (kept : take (length old) new ≡ old) where
  longer : old ++ drop (length old) new ≡ new
  longer = sym (ap (λ l. l ++ drop (length old) new) kept) ∙ take-append-drop (length old) new

  pub covers_kept : (f : Formula) (sign : List ℕ) → covers n old f sign ≡ true → covers n new f sign ≡ true
  covers_kept f sign cover = ap (λ rules. covers n rules f sign) (sym longer) ∙ covers_grown n old (drop (length old) new) f sign cover

  pub least_kept : (f : Formula) (sign : List ℕ) (clauses : List (List SignedFormula)) → covers n old f sign ≡ true → AreLeastClauses n old f sign clauses → AreLeastClauses n new f sign clauses
  least_kept f sign clauses cover are =
      let same : translated n new (atoms_in f) f sign ≡ translated n old (atoms_in f) f sign = ap (λ rules. translated n rules (atoms_in f) f sign) (sym longer) ∙ translated_grown n old (drop (length old) new) (atoms_in f) f sign cover in
      record { rows = are.rows; least = subst (λ all. AreLeast n all are.rows) (sym same) are.least; same = are.same }
