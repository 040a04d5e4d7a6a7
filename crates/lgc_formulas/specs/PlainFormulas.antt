-- The plain language of formulas: the same lines, without trees, and whether or not they keep the rules.
use Rattle.std.specs.Prelude.{◌≡◌, ℕ, Bool, true, List, [], ◌∷◌, ◌++◌}
use Rattle.lgc_grammar.specs.Grammar.{Language, PlainOne, PlainThen, PlainMany}
use Rattle.lgc_grammar.specs.Seen.{PlainSeen}
use Rattle.lgc_grammar.specs.Unless.{PlainUnless}
use Rattle.lgc_tokens.specs.declared.class.Class.TheVariants.{Upper, OpenRound, CloseRound, Comma}
use Rattle.lgc_formulas.specs.declared.formula.Read.{Read}
use Rattle.lgc_formulas.specs.Named.{Named, is, is_number, is_quantifier, is_predicate, is_hash, starts_operator}
use Rattle.lgc_formulas.specs.Setting.{Setting, numbered}
use Rattle.lgc_formulas.specs.PlainTerms.{PlainTerms}
use Rattle.lgc_formulas.specs.FormulaGrammar.{OneFormula}

-- `numbered` where formulas have numbers
module _ (numbered : Bool) where
  mutual
    -- formula = operator [ "(" formula { "," formula } ")" ]
    --         | quantifier "(" Upper "," formula ")"
    --         | "#" number
    --         | Lower [ "(" term { "," term } ")" ]
    pub data PlainFormula : List Named → Type 0 where
      operator : (t : Named) (ts : List Named) → starts_operator t ≡ true → PlainOperands ts → PlainFormula (t ∷ ts)
      quantified : (q o x c : Named) (v : List Named) (z : Named) → is_quantifier q ≡ true → is OpenRound o ≡ true → is Upper x ≡ true → is Comma c ≡ true → PlainFormula v → is CloseRound z ≡ true → PlainFormula (q ∷ (o ∷ (x ∷ (c ∷ (v ++ z ∷ [])))))
      hash : (h n : Named) → is_hash numbered h ≡ true → is_number n ≡ true → PlainFormula (h ∷ (n ∷ []))
      atom : (t : Named) (ts : List Named) → is_predicate t ≡ true → PlainSeen (λ (u : Named). u.spelled) PlainTerms ts → PlainFormula (t ∷ ts)

    -- [ "(" formula { "," formula } ")" ]
    pub data PlainOperands : List Named → Type 0 where
      no_operands : PlainOperands []
      some_operands : (o : Named) (v w : List Named) → is OpenRound o ≡ true → PlainFormula v → PlainMoreOperands w → PlainOperands (o ∷ (v ++ w))

    -- { "," formula } ")"
    pub data PlainMoreOperands : List Named → Type 0 where
      closed : (t : Named) → is CloseRound t ≡ true → PlainMoreOperands (t ∷ [])
      another : (t : Named) (v w : List Named) → is Comma t ≡ true → PlainFormula v → PlainMoreOperands w → PlainMoreOperands (t ∷ (v ++ w))

-- whole texts, which aren't bare
abbrev pub PlainWholeFormula : Setting → ℕ → Language Named
PlainWholeFormula s many = PlainUnless (λ (x : Read). x.is_bare) (OneFormula s many) (PlainFormula (numbered s))

-- "," formula
abbrev pub PlainCommaFormula : Bool → Language Named
PlainCommaFormula numbered = PlainThen (PlainOne (is Comma)) (PlainFormula numbered)

-- formula { "," formula }
abbrev pub PlainFormulaList : Bool → Language Named
PlainFormulaList numbered = PlainThen (PlainFormula numbered) (PlainMany (PlainCommaFormula numbered))
