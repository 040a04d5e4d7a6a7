-- The plain language of terms: the same lines, without trees, and whether or not they keep the rules.
use Rattle.std.specs.Prelude.{◌≡◌, true, List, [], ◌∷◌, ◌++◌}
use Rattle.lgc_tokens.specs.declared.class.Class.TheVariants.{Upper, OpenRound, CloseRound, Comma}
use Rattle.lgc_tokens.specs.Spelled.{Spelled}
use Rattle.lgc_tokens.specs.Classes.{is, is_word}

mutual
  -- term = Upper | Lower [ "(" term { "," term } ")" ]
  pub data PlainTerm : List Spelled → Type 0 where
    upper : (t : Spelled) → is Upper t ≡ true → PlainTerm (t ∷ [])
    lower : (t : Spelled) (ts : List Spelled) → is_word t ≡ true → PlainTerms ts → PlainTerm (t ∷ ts)

  -- [ "(" term { "," term } ")" ]
  pub data PlainTerms : List Spelled → Type 0 where
    no_terms : PlainTerms []
    some_terms : (o : Spelled) (v w : List Spelled) → is OpenRound o ≡ true → PlainTerm v → PlainMoreTerms w → PlainTerms (o ∷ (v ++ w))

  -- { "," term } ")"
  pub data PlainMoreTerms : List Spelled → Type 0 where
    closed : (t : Spelled) → is CloseRound t ≡ true → PlainMoreTerms (t ∷ [])
    another : (t : Spelled) (v w : List Spelled) → is Comma t ≡ true → PlainTerm v → PlainMoreTerms w → PlainMoreTerms (t ∷ (v ++ w))
