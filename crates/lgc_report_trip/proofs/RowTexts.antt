-- Elements in a row, of any grammar, also with something between them.
use Rattle.std.proofs.Common.{◌≡◌, ◌≢◌, ℕ, Bool, true, false, List, [], ◌∷◌, ◌++◌, length, get_or, map, refl, sym, ap, subst, ◌∙◌, append-nil, append_assoc, length-append, arith}
use Rattle.std.specs.Prelude.{All, AllPairs}
use Rattle.std.specs.List.{flat_map, list_any}
use Rattle.std.proofs.lemmas.List.{get_or_append_left, get_or_at}
use Rattle.std.proofs.lemmas.List.Elements.{All-head, All-tail}
use Rattle.std.proofs.lemmas.List.Folds.{flat_map-map, list_any_none}
use Rattle.lgc_grammar.specs.Grammar.{Grammar, Then, Growing}
use Rattle.lgc_syntax.specs.declared.formula.Formula.{Formula}
use Rattle.lgc_syntax.specs.Equality.{same_formula}
use Rattle.lgc_syntax.proofs.EqualityLaws.{same_formula-Decides}
use Rattle.lgc_print.specs.Text.{joined}
use Rattle.lgc_formulas.specs.Setting.{Setting}
use Rattle.lgc_report_reader.specs.Reported.{Reported}
use Rattle.lgc_report_trip.proofs.Printed.{Printed, printed_then, printed_ended, printed_grown, printed_text, printed_tree}

-- each element is as P asks for, given those before it
abbrev pub EachBehind : {X : Type 0} → (List X → X → Type 0) → List X → List X → Type 0
EachBehind P before [] = Unit {0}
EachBehind P before (x ∷ xs) = P before x × EachBehind P (before ++ x ∷ []) xs

module _ (s : Setting) {X : Type 0} (F : List ℕ → Type 0) (text : X → List ℕ) (Next : List X → Grammar Reported (List X)) (P : List X → X → Type 0) (next : (before : List X) (x : X) → P before x → Printed s F (Next before) (before ++ x ∷ []) (text x)) (follows : (x : X) (more rest : List ℕ) → F ((text x ++ more) ++ rest)) where
  pub row_ends : (xs : List X) (rest : List ℕ) → F rest → F (flat_map text xs ++ rest)
  row_ends [] rest ends = ends
  row_ends (x ∷ xs) rest ends = follows x (flat_map text xs) rest

  pub row_printed : (before xs : List X) → EachBehind P before xs → Printed s F (Growing Next before) (before ++ xs) (flat_map text xs)
  row_printed before [] each = printed_ended s F Next before (before ++ []) (append-nil before)
  row_printed before (x ∷ xs) each =
      printed_grown s F F Next before (before ++ x ∷ []) (before ++ x ∷ xs) (text x) (flat_map text xs) (row_ends xs) (next before x each.0)
      (printed_tree s F (Growing Next (before ++ x ∷ [])) ((before ++ x ∷ []) ++ xs) (before ++ x ∷ xs) (flat_map text xs) (append_assoc before (x ∷ []) xs) (row_printed (before ++ x ∷ []) xs each.1))

-- a first element, and others with a separator before each
module _ (s : Setting) {X : Type 0} (F : List ℕ → Type 0) (separator : List ℕ) (text : X → List ℕ) (Next : List X → Grammar Reported (List X)) (P : List X → X → Type 0) (next : (before : List X) (x : X) → P before x → Printed s F (Next before) (before ++ x ∷ []) (separator ++ text x)) (follows : (rest : List ℕ) → F (separator ++ rest)) where
  abbrev behind : X → List ℕ
  behind x = separator ++ text x

  behind_follows : (x : X) (more rest : List ℕ) → F ((behind x ++ more) ++ rest)
  behind_follows x more rest = subst F (sym (ap (λ t. t ++ rest) (append_assoc separator (text x) more) ∙ append_assoc separator (text x ++ more) rest)) (follows ((text x ++ more) ++ rest))

  joined_is : (x : X) (xs : List X) → text x ++ flat_map behind xs ≡ joined separator (map text (x ∷ xs))
  joined_is x xs = ap (λ t. text x ++ t) (sym (flat_map-map (λ p. separator ++ p) text xs))

  pub list_printed : (First : Grammar Reported (List X)) (x : X) (xs : List X) → Printed s F First (x ∷ []) (text x) → EachBehind P (x ∷ []) xs → Printed s F (Then First (λ first. Growing Next first)) (x ∷ xs) (joined separator (map text (x ∷ xs)))
  list_printed First x xs first each =
      printed_text s F (Then First (λ found. Growing Next found)) (x ∷ xs) (text x ++ flat_map behind xs) (joined separator (map text (x ∷ xs))) (joined_is x xs)
      (printed_then s F F First (λ found. Growing Next found) (x ∷ []) (x ∷ xs) (text x) (flat_map behind xs) (row_ends s F behind Next P next behind_follows xs) first
      (row_printed s F behind Next P next behind_follows (x ∷ []) xs each))

  -- the same, and what closes the row
  pub list_closed : {B : Type 0} (G : List ℕ → Type 0) (First : Grammar Reported (List X)) (M : List X → Grammar Reported B) (b : B) (x : X) (xs : List X) (y : List ℕ) → ((rest : List ℕ) → G rest → F (y ++ rest)) → Printed s F First (x ∷ []) (text x) → EachBehind P (x ∷ []) xs → Printed s G (M (x ∷ xs)) b y → Printed s G (Then First (λ first. Then (Growing Next first) M)) b (joined separator (map text (x ∷ xs)) ++ y)
  list_closed {B} G First M b x xs y closes first each closing =
      let others : List ℕ = flat_map behind xs in
      let Others : List X → Grammar Reported B = λ found. Then (Growing Next found) M in
      printed_text s G (Then First Others) b (text x ++ (others ++ y)) (joined separator (map text (x ∷ xs)) ++ y) (sym (append_assoc (text x) others y) ∙ ap (λ t. t ++ y) (joined_is x xs))
      (printed_then s F G First Others (x ∷ []) b (text x) (others ++ y) (λ rest g. subst F (sym (append_assoc others y rest)) (row_ends s F behind Next P next behind_follows xs (y ++ rest) (closes rest g))) first
      (printed_then s F G (Growing Next (x ∷ [])) M (x ∷ xs) b others y closes (row_printed s F behind Next P next behind_follows (x ∷ []) xs each) closing))

-- what is true of each element, whatever is before it
pub each_is : {X : Type 0} (P : X → Type 0) (before xs : List X) → All P xs → EachBehind (λ _ x. P x) before xs
each_is P before [] all = tt
each_is P before (x ∷ xs) all = (All-head P x xs all, each_is P (before ++ x ∷ []) xs (All-tail P x xs all))

-- ---- elements whose formulas differ

module _ {X : Type 0} (key : X → Formula) where
  -- the formula of an element is none of those before it
  abbrev pub IsNew : List X → X → Type 0
  IsNew before x = list_any (λ y. same_formula (key x) (key y)) before ≡ false

  abbrev pub Differ : X → X → Type 0
  Differ x y = key x ≢ key y

  differs : (f g : Formula) → g ≢ f → same_formula f g ≡ false
  differs f g other = by (same_formula f g) refl
    where
      by : (b : Bool) → same_formula f g ≡ b → b ≡ false
      by true e = absurd (other (sym ((same_formula-Decides f g).0 e)))
      by false e = refl

  is_new : (before : List X) (x : X) (xs : List X) → AllPairs Differ (before ++ x ∷ xs) → IsNew before x
  is_new before x xs apart =
      list_any_none (λ y. same_formula (key x) (key y)) before (λ k d lt.
      let there : get_or (before ++ x ∷ xs) k d ≡ get_or before k d = get_or_append_left before (x ∷ xs) d k lt in
      let here : get_or (before ++ x ∷ xs) (length before) d ≡ x = get_or_at before x xs d (length before) refl in
      differs (key x) (key (get_or before k d)) (λ e. apart k (length before) d lt (omega (arith, length-append before (x ∷ xs))) (ap key there ∙ e ∙ sym (ap key here))))

  pub each_new : (P : X → Type 0) (before xs : List X) → AllPairs Differ (before ++ xs) → All P xs → EachBehind (λ b x. IsNew b x × P x) before xs
  each_new P before [] apart all = tt
  each_new P before (x ∷ xs) apart all = (
    (is_new before x xs apart, All-head P x xs all),
    each_new P (before ++ x ∷ []) xs (subst (AllPairs Differ) (sym (append_assoc before (x ∷ []) xs)) apart) (All-tail P x xs all),
  )
