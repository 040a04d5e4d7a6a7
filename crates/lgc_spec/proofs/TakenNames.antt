-- The names that are taken, kept as a set of their texts.
use Rattle.std.proofs.Common.{◌≡◌, ℕ, Bool, true, false, cond, not, ◌||◌, List, [], ◌∷◌, ◌++◌, refl, ◌∙◌}
use Rattle.std.specs.BTreeSet.{BTreeSet, contains, Updates}
use Rattle.std.specs.Cmp.Lexicographic.{slice_cmp}
use Rattle.std.specs.Ordering.{nat_cmp}
use Rattle.std.specs.Str.{bytes_eq}
use Rattle.std.proofs.Math.Bool.{not-not}
use Rattle.std.proofs.lemmas.List.Folds.{list_any-append}
use Rattle.std.proofs.lemmas.Map.Text.{is_eq-slice_cmp}
use denote.Ref.{Bor}
use Rattle.lgc_spec.specs.Words.{is_among}

-- the texts of the set are these names
abbrev pub AreTaken : BTreeSet (Bor (List ℕ)) → List (List ℕ) → Type 0
AreTaken taken names = (text : Bor (List ℕ)) → contains (λ x y. slice_cmp nat_cmp x.now y.now) taken text ≡ is_among names text.now

one_more : (here before : Bool) → cond here true before ≡ (before || (here || false))
one_more true true = refl
one_more true false = refl
one_more false true = refl
one_more false false = refl

-- a name more
pub taken_push : (old new : BTreeSet (Bor (List ℕ))) (names : List (List ℕ)) (name : Bor (List ℕ)) (text : List ℕ) → AreTaken old names → name.now ≡ text → Updates (λ x y. slice_cmp nat_cmp x.now y.now) old new name true → AreTaken new (names ++ text ∷ [])
taken_push old new names name text before is h other =
    h.0 other ∙ rw (← is, is_eq-slice_cmp name.now other.now, before other, list_any-append (λ n. bytes_eq n other.now) names (name.now ∷ [])) (one_more (bytes_eq name.now other.now) (is_among names other.now))

-- a text that is put in is new if it is none of the names
pub among_taken : (taken : BTreeSet (Bor (List ℕ))) (names : List (List ℕ)) (name : Bor (List ℕ)) (text : List ℕ) (is_new : Bool) → AreTaken taken names → name.now ≡ text → is_new ≡ not (contains (λ x y. slice_cmp nat_cmp x.now y.now) taken name) → is_among names text ≡ not is_new
among_taken taken names name text is_new before is new = rw (← is, new, not-not, before name) refl
