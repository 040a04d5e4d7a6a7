-- Sets of rows, and rules at signs.
use Rattle.std.proofs.Common.{◌≡◌, ℕ, ◌+◌, ◌<◌, ◌&&◌, ◌==◌, not, Bool, true, false, List, [], ◌∷◌, ◌++◌, length, take, ap, sym, ◌∙◌}
use Rattle.std.specs.Prelude.{bytes_eq}
use Rattle.std.specs.Bool.{Decides}
use Rattle.std.specs.Cmp.{both_ways}
use Rattle.std.specs.Int.{bit_at}
use Rattle.std.proofs.lemmas.Bool.{eqb-true, eq-eqb}
use Rattle.std.proofs.lemmas.List.{map_more}
use Rattle.std.proofs.lemmas.Slice.Eq.{bytes_eq-Decides}
use Rattle.lgc_values.specs.Values.{has, values_where, members_of, mask_of}
use Rattle.lgc_values.proofs.ValueLaws.{values_where-alike, has-members_of}
use Rattle.lgc_syntax.specs.declared.formula.Formula.{Formula, Atom}
use Rattle.lgc_syntax.specs.Equality.{same_formula}
use Rattle.lgc_clause_sets.specs.AtomClauses.{has_member}
use Rattle.lgc_clause_sets.proofs.MarkLaws.{has_member_from}
use Rattle.lgc_translate.specs.Translation.{no_items}

-- an atom's own set is the sign, and that of another atom is empty
pub item_law : (n mask : ℕ) (sign : List ℕ) (a atom : Formula) → sign ≡ members_of n mask → same_formula a atom ≡ true → sign ≡ values_where n (λ v. same_formula a atom && has sign v)
item_law n mask sign a atom is same = is ∙ sym (values_where-alike n (λ v. same_formula a atom && has sign v) (λ v. bit_at mask v == 1) (λ v lt. ap (λ t. t && has sign v) same ∙ ap (λ s. has s v) is ∙ has-members_of n mask v lt))

pub no_item_law : (n : ℕ) (sign : List ℕ) (a atom : Formula) → same_formula a atom ≡ false → values_where n (λ v. same_formula a atom && has sign v) ≡ values_where n (λ _. false)
no_item_law n sign a atom differ = values_where-alike n (λ v. same_formula a atom && has sign v) (λ _. false) (λ v lt. ap (λ t. t && has sign v) differ)

pub member_law : (empty : Bool) (set : List ℕ) → Decides empty (set ≡ []) → not empty ≡ has_member set
member_law empty set decides = sym (has_member_from empty set decides)

-- sets are the same where their masks are
pub same_set_law : (n a b : ℕ) (xs ys : List ℕ) → a ≡ mask_of xs → b ≡ mask_of ys → xs ≡ members_of n a → ys ≡ members_of n b → (a == b) ≡ bytes_eq xs ys
same_set_law n a b xs ys of_xs of_ys is is' = both_ways (a == b) (bytes_eq xs ys) (λ e. (bytes_eq-Decides xs ys).1 (is ∙ ap (members_of n) (eqb-true a b e) ∙ sym is')) (λ e. eq-eqb a b (of_xs ∙ ap mask_of ((bytes_eq-Decides xs ys).0 e) ∙ sym of_ys))

-- one more set without members
pub no_items_more : (atoms : List Formula) (i : ℕ) (old new : List (List ℕ)) (set : List ℕ) → i < length atoms → old ≡ no_items (take i atoms) → set ≡ [] → new ≡ old ++ set ∷ [] → new ≡ no_items (take (i + 1) atoms)
no_items_more atoms i old new set lt before none pushed = pushed ∙ (λ j. before j ++ none j ∷ []) ∙ sym (map_more (λ _. []) atoms i (Atom [] []) lt)
