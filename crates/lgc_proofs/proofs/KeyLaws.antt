-- Sequents over numbers are the same where their keys are.
use Rattle.std.proofs.Common.{◌≡◌, ℕ, ◌≤◌, List, [], ◌∷◌, refl, sym, ap, ◌∙◌}
use Rattle.std.specs.Prelude.{All}
use Rattle.std.proofs.lemmas.List.Elements.{All-head, All-tail}
use Rattle.lgc_values.specs.declared.TheConstants.{MOST_VALUES}
use Rattle.lgc_values.specs.Values.{mask_of, members_of}
use Rattle.lgc_values.specs.Masks.{mask_of-members_of}
use Rattle.lgc_values.proofs.ValueLaws.{mask_for}
use Rattle.lgc_sequents.specs.Sequents.{IsSign}
use Rattle.lgc_packed.specs.Packed.{IsPacked}
use Rattle.lgc_packed.proofs.InclusionLaws.{member_below}
use Rattle.lgc_proofs.specs.Store.{key_of}

module _ (n : ℕ) (few : n ≤ MOST_VALUES) where
  -- a set is the one that its mask tells
  set_of_mask : (set : List ℕ) → IsSign n set → members_of n (mask_of set) ≡ set
  set_of_mask set is =
      let mask = mask_for n few set (λ v member. member_below n set v is member) in
      let same : set ≡ members_of n mask.0 = is.set ∙ sym mask.2 in
      ap (members_of n) (ap mask_of same ∙ mask_of-members_of n mask.0 mask.1) ∙ sym same

  same_set : (s t : List ℕ) → IsSign n s → IsSign n t → mask_of s ≡ mask_of t → s ≡ t
  same_set s t is_s is_t same = sym (set_of_mask s is_s) ∙ ap (members_of n) same ∙ set_of_mask t is_t

  same_pairs : (xs ys : List (ℕ × List ℕ)) → All (λ pair. IsSign n pair.1) xs → All (λ pair. IsSign n pair.1) ys → key_of xs ≡ key_of ys → xs ≡ ys
  same_pairs [] [] signs_xs signs_ys same = refl
  same_pairs [] (y ∷ ys) signs_xs signs_ys same = cc
  same_pairs (x ∷ xs) [] signs_xs signs_ys same = cc
  same_pairs (x ∷ xs) (y ∷ ys) signs_xs signs_ys same =
      let number : x.0 ≡ y.0 = cc in
      let masks : mask_of x.1 ≡ mask_of y.1 = cc in
      let keys : key_of xs ≡ key_of ys = cc in
      let sign : x.1 ≡ y.1 = same_set x.1 y.1 (All-head (λ pair. IsSign n pair.1) x xs signs_xs) (All-head (λ pair. IsSign n pair.1) y ys signs_ys) masks in
      let rest : xs ≡ ys = same_pairs xs ys (All-tail (λ pair. IsSign n pair.1) x xs signs_xs) (All-tail (λ pair. IsSign n pair.1) y ys signs_ys) keys in
      λ j. (number j, sign j) ∷ rest j

-- sequents over numbers with one key are the same
pub same_from_key : (n : ℕ) (pairs others : List (ℕ × List ℕ)) → IsPacked n pairs → IsPacked n others → key_of pairs ≡ key_of others → pairs ≡ others
same_from_key n pairs others packed packed_others same = same_pairs n packed.sized.high pairs others packed.signs packed_others.signs same
