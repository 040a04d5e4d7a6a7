-- Lines that are kept: a line is found by the key of its sequent, and where the key isn't there, no line says the same.
use Rattle.std.proofs.Common.{◌≡◌, ◌≢◌, inl, inr, nat_eq, ℕ, zero, suc, ◌+◌, ◌<◌, ◌≤◌, Bool, true, false, not, cond, List, [], ◌∷◌, ◌++◌, Some, length, map, take, get_or, slice_get, refl, sym, ap, subst, ◌∙◌, true≢false, arith}
use Rattle.std.specs.Prelude.{IsPermutation}
use Rattle.std.specs.List.{AllZip, list_any, range_with_len}
use Rattle.std.specs.Cmp.Lexicographic.{pointwise, bytes_decides}
use Rattle.std.proofs.lemmas.List.{length_push, length-map, length-take-le, map-append, map-id, take-map, get_or-map, get_or-take, get_or_push}
use Rattle.std.proofs.lemmas.List.Folds.{list_any_at}
use Rattle.std.proofs.lemmas.List.FromFn.{map-range_with_len_more, take-map-range_with_len}
use Rattle.std.proofs.lemmas.List.Quantifiers.{all_pairs_push}
use Rattle.std.proofs.lemmas.List.Sorted.{IsPermutation-refl, IsPermutation-sym, IsPermutation-trans}
use Rattle.std.proofs.lemmas.Option.{slice_get-get_or, slice_get_within, get_or_from_slice_get}
use Rattle.std.proofs.lemmas.Slice.Zip.{AllZip-long}
use Rattle.std.proofs.Math.Seq.{take-append_seam}
use Rattle.lgc_syntax.specs.declared.formula.Formula.{Formula}
use Rattle.lgc_sequents.specs.Signed.{SignedFormula}
use Rattle.lgc_sequents.specs.Lines.{PlainLine, sequent_at, sequent_of}
use Rattle.lgc_sequents.specs.declared.line.Reason.{Reason}
use Rattle.lgc_numbering.specs.Growth.{IsGrownBy}
use Rattle.lgc_numbering.specs.Numbering.{IsNumbering}
use Rattle.lgc_packed.specs.Packed.{IsPacked, unpacked}
use Rattle.lgc_packed.specs.Packing.{IsPackOf}
use Rattle.lgc_packed.proofs.PackLaws.{pack_grown}
use Rattle.lgc_packed.proofs.SequentLaws.{included_pairs}
use Rattle.lgc_packed.proofs.Same.{same_pairs}
use Rattle.lgc_proofs.specs.Alike.{AreAlike}
use Rattle.lgc_proofs.specs.Proofs.{AreDistinct, IsLineFor}
use Rattle.lgc_proofs.specs.Store.{key_of, HasKey, AreKept}
use Rattle.lgc_proofs.proofs.KeyLaws.{same_from_key}

-- ---- distinct lines

range_take : (a n k : ℕ) → k ≤ n → take k (range_with_len a n) ≡ range_with_len a k
range_take a n k le = ap (take k) (sym (map-id (range_with_len a n))) ∙ take-map-range_with_len (λ j. j) a n k le ∙ map-id (range_with_len a k)

pub range_more : (a n j : ℕ) → a + n ≡ j → range_with_len a (n + 1) ≡ range_with_len a n ++ j ∷ []
range_more a n j e = sym (map-id (range_with_len a (n + 1))) ∙ map-range_with_len_more (λ k. k) a n j e ∙ ap (λ ks. ks ++ j ∷ []) (map-id (range_with_len a n))

-- one more line with the next number, which says what no other one does
distinct_more : (lines : List PlainLine) (line : PlainLine) → AreDistinct lines → line.number ≡ length lines + 1 → ((k : ℕ) (d : PlainLine) → k < length lines → AreAlike (get_or lines k d).sequent line.sequent → ⊥) → AreDistinct (lines ++ line ∷ [])
distinct_more lines line distinct number new = record {
  numbers =
      map-append (λ l. l.number) lines (line ∷ [])
      ∙ ap (λ ns. ns ++ line.number ∷ []) distinct.numbers
      ∙ sym (range_more 1 (length lines) line.number (omega (arith, number)))
      ∙ ap (range_with_len 1) (sym (length_push lines line));
  differ = all_pairs_push (λ a b. AreAlike a.sequent b.sequent → ⊥) lines line distinct.differ new;
}

distinct_first : (lines : List PlainLine) (count : ℕ) → count ≤ length lines → AreDistinct lines → AreDistinct (take count lines)
distinct_first lines count le distinct = record {
  numbers =
      sym (take-map (λ l. l.number) count lines)
      ∙ ap (take count) distinct.numbers
      ∙ range_take 1 (length lines) count le
      ∙ ap (range_with_len 1) (sym (length-take-le count lines le));
  differ = λ i j d lt within alike.
      let long = length-take-le count lines le in
      let j_lt : j < count = omega (arith, within, long) in
      let i_lt : i < count = omega (arith, lt, j_lt) in
      let first = ap (λ l. l.sequent) (get_or-take count lines i d i_lt) in
      let second = ap (λ l. l.sequent) (get_or-take count lines j d j_lt) in
      distinct.differ i j d lt (omega (arith, j_lt, le)) (subst (λ s. AreAlike s (get_or lines j d).sequent) first (subst (AreAlike (get_or (take count lines) i d).sequent) second alike));
}

-- ---- keys

module _ (n : ℕ) where
  key_at : (formulas : List Formula) (lines : List PlainLine) (keys : List (List ℕ)) (k : ℕ) (d : PlainLine) (e : List ℕ) → AllZip (HasKey n formulas) lines keys → k < length lines → HasKey n formulas (get_or lines k d) (get_or keys k e)
  key_at formulas [] keys k d e keyed lt = absurd (omega (arith, lt))
  key_at formulas (line ∷ lines) [] k d e keyed lt = absurd keyed
  key_at formulas (line ∷ lines) (key ∷ keys) zero d e keyed lt = keyed.0
  key_at formulas (line ∷ lines) (key ∷ keys) (suc k) d e keyed lt = key_at formulas lines keys k d e keyed.1 (omega (arith, lt))

  keyed_more : (formulas : List Formula) (lines : List PlainLine) (keys : List (List ℕ)) (line : PlainLine) (key : List ℕ) → AllZip (HasKey n formulas) lines keys → HasKey n formulas line key → AllZip (HasKey n formulas) (lines ++ line ∷ []) (keys ++ key ∷ [])
  keyed_more formulas [] [] line key keyed has = (has, tt)
  keyed_more formulas [] (k ∷ keys) line key keyed has = absurd keyed
  keyed_more formulas (l ∷ lines) [] line key keyed has = absurd keyed
  keyed_more formulas (l ∷ lines) (k ∷ keys) line key keyed has = (keyed.0, keyed_more formulas lines keys line key keyed.1 has)

  keyed_first : (formulas : List Formula) (lines : List PlainLine) (keys : List (List ℕ)) (count : ℕ) → AllZip (HasKey n formulas) lines keys → AllZip (HasKey n formulas) (take count lines) (take count keys)
  keyed_first formulas lines keys zero keyed = tt
  keyed_first formulas [] [] (suc count) keyed = tt
  keyed_first formulas [] (k ∷ keys) (suc count) keyed = absurd keyed
  keyed_first formulas (l ∷ lines) [] (suc count) keyed = absurd keyed
  keyed_first formulas (l ∷ lines) (k ∷ keys) (suc count) keyed = (keyed.0, keyed_first formulas lines keys count keyed.1)

  key_grown : (P : Formula → Type 0) (old new : List Formula) (line : PlainLine) (key : List ℕ) → IsGrownBy P old new → HasKey n old line key → HasKey n new line key
  key_grown P old new line key more has = record { pairs = has.pairs; packed = has.packed; is = pack_grown P old new line.sequent has.pairs more has.is; coded = has.coded }

  keyed_grown : (P : Formula → Type 0) (old new : List Formula) (lines : List PlainLine) (keys : List (List ℕ)) → IsGrownBy P old new → AllZip (HasKey n old) lines keys → AllZip (HasKey n new) lines keys
  keyed_grown P old new [] [] more keyed = tt
  keyed_grown P old new [] (key ∷ keys) more keyed = absurd keyed
  keyed_grown P old new (line ∷ lines) [] more keyed = absurd keyed
  keyed_grown P old new (line ∷ lines) (key ∷ keys) more keyed = (key_grown P old new line key more keyed.0, keyed_grown P old new lines keys more keyed.1)

  -- lines that say the same have one key
  same_key : (formulas : List Formula) → IsNumbering formulas → (a b : PlainLine) (key other : List ℕ) → HasKey n formulas a key → HasKey n formulas b other → AreAlike a.sequent b.sequent → key ≡ other
  same_key formulas numbering a b key other is is' alike =
      let there = included_pairs n formulas numbering a.sequent b.sequent is.pairs is'.pairs is.is is'.is alike.left in
      let back = included_pairs n formulas numbering b.sequent a.sequent is'.pairs is.pairs is'.is is.is alike.right in
      is.coded ∙ ap key_of (same_pairs n is.pairs is'.pairs is.packed is'.packed there back) ∙ sym is'.coded

  -- lines with one key have the same items
  same_items : (formulas : List Formula) (a b : PlainLine) (key other : List ℕ) → HasKey n formulas a key → HasKey n formulas b other → key ≡ other → IsPermutation a.sequent b.sequent
  same_items formulas a b key other is is' same =
      let pairs : is.pairs ≡ is'.pairs = same_from_key n is.pairs is'.pairs is.packed is'.packed (sym is.coded ∙ same ∙ is'.coded) in
      IsPermutation-trans a.sequent (unpacked formulas is'.pairs) b.sequent (subst (λ ps. IsPermutation a.sequent (unpacked formulas ps)) pairs is.is.same) (IsPermutation-sym b.sequent (unpacked formulas is'.pairs) is'.is.same)

-- ---- what is kept

-- more formulas leave the keys
pub kept_grown : {V : Type 0} (items : V → List ℕ) (P : Formula → Type 0) (n : ℕ) (old new : List Formula) (lines : List PlainLine) (vs after : List V) → IsGrownBy P old new → after ≡ vs → AreKept n old lines (map items vs) → AreKept n new lines (map items after)
kept_grown items P n old new lines vs after more same kept =
    subst (λ us. AreKept n new lines (map items us)) (sym same) (record { keyed = keyed_grown n P old new lines (map items vs) more kept.keyed; distinct = kept.distinct })

pub kept_count : {V : Type 0} (items : V → List ℕ) (n : ℕ) (formulas : List Formula) (lines : List PlainLine) (vs : List V) → AreKept n formulas lines (map items vs) → length vs ≡ length lines
kept_count items n formulas lines vs kept = sym (length-map vs items) ∙ AllZip-long (HasKey n formulas) lines (map items vs) kept.keyed

pub kept_first : {V : Type 0} (items : V → List ℕ) (n : ℕ) (formulas : List Formula) (lines first : List PlainLine) (vs after : List V) (count : ℕ) → count ≤ length lines → first ≡ take count lines → after ≡ take count vs
    → AreKept n formulas lines (map items vs) → AreKept n formulas first (map items after)
kept_first items n formulas lines first vs after count le is is_after kept =
    subst (λ ls. AreKept n formulas ls (map items after)) (sym is) (record {
      keyed = subst (AllZip (HasKey n formulas) (take count lines)) (take-map items count vs ∙ ap (map items) (sym is_after)) (keyed_first n formulas lines (map items vs) count kept.keyed);
      distinct = distinct_first lines count le kept.distinct;
    })

-- ---- as the set of keys has them

-- what is made of the keys, where a key is put among them if it isn't there
pub inserted : {V : Type 0} (there new : Bool) (vs after : List V) (v : V) → after ≡ cond there vs (vs ++ v ∷ []) → new ≡ not there → (new ≡ false → after ≡ vs) × (new ≡ true → (after ≡ vs ++ v ∷ []) × (there ≡ false))
inserted true new vs after v made told = (λ _. made, λ fresh. cc)
inserted false new vs after v made told = (λ old. cc, λ _. (made, refl))

-- a key that is taken back
pub taken_back : {V : Type 0} (vs after back : List V) (v : V) (count : ℕ) → after ≡ vs ++ v ∷ [] → count ≡ length vs → back ≡ take count after → back ≡ vs
taken_back vs after back v count more long is = is ∙ (λ i. take (long i) (more i)) ∙ take-append_seam vs (v ∷ [])

-- a key that isn't there is no line's
absent : {V : Type 0} (items : V → List ℕ) (vs : List V) (key : List ℕ) → list_any (λ w. pointwise nat_eq key (items w)) vs ≡ false → (k : ℕ) (e : List ℕ) → k < length vs → get_or (map items vs) k e ≢ key
absent {V} items [] key none k e lt same = absurd (omega (arith, lt))
absent {V} items (v ∷ vs) key none k e lt same =
    let here : items (get_or (v ∷ vs) k v) ≡ key = sym (get_or-map items (v ∷ vs) k v e lt) ∙ same in
    true≢false (sym (list_any_at (λ w. pointwise nat_eq key (items w)) (v ∷ vs) k v lt ((bytes_decides key (items (get_or (v ∷ vs) k v))).1 (sym here))) ∙ none)

module _ {V : Type 0} (items : V → List ℕ) (n : ℕ) (formulas : List Formula) (lines : List PlainLine) (vs after : List V) (v : V) (pairs : List (ℕ × List ℕ)) (sequent : List SignedFormula) (reason : Reason) (new : Bool)
    (kept : AreKept n formulas lines (map items vs)) (packed : IsPacked n pairs) (is : IsPackOf formulas sequent pairs) (key : items v ≡ key_of pairs)
    (made : after ≡ cond (list_any (λ w. pointwise nat_eq (items v) (items w)) vs) vs (vs ++ v ∷ [])) (told : new ≡ not (list_any (λ w. pointwise nat_eq (items v) (items w)) vs)) where
  count : length vs ≡ length lines
  count = kept_count items n formulas lines vs kept

  abbrev line_of : ℕ → PlainLine
  line_of number = record { number = number; sequent = sequent; reason = reason }

  has_key : (number : ℕ) → HasKey n formulas (line_of number) (items v)
  has_key number = record { pairs = pairs; packed = packed; is = is; coded = key }

  -- a key that was there is that of a line with these items
  pub line_found : (place : ℕ) (w : V) → new ≡ false → slice_get after place ≡ Some w → pointwise nat_eq (items v) (items w) ≡ true → IsLineFor lines lines sequent reason (place + 1)
  line_found place w old at same = record { line = record { stands = (omega arith, omega (arith, lt)); same = subst (λ s. IsPermutation s sequent) (sym there) permuted }; grown = inl refl } where
    kept_keys : after ≡ vs
    kept_keys = (inserted (list_any (λ u. pointwise nat_eq (items v) (items u)) vs) new vs after v made told).0 old

    here : slice_get vs place ≡ Some w
    here = ap (λ us. slice_get us place) (sym kept_keys) ∙ at

    in_keys : place < length vs
    in_keys = slice_get_within vs place w here

    lt : place < length lines
    lt = omega (arith, in_keys, count)

    line : PlainLine
    line = get_or lines place (line_of 0)

    key_same : get_or (map items vs) place [] ≡ items v
    key_same = get_or-map items vs place w [] in_keys ∙ ap items (get_or_from_slice_get vs place w w here) ∙ sym ((bytes_decides (items v) (items w)).0 same)

    permuted : IsPermutation line.sequent sequent
    permuted = same_items n formulas line (line_of 0) (get_or (map items vs) place []) (items v) (key_at n formulas lines (map items vs) place (line_of 0) [] kept.keyed lt) (has_key 0) key_same

    there : sequent_at lines (place + 1) ≡ line.sequent
    there = let next : place + 1 ≡ suc place = omega arith in ap (sequent_at lines) next ∙ ap sequent_of (slice_get-get_or lines place (line_of 0) lt)

  module _ (fresh : new ≡ true) (numbering : IsNumbering formulas) (lines_after : List PlainLine) (pushed : lines_after ≡ lines ++ line_of (length lines + 1) ∷ []) where
    -- a new key is put behind the others with the line
    pub kept_more : AreKept n formulas lines_after (map items after)
    kept_more = subst (λ ls. AreKept n formulas ls (map items after)) (sym pushed) (subst (AreKept n formulas (lines ++ line ∷ [])) (sym keys_after) (record {
      keyed = keyed_more n formulas lines (map items vs) line (items v) kept.keyed (has_key (length lines + 1));
      distinct = distinct_more lines line kept.distinct refl (λ k d lt alike.
          absent items vs (items v) put.1 k [] (omega (arith, lt, count))
          (same_key n formulas numbering (get_or lines k d) line (get_or (map items vs) k []) (items v) (key_at n formulas lines (map items vs) k d [] kept.keyed lt) (has_key (length lines + 1)) alike));
    })) where
      line : PlainLine
      line = line_of (length lines + 1)

      put : (after ≡ vs ++ v ∷ []) × (list_any (λ u. pointwise nat_eq (items v) (items u)) vs ≡ false)
      put = (inserted (list_any (λ u. pointwise nat_eq (items v) (items u)) vs) new vs after v made told).1 fresh

      keys_after : map items after ≡ map items vs ++ items v ∷ []
      keys_after = ap (map items) put.0 ∙ map-append items vs (v ∷ [])

-- the line that is appended
pub line_last : (lines lines_after : List PlainLine) (sequent : List SignedFormula) (reason : Reason) → lines_after ≡ lines ++ record { number = length lines + 1; sequent = sequent; reason = reason } ∷ [] → IsLineFor lines lines_after sequent reason (length lines + 1)
line_last lines lines_after sequent reason pushed = subst (λ ls. IsLineFor lines ls sequent reason (length lines + 1)) (sym pushed) (record {
  line = record { stands = (omega arith, omega (arith, long)); same = subst (λ s. IsPermutation s sequent) (sym there) (IsPermutation-refl sequent) };
  grown = inr refl;
}) where
  line : PlainLine
  line = record { number = length lines + 1; sequent = sequent; reason = reason }

  long : length (lines ++ line ∷ []) ≡ length lines + 1
  long = length_push lines line

  there : sequent_at (lines ++ line ∷ []) (length lines + 1) ≡ sequent
  there =
      let next : length lines + 1 ≡ suc (length lines) = omega arith in
      ap (sequent_at (lines ++ line ∷ [])) next
      ∙ ap sequent_of (slice_get-get_or (lines ++ line ∷ []) (length lines) line (omega (arith, long)) ∙ ap (λ l. Some l) (get_or_push lines line line (length lines) refl))
