-- A compound taken out of a goal, and the premises for the clauses of its rule.
use Rattle.std.proofs.Common.{◌≡◌, ◌≢◌, ℕ, zero, suc, ◌+◌, ◌*◌, ◌-◌, ◌^◌, ◌<◌, ◌≤◌, Bool, List, [], ◌∷◌, ◌++◌, map, length, get_or, slice_get, take, drop, Some, Ok, Err, refl, sym, ◌∙◌, ap, subst, arith}
use Rattle.std.specs.Prelude.{All, IfOk, Result}
use Rattle.std.specs.List.{remove, zip}
use Rattle.std.proofs.Math.Nat.{pow-suc, one-le-pow, pow-le-pow_right}
use Rattle.std.proofs.lemmas.Grind.{common_steps}
use Rattle.std.proofs.lemmas.List.Elements.{All-cons, All-head, All-tail, All-append, All-take, All-drop}
use Rattle.std.proofs.lemmas.Option.{get_or_from_slice_get, slice_get_within, unwrap_or-slice_get}
use Rattle.lgc_values.specs.declared.matrix.Operator.{Operator}
use Rattle.lgc_values.specs.Logic.{Logic, IsLogic, IsOperator, operator_at}
use Rattle.lgc_sequents.specs.Sequents.{union}
use Rattle.lgc_numbering.specs.declared.node.Node.{Node}
use Rattle.lgc_numbering.specs.declared.node.Node.TheVariants.{Compound}
use Rattle.lgc_packed.specs.Packed.{IsPacked, added, added_all, total, weight_of}
use Rattle.lgc_packed.proofs.Rising.{All-joined}
use Rattle.lgc_packed.proofs.Weights.{weight_of-added_all, weight_of-remove, weight_of-zip}
use Rattle.lgc_lemmas.specs.Nodes.{IsCompound, AreNodes, HasNumbersBelow, IsCompoundAt}
use Rattle.lgc_lemmas.proofs.Truth.{all_at}
use Rattle.lgc_lemmas.proofs.Refuting.{node_there, numbers_up}
use Rattle.lgc_search.specs.Search.{weight}

-- ---- weights
total_most : (k : ℕ) (arguments : List ℕ) → All (λ a. a < suc k) arguments → total weight arguments ≤ length arguments * 5 ^ k
total_most k [] all = omega arith
total_most k (a ∷ arguments) all =
    let here : 5 ^ a ≤ 5 ^ k = pow-le-pow_right (omega arith) (omega (arith, All-head (λ b. b < suc k) a arguments all)) in
    let more : suc (length arguments) * 5 ^ k ≡ 5 ^ k + length arguments * 5 ^ k = grind (arith, common_steps) in
    omega (arith, here, more, total_most k arguments (All-tail (λ b. b < suc k) a arguments all))

four_most : (m p : ℕ) → m ≤ 4 → m * p ≤ 4 * p
four_most zero p l = omega arith
four_most (suc zero) p l = omega arith
four_most (suc (suc zero)) p l = omega arith
four_most (suc (suc (suc zero))) p l = omega arith
four_most (suc (suc (suc (suc zero)))) p l = omega arith
four_most (suc (suc (suc (suc (suc m))))) p l = absurd (omega (arith, l))

-- a formula outweighs its arguments
arguments_fall : (k : ℕ) (arguments : List ℕ) → length arguments ≤ 4 → All (λ a. a < k) arguments → total weight arguments < weight k
arguments_fall zero [] l all = omega arith
arguments_fall zero (a ∷ arguments) l all = absurd (omega (arith, All-head (λ b. b < 0) a arguments all))
arguments_fall (suc k) arguments l all =
    let positive : 1 ≤ 5 ^ k = one-le-pow k 5 (omega arith) in
    let whole : 5 ^ suc k ≡ 5 ^ k * 5 = pow-suc 5 k in
    omega (arith, total_most k arguments all, four_most (length arguments) (5 ^ k) l, positive, whole)

-- ---- the rest of a goal
abbrev no_operator : Operator
no_operator = record { name = []; arity = 0; table = [] }

arity_most : (logic : Logic) (op : ℕ) → IsLogic logic → op < length logic.operators → (operator_at logic op).arity ≤ 4
arity_most logic op is known = let right : IsOperator logic.size (operator_at logic op) = subst (IsOperator logic.size) (sym (unwrap_or-slice_get logic.operators op no_operator)) (is.operators op no_operator known) in omega (arith, right.narrow)

module _ (logic : Logic) (nodes : List Node) (goal pairs : List (ℕ × List ℕ)) (at : ℕ) (d : ℕ × List ℕ) (are_nodes : AreNodes logic nodes) (numbers : HasNumbersBelow (length nodes) goal) (there : IsCompoundAt nodes goal at) (same : pairs ≡ goal)
    (node : Node) (read : node ≡ get_or nodes (get_or pairs at d).0 node) (op : ℕ) (written : List ℕ) (node_is : node ≡ Compound op written) where
  principal_is : (get_or pairs at d).0 ≡ there.number
  principal_is = ap (λ pair. pair.0) (get_or_from_slice_get pairs at (there.number, there.sign) d (ap (λ (xs : List (ℕ × List ℕ)). slice_get xs at) same ∙ there.is))

  within : there.number < length nodes
  within = all_at (λ (pair : ℕ × List ℕ). pair.0 < length nodes) goal at (there.number, there.sign) numbers there.is

  compound : slice_get nodes there.number ≡ Some (Compound op written)
  compound = node_there nodes there.number node within (read ∙ ap (λ k. get_or nodes k node) principal_is) ∙ ap Some node_is

  parts : IsCompound logic there.number op written
  parts = are_nodes there.number op written compound

  pub opened_known : op < length logic.operators
  opened_known = parts.known

  pub opened_arguments : (arguments : List ℕ) → arguments ≡ written → All (λ a. a < length nodes) arguments
  opened_arguments arguments e = subst (λ (xs : List ℕ). All (λ a. a < length nodes) xs) (sym e) (numbers_up there.number (length nodes) written (omega (arith, within)) parts.before)

  pub opened_falls : (arguments : List ℕ) (rest : List (ℕ × List ℕ)) → IsLogic logic → arguments ≡ written → rest ≡ remove goal at → 2 * (weight_of weight rest + total weight arguments) + 1 < 2 * weight_of weight goal
  opened_falls arguments rest is e left =
      omega (arith, weight_of-remove weight goal at (there.number, there.sign) there.is, ap (weight_of weight) left, ap (total weight) e, arguments_fall there.number written (omega (arith, parts.arity, arity_most logic op is parts.known)) parts.before)

pub rest_numbers : (count : ℕ) (goal rest : List (ℕ × List ℕ)) (at : ℕ) → HasNumbersBelow count goal → rest ≡ remove goal at → HasNumbersBelow count rest
rest_numbers count goal rest at numbers left =
    subst (HasNumbersBelow count) (sym left) (All-append (λ (pair : ℕ × List ℕ). pair.0 < count) (take at goal) (drop (suc at) goal) (All-take (λ pair. pair.0 < count) at goal numbers) (All-drop (λ pair. pair.0 < count) (suc at) goal numbers))

pub sign_nonempty : (n : ℕ) (goal pairs : List (ℕ × List ℕ)) (at : ℕ) (d e : ℕ × List ℕ) → IsPacked n goal → pairs ≡ goal → slice_get goal at ≡ Some d → (get_or pairs at e).1 ≢ []
sign_nonempty n goal pairs at d e packed same here none =
    (packed.signs at e (slice_get_within goal at d here)).nonempty (ap (λ (xs : List (ℕ × List ℕ)). (get_or xs at e).1) (sym same) ∙ none)

-- ---- premises
numbers_added : (count n : ℕ) (others pairs : List (ℕ × List ℕ)) → HasNumbersBelow count others → HasNumbersBelow count pairs → HasNumbersBelow count (added_all n others pairs)
numbers_added count n [] pairs below all = all
numbers_added count n (x ∷ others) pairs below all =
    numbers_added count n others (added n x.0 x.1 pairs) (All-tail (λ pair. pair.0 < count) x others below) (one x.1)
  where
    one : (sign : List ℕ) → HasNumbersBelow count (added n x.0 sign pairs)
    one [] = all
    one (v ∷ sign) = All-joined (λ pair. pair.0 < count) n x.0 (v ∷ sign) pairs (All-head (λ pair. pair.0 < count) x others below) (λ y _ _. All-head (λ pair. pair.0 < count) x others below) all

numbers_zip : (count : ℕ) (arguments : List ℕ) (sets : List (List ℕ)) → All (λ a. a < count) arguments → HasNumbersBelow count (zip arguments sets)
numbers_zip count [] sets all = λ i d l. absurd (omega (arith, l))
numbers_zip count (a ∷ arguments) [] all = λ i d l. absurd (omega (arith, l))
numbers_zip count (a ∷ arguments) (s ∷ sets) all = All-cons (λ pair. pair.0 < count) (a, s) (zip arguments sets) (All-head (λ b. b < count) a arguments all) (numbers_zip count arguments sets (All-tail (λ b. b < count) a arguments all))

pub premise_numbers : (count n : ℕ) (arguments : List ℕ) (sets : List (List ℕ)) (rest premise : List (ℕ × List ℕ)) → All (λ a. a < count) arguments → HasNumbersBelow count rest → premise ≡ added_all n (zip arguments sets) rest → HasNumbersBelow count premise
premise_numbers count n arguments sets rest premise below all made = subst (HasNumbersBelow count) (sym made) (numbers_added count n (zip arguments sets) rest (numbers_zip count arguments sets below) all)

pub premise_falls : (n : ℕ) (arguments : List ℕ) (sets : List (List ℕ)) (rest premise : List (ℕ × List ℕ)) → premise ≡ added_all n (zip arguments sets) rest → 2 * weight_of weight premise < 2 * (weight_of weight rest + total weight arguments) + 1
premise_falls n arguments sets rest premise made = omega (arith, ap (weight_of weight) made, weight_of-added_all weight n (zip arguments sets) rest, weight_of-zip weight arguments sets)
