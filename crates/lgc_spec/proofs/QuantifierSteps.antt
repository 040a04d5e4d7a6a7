-- The names of quantifiers, and the steps of the loop over the statements that write them.
use Rattle.std.proofs.Common.{◌≡◌, ℕ, ◌+◌, ◌<◌, ◌||◌, Bool, false, cond, List, [], ◌∷◌, ◌++◌, length, map, take, drop, get_or, Some, None, Ok, Err, refl, sym, ap, ◌∙◌, arith}
use Rattle.std.specs.Prelude.{filter_map, nat_le}
use Rattle.std.specs.Str.{bytes_eq}
use Rattle.std.specs.List.{list_any}
use Rattle.std.proofs.lemmas.Bool.Decides.{nat_tests}
use Rattle.std.proofs.lemmas.List.{map-append, length-map}
use Rattle.std.proofs.lemmas.List.Folds.{list_any-append}
use Rattle.lgc_values.specs.declared.matrix.Operator.{Operator}
use Rattle.lgc_values.specs.declared.matrix.Quantifier as lgc
use Rattle.lgc_parser.specs.declared.tree.Word.{Word}
use Rattle.lgc_parser.specs.declared.tree.QuantBody.{QuantBody}
use Rattle.lgc_parser.specs.declared.tree.Statement.{Statement}
use Rattle.lgc_parser.specs.declared.tree.Statement.TheVariants as statement
use Rattle.lgc_spec.specs.declared.fault.SpecFault.{SpecFault}
use Rattle.lgc_spec.specs.declared.fault.SpecFault.TheVariants.{Fault, Memory}
use Rattle.lgc_spec.specs.Faults.{fault_at, Answers}
use Rattle.lgc_spec.specs.InOrder.{AllGive}
use Rattle.lgc_spec.specs.Words.{text_of, is_among}
use Rattle.lgc_spec.specs.Orderings.{Ordered}
use Rattle.lgc_spec.specs.Quantifiers.{quantifier_in, symbol_fault, QuantifierGives, QuantifiersGive}
use Rattle.lgc_spec.proofs.InTurnLaws.{AllGive-push, InTurn-stop, found_more, found_all}
use Rattle.lgc_spec.proofs.OperatorLaws.{any_map}

-- a name behind fewer quantifiers than a file may have
pub symbol_fault-is : (bytes : List ℕ) (operators : List Operator) (quantifiers : List lgc.Quantifier) (w : Word) (text : List ℕ) (one other is : Bool) → length quantifiers < 64 → text ≡ text_of bytes w → one ≡ list_any (λ o. bytes_eq o.name text) operators → other ≡ list_any (λ q. bytes_eq q.name text) quantifiers → (one || other) ≡ is
    → symbol_fault bytes (map (λ o. o.name) operators) (map (λ q. q.name) quantifiers) w ≡ cond is (Some (fault_at 10 w.at)) None
symbol_fault-is bytes operators quantifiers w text one other is few e a b t =
    let size : length (map (λ q. q.name) quantifiers) ≡ length quantifiers = length-map quantifiers (λ q. q.name) in
    let room : nat_le 64 (length (map (λ q. q.name) quantifiers)) ≡ false = rw size (too_few (length quantifiers) few) in
    let both : is_among (map (λ o. o.name) operators ++ map (λ q. q.name) quantifiers) text ≡ (one || other) =
    list_any-append (λ name. bytes_eq name text) (map (λ o. o.name) operators) (map (λ q. q.name) quantifiers) ∙ rw (any_map (λ o. o.name) text operators, any_map (λ q. q.name) text quantifiers, ← a, ← b) refl in
    let now : is_among (map (λ o. o.name) operators ++ map (λ q. q.name) quantifiers) (text_of bytes w) ≡ is = rw (← e) (both ∙ t) in
    rw (room, now) refl where
      too_few : (n : ℕ) → n < 64 → nat_le 64 n ≡ false
      too_few n lt = grind (arith, nat_tests)

-- a statement that writes no quantifier
pub no_quantifier : (s : Statement) → ((name : Word) (body : QuantBody) → s ≡ statement.Quantifier name body → ⊥) → quantifier_in s ≡ None
no_quantifier (statement.Logic _ _) none = refl
no_quantifier (statement.Values _ _) none = refl
no_quantifier (statement.Designated _ _) none = refl
no_quantifier (statement.Ordering _ _) none = refl
no_quantifier (statement.Operator _ _ _) none = refl
no_quantifier (statement.Quantifier name body) none = absurd (none name body refl)

module _ (bytes : List ℕ) (statements : List Statement) (i : ℕ) (s : Statement) (name : Word) (body : QuantBody) (quantifiers : List lgc.Quantifier) (lt : i < length statements) (at : s ≡ get_or statements i s) (is : s ≡ statement.Quantifier name body) where
  here : quantifier_in s ≡ Some (name, body)
  here = ap quantifier_in is

  pub named_more : map (λ q. q.name) quantifiers ≡ map (λ q. text_of bytes q.0) (filter_map quantifier_in (take i statements)) → (quantifier : lgc.Quantifier) → quantifier.name ≡ text_of bytes name → map (λ q. q.name) (quantifiers ++ quantifier ∷ []) ≡ map (λ q. text_of bytes q.0) (filter_map quantifier_in (take (i + 1) statements))
  named_more named quantifier says =
      rw (found_more quantifier_in statements i s (name, body) lt at here)
      (map-append (λ q. q.name) quantifiers (quantifier ∷ []) ∙ rw (named, says) (sym (map-append (λ q. text_of bytes q.0) (filter_map quantifier_in (take i statements)) ((name, body) ∷ []))))

  module _ (names : List (List ℕ)) (orderings : List Ordered) (operators : List Operator) (so_far : AllGive (QuantifierGives bytes names orderings operators) (filter_map quantifier_in (take i statements)) quantifiers) where
    pub quantifiers_more : (quantifier : lgc.Quantifier) → QuantifierGives bytes names orderings operators (filter_map quantifier_in (take i statements)) (name, body) (Ok quantifier) → AllGive (QuantifierGives bytes names orderings operators) (filter_map quantifier_in (take (i + 1) statements)) (quantifiers ++ quantifier ∷ [])
    quantifiers_more quantifier gives =
        rw (found_more quantifier_in statements i s (name, body) lt at here)
        (AllGive-push (QuantifierGives bytes names orderings operators) (filter_map quantifier_in (take i statements)) quantifiers (name, body) quantifier so_far gives)

    -- the first quantifier that has a fault
    pub quantifiers_stop : (fault : SpecFault) → Answers (QuantifierGives bytes names orderings operators (filter_map quantifier_in (take i statements)) (name, body)) (Err fault) → Answers (QuantifiersGive bytes names orderings operators statements) (Err fault)
    quantifiers_stop Memory gives = gives
    quantifiers_stop (Fault number offset kept) gives =
        rw (found_all quantifier_in statements i s (name, body) lt at here)
        (InTurn-stop (QuantifierGives bytes names orderings operators) (filter_map quantifier_in (take i statements)) (filter_map quantifier_in (drop (i + 1) statements)) quantifiers (name, body) (Fault number offset kept) so_far gives)
