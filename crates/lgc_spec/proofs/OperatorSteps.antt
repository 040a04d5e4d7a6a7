-- The steps of the loop over the statements that write operators.
use Rattle.std.proofs.Common.{◌≡◌, ℕ, ◌+◌, ◌<◌, List, [], ◌∷◌, ◌++◌, length, map, take, drop, get_or, Some, None, Ok, Err, refl, sym, ap, ◌∙◌}
use Rattle.std.specs.Prelude.{filter_map}
use Rattle.std.proofs.lemmas.List.{map-append}
use Rattle.lgc_values.specs.declared.matrix.Operator as lgc
use Rattle.lgc_parser.specs.declared.tree.Word.{Word}
use Rattle.lgc_parser.specs.declared.tree.OpBody.{OpBody}
use Rattle.lgc_parser.specs.declared.tree.Statement.{Statement}
use Rattle.lgc_parser.specs.declared.tree.Statement.TheVariants.{Logic, Values, Designated, Ordering, Operator, Quantifier}
use Rattle.lgc_spec.specs.declared.fault.SpecFault.{SpecFault}
use Rattle.lgc_spec.specs.declared.fault.SpecFault.TheVariants.{Fault, Memory}
use Rattle.lgc_spec.specs.Faults.{Answers}
use Rattle.lgc_spec.specs.InOrder.{AllGive}
use Rattle.lgc_spec.specs.Words.{text_of}
use Rattle.lgc_spec.specs.Orderings.{Ordered}
use Rattle.lgc_spec.specs.Operators.{operator_in, OperatorGives, OperatorsGive}
use Rattle.lgc_spec.proofs.InTurnLaws.{AllGive-push, InTurn-stop, found_more, found_all}

-- a statement that writes no operator
pub no_operator : (s : Statement) → ((name arity : Word) (body : OpBody) → s ≡ Operator name arity body → ⊥) → operator_in s ≡ None
no_operator (Logic _ _) none = refl
no_operator (Values _ _) none = refl
no_operator (Designated _ _) none = refl
no_operator (Ordering _ _) none = refl
no_operator (Operator name arity body) none = absurd (none name arity body refl)
no_operator (Quantifier _ _) none = refl

module _ (bytes : List ℕ) (statements : List Statement) (i : ℕ) (statement : Statement) (name arity : Word) (body : OpBody) (operators : List lgc.Operator) (lt : i < length statements) (at : statement ≡ get_or statements i statement) (is : statement ≡ Operator name arity body) (named : map (λ o. o.name) operators ≡ map (λ o. text_of bytes o.0) (filter_map operator_in (take i statements))) where
  here : operator_in statement ≡ Some (name, arity, body)
  here = ap operator_in is

  pub named_more : (operator : lgc.Operator) → operator.name ≡ text_of bytes name → map (λ o. o.name) (operators ++ operator ∷ []) ≡ map (λ o. text_of bytes o.0) (filter_map operator_in (take (i + 1) statements))
  named_more operator says =
      rw (found_more operator_in statements i statement (name, arity, body) lt at here)
      (map-append (λ o. o.name) operators (operator ∷ []) ∙ rw (named, says) (sym (map-append (λ o. text_of bytes o.0) (filter_map operator_in (take i statements)) ((name, arity, body) ∷ []))))

  pub operators_more : (names : List (List ℕ)) (orderings : List Ordered) (operator : lgc.Operator) → AllGive (OperatorGives bytes names orderings) (filter_map operator_in (take i statements)) operators → OperatorGives bytes names orderings (filter_map operator_in (take i statements)) (name, arity, body) (Ok operator) → AllGive (OperatorGives bytes names orderings) (filter_map operator_in (take (i + 1) statements)) (operators ++ operator ∷ [])
  operators_more names orderings operator so_far gives =
      rw (found_more operator_in statements i statement (name, arity, body) lt at here)
      (AllGive-push (OperatorGives bytes names orderings) (filter_map operator_in (take i statements)) operators (name, arity, body) operator so_far gives)

  -- the first operator that has a fault
  pub operators_stop : (names : List (List ℕ)) (orderings : List Ordered) (fault : SpecFault) → AllGive (OperatorGives bytes names orderings) (filter_map operator_in (take i statements)) operators → Answers (OperatorGives bytes names orderings (filter_map operator_in (take i statements)) (name, arity, body)) (Err fault) → Answers (OperatorsGive bytes names orderings statements) (Err fault)
  operators_stop names orderings Memory so_far gives = gives
  operators_stop names orderings (Fault number offset kept) so_far gives =
      rw (found_all operator_in statements i statement (name, arity, body) lt at here)
      (InTurn-stop (OperatorGives bytes names orderings) (filter_map operator_in (take i statements)) (filter_map operator_in (drop (i + 1) statements)) operators (name, arity, body) (Fault number offset kept) so_far gives)
