-- Names of operators.
use Rattle.std.proofs.Common.{◌≡◌, ℕ, ◌<◌, Bool, List, [], ◌∷◌, length, map, ◌||◌, cond, Some, None, false, refl, sym, ap, ◌∙◌, arith}
use Rattle.std.specs.Prelude.{nat_le}
use Rattle.std.specs.Str.{bytes_eq}
use Rattle.std.specs.List.{list_any}
use Rattle.std.proofs.lemmas.List.{length-map}
use Rattle.std.proofs.lemmas.Bool.Decides.{nat_tests}
use Rattle.lgc_values.specs.declared.matrix.Operator.{Operator}
use Rattle.lgc_parser.specs.declared.tree.Word.{Word}
use Rattle.lgc_spec.specs.Faults.{fault_at}
use Rattle.lgc_spec.specs.Words.{text_of, is_among}
use Rattle.lgc_spec.specs.Operators.{name_fault}

pub any_map : {X : Type 0} (text : X → List ℕ) (name : List ℕ) (xs : List X) → is_among (map text xs) name ≡ list_any (λ x. bytes_eq (text x) name) xs
any_map text name [] = refl
any_map text name (x ∷ xs) = ap (λ b. bytes_eq (text x) name || b) (any_map text name xs)

-- a name behind fewer operators than a file may have
pub name_fault-is : (bytes : List ℕ) (operators : List Operator) (w : Word) (text : List ℕ) (any is : Bool) → length operators < 64 → text ≡ text_of bytes w → any ≡ list_any (λ o. bytes_eq o.name text) operators → any ≡ is → name_fault bytes (map (λ o. o.name) operators) w ≡ cond is (Some (fault_at 10 w.at)) None
name_fault-is bytes operators w text any is few e a t =
    let size : length (map (λ o. o.name) operators) ≡ length operators = length-map operators (λ o. o.name) in
    let room : nat_le 64 (length (map (λ o. o.name) operators)) ≡ false = rw size (too_few (length operators) few) in
    let now : is_among (map (λ o. o.name) operators) (text_of bytes w) ≡ is = rw (← e) (any_map (λ o. o.name) text operators ∙ sym a ∙ t) in
    rw (room, now) refl where
      too_few : (n : ℕ) → n < 64 → nat_le 64 n ≡ false
      too_few n lt = grind (arith, nat_tests)
