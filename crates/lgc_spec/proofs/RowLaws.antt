-- The faults of a row that don't depend on the rows before it.
use Rattle.std.proofs.Common.{◌≡◌, ℕ, List, [], ◌∷◌, ◌++◌, length, find, Option, Some, None, not, Result, Err, option_map, refl, sym, eq-eqb, subst, Bool}
use Rattle.std.specs.Option.{option_or}
use Rattle.std.proofs.lemmas.List.Folds.{find-append}
use Rattle.lgc_parser.specs.declared.tree.Word.{Word}
use Rattle.lgc_parser.specs.declared.tree.Row.{Row}
use Rattle.lgc_spec.specs.declared.fault.SpecFault.{SpecFault}
use Rattle.lgc_spec.specs.Faults.{fault_at, Passes}
use Rattle.lgc_spec.specs.Words.{text_of, is_among, first_unknown}
use Rattle.lgc_spec.specs.Rows.{width_fault}
use Rattle.lgc_spec.proofs.FaultLaws.{Passes-front, Passes-back}

pub first_unknown-append : (bytes : List ℕ) (names : List (List ℕ)) (xs ys : List Word) → first_unknown bytes names (xs ++ ys) ≡ option_or (first_unknown bytes names xs) (first_unknown bytes names ys)
first_unknown-append bytes names xs ys =
    let test : Word → Bool = λ w. not (is_among names (text_of bytes w)) in
    rw (find-append test xs ys) (mapped (find test xs) (find test ys)) where
      mapped : (a b : Option Word) → option_map (λ w. fault_at 9 w.at) (option_or a b) ≡ option_or (option_map (λ w. fault_at 9 w.at) a) (option_map (λ w. fault_at 9 w.at) b)
      mapped None b = refl
      mapped (Some w) b = refl

width_fault-is : (bytes : List ℕ) (names : List (List ℕ)) (arity : ℕ) (row : Row) → length row.arguments ≡ arity → width_fault bytes names arity row ≡ option_or (first_unknown bytes names row.arguments) (first_unknown bytes names (row.value ∷ []))
width_fault-is bytes names arity row size = rw (eq-eqb (length row.arguments) arity size) (first_unknown-append bytes names row.arguments (row.value ∷ []))

pub unknown_argument : (bytes : List ℕ) (names : List (List ℕ)) (arity : ℕ) (row : Row) (f : SpecFault) → length row.arguments ≡ arity → Passes (Err f) (first_unknown bytes names row.arguments) → Passes (Err f) (width_fault bytes names arity row)
unknown_argument bytes names arity row f size p =
    let P : Option SpecFault → Type 0 = λ o. Passes (Err f) o in
    subst P (sym (width_fault-is bytes names arity row size)) (Passes-front f (first_unknown bytes names row.arguments) (first_unknown bytes names (row.value ∷ [])) p)

pub unknown_result : (bytes : List ℕ) (names : List (List ℕ)) (arity : ℕ) (row : Row) (r : Result Unit SpecFault) → length row.arguments ≡ arity → first_unknown bytes names row.arguments ≡ None → Passes r (first_unknown bytes names (row.value ∷ [])) → Passes r (width_fault bytes names arity row)
unknown_result bytes names arity row r size none p =
    let P : Option SpecFault → Type 0 = λ o. Passes r o in
    subst P (sym (width_fault-is bytes names arity row size)) (Passes-back r (first_unknown bytes names row.arguments) (first_unknown bytes names (row.value ∷ [])) none p)
