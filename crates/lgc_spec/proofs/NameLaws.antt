-- The names of values, one after another.
use Rattle.std.proofs.Common.{◌≡◌, ℕ, ◌+◌, ◌<◌, ◌≤◌, List, [], ◌∷◌, ◌++◌, length, take, get_or, Some, sym, ap, ◌∙◌, arith}
use Rattle.std.specs.Prelude.{slice_get}
use Rattle.std.proofs.lemmas.List.{take_more, take_all, map-append, get_or_read}
use Rattle.std.proofs.lemmas.Option.{get_or_from_slice_get}
use Rattle.lgc_values.specs.Logic.{arguments_at}
use Rattle.lgc_spec.specs.Words.{names_of}
use Rattle.lgc_spec.proofs.Indices.{length-arguments_at}

-- the name of one more argument
pub argument_name_more : (names : List (List ℕ)) (arity index j value : ℕ) (name item : List ℕ) (found : List (List ℕ)) → j < arity → found ≡ names_of names (take j (arguments_at (length names) arity index)) → slice_get (arguments_at (length names) arity index) j ≡ Some value → value < length names → item ≡ get_or names value item → name ≡ item → found ++ name ∷ [] ≡ names_of names (take (j + 1) (arguments_at (length names) arity index))
argument_name_more names arity index j value name item found lt so_far at below is copy =
    let all = arguments_at (length names) arity index in
    let size : length all ≡ arity = length-arguments_at (length names) arity index in
    let within : j < length all = omega arith in
    let here : get_or all j 0 ≡ value = get_or_from_slice_get all j value 0 at in
    let named : name ≡ get_or names value [] = copy ∙ get_or_read names value item below is [] in
    let more : take (j + 1) all ≡ take j all ++ value ∷ [] = take_more all j 0 within ∙ ap (λ v. take j all ++ v ∷ []) here in
    rw (so_far, named, more) (sym (map-append (λ v. get_or names v []) (take j all) (value ∷ [])))

pub argument_names_all : (names : List (List ℕ)) (arity index j : ℕ) (found : List (List ℕ)) → arity ≤ j → found ≡ names_of names (take j (arguments_at (length names) arity index)) → found ≡ names_of names (arguments_at (length names) arity index)
argument_names_all names arity index j found ge e =
    let size : length (arguments_at (length names) arity index) ≡ arity = length-arguments_at (length names) arity index in
    e ∙ ap (names_of names) (take_all j (arguments_at (length names) arity index) (omega arith))
