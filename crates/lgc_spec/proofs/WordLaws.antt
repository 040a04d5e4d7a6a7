-- Steps of the loops over words.
use Rattle.std.proofs.Common.{◌≡◌, ℕ, ◌+◌, ◌<◌, Bool, true, false, cond, List, length, take, get_or, find, Option, Some, None, not, option_map, refl, sym, ap, ◌∙◌}
use Rattle.std.specs.Option.{option_or}
use Rattle.std.proofs.lemmas.List.{take_more, take-append-drop}
use Rattle.std.proofs.lemmas.List.Folds.{find-append}
use Rattle.lgc_parser.specs.declared.tree.Word.{Word}
use Rattle.lgc_spec.specs.Faults.{fault_at}
use Rattle.lgc_spec.specs.declared.fault.SpecFault.{SpecFault}
use Rattle.lgc_spec.specs.Words.{text_of, is_said, is_among, says_again, first_repeat, first_unknown}
use Rattle.lgc_spec.proofs.InOrderLaws.{first_fault_found, first_fault_more}

says_again-is : (number : ℕ) (bytes : List ℕ) (before : List Word) (w : Word) (text : List ℕ) (said again : Bool) → text ≡ text_of bytes w → said ≡ is_said bytes before text → said ≡ again → says_again number bytes before w ≡ cond again (Some (fault_at number w.at)) None
says_again-is number bytes before w text said again e s a =
    let now : is_said bytes before (text_of bytes w) ≡ again = rw (← e) (sym s ∙ a) in rw now refl

pub repeat_found : (number : ℕ) (bytes : List ℕ) (words : List Word) (i : ℕ) (d : Word) (text : List ℕ) (said : Bool) → i < length words → first_repeat number bytes (take i words) ≡ None → text ≡ text_of bytes (get_or words i d) → said ≡ is_said bytes (take i words) text → said ≡ true → first_repeat number bytes words ≡ Some (fault_at number (get_or words i d).at)
repeat_found number bytes words i d text said lt none e s a =
    first_fault_found (says_again number bytes) words i d (fault_at number (get_or words i d).at) lt none (says_again-is number bytes (take i words) (get_or words i d) text said true e s a)

pub repeat_passes : (number : ℕ) (bytes : List ℕ) (words : List Word) (i : ℕ) (d : Word) (text : List ℕ) (said : Bool) → i < length words → first_repeat number bytes (take i words) ≡ None → text ≡ text_of bytes (get_or words i d) → said ≡ is_said bytes (take i words) text → said ≡ false → first_repeat number bytes (take (i + 1) words) ≡ None
repeat_passes number bytes words i d text said lt none e s a =
    let here = says_again-is number bytes (take i words) (get_or words i d) text said false e s a in
    first_fault_more (says_again number bytes) words i d lt ∙ rw (none, here) refl

-- the test of words that name no value
abbrev pub names_none : List ℕ → List (List ℕ) → Word → Bool
names_none bytes names w = not (is_among names (text_of bytes w))

find_more : (test : Word → Bool) (words : List Word) (i : ℕ) (d : Word) → i < length words → find test (take (i + 1) words) ≡ option_or (find test (take i words)) (cond (test (get_or words i d)) (Some (get_or words i d)) None)
find_more test words i d lt = rw (take_more words i d lt) (find-append test (take i words) _)

find_kept : (test : Word → Bool) (words : List Word) (i : ℕ) (w : Word) → find test (take i words) ≡ Some w → find test words ≡ Some w
find_kept test words i w e = sym (ap (find test) (take-append-drop i words)) ∙ find-append test (take i words) _ ∙ rw e refl

map_none : (o : Option Word) (f : Word → SpecFault) → option_map f o ≡ None → o ≡ None
map_none None f e = refl
map_none (Some w) f e = cc

names_none-is : (bytes : List ℕ) (names : List (List ℕ)) (w : Word) (text : List ℕ) (known is : Bool) → text ≡ text_of bytes w → known ≡ is_among names text → known ≡ is → names_none bytes names w ≡ not is
names_none-is bytes names w text known is e s a =
    let now : is_among names (text_of bytes w) ≡ is = rw (← e) (sym s ∙ a) in rw now refl

pub unknown_found : (bytes : List ℕ) (names : List (List ℕ)) (words : List Word) (i : ℕ) (d : Word) (text : List ℕ) (known : Bool) → i < length words → first_unknown bytes names (take i words) ≡ None → text ≡ text_of bytes (get_or words i d) → known ≡ is_among names text → known ≡ false → first_unknown bytes names words ≡ Some (fault_at 9 (get_or words i d).at)
unknown_found bytes names words i d text known lt none e s a =
    let test = names_none bytes names in
    let here = names_none-is bytes names (get_or words i d) text known false e s a in
    let free = map_none (find test (take i words)) (λ w. fault_at 9 w.at) none in
    let found : find test (take (i + 1) words) ≡ Some (get_or words i d) = find_more test words i d lt ∙ rw (free, here) refl in
    ap (option_map (λ w. fault_at 9 w.at)) (find_kept test words (i + 1) (get_or words i d) found)

pub unknown_passes : (bytes : List ℕ) (names : List (List ℕ)) (words : List Word) (i : ℕ) (d : Word) (text : List ℕ) (known : Bool) → i < length words → first_unknown bytes names (take i words) ≡ None → text ≡ text_of bytes (get_or words i d) → known ≡ is_among names text → known ≡ true → first_unknown bytes names (take (i + 1) words) ≡ None
unknown_passes bytes names words i d text known lt none e s a =
    let test = names_none bytes names in
    let here = names_none-is bytes names (get_or words i d) text known true e s a in
    let free = map_none (find test (take i words)) (λ w. fault_at 9 w.at) none in
    let found : find test (take (i + 1) words) ≡ None = find_more test words i d lt ∙ rw (free, here) refl in
    ap (option_map (λ w. fault_at 9 w.at)) found
