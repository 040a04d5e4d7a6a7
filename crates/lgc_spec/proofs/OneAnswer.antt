-- At most one answer is right: what this means, and that each step of the order of refusals keeps it.
use Rattle.std.proofs.Common.{◌≡◌, ℕ, ◌+◌, List, length, Result, Ok, Err, refl, sym, ap, subst, ◌∙◌}
use Rattle.lgc_grammar.specs.Grammar.{Grammar}
use Rattle.lgc_grammar.proofs.Exact.{stops_once, stops_in_none}
use Rattle.lgc_lexer.specs.declared.token.Token.{Token}
use Rattle.lgc_tokens.specs.Spelled.{Spelled, spelled_all, place}
use Rattle.lgc_spec.specs.declared.fault.SpecFault.{SpecFault}
use Rattle.lgc_spec.specs.declared.fault.SpecFault.TheVariants.{Fault, Memory}
use Rattle.lgc_spec.specs.declared.fault.TheConstants.{UNEXPECTED}
use Rattle.lgc_spec.specs.Faults.{fault_at, Gives, Follows, Then, Answers}
use Rattle.lgc_spec.specs.Texts.{Parses}

-- at most one answer is right
abbrev pub OneAnswer : {X F : Type 0} → (Result X F → Type 0) → Type 0
OneAnswer {X} {F} says = (r s : Result X F) → says r → says s → r ≡ s

-- the answer of a function of the definition
pub told_once : {X F : Type 0} (answer : Result X F) → OneAnswer (λ told. told ≡ answer)
told_once answer r s h g = h ∙ sym g

-- a fault of the first, and else what is said of its part
pub follows_once : {X Y : Type 0} (first : Result X SpecFault) (says : X → Result Y SpecFault → Type 0) → ((x : X) → first ≡ Ok x → OneAnswer (says x)) → OneAnswer (Follows first says)
follows_once (Ok x) says once = once x refl
follows_once (Err fault) says once = told_once (Err fault)

pub then_once : {X Y : Type 0} (first : Result X SpecFault → Type 0) (says : X → Result Y SpecFault → Type 0) → OneAnswer first → ((x : X) → first (Ok x) → OneAnswer (says x)) → OneAnswer (Then first says)
then_once first says once behind r s (part, h, k) (other, g, l) =
    let same : part ≡ other = once part other h g in
    follows_once other says (λ x is. behind x (subst first is g)) r s (subst (λ t. Follows t says r) same k) l

-- a grammar without two trees of the same tokens
pub parses_once : {A : Type 0} (L : Grammar Spelled A) → ((a b : A) (ts : List Spelled) → L (Ok a) ts → L (Ok b) ts → a ≡ b) → (start : ℕ) (text : List ℕ) (tokens : List Token) → OneAnswer (Parses L start text tokens)
parses_once L one_tree start text tokens (Ok a) (Ok b) h g = let same : a ≡ b = one_tree a b (spelled_all text tokens) h g in cc
parses_once L one_tree start text tokens (Ok a) (Err f) h (rest, stops, is) = absurd (stops_in_none L (spelled_all text tokens) rest stops (a, h))
parses_once L one_tree start text tokens (Err f) (Ok b) (rest, stops, is) g = absurd (stops_in_none L (spelled_all text tokens) rest stops (b, g))
parses_once L one_tree start text tokens (Err f) (Err e) (r, here, f_is) (s, there, e_is) =
    let at : r ≡ s = stops_once L (spelled_all text tokens) r s here there in
    let same : f ≡ e = f_is ∙ ap (λ rest. fault_at UNEXPECTED (start + place (length text) rest)) at ∙ sym e_is in
    cc

-- what is said is answered, where at most one answer is right
pub is_answered : {X : Type 0} (says : Result X SpecFault → Type 0) → OneAnswer says → (result : Result X SpecFault) → Answers says result → (told : Result X SpecFault) → says told → Gives (λ x. x) result told
is_answered says once (Ok x) h told g = once told (Ok x) g h
is_answered says once (Err Memory) h told g = tt
is_answered says once (Err (Fault number offset kept)) h told g = once told (Err (Fault number offset kept)) g h
