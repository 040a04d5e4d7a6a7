-- The names that quantifiers bind.
use Rattle.std.specs.Prelude.{ℕ, Bool, false, ◌==◌, ◌&&◌, nat_lt, List, [], ◌∷◌, length, Option}
use Rattle.std.specs.List.{position_from, list_all}
use Rattle.std.specs.Str.{bytes_eq}
use Rattle.std.specs.Char.{is_ascii_digit}
use Rattle.lgc_formulas.specs.declared.scope.Scope.{Scope, fold-Scope}
use Rattle.lgc_formulas.specs.declared.scope.Scope.TheOpen.{Scope-F}
use Rattle.lgc_formulas.specs.declared.scope.Scope.TheOpen as scope

abbrev pub names_layer : Scope-F (List (List ℕ)) → List (List ℕ)
names_layer scope.Outermost = []
names_layer (scope.Inside name around) = name.now ∷ around.now

-- the names of a scope, the innermost first
unfoldable pub names_of : Scope → List (List ℕ)
names_of = fold-Scope (List (List ℕ)) names_layer

-- which of the quantifiers around binds a name, where `names` are those that they bind, the innermost first
abbrev pub bound_in : List (List ℕ) → List ℕ → Option ℕ
bound_in names text = position_from (λ name. bytes_eq name text) 0 names

-- "B" and one digit or more, as the variables of quantifiers are written
abbrev pub is_reserved : List ℕ → Bool
is_reserved [] = false
is_reserved (b ∷ digits) = (b == 66) && (nat_lt 0 (length digits) && list_all is_ascii_digit digits)
