-- Empty sets behind others.
use Rattle.std.proofs.Common.{◌≡◌, ℕ, suc, ◌-◌, ◌<◌, List, [], ◌∷◌, ◌++◌, length, replicate, append_assoc, length-append, arith}
use Rattle.lgc_rules.specs.Names.{padded}

-- one more of them changes nothing
pub pad_more : (k : ℕ) (sets : List (List ℕ)) → length sets < k → padded k (sets ++ [] ∷ []) ≡ padded k sets
pad_more k sets short =
    let one : k - length sets ≡ suc (k - length (sets ++ [] ∷ [])) = omega (arith, length-append sets ([] ∷ [])) in
    rw one (append_assoc sets ([] ∷ []) (replicate (k - length (sets ++ [] ∷ [])) []))
