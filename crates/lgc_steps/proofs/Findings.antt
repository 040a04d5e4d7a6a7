-- What is found, by tests of the parts that are asked.
use Rattle.std.proofs.Common.{Bool, true, false, ⊎_elim, List, [], ◌∷◌, refl}
use mathlib.Core.Logic.{inl, inr}
use Rattle.std.specs.Prelude.{Option, Some, None}
use Rattle.std.specs.Bool.{Decides}
use Rattle.std.proofs.lemmas.Bool.Decides.{not_from_Decides}
use Rattle.lgc_steps.specs.Findings.{Finding, nothing, asks}
use Rattle.lgc_steps.specs.StepTests.{first_failing}

-- what the tests tell is found
pub record Told {T : Type 0} (F : Finding T) (tests : List (T × Bool)) : Type 0 where
  pub is : F (first_failing tests)

part_passes : {T : Type 0} {Part : Type 0} (mark : T) (others : Finding T) → Part → (found : Option T) → others found → asks Part mark others found
part_passes mark others holds None later = (holds, later)
part_passes mark others holds (Some found) later = inr (holds, later)

-- a test of a part, before tests of the others
pub asked : {T : Type 0} {Part : Type 0} {mark : T} {others : Finding T} {tests : List (T × Bool)} (test : Bool) → Decides test Part → Told others tests → Told (asks Part mark others) ((mark, test) ∷ tests)
asked {mark = mark} {others = others} {tests = tests} true decides later = record { is = part_passes mark others (decides.0 refl) (first_failing tests) later.is }
asked false decides later = record { is = inl (not_from_Decides false decides refl, refl) }

pub nothing_asked : {T : Type 0} → Told (nothing {T = T}) []
nothing_asked = record { is = tt }

-- nothing is found where something is
pub record IsApart {T : Type 0} (F : Finding T) : Type 0 where
  pub apart : (found : T) → F (Some found) → F None → ⊥

pub apart_nothing : {T : Type 0} → IsApart (nothing {T = T})
apart_nothing = record { apart = λ found none right. none }

pub apart_asked : {T : Type 0} {Part : Type 0} {mark : T} {others : Finding T} → IsApart others → IsApart (asks Part mark others)
apart_asked later = record { apart = λ found fault right. ⊎_elim (λ fails. fails.0 right.0) (λ behind. later.apart found behind.1 right.1) fault }
