-- Faults of one thing after another.
use Rattle.std.proofs.Common.{◌≡◌, Option, None, Result, Ok, Err, refl}
use Rattle.std.specs.Option.{option_or}
use Rattle.std.specs.Result.{IsErrAnd}
use Rattle.lgc_spec.specs.declared.fault.SpecFault.{SpecFault}
use Rattle.lgc_spec.specs.declared.fault.SpecFault.TheVariants.{Fault, Memory}
use Rattle.lgc_spec.specs.Faults.{Passes, Answers}

pub Passes-front : (f : SpecFault) (a b : Option SpecFault) → Passes (Err f) a → Passes (Err f) (option_or a b)
Passes-front Memory a b p = p
Passes-front (Fault number offset kept) a b p = rw p refl

pub Passes-back : (r : Result Unit SpecFault) (a b : Option SpecFault) → a ≡ None → Passes r b → Passes r (option_or a b)
Passes-back r a b none p = rw none p

-- a fault that is handed on
pub handed_on : {X : Type 0} (says : Result X SpecFault → Type 0) (fault : SpecFault) (r : Result X SpecFault) → IsErrAnd r (λ e. e ≡ fault) → Answers says (Err fault) → Answers says r
handed_on says fault (Ok x) same h = absurd same
handed_on says fault (Err f) same h = rw same h
