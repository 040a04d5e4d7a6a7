-- Reasons of lines that a search makes.
use Rattle.lgc_sequents.specs.declared.line.Reason.{Reason}
use Rattle.lgc_sequents.specs.declared.line.Reason.TheVariants.{Axiom, Pending, ByRule, Resolve}

-- a reason is that of an axiom, or by a rule
abbrev pub IsPlainReason : Reason → Type 0
IsPlainReason Axiom = Unit {0}
IsPlainReason Pending = ⊥
IsPlainReason (ByRule rule principal premises) = Unit {0}
IsPlainReason (Resolve f left right) = ⊥
