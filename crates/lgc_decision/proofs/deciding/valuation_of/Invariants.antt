-- The atoms so far are listed.
use Rattle.lgc_decision.specs.Atoms.{HasAtomsBelow}
use Rattle.lgc_decision.proofs.deciding.valuation_of.Given as goal

abbrev pub invariant-loop-k : goal.invariant-loop-k
invariant-loop-k l = HasAtomsBelow l.k l.formulas l.values l.valuation
